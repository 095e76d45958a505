-- The definitions on worked bindings.
use Rattle.std.proofs.Common.{◌≡◌, ℕ, ◌<◌, ℤ, pos, negsuc, ◌*ℤ◌, [], ◌∷◌, List, Some, refl, arith, lit<, lit≤}
use Rattle.std.specs.Prelude.{codes}
use Rattle.std.proofs.lemmas.Int.{ints}
use Rattle.xc_bind.specs.declared.types.Binding.{Binding}
use Rattle.xc_decimal.specs.Shortest.{Shortest, IsShortest}
use Rattle.xc_interval.specs.declared.ends.End.TheVariants.{Closed}
use Rattle.xc_interval.specs.declared.mode.Mode.TheVariants.{Rounding}
use Rattle.xc_interval.specs.declared.range.Range.TheVariants as range
use Rattle.xc_model.specs.Ratio.{IsLowest}
use Rattle.xc_names.specs.declared.expanded.NameId.{NameId}
use Rattle.xc_points.specs.declared.types.Point.{Point}
use Rattle.xc_report.specs.declared.reports.Fact.{Fact}
use Rattle.xc_report.specs.declared.reports.Reading.TheVariants as read
use Rattle.xc_bind.specs.Equation.{weighted_sum}
use Rattle.xc_verdict.specs.Verdicts.{AdmitsAt, Agrees}
use Rattle.xc_bind.specs.Equation.{most_places}
use Rattle.xc_verdict.specs.Widths.{width}

module _ (name : NameId) (one : IsShortest (pos 1) 0) (minus : IsShortest (negsuc 0) 0) (tenth : IsShortest (pos 1) 1) (fifty : IsShortest (pos 50) 0)
    (half : IsLowest (pos 1) (pos 2)) (three_halves : IsLowest (pos 3) (pos 2)) (low : IsLowest (pos 99) (pos 2)) (high : IsLowest (pos 101) (pos 2)) where
  abbrev weight_one : Shortest
  weight_one = record { digits = pos 1; places = 0; shortest = one }

  abbrev weight_minus : Shortest
  weight_minus = record { digits = negsuc 0; places = 0; shortest = minus }

  abbrev weight_tenth : Shortest
  weight_tenth = record { digits = pos 1; places = 1; shortest = tenth }

  -- A is 50 and T is 1, each to the unit and rounded
  abbrev facts : List Fact
  facts = record { id = codes "a"; concept = name; key = 0; value = read.Number (record { digits = pos 50; places = 0; shortest = fifty }); decimals = Some (pos 0) }
      ∷ record { id = codes "t"; concept = name; key = 0; value = read.Number weight_one; decimals = Some (pos 0) } ∷ []

  abbrev points : List Point
  points = record { concept = name; key = 0; facts = 0 ∷ []; range = range.Meets (record { low = Closed (record { num = pos 99; den = pos 2; lowest = low }); high = Closed (record { num = pos 101; den = pos 2; lowest = high }) }) }
      ∷ record { concept = name; key = 0; facts = 1 ∷ []; range = range.Meets (record { low = Closed (record { num = pos 1; den = pos 2; lowest = half }); high = Closed (record { num = pos 3; den = pos 2; lowest = three_halves }) }) } ∷ []

  -- T = A - A
  abbrev twice : Binding
  twice = record { network = 0; total = 1; terms = record { point = 0; weight = weight_one } ∷ record { point = 0; weight = weight_minus } ∷ [] }

  -- consistent, with 50 for the one A, 99/2 for the other and 1/2 for T
  two_values : Agrees Rounding facts points twice
  two_values = record {
    over = 2;
    positive = lit< tt;
    total = pos 1;
    values = pos 100 ∷ pos 99 ∷ [];
    total_admits = (lit≤ tt, tt);
    terms_admit = ((lit≤ tt, tt), ((lit≤ tt, tt), tt));
    adds = refl;
  }

  -- which no single value of A would be
  one_value : (v t : ℤ) (q : ℕ) → 0 < q → AdmitsAt Rounding facts points 1 t q → pos 1 *ℤ t ≡ weighted_sum 0 twice.terms (v ∷ v ∷ []) → ⊥
  one_value v t q some admits adds = omega (arith, ints, some, admits.0, adds)

  -- T = A / 10 - A
  abbrev tenths : Binding
  tenths = record { network = 0; total = 1; terms = record { point = 0; weight = weight_tenth } ∷ record { point = 0; weight = weight_minus } ∷ [] }

  -- the weight 0.1 has the most places
  places_are : most_places tenths.terms ≡ 1
  places_are = refl

  -- ten times 30 / 10 - 5
  sum_is : weighted_sum 1 tenths.terms (pos 30 ∷ pos 5 ∷ []) ≡ negsuc 19
  sum_is = refl

  -- 2 * 10 * (1 + 3/2 + 101/20 + 101/2)
  width_is : width points tenths 2 ≡ 1161
  width_is = refl
