-- The weighted intervals of the terms, added one after another, hold the sums of one number of each.
use Rattle.std.proofs.Common.{◌≡◌, ℕ, ◌+◌, ◌*◌, ◌<◌, ◌^◌, pos, List, [], ◌∷◌, map, sym, ap, subst, arith}
use Rattle.std.specs.Prelude.{◌↔◌}
use Rattle.xc_bind.specs.declared.types.Binding.{Binding}
use Rattle.xc_bind.specs.declared.types.Term.{Term}
use Rattle.xc_interval.specs.Arithmetic.{IsSumOfNumbers}
use Rattle.xc_interval.specs.Intervals.{numbers_of, HasNumber}
use Rattle.xc_interval.specs.Laws.{HaveScales, ScalesGrow}
use Rattle.xc_interval.specs.declared.interval.Interval.{Interval}
use Rattle.xc_interval.specs.declared.range.Range.{Range}
use Rattle.xc_interval.specs.declared.range.Range.TheVariants as range
use Rattle.xc_model.specs.Fraction.{Fraction, SameNumber, whole, sum_of}
use Rattle.xc_model.specs.Ratio.{Ratio}
use Rattle.xc_model.proofs.Arithmetic.{sum-assoc, sum-comm, sum-zero}
use Rattle.xc_model.proofs.Numbers.{same-refl, same-sym, same-trans, same-sum}
use Rattle.xc_points.specs.declared.types.Point.{Point}
use Rattle.xc_verdict.specs.Ranges.{point_of, range_at, EachHas}
use Rattle.xc_verdict.specs.Steps.Sums.{IsSomeInterval, AllAreMet, Has, IsWeighted, IsSumWith, IsTermOf, IsSumOf, Holds, AreCounted, HasRoomFor, HasRoomTimes, IsCountedTimes}
use Rattle.xc_bind.specs.Equation.{most_places}
use Rattle.xc_interval.specs.Scales.{AreOnScale, greatest}
use Rattle.xc_verdict.specs.Widths.{weight_size, terms_size, IsNarrowBinding}
use Rattle.xc_verdict.proofs.LeastScale.{least_positive}
use Rattle.xc_verdict.proofs.Values.{has_same, sum_same, AreWithin, within_most, scaled_positive}

-- ---- numbers

-- the interval and a sum of what is left give a sum of all
abbrev pub Gives : List Point → List Term → List Term → Interval Ratio → Type 0
Gives points terms rest sum = (x : Fraction) → IsSumWith (HasNumber (numbers_of sum)) (λ y. IsSumOf points rest y) x ↔ IsSumOf points terms x

zero_plus : (z y x : Fraction) → SameNumber z (whole (pos 0)) → SameNumber (sum_of z y) x → SameNumber y x
zero_plus z y x is adds =
    let none : SameNumber (sum_of z y) y = same-trans (sum_of z y) (sum_of (whole (pos 0)) y) y (same-sum z y (whole (pos 0)) y is (same-refl y))
    (same-trans (sum_of (whole (pos 0)) y) (sum_of y (whole (pos 0))) y (sum-comm (whole (pos 0)) y) (sum-zero y)) in
    same-trans y (sum_of z y) x (same-sym (sum_of z y) y none) adds

plus_zero : (y z x : Fraction) → SameNumber z (whole (pos 0)) → SameNumber (sum_of y z) x → SameNumber y x
plus_zero y z x is adds = zero_plus z y x is (same-trans (sum_of z y) (sum_of y z) x (sum-comm z y) adds)

module _ (points : List Point) where
  gives_none : (terms : List Term) (sum : Interval Ratio) → Holds sum (λ x. SameNumber x (whole (pos 0))) → Gives points terms terms sum
  gives_none terms sum held = λ x. (
    λ both. sum_same points terms both.other x (zero_plus both.one both.other x ((held both.one).0 both.has_one) both.adds) both.has_other,
    λ all. record { one = whole (pos 0); other = x; has_one = (held (whole (pos 0))).1 (same-refl (whole (pos 0))); has_other = all; adds = same-trans (sum_of (whole (pos 0)) x) (sum_of x (whole (pos 0))) x (sum-comm (whole (pos 0)) x) (sum-zero x) },
  )

  gives_all : (terms : List Term) (sum : Interval Ratio) → Gives points terms [] sum → Holds sum (IsSumOf points terms)
  gives_all terms sum gives = λ x. (
    λ has. (gives x).0 (record { one = x; other = whole (pos 0); has_one = has; has_other = same-refl (whole (pos 0)); adds = sum-zero x }),
    λ is. let both = (gives x).1 is in has_same (numbers_of sum) both.one x (plus_zero both.one both.other x both.has_other both.adds) both.has_one,
  )

  module _ (terms : List Term) (term : Term) (rest : List Term) (sum it more : Interval Ratio) (held : Holds it (λ y. IsTermOf points term y))
      (sums : (x : Fraction) → HasNumber (numbers_of more) x ↔ IsSumOfNumbers (numbers_of sum) (numbers_of it) x) where
    -- with the next term added, or left for later
    to_later : (x : Fraction) → IsSumWith (HasNumber (numbers_of more)) (λ y. IsSumOf points rest y) x → IsSumWith (HasNumber (numbers_of sum)) (λ y. IsSumOf points (term ∷ rest) y) x
    to_later x both =
        let parts = (sums both.one).0 both.has_one in
        let later : Fraction = sum_of parts.right both.other in
        let all : Fraction = sum_of (sum_of parts.left parts.right) both.other in
        record {
          one = parts.left;
          other = later;
          has_one = parts.in_left;
          has_other = record { one = parts.right; other = both.other; has_one = (held parts.right).0 parts.in_right; has_other = both.has_other; adds = same-refl later };
          adds = same-trans (sum_of parts.left later) all x (same-sym all (sum_of parts.left later) (sum-assoc parts.left parts.right both.other))
              (same-trans all (sum_of both.one both.other) x (same-sum (sum_of parts.left parts.right) both.other both.one both.other parts.adds (same-refl both.other)) both.adds);
        }

    to_sooner : (x : Fraction) → IsSumWith (HasNumber (numbers_of sum)) (λ y. IsSumOf points (term ∷ rest) y) x → IsSumWith (HasNumber (numbers_of more)) (λ y. IsSumOf points rest y) x
    to_sooner x both =
        let later = both.has_other in
        let sooner : Fraction = sum_of both.one later.one in
        let all : Fraction = sum_of both.one (sum_of later.one later.other) in
        record {
          one = sooner;
          other = later.other;
          has_one = (sums sooner).1 (record { left = both.one; right = later.one; in_left = both.has_one; in_right = (held later.one).1 later.has_one; adds = same-refl sooner });
          has_other = later.has_other;
          adds = same-trans (sum_of sooner later.other) all x (sum-assoc both.one later.one later.other)
              (same-trans all (sum_of both.one both.other) x (same-sum both.one (sum_of later.one later.other) both.one both.other (same-refl both.one) later.adds) both.adds);
        }

    gives_more : Gives points terms (term ∷ rest) sum → Gives points terms rest more
    gives_more gives = λ x. (λ both. (gives x).0 (to_later x both), λ is. to_sooner x ((gives x).1 is))

-- what an interval holds, by the range that it is
holds_range : (r : Range) (term : Term) (i it : Interval Ratio) → r ≡ range.Meets i → Holds it (IsWeighted term.weight (HasNumber (numbers_of i))) → Holds it (IsWeighted term.weight (λ y. Has r y))
holds_range r term i it is held = subst (λ (s : Range). Holds it (IsWeighted term.weight (λ y. Has s y))) (sym is) held

-- ---- the sum of the first terms

module _ (some : HaveScales) (grow : ScalesGrow) (points : List Point) (binding : Binding) (narrow : IsNarrowBinding points binding) where
  abbrev scale : ℕ
  scale = narrow.scale

  abbrev places : ℕ
  places = most_places binding.terms

  abbrev unit : ℕ
  unit = scale * 10 ^ places

  scale_positive : 0 < scale
  scale_positive = least_positive some grow points binding scale narrow.least

  unit_fits : unit < 2 ^ 127
  unit_fits = omega (arith, narrow.fits)

  terms_fit : terms_size points places scale binding.terms < 2 ^ 127
  terms_fit = omega (arith, narrow.fits)

  -- the ends of what is added so far are counted, and there is room for what is left
  pub record Counts (rest : List Term) (sum : Interval Ratio) : Type 0 where
    pub most : ℕ
    pub counted : AreCounted unit most sum
    pub room : most + terms_size points places scale rest < 2 ^ 127
    pub on_scale : EachHas (λ k. AreOnScale scale (range_at points k)) (map point_of rest)
    pub within : AreWithin places rest

  counts_none : (sum : Interval Ratio) → ((u : ℕ) → 0 < u → AreCounted u 0 sum) → Counts binding.terms sum
  counts_none sum counted = record {
    most = 0;
    counted = counted unit (scaled_positive scale places scale_positive);
    room = omega (arith, terms_fit);
    on_scale = narrow.least.common.1;
    within = within_most binding.terms;
  }

  module _ (term : Term) (rest : List Term) (sum i : Interval Ratio) (counts : Counts (term ∷ rest) sum) (is : range_at points term.point ≡ range.Meets i) where
    abbrev size : ℕ
    size = weight_size places term.weight * greatest scale (range.Meets i)

    size_is : weight_size places term.weight * greatest scale (range_at points term.point) ≡ size
    size_is = ap (λ r. weight_size places term.weight * greatest scale r) is

    on : AreOnScale scale (range.Meets i)
    on = subst (λ (r : Range). AreOnScale scale r) is counts.on_scale.0

    pub room_times : HasRoomTimes i term.weight
    room_times = record {
      scale = scale;
      places = places;
      positive = scale_positive;
      on_scale = on;
      within = counts.within.0;
      unit_fits = unit_fits;
      fits = omega (arith, counts.room, size_is);
    }

    module _ (it : Interval Ratio) (times : IsCountedTimes i term.weight it) where
      it_counted : AreCounted unit size it
      it_counted = times scale places scale_positive on counts.within.0

      pub room_for : HasRoomFor sum it
      room_for = record {
        unit = unit;
        first = counts.most;
        second = size;
        unit_fits = unit_fits;
        fits = omega (arith, counts.room, size_is);
        one_counted = counts.counted;
        other_counted = it_counted;
      }

      counts_more : (more : Interval Ratio) → ((u n m : ℕ) → AreCounted u n sum → AreCounted u m it → AreCounted u (n + m) more) → Counts rest more
      counts_more more counted = record {
        most = counts.most + size;
        counted = counted unit counts.most size counts.counted it_counted;
        room = omega (arith, counts.room, size_is);
        on_scale = counts.on_scale.1;
        within = counts.within.1;
      }

-- the terms that are left are met, something lies in the sum so far, which with a sum of what is left gives the sums of all, and
-- there is room
pub record Summed (points : List Point) (binding : Binding) (rest : List Term) (sum : Interval Ratio) : Type 0 where
  pub met : AllAreMet points (map point_of rest)
  pub some : IsSomeInterval sum
  pub gives : Gives points binding.terms rest sum
  pub counts : (have : HaveScales) (grow : ScalesGrow) (narrow : IsNarrowBinding points binding) → Counts have grow points binding narrow rest sum

module _ (points : List Point) (binding : Binding) where
  pub summed_none : (sum : Interval Ratio) → AllAreMet points (map point_of binding.terms) → IsSomeInterval sum → Holds sum (λ x. SameNumber x (whole (pos 0)))
      → ((u : ℕ) → 0 < u → AreCounted u 0 sum) → Summed points binding binding.terms sum
  summed_none sum met some held counted = record { met = met; some = some; gives = gives_none points binding.terms sum held; counts = λ have grow narrow. counts_none have grow points binding narrow sum counted }

  pub summed_all : (sum : Interval Ratio) → Summed points binding [] sum → Holds sum (IsSumOf points binding.terms)
  summed_all sum summed = gives_all points binding.terms sum summed.gives

  pub summed_more : (term : Term) (rest : List Term) (sum i it more : Interval Ratio) → Summed points binding (term ∷ rest) sum → range_at points term.point ≡ range.Meets i
      → Holds it (IsWeighted term.weight (HasNumber (numbers_of i))) → IsCountedTimes i term.weight it
      → ((x : Fraction) → HasNumber (numbers_of more) x ↔ IsSumOfNumbers (numbers_of sum) (numbers_of it) x)
      → ((u n m : ℕ) → AreCounted u n sum → AreCounted u m it → AreCounted u (n + m) more) → IsSomeInterval more → Summed points binding rest more
  summed_more term rest sum i it more summed is held times sums counted some = record {
    met = summed.met.1;
    some = some;
    gives = gives_more points binding.terms term rest sum it more (holds_range (range_at points term.point) term i it is held) sums summed.gives;
    counts = λ have grow narrow. counts_more have grow points binding narrow term rest sum i (summed.counts have grow narrow) is it times more counted;
  }
