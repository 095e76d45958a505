-- From what is found by the ranges to the verdict by the facts.
use Rattle.std.proofs.Common.{◌≡◌, ℕ, ℤ, pos, ◌<◌, length, List, [], ◌∷◌, Option, Some, None, inl, inr}
use Rattle.std.specs.Prelude.{◌↔◌, IsSomeAnd, map, slice_get}
use Rattle.xc_bind.specs.declared.types.Binding.{Binding}
use Rattle.xc_bind.specs.declared.types.Term.{Term}
use Rattle.xc_bind.specs.declared.types.Verdict.{Verdict}
use Rattle.xc_bind.specs.declared.types.Verdict.TheVariants.{Consistent, Inconsistent, Unjudged, TooWide}
use Rattle.xc_interval.specs.Intervals.{frac_parts, numbers_of, pairs_of, HasNumber, HasNoNumber, HasNoPair}
use Rattle.xc_interval.specs.Laws.{EndsTell}
use Rattle.xc_interval.specs.declared.ends.End.{End}
use Rattle.xc_interval.specs.declared.ends.End.TheVariants.{Closed, Open}
use Rattle.xc_interval.specs.declared.interval.Interval.{Interval}
use Rattle.xc_interval.specs.declared.mode.Mode.{Mode}
use Rattle.xc_interval.specs.declared.range.Range.{Range}
use Rattle.xc_interval.specs.declared.range.Range.TheVariants as range
use Rattle.xc_model.specs.Fraction.{Fraction, SameNumber, IsBelow, whole}
use Rattle.xc_model.specs.Ratio.{Ratio}
use Rattle.xc_model.proofs.Numbers.{same-refl}
use Rattle.xc_model.proofs.Over.{ratio}
use Rattle.xc_points.specs.Facts.{PointAdmits, IsWidePoint, IsEmptyPoint}
use Rattle.xc_points.specs.Gathered.{IsRange}
use Rattle.xc_points.specs.declared.types.Point.{Point}
use Rattle.xc_report.specs.declared.reports.Fact.{Fact}
use Rattle.xc_verdict.specs.Ranges.{named_points, point_of, range_at, EachHas}
use Rattle.xc_verdict.specs.Steps.Sums.{IsWideRange, IsEmptyRange, IsMetRange, IsSomeInterval, Has, IsShared, IsFound, AllAreMet}
use Rattle.xc_verdict.specs.Verdicts.{AdmitsAt, TermsAdmit, HasWide, HasEmpty, Agrees, CanBeJudged, IsVerdict}
use Rattle.xc_verdict.specs.Widths.{IsNarrowBinding}
use Rattle.xc_verdict.proofs.Facts.{some_of_some, none_of_each, is_there, wide_if, if_wide, if_empty, admits_if}
use Rattle.xc_verdict.proofs.Values.{Adds, TermsHave, shared_of_added, added_of_shared}

-- ---- a range that meets has a number

-- ends that leave no number leave no pair
no_pair : (l h : End Ratio) → HasNoNumber (numbers_of (record { low = l; high = h })) → HasNoPair (pairs_of frac_parts (record { low = l; high = h }))
no_pair (Closed l) (Closed h) (inl below) = inl (inl below)
no_pair (Closed l) (Closed h) (inr same) = inr (record { real = same.0; tiny = same-refl (whole (pos 0)) }, same.1)
no_pair (Closed l) (Open h) (inl below) = inl (inl below)
no_pair (Closed l) (Open h) (inr same) = inr (record { real = same.0; tiny = same-refl (whole (pos 0)) }, same.1)
no_pair (Open l) (Closed h) (inl below) = inl (inl below)
no_pair (Open l) (Closed h) (inr same) = inr (record { real = same.0; tiny = same-refl (whole (pos 0)) }, same.1)
no_pair (Open l) (Open h) (inl below) = inl (inl below)
no_pair (Open l) (Open h) (inr same) = inr (record { real = same.0; tiny = same-refl (whole (pos 0)) }, same.1)

pub some_number : EndsTell IsBelow SameNumber → (i : Interval Ratio) → IsSomeInterval i → (x : Fraction) × HasNumber (numbers_of i) x
some_number tell i some = (tell (numbers_of i)).1 (λ none. some (no_pair i.low i.high none))

range_number : EndsTell IsBelow SameNumber → (r : Range) → IsMetRange r → (x : Fraction) × Has r x
range_number tell range.Wide met = absurd met
range_number tell range.Empty met = absurd met
range_number tell (range.Meets i) met = some_number tell i met

met_not_wide : (r : Range) → IsMetRange r → IsWideRange r → ⊥
met_not_wide range.Wide met wide = met
met_not_wide range.Empty met wide = met
met_not_wide (range.Meets i) met wide = cc

-- ---- verdicts

module _ (tell : EndsTell IsBelow SameNumber) (mode : Mode) (facts : List Fact) (points : List Point)
    (are : (k : ℕ) (point : Point) → slice_get points k ≡ Some point → IsRange mode facts point point.range)
    (binding : Binding) (there : EachHas (λ k. k < length points) (named_points binding)) where
  abbrev PointIsWide : ℕ → Type 0
  PointIsWide k = IsSomeAnd (slice_get points k) (λ point. IsWidePoint mode facts point)

  abbrev PointIsEmpty : ℕ → Type 0
  PointIsEmpty k = IsSomeAnd (slice_get points k) (λ point. IsEmptyPoint mode facts point)

  wide_of_range : (k : ℕ) → k < length points → IsWideRange (range_at points k) → PointIsWide k
  wide_of_range k inside wide = let p = is_there points k inside in if_wide mode facts (slice_get points k) p.0 p.1 (are k) wide

  empty_of_range : (k : ℕ) → k < length points → IsEmptyRange (range_at points k) → PointIsEmpty k
  empty_of_range k inside empty = if_empty mode facts (slice_get points k) (are k) empty

  range_of_wide : (k : ℕ) → k < length points → PointIsWide k → IsWideRange (range_at points k)
  range_of_wide k inside wide = wide_if mode facts (slice_get points k) (are k) wide

  number_admits : (k : ℕ) → IsMetRange (range_at points k) → (x : Fraction) → AdmitsAt mode facts points k x.num x.den ↔ Has (range_at points k) x
  number_admits k met x = admits_if mode facts (slice_get points k) (are k) met x

  not_empty : (o : Option Point) (x : Fraction) → IsSomeAnd o (λ point. IsEmptyPoint mode facts point) → IsSomeAnd o (λ point. PointAdmits mode facts point x.num x.den) → ⊥
  not_empty None x empty admits = empty
  not_empty (Some point) x empty admits = empty x.num x.den x.positive admits

  met_not_wide_point : (k : ℕ) → IsMetRange (range_at points k) → PointIsWide k → ⊥
  met_not_wide_point k met wide = met_not_wide (range_at points k) met (wide_if mode facts (slice_get points k) (are k) wide)

  met_not_empty_point : (k : ℕ) → IsMetRange (range_at points k) → PointIsEmpty k → ⊥
  met_not_empty_point k met empty =
      let found = range_number tell (range_at points k) met in
      not_empty (slice_get points k) found.0 empty ((number_admits k met found.0).1 found.1)

  none_wide : AllAreMet points (named_points binding) → ¬ HasWide mode facts points binding
  none_wide met some = none_of_each PointIsWide (λ k. IsMetRange (range_at points k)) met_not_wide_point (named_points binding) met some

  none_empty : AllAreMet points (named_points binding) → ¬ HasEmpty mode facts points binding
  none_empty met some = none_of_each PointIsEmpty (λ k. IsMetRange (range_at points k)) met_not_empty_point (named_points binding) met some

  judged : AllAreMet points (named_points binding) → IsNarrowBinding points binding → CanBeJudged mode facts points binding
  judged met narrow = record { none_wide = none_wide met; none_empty = none_empty met; narrow = narrow }

  -- values by the facts and by the ranges

  terms_have : (q : ℕ) (p : 0 < q) (terms : List Term) (values : List ℤ) → AllAreMet points (map point_of terms) → TermsAdmit mode facts points terms values q → TermsHave points q p terms values
  terms_have q p [] [] met admit = tt
  terms_have q p [] (v ∷ values) met admit = absurd admit
  terms_have q p (term ∷ terms) [] met admit = absurd admit
  terms_have q p (term ∷ terms) (v ∷ values) met admit = ((number_admits term.point met.0 (ratio v q p)).0 admit.0, terms_have q p terms values met.1 admit.1)

  terms_admit : (q : ℕ) (p : 0 < q) (terms : List Term) (values : List ℤ) → AllAreMet points (map point_of terms) → TermsHave points q p terms values → TermsAdmit mode facts points terms values q
  terms_admit q p [] [] met have = tt
  terms_admit q p [] (v ∷ values) met have = absurd have
  terms_admit q p (term ∷ terms) [] met have = absurd have
  terms_admit q p (term ∷ terms) (v ∷ values) met have = ((number_admits term.point met.0 (ratio v q p)).1 have.0, terms_admit q p terms values met.1 have.1)

  agrees : AllAreMet points (named_points binding) → (x : Fraction) → IsShared points binding x → Agrees mode facts points binding
  agrees met x shared =
      let a = added_of_shared points binding x shared in
      record {
        over = a.over;
        positive = a.positive;
        total = a.total;
        values = a.values;
        total_admits = (number_admits binding.total met.0 (ratio a.total a.over a.positive)).1 a.total_has;
        terms_admit = terms_admit a.over a.positive binding.terms a.values met.1 a.terms_have;
        adds = a.adds;
      }

  added : AllAreMet points (named_points binding) → Agrees mode facts points binding → Adds points binding
  added met a = record {
    over = a.over;
    positive = a.positive;
    total = a.total;
    values = a.values;
    total_has = (number_admits binding.total met.0 (ratio a.total a.over a.positive)).0 a.total_admits;
    terms_have = terms_have a.over a.positive binding.terms a.values met.1 a.terms_admit;
    adds = a.adds;
  }

  not_agrees : AllAreMet points (named_points binding) → ((x : Fraction) → ¬ IsShared points binding x) → ¬ Agrees mode facts points binding
  not_agrees met none a =
      let values = added met a in
      none (ratio values.total values.over values.positive) (shared_of_added points binding values)

  -- what the ranges tell is the verdict
  pub verdict_of : (v : Verdict) → IsFound points binding v → IsVerdict mode facts points binding v
  verdict_of TooWide (inl wide) = inl (some_of_some (λ k. IsWideRange (range_at points k)) PointIsWide (λ k. k < length points) wide_of_range (named_points binding) there wide)
  verdict_of TooWide (inr passed) = inr (record { none_wide = none_wide passed.0; none_empty = none_empty passed.0; passed = passed.1 })
  verdict_of Unjudged found = (
    λ wide. found.0 (some_of_some PointIsWide (λ k. IsWideRange (range_at points k)) (λ k. k < length points) range_of_wide (named_points binding) there wide),
    some_of_some (λ k. IsEmptyRange (range_at points k)) PointIsEmpty (λ k. k < length points) empty_of_range (named_points binding) there found.1,
  )
  verdict_of Consistent found = (judged found.0 found.1, agrees found.0 found.2.0 found.2.1)
  verdict_of Inconsistent found = (judged found.0 found.1, not_agrees found.0 found.2)
