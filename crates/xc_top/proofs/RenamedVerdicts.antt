-- Facts and points with other numbers for their concepts have the same verdicts.
use Rattle.std.proofs.Common.{◌≡◌, ◌+◌, ◌*◌, ◌^◌, ◌≤◌, ℕ, ℤ, List, [], ◌∷◌, map, Option, Some, None, option_map, slice_get, IsSomeAnd, inl, inr, refl, sym, ap, subst, ◌∙◌}
use Rattle.std.proofs.lemmas.Option.{slice_get-map}
use Rattle.xc_bind.specs.declared.types.Binding.{Binding}
use Rattle.xc_bind.specs.declared.types.Term.{Term}
use Rattle.xc_bind.specs.declared.types.Verdict.{Verdict}
use Rattle.xc_bind.specs.declared.types.Verdict.TheVariants.{Consistent, Inconsistent, Unjudged, TooWide}
use Rattle.xc_interval.specs.declared.mode.Mode.{Mode}
use Rattle.xc_interval.specs.declared.range.Range.{Range}
use Rattle.xc_points.specs.Facts.{PointAdmits, IsWidePoint, IsEmptyPoint}
use Rattle.xc_points.specs.declared.types.Point.{Point}
use Rattle.xc_report.specs.declared.reports.Fact.{Fact}
use Rattle.xc_top.proofs.RenamedPoints.{SaysAlike, says_same, says_back}
use Rattle.xc_report.specs.Renamed.{renamed_fact}
use Rattle.xc_top.proofs.Renaming.{renamed_point}
use Rattle.xc_top.specs.Findings.{AreVerdicts}
use Rattle.xc_verdict.specs.Laws.{HasOneVerdict}
use Rattle.xc_verdict.specs.Ranges.{named_points, SomeHas, EachHas, range_if, range_at}
use Rattle.xc_verdict.specs.Verdicts.{AdmitsAt, TermsAdmit, HasWide, HasEmpty, Agrees, CanBeJudged, IsVerdict}
use Rattle.xc_bind.specs.Equation.{most_places}
use Rattle.xc_interval.specs.Scales.{AreOnScale, greatest}
use Rattle.xc_verdict.specs.Widths.{IsCommonScale, weight_size, terms_size, width, IsNarrowBinding}

-- a property that gives another gives it of some of these numbers
some_has : (P Q : ℕ → Type 0) → ((k : ℕ) → P k → Q k) → (ks : List ℕ) → SomeHas P ks → SomeHas Q ks
some_has P Q gives [] h = h
some_has P Q gives (k ∷ ks) (inl h) = inl (gives k h)
some_has P Q gives (k ∷ ks) (inr h) = inr (some_has P Q gives ks h)

-- ---- widths ask points for their ranges alone

module _ (points others : List Point) (same : range_at points ≡ range_at others) where
  terms_size_same : (places d : ℕ) (terms : List Term) → terms_size points places d terms ≡ terms_size others places d terms
  terms_size_same places d [] = refl
  terms_size_same places d (term ∷ terms) = λ i. weight_size places term.weight * greatest d (same i term.point) + terms_size_same places d terms i

  width_same : (binding : Binding) (d : ℕ) → width points binding d ≡ width others binding d
  width_same binding d = λ i.
      d * 10 ^ most_places binding.terms
      + (10 ^ most_places binding.terms * greatest d (same i binding.total)
      + terms_size_same (most_places binding.terms) d binding.terms i)

  on_scale : (binding : Binding) (d : ℕ) → IsCommonScale points binding d → IsCommonScale others binding d
  on_scale binding d h = subst (λ (range : ℕ → Range). EachHas (λ k. AreOnScale d (range k)) (named_points binding)) same h

  on_scale_back : (binding : Binding) (d : ℕ) → IsCommonScale others binding d → IsCommonScale points binding d
  on_scale_back binding d h = subst (λ (range : ℕ → Range). EachHas (λ k. AreOnScale d (range k)) (named_points binding)) (sym same) h

  narrow_same : (binding : Binding) → IsNarrowBinding points binding → IsNarrowBinding others binding
  narrow_same binding h = record {
    scale = h.scale;
    least = record { common = on_scale binding h.scale h.least.common; least = λ m common. h.least.least m (on_scale_back binding m common) };
    fits = subst (λ n. n ≤ 2 ^ 126) (width_same binding h.scale) h.fits;
  }

-- ---- verdicts ask for what facts admit, whether they are wide, and ranges

-- what stands at a place of the one is said there by the other
record AreAlike (mode : Mode) (one : List Fact) (points : List Point) (other : List Fact) (others : List Point) : Type 0 where
  admits : (k : ℕ) (p : ℤ) (q : ℕ) → AdmitsAt mode one points k p q → AdmitsAt mode other others k p q
  wide : (k : ℕ) → IsSomeAnd (slice_get points k) (λ point. IsWidePoint mode one point) → IsSomeAnd (slice_get others k) (λ point. IsWidePoint mode other point)
  empty : (k : ℕ) → IsSomeAnd (slice_get points k) (λ point. IsEmptyPoint mode one point) → IsSomeAnd (slice_get others k) (λ point. IsEmptyPoint mode other point)

module _ (mode : Mode) (one : List Fact) (points : List Point) (other : List Fact) (others : List Point) (alike : AreAlike mode one points other others) where
  has_wide : (binding : Binding) → HasWide mode one points binding → HasWide mode other others binding
  has_wide binding h =
      some_has (λ k. IsSomeAnd (slice_get points k) (λ point. IsWidePoint mode one point)) (λ k. IsSomeAnd (slice_get others k) (λ point. IsWidePoint mode other point)) alike.wide (named_points binding) h

  has_empty : (binding : Binding) → HasEmpty mode one points binding → HasEmpty mode other others binding
  has_empty binding h =
      some_has (λ k. IsSomeAnd (slice_get points k) (λ point. IsEmptyPoint mode one point)) (λ k. IsSomeAnd (slice_get others k) (λ point. IsEmptyPoint mode other point)) alike.empty (named_points binding) h

  terms_admit : (terms : List Term) (ps : List ℤ) (q : ℕ) → TermsAdmit mode one points terms ps q → TermsAdmit mode other others terms ps q
  terms_admit [] [] q h = h
  terms_admit [] (p ∷ ps) q h = h
  terms_admit (term ∷ terms) [] q h = h
  terms_admit (term ∷ terms) (p ∷ ps) q h = (alike.admits term.point p q h.0, terms_admit terms ps q h.1)

  agrees : (binding : Binding) → Agrees mode one points binding → Agrees mode other others binding
  agrees binding h = record {
    over = h.over;
    positive = h.positive;
    total = h.total;
    values = h.values;
    total_admits = alike.admits binding.total h.total h.over h.total_admits;
    terms_admit = terms_admit binding.terms h.values h.over h.terms_admit;
    adds = h.adds;
  }

module _ (mode : Mode) (one : List Fact) (points : List Point) (other : List Fact) (others : List Point)
    (there : AreAlike mode one points other others) (back : AreAlike mode other others one points) (same : range_at points ≡ range_at others) where
  can_be_judged : (binding : Binding) → CanBeJudged mode one points binding → CanBeJudged mode other others binding
  can_be_judged binding h = record {
    none_wide = λ wide. h.none_wide (has_wide mode other others one points back binding wide);
    none_empty = λ empty. h.none_empty (has_empty mode other others one points back binding empty);
    narrow = narrow_same points others same binding h.narrow;
  }

  verdict_alike : (binding : Binding) (verdict : Verdict) → IsVerdict mode one points binding verdict → IsVerdict mode other others binding verdict
  verdict_alike binding TooWide (inl wide) = inl (has_wide mode one points other others there binding wide)
  verdict_alike binding TooWide (inr h) = inr (record {
    none_wide = λ wide. h.none_wide (has_wide mode other others one points back binding wide);
    none_empty = λ empty. h.none_empty (has_empty mode other others one points back binding empty);
    passed = λ narrow. h.passed (narrow_same others points (sym same) binding narrow);
  })
  verdict_alike binding Unjudged h = (λ wide. h.0 (has_wide mode other others one points back binding wide), has_empty mode one points other others there binding h.1)
  verdict_alike binding Consistent h = (can_be_judged binding h.0, agrees mode one points other others there binding h.1)
  verdict_alike binding Inconsistent h = (can_be_judged binding h.0, λ agree. h.1 (agrees mode other others one points back binding agree))

-- ---- other numbers

module _ (f : ℕ → ℕ) where
  some_point : (P Q : Point → Type 0) → ((point : Point) → P (renamed_point f point) → Q point) → (o : Option Point) → IsSomeAnd (option_map (renamed_point f) o) P → IsSomeAnd o Q
  some_point P Q gives None h = h
  some_point P Q gives (Some point) h = gives point h

  some_point_back : (P Q : Point → Type 0) → ((point : Point) → Q point → P (renamed_point f point)) → (o : Option Point) → IsSomeAnd o Q → IsSomeAnd (option_map (renamed_point f) o) P
  some_point_back P Q gives None h = h
  some_point_back P Q gives (Some point) h = gives point h

  range_if_renamed : (o : Option Point) → range_if (option_map (renamed_point f) o) ≡ range_if o
  range_if_renamed None = refl
  range_if_renamed (Some point) = refl

  module _ (points : List Point) where
    ranges_renamed : range_at (map (renamed_point f) points) ≡ range_at points
    ranges_renamed = λ i k. (ap range_if (slice_get-map (renamed_point f) points k) ∙ range_if_renamed (slice_get points k)) i

    at_place : (P Q : Point → Type 0) → ((point : Point) → P (renamed_point f point) → Q point) → (k : ℕ) → IsSomeAnd (slice_get (map (renamed_point f) points) k) P → IsSomeAnd (slice_get points k) Q
    at_place P Q gives k h = some_point P Q gives (slice_get points k) (subst (λ o. IsSomeAnd o P) (slice_get-map (renamed_point f) points k) h)

    at_place_back : (P Q : Point → Type 0) → ((point : Point) → Q point → P (renamed_point f point)) → (k : ℕ) → IsSomeAnd (slice_get points k) Q → IsSomeAnd (slice_get (map (renamed_point f) points) k) P
    at_place_back P Q gives k h = subst (λ o. IsSomeAnd o P) (sym (slice_get-map (renamed_point f) points k)) (some_point_back P Q gives (slice_get points k) h)

    module _ (mode : Mode) (facts : List Fact) where
      abbrev renamed_facts : List Fact
      renamed_facts = map (renamed_fact f) facts

      there : (point : Point) → SaysAlike mode renamed_facts (renamed_point f point) facts point
      there point = says_same f mode facts point (renamed_point f point) refl

      back : (point : Point) → SaysAlike mode facts point renamed_facts (renamed_point f point)
      back point = says_back f mode facts point (renamed_point f point) refl

      renamed_alike : AreAlike mode renamed_facts (map (renamed_point f) points) facts points
      renamed_alike = record {
        admits = λ k p q. at_place (λ point. PointAdmits mode renamed_facts point p q) (λ point. PointAdmits mode facts point p q) (λ point. (there point).admits p q) k;
        wide = λ k. at_place (λ point. IsWidePoint mode renamed_facts point) (λ point. IsWidePoint mode facts point) (λ point. (there point).wide) k;
        empty = λ k. at_place (λ point. IsEmptyPoint mode renamed_facts point) (λ point. IsEmptyPoint mode facts point) (λ point empty p q positive admits. empty p q positive ((back point).admits p q admits)) k;
      }

      renamed_back : AreAlike mode facts points renamed_facts (map (renamed_point f) points)
      renamed_back = record {
        admits = λ k p q. at_place_back (λ point. PointAdmits mode renamed_facts point p q) (λ point. PointAdmits mode facts point p q) (λ point. (back point).admits p q) k;
        wide = λ k. at_place_back (λ point. IsWidePoint mode renamed_facts point) (λ point. IsWidePoint mode facts point) (λ point. (back point).wide) k;
        empty = λ k. at_place_back (λ point. IsEmptyPoint mode renamed_facts point) (λ point. IsEmptyPoint mode facts point) (λ point empty p q positive admits. empty p q positive ((there point).admits p q admits)) k;
      }

-- a verdict does not depend on the numbers of concepts
pub verdict_renamed : (f : ℕ → ℕ) (mode : Mode) (facts : List Fact) (points : List Point) (binding : Binding) (verdict : Verdict)
    → IsVerdict mode (map (renamed_fact f) facts) (map (renamed_point f) points) binding verdict → IsVerdict mode facts points binding verdict
verdict_renamed f mode facts points binding verdict h =
    verdict_alike mode (map (renamed_fact f) facts) (map (renamed_point f) points) facts points (renamed_alike f points mode facts) (renamed_back f points mode facts) (ranges_renamed f points) binding verdict h

-- bindings have one list of verdicts, whatever the numbers of concepts
pub one_verdicts : HasOneVerdict → (f : ℕ → ℕ) (mode : Mode) (facts : List Fact) (points : List Point) (bindings : List Binding) (one other : List Verdict)
    → AreVerdicts mode facts points bindings one → AreVerdicts mode (map (renamed_fact f) facts) (map (renamed_point f) points) bindings other → one ≡ other
one_verdicts one_verdict f mode facts points [] [] [] h k = refl
one_verdicts one_verdict f mode facts points [] [] (v ∷ vs) h k = absurd k
one_verdicts one_verdict f mode facts points [] (u ∷ us) other h k = absurd h
one_verdicts one_verdict f mode facts points (binding ∷ bindings) [] other h k = absurd h
one_verdicts one_verdict f mode facts points (binding ∷ bindings) (u ∷ us) [] h k = absurd k
one_verdicts one_verdict f mode facts points (binding ∷ bindings) (u ∷ us) (v ∷ vs) h k =
    let first : u ≡ v = one_verdict mode facts points binding u v h.0 (verdict_renamed f mode facts points binding v k.0) in
    let rest : us ≡ vs = one_verdicts one_verdict f mode facts points bindings us vs h.1 k.1 in
    λ i. first i ∷ rest i
