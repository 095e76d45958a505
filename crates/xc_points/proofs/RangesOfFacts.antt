-- The range of the first facts of a list.
use Rattle.std.proofs.Common.{◌≡◌, ℕ, ◌+◌, ◌<◌, ◌≤◌, List, [], ◌∷◌, ◌++◌, length, take, get_or, Option, Some, refl, sym, ap, subst, ◌∙◌}
use Rattle.std.proofs.lemmas.List.{take_all, take_more}
use Rattle.std.proofs.lemmas.List.Elements.{filter_map-append}
use Rattle.std.specs.Prelude.{slice_get}
use Rattle.xc_interval.specs.Ranges.{IsRangeOf}
use Rattle.xc_interval.specs.declared.interval.Interval.{Interval}
use Rattle.xc_interval.specs.declared.range.Range.{Range}
use Rattle.xc_model.specs.Ratio.{Ratio}
use Rattle.xc_points.specs.Kept.{ends_of}

-- this is the range of the first fact and of so many others
pub record IsRangeSoFar (ends : List (Option (Interval Ratio))) (first : ℕ) (others : List ℕ) (i : ℕ) (r : Range) : Type 0 where
  pub is : IsRangeOf (ends_of ends (first ∷ take i others)) r

pub first_range : (ends : List (Option (Interval Ratio))) (first : ℕ) (others : List ℕ) (e : Option (Interval Ratio)) (r : Range)
    → slice_get ends first ≡ Some e → IsRangeOf (e ∷ []) r → IsRangeSoFar ends first others 0 r
first_range ends first others e r at h =
    let alone : ends_of ends (first ∷ []) ≡ e ∷ [] = rw at refl in
    record { is = subst (λ es. IsRangeOf es r) (sym alone) h }

pub next_range : (ends : List (Option (Interval Ratio))) (first : ℕ) (others : List ℕ) (i d : ℕ) (e : Option (Interval Ratio)) (range r : Range)
    → IsRangeSoFar ends first others i range → i < length others → slice_get ends (get_or others i d) ≡ Some e
    → ((es : List (Option (Interval Ratio))) → IsRangeOf es range → IsRangeOf (es ++ e ∷ []) r) → IsRangeSoFar ends first others (i + 1) r
next_range ends first others i d e range r so_far within at narrowed =
    let fact = get_or others i d in
    let so_many = first ∷ take i others in
    let alone : ends_of ends (fact ∷ []) ≡ e ∷ [] = rw at refl in
    let joined : ends_of ends (so_many ++ fact ∷ []) ≡ ends_of ends so_many ++ e ∷ [] = filter_map-append (λ f. slice_get ends f) so_many (fact ∷ []) ∙ ap (λ es. ends_of ends so_many ++ es) alone in
    let more : take (i + 1) others ≡ take i others ++ fact ∷ [] = take_more others i d within in
    let all : ends_of ends (first ∷ take (i + 1) others) ≡ ends_of ends so_many ++ e ∷ [] = ap (λ fs. ends_of ends (first ∷ fs)) more ∙ joined in
    record { is = subst (λ es. IsRangeOf es r) (sym all) (narrowed (ends_of ends so_many) so_far.is) }

pub all_ranges : (ends : List (Option (Interval Ratio))) (first : ℕ) (others : List ℕ) (i : ℕ) (r : Range)
    → IsRangeSoFar ends first others i r → length others ≤ i → IsRangeOf (ends_of ends (first ∷ others)) r
all_ranges ends first others i r so_far all = subst (λ fs. IsRangeOf (ends_of ends (first ∷ fs)) r) (take_all i others all) so_far.is
