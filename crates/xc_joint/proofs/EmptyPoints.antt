-- Points that no value satisfies.
use Rattle.std.proofs.Common.{◌≡◌, ◌<◌, ℕ, zero, suc, List, [], ◌∷◌, length, slice_index, get_or, Option, inl, inr, pos, subst, sym, ap, ◌∙◌, arith, lit<}
use Rattle.std.proofs.Math.Nat.{eq-one_of_dvd-one}
use Rattle.std.proofs.lemmas.Int.{ints}
use Rattle.std.specs.List.Sorted.{IsStrictlySortedBy}
use Rattle.std.specs.Ordering.{nat_cmp}
use Rattle.std.proofs.lemmas.List.Elements.{All-from_recursion}
use Rattle.std.specs.Prelude.{◌<ℤ◌}
use Rattle.xc_interval.specs.Laws.{HasOneRangeOf}
use Rattle.xc_interval.specs.Ranges.{IsEmptyMeetOf, IsRangeOf}
use Rattle.xc_interval.specs.declared.interval.Interval.{Interval}
use Rattle.xc_interval.specs.declared.range.Range.{Range}
use Rattle.xc_interval.specs.declared.range.Range.TheVariants as range
use Rattle.xc_joint.proofs.OneKind.{behind}
use Rattle.xc_joint.specs.Causes.{IsEmptyPoint}
use Rattle.xc_joint.specs.Steps.Empties.{IsEmptyAt, IsFirstFound}
use Rattle.xc_joint.specs.declared.empties.EmptyPoint.{EmptyPoint}
use Rattle.xc_model.specs.Ratio.{IsLowest, Ratio}
use Rattle.xc_lists.proofs.Members.{is_in_at}
use Rattle.xc_system.specs.Components.{IsComponent}
use Rattle.xc_system.specs.Kept.{IsRefutation}
use Rattle.xc_lists.specs.Members.{IsIn}
use Rattle.xc_system.specs.Systems.{Constraints}
use Rattle.xc_system.specs.declared.types.Component.{Component}

pub one_lowest : IsLowest (pos 1) (pos 1)
one_lowest = record {
  positive = omega (arith, ints);
  num_narrow = lit< tt;
  den_narrow = lit< tt;
  coprime = λ k a b. eq-one_of_dvd-one b;
}

-- the number 1
abbrev pub one_ratio : Ratio
one_ratio = record { num = pos 1; den = pos 1; lowest = one_lowest }

-- intervals that meet are no empty ones
pub meets_not_empty : HasOneRangeOf → (es : List (Option (Interval Ratio))) (r : Range) (i : Interval Ratio) → IsRangeOf es r → r ≡ range.Meets i → IsEmptyMeetOf es → ⊥
meets_not_empty one es r i h e k = apart (one es (range.Meets i) range.Empty (subst (λ (x : Range). IsRangeOf es x) e h) k)
  where
    apart : range.Meets i ≡ range.Empty → ⊥
    apart z = cc

-- what holds of no place of an ascending list before one holds of no less number of it
pub before_first : (E : ℕ → Type 0) (xs : List ℕ) → IsStrictlySortedBy nat_cmp xs → (n : ℕ) → n < length xs → ((i : ℕ) → i < n → E (slice_index xs i) → ⊥) → (q : ℕ) → IsIn q xs → q < slice_index xs n → E q → ⊥
unfolding IsStrictlySortedBy
before_first E [] s n l h q in_xs less e = absurd in_xs
before_first E (x ∷ xs) s zero l h q (inl is) less e = omega (arith, less, is)
before_first E (x ∷ xs) s zero l h q (inr is) less e = omega (arith, less, behind x q xs s.0 is)
before_first E (x ∷ xs) s (suc n) l h q (inl is) less e = h 0 (omega arith) (subst E is e)
before_first E (x ∷ xs) s (suc n) l h q (inr is) less e = before_first E xs s.1 n (omega arith) (λ i k. h (suc i) (omega arith)) q is less e

-- what holds of no place of a list holds of no number of it
pub none_in : (E : ℕ → Type 0) (xs : List ℕ) → ((i : ℕ) → i < length xs → E (slice_index xs i) → ⊥) → (q : ℕ) → IsIn q xs → E q → ⊥
none_in E [] h q is e = absurd is
none_in E (x ∷ xs) h q (inl is) e = h 0 (omega arith) (subst E is e)
none_in E (x ∷ xs) h q (inr is) e = none_in E xs (λ i k. h (suc i) (omega arith)) q is e

-- a point that is found behind points that are not empty is the first
pub found_first : (s : Constraints) (c : Component) → IsComponent s c → (now : List ℕ) → now ≡ c.points → (n : ℕ) → n < length now → ((i : ℕ) → i < n → IsEmptyPoint s (slice_index c.points i) → ⊥) → (e : EmptyPoint) → IsEmptyAt s (get_or now n 0) e → IsFirstFound s c e
found_first s c ic now is n l none e h = record {
  first = record {
    there = subst (λ (p : ℕ). IsIn p c.points) (sym at) (is_in_at c.points n within);
    empty = subst (λ (p : ℕ). IsEmptyPoint s p) (sym h.point) h.empty;
    first = λ q listed less. before_first (IsEmptyPoint s) c.points ic.points_ascend n within none q listed (subst (λ (p : ℕ). q < p) at less);
  };
  tightest = h.tightest;
}
  where
    within : n < length c.points
    within = subst (λ (ps : List ℕ). n < length ps) is l

    at : e.point ≡ slice_index c.points n
    at = h.point ∙ ap (λ (ps : List ℕ). get_or ps n 0) is

-- one end of each side, with 1
pub ends_kept : (k l : ℕ) (one : Ratio) → one.num ≡ pos 1 → IsRefutation (record { bindings = []; lows = (k, one) ∷ []; highs = (l, one) ∷ [] })
unfolding IsStrictlySortedBy
ends_kept k l one e = record {
  bindings_ascend = tt;
  lows_ascend = (tt, tt);
  highs_ascend = (tt, tt);
  bindings_count = All-from_recursion _ [] tt;
  lows_positive = All-from_recursion (λ m. pos 0 <ℤ m.1.num) ((k, one) ∷ []) (positive, tt);
  highs_positive = All-from_recursion (λ m. pos 0 <ℤ m.1.num) ((l, one) ∷ []) (positive, tt);
}
  where
    positive : pos 0 <ℤ one.num
    positive = omega (arith, ints, e)
