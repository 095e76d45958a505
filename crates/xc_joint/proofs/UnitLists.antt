-- The refutation that multipliers of the forest of a component give contradicts it, by units.
use Rattle.std.proofs.Common.{ℕ, Bool, true, false, ℤ, List, [], ◌∷◌, inl, inr}
use Rattle.std.proofs.lemmas.List.Elements.{All-from_recursion}
use Rattle.std.specs.List.{AllByRecursion}
use Rattle.std.specs.List.Sorted.{IsPermutation, IsSorted}
use Rattle.std.specs.Ordering.{nat_cmp}
use Rattle.xc_forest.specs.Laws.{SumsAreOver}
use Rattle.xc_joint.specs.Steps.Multiplied.{IsContradicted, IsMadeOf, IsListed, IsSigned, named_bindings, named_low_facts, named_high_facts}
use Rattle.xc_joint.specs.Lists.{AreEach}
use Rattle.xc_joint.specs.Steps.OneForest.{IsSign}
use Rattle.xc_joint.specs.Steps.UnitSums.{HasUnits}
use Rattle.xc_joint.specs.declared.one_forest.Span.{Span}
use Rattle.xc_joint.proofs.Ascending.{are_kept, bindings_own, lows_own, highs_own}
use Rattle.xc_joint.proofs.Cancelling.{cancels}
use Rattle.xc_joint.proofs.Placed.{placed_in}
use Rattle.xc_joint.proofs.Short.{is_short}
use Rattle.xc_model.specs.Ratio.{Ratio}
use Rattle.xc_system.specs.Forests.{IsUnit}
use Rattle.xc_system.specs.Kept.{Multipliers}
use Rattle.xc_system.specs.Refutations.{IsContradictionOf}
use Rattle.xc_system.specs.Systems.{Constraints}
use Rattle.xc_system.specs.declared.types.Component.{Component}

unit_of : (b : Bool) (w : Ratio) → IsSign b w → IsUnit w
unit_of false w h = (inl h.0, h.1)
unit_of true w h = (inr h.0, h.1)

listed_ones : (ks : List ℕ) (ms : List (ℕ × Ratio)) → AreEach IsListed ks ms → AllByRecursion (λ m. IsSign false m.1) ms
listed_ones [] [] h = tt
listed_ones [] (m ∷ ms) h = absurd h
listed_ones (k ∷ ks) [] h = absurd h
listed_ones (k ∷ ks) (m ∷ ms) h = (h.0.1, listed_ones ks ms h.1)

signed_units : (es : List (ℕ × Bool)) (ms : List (ℕ × Ratio)) → AreEach IsSigned es ms → AllByRecursion (λ m. IsUnit m.1) ms
signed_units [] [] h = tt
signed_units [] (m ∷ ms) h = absurd h
signed_units (e ∷ es) [] h = absurd h
signed_units (e ∷ es) (m ∷ ms) h = (unit_of e.1 m.1 h.0.1, signed_units es ms h.1)

pub made_of : (c : Component) (spans : List Span) (by ends : List ℤ) (lows highs : List ℕ) (bs ls hs : List (ℕ × Ratio)) → IsPermutation (named_low_facts spans ends) lows → IsPermutation (named_high_facts spans ends) highs → IsSorted nat_cmp lows → IsSorted nat_cmp highs
    → AreEach IsListed lows ls → AreEach IsListed highs hs → AreEach IsSigned (named_bindings c.equations by) bs → IsMadeOf c spans by ends (record { bindings = bs; lows = ls; highs = hs })
made_of c spans by ends lows highs bs ls hs lows_are highs_are lows_ascend highs_ascend ll hl bl = record { lows = lows; highs = highs; lows_are = lows_are; highs_are = highs_are; lows_ascend = lows_ascend; highs_ascend = highs_ascend; lows_listed = ll; highs_listed = hl; bindings_listed = bl }

pub has_units : (c : Component) (spans : List Span) (by ends : List ℤ) (r : Multipliers) → IsMadeOf c spans by ends r → HasUnits r
has_units c spans by ends r made = record {
  bindings = All-from_recursion (λ m. IsUnit m.1) r.bindings (signed_units _ r.bindings made.bindings_listed);
  lows = All-from_recursion (λ m. IsSign false m.1) r.lows (listed_ones made.lows r.lows made.lows_listed);
  highs = All-from_recursion (λ m. IsSign false m.1) r.highs (listed_ones made.highs r.highs made.highs_listed);
}

pub contradiction_of : SumsAreOver → (s : Constraints) (c : Component) (spans : List Span) (by ends : List ℤ) (r : Multipliers) → IsContradicted s c spans by ends → IsMadeOf c spans by ends r → IsContradictionOf s c r
contradiction_of sums_over s c spans by ends r h made = record {
  kept = are_kept s c spans by ends r (placed_in s) h made;
  bindings = bindings_own s c spans by ends r (placed_in s) h made;
  lows = lows_own s c spans by ends r (placed_in s) h made;
  highs = highs_own s c spans by ends r (placed_in s) h made;
  cancels = cancels s c spans by ends r (placed_in s) h made;
  short = is_short sums_over s c spans by ends r h made;
}
