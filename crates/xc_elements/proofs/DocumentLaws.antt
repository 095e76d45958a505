-- The item at a place of a document, and what is left behind it.
use Rattle.std.proofs.Common.{◌≡◌, ℕ, ◌<◌, Bool, true, false, List, [], ◌∷◌, length, Some, refl, sym, ap, ◌∙◌}
use Rattle.xc_elements.specs.Items.{Meaning, is_nil, item}
use Rattle.xc_elements.proofs.FrontLaws.{ends_shorter}
use Rattle.xc_elements.proofs.ItemLaws.{item_ends}

pub here_is_item : (text after : List ℕ) (is_first first : Bool) (m : Meaning) → first ≡ is_first → Some (m, after) ≡ item is_first text → item first text ≡ Some (m, after)
here_is_item text after is_first first m e is = ap (λ b. item b text) e ∙ sym is

pub item_shorter : (text after : List ℕ) (is_first : Bool) (m : Meaning) → Some (m, after) ≡ item is_first text → length after < length text
item_shorter text after is_first m is = ends_shorter (item is_first) text m after (item_ends is_first) (sym is)

pub nil_is : (text : List ℕ) → is_nil text ≡ true → text ≡ []
nil_is [] e = refl
nil_is (c ∷ cs) e = absurd cc

pub not_nil : (text : List ℕ) → is_nil text ≡ false → text ≡ [] → ⊥
not_nil [] e f = absurd cc
not_nil (c ∷ cs) e f = absurd cc
