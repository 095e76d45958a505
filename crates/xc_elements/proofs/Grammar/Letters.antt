-- An item is a letter exactly where the text begins with one.
use Rattle.std.proofs.Common.{◌≡◌, ℕ, Bool, false, List, Some, refl}
use Rattle.std.specs.Prelude.{◌↔◌, ◌==◌}
use Rattle.std.proofs.lemmas.Bool.{ne_eqb, eq-eqb}
use Rattle.xc_elements.specs.Fronts.{followed_by, give, one, by_next}
use Rattle.xc_elements.specs.Items.{Letter, letter, item}
use Rattle.xc_elements.specs.Grammar.Letters.{IsLetter}
use Rattle.xc_elements.proofs.Grammar.Kinds.{as_letter}
use Rattle.xc_elements.proofs.Grammar.Shapes.{shape_of}

not_same : (c d : ℕ) → (c == d) ≡ false → c ≡ d → ⊥
not_same c d off e = let on = eq-eqb c d e in cc

letter_found : (is_first : Bool) (text : List ℕ) (c : ℕ) (rest : List ℕ) → item is_first text ≡ Some (Letter c, rest) → IsLetter text c rest
letter_found is_first text c rest e =
    let t = as_letter is_first text (Letter c) c rest refl (shape_of is_first text (Letter c) rest e) in
    record { whole = t.whole; character = t.character; no_tag = not_same c 60 t.no_tag; no_reference = not_same c 38 t.no_reference }

letter_spelled : (is_first : Bool) (text : List ℕ) (c : ℕ) (rest : List ℕ) → IsLetter text c rest → item is_first text ≡ Some (Letter c, rest)
unfolding item letter by_next one followed_by give
letter_spelled is_first text c rest h = rw (h.whole, ne_eqb c 60 h.no_tag, ne_eqb c 38 h.no_reference, h.character) refl

pub letter_holds : (is_first : Bool) (text : List ℕ) (c : ℕ) (rest : List ℕ) → (item is_first text ≡ Some (Letter c, rest)) ↔ IsLetter text c rest
letter_holds is_first text c rest = (letter_found is_first text c rest, letter_spelled is_first text c rest)
