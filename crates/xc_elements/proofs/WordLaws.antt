-- A word that is compared with the front of a text, one character after another.
use Rattle.std.proofs.Common.{◌≡◌, ℕ, suc, ◌+◌, ◌<◌, ◌≤◌, List, [], ◌∷◌, length, drop, get_or, None, refl, sym, ap, ◌∙◌, add-one, drop-cons, eq-eqb, Bool, true, false}
use Rattle.std.specs.Prelude.{map}
use Rattle.std.specs.Char.{to_ascii_lowercase}
use Rattle.std.proofs.Math.ListN.{drop_of_length-le}
use Rattle.std.proofs.lemmas.Bool.{ne_eqb}
use Rattle.xc_elements.specs.Fronts.{one, exactly}
use Rattle.xc_elements.specs.Items.{is_nil, is_whole}
use Rattle.xc_elements.proofs.FrontLaws.{found}

-- a text by its first character
pub text_of_one : (text rest : List ℕ) (c : ℕ) → found c rest ≡ one text → text ≡ c ∷ rest
unfolding one
text_of_one [] rest c e = absurd cc
text_of_one (d ∷ ds) rest c e =
    let one_side : ℕ × List ℕ = (c, rest) in
    let other_side : ℕ × List ℕ = (d, ds) in
    let both : one_side ≡ other_side = cc in
    sym (ap (λ (x : ℕ × List ℕ). x.0 ∷ x.1) both)

pub nothing_of_one : (text : List ℕ) → None ≡ one text → text ≡ []
unfolding one
nothing_of_one [] e = refl
nothing_of_one (d ∷ ds) e = absurd cc

item_first : (word : List ℕ) (i w : ℕ) → i < length word → w ≡ get_or word i w → drop i word ≡ w ∷ drop (i + 1) word
item_first word i w lt is = rw (add-one, drop-cons word i w) (ap (λ x. x ∷ drop (suc i) word) (sym is))

pub exactly_more : (word text rest : List ℕ) (i w c : ℕ) → i < length word → w ≡ get_or word i w → text ≡ c ∷ rest → c ≡ w → exactly (drop (i + 1) word) rest ≡ exactly (drop i word) text
unfolding exactly
exactly_more word text rest i w c lt is e same = rw (item_first word i w lt is, e, eq-eqb c w same) refl

pub exactly_other : (word text rest : List ℕ) (i w c : ℕ) → i < length word → w ≡ get_or word i w → text ≡ c ∷ rest → (c ≡ w → ⊥) → None ≡ exactly (drop i word) text
unfolding exactly
exactly_other word text rest i w c lt is e other = rw (item_first word i w lt is, e, ne_eqb c w other) refl

pub exactly_short : (word text : List ℕ) (i w : ℕ) → i < length word → w ≡ get_or word i w → text ≡ [] → None ≡ exactly (drop i word) text
unfolding exactly
exactly_short word text i w lt is e = rw (item_first word i w lt is, e) refl

pub exactly_all : (word text : List ℕ) (i : ℕ) → length word ≤ i → found tt text ≡ exactly (drop i word) text
unfolding exactly
exactly_all word text i le = rw (drop_of_length-le word le) refl

pub is_nil_of_one : (text rest : List ℕ) (c : ℕ) → found c rest ≡ one text → false ≡ is_nil text
is_nil_of_one text rest c e = rw (text_of_one text rest c e) refl

pub is_nil_of_none : (text : List ℕ) → None ≡ one text → true ≡ is_nil text
is_nil_of_none text e = rw (nothing_of_one text e) refl

-- ---- the same, with the capital letters of ASCII read as small ones

pub lower_text : (text rest : List ℕ) (c : ℕ) → found c rest ≡ one text → map to_ascii_lowercase text ≡ to_ascii_lowercase c ∷ map to_ascii_lowercase rest
lower_text text rest c e = ap (λ (cs : List ℕ). map to_ascii_lowercase cs) (text_of_one text rest c e)

pub lower_nothing : (text : List ℕ) → None ≡ one text → map to_ascii_lowercase text ≡ []
lower_nothing text e = ap (λ (cs : List ℕ). map to_ascii_lowercase cs) (nothing_of_one text e)

lower_is_nil : (text : List ℕ) → is_nil text ≡ is_nil (map to_ascii_lowercase text)
lower_is_nil [] = refl
lower_is_nil (c ∷ cs) = refl

pub is_whole_of : (word text : List ℕ) (i : ℕ) (answer : Bool) → answer ≡ is_nil text → length word ≤ i → answer ≡ is_whole (exactly (drop i word) (map to_ascii_lowercase text))
is_whole_of word text i answer e le = e ∙ lower_is_nil text ∙ ap is_whole (exactly_all word (map to_ascii_lowercase text) i le)
