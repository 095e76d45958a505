-- Characters that stand for themselves: XML 1.0, section 2.4.
use Rattle.std.specs.Prelude.{◌≡◌, ◌≢◌, ◌↔◌, ℕ, Bool, true, List, ◌∷◌, Some}
use Rattle.xc_chars.specs.Characters.{is_character}
use Rattle.xc_elements.specs.Items.{Letter, item}

-- the text begins with this character, which is neither `<` nor `&`, and the rest follows: a character of `CharData`
pub record IsLetter (text : List ℕ) (c : ℕ) (rest : List ℕ) : Type 0 where
  pub whole : text ≡ c ∷ rest
  pub character : is_character c ≡ true
  pub no_tag : c ≢ 60
  pub no_reference : c ≢ 38

-- an item is this letter exactly where the text begins with it
abbrev pub LettersAsSpelled : Type 0
LettersAsSpelled = (is_first : Bool) (text : List ℕ) (c : ℕ) (rest : List ℕ) → (item is_first text ≡ Some (Letter c, rest)) ↔ IsLetter text c rest
