-- The digits of a character's number, read one after another.
use Rattle.std.proofs.Common.{◌≡◌, ℕ, ◌+◌, ◌*◌, ◌<◌, ◌≤◌, Bool, true, false, cond, List, [], ◌∷◌, Option, Some, None, refl, sym, ap, ◌∙◌, arith, ltb}
use Rattle.std.specs.Char.{digit_value}
use Rattle.std.proofs.lemmas.Bool.Decides.{nat_tests}
use Rattle.std.proofs.lemmas.Bool.{lt-ltb, le-ltb}
use Rattle.std.proofs.Math.Nat.{mul-le-mul_left}
use Rattle.xc_chars.specs.Characters.{is_character}
use Rattle.xc_elements.specs.Items.{character_from, character_numbered, is_nil}

pub beyond_characters : (n : ℕ) → 0x10FFFF < n → is_character n ≡ false
unfolding is_character
beyond_characters n h = grind (arith, nat_tests)

none_either_way : (t : Bool) (o : Option ℕ) → o ≡ None → cond t o None ≡ None
none_either_way true o e = e
none_either_way false o e = refl

larger : (n base d : ℕ) → 0x10FFFF < n → 0 < base → 0x10FFFF < n * base + d
larger n base d h b = omega (arith, mul-le-mul_left n b)

-- no more digits make a number smaller
pub beyond : (base n : ℕ) (digits : List ℕ) → 0x10FFFF < n → 0 < base → character_from base n digits ≡ None
unfolding character_from
beyond base n [] h b = rw (beyond_characters n h) refl
beyond base n (d ∷ ds) h b = none_either_way (ltb (digit_value d) base) _ (beyond base (n * base + digit_value d) ds (larger n base (digit_value d) h b) b)

pub from_more : (base n d : ℕ) (text rest : List ℕ) → text ≡ d ∷ rest → digit_value d < base → character_from base n text ≡ character_from base (n * base + digit_value d) rest
unfolding character_from
from_more base n d text rest e h = rw (e, lt-ltb (digit_value d) base h) refl

pub from_other : (base n d : ℕ) (text rest : List ℕ) → text ≡ d ∷ rest → base ≤ digit_value d → character_from base n text ≡ None
unfolding character_from
from_other base n d text rest e h = rw (e, le-ltb (digit_value d) base h) refl

pub from_end : (base n : ℕ) (text : List ℕ) → text ≡ [] → character_from base n text ≡ cond (is_character n) (Some n) None
unfolding character_from
from_end base n text e = rw e refl

pub from_start : (base : ℕ) (text : List ℕ) → is_nil text ≡ false → character_from base 0 text ≡ character_numbered base text
from_start base [] e = absurd cc
from_start base (d ∷ ds) e = refl

pub numbered_nothing : (base : ℕ) (text : List ℕ) → is_nil text ≡ true → None ≡ character_numbered base text
numbered_nothing base [] e = refl
numbered_nothing base (d ∷ ds) e = absurd cc

-- one more digit, by its value
pub one_more_digit : (base n d digit : ℕ) (text rest : List ℕ) → text ≡ d ∷ rest → digit_value d < base → digit ≡ digit_value d → character_from base n text ≡ character_from base (n * base + digit) rest
one_more_digit base n d digit text rest e h is = from_more base n d text rest e h ∙ ap (λ k. character_from base (n * base + k) rest) (sym is)
