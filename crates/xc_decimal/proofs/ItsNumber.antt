-- The digits and places that a text spells are the number of all its digits.
use Rattle.std.proofs.Common.{◌≡◌, ℕ, zero, suc, ◌+◌, ◌-◌, ◌*◌, ◌^◌, List, ◌++◌, Bool, true, false, pos, neg_ℤ, ◌*ℤ◌, length, replicate, arith, sym, ◌∙◌, ap}
use Rattle.std.proofs.lemmas.Nat.{pow-add}
use Rattle.std.proofs.lemmas.List.{append_assoc}
use Rattle.xc_model.proofs.Integers.{neg-mul}
use Rattle.xc_decimal.specs.Decimals.{signed}
use Rattle.xc_decimal.specs.Digits.{behind, number_of}
use Rattle.xc_decimal.specs.Laws.{SpellsItsNumber}
use Rattle.xc_decimal.proofs.Narrow.{number-append}

-- zeros behind a number multiply it
behind-zeros : (n z : ℕ) → behind n (replicate z 48) ≡ n * 10 ^ z
behind-zeros n zero = omega arith
behind-zeros n (suc z) =
    let more : 10 ^ suc z ≡ 10 ^ z * 10 = ap (λ k. 10 ^ k) (let one : suc z ≡ z + 1 = omega arith in one) ∙ pow-add 10 z 1 in
    behind-zeros (10 * n + (48 - 48)) z ∙ regroup n (10 ^ z) ∙ ap (λ t. n * t) (sym more)
  where
    regroup : (n t : ℕ) → (10 * n + (48 - 48)) * t ≡ n * (t * 10)
    regroup n t = omega arith

all_digits : (whole kept : List ℕ) (z : ℕ) → number_of (whole ++ (kept ++ replicate z 48)) ≡ number_of (whole ++ kept) * 10 ^ z
all_digits whole kept z =
    ap number_of (sym (append_assoc whole kept (replicate z 48))) ∙ number-append (whole ++ kept) (replicate z 48) ∙ behind-zeros (number_of (whole ++ kept)) z

scaled : (negative : Bool) (n t u : ℕ) → signed negative n *ℤ pos (t * u) ≡ signed negative (n * u) *ℤ pos t
scaled false n t u = let e : n * (t * u) ≡ (n * u) * t = omega arith in ap pos e
scaled true n t u =
    let e : n * (t * u) ≡ (n * u) * t = omega arith in
    neg-mul (pos n) (pos (t * u)) ∙ ap (λ k. neg_ℤ (pos k)) e ∙ sym (neg-mul (pos (n * u)) (pos t))

pub its_number : SpellsItsNumber
its_number text digits places s = record {
  cross =
      let top : digits ≡ signed s.negative (number_of (s.whole ++ s.kept)) = s.digits_are in
      let n : ℕ = number_of (s.whole ++ s.kept) in
      ap (λ z. z *ℤ pos (10 ^ (length s.kept + s.zeros))) top
      ∙ ap (λ k. signed s.negative n *ℤ pos k) (pow-add 10 (length s.kept) s.zeros)
      ∙ scaled s.negative n (10 ^ length s.kept) (10 ^ s.zeros)
      ∙ (λ i. signed s.negative (sym (all_digits s.whole s.kept s.zeros) i) *ℤ pos (10 ^ sym s.places_are i));
}
