-- Digits and places that fit, in their shortest form.
use Rattle.std.proofs.Common.{◌≡◌, ◌≢◌, ℕ, ◌+◌, ◌-◌, ◌*◌, ◌%◌, ◌^◌, ◌≤◌, List, [], ◌∷◌, ◌++◌, Bool, true, false, length, arith, refl, sym, ◌∙◌, ap, inl}
use Rattle.std.specs.Prelude.{unsigned_abs}
use Rattle.std.proofs.lemmas.Int.{ints}
use Rattle.std.proofs.lemmas.List.Sums.{fold-append, fold_push}
use Rattle.std.proofs.lemmas.List.Folds.{list_all-append}
use Rattle.std.proofs.lemmas.Bool.{and_parts, leb-true}
use Rattle.std.specs.Char.{is_ascii_digit}
use Rattle.xc_decimal.specs.Answers.{IsWidePair}
use Rattle.xc_decimal.specs.Decimals.{signed}
use Rattle.xc_decimal.specs.Digits.{AreDigits, behind, number_of}
use Rattle.xc_decimal.specs.Reading.{joined}
use Rattle.xc_decimal.specs.Shortest.{IsShortest}
use Rattle.xc_decimal.proofs.Behind.{behind-grows}

pub digit_bounds : (c : ℕ) → is_ascii_digit c ≡ true → (48 ≤ c) × (c ≤ 57)
digit_bounds c e = let parts = and_parts _ _ e in (leb-true 48 c parts.0, leb-true c 57 parts.1)

-- digits behind digits
pub number-append : (whole kept : List ℕ) → number_of (whole ++ kept) ≡ behind (number_of whole) kept
number-append whole kept = fold-append (λ m digit. 10 * m + (digit - 48)) 0 whole kept

pub size_of_signed : (negative : Bool) (n : ℕ) → unsigned_abs (signed negative n) ≡ n
size_of_signed false n = omega (arith, ints)
size_of_signed true n = omega (arith, ints)

-- a list is empty or has a last element
data Ends : List ℕ → Type 0 where
  none : Ends []
  last : (front : List ℕ) (d : ℕ) → Ends (front ++ (d ∷ []))

ends-cons : (x : ℕ) (xs : List ℕ) → Ends xs → Ends (x ∷ xs)
ends-cons x xs none = last [] x
ends-cons x xs (last front d) = last (x ∷ front) d

ends_of : (xs : List ℕ) → Ends xs
ends_of [] = none
ends_of (x ∷ xs) = ends-cons x xs (ends_of xs)

last_digit : (n d : ℕ) → 48 ≤ d → d ≤ 57 → (10 * n + (d - 48)) % 10 ≡ 0 → d ≡ 48
last_digit n d low high e = omega arith

shortest_at : (n : ℕ) (kept : List ℕ) → Ends kept → AreDigits kept → ((front : List ℕ) → kept ≢ front ++ (48 ∷ [])) → behind n kept % 10 ≡ 0 → length kept ≡ 0
shortest_at n kept none digits other e = refl
shortest_at n kept (last front d) digits other e =
    let parts = and_parts _ _ (sym (list_all-append is_ascii_digit front (d ∷ [])) ∙ digits) in
    let bounds = digit_bounds d (and_parts _ _ parts.1).0 in
    let pushed = fold_push (λ m digit. 10 * m + (digit - 48)) n front d in
    let zero : d ≡ 48 = last_digit (behind n front) d bounds.0 bounds.1 (ap (λ m. m % 10) (sym pushed) ∙ e) in
    absurd (other front (ap (λ x. front ++ (x ∷ [])) zero))

-- digits that do not end in 0 among their places are in the shortest form
pub shortest_of : (negative : Bool) (n : ℕ) (kept : List ℕ) → AreDigits kept → ((front : List ℕ) → kept ≢ front ++ (48 ∷ [])) → behind n kept ≤ 2 ^ 126 → length kept ≤ 37 → IsShortest (signed negative (behind n kept)) (length kept)
shortest_of negative n kept digits other small few = record {
  digits_narrow = omega (arith, size_of_signed negative (behind n kept));
  places_narrow = few;
  shortest = λ e. shortest_at n kept (ends_of kept) digits other (ap (λ m. m % 10) (sym (size_of_signed negative (behind n kept))) ∙ e);
}

-- where the whole part alone is too great, all is
pub whole_wide : (negative : Bool) (whole kept : List ℕ) → ¬ (number_of whole ≤ 2 ^ 126) → IsWidePair (joined negative whole kept)
whole_wide negative whole kept more = inl (omega (arith, size_of_signed negative (number_of (whole ++ kept)), number-append whole kept, behind-grows (number_of whole) kept))
