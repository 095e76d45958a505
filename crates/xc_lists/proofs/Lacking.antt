-- Bytes that do not stand in a text.
use Rattle.std.proofs.Common.{◌≡◌, ◌≢◌, ℕ, ◌+◌, ◌%◌, ◌<◌, ◌≤◌, ◌^◌, true, false, eqb, not, List, [], ◌∷◌, ◌++◌, arith}
use Rattle.std.specs.Prelude.{◌==◌, decimal}
use Rattle.std.specs.List.{AllByRecursion, list_all}
use Rattle.std.proofs.lemmas.Bool.{and_parts, eqb-false}
use Rattle.std.proofs.lemmas.Fmt.{decimal_by_steps_wide}
use Rattle.xc_lists.specs.Members.{Lacks}

pub all_append : {X : Type 0} (P : X → Type 0) (xs ys : List X) → AllByRecursion P xs → AllByRecursion P ys → AllByRecursion P (xs ++ ys)
all_append P [] ys a b = b
all_append P (x ∷ xs) ys a b = (a.0, all_append P xs ys a.1 b)

pub all_front : {X : Type 0} (P : X → Type 0) (xs ys : List X) → AllByRecursion P (xs ++ ys) → AllByRecursion P xs
all_front P [] ys a = tt
all_front P (x ∷ xs) ys a = (a.0, all_front P xs ys a.1)

pub all_back : {X : Type 0} (P : X → Type 0) (xs ys : List X) → AllByRecursion P (xs ++ ys) → AllByRecursion P ys
all_back P [] ys a = a
all_back P (x ∷ xs) ys a = all_back P xs ys a.1

pub lacks_append : (byte : ℕ) (xs ys : List ℕ) → Lacks byte xs → Lacks byte ys → Lacks byte (xs ++ ys)
lacks_append byte xs ys a b = all_append (λ b. b ≢ byte) xs ys a b

-- a text whose bytes are all told apart from it
pub lacks_by : (byte : ℕ) (text : List ℕ) → list_all (λ b. not (b == byte)) text ≡ true → Lacks byte text
lacks_by byte [] e = tt
lacks_by byte (b ∷ bs) e =
    let parts = and_parts (not (b == byte)) (list_all (λ b. not (b == byte)) bs) e in
    (eqb-false b byte (not-from b byte parts.0), lacks_by byte bs parts.1)
  where
    not-from : (b byte : ℕ) → not (eqb b byte) ≡ true → eqb b byte ≡ false
    not-from b byte h = grind arith

module _ (byte : ℕ) (low : byte < 45) where
  one_digit : (n : ℕ) → n < 10 → Lacks byte ((48 + n) ∷ [])
  one_digit n small = (λ e. omega (arith, low, e), tt)

  more_digits : (n : ℕ) (ds : List ℕ) → 10 ≤ n → Lacks byte ds → Lacks byte (ds ++ ((48 + n % 10) ∷ []))
  more_digits n ds big h = lacks_append byte ds ((48 + n % 10) ∷ []) h (λ e. omega (arith, low, e), tt)

  pub decimal_lacks : (n : ℕ) → n < 10 ^ 64 → Lacks byte (decimal n)
  decimal_lacks = decimal_by_steps_wide (λ n ds. Lacks byte ds) one_digit more_digits
