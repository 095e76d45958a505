-- Numbers of nodes are read as words spell them, and those of accepted words are those that a sample may have.
use Rattle.std.proofs.Common.{◌≡◌, ◌∙◌, ◌<◌, ◌≤◌, ◌+◌, ◌-◌, ◌*◌, ◌^◌, ◌==◌, nat_lt, nat_le, ℕ, List, [], ◌∷◌, Bool, true, false, not, length, Option, Some, None, Result, Ok, Err, cond, codes, option_map, if◌then◌else◌, refl, sym, ap, subst, arith, rules}
use Rattle.std.proofs.lemmas.Bool.{false≢true, and_parts}
use Rattle.std.proofs.lemmas.Bool.Decides.{nat_tests}
use Rattle.std.proofs.lemmas.Str.Parse.{IsNumeralModel, IsDigitsTest, FoldsDigits, numerals_by_fold, parse_digits}
use Rattle.std.specs.Char.{is_ascii_digit}
use Rattle.std.specs.List.{list_all}
use Rattle.std.specs.Result.{OkIff}
use Rattle.std.specs.Str.Parse.{ParsesUnsigned}
use Rattle.std.specs.Str.{bytes_eq}
use Rattle.xc_decimal.specs.Digits.{AreDigits, behind, number_of}
use Rattle.xc_top.specs.Steps.Named.{IsSized}
use Rattle.xc_top.specs.Words.{CommandWords, SumOf, CheckOf, VerifyOf, SampleOf, is_numeral, is_size, size, size_of, sample_of, sum_of, check_of, verify_of, words_of}

-- ---- what is read

digits_test : IsDigitsTest AreDigits
digits_test = search rules

folds : FoldsDigits behind
folds = record { empty = λ n. refl; more = λ n c cs h. let same : 10 * n + (c - 48) ≡ n * 10 + (c - 48) = omega arith in ap (λ m. behind m cs) same }

own : IsNumeralModel AreDigits number_of
own = numerals_by_fold AreDigits digits_test behind folds

numeral_digits : (word : List ℕ) → is_numeral word ≡ true → AreDigits word × (0 < length word)
numeral_digits [] h = absurd (false≢true h)
numeral_digits (c ∷ cs) h = ((and_parts (not (c == 48)) (list_all is_ascii_digit (c ∷ cs)) h).1, omega arith)

sized : (n : ℕ) → is_size n ≡ true → (2 ≤ n) × (n ≤ 100000)
sized n h = let parts = and_parts (nat_le 2 n) (nat_le n 100000) h in (grind (arith, nat_tests), grind (arith, nat_tests))

too_large : (n : ℕ) → 2 ^ 32 ≤ n → (b : Bool) → is_size n ≡ b → None ≡ (if b then Some n else None)
too_large n h true is = let few : n ≤ 100000 = (sized n is).1 in absurd (omega (arith, h, few))
too_large n h false is = refl

-- the number that was read, where a sample may have so many nodes
abbrev pub given : {E : Type 0} → Result ℕ E → Option ℕ
given (Ok n) = size n
given (Err e) = None

none_given : (n : ℕ) → (n < 2 ^ 32 → ⊥) → (b : Bool) → nat_lt n (2 ^ 32) ≡ b → None ≡ size n
none_given n passes true less = absurd (passes (grind (arith, nat_tests)))
none_given n passes false more = too_large n (grind (arith, nat_tests)) (is_size n) refl

told : {E : Type 0} (r : Result ℕ E) (some : ℕ) (n : ℕ) → 0 < some → OkIff r ((0 < some) × (n < 2 ^ 32)) n → given r ≡ size n
told (Ok x) some n more h = ap size h.1
told (Err e) some n more h = none_given n (λ less. h (more, less)) (nat_lt n (2 ^ 32)) refl

pub read_size : {E : Type 0} (word : List ℕ) (r : Result ℕ E) → is_numeral word ≡ true → ParsesUnsigned 32 10 word r → given r ≡ size_of word
read_size word r numeral h =
    let digits = numeral_digits word numeral in
    told r (length word) (number_of word) digits.1 (parse_digits own 32 word r h digits.0)
    ∙ sym (ap (λ b. cond b (size (number_of word)) None) numeral)

-- ---- what is accepted

mapped : {A : Type 0} (f : A → CommandWords) → ((a : A) → IsSized (f a)) → (o : Option A) (command : CommandWords) → Some command ≡ option_map f o → IsSized command
mapped f each None command e = absurd (cc)
mapped f each (Some a) command e = subst IsSized (sym (same e)) (each a)
  where
    same : Some command ≡ Some (f a) → command ≡ f a
    same e = cc

sized_word : (n : ℕ) (numeral sized_as : Bool) → is_size n ≡ sized_as → (command : CommandWords) → Some command ≡ option_map SampleOf (if numeral then (if sized_as then Some n else None) else None) → IsSized command
sized_word n true true is command e = subst IsSized (sym (same e)) (sized n is)
  where
    same : Some command ≡ Some (SampleOf n) → command ≡ SampleOf n
    same e = cc
sized_word n true false is command e = absurd (cc)
sized_word n false sized_as is command e = absurd (cc)

sized_sample : (words : List (List ℕ)) (command : CommandWords) → Some command ≡ option_map SampleOf (sample_of words) → IsSized command
sized_sample [] command e = absurd (cc)
sized_sample (word ∷ []) command e = sized_word (number_of word) (is_numeral word) (is_size (number_of word)) refl command e
sized_sample (word ∷ more ∷ words) command e = absurd (cc)

pub sized_words : (words : List (List ℕ)) (command : CommandWords) → Some command ≡ words_of words → IsSized command
sized_words [] command e = absurd (cc)
sized_words (word ∷ words) command e = by (bytes_eq word (codes "sum")) (bytes_eq word (codes "check")) (bytes_eq word (codes "verify")) (bytes_eq word (codes "sample")) e
  where
    by : (sum check verify sample : Bool)
        → Some command ≡ (if sum then option_map SumOf (sum_of words) else if check then option_map CheckOf (check_of words) else if verify then option_map VerifyOf (verify_of words) else if sample then option_map SampleOf (sample_of words) else None)
        → IsSized command
    by true check verify sample e = mapped SumOf (λ sum. tt) (sum_of words) command e
    by false true verify sample e = mapped CheckOf (λ check. tt) (check_of words) command e
    by false false true sample e = mapped VerifyOf (λ verify. tt) (verify_of words) command e
    by false false false true e = sized_sample words command e
    by false false false false e = absurd (cc)
