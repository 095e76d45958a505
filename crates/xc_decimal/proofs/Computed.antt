-- What is read of a text is what computes from it.
use Rattle.std.proofs.Common.{◌≡◌, ◌&&◌, ◌||◌, ◌==◌, ℕ, ℤ, ◌^◌, ◌%◌, List, Bool, true, false, not, nat_le, Option, Result, Ok, Err, inl, inr, refl, sym, ap, subst, ◌∙◌, arith, true≢false}
use Rattle.std.specs.Prelude.{unsigned_abs}
use Rattle.std.proofs.lemmas.Bool.Decides.{nat_tests}
use Rattle.xc_decimal.specs.Answers.{Answers, IsWidePair}
use Rattle.xc_decimal.specs.Numbers.{fits, narrowed, shortest_if, number_of_digits, reading}
use Rattle.xc_decimal.specs.Reading.{digits_of}
use Rattle.xc_decimal.specs.Shortest.{Shortest, IsShortest}
use Rattle.xc_decimal.specs.declared.decimal.DecimalFault.{DecimalFault}
use Rattle.xc_decimal.specs.declared.decimal.DecimalFault.TheVariants.{NotDecimal, Wide}
use Rattle.xc_decimal.proofs.OneShortest.{shortest_prop}

abbrev shortest : (digits : ℤ) (places : ℕ) → IsShortest digits places → Shortest
shortest digits places h = record { digits = digits; places = places; shortest = h }

some_test : (a b : Bool) → (a ≡ true → b ≡ true) → (not a || b) ≡ true
some_test true b h = h refl
some_test false b h = refl

all_hold : (a b c : Bool) → a ≡ true → b ≡ true → c ≡ true → (a && b && c) ≡ true
all_hold a b c e f g = rw (e, f, g) refl

fits_shortest : (d : Shortest) → fits (d.digits, d.places) ≡ true
fits_shortest d =
    let size = unsigned_abs d.digits in
    let narrow : nat_le size (2 ^ 126) ≡ true = grind (arith, nat_tests, d.shortest.digits_narrow) in
    let few : nat_le d.places 37 ≡ true = grind (arith, nat_tests, d.shortest.places_narrow) in
    let zero : (size % 10 == 0) ≡ true → (d.places == 0) ≡ true = λ e. let none : d.places ≡ 0 = d.shortest.shortest (grind (arith, nat_tests)) in grind (arith, nat_tests) in
    all_hold (nat_le size (2 ^ 126)) (nat_le d.places 37) (not (size % 10 == 0) || (d.places == 0)) narrow few (some_test (size % 10 == 0) (d.places == 0) zero)

fits_no_wide : (p : ℤ × ℕ) → IsWidePair p → fits p ≡ true → ⊥
fits_no_wide p (inl wide) h = let s = shortest_if p h in omega (arith, s.digits_narrow)
fits_no_wide p (inr wide) h = let s = shortest_if p h in omega (arith, s.places_narrow)

narrowed_fits : (d : Shortest) (b : Bool) (h : fits (d.digits, d.places) ≡ b) → Ok d ≡ narrowed (d.digits, d.places) b h
narrowed_fits d true h = ap (λ k. Ok (shortest d.digits d.places k)) (shortest_prop d.digits d.places d.shortest (shortest_if (d.digits, d.places) h))
narrowed_fits d false h = absurd (true≢false (sym (fits_shortest d) ∙ h))

narrowed_wide : (p : ℤ × ℕ) (b : Bool) (h : fits p ≡ b) → IsWidePair p → Err Wide ≡ narrowed p b h
narrowed_wide p true h wide = absurd (fits_no_wide p wide h)
narrowed_wide p false h wide = refl

answer_is : (r : Result Shortest DecimalFault) (o : Option (ℤ × ℕ)) → Answers r o → r ≡ number_of_digits o
answer_is (Ok d) o h = subst (λ o. Ok d ≡ number_of_digits o) (sym h) (narrowed_fits d (fits (d.digits, d.places)) refl)
answer_is (Err NotDecimal) o h = subst (λ o. Err NotDecimal ≡ number_of_digits o) (sym h) refl
answer_is (Err Wide) o h = subst (λ o. Err Wide ≡ number_of_digits o) (sym h.1.0) (narrowed_wide h.0 (fits h.0) refl h.1.1)

pub reading_is : (r : Result Shortest DecimalFault) (text : List ℕ) → Answers r (digits_of text) → r ≡ reading text
reading_is r text h = answer_is r (digits_of text) h
