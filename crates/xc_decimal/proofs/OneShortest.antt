-- A decimal number has one shortest form.
use Rattle.std.proofs.Common.{◌≡◌, ℕ, ◌+◌, ◌-◌, ◌*◌, ◌%◌, ◌^◌, ◌<◌, ◌≤◌, ℤ, pos, ◌*ℤ◌, arith, sym, ◌∙◌, ap, subst, inl, inr}
use Rattle.std.specs.Prelude.{unsigned_abs}
use Rattle.std.proofs.Props.{props}
use Rattle.std.proofs.Math.Nat.{le_of_mul-le-mul_left}
use Rattle.std.proofs.lemmas.Int.{ints, unsigned_abs-mul}
use Rattle.std.proofs.lemmas.Nat.{pow-add}
use Rattle.std.proofs.lemmas.Bool.{cases_order}
use Rattle.xc_model.specs.Fraction.{SameNumber}
use Rattle.xc_model.proofs.Integers.{cancel, mul_comm}
use Rattle.xc_model.proofs.Numbers.{same-refl, same-sym}
use Rattle.xc_decimal.specs.Laws.{HasOneShortest}
use Rattle.xc_decimal.specs.Shortest.{Shortest, IsShortest, decimal_number, ten_positive}

pub shortest_prop : (digits : ℤ) (places : ℕ) → IsProp (IsShortest digits places)
shortest_prop digits places = hlevel props

abbrev form : (digits : ℤ) (places : ℕ) → IsShortest digits places → Shortest
form digits places h = record { digits = digits; places = places; shortest = h }

same_form : (m n : ℤ) (s t : ℕ) → m ≡ n → s ≡ t → (h : IsShortest m s) (i : IsShortest n t) → form m s h ≡ form n t i
same_form m n s t e f h =
    let same : (i : IsShortest m s) → form m s h ≡ form m s i = λ i. ap (λ k. form m s k) (shortest_prop m s h i) in
    let places : (i : IsShortest m t) → form m s h ≡ form m t i = subst (λ z. (i : IsShortest m z) → form m s h ≡ form m z i) f same in
    subst (λ z. (i : IsShortest z t) → form m s h ≡ form z t i) e places

factored : (a s k : ℕ) → a * 10 ^ (s + (k + 1)) ≡ 10 ^ s * (10 * (a * 10 ^ k))
factored a s k =
    let split : 10 ^ (s + (k + 1)) ≡ 10 ^ s * (10 ^ k * 10) = pow-add 10 s (k + 1) ∙ ap (λ z. 10 ^ s * z) (pow-add 10 k 1) in
    ap (λ z. a * z) split ∙ regroup a (10 ^ s) (10 ^ k)
  where
    regroup : (a t u : ℕ) → a * (t * (u * 10)) ≡ t * (10 * (a * u))
    regroup a t u = omega arith

cancelled : (t b c : ℕ) → 0 < t → t * c ≡ b * t → b ≡ c
cancelled t b c some e =
    let turned : b * t ≡ t * b = omega arith in
    let up : b ≤ c = le_of_mul-le-mul_left (let h : t * b ≤ t * c = omega (arith, e, turned) in h) some in
    let down : c ≤ b = le_of_mul-le-mul_left (let h : t * c ≤ t * b = omega (arith, e, turned) in h) some in
    omega arith

-- where the other number has more places, its digits end in 0
ends_in_zero : (a b s t : ℕ) → s < t → a * 10 ^ t ≡ b * 10 ^ s → b % 10 ≡ 0
ends_in_zero a b s t h e =
    let k : ℕ = t - s - 1 in
    let places : t ≡ s + (k + 1) = omega arith in
    let is : b ≡ 10 * (a * 10 ^ k) = cancelled (10 ^ s) b (10 * (a * 10 ^ k)) (ten_positive s) (sym (factored a s k) ∙ ap (λ z. a * 10 ^ z) (sym places) ∙ e) in
    omega (arith, is)

sizes : (d e : Shortest) → SameNumber (decimal_number d) (decimal_number e) → unsigned_abs d.digits * 10 ^ e.places ≡ unsigned_abs e.digits * 10 ^ d.places
sizes d e same = sym (unsigned_abs-mul d.digits (pos (10 ^ e.places))) ∙ ap unsigned_abs same.cross ∙ unsigned_abs-mul e.digits (pos (10 ^ d.places))

not_fewer : (d e : Shortest) → SameNumber (decimal_number d) (decimal_number e) → d.places < e.places → ⊥
not_fewer d e same fewer =
    omega (arith, e.shortest.shortest (ends_in_zero (unsigned_abs d.digits) (unsigned_abs e.digits) d.places e.places fewer (sizes d e same)))

same_places : (d e : Shortest) → SameNumber (decimal_number d) (decimal_number e) → d.places ≡ e.places
same_places d e same = elim (cases_order d.places e.places) [
  | inl equal ↦ equal
  | inr rest ↦ elim rest [
    | inl fewer ↦ absurd (not_fewer d e same fewer)
    | inr more ↦ absurd (not_fewer e d (same-sym (decimal_number d) (decimal_number e) same) more)
  ]
]

same_digits : (d e : Shortest) → SameNumber (decimal_number d) (decimal_number e) → d.digits ≡ e.digits
same_digits d e same =
    let tens : ℤ = pos (10 ^ e.places) in
    let right : e.digits *ℤ pos (10 ^ d.places) ≡ e.digits *ℤ tens = ap (λ n. e.digits *ℤ pos (10 ^ n)) (same_places d e same) in
    let scaled : tens *ℤ d.digits ≡ tens *ℤ e.digits = mul_comm tens d.digits ∙ same.cross ∙ right ∙ mul_comm e.digits tens in
    cancel tens d.digits e.digits (λ none. absurd (omega (arith, ints, none, ten_positive e.places))) scaled

pub one_shortest : HasOneShortest
one_shortest d e = (
  λ same. same_form d.digits e.digits d.places e.places (same_digits d e same) (same_places d e same) d.shortest e.shortest,
  λ same. subst (λ f. SameNumber (decimal_number d) (decimal_number f)) same (same-refl (decimal_number d)),
)
