-- Fractions and their spellings.
use Rattle.std.proofs.Common.{◌≡◌, ◌≢◌, ℕ, suc, ◌+◌, ◌<◌, ◌≤◌, ◌^◌, ℤ, pos, negsuc, ◌*ℤ◌, List, [], ◌∷◌, ◌++◌, true, not, length, take, drop, get_or, arith, refl, sym, ◌∙◌, ap, inl, inr, Option, Some, None, ◌-◌}
use Rattle.std.specs.Prelude.{decimal, unsigned_abs, ◌↔◌, position}
use Rattle.std.specs.Fmt.{signed_decimal}
use Rattle.std.specs.List.{position_or_len, before_first, after_first}
use Rattle.std.proofs.Math.Dec.{eqb}
use Rattle.std.proofs.lemmas.Bool.{cases_Bool, and_from, and_parts, eqb-true, eqb-false, ne_eqb, eq-eqb, cond-true, cond-false, not-false}
use Rattle.std.proofs.lemmas.Int.{ints}
use Rattle.std.proofs.lemmas.List.{append-nil, length-append}
use Rattle.std.proofs.lemmas.List.Sums.{split_at_first, prefix_len_stops}
use Rattle.xc_model.specs.Ratio.{Ratio, IsOver}
use Rattle.xc_model.proofs.Integers.{mul_comm, cancel}
use Rattle.xc_model.proofs.LowestTerms.{cross_tells, one_lowest}
use Rattle.xc_decimal.specs.Digits.{AreDigits}
use Rattle.xc_decimal.specs.Laws.{HasOneSpelling}
use Rattle.xc_decimal.specs.Spelling.{spelling, ends_numerator, IsNaturalOf, IsIntegerOf}
use Rattle.xc_decimal.proofs.Narrow.{digit_bounds}
use Rattle.xc_decimal.proofs.Numerals.{few, decimal_digits, decimal_unique}
use Rattle.xc_decimal.proofs.Points.{Clear, before_mark, after_mark, position_clear, before_place, after_place, place_within, place_behind, none_before}
use Rattle.xc_decimal.proofs.Whole.{signed_unique}

-- A fraction by its terms

terms_narrow : (f : Ratio) → unsigned_abs f.den < 2 ^ 127
terms_narrow f = f.lowest.den_narrow

den_is : (f : Ratio) (n : ℕ) → unsigned_abs f.den ≡ n → f.den ≡ pos n
den_is f n e = omega (arith, ints, e, f.lowest.positive)

same_terms : (v f : Ratio) → v.num *ℤ f.den ≡ f.num *ℤ v.den → v ≡ f
same_terms v f e = one_lowest v f ((cross_tells v f).0 e)

over_is : (v f : Ratio) (num : ℤ) (den : ℕ) → IsOver v num den → f.num ≡ num → f.den ≡ pos den → v ≡ f
over_is v f num den over top bottom = same_terms v f (ap (λ z. v.num *ℤ z) bottom ∙ over.same ∙ ap (λ z. z *ℤ v.den) (sym top))

none_some : {A : Type 0} (x : A) → ◌≡◌ {A = Option A} None (Some x) → ⊥
none_some x e = cc

some_same : {A : Type 0} (x y : A) → ◌≡◌ {A = Option A} (Some x) (Some y) → x ≡ y
some_same x y e = cc

pub lowest_same : (v : Ratio) (num : ℤ) (den : ℕ) → IsOver v num den → unsigned_abs v.den ≡ den → (f : Ratio) → (Some v ≡ Some f) ↔ ((f.num ≡ num) × (f.den ≡ pos den))
lowest_same v num den over same f =
    let bottom : v.den ≡ pos den = den_is v den same in
    let scaled : v.den *ℤ v.num ≡ v.den *ℤ num = mul_comm v.den v.num ∙ ap (λ z. v.num *ℤ z) bottom ∙ over.same ∙ mul_comm num v.den in
    let top : v.num ≡ num = cancel v.den v.num num (λ e. absurd (omega (arith, ints, e, v.lowest.positive))) scaled in (
      λ e. let is : v ≡ f = some_same v f e in (ap (λ (g : Ratio). g.num) (sym is) ∙ top, ap (λ (g : Ratio). g.den) (sym is) ∙ bottom),
      λ terms. ap (λ (g : Ratio). Some g) (over_is v f num den over terms.0 terms.1),
    )

pub lowest_other : (v : Ratio) (num : ℤ) (den : ℕ) → IsOver v num den → unsigned_abs v.den ≢ den → (f : Ratio) → (◌≡◌ {A = Option Ratio} None (Some f)) ↔ ((f.num ≡ num) × (f.den ≡ pos den))
lowest_other v num den over other f = (
  λ e. absurd (none_some f e),
  λ terms.
      let is : v ≡ f = over_is v f num den over terms.0 terms.1 in
      absurd (other (ap (λ (g : Ratio). unsigned_abs g.den) is ∙ ap unsigned_abs terms.1)),
)

-- What is read of a numerator, and of a denominator

module _ (text : List ℕ) (z : ℤ) (num : IsIntegerOf text (Some z)) where
  num_is : (f : Ratio) → text ≡ signed_decimal f.num → f.num ≡ z
  num_is f e = signed_unique f.num z f.lowest.num_narrow num.0 (sym e ∙ num.1)

  pub whole_reads : (r : Option Ratio) → ((f : Ratio) → (r ≡ Some f) ↔ ((f.num ≡ z) × (f.den ≡ pos 1))) → (f : Ratio) → (r ≡ Some f) ↔ ((text ≡ signed_decimal f.num) × (f.den ≡ pos 1))
  whole_reads r h f = (
    λ e. let terms = (h f).0 e in (num.1 ∙ ap signed_decimal (sym terms.0), terms.1),
    λ spelled. (h f).1 (num_is f spelled.0, spelled.1),
  )

  module _ (digits : List ℕ) (n : ℕ) (den : IsNaturalOf digits (Some n)) where
    den_same : (f : Ratio) → digits ≡ decimal (unsigned_abs f.den) → unsigned_abs f.den ≡ n
    den_same f e = decimal_unique (unsigned_abs f.den) n (few _ (terms_narrow f)) (few n den.0) (sym e ∙ den.1)

    pub over_reads : (r : Option Ratio) → 2 ≤ n → ((f : Ratio) → (r ≡ Some f) ↔ ((f.num ≡ z) × (f.den ≡ pos n))) → (f : Ratio) → (r ≡ Some f) ↔ ((text ≡ signed_decimal f.num) × (digits ≡ decimal (unsigned_abs f.den)) × (f.den ≢ pos 1))
    over_reads r two h f = (
      λ e.
          let terms = (h f).0 e in
          (num.1 ∙ ap signed_decimal (sym terms.0), den.1 ∙ ap (λ (k : ℤ). decimal (unsigned_abs k)) (sym terms.1), λ one. absurd (omega (arith, ints, two, one, terms.1))),
      λ spelled. (h f).1 (num_is f spelled.0, den_is f n (den_same f spelled.1)),
    )

    pub over_one : n < 2 → (f : Ratio) → (◌≡◌ {A = Option Ratio} None (Some f)) ↔ ((text ≡ signed_decimal f.num) × (digits ≡ decimal (unsigned_abs f.den)) × (f.den ≢ pos 1))
    over_one few_ f = (
      λ e. absurd (none_some f e),
      λ spelled. absurd (spelled.2 (omega (arith, ints, few_, den_same f spelled.1, f.lowest.positive))),
    )

-- The slash

no_slash : (c : ℕ) → 48 ≤ c → not (ends_numerator c) ≡ true
no_slash c low = ap not (ne_eqb c 47 (λ e. omega arith))

digits_clear : (digits : List ℕ) → AreDigits digits → Clear ends_numerator digits
digits_clear [] all = refl
digits_clear (c ∷ cs) all = let parts = and_parts _ _ all in and_from _ _ (no_slash c (digit_bounds c parts.0).0) (digits_clear cs parts.1)

integer_clear : (z : ℤ) → unsigned_abs z < 2 ^ 127 → Clear ends_numerator (signed_decimal z)
integer_clear (pos n) small = digits_clear (decimal n) (decimal_digits n (few n small))
integer_clear (negsuc n) small = digits_clear (decimal (suc n)) (decimal_digits (suc n) (few (suc n) small))

num_clear : (f : Ratio) → Clear ends_numerator (signed_decimal f.num)
num_clear f = integer_clear f.num f.lowest.num_narrow

whole_spelling : (f : Ratio) → f.den ≡ pos 1 → spelling f ≡ signed_decimal f.num
whole_spelling f one =
    ap (λ t. signed_decimal f.num ++ t) (cond-true (eqb (unsigned_abs f.den) 1) [] (47 ∷ decimal (unsigned_abs f.den)) (eq-eqb (unsigned_abs f.den) 1 (ap unsigned_abs one)))
    ∙ append-nil (signed_decimal f.num)

over_spelling : (f : Ratio) → f.den ≢ pos 1 → spelling f ≡ signed_decimal f.num ++ (47 ∷ decimal (unsigned_abs f.den))
over_spelling f other =
    ap (λ t. signed_decimal f.num ++ t) (cond-false (eqb (unsigned_abs f.den) 1) [] (47 ∷ decimal (unsigned_abs f.den)) (ne_eqb (unsigned_abs f.den) 1 (λ e. other (den_is f 1 e))))

-- the denominator is 1, or another
den_cases : {G : Type 0} (f : Ratio) → (f.den ≡ pos 1 → G) → (f.den ≢ pos 1 → G) → G
den_cases f one other = elim (cases_Bool (eqb (unsigned_abs f.den) 1)) [
  | inl e ↦ one (den_is f 1 (eqb-true (unsigned_abs f.den) 1 e))
  | inr e ↦ other (λ is. eqb-false (unsigned_abs f.den) 1 e (ap unsigned_abs is))
]

no_place : (at : ℕ) → ◌≡◌ {A = Option ℕ} (Some at) None → ⊥
no_place at e = cc

-- a text with a slash is read around it
pub slash_reads : (text : List ℕ) (at : ℕ) (r : Option Ratio) → position ends_numerator text ≡ Some at
    → ((f : Ratio) → (r ≡ Some f) ↔ ((take at text ≡ signed_decimal f.num) × (take (length text - (at + 1)) (drop (at + 1) text) ≡ decimal (unsigned_abs f.den)) × (f.den ≢ pos 1)))
    → (f : Ratio) → (r ≡ Some f) ↔ (text ≡ spelling f)
slash_reads text at r place h f =
    let before = before_place ends_numerator text at place in
    let after = after_place ends_numerator text at place in
    let within = place_within ends_numerator text at place in
    let n : ℕ = position_or_len ends_numerator text in
    let slash : get_or text n 0 ≡ 47 = eqb-true (get_or text n 0) 47 (not-false _ (prefix_len_stops (λ c. not (ends_numerator c)) text 0 within)) in
    let split : text ≡ before_first ends_numerator text ++ (47 ∷ after_first ends_numerator text) =
    split_at_first ends_numerator text 0 within ∙ ap (λ c. before_first ends_numerator text ++ (c ∷ after_first ends_numerator text)) slash in (
      λ e.
          let terms = (h f).0 e in
          split ∙ (λ i. (sym before ∙ terms.0) i ++ (47 ∷ (sym after ∙ terms.1) i)) ∙ sym (over_spelling f terms.2),
      λ is. den_cases f
          (λ one. absurd (no_place at (sym place ∙ ap (position ends_numerator) (is ∙ whole_spelling f one) ∙ position_clear ends_numerator (signed_decimal f.num) (num_clear f))))
          (λ other.
          let spelled : text ≡ signed_decimal f.num ++ (47 ∷ decimal (unsigned_abs f.den)) = is ∙ over_spelling f other in
          (h f).1 (
            before ∙ ap (before_first ends_numerator) spelled ∙ before_mark ends_numerator (signed_decimal f.num) 47 (decimal (unsigned_abs f.den)) (num_clear f) refl,
            after ∙ ap (after_first ends_numerator) spelled ∙ after_mark ends_numerator (signed_decimal f.num) 47 (decimal (unsigned_abs f.den)) (num_clear f) refl,
            other,
          )),
    )

has_slash : (f : Ratio) (text : List ℕ) → position ends_numerator text ≡ None → f.den ≢ pos 1 → text ≡ spelling f → ⊥
has_slash f text none other is =
    let spelled : text ≡ signed_decimal f.num ++ (47 ∷ decimal (unsigned_abs f.den)) = is ∙ over_spelling f other in
    let place = place_behind ends_numerator (signed_decimal f.num) (47 ∷ decimal (unsigned_abs f.den)) (num_clear f) refl in
    let size = length-append (signed_decimal f.num) (47 ∷ decimal (unsigned_abs f.den)) in
    omega (arith, none_before ends_numerator text none, ap (position_or_len ends_numerator) spelled, ap length spelled, place, size)

-- a text without one is a numerator
pub whole_text_reads : (text : List ℕ) (r : Option Ratio) → position ends_numerator text ≡ None
    → ((f : Ratio) → (r ≡ Some f) ↔ ((text ≡ signed_decimal f.num) × (f.den ≡ pos 1)))
    → (f : Ratio) → (r ≡ Some f) ↔ (text ≡ spelling f)
whole_text_reads text r none h f = (
  λ e. let terms = (h f).0 e in terms.0 ∙ sym (whole_spelling f terms.1),
  λ is. den_cases f (λ one. (h f).1 (is ∙ whole_spelling f one, one)) (λ other. absurd (has_slash f text none other is)),
)

whole_clear : (f : Ratio) → f.den ≡ pos 1 → position ends_numerator (spelling f) ≡ None
whole_clear f one = ap (position ends_numerator) (whole_spelling f one) ∙ position_clear ends_numerator (signed_decimal f.num) (num_clear f)

num_same : (f g : Ratio) → signed_decimal f.num ≡ signed_decimal g.num → f.num ≡ g.num
num_same f g e = signed_unique f.num g.num f.lowest.num_narrow g.lowest.num_narrow e

both_terms : (f g : Ratio) → f.num ≡ g.num → f.den ≡ g.den → f ≡ g
both_terms f g top bottom = same_terms f g (λ i. top i *ℤ sym bottom i)

pub one_spelling : HasOneSpelling
one_spelling f g e = den_cases f
    (λ one. den_cases g
    (λ also. both_terms f g (num_same f g (sym (whole_spelling f one) ∙ e ∙ whole_spelling g also)) (one ∙ sym also))
    (λ other. absurd (has_slash g (spelling f) (whole_clear f one) other e)))
    (λ other. den_cases g
    (λ one. absurd (has_slash f (spelling g) (whole_clear g one) other (sym e)))
    (λ also.
    let left : List ℕ = signed_decimal f.num in
    let right : List ℕ = signed_decimal g.num in
    let texts : left ++ (47 ∷ decimal (unsigned_abs f.den)) ≡ right ++ (47 ∷ decimal (unsigned_abs g.den)) = sym (over_spelling f other) ∙ e ∙ over_spelling g also in
    let nums : left ≡ right =
    sym (before_mark ends_numerator left 47 (decimal (unsigned_abs f.den)) (num_clear f) refl) ∙ ap (before_first ends_numerator) texts ∙ before_mark ends_numerator right 47 (decimal (unsigned_abs g.den)) (num_clear g) refl in
    let dens : decimal (unsigned_abs f.den) ≡ decimal (unsigned_abs g.den) =
    sym (after_mark ends_numerator left 47 (decimal (unsigned_abs f.den)) (num_clear f) refl) ∙ ap (after_first ends_numerator) texts ∙ after_mark ends_numerator right 47 (decimal (unsigned_abs g.den)) (num_clear g) refl in
    let size : unsigned_abs f.den ≡ unsigned_abs g.den = decimal_unique _ _ (few _ (terms_narrow f)) (few _ (terms_narrow g)) dens in
    both_terms f g (num_same f g nums) (den_is f (unsigned_abs g.den) size ∙ sym (den_is g (unsigned_abs g.den) refl))))
