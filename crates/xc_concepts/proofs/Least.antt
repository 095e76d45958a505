-- The least of a list of places.
use Rattle.std.proofs.Common.{◌≡◌, ◌<◌, ◌-◌, ◌==◌, ◌||◌, ◌++◌, ℕ, List, [], ◌∷◌, Bool, true, false, Option, Some, None, IfSome, MatchOption, min, option_to_list, if◌then◌else◌, inl, inr, refl, sym, ap, subst, ◌∙◌, arith, append-nil}
use Rattle.std.proofs.lemmas.Bool.{cases_lt, eqb-true, eq-eqb, false_from_ne_true}
use Rattle.std.proofs.lemmas.List.Folds.{list_any-append}
use Rattle.std.specs.List.{list_any, range_with_len}
use Rattle.xc_lists.proofs.Ranges.{first_after, first_here, first_none}
use Rattle.xc_lists.specs.Places.{least, first_place, place_where}

-- the place is one of the list
abbrev pub has_place : List ℕ → ℕ → Bool
has_place list p = list_any (λ place. place == p) list

-- the place is in the list and none before it is, or there is none
abbrev pub IsLeast : List ℕ → Option ℕ → Type 0
IsLeast list first = MatchOption first ((p : ℕ) → has_place list p ≡ false) (λ m. (has_place list m ≡ true) × ((p : ℕ) → p < m → has_place list p ≡ false))

-- a longer list has the places of both
both_have : (list : List ℕ) (x p : ℕ) → has_place (list ++ x ∷ []) p ≡ (has_place list p || ((x == p) || false))
both_have list x p = list_any-append (λ place. place == p) list (x ∷ [])

other : (x p : ℕ) → p < x → (x == p) ≡ false
other x p h = false_from_ne_true (x == p) (λ e. let same : x ≡ p = eqb-true x p e in omega arith)

here : (b : Bool) (x : ℕ) → (b || ((x == x) || false)) ≡ true
here true x = refl
here false x = ap (λ b. b || false) (eq-eqb x x refl)

kept_true : (b c : Bool) → b ≡ true → (b || c) ≡ true
kept_true b c e = ap (λ x. x || c) e

neither : (b c : Bool) → b ≡ false → c ≡ false → (b || (c || false)) ≡ false
neither b c e f = (λ i. e i || (f i || false))

-- the least of a longer list
pub least_more : (list : List ℕ) (first next : Option ℕ) → IsLeast list first → IsLeast (list ++ option_to_list next) (least first next)
least_more list None None h = λ p. ap (λ xs. has_place xs p) (append-nil list) ∙ h p
least_more list (Some m) None h = (ap (λ xs. has_place xs m) (append-nil list) ∙ h.0, λ p less. ap (λ xs. has_place xs p) (append-nil list) ∙ h.1 p less)
least_more list None (Some x) h = (both_have list x x ∙ here (has_place list x) x, λ p less. both_have list x p ∙ neither _ _ (h p) (other x p less))
least_more list (Some m) (Some x) h = elim (cases_lt x m) [
  | inl less ↦
      let same : min m x ≡ x = omega arith in
      subst (λ k. IsLeast (list ++ x ∷ []) (Some k)) (sym same) (both_have list x x ∙ here (has_place list x) x, λ p below. both_have list x p ∙ neither _ _ (h.1 p (omega arith)) (other x p below))
  | inr more ↦
      let same : min m x ≡ m = omega arith in
      subst (λ k. IsLeast (list ++ x ∷ []) (Some k)) (sym same) (both_have list x m ∙ kept_true _ _ h.0, λ p below. both_have list x p ∙ neither _ _ (h.1 p below) (other x p (omega arith)))
]

-- the lesser of two places below a number is below it
pub least_within : (n : ℕ) (first next : Option ℕ) → IfSome first (λ p. p < n) → IfSome next (λ p. p < n) → IfSome (least first next) (λ p. p < n)
least_within n None next h g = g
least_within n (Some m) None h g = h
least_within n (Some m) (Some x) h g = omega arith

-- the least place of a list is the first that is in it
pub first_least : (list : List ℕ) (n : ℕ) (first : Option ℕ) → IsLeast list first → IfSome first (λ p. p < n) → first ≡ first_place (has_place list) (range_with_len 0 n)
first_least list n None h within =
    let whole : n - 0 ≡ n = omega arith in
    sym (ap (λ m. first_place (has_place list) (range_with_len 0 m)) (sym whole)
    ∙ first_none (place_where (has_place list)) 0 n (λ k low high. ap (λ b. if b then Some k else None) (h k)))
first_least list n (Some m) h within =
    sym (sym (first_after (place_where (has_place list)) m n (omega arith) (λ k less. ap (λ b. if b then Some k else None) (h.1 k less)))
    ∙ first_here (place_where (has_place list)) m n m within (ap (λ b. if b then Some m else None) h.0))
