-- A point that is left in one row is taken away.
use Rattle.std.proofs.Common.{◌≡◌, ◌≢◌, ℕ, Bool, true, false, not, List, [], ◌∷◌, ℤ, pos, neg_ℤ, ◌+ℤ◌, refl, arith, eqb, cond, ◌∙◌, ap}
use Rattle.std.proofs.lemmas.Int.{ints}
use Rattle.xc_model.specs.Parts.{WholeParts}
use Rattle.std.proofs.lemmas.Bool.{eq-eqb, ne_eqb}
use Rattle.xc_forest.specs.Forests.{Choice, Neither, Plus, Minus, number_with_sign}
use Rattle.xc_lists.specs.Members.{IsIn, IsOnce}
use Rattle.xc_forest.specs.Steps.Vertices.{sum_over, part, Span, worth, row_without_point, Graph, IsSumWithout, IsLeafPoint}
use Rattle.xc_forest.proofs.Sums.{sum_same, sum_change, apart}

-- the end of a point that an end of its lessened row brings
abbrev pub moved : Bool → Choice → Choice
moved b Neither = Neither
moved false (Plus e) = Minus (not e)
moved false (Minus e) = Plus (not e)
moved true (Plus e) = Plus e
moved true (Minus e) = Minus e

pub worth_moved : (c b : Bool) (k : Choice) (x y : Span) → worth c k (row_without_point b x y) ≡ worth c k x +ℤ worth c (moved b k) y
worth_moved c b Neither x y = refl
worth_moved false false (Plus false) x y = omega (arith, ints)
worth_moved false false (Plus true) x y = omega (arith, ints)
worth_moved false false (Minus false) x y = omega (arith, ints)
worth_moved false false (Minus true) x y = omega (arith, ints)
worth_moved false true (Plus false) x y = omega (arith, ints)
worth_moved false true (Plus true) x y = omega (arith, ints)
worth_moved false true (Minus false) x y = omega (arith, ints)
worth_moved false true (Minus true) x y = omega (arith, ints)
worth_moved true false (Plus false) x y = omega (arith, ints)
worth_moved true false (Plus true) x y = omega (arith, ints)
worth_moved true false (Minus false) x y = omega (arith, ints)
worth_moved true false (Minus true) x y = omega (arith, ints)
worth_moved true true (Plus false) x y = omega (arith, ints)
worth_moved true true (Plus true) x y = omega (arith, ints)
worth_moved true true (Minus false) x y = omega (arith, ints)
worth_moved true true (Minus true) x y = omega (arith, ints)

-- ---- signed sums
abbrev pub negated : Choice → Choice
negated Neither = Neither
negated (Plus e) = Minus e
negated (Minus e) = Plus e

abbrev pub signed : Bool → Choice → Choice
signed false k = k
signed true k = negated k

pub worth_signed : (c b : Bool) (k : Choice) (x : Span) → worth c (signed b k) x ≡ number_with_sign b (worth c k x)
worth_signed c false k x = refl
worth_signed c true Neither x = refl
worth_signed c true (Plus e) x = refl
worth_signed c true (Minus e) x = omega (arith, ints)

pub turn_plus : (b : Bool) (x y : ℤ) → number_with_sign b (x +ℤ y) ≡ number_with_sign b x +ℤ number_with_sign b y
turn_plus false x y = refl
turn_plus true x y = omega (arith, ints)

pub turn_turn : (b : Bool) (x : ℤ) → number_with_sign b (number_with_sign b x) ≡ x
turn_turn false x = refl
turn_turn true x = omega (arith, ints)

pub sum_turn : (b : Bool) (vs : List ℕ) (f : ℕ → ℤ) → number_with_sign b (sum_over vs f) ≡ sum_over vs (λ v. number_with_sign b (f v))
sum_turn false vs f = refl
sum_turn true [] f = refl
sum_turn true (v ∷ vs) f = let i : neg_ℤ (sum_over vs f) ≡ sum_over vs (λ u. neg_ℤ (f u)) = sum_turn true vs f in omega (arith, ints)

-- f with the value x at r
abbrev pub put : {A : Type 0} → ℕ → A → (ℕ → A) → ℕ → A
put r x f v = cond (eqb v r) x (f v)

pub put_same : {A : Type 0} (r : ℕ) (x : A) (f : ℕ → A) → put r x f r ≡ x
put_same r x f = rw (eq-eqb r r refl)

pub put_other : {A : Type 0} (r v : ℕ) (x : A) (f : ℕ → A) → v ≢ r → put r x f v ≡ f v
put_other r v x f h = rw (ne_eqb v r h)

-- weight times a signed sum without r, and an end of r
pub with_end : (vs : List ℕ) (a : ℕ → Span) (b : Bool) (r v : ℕ) (k : Choice) (x y : WholeParts) → IsOnce vs → IsIn r vs → v ≢ r → (s : IsSumWithout vs a r x) → s.choice v ≡ Neither → ((c : Bool) → part c y ≡ number_with_sign b (part c x) +ℤ worth c k (a r)) → IsSumWithout vs a v y
with_end vs a b r v k x y d i n s e h = record {
  choice = put r k (λ u. signed b (s.choice u));
  free = put_other r v k (λ u. signed b (s.choice u)) n ∙ rw e (none b);
  is = λ c. h c ∙ go c;
}
  where
    none : (b : Bool) → signed b Neither ≡ Neither
    none false = refl
    none true = refl

    go : (c : Bool) → number_with_sign b (part c x) +ℤ worth c k (a r) ≡ sum_over vs (λ u. worth c (put r k (λ u. signed b (s.choice u)) u) (a u))
    go c =
        let t : number_with_sign b (part c x) ≡ sum_over vs (λ u. number_with_sign b (worth c (s.choice u) (a u))) = ap (number_with_sign b) (s.is c) ∙ sum_turn b vs (λ u. worth c (s.choice u) (a u)) in
        let f : sum_over vs (λ u. worth c (put r k (λ u. signed b (s.choice u)) u) (a u)) +ℤ number_with_sign b (worth c (s.choice r) (a r)) ≡ sum_over vs (λ u. number_with_sign b (worth c (s.choice u) (a u))) +ℤ worth c (put r k (λ u. signed b (s.choice u)) r) (a r) =
        sum_change vs r (λ u. worth c (put r k (λ u. signed b (s.choice u)) u) (a u)) (λ u. number_with_sign b (worth c (s.choice u) (a u))) d i (λ u j m. rw (put_other r u k (λ u. signed b (s.choice u)) m) (worth_signed c b (s.choice u) (a u))) in
        let z : number_with_sign b (worth c (s.choice r) (a r)) ≡ pos 0 = rw s.free (turn_zero b) in
        let q : worth c (put r k (λ u. signed b (s.choice u)) r) (a r) ≡ worth c k (a r) = rw (put_same r k (λ u. signed b (s.choice u))) in
        omega (arith, ints)
      where
        turn_zero : (b : Bool) → number_with_sign b (pos 0) ≡ pos 0
        turn_zero false = refl
        turn_zero true = refl

-- ---- a point is taken away
module _ (g : Graph) (vs : List ℕ) (a n : ℕ → Span) (p r : ℕ) (b : Bool) (d : IsOnce vs) (h : IsLeafPoint g vs p r b) (less : n r ≡ row_without_point b (a r) (a p)) (kept : (v : ℕ) → IsIn v vs → v ≢ r → n v ≡ a v) where
  pub sum_with : (c : Bool) (k : ℕ → Choice) → sum_over vs (λ u. worth c (k u) (n u)) ≡ sum_over (p ∷ vs) (λ u. worth c (put p (moved b (k r)) k u) (a u))
  sum_with c k =
      let e : sum_over vs (λ u. worth c (put p (moved b (k r)) k u) (a u)) ≡ sum_over vs (λ u. worth c (k u) (a u)) = sum_same vs _ _ (λ u i. rw (put_other p u (moved b (k r)) k (apart u p vs i h.fresh))) in
      let f : sum_over vs (λ u. worth c (k u) (n u)) +ℤ worth c (k r) (a r) ≡ sum_over vs (λ u. worth c (k u) (a u)) +ℤ worth c (k r) (n r) = sum_change vs r (λ u. worth c (k u) (n u)) (λ u. worth c (k u) (a u)) d h.left (λ u i m. rw (kept u i m)) in
      let w : worth c (k r) (n r) ≡ worth c (k r) (a r) +ℤ worth c (moved b (k r)) (a p) = rw less (worth_moved c b (k r) (a r) (a p)) in
      let q : worth c (put p (moved b (k r)) k p) (a p) ≡ worth c (moved b (k r)) (a p) = rw (put_same p (moved b (k r)) k) in
      omega (arith, ints)

  pub signed_with : (v : ℕ) (x : WholeParts) → v ≢ p → IsSumWithout vs n v x → IsSumWithout (p ∷ vs) a v x
  signed_with v x m s = record {
    choice = put p (moved b (s.choice r)) s.choice;
    free = put_other p v (moved b (s.choice r)) s.choice m ∙ s.free;
    is = λ c. s.is c ∙ sum_with c s.choice;
  }

  -- a sum without the row is one without the point, in which the row does not stand either
  pub signed_without : (x : WholeParts) → IsSumWithout vs n r x → (s : IsSumWithout (p ∷ vs) a p x) × (s.choice r ≡ Neither)
  signed_without x s = (
    record {
      choice = put p (moved b (s.choice r)) s.choice;
      free = put_same p (moved b (s.choice r)) s.choice ∙ rw s.free;
      is = λ c. s.is c ∙ sum_with c s.choice;
    },
    put_other p r (moved b (s.choice r)) s.choice (apart r p vs h.left h.fresh) ∙ s.free,
  )
