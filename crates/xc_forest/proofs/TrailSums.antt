-- Every end that is met on the way is a sum of the first ends.
use Rattle.std.proofs.Common.{◌≡◌, ◌≢◌, ℕ, Bool, List, ◌∷◌, ◌⊎◌, pos, ◌+ℤ◌, inl, inr, sym, arith, ◌∙◌}
use Rattle.std.proofs.lemmas.Int.{ints}
use Rattle.xc_forest.specs.Forests.{Neither, Plus}
use Rattle.xc_lists.specs.Members.{IsIn, IsOnce}
use Rattle.xc_forest.specs.Steps.Trails.{IsTrail, start, took_point, took_row, took_alone}
use Rattle.xc_forest.specs.Steps.Vertices.{sum_over, Span, end, worth, row_without_point, span_with_sign, Graph, IsMeet, IsLeafPoint, IsLeafRow, IsSum, IsEnd, IsSumWithout}
use Rattle.xc_forest.specs.declared.undos.Undo.{Undo}
use Rattle.xc_forest.proofs.Sums.{sum_same, sum_single, apart}
use Rattle.xc_forest.proofs.Points.{put, put_same, put_other, moved}
use Rattle.xc_forest.proofs.Points as Points
use Rattle.xc_forest.proofs.RowSteps.{taken}
use Rattle.xc_forest.proofs.RowSteps as RowSteps
use Rattle.xc_model.specs.Parts.{Parts, WholeParts}

pub end_sum : (vs : List ℕ) (a : ℕ → Span) (v : ℕ) (e : Bool) → IsOnce vs → IsIn v vs → IsSum vs a (end e (a v))
end_sum vs a v e d i = record { choice = put v (Plus e) (λ u. Neither); is = λ c. sym (sum_single vs v (λ u. worth c (put v (Plus e) (λ w. Neither) u) (a u)) d i (λ u j m. rw (put_other v u (Plus e) (λ w. Neither) m)) ∙ rw (put_same v (Plus e) (λ (w : ℕ). Neither))) }

-- a value that is settled is a sum
pub signed_sum : (vs : List ℕ) (a : ℕ → Span) (v : ℕ) (x : WholeParts) → IsOnce vs → IsIn v vs → IsEnd (a v) x ⊎ IsSumWithout vs a v x → IsSum vs a x
signed_sum vs a v x d i (inr s) = record { choice = s.choice; is = s.is }
signed_sum vs a v x d i (inl e) = rw e.1 (end_sum vs a v e.0 d i)

point_sum : (g : Graph) (vs : List ℕ) (a n : ℕ → Span) (p r : ℕ) (b : Bool) → IsOnce vs → IsLeafPoint g vs p r b → n r ≡ row_without_point b (a r) (a p) → ((v : ℕ) → IsIn v vs → v ≢ r → n v ≡ a v) → (x : WholeParts) → IsSum vs n x → IsSum (p ∷ vs) a x
point_sum g vs a n p r b d h less kept x s = record { choice = put p (moved b (s.choice r)) s.choice; is = λ c. s.is c ∙ Points.sum_with g vs a n p r b d h less kept c s.choice }

row_sum : (g : Graph) (vs : List ℕ) (a n : ℕ → Span) (r p : ℕ) (b lo hi : Bool) → IsOnce vs → IsLeafRow g vs r p b → IsMeet lo hi (a p) (span_with_sign b (a r)) (n p) → ((v : ℕ) → IsIn v vs → v ≢ p → n v ≡ a v) → (x : WholeParts) → IsSum vs n x → IsSum (r ∷ vs) a x
row_sum g vs a n r p b lo hi d h met kept x s =
    let t = taken lo hi b (a p) (a r) (n p) (s.choice p) met in
    record { choice = put r t.1 (put p t.0 s.choice); is = λ c. s.is c ∙ RowSteps.sum_with g vs a n r p b lo hi d h met kept c s.choice t.0 t.1 t.2 }

alone_sum : (vs : List ℕ) (a : ℕ → Span) (w : ℕ) → ¬ IsIn w vs → (x : WholeParts) → IsSum vs a x → IsSum (w ∷ vs) a x
alone_sum vs a w f x s = record { choice = put w Neither s.choice; is = λ c. s.is c ∙ go c }
  where
    go : (c : Bool) → sum_over vs (λ u. worth c (s.choice u) (a u)) ≡ worth c (put w Neither s.choice w) (a w) +ℤ sum_over vs (λ u. worth c (put w Neither s.choice u) (a u))
    go c =
        let e : sum_over vs (λ u. worth c (put w Neither s.choice u) (a u)) ≡ sum_over vs (λ u. worth c (s.choice u) (a u)) = sum_same vs _ _ (λ u i. rw (put_other w u Neither s.choice (apart u w vs i f))) in
        let q : worth c (put w Neither s.choice w) (a w) ≡ pos 0 = rw (put_same w Neither s.choice) in
        omega (arith, ints)

module _ {E : Type 0} (parts : E → Parts) (d : ℕ) (g : Graph) (ws : List ℕ) (o : ℕ → Span) (once : IsOnce ws) where
  pub trail_once : (us : List (Undo E)) (vs : List ℕ) (a : ℕ → Span) → IsTrail parts d g ws o us vs a → IsOnce vs
  trail_once us vs a start = once
  trail_once us vs a (took_point p r b x y us' vs' m n t h _ _ l k _ _) = (trail_once us' (p ∷ vs') m t).1
  trail_once us vs a (took_row r p b lo hi us' vs' m n t h l k) = (trail_once us' (r ∷ vs') m t).1
  trail_once us vs a (took_alone w e x us' vs' m t h _ _ _) = (trail_once us' (w ∷ vs') m t).1

  -- what is a sum of the ends that are left is one of the first ends
  pub trail_sum : (us : List (Undo E)) (vs : List ℕ) (a : ℕ → Span) (x : WholeParts) → IsTrail parts d g ws o us vs a → IsSum vs a x → IsSum ws o x
  trail_sum us vs a x start s = s
  trail_sum us vs a x (took_point p r b e f us' vs' m n t h _ _ l k _ _) s = trail_sum us' (p ∷ vs') m x t (point_sum g vs' m n p r b (trail_once us' (p ∷ vs') m t).1 h l k x s)
  trail_sum us vs a x (took_row r p b lo hi us' vs' m n t h l k) s = trail_sum us' (r ∷ vs') m x t (row_sum g vs' m n r p b lo hi (trail_once us' (r ∷ vs') m t).1 h l k x s)
  trail_sum us vs a x (took_alone w e y us' vs' m t h _ _ _) s = trail_sum us' (w ∷ vs') m x t (alone_sum vs' m w h.fresh x s)
