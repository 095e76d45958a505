-- The run of a problem has one last corner.
use Rattle.std.proofs.Common.{◌≡◌, ◌⊎◌, ◌<◌, ℕ, zero, suc, Bool, inl, inr, refl, sym, subst, arith}
use Rattle.xc_corners.specs.Choices.{Exchange, Exchanges, IsConflict, IsFeasible, IsReached, IsReachedBy, first_corner}
use Rattle.xc_corners.specs.Corners.{Corner, Factors, IsSolvedForm}
use Rattle.xc_corners.specs.Laws.{ConflictIsLast, FeasibleIsLast, IsOneRun}
use Rattle.xc_corners.specs.Problems.{IsWholeProblem, WholeProblem}

-- the corner is feasible, or a conflict
abbrev pub IsEnd : WholeProblem → Corner → Factors → Type 0
IsEnd p x t = IsFeasible p x t ⊎ ((above : Bool) × (b : ℕ) × IsConflict p x t above b)

module _ (one : IsOneRun) (feasible : FeasibleIsLast) (conflict : ConflictIsLast) (p : WholeProblem) (is : IsWholeProblem p) where
  -- after n exchanges from x one more follows
  record GoesOn (n : ℕ) (x : Corner) : Type 0 where
    corner : Corner
    next : Corner
    leaving : ℕ
    entering : ℕ
    by : Exchanges p n x corner
    exchange : Exchange p corner leaving entering next

  goes_on : (n m : ℕ) → n < m → (x y : Corner) → Exchanges p m x y → GoesOn n x
  goes_on n zero l x y e = absurd (omega (arith, l))
  goes_on zero (suc m) l x y (z, b, q, e, rest) = record { corner = x; next = z; leaving = b; entering = q; by = refl; exchange = e }
  goes_on (suc n) (suc m) l x y (z, b, q, e, rest) = let r = goes_on n m (omega (arith, l)) z y rest in record { corner = r.corner; next = r.next; leaving = r.leaving; entering = r.entering; by = (z, b, q, e, r.by); exchange = r.exchange }

  ended : (x : Corner) (t : Factors) → IsSolvedForm p x t → IsEnd p x t → (b q : ℕ) (y : Corner) → Exchange p x b q y → ⊥
  ended x t solved (inl f) b q y e = feasible p x y t b q solved f e
  ended x t solved (inr (above, d, c)) b q y e = conflict p x y t above d b q is solved c e

  pub last_is : (x y : Corner) (t u : Factors) → IsReached p x → IsSolvedForm p x t → IsEnd p x t → IsReached p y → IsSolvedForm p y u → IsEnd p y u → x ≡ y
  last_is x y t u (n, by_x) solved_x end_x (m, by_y) solved_y end_y = go (order n m)
    where
      order : (a b : ℕ) → (a < b) ⊎ ((a ≡ b) ⊎ (b < a))
      order a b = grind arith

      go : (n < m) ⊎ ((n ≡ m) ⊎ (m < n)) → x ≡ y
      go (inl l) = let r = goes_on n m l (first_corner p) y by_y in absurd (ended x t solved_x end_x r.leaving r.entering r.next (subst (λ (z : Corner). Exchange p z r.leaving r.entering r.next) (one p n r.corner x is r.by by_x) r.exchange))
      go (inr (inl e)) = one p n x y is by_x (subst (λ (k : ℕ). IsReachedBy p k y) (sym e) by_y)
      go (inr (inr l)) = let r = goes_on m n l (first_corner p) x by_x in absurd (ended y u solved_y end_y r.leaving r.entering r.next (subst (λ (z : Corner). Exchange p z r.leaving r.entering r.next) (one p m r.corner y is r.by by_y) r.exchange))
