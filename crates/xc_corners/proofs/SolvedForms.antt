-- A corner has at most one solved form.
use Rattle.std.proofs.Common.{◌≡◌, ℕ, ◌<◌, Bool, true, false, cond, ℤ, pos, ◌*ℤ◌, ◌⊎◌, inl, inr, refl, sym, ap, ◌∙◌, arith, eqb}
use Rattle.std.proofs.lemmas.Int.{ints}
use Rattle.std.proofs.lemmas.Bool.{cases_eq, eq-eqb, ne_eqb}
use Rattle.xc_model.proofs.Integers.{mul_comm}
use Rattle.xc_corners.specs.Corners.{variables, Corner, Factors, sum_for, IsSolvedForm, spread}
use Rattle.xc_corners.specs.Problems.{WholeProblem}
use Rattle.xc_corners.proofs.Sums.{without, sum_at, sum_of_zeros}
use Rattle.xc_corners.proofs.Values.{spread_meets, spread_at_basic, spread_at_other, sum_for_same, sum_for_scale}

-- 1 at j, and 0 elsewhere
abbrev unit : ℕ → ℕ → ℤ
unit j k = cond (eqb k j) (pos 1) (pos 0)

sum_at_unit : (p : WholeProblem) (x : Corner) (t : Factors) (b j : ℕ) → j < variables p → x.basic j ≡ false → sum_for p x t b (unit j) ≡ t.factor b j
unfolding sum_for
sum_at_unit p x t b j h e = sum_at (variables p) j _ h ∙ rw (e, eq-eqb j j refl, sum_of_zeros (variables p) _ (λ k l. rest k (cases_eq k j) (x.basic k) refl)) (omega (arith, ints))
  where
    rest : (k : ℕ) → ((k ≡ j) ⊎ (k ≡ j → ⊥)) → (s : Bool) → x.basic k ≡ s → without j (λ i. cond (x.basic i) (pos 0) (t.factor b i *ℤ unit j i)) k ≡ pos 0
    rest k (inl c) s d = rw (eq-eqb k j c)
    rest k (inr c) true d = rw (ne_eqb k j c, d)
    rest k (inr c) false d = rw (ne_eqb k j c, d) (omega (arith, ints))

pub one_solved_form : (p : WholeProblem) (x : Corner) (s t : Factors) → IsSolvedForm p x s → IsSolvedForm p x t → (b j : ℕ) → b < variables p → j < variables p → x.basic b ≡ true → x.basic j ≡ false → s.factor b j *ℤ pos t.over ≡ t.factor b j *ℤ pos s.over
one_solved_form p x s t f g b j hb hj eb ej =
    let m : pos t.over *ℤ spread p x s (unit j) b ≡ sum_for p x t b (spread p x s (unit j)) = g.sums _ (spread_meets p x s (unit j) f) b hb eb in
    let l : spread p x s (unit j) b ≡ s.factor b j = spread_at_basic p x s (unit j) b eb ∙ sum_at_unit p x s b j hj ej in
    let r : sum_for p x t b (spread p x s (unit j)) ≡ pos s.over *ℤ t.factor b j =
    sum_for_same p x t b _ _ (λ k h e. spread_at_other p x s (unit j) k e) ∙ sym (sum_for_scale p x t b (pos s.over) (unit j)) ∙ ap (λ (z : ℤ). pos s.over *ℤ z) (sum_at_unit p x t b j hj ej) in
    mul_comm (s.factor b j) (pos t.over) ∙ ap (λ (z : ℤ). pos t.over *ℤ z) (sym l) ∙ m ∙ r ∙ mul_comm (pos s.over) (t.factor b j)
