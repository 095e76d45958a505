-- How often a variable counts in the refutation of a conflict, by its place.
use Rattle.std.proofs.Common.{◌≡◌, ◌≢◌, ℕ, zero, suc, ◌<◌, Bool, true, false, ℤ, pos, negsuc, neg_ℤ, ◌*ℤ◌, ◌<ℤ◌, refl, arith}
use Rattle.std.specs.Prelude.{not}
use Rattle.std.proofs.lemmas.Int.{ints}
use Rattle.std.proofs.lemmas.Bool.{eq-eqb, ne_eqb}
use Rattle.xc_model.proofs.Rescaled.{over_same_number, over_scaled, over_same_den}
use Rattle.xc_corners.specs.Conflicts.{opposite_if, multiplier}
use Rattle.xc_corners.specs.Corners.{Corner, Factors}
use Rattle.xc_model.specs.Ratio.{Ratio, IsOver}

turned_back : (a : Bool) (n : ℤ) → opposite_if (not a) n ≡ opposite_if a (neg_ℤ n)
turned_back false n = refl
turned_back true n = omega (arith, ints)

turned_times : (a : Bool) (w : ℕ) → pos w *ℤ opposite_if a (pos 1) ≡ opposite_if a (pos w)
turned_times false w = omega (arith, ints)
turned_times true w = omega (arith, ints)

times_none : (a : Bool) (w : ℕ) → pos w *ℤ pos 0 ≡ opposite_if a (pos 0)
times_none false w = omega (arith, ints)
times_none true w = omega (arith, ints)

module _ (x : Corner) (t : Factors) (a : Bool) (b : ℕ) (f : Ratio) where
  -- the variable itself
  pub own_over : 0 < t.over → IsOver f (opposite_if a (pos 1)) 1 → IsOver f (multiplier x t a b b) t.over
  unfolding multiplier
  own_over p h = rw (eq-eqb b b refl) (over_same_number f _ _ _ (over_same_den f _ _ _ (over_scaled f (opposite_if a (pos 1)) 1 t.over p h) (omega arith)) (turned_times a t.over))

  -- another basic one
  pub basic_over : (j : ℕ) → j ≢ b → x.basic j ≡ true → 0 < t.over → IsOver f (pos 0) 1 → IsOver f (multiplier x t a b j) t.over
  unfolding multiplier
  basic_over j n e p h = rw (ne_eqb j b n, e) (over_same_number f _ _ _ (over_same_den f _ _ _ (over_scaled f (pos 0) 1 t.over p h) (omega arith)) (times_none a t.over))

  -- and one that is not
  pub other_over : (j : ℕ) → j ≢ b → x.basic j ≡ false → IsOver f (opposite_if (not a) (t.factor b j)) t.over → IsOver f (multiplier x t a b j) t.over
  unfolding multiplier
  other_over j n e h = rw (ne_eqb j b n, e) (over_same_number f _ _ _ h (turned_back a (t.factor b j)))

pub other_sign : (n : ℤ) → n ≢ pos 0 → ¬ (pos 0 <ℤ n) → n <ℤ pos 0
other_sign (pos zero) some h = absurd (some refl)
other_sign (pos (suc n)) some h = absurd (h (omega (arith, ints)))
other_sign (negsuc n) some h = omega (arith, ints)

pub negative_some : (n : ℤ) → n <ℤ pos 0 → n ≢ pos 0
negative_some n h e = omega (arith, ints, h, e)

pub positive_some : (n : ℤ) → pos 0 <ℤ n → n ≢ pos 0
positive_some n h e = omega (arith, ints, h, e)
