-- Operations on spans, over one denominator.
use Rattle.std.proofs.Common.{◌≡◌, ℕ, Bool, true, false, cond, refl, sym, subst}
use Rattle.xc_forest.specs.Steps.Spans.{TellsLess}
use Rattle.xc_forest.specs.Steps.Vertices.{Span, IsMeet, ◌≼◌}
use Rattle.xc_forest.proofs.PairOrder.{le_refl, le_from_lt}
use Rattle.xc_model.specs.Parts.{Parts, WholeParts, ArePartsOver}

module _ {E : Type 0} (parts : E → Parts) (d : ℕ) where
  pub chosen_over : (second : Bool) (a b : WholeParts) (e f r : E) → r ≡ cond second f e → ArePartsOver (parts e) a d → ArePartsOver (parts f) b d → ArePartsOver (parts r) (cond second b a) d
  chosen_over true a b e f r is h k = subst (λ (x : E). ArePartsOver (parts x) b d) (sym is) k
  chosen_over false a b e f r is h k = subst (λ (x : E). ArePartsOver (parts x) a d) (sym is) h

-- the greater of two, as the test tells
above_both : (second : Bool) (a b : WholeParts) → TellsLess second a b → (a ≼ cond second b a) × (b ≼ cond second b a)
above_both true a b h = (le_from_lt a b h, le_refl b)
above_both false a b h = (le_refl a, h)

-- the lesser of two
below_both : (second : Bool) (a b : WholeParts) → TellsLess second b a → (cond second b a ≼ a) × (cond second b a ≼ b)
below_both true a b h = (le_from_lt b a h, le_refl b)
below_both false a b h = (le_refl a, h)

pub meet_is : (lo hi : Bool) (x y : Span) → TellsLess lo x.low y.low → TellsLess hi y.high x.high → IsMeet lo hi x y (record { low = cond lo y.low x.low; high = cond hi y.high x.high })
meet_is lo hi x y h k =
    let a = above_both lo x.low y.low h in
    let b = below_both hi x.high y.high k in
    record { low = refl; high = refl; above_first = a.0; above_second = a.1; below_first = b.0; below_second = b.1 }
