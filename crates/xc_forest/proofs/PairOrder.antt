-- Laws of pairs and of their order.
use Rattle.std.proofs.Common.{◌≡◌, ◌⊎◌, inl, inr, refl, sym, arith}
use Rattle.std.proofs.lemmas.Int.{ints, by_lt_z}
use Rattle.xc_forest.specs.Steps.Vertices.{◌≺◌, ◌≼◌}
use Rattle.xc_model.specs.Parts.{WholeParts}

pub le_refl : (a : WholeParts) → a ≼ a
le_refl a = inr (refl, omega (arith, ints))

pub le_from_lt : (a b : WholeParts) → a ≺ b → a ≼ b
le_from_lt a b h = grind (arith, ints)

pub le_le : (a b c : WholeParts) → a ≼ b → b ≼ c → a ≼ c
le_le a b c h k = grind (arith, ints)

pub lt_le : (a b c : WholeParts) → a ≺ b → b ≼ c → a ≺ c
lt_le a b c h k = grind (arith, ints)

pub le_lt : (a b c : WholeParts) → a ≼ b → b ≺ c → a ≺ c
le_lt a b c h k = grind (arith, ints)

pub irreflexive : (a : WholeParts) → ¬ (a ≺ a)
irreflexive a h = grind (arith, ints)

pub le_or_gt : (x y : WholeParts) → (x ≼ y) ⊎ (y ≺ x)
le_or_gt x y = by_lt_z x.real y.real (λ h. inl (inl h)) (λ h. by_lt_z y.real x.real (λ k. inr (inl k)) (λ k. same (omega (arith, ints))))
  where
    same : x.real ≡ y.real → (x ≼ y) ⊎ (y ≺ x)
    same e = by_lt_z y.tiny x.tiny (λ k. inr (inr (sym e, k))) (λ k. inl (inr (e, k)))
