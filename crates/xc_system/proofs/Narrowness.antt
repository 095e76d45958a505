-- What a common scale of a component and its reach say of its width.
use Rattle.std.proofs.Common.{◌≡◌, ℕ, ◌+◌, ◌*◌, ◌^◌, ◌<◌, ◌≤◌, length, Option, Some, None, refl, sym, ap, ap₂, subst, ◌∙◌, arith, true≢false}
use Rattle.std.proofs.Math.Dec.{leb}
use Rattle.std.proofs.lemmas.Bool.{leb-true, le-leb}
use Rattle.xc_interval.specs.Laws.{SumsStay, ProductsStay}
use Rattle.std.specs.Prelude.{IsSome, IsSomeAnd, IfSome, IsTrue, ◌↔◌}
use Rattle.std.proofs.Math.Nat.{one-dvd}
use Rattle.std.proofs.lemmas.Nat.Gcd.{dvd_antisymm, dvd_refl}
use Rattle.xc_interval.specs.Scales.{HasEndsOnScale, IsMultipleOf, IsNoneBelow, saturated}
use Rattle.xc_system.specs.Forests.{EachFact, IsCommonScale, IsLeastScale, IsNarrow, total_reach}
use Rattle.xc_system.specs.Steps.Measured.{ArePointsOver}
use Rattle.xc_system.specs.Systems.{Constraints, range_at}
use Rattle.xc_system.specs.declared.types.Component.{Component}

some_of : {X : Type 0} (o : Option X) (P : X → Type 0) → IsSomeAnd o P → IsSome o
some_of None P h = absurd h
some_of (Some x) P h = refl

if_of : {X : Type 0} (o : Option X) (P : X → Type 0) → IsSomeAnd o P → IfSome o P
if_of None P h = absurd h
if_of (Some x) P h = h

and_of : {X : Type 0} (o : Option X) (P : X → Type 0) → IsSome o → IfSome o P → IsSomeAnd o P
and_of None P s h = absurd (true≢false (sym s))
and_of (Some x) P s h = h

module _ (s : Constraints) (c : Component) where
  over_known : (d : ℕ) → ArePointsOver s.bounds c.points d → EachFact s c (λ k. IsSome (range_at s.bounds k))
  over_known d h i e l j f m = some_of (range_at s.bounds _) (HasEndsOnScale d) (h i e l j f m)

  over_common : (d : ℕ) → ArePointsOver s.bounds c.points d → IsCommonScale s c d
  over_common d h i e l j f m = if_of (range_at s.bounds _) (HasEndsOnScale d) (h i e l j f m)

  over_from : (d : ℕ) → EachFact s c (λ k. IsSome (range_at s.bounds k)) → IsCommonScale s c d → ArePointsOver s.bounds c.points d
  over_from d known h i e l j f m = and_of (range_at s.bounds _) (HasEndsOnScale d) (known i e l j f m) (h i e l j f m)

  -- what is the least multiple is the least scale
  least_scale : (d : ℕ) → IsMultipleOf 1 (ArePointsOver s.bounds c.points) d → EachFact s c (λ k. IsSome (range_at s.bounds k)) × IsLeastScale s c d
  least_scale d h =
      let over : ArePointsOver s.bounds c.points d = ((h.tells d).0 (dvd_refl d)).1 in
      (over_known d over, record { positive = h.positive; common = over_common d over; least = λ m common. (h.tells m).1 (one-dvd m, over_from m (over_known d over) common) })

  pub narrow_from : (d : ℕ) → IsMultipleOf 1 (ArePointsOver s.bounds c.points) d → (2 * length c.points + 4) * (d + total_reach s c d) ≤ 2 ^ 126 → EachFact s c (λ k. IsSome (range_at s.bounds k)) × IsNarrow s c
  narrow_from d h fits = let l = least_scale d h in (l.0, record { scale = d; is_least = l.1; fits = fits })

  pub narrow_to : (d : ℕ) → IsMultipleOf 1 (ArePointsOver s.bounds c.points) d → IsNarrow s c → (2 * length c.points + 4) * (d + total_reach s c d) ≤ 2 ^ 126
  narrow_to d h n =
      let l = least_scale d h in
      let same : n.scale ≡ d = dvd_antisymm (n.is_least.least d l.1.common) (l.1.least n.scale n.is_least.common) in
      subst (λ (m : ℕ). (2 * length c.points + 4) * (m + total_reach s c m) ≤ 2 ^ 126) same n.fits

  pub narrow_none : IsNoneBelow 1 (ArePointsOver s.bounds c.points) → EachFact s c (λ k. IsSome (range_at s.bounds k)) → IsNarrow s c → ⊥
  narrow_none h known n =
      let far : 2 ^ 128 ≤ n.scale = h n.scale n.is_least.positive (one-dvd n.scale) (over_from n.scale known n.is_least.common) in
      clash (length c.points) n.scale (total_reach s c n.scale) far n.fits
    where
      clash : (n d r : ℕ) → 2 ^ 128 ≤ d → (2 * n + 4) * (d + r) ≤ 2 ^ 126 → ⊥
      clash n d r far fits =
          let more : d + r ≤ (2 * n + 4) * (d + r) = grind arith in
          omega arith

-- sums that stay at their end tell whether the exact ones leave room
stays : (f scale e reach add mul : ℕ) → scale < 2 ^ 128 → SumsStay → ProductsStay → reach ≡ saturated e → add ≡ saturated (scale + reach) → mul ≡ saturated (f * add) → mul ≡ saturated (f * (scale + e))
stays f scale e reach add mul fits sums products reach_is add_is mul_is =
    let own : saturated scale ≡ scale = omega arith in
    let added : add ≡ saturated (scale + e) = add_is ∙ ap₂ (λ (x y : ℕ). saturated (x + y)) (sym own) reach_is ∙ sums scale e in
    mul_is ∙ ap (λ (x : ℕ). saturated (f * x)) added ∙ products f (scale + e)

pub room_told : (f scale e reach add mul : ℕ) → scale < 2 ^ 128 → SumsStay → ProductsStay → reach ≡ saturated e → add ≡ saturated (scale + reach) → mul ≡ saturated (f * add) → IsTrue (leb mul (2 ^ 126)) ↔ (f * (scale + e) ≤ 2 ^ 126)
room_told f scale e reach add mul fits sums products reach_is add_is mul_is = by (f * (scale + e)) mul (stays f scale e reach add mul fits sums products reach_is add_is mul_is)
  where
    by : (x m : ℕ) → m ≡ saturated x → IsTrue (leb m (2 ^ 126)) ↔ (x ≤ 2 ^ 126)
    by x m is = (λ h. let l : m ≤ 2 ^ 126 = leb-true m (2 ^ 126) h in omega arith, λ h. le-leb m (2 ^ 126) (omega arith))
