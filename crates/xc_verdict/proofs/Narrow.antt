-- Whether a binding is narrow, from what is found of its width.
use Rattle.std.proofs.Common.{◌≡◌, ℕ, ◌*◌, ◌≤◌, ◌^◌, Bool, List, subst, arith}
use Rattle.std.specs.Prelude.{◌↔◌, IsTrue}
use Rattle.std.proofs.Math.Nat.{le-mul_of_pos_right}
use Rattle.std.proofs.lemmas.Nat.Gcd.{dvd_antisymm}
use Rattle.xc_bind.specs.declared.types.Binding.{Binding}
use Rattle.xc_decimal.specs.Shortest.{ten_positive}
use Rattle.xc_points.specs.declared.types.Point.{Point}
use Rattle.xc_interval.specs.Scales.{saturated}
use Rattle.xc_bind.specs.Equation.{most_places}
use Rattle.xc_verdict.specs.Widths.{width, IsLeastScale, IsNarrowBinding}

module _ (points : List Point) (binding : Binding) where
  -- there is one least common denominator
  one_scale : (d e : ℕ) → IsLeastScale points binding d → IsLeastScale points binding e → d ≡ e
  one_scale d e one other = dvd_antisymm (one.least e other.common) (other.least d one.common)

  pub narrow_if : (d n : ℕ) (b : Bool) → IsLeastScale points binding d → n ≡ saturated (width points binding d) → (IsTrue b ↔ (n ≤ 2 ^ 126)) → IsTrue b ↔ IsNarrowBinding points binding
  narrow_if d n b least is tells = (
    λ yes. record { scale = d; least = least; fits = omega (arith, tells.0 yes, is) },
    λ narrow.
        let fits : width points binding d ≤ 2 ^ 126 = subst (λ e. width points binding e ≤ 2 ^ 126) (one_scale narrow.scale d narrow.least least) narrow.fits in
        tells.1 (omega (arith, fits, is)),
  )

  -- the denominator alone may pass
  pub not_narrow : ((d : ℕ) → IsLeastScale points binding d → 2 ^ 128 ≤ d) → ¬ IsNarrowBinding points binding
  not_narrow wide narrow =
      let d : ℕ = narrow.scale in
      let up : d ≤ d * 10 ^ most_places binding.terms = le-mul_of_pos_right d (ten_positive (most_places binding.terms)) in
      omega (arith, wide d narrow.least, up, narrow.fits)
