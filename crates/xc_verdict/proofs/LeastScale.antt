-- The least common denominator of the ends of a binding's points, as it is found term by term.
use Rattle.std.proofs.Common.{ℕ, ◌*◌, ◌<◌, ◌≤◌, ◌^◌, List, [], ◌∷◌, map, lit<}
use Rattle.std.specs.Prelude.{◌↔◌}
use Rattle.std.proofs.Math.Nat.{mul-pos}
use Rattle.std.proofs.lemmas.Nat.Gcd.{dvd_refl}
use Prim.Native.Nat.{◌∣◌}
use native.Mathlib.Nat.{dvd-mul_right, dvd-mul_left, one-dvd, pos_of_dvd_of_pos}
use Rattle.xc_bind.specs.declared.types.Binding.{Binding}
use Rattle.xc_bind.specs.declared.types.Term.{Term}
use Rattle.xc_interval.specs.Laws.{HaveScales, ScalesGrow}
use Rattle.xc_interval.specs.Scales.{AreOnScale, IsMultipleOf, IsNoneBelow}
use Rattle.xc_points.specs.declared.types.Point.{Point}
use Rattle.xc_verdict.specs.Ranges.{named_points, point_of, range_at, EachHas}
use Rattle.xc_verdict.specs.Widths.{IsCommonScale, IsLeastScale}

-- the multiples of d that are on the scale of what is left are the common ones of all
pub record Scaled (points : List Point) (binding : Binding) (rest : List Term) (d : ℕ) : Type 0 where
  pub positive : 0 < d
  pub tells : (m : ℕ) → ((d ∣ m) × EachHas (λ k. AreOnScale m (range_at points k)) (map point_of rest)) ↔ IsCommonScale points binding m

-- every list of points has a common denominator, and a least one is positive
module _ (some : HaveScales) (grow : ScalesGrow) (points : List Point) where
  each_more : (ks : List ℕ) (m n : ℕ) → m ∣ n → EachHas (λ k. AreOnScale m (range_at points k)) ks → EachHas (λ k. AreOnScale n (range_at points k)) ks
  each_more [] m n h each = tt
  each_more (k ∷ ks) m n h each = (grow (range_at points k) m n h each.0, each_more ks m n h each.1)

  all_scale : (ks : List ℕ) → (m : ℕ) × ((0 < m) × EachHas (λ k. AreOnScale m (range_at points k)) ks)
  all_scale [] = (1, (lit< tt, tt))
  all_scale (k ∷ ks) =
      let one = some (range_at points k) in
      let more = all_scale ks in
      (one.0 * more.0, (mul-pos one.1.0 more.1.0, (grow (range_at points k) one.0 (one.0 * more.0) (dvd-mul_right one.0 more.0) one.1.1, each_more ks more.0 (one.0 * more.0) (dvd-mul_left more.0 one.0) more.1.1)))

  pub least_positive : (binding : Binding) (d : ℕ) → IsLeastScale points binding d → 0 < d
  least_positive binding d least = let all = all_scale (named_points binding) in pos_of_dvd_of_pos (least.least all.0 all.1.1) all.1.0

module _ (points : List Point) (binding : Binding) where
  pub scaled_total : (d : ℕ) → IsMultipleOf 1 (λ m. AreOnScale m (range_at points binding.total)) d → Scaled points binding binding.terms d
  scaled_total d is = record { positive = is.positive; tells = λ m. (λ h. (((is.tells m).0 h.0).1, h.1), λ all. ((is.tells m).1 (one-dvd m, all.0), all.1)) }

  module _ (term : Term) (rest : List Term) (d : ℕ) (so_far : Scaled points binding (term ∷ rest) d) where
    pub scaled_more : (l : ℕ) → IsMultipleOf d (λ m. AreOnScale m (range_at points term.point)) l → Scaled points binding rest l
    scaled_more l is = record {
      positive = is.positive;
      tells = λ m. (
        λ h. let both = (is.tells m).0 h.0 in (so_far.tells m).0 (both.0, (both.1, h.1)),
        λ all. let before = (so_far.tells m).1 all in ((is.tells m).1 (before.0, before.1.0), before.1.1),
      );
    }

    pub none_more : HaveScales → ScalesGrow → IsNoneBelow d (λ m. AreOnScale m (range_at points term.point)) → (n : ℕ) → IsLeastScale points binding n → 2 ^ 128 ≤ n
    none_more some grow none n least =
        let before = (so_far.tells n).1 least.common in
        none n (least_positive some grow points binding n least) before.0 before.1.0

  pub none_total : HaveScales → ScalesGrow → IsNoneBelow 1 (λ m. AreOnScale m (range_at points binding.total)) → (n : ℕ) → IsLeastScale points binding n → 2 ^ 128 ≤ n
  none_total some grow none n least = none n (least_positive some grow points binding n least) (one-dvd n) least.common.0

  pub scaled_all : (d : ℕ) → Scaled points binding [] d → IsLeastScale points binding d
  scaled_all d scaled = record { common = (scaled.tells d).0 (dvd_refl d, tt); least = λ m all. ((scaled.tells m).1 all).0 }
