use Rattle.std.proofs.Common.{◌≡◌, true, false, pos}
use Rattle.xc_interval.specs.Intervals.{frac_parts}
use Rattle.xc_interval.proofs.Emptiness.{tells_numbers}
use Rattle.xc_model.proofs.Numbers.{same-refl}
use Rattle.xc_model.specs.Fraction.{whole}
use Rattle.xc_interval.proofs.laws.ranges_have_numbers.Goals as goal

false_true : false ≡ true → ⊥
false_true e = cc

pub returns : goal.returns
returns c es i is = tells_numbers frac_parts (λ e. same-refl (whole (pos 0))) i false (λ e. absurd (false_true e), λ h. absurd (is.some h))
