-- The ends of the interval of a reported fact, and which operation for an end passes.
use Rattle.std.specs.Prelude.{◌≡◌, ℤ, zero, suc, pos, negsuc, neg_ℤ, ◌*◌, ◌≤◌, unsigned_abs, Option, Some, None, IfSome}
use Rattle.xc_model.specs.Fraction.{Fraction, SameNumber, neg_of, sum_of, difference_of}
use Rattle.xc_model.specs.Ratio.{Ratio, fraction_of}
use Rattle.xc_frac.specs.Passes.{Passes, FirstPasses}
use Rattle.xc_frac.specs.declared.wide.Op.{Op}
use Rattle.xc_frac.specs.declared.wide.Op.TheVariants.{Add, Sub}
use Rattle.xc_frac.specs.declared.wide.Wide.{Wide}
use Rattle.xc_interval.specs.Admits.{ten_to}
use Rattle.xc_interval.specs.Ends.{value_of, is_open}
use Rattle.xc_interval.specs.Powers.{ten_to_positive, twice_positive}
use Rattle.xc_interval.specs.declared.ends.End.{End}
use Rattle.xc_interval.specs.declared.ends.End.TheVariants.{Closed, Open}
use Rattle.xc_interval.specs.declared.interval.Interval.{Interval}
use Rattle.xc_interval.specs.declared.mode.Mode.{Mode}
use Rattle.xc_interval.specs.declared.mode.Mode.TheVariants.{Rounding, Truncation}

-- the decimals are from -37 to 37
abbrev pub IsNearPlace : Option ℤ → Type 0
IsNearPlace decimals = IfSome decimals (λ d. unsigned_abs d ≤ 37)

-- 10^-d
abbrev pub unit_of : ℤ → Fraction
unit_of d = record { num = pos (ten_to (neg_ℤ d)); den = ten_to d; positive = ten_to_positive d }

-- 10^-d / 2
abbrev pub half_of : ℤ → Fraction
half_of d = record { num = pos (ten_to (neg_ℤ d)); den = 2 * ten_to d; positive = twice_positive d }

-- the interval of v under rounding
abbrev pub rounded : ℤ → Fraction → Interval Fraction
rounded d v = record { low = Closed (difference_of v (half_of d)); high = Closed (sum_of v (half_of d)) }

-- the interval of v under truncation, by the sign of v
abbrev pub truncated : (sign d : ℤ) → Fraction → Interval Fraction
truncated (pos zero) d v = record { low = Open (neg_of (unit_of d)); high = Open (unit_of d) }
truncated (pos (suc n)) d v = record { low = Closed v; high = Open (sum_of v (unit_of d)) }
truncated (negsuc n) d v = record { low = Open (difference_of v (unit_of d)); high = Closed v }

-- the interval of the fact
abbrev pub reported : Mode → Option ℤ → Fraction → Interval Fraction
reported mode None v = record { low = Closed v; high = Closed v }
reported Rounding (Some d) v = rounded d v
reported Truncation (Some d) v = truncated v.num d v

-- an end is at the number of another, and open as it is
pub record IsSameEnd (e f : End Fraction) : Type 0 where
  pub at : SameNumber (value_of e) (value_of f)
  pub opens : is_open e ≡ is_open f

-- the same ends
pub record IsSameInterval (i j : Interval Fraction) : Type 0 where
  pub low : IsSameEnd i.low j.low
  pub high : IsSameEnd i.high j.high

-- op on v and the number x passes, and w names the operation and the two
pub record PassesWith (op : Op) (v : Ratio) (x : Fraction) (w : Wide) : Type 0 where
  pub op_is : w.op ≡ op
  pub left : w.left ≡ v
  pub right : SameNumber (fraction_of w.right) x
  pub passes : Passes op v w.right

-- no operation is made
abbrev pub NonePasses : Wide → Type 0
NonePasses w = ⊥

-- under truncation a positive value is added to, a negative one subtracted from, and 0 neither
abbrev pub TruncationPasses : (sign d : ℤ) → Ratio → Wide → Type 0
TruncationPasses (pos zero) d v = NonePasses
TruncationPasses (pos (suc n)) d v = PassesWith Add v (unit_of d)
TruncationPasses (negsuc n) d v = PassesWith Sub v (unit_of d)

-- under rounding the difference with half a unit is tried before the sum
abbrev pub RoundingPasses : ℤ → Ratio → Wide → Type 0
RoundingPasses d v = FirstPasses (PassesWith Sub v (half_of d)) (PassesWith Add v (half_of d))

-- the operation for an end that passes, the difference before the sum
abbrev pub ReportPasses : Mode → Option ℤ → Ratio → Wide → Type 0
ReportPasses mode None v = NonePasses
ReportPasses Rounding (Some d) v = RoundingPasses d v
ReportPasses Truncation (Some d) v = TruncationPasses v.num d v
