-- The ends of sums, negatives and multiples of intervals, and what lies in these.
use Rattle.std.specs.Prelude.{◌≡◌, ◌||◌, ◌<ℤ◌, pos}
use Rattle.xc_model.specs.Fraction.{Fraction, SameNumber, IsBelow, neg_of, sum_of, product_of}
use Rattle.xc_model.specs.Parts.{Parts, IsLess, SameParts, neg_parts, sum_parts}
use Rattle.xc_interval.specs.Ends.{value_of, is_open}
use Rattle.xc_interval.specs.Intervals.{LiesIn}
use Rattle.xc_interval.specs.declared.ends.End.{End}
use Rattle.xc_interval.specs.declared.interval.Interval.{Interval}

module _ {A : Type 0} (Same : A → A → Type 0) where
  -- the end s is at the sum of the values of e and f, and open exactly where one of them is
  pub record IsSumEnd (sum : A → A → A) (e f s : End A) : Type 0 where
    pub at : Same (value_of s) (sum (value_of e) (value_of f))
    pub opens : is_open s ≡ is_open e || is_open f

  -- the end m is at what f makes of the value of e, and open exactly where e is
  pub record IsMadeEnd (f : A → A) (e m : End A) : Type 0 where
    pub at : Same (value_of m) (f (value_of e))
    pub opens : is_open m ≡ is_open e

  -- the low ends give the low end, the high ends the high one
  pub record IsSumInterval (sum : A → A → A) (i j s : Interval A) : Type 0 where
    pub low : IsSumEnd sum i.low j.low s.low
    pub high : IsSumEnd sum i.high j.high s.high

  -- each end gives the end of its side
  pub record IsKept (f : A → A) (i m : Interval A) : Type 0 where
    pub low : IsMadeEnd f i.low m.low
    pub high : IsMadeEnd f i.high m.high

  -- each end gives the end of the other side
  pub record IsTurned (f : A → A) (i m : Interval A) : Type 0 where
    pub low : IsMadeEnd f i.high m.low
    pub high : IsMadeEnd f i.low m.high

module _ {A : Type 0} (Less Same : A → A → Type 0) where
  -- x is the sum of a value of i and a value of j
  pub record IsSumFrom (sum : A → A → A) (i j : Interval A) (x : A) : Type 0 where
    pub left : A
    pub right : A
    pub in_left : LiesIn Less Same i left
    pub in_right : LiesIn Less Same j right
    pub adds : Same (sum left right) x

  -- x is what f makes of a value of i
  pub record IsMadeFrom (f : A → A) (i : Interval A) (x : A) : Type 0 where
    pub from : A
    pub lies : LiesIn Less Same i from
    pub makes : Same (f from) x

-- x is the sum of one pair of each
abbrev pub IsSumOfPairs : Interval Parts → Interval Parts → Parts → Type 0
IsSumOfPairs i j x = IsSumFrom IsLess SameParts sum_parts i j x

-- x is the sum of one number of each
abbrev pub IsSumOfNumbers : Interval Fraction → Interval Fraction → Fraction → Type 0
IsSumOfNumbers i j x = IsSumFrom IsBelow SameNumber sum_of i j x

-- x is the negative of a pair of i, or of a number of it
abbrev pub IsNegativeOfPair : Interval Parts → Parts → Type 0
IsNegativeOfPair i x = IsMadeFrom IsLess SameParts neg_parts i x

abbrev pub IsNegativeOfNumber : Interval Fraction → Fraction → Type 0
IsNegativeOfNumber i x = IsMadeFrom IsBelow SameNumber neg_of i x

-- x is k times a number of i
abbrev pub IsMultiple : Fraction → Interval Fraction → Fraction → Type 0
IsMultiple k i x = IsMadeFrom IsBelow SameNumber (λ y. product_of y k) i x

-- the ends of i times k, which change places where k is negative
abbrev pub IsScaled : Fraction → Interval Fraction → Interval Fraction → Type 0
IsScaled k i m = ((pos 0 <ℤ k.num) → IsKept SameNumber (λ y. product_of y k) i m) × ((k.num <ℤ pos 0) → IsTurned SameNumber (λ y. product_of y k) i m)
