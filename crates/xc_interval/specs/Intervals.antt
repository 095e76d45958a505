-- What lies in an interval. The values may be of any kind that has an order: numbers, or numbers with an infinitely small part.
use Rattle.std.specs.Prelude.{pos, ◌⊎◌, ◌||◌, Bool, true, false, IsTrue}
use Rattle.xc_model.specs.Fraction.{Fraction, whole, SameNumber, IsBelow}
use Rattle.xc_model.specs.Ratio.{Ratio, fraction_of}
use Rattle.xc_model.specs.Parts.{Parts, IsLess, SameParts, real_alone}
use Rattle.xc_interval.specs.Ends.{value_of, is_open, end_at}
use Rattle.xc_interval.specs.declared.ends.End.{End}
use Rattle.xc_interval.specs.declared.ends.End.TheVariants.{Closed, Open}
use Rattle.xc_interval.specs.declared.interval.Interval.{Interval}

-- the interval between what the ends' values stand for
abbrev pub between : {E A : Type 0} → (E → A) → Interval E → Interval A
between meaning i = record { low = end_at meaning i.low; high = end_at meaning i.high }

module _ {A : Type 0} (Less Same : A → A → Type 0) where
  -- x is at most y
  abbrev pub IsAtMost : A → A → Type 0
  IsAtMost x y = Less x y ⊎ Same x y

  -- x is past a low end
  abbrev pub IsPast : End A → A → Type 0
  IsPast (Closed e) x = IsAtMost e x
  IsPast (Open e) x = Less e x

  -- x is before a high end
  abbrev pub IsBefore : End A → A → Type 0
  IsBefore (Closed e) x = IsAtMost x e
  IsBefore (Open e) x = Less x e

  -- x lies in the interval
  pub record LiesIn (i : Interval A) (x : A) : Type 0 where
    pub low : IsPast i.low x
    pub high : IsBefore i.high x

  -- the low end passes the high one, or equals it while one of them is open
  abbrev pub Crosses : Interval A → Type 0
  Crosses i = Less (value_of i.high) (value_of i.low) ⊎ (Same (value_of i.low) (value_of i.high) × IsTrue (is_open i.low || is_open i.high))

-- with an infinitely small part

-- the interval with the parts of its ends
abbrev pub pairs_of : {E : Type 0} → (E → Parts) → Interval E → Interval Parts
pairs_of parts i = between parts i

-- the pair x lies in the interval
abbrev pub HasPair : Interval Parts → Parts → Type 0
HasPair i x = LiesIn IsLess SameParts i x

-- no pair lies in it
abbrev pub HasNoPair : Interval Parts → Type 0
HasNoPair i = Crosses IsLess SameParts i

-- numbers alone

-- the parts have no infinitely small part
abbrev pub AreReal : {E : Type 0} → (E → Parts) → Type 0
AreReal {E} parts = (e : E) → SameNumber (parts e).tiny (whole (pos 0))

-- the interval with the real parts of its ends
abbrev pub reals_of : {E : Type 0} → (E → Parts) → Interval E → Interval Fraction
reals_of parts i = between (λ e. (parts e).real) i

-- the parts of a fraction
abbrev pub frac_parts : Ratio → Parts
frac_parts f = real_alone (fraction_of f)

-- the interval with its ends as numbers
abbrev pub numbers_of : Interval Ratio → Interval Fraction
numbers_of i = between (λ f. fraction_of f) i

-- the number x lies in the interval: for closed ends, low <= x <= high
abbrev pub HasNumber : Interval Fraction → Fraction → Type 0
HasNumber i x = LiesIn IsBelow SameNumber i x

-- no number lies in it
abbrev pub HasNoNumber : Interval Fraction → Type 0
HasNoNumber i = Crosses IsBelow SameNumber i

-- something has the property where the answer is no, and nothing where it is yes
abbrev pub TellsNone : {A : Type 0} → Bool → (A → Type 0) → Type 0
TellsNone {A} true P = (x : A) → ¬ P x
TellsNone {A} false P = (x : A) × P x
