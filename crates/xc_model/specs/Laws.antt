-- Laws of arithmetic and of orders, said of numbers and pairs alike.
use Rattle.std.specs.Prelude.{◌≡◌, ◌≢◌, pos, ◌*ℤ◌, ◌↔◌}
use Rattle.std.specs.Ordering.{ordering_reverse}
use Rattle.std.specs.declared.cmp.Ordering.{Ordering}
use Rattle.xc_model.specs.Fraction.{Fraction, SameNumber, whole, IsQuotient}
use Rattle.xc_model.specs.Order.{Orders, OrdersInt}
use Rattle.xc_model.specs.Ratio.{Ratio, fraction_of}
use Rattle.xc_model.specs.Parts.{Parts, OrdersParts}

module _ {A : Type 0} (Same : A → A → Type 0) where
  -- being the same is an equivalence
  pub record IsEquivalence : Type 0 where
    pub reflexive : (x : A) → Same x x
    pub symmetric : (x y : A) → Same x y → Same y x
    pub transitive : (x y z : A) → Same x y → Same y z → Same x z

  -- f of the same is the same
  abbrev pub Respects : (A → A) → Type 0
  Respects f = (x y : A) → Same x y → Same (f x) (f y)

  module _ (op : A → A → A) where
    -- op of the same is the same
    abbrev pub BothRespected : Type 0
    BothRespected = (x y x' y' : A) → Same x x' → Same y y' → Same (op x y) (op x' y')

    -- (x op y) op z is x op (y op z)
    abbrev pub IsAssociative : Type 0
    IsAssociative = (x y z : A) → Same (op (op x y) z) (op x (op y z))

    -- x op y is y op x
    abbrev pub IsCommutative : Type 0
    IsCommutative = (x y : A) → Same (op x y) (op y x)

    -- x op e is x
    abbrev pub IsNeutral : A → Type 0
    IsNeutral e = (x : A) → Same (op x e) x

    -- x op (inverse x) is e
    abbrev pub GivesInverses : (A → A) → A → Type 0
    GivesInverses inverse e = (x : A) → Same (op x (inverse x)) e

    -- x op (y add z) is (x op y) add (x op z)
    abbrev pub DistributesOver : (A → A → A) → Type 0
    DistributesOver add = (x y z : A) → Same (op x (add y z)) (add (op x y) (op x z))

-- x times k, of things of one kind by things of another
module _ {A B : Type 0} (Same : A → A → Type 0) (times : A → B → A) where
  -- what is alike has alike multiples
  abbrev pub AlikeMultiples : (B → B → Type 0) → Type 0
  AlikeMultiples Alike = (x y : A) (k l : B) → Same x y → Alike k l → Same (times x k) (times y l)

  -- (x op y) k is (x k) op (y k)
  abbrev pub DistributesOverThings : (A → A → A) → Type 0
  DistributesOverThings op = (x y : A) (k : B) → Same (times (op x y) k) (op (times x k) (times y k))

  -- x (k add l) is (x k) op (x l)
  abbrev pub DistributesOverFactors : (B → B → B) → (A → A → A) → Type 0
  DistributesOverFactors add op = (x : A) (k l : B) → Same (times x (add k l)) (op (times x k) (times x l))

  -- (x k) l is x (k by l)
  abbrev pub MultipliesFactors : (B → B → B) → Type 0
  MultipliesFactors by = (x : A) (k l : B) → Same (times (times x k) l) (times x (by k l))

  -- x one is x
  abbrev pub HasOneFactor : B → Type 0
  HasOneFactor one = (x : A) → Same (times x one) x

-- o compares x with y
module _ {A : Type 0} (Compares : Ordering → A → A → Type 0) where
  -- any two compare
  abbrev pub IsTotal : Type 0
  IsTotal = (x y : A) → (o : Ordering) × Compares o x y

  -- in one way alone
  abbrev pub IsSingle : Type 0
  IsSingle = (o p : Ordering) (x y : A) → Compares o x y → Compares p x y → o ≡ p

  -- and the other way round when they are exchanged
  abbrev pub IsAntisymmetric : Type 0
  IsAntisymmetric = (o : Ordering) (x y : A) → Compares o x y → Compares (ordering_reverse o) y x

  -- what x is to y and y to z, x is to z
  abbrev pub IsTransitive : Type 0
  IsTransitive = (o : Ordering) (x y z : A) → Compares o x y → Compares o y z → Compares o x z

  -- the same compare alike
  abbrev pub ComparesAlike : (A → A → Type 0) → Type 0
  ComparesAlike Same = (o : Ordering) (x y x' y' : A) → Same x x' → Same y y' → Compares o x y → Compares o x' y'

  -- f keeps the order
  abbrev pub Keeps : (A → A) → Type 0
  Keeps f = (o : Ordering) (x y : A) → Compares o x y → Compares o (f x) (f y)

  -- f turns the order round
  abbrev pub Reverses : (A → A) → Type 0
  Reverses f = (o : Ordering) (x y : A) → Compares o x y → Compares o (f y) (f x)

-- a number compares with 0 as its numerator does
abbrev pub SignsTell : Type 0
SignsTell = (o : Ordering) (x : Fraction) → Orders o x (whole (pos 0)) → OrdersInt o x.num (pos 0)

-- without tiny parts, pairs compare as their real parts do
abbrev pub RealsCompare : Type 0
RealsCompare = (o : Ordering) (x y : Parts) → SameNumber x.tiny (whole (pos 0)) → SameNumber y.tiny (whole (pos 0))
    → OrdersParts o x y → Orders o x.real y.real

-- a number other than 0 divides every number
abbrev pub Divides : Type 0
Divides = (x y : Fraction) → y.num ≢ pos 0 → (q : Fraction) × IsQuotient q x y

-- and in one way alone
abbrev pub DividesOnce : Type 0
DividesOnce = (q q' x y : Fraction) → IsQuotient q x y → IsQuotient q' x y → SameNumber q q'

-- the numerators over each other's denominators are the same exactly where the numbers are
abbrev pub CrossProductsTell : Type 0
CrossProductsTell = (f g : Ratio) → (f.num *ℤ g.den ≡ g.num *ℤ f.den) ↔ SameNumber (fraction_of f) (fraction_of g)

-- a number has one fraction in lowest terms
abbrev pub HasOneLowest : Type 0
HasOneLowest = (f g : Ratio) → SameNumber (fraction_of f) (fraction_of g) → f ≡ g
