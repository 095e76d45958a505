-- Operations on both parts of a number.
use Rattle.std.proofs.Common.{Bool, true, false, inl, inr, refl, sym, subst, Ok, Err}
use Rattle.std.specs.Prelude.{Result, IfOk, IfErr, OnOk}
use Rattle.xc_corners.specs.Operations.{operation, Gives}
use Rattle.xc_frac.specs.Passes.{Passes, PassesAs, FirstPasses}
use Rattle.xc_frac.specs.declared.delta.Delta.{Delta}
use Rattle.xc_frac.specs.declared.wide.Op.{Op}
use Rattle.xc_frac.specs.declared.wide.Op.TheVariants.{Add, Sub, Mul, Div}
use Rattle.xc_frac.specs.declared.wide.Wide.{Wide}
use Rattle.xc_model.specs.Fraction.{SameNumber, IsQuotient, product_of}
use Rattle.xc_model.specs.Parts.{Parts, SameParts, sum_parts, difference_parts}
use Rattle.xc_model.specs.Ratio.{Ratio, fraction_of}
use Rattle.xc_model.proofs.Arithmetic.{product-comm}
use Rattle.xc_model.proofs.Numbers.{same-trans}
use Rattle.xc_pivot.specs.Deltas.{of_part, GivesEach, StaysEach, PassesOne}

-- what a number stands for
abbrev pub pair : Delta Ratio → Parts
pair d = record { real = fraction_of d.real; tiny = fraction_of d.tiny }

pub sum_each : (o : Result (Delta Ratio) Wide) (x y : Delta Ratio) → IfOk o (λ r. SameParts (pair r) (sum_parts (pair x) (pair y))) → IfOk o (GivesEach Add (of_part x) (of_part y))
sum_each (Ok r) x y h = λ c. go c
  where
    go : (c : Bool) → Gives Add (of_part x c) (of_part y c) (of_part r c)
    go false = h.real
    go true = h.tiny
sum_each (Err w) x y h = tt

pub difference_each : (o : Result (Delta Ratio) Wide) (x y : Delta Ratio) → IfOk o (λ r. SameParts (pair r) (difference_parts (pair x) (pair y))) → IfOk o (GivesEach Sub (of_part x) (of_part y))
difference_each (Ok r) x y h = λ c. go c
  where
    go : (c : Bool) → Gives Sub (of_part x c) (of_part y c) (of_part r c)
    go false = h.real
    go true = h.tiny
difference_each (Err w) x y h = tt

turned : (r f g : Ratio) → SameNumber (fraction_of r) (product_of (fraction_of f) (fraction_of g)) → Gives Mul g f r
turned r f g h = same-trans (fraction_of r) (product_of (fraction_of f) (fraction_of g)) (product_of (fraction_of g) (fraction_of f)) h (product-comm (fraction_of f) (fraction_of g))

pub product_each : (o : Result (Delta Ratio) Wide) (by : Ratio) (x : Delta Ratio) → IfOk o (λ r. SameNumber (fraction_of r.real) (product_of (fraction_of x.real) (fraction_of by)))
    → IfOk o (λ r. SameNumber (fraction_of r.tiny) (product_of (fraction_of x.tiny) (fraction_of by))) → IfOk o (GivesEach Mul (λ c. by) (of_part x))
product_each (Ok r) by x h k = λ c. go c
  where
    go : (c : Bool) → Gives Mul by (of_part x c) (of_part r c)
    go false = turned r.real x.real by h
    go true = turned r.tiny x.tiny by k
product_each (Err w) by x h k = tt

pub quotient_each : (o : Result (Delta Ratio) Wide) (by : Ratio) (x : Delta Ratio) → IfOk o (λ r. IsQuotient (fraction_of r.real) (fraction_of x.real) (fraction_of by))
    → IfOk o (λ r. IsQuotient (fraction_of r.tiny) (fraction_of x.tiny) (fraction_of by)) → IfOk o (GivesEach Div (of_part x) (λ c. by))
quotient_each (Ok r) by x h k = λ c. go c
  where
    go : (c : Bool) → Gives Div (of_part x c) by (of_part r c)
    go false = h
    go true = k
quotient_each (Err w) by x h k = tt

module _ (op : Op) (f g : Bool → Ratio) where
  pub stays_each : (o : Result (Delta Ratio) Wide) → OnOk o ((w : Wide) → ¬ FirstPasses (PassesAs op (f false) (g false)) (PassesAs op (f true) (g true)) w) → OnOk o (StaysEach op f g)
  stays_each (Ok r) h = λ c. go c
    where
      go : (c : Bool) → ¬ Passes op (f c) (g c)
      go false p = h (operation op (f false) (g false)) (inl (refl, p))
      go true p = h (operation op (f true) (g true)) (inr ((λ v q. h v (inl q)), (refl, p)))
  stays_each (Err w) h = tt

  pub passes_one : (o : Result (Delta Ratio) Wide) → IfErr o (FirstPasses (PassesAs op (f false) (g false)) (PassesAs op (f true) (g true))) → IfErr o (PassesOne op f g)
  passes_one (Ok r) h = tt
  passes_one (Err w) h = go h
    where
      go : FirstPasses (PassesAs op (f false) (g false)) (PassesAs op (f true) (g true)) w → PassesOne op f g w
      go (inl q) = record { part = false; is = q.0; passes = q.1 }
      go (inr q) = record { part = true; is = q.1.0; passes = q.1.1 }

-- what an operation on both parts answers
pub if_each : (o : Result (Delta Ratio) Wide) (op : Op) (f g : Bool → Ratio) (Q : Delta Ratio → Type 0) → IfOk o (GivesEach op f g) → OnOk o (StaysEach op f g) → ((d : Delta Ratio) → GivesEach op f g d → StaysEach op f g → Q d) → IfOk o Q
if_each (Ok d) op f g Q h n k = k d h n
if_each (Err w) op f g Q h n k = tt

pub if_gives : (o : Result (Delta Ratio) Wide) (op : Op) (f g : Bool → Ratio) (Q : Delta Ratio → Type 0) → IfOk o (GivesEach op f g) → ((d : Delta Ratio) → GivesEach op f g d → Q d) → IfOk o Q
if_gives (Ok d) op f g Q h k = k d h
if_gives (Err w) op f g Q h k = tt

pub if_one : (o : Result (Delta Ratio) Wide) (op : Op) (f g : Bool → Ratio) (P : Wide → Type 0) → IfErr o (PassesOne op f g) → ((c : Bool) → Passes op (f c) (g c) → P (operation op (f c) (g c))) → IfErr o P
if_one (Ok d) op f g P h k = tt
if_one (Err w) op f g P h k = subst P (sym h.is) (k h.part h.passes)
