-- The checker's sums: terms are added in a given order, and the first operation that passes ends a sum.
use Rattle.std.specs.Prelude.{◌≡◌, pos, List, [], ◌∷◌, Result, Ok, Err}
use Rattle.xc_frac.specs.declared.wide.Op.{Op}
use Rattle.xc_frac.specs.declared.wide.Op.TheVariants.{Add, Sub, Mul}
use Rattle.xc_frac.specs.declared.wide.Wide.{Wide}
use Rattle.xc_model.specs.Ratio.{Ratio}
use Rattle.xc_verify.specs.Zero.{zero_lowest}
use Rattle.xc_verify.specs.Operations.{IsResult}

-- what a term adds to a sum: a number, its negative, a product of two, or the negative of one
pub data Term : Type 0 where
  plus : Ratio → Term
  minus : Ratio → Term
  plus_product : Ratio → Ratio → Term
  minus_product : Ratio → Ratio → Term

-- 0, where a sum starts
abbrev pub zero_ratio : Ratio
zero_ratio = record { num = pos 0; den = pos 1; lowest = zero_lowest }

-- op on x and what a product gave: where that passed, it is what passes here
abbrev pub IsOnward : Op → Ratio → Result Ratio Wide → Result Ratio Wide → Type 0
IsOnward op x (Ok y) next = IsResult op x y next
IsOnward op x (Err w) next = next ≡ Err w

-- a sum x with one term more: a product is taken first, and then added or subtracted
abbrev pub IsWith : Ratio → Term → Result Ratio Wide → Type 0
IsWith x (plus f) next = IsResult Add x f next
IsWith x (minus f) next = IsResult Sub x f next
IsWith x (plus_product f g) next = (p : Result Ratio Wide) × IsResult Mul f g p × IsOnward Add x p next
IsWith x (minus_product f g) next = (p : Result Ratio Wide) × IsResult Mul f g p × IsOnward Sub x p next

-- the same of a sum in which an operation may have passed: it stays at the first that did
abbrev pub IsNext : Result Ratio Wide → Term → Result Ratio Wide → Type 0
IsNext (Ok x) t next = IsWith x t next
IsNext (Err w) t next = next ≡ Err w

-- a sum with these terms more, one after another
abbrev pub IsSum : Result Ratio Wide → List Term → Result Ratio Wide → Type 0
IsSum start [] end = start ≡ end
IsSum start (t ∷ ts) end = (next : Result Ratio Wide) × IsNext start t next × IsSum next ts end

-- the sum of these terms, from 0
abbrev pub IsSumOf : List Term → Result Ratio Wide → Type 0
IsSumOf ts end = IsSum (Ok zero_ratio) ts end
