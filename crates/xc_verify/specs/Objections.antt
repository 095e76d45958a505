-- What is met first, where things are gone through in an order.
use Rattle.std.specs.Prelude.{◌≡◌, ℕ, ◌<◌, ◌⊎◌, pos, List, Option, Some, None, Result, Ok, Err}
use Rattle.xc_frac.specs.declared.wide.Wide.{Wide}
use Rattle.xc_model.specs.Ratio.{Ratio}
use Rattle.xc_verify.specs.Sums.{Term, IsSumOf}
use Rattle.xc_verify.specs.declared.types.Judgement.{Judgement}
use Rattle.xc_verify.specs.declared.types.Judgement.TheVariants as judgement
use Rattle.xc_verify.specs.declared.types.Objection.{Objection}
use Rattle.xc_verify.specs.declared.types.Objection.TheVariants.{Misses, WideFact, TooWide}
use Rattle.xc_verify.specs.declared.types.What.{What}

-- the objection of a judgement; none where it accepts
abbrev pub objection_of : Judgement → Option Objection
objection_of judgement.Accepted = None
objection_of (judgement.Misses what) = Some (Misses what)
objection_of (judgement.WideFact k) = Some (WideFact k)
objection_of (judgement.TooWide what w) = Some (TooWide what w)

-- what is met in the one, or where nothing is, in the other
abbrev pub IsFirstOf : (Option Objection → Type 0) → (Option Objection → Type 0) → Option Objection → Type 0
IsFirstOf one other None = one None × other None
IsFirstOf one other (Some o) = one (Some o) ⊎ (one None × other (Some o))

-- what is met first at the numbers below n, from 0 upwards
abbrev pub IsFirstBelow : ℕ → (ℕ → Option Objection → Type 0) → Option Objection → Type 0
IsFirstBelow n Met None = (i : ℕ) → i < n → Met i None
IsFirstBelow n Met (Some o) = (i : ℕ) × (i < n) × ((k : ℕ) → k < i → Met k None) × Met i (Some o)

-- what is met at the end of a sum: an operation that passed, or else that the sum is not as it has to be
abbrev pub IsMetAt : What → (Ratio → Type 0) → Result Ratio Wide → Option Objection → Type 0
IsMetAt what IsRight (Err w) met = met ≡ Some (TooWide what w)
IsMetAt what IsRight (Ok x) None = IsRight x
IsMetAt what IsRight (Ok x) (Some o) = (¬ IsRight x) × (o ≡ Misses what)

-- what is met in the sum of these terms, which has to be so
pub record IsMetIn (what : What) (IsRight : Ratio → Type 0) (ts : List Term) (met : Option Objection) : Type 0 where
  pub end : Result Ratio Wide
  pub sum : IsSumOf ts end
  pub is_met : IsMetAt what IsRight end met

-- the number is 0
abbrev pub IsNothing : Ratio → Type 0
IsNothing x = x.num ≡ pos 0
