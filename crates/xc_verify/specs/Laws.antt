-- What follows from the definitions for all systems and certificates.
use Rattle.std.specs.Prelude.{◌≡◌, ◌<◌, ◌++◌, ℕ, List, Ok, Result, length}
use Rattle.xc_frac.specs.declared.wide.Wide.{Wide}
use Rattle.xc_model.specs.Ratio.{Ratio}
use Rattle.xc_system.specs.Kept.{IsRefutation, Multipliers}
use Rattle.xc_system.specs.Refutations.{IsContradiction}
use Rattle.xc_system.specs.Solutions.{Solves}
use Rattle.xc_system.specs.Systems.{Constraints, IsSystem, equation_at}
use Rattle.xc_system.specs.declared.types.Certificate.{Certificate}
use Rattle.xc_system.specs.declared.types.Certificate.TheVariants.{Feasible, Infeasible}
use Rattle.xc_verify.specs.Feasible.{assignment_of, equation_terms}
use Rattle.xc_verify.specs.Infeasible.{coefficient_terms, constant_terms}
use Rattle.xc_verify.specs.Judgements.{IsJudgement, Proves}
use Rattle.xc_verify.specs.Sums.{Term, IsSum, IsSumOf}
use Rattle.xc_verify.specs.declared.types.Judgement.{Judgement}
use Rattle.xc_verify.specs.declared.types.Judgement.TheVariants.{Accepted}

-- a certificate has one judgement
abbrev pub HasOneJudgement : Type 0
HasOneJudgement = (s : Constraints) (c : Certificate) (j k : Judgement) → IsJudgement s c j → IsJudgement s c k → j ≡ k

-- what is kept of a certificate that was read or made: the lines of a refutation are in order, and its multipliers as they have to be
abbrev pub IsKept : Certificate → Type 0
IsKept (Feasible values) = Unit {0}
IsKept (Infeasible r) = IsRefutation r

-- a certificate that is accepted proves what it claims
abbrev pub AcceptanceProves : Type 0
AcceptanceProves = (s : Constraints) (c : Certificate) → IsSystem s → IsKept c → IsJudgement s c Accepted → Proves s c

-- terms have one sum
abbrev pub HasOneSum : Type 0
HasOneSum = (ts : List Term) (a b : Result Ratio Wide) → IsSumOf ts a → IsSumOf ts b → a ≡ b

-- values that solve the system are accepted where no operation passes in the sums of its equations
abbrev pub SolutionsAreAccepted : Type 0
SolutionsAreAccepted = (s : Constraints) (values : List Ratio) → length values ≡ s.points → Solves s (assignment_of values)
    → ((i : ℕ) → i < length s.equations → (x : Ratio) × IsSumOf (equation_terms values (equation_at s.equations i).entries) (Ok x))
    → IsJudgement s (Feasible values) Accepted

-- and a contradiction where none passes in its coefficients and its constant
abbrev pub ContradictionsAreAccepted : Type 0
ContradictionsAreAccepted = (s : Constraints) (r : Multipliers) → IsContradiction s r
    → ((p : ℕ) → p < s.points → (x : Ratio) × IsSumOf (coefficient_terms s r p) (Ok x))
    → ((x : Ratio) × IsSumOf (constant_terms s r) (Ok x))
    → IsJudgement s (Infeasible r) Accepted

-- some terms are summed, and then more
abbrev pub SumsGoOn : Type 0
SumsGoOn = (a b e : Result Ratio Wide) (xs ys : List Term) → IsSum a xs b → IsSum b ys e → IsSum a (xs ++ ys) e
