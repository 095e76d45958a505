-- The judgement of a certificate, and what a certificate proves.
use Rattle.std.specs.Prelude.{◌≡◌, ◌<◌, length, Option}
use Rattle.xc_system.specs.Refutations.{IsContradiction}
use Rattle.xc_system.specs.Solutions.{Assignment, Solves, MaySolve}
use Rattle.xc_system.specs.Systems.{Constraints}
use Rattle.xc_system.specs.declared.types.Certificate.{Certificate}
use Rattle.xc_system.specs.declared.types.Certificate.TheVariants.{Feasible, Infeasible}
use Rattle.xc_verify.specs.Feasible.{AreValuesMet, assignment_of}
use Rattle.xc_verify.specs.Infeasible.{IsRefutationMet}
use Rattle.xc_verify.specs.Objections.{objection_of}
use Rattle.xc_verify.specs.declared.types.Judgement.{Judgement}
use Rattle.xc_verify.specs.declared.types.Judgement.TheVariants.{Accepted, Misses, WideFact, TooWide}
use Rattle.xc_verify.specs.declared.types.Objection.{Objection}
use Rattle.xc_verify.specs.declared.types.What.{What}
use Rattle.xc_verify.specs.declared.types.What.TheVariants as what

-- what is met first in a certificate
abbrev pub IsMet : Constraints → Certificate → Option Objection → Type 0
IsMet s (Feasible values) met = AreValuesMet s values met
IsMet s (Infeasible r) met = IsRefutationMet s r met

-- the judgement of a certificate: it is accepted where nothing is met in it, and otherwise what is met first is the objection
abbrev pub IsJudgement : Constraints → Certificate → Judgement → Type 0
IsJudgement s c j = IsMet s c (objection_of j)

-- what a certificate claims of the system, told without a checker: it has a value for each point, and these solve it; or its
-- multipliers contradict it, so that no assignment solves it, whatever a wide fact might stand for
abbrev pub Proves : Constraints → Certificate → Type 0
Proves s (Feasible values) = (length values ≡ s.points) × Solves s (assignment_of values)
Proves s (Infeasible r) = IsContradiction s r × ((z : Assignment) → ¬ MaySolve s z)

-- the judgement names an operation that passes 128 bits
abbrev pub IsTooWide : Judgement → Type 0
IsTooWide Accepted = ⊥
IsTooWide (Misses what) = ⊥
IsTooWide (WideFact k) = ⊥
IsTooWide (TooWide what w) = Unit {0}

-- an operation is told of a point, a binding or the constant
abbrev pub IsSummed : What → Type 0
IsSummed (what.Fact k) = ⊥
IsSummed (what.Point p) = Unit {0}
IsSummed (what.Binding i) = Unit {0}
IsSummed what.Constant = Unit {0}

-- a wide fact that is named is one of the system, and no operation is told of a fact
abbrev pub NamesKnown : Constraints → Judgement → Type 0
NamesKnown s Accepted = Unit {0}
NamesKnown s (Misses what) = Unit {0}
NamesKnown s (WideFact k) = k < length s.bounds
NamesKnown s (TooWide what w) = IsSummed what
