-- What a command answers, from what its parts answer.
use Rattle.std.proofs.Common.{◌≡◌, Result, Ok, Err, sym, subst}
use Rattle.xc_top.specs.Steps.Stops.{Answers, IsAnswerIn, IsSettled, IsEnding}
use Rattle.xc_top.specs.declared.status.Answer.{Answer}
use Rattle.xc_top.specs.declared.status.Status.{Status}
use Rattle.xc_top.specs.declared.status.Status.TheVariants.{Sound, Findings, Usage, Refused, TooWide, ReadFault, WriteFault, Memory}
use Rattle.xc_top.specs.declared.status.Stop.{Stop}
use Rattle.xc_top.specs.declared.status.Stop.TheVariants as stop

-- what was answered has what follows from what it has
pub if_answers : {P Q : Answer → Type 0} (r : Result Answer Stop) → ((a : Answer) → P a → Q a) → Answers r P → Answers r Q
if_answers (Ok a) f h = f a h
if_answers (Err stop.Memory) f h = tt
if_answers (Err (stop.Named a)) f h = f a h

pub if_answers_both : {P Q R : Answer → Type 0} (r : Result Answer Stop) → ((a : Answer) → P a → Q a → R a) → Answers r P → Answers r Q → Answers r R
if_answers_both (Ok a) f h k = f a h k
if_answers_both (Err stop.Memory) f h k = tt
if_answers_both (Err (stop.Named a)) f h k = f a h k

-- the answer that was settled on has what was answered has
pub answer_in : (P : Answer → Type 0) (r : Result Answer Stop) (answer : Answer) → IsAnswerIn r answer → Answers r P → P answer
answer_in P (Ok a) answer e h = subst P (sym e) h
answer_in P (Err stop.Memory) answer e h = absurd e
answer_in P (Err (stop.Named a)) answer e h = subst P (sym e) h

-- a status that is settled is no read fault, and ends a run
pub no_fault : (s : Status) → IsSettled s → ¬ (s ≡ ReadFault)
no_fault s settled e = subst (λ t. IsSettled t) e settled

pub settled_ends : (s : Status) → IsSettled s → IsEnding s
settled_ends Sound h = tt
settled_ends Findings h = tt
settled_ends Usage h = h
settled_ends Refused h = tt
settled_ends TooWide h = tt
settled_ends ReadFault h = tt
settled_ends WriteFault h = h
settled_ends Memory h = h
