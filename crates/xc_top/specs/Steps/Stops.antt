-- What a stopped run has, and how the parts of a run end.
use Rattle.std.specs.Prelude.{◌≡◌, Result, Ok, Err}
use Rattle.xc_top.specs.declared.status.Answer.{Answer}
use Rattle.xc_top.specs.declared.status.Status.{Status}
use Rattle.xc_top.specs.declared.status.Status.TheVariants.{Sound, Findings, Usage, Refused, TooWide, ReadFault, WriteFault, Memory}
use Rattle.xc_top.specs.declared.status.Stop.{Stop}
use Rattle.xc_top.specs.declared.status.Stop.TheVariants as stop

-- a stop has this property, unless memory was wanting
abbrev pub IfNamed : Stop → (Answer → Type 0) → Type 0
IfNamed stop.Memory P = Unit {0}
IfNamed (stop.Named answer) P = P answer

-- a run that was stopped has this property, unless memory was wanting
abbrev pub IfStopped : {X : Type 0} → Result X Stop → (Answer → Type 0) → Type 0
IfStopped (Ok x) P = Unit {0}
IfStopped (Err stop) P = IfNamed stop P

-- what a run answered has this property, also where it was stopped, unless memory was wanting
abbrev pub Answers : Result Answer Stop → (Answer → Type 0) → Type 0
Answers (Ok answer) P = P answer
Answers (Err stop) P = IfNamed stop P

-- this was answered, also where the run was stopped
abbrev pub IsAnswerIn : Result Answer Stop → Answer → Type 0
IsAnswerIn (Ok x) answer = answer ≡ x
IsAnswerIn (Err stop.Memory) answer = ⊥
IsAnswerIn (Err (stop.Named x)) answer = answer ≡ x

-- an answer to accepted words, or a fault of the shelf
abbrev pub IsEnding : Status → Type 0
IsEnding Sound = Unit {0}
IsEnding Findings = Unit {0}
IsEnding Refused = Unit {0}
IsEnding TooWide = Unit {0}
IsEnding ReadFault = Unit {0}
IsEnding Usage = ⊥
IsEnding WriteFault = ⊥
IsEnding Memory = ⊥

-- an answer to accepted words
abbrev pub IsSettled : Status → Type 0
IsSettled Sound = Unit {0}
IsSettled Findings = Unit {0}
IsSettled Refused = Unit {0}
IsSettled TooWide = Unit {0}
IsSettled ReadFault = ⊥
IsSettled Usage = ⊥
IsSettled WriteFault = ⊥
IsSettled Memory = ⊥
