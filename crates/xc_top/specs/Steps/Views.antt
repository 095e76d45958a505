-- What borrowed questions say.
use Rattle.xc_top.specs.Steps.Chain.{Asked, Sought, FindingsAlone, FindingsAndJoint, JudgementOf, SummaryOf}
use Rattle.xc_top.specs.declared.judged.Question.{Question}
use Rattle.xc_top.specs.declared.judged.Goal.{Goal}
use Rattle.xc_top.specs.declared.judged.Goal.TheVariants as goal

-- what is sought in the facts of a report
abbrev pub sought : Goal → Sought
sought goal.Findings = FindingsAlone
sought goal.Joint = FindingsAndJoint
sought (goal.Judgement word bytes) = JudgementOf word.now bytes.now
sought (goal.Summary count root) = SummaryOf count root

-- what is asked of a report
abbrev pub asked : Question → Asked
asked question = record { word = question.report.now; mode = question.mode; sought = sought question.goal }
