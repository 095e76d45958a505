use Rattle.std.proofs.Common.{◌≡◌, ◌++◌, ◌∙◌, ap, append_assoc, codes}
use Rattle.xc_lines.specs.Summary.{judged_part, unsettled_part}
use Rattle.xc_lines.proofs.summary.push_verdicts.Goals as goal

pub returns : goal.returns
returns c =
    c.in_ok-push_str.ensures.bytes
    ∙ ap (λ t. t ++ codes "\n") (c.in_ok-push_unsettled.ensures ∙ ap (λ t. t ++ unsettled_part c.args.verdicts.now) c.in_ok-push_judged.ensures ∙ append_assoc _ (judged_part c.args.verdicts.now) (unsettled_part c.args.verdicts.now))
    ∙ append_assoc _ (judged_part c.args.verdicts.now ++ unsettled_part c.args.verdicts.now) (codes "\n")
