use Rattle.xc_top.proofs.SettledAnswers.{forests_are_settled}
use Rattle.xc_top.proofs.SettledParts.{Says}
use Rattle.xc_top.proofs.laws.forests_are_settled.Goals as goal

pub returns : goal.returns
returns c =
    let says : Says = record { passed = c.findings_are_passed.ensures; plain = c.findings_are_plain.ensures; part = c.one_joint_part.ensures; text = c.settled_is_text.ensures } in
    forests_are_settled says c.acceptance_proves.ensures c.narrow_forests_are_settled.ensures
