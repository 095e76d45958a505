use Rattle.xc_top.proofs.SettledAnswers.{settled_is_accepted}
use Rattle.xc_top.proofs.SettledParts.{Says}
use Rattle.xc_top.proofs.laws.settled_is_accepted.Goals as goal

pub returns : goal.returns
returns c =
    let says : Says = record { passed = c.findings_are_passed.ensures; plain = c.findings_are_plain.ensures; part = c.one_joint_part.ensures; text = c.settled_is_text.ensures } in
    settled_is_accepted says c.acceptance_proves.ensures c.answers_are_one.ensures
