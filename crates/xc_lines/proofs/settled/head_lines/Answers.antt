use Rattle.std.proofs.Common.{◌≡◌, ◌++◌, string_bytes}
use Rattle.std.specs.Prelude.{codes}
use Rattle.std.specs.List.{enumerate_from}
use Rattle.std.proofs.lemmas.Result.{IfOk-weaker}
use Rattle.xc_cert.specs.Certificates.{certificate_text}
use Rattle.xc_lines.specs.Settled.{because_lines, settled_lines}
use Rattle.xc_lines.proofs.Naming.{refuted_head}
use Rattle.xc_lines.proofs.settled.head_lines.Goals as goal

pub returns-in-Infeasible : goal.returns-in-Infeasible
returns-in-Infeasible c =
    IfOk-weaker c.refuted_lines.result
    (λ head. string_bytes head ≡ codes "joint infeasible\n" ++ because_lines c.in-Infeasible.refutation (enumerate_from 0 c.args.facts.now))
    (λ head. settled_lines c.args.facts.now c.args.certificate.now ≡ string_bytes head ++ certificate_text c.args.certificate.now)
    (λ head h. refuted_head c.args.facts.now c.args.certificate.now c.in-Infeasible.refutation (string_bytes head) c.in-Infeasible.is h)
    c.refuted_lines.ensures
