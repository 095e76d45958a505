use Rattle.std.proofs.Common.{◌≡◌, ◌++◌, rules}
use Rattle.std.specs.Prelude.{codes}
use Rattle.std.proofs.lemmas.Result.{IfOk-equal}
use Rattle.xc_cert.specs.Certificates.{numbered_lines}
use Rattle.xc_lists.specs.TextLines.{text_of}
use Rattle.xc_cert.proofs.Written.{refutation_text}
use Rattle.xc_cert.proofs.write.push_refutation.Goals as goal

pub returns-clause-text : goal.returns-clause-text
returns-clause-text c =
    let first : c.extend_from_slice.new.self.items ≡ c.args.out.now.items ++ codes "infeasible\n" = c.in_ok-extend_from_slice.ensures.items in
    let second : c.push_listed.new.out.items ≡ c.extend_from_slice.new.self.items ++ text_of (numbered_lines (codes "binding") c.bindings.result.now) = search rules in
    let third : c.push_listed-2.new.out.items ≡ c.push_listed.new.out.items ++ text_of (numbered_lines (codes "low") c.lows.result.now) = search rules in
    IfOk-equal c.push_listed-3.result _ _ _ c.push_listed-3.ensures.text (refutation_text c.args.out.now.items c.extend_from_slice.new.self.items c.push_listed.new.out.items c.push_listed-2.new.out.items c.args.refutation.now c.bindings.result.now c.lows.result.now c.highs.result.now first second third c.bindings.ensures.is c.lows.ensures.is c.highs.ensures.is)
