use Rattle.std.proofs.Common.{◌≤◌, subst, sym, ◌∙◌, length, arith}
use Rattle.xc_sample.proofs.Lengths.{schema_short, linkbase_short, report_short}
use Rattle.xc_sample.proofs.texts.sample.Goals as goal

pub returns-clause-short : goal.returns-clause-short
returns-clause-short c = record {
  schema = subst (λ t. length t ≤ 67108864) (sym (c.bytes_of.ensures ∙ c.in_ok-schema.ensures)) (schema_short c.args.count c.requires.few);
  linkbase = subst (λ t. length t ≤ 67108864) (sym (c.bytes_of-2.ensures ∙ c.in_ok-linkbase.ensures)) (linkbase_short c.args.count c.requires.few);
  report = subst (λ t. length t ≤ 67108864) (sym (c.bytes_of-3.ensures ∙ c.in_ok-report.ensures)) (report_short c.args.count (omega (arith, c.requires.some)) c.requires.few);
}
