use Rattle.std.proofs.Common.{length, All, subst, sym}
use Rattle.xc_bind.specs.Placed.{IsPlaced}
use Rattle.xc_top.proofs.Few.{few_ends, few_pairs}
use Rattle.xc_top.proofs.sample.answer_summary.Goals as goal

pub bindings-requires : goal.bindings-requires
bindings-requires c =
    record {
      few = few_pairs (length c.args.report.now.facts) (length c.args.networks.now) (length c.in_ok-points.points.points) c.requires c.in_ok-points.ensures.few;
    }

pub verdicts_of-requires : goal.verdicts_of-requires
verdicts_of-requires c = subst (λ bs. All (IsPlaced c.in_ok-points.points.points) bs) (sym c.deref.ensures.value) c.in_ok-bindings.ensures.points

pub system-requires-clause-few_facts : goal.system-requires-clause-few_facts
system-requires-clause-few_facts c = few_ends c.args.mode c.args.report.now.facts c.in_ok-points.points.ends (length c.args.networks.now) c.in_ok-points.ensures.points.ends c.requires
