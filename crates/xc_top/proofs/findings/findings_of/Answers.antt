use Rattle.std.proofs.Common.{◌<◌, length, All, subst, sym}
use Rattle.std.proofs.lemmas.List.Elements.{All-weaker}
use Rattle.xc_bind.specs.Placed.{IsPlaced}
use Rattle.xc_lines.specs.Findings.{NameTotals, NameNetworks}
use Rattle.xc_top.proofs.Few.{few_pairs}
use Rattle.xc_top.proofs.findings.findings_of.Goals as goal

pub bindings-requires : goal.bindings-requires
bindings-requires c =
    record {
      few = few_pairs (length c.args.report.now.facts) (length c.args.networks.now) (length c.in_ok-points.points.points) c.requires c.in_ok-points.ensures.few;
    }

pub verdicts_of-requires : goal.verdicts_of-requires
verdicts_of-requires c = subst (λ bs. All (IsPlaced c.in_ok-points.points.points) bs) (sym c.deref.ensures.value) c.in_ok-bindings.ensures.points

pub findings-requires-clause-facts : goal.findings-requires-clause-facts
findings-requires-clause-facts c = c.points_carry_facts.ensures c.args.mode c.args.report.now.facts c.in_ok-points.points c.in_ok-points.ensures.points c.as_slice-list.ensures.kept

pub findings-requires-clause-totals : goal.findings-requires-clause-totals
findings-requires-clause-totals c =
    let points = c.in_ok-points.points.points in
    let totals : NameTotals points c.in_ok-bindings.bindings.items = All-weaker (IsPlaced points) (λ b. b.total < length points) (λ b placed. placed.total) c.in_ok-bindings.bindings.items c.in_ok-bindings.ensures.points in
    subst (λ bs. NameTotals points bs) (sym c.deref-2.ensures.value) totals

pub findings-requires-clause-networks : goal.findings-requires-clause-networks
findings-requires-clause-networks c = subst (λ bs. NameNetworks c.args.networks.now bs) (sym c.deref-2.ensures.value) c.in_ok-bindings.ensures.networks
