use Rattle.std.proofs.Common.{◌≡◌, ℕ, List, ◌++◌, ◌+◌, ◌-◌, ap, arith, ◌∙◌}
use Rattle.std.specs.List.{flat_map, range_with_len}
use Rattle.std.specs.Prelude.{codes, string_bytes}
use Rattle.xc_sample.proofs.Lists.{text_more}
use Rattle.xc_sample.specs.Samples.{fact}
use Rattle.xc_sample.proofs.facts.push_further_facts.Goals as goal

pub loop-node-preserved : goal.loop-node-preserved
loop-node-preserved c =
    let node = c.loop-node.node in
    let f : ℕ → List ℕ = λ i. codes "," ++ fact c.args.count i in
    let next : node - 1 + 1 ≡ node + 1 - 1 = omega (arith, c.loop-node.auto.node) in
    text_more f _ _ _ 1 (node - 1) node (omega (arith, c.loop-node.auto.node)) c.loop-node.invariant c.in_ok-push_further_fact.ensures
    ∙ ap (λ k. string_bytes c.args.out.now ++ flat_map f (range_with_len 1 k)) next
