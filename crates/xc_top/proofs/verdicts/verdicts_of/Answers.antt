use Rattle.std.proofs.Common.{◌≡◌, ◌∷◌, ◌++◌, ◌+◌, [], drop, subst, sym, arith, rules}
use Rattle.std.proofs.lemmas.Grind.{common_steps}
use Rattle.xc_top.proofs.Judging.{Judged, judged_more, judged_all}
use Rattle.xc_top.proofs.verdicts.verdicts_of.Goals as goal

pub loop-binding-preserved : goal.loop-binding-preserved
loop-binding-preserved c =
    let grown : c.push.new.self.items ≡ c.loop-binding.verdicts.items ++ c.verdict.result ∷ [] = search rules in
    record {
      judged = subst (λ vs. Judged c.args.points.now c.args.bindings.now (c.loop-binding.binding-index + 1) vs) (sym grown)
          (judged_more c.args.points.now c.args.bindings.now c.loop-binding.binding-index c.binding-item.result c.loop-binding.verdicts.items c.verdict.result c.loop-binding-test.true c.binding-item.is c.verdict.ensures.verdict c.loop-binding.invariant.judged);
      many = search rules;
    }

pub returns-clause-verdicts : goal.returns-clause-verdicts
returns-clause-verdicts c =
    let all : drop c.loop-binding.binding-index c.args.bindings.now ≡ [] = grind (arith, common_steps) in
    judged_all c.args.points.now c.args.bindings.now c.loop-binding.binding-index c.loop-binding.verdicts.items all c.loop-binding.invariant.judged
