use Rattle.std.proofs.Common.{◌≡◌, ℕ, arith}
use Rattle.std.proofs.lemmas.Grind.{common_steps}
use Rattle.xc_bind.proofs.TotalPoints.{concepts_answered, some_from}
use Rattle.xc_names.specs.NameSets.{is_among}
use Rattle.xc_bind.proofs.totals.total_concepts.Goals as goal

pub returns : goal.returns
returns c =
    let all : (n : ℕ) → is_among c.loop-arc.concepts n ≡ some_from c.args.arcs.now n = λ n. grind (arith, common_steps, c.loop-arc.invariant n) in
    concepts_answered (λ v. v.items) c.args.arcs.now c.loop-arc.concepts c.ids.result all c.ids.ensures.same
