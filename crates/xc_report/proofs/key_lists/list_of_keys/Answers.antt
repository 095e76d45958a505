use Rattle.std.proofs.Common.{◌≡◌, ◌++◌, sym, ap, subst, ◌∙◌}
use Rattle.std.proofs.lemmas.List.{append-nil}
use Rattle.xc_report.specs.Reports.{StandOnce}
use Rattle.xc_report.proofs.KeyLaws.{once_from_distinct}
use Rattle.xc_report.proofs.key_lists.list_of_keys.Goals as goal

pub returns-clause-once : goal.returns-clause-once
returns-clause-once c =
    let all : c.loop-key.list.items ≡ c.args.keys.keys =
    sym (append-nil c.loop-key.list.items) ∙ ap (λ left. c.loop-key.list.items ++ left) (sym c.in-None.ensures.steps.0) ∙ c.loop-key.invariant.moved in
    subst StandOnce (sym all) (once_from_distinct c.args.keys.keys c.into_iter-key-iterator.ensures.into_iter_gives.3)
