use Rattle.std.proofs.Common.{sym, ap, ◌∙◌}
use Rattle.xc_concepts.proofs.KnownKinds.{kind_of_base, more_known}
use Rattle.xc_concepts.specs.Chains.{kind_from}
use Rattle.xc_concepts.specs.Steps.Links.{as_name}
use Rattle.xc_concepts.proofs.kinds.note_kind.Goals as goal

pub loop-left-preserved-in-Some : goal.loop-left-preserved-in-Some
loop-left-preserved-in-Some c = λ types bases kinds is.
    let was = c.loop-left.invariant types bases kinds is in
    let same = ap (λ n. kind_from types (as_name n)) (sym c.in_ok-copy_key.ensures) in (
      more_known types c.loop-left.kinds c.insert.new.self c.in_ok-copy_key.field-0 c.args.kind was.0 (was.1 ∙ same) c.in_ok-insert.ensures.updates.0,
      was.1 ∙ sym (kind_of_base types (as_name c.loop-left.name.now) (as_name c.in-Some.base.now) (sym (c.in-Some.ensures types bases))),
    )

pub loop-left-preserved : goal.loop-left-preserved
loop-left-preserved c = λ types bases kinds is.
    let was = c.loop-left.invariant types bases kinds is in
    let same = ap (λ n. kind_from types (as_name n)) (sym c.in_ok-copy_key.ensures) in
    (more_known types c.loop-left.kinds c.insert.new.self c.in_ok-copy_key.field-0 c.args.kind was.0 (was.1 ∙ same) c.in_ok-insert.ensures.updates.0, was.1)
