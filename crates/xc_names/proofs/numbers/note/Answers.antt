use Rattle.std.proofs.Common.{ap, sym, ◌∙◌, Some, cond, Result, Ok, Err, OnOk, OnErr, is_some}
use Rattle.xc_names.proofs.TextMaps.{noted, unnoted}
use Rattle.xc_names.specs.Names.{is_named, name_of}
use Rattle.xc_names.proofs.numbers.note.Goals as goal

on_ok : {A E P Q : Type 0} (r : Result A E) → (P → Q) → OnOk r P → OnOk r Q
on_ok (Ok x) f h = f h
on_ok (Err e) f h = tt

on_err : {A E P Q : Type 0} (r : Result A E) → (P → Q) → OnErr r P → OnErr r Q
on_err (Ok x) f h = tt
on_err (Err e) f h = f h

pub returns-in-Some-clause-ok : goal.returns-in-Some-clause-ok
returns-in-Some-clause-ok c = on_ok c.note_local.result (λ more s l.
    noted c.open_space.new.spaces (c.get_mut.follows.lender c.note_local.new.locals) c.args.space.now c.note_local.new.locals ((c.get_mut.follows.holds c.note_local.new.locals).3 (sym (ap (λ o. is_some o) c.in-Some.ensures.value))) c.in-Some.locals.now c.args.local.now c.args.number (sym c.in-Some.ensures.value) more s l
    ∙ ap (cond (is_named s l (name_of c.args.space.now c.args.local.now)) (Some c.args.number)) (c.in_ok-open_space.ensures.same s l)) c.note_local.ensures.ok

pub returns-in-Some-clause-err : goal.returns-in-Some-clause-err
returns-in-Some-clause-err c = on_err c.note_local.result (λ same s l.
    unnoted c.open_space.new.spaces (c.get_mut.follows.lender c.note_local.new.locals) c.args.space.now c.note_local.new.locals ((c.get_mut.follows.holds c.note_local.new.locals).3 (sym (ap (λ o. is_some o) c.in-Some.ensures.value))) c.in-Some.locals.now (sym c.in-Some.ensures.value) same s l
    ∙ c.in_ok-open_space.ensures.same s l) c.note_local.ensures.err
