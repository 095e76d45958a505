use Rattle.std.proofs.Common.{◌-◌, length, refl, subst, sym, rules, arith}
use Rattle.std.specs.Str.{chars, IsUtf8}
use Rattle.xc_elements.specs.DocumentTrees.{meanings_backward, IsRefusal, IsTreeOf}
use Rattle.xc_elements.specs.Steps.Views.{item_view}
use Rattle.xc_elements.proofs.DocumentLaws.{item_shorter}
use Rattle.xc_elements.proofs.ProgressLaws.{progress_start, progress_more, progress_room, progress_below, stops_here, refused_here, unfinished_end, tree_end, shape_end}
use Rattle.xc_elements.proofs.read.read_tree.Goals as goal

pub loop-rest-init : goal.loop-rest-init
loop-rest-init c =
    let found = c.in_ok-text.ensures in
    (search rules, progress_start c.new-reader.result c.args.bytes.now c.in_ok-text.text.now found.end.0 found.utf8 found.text found.end.1 c.new-reader.ensures)

pub returns-in_default-clause-fault : goal.returns-in_default-clause-fault
returns-in_default-clause-fault c =
    let place = length c.args.bytes.now - length c.loop-rest.rest.now in
    subst (λ fault. IsRefusal c.args.bytes.now fault) (sym c.no_item_fault.ensures)
    (stops_here c.loop-rest.reader c.args.bytes.now c.loop-rest.rest.now c.loop-rest.is_first place c.loop-rest.invariant.1 c.loop-rest.invariant.0 refl (sym c.loop-rest-test.ensures) c.in_default.ensures.value)

pub read_item-requires-clause-room : goal.read_item-requires-clause-room
read_item-requires-clause-room c =
    let room = progress_room c.loop-rest.reader c.args.bytes.now c.loop-rest.rest.now c.loop-rest.is_first c.loop-rest.invariant.1 (sym c.loop-rest-test.ensures) in
    omega (arith, room, c.requires)

pub read_item-requires-clause-begun : goal.read_item-requires-clause-begun
read_item-requires-clause-begun c = progress_below c.loop-rest.reader c.args.bytes.now c.loop-rest.rest.now c.loop-rest.is_first c.loop-rest.invariant.1

pub loop-rest-smaller : goal.loop-rest-smaller
loop-rest-smaller c = item_shorter (chars c.loop-rest.rest.now) (chars c.in-Some.after.now) c.loop-rest.is_first _ c.in-Some.ensures.value

pub returns-in-Err-clause-fault : goal.returns-in-Err-clause-fault
returns-in-Err-clause-fault c =
    let p = c.loop-rest.invariant.1 in
    let place = length c.args.bytes.now - length c.loop-rest.rest.now in
    subst (λ fault. IsRefusal c.args.bytes.now fault) (sym c.fault_at.ensures)
    (refused_here c.loop-rest.reader c.args.bytes.now c.loop-rest.rest.now (chars c.in-Some.after.now) c.loop-rest.is_first place (item_view c.in-Some.item) c.in-Err.refusal p c.loop-rest.invariant.0 refl c.in-Some.ensures.value (c.in-Err.ensures.refused (meanings_backward p.pieces) p.reads))

pub loop-rest-preserved : goal.loop-rest-preserved
loop-rest-preserved c =
    let p = c.loop-rest.invariant.1 in
    let utf8 : IsUtf8 c.in-Some.after.now = search rules in (
      utf8,
      progress_more c.loop-rest.reader c.read_item.new.self c.args.bytes.now c.loop-rest.rest.now c.in-Some.after.now c.loop-rest.is_first (item_view c.in-Some.item) p c.loop-rest.invariant.0 utf8 c.in-Some.ensures.value
          (c.in_default-read_item.ensures.reads (meanings_backward p.pieces) p.reads)
          (c.in_default-read_item.ensures.fine (meanings_backward p.pieces) p.reads),
    )

pub returns-then-is_unfinished-clause-fault : goal.returns-then-is_unfinished-clause-fault
returns-then-is_unfinished-clause-fault c =
    unfinished_end c.loop-rest.reader c.args.bytes.now c.loop-rest.rest.now c.loop-rest.is_first c.loop-rest.invariant.1 (sym c.loop-rest-test.ensures) (sym c.if-is_unfinished.ensures)

pub returns-clause-tree : goal.returns-clause-tree
returns-clause-tree c =
    subst (λ nodes. IsTreeOf c.args.bytes.now nodes) (sym c.of.ensures)
    (tree_end c.loop-rest.reader c.args.bytes.now c.loop-rest.rest.now c.loop-rest.is_first c.loop-rest.invariant.1 (sym c.loop-rest-test.ensures) (sym c.if-is_unfinished.ensures))

pub of-requires : goal.of-requires
of-requires c = shape_end c.loop-rest.reader c.args.bytes.now c.loop-rest.rest.now c.loop-rest.is_first c.loop-rest.invariant.1 (sym c.loop-rest-test.ensures) (sym c.if-is_unfinished.ensures)
