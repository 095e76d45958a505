use Rattle.std.proofs.Common.{◌≡◌, ℕ, ◌<◌, length, arith, sym, refl, subst, ◌∙◌, [], ◌∷◌, ◌++◌}
use Rattle.std.proofs.lemmas.List.{get_or_read}
use Rattle.xc_forest.specs.Steps.Edges.{at, degree}
use Rattle.xc_forest.proofs.EdgeLists.{are_proper, ends_within}
use Rattle.xc_forest.proofs.LinkFacts.{alone_link, turn_link}
use Rattle.xc_forest.proofs.Peelings.{turn_of, tally_at, peel_alone, peeled_more, peeled_push, room_of}
use Rattle.xc_forest.proofs.links.peel_vertex.Goals.{then-other-eq1+in_ok-push, else-other-eq1}
use Rattle.xc_forest.proofs.links.peel_vertex.Goals as goal

pub returns-then-tally-eq0-clause-peeled : goal.returns-then-tally-eq0-clause-peeled
returns-then-tally-eq0-clause-peeled c =
    let p = c.requires.peeled in
    let q : c.index-vertex.result.now ≡ at c.args.order.now.items c.args.k = get_or_read _ c.args.k c.index-vertex.result.now c.requires.known c.index-vertex.ensures 0 in
    let b : c.index-vertex.result.now < length c.args.tallies.now = rw q (p.peeling.below c.args.k c.requires.known) in
    let z : degree p.left c.index-vertex.result.now ≡ 0 = sym (p.tallies c.index-vertex.result.now _ b).degree ∙ c.if-tally-eq0.true in
    record { left = p.left; peeling = peel_alone _ _ _ c.args.k p.left p.peeling (subst (λ (x : ℕ). degree p.left x ≡ 0) q z); tallies = p.tallies }

pub returns-then-tally-eq0-clause-link : goal.returns-then-tally-eq0-clause-link
returns-then-tally-eq0-clause-link c =
    let p = c.requires.peeled in
    let q : c.index-vertex.result.now ≡ at c.args.order.now.items c.args.k = get_or_read _ c.args.k c.index-vertex.result.now c.requires.known c.index-vertex.ensures 0 in
    let b : c.index-vertex.result.now < length c.args.tallies.now = rw q (p.peeling.below c.args.k c.requires.known) in
    let z : degree p.left c.index-vertex.result.now ≡ 0 = sym (p.tallies c.index-vertex.result.now _ b).degree ∙ c.if-tally-eq0.true in
    alone_link _ _ _ c.args.k p.left p.peeling c.requires.known _ q refl (subst (λ (x : ℕ). degree p.left x ≡ 0) q z)

pub overflow_cast-next : goal.overflow_cast-next
overflow_cast-next c =
    let q : c.index-vertex.result.now ≡ at c.args.order.now.items c.args.k = get_or_read _ c.args.k c.index-vertex.result.now c.requires.known c.index-vertex.ensures 0 in
    let r = room_of _ _ c.args.k _ c.requires.peeled c.index-vertex.result.now (are_proper c.args.points c.args.rows.now c.requires.rows) (ends_within c.args.points c.args.rows.now c.requires.rows _ c.requires.each) c.requires.known q c.if-tally-eq0.false in
    omega (arith, r.known, r.same)

pub overflow_cast-other : goal.overflow_cast-other
overflow_cast-other c =
    let q : c.index-vertex.result.now ≡ at c.args.order.now.items c.args.k = get_or_read _ c.args.k c.index-vertex.result.now c.requires.known c.index-vertex.ensures 0 in
    let r = room_of _ _ c.args.k _ c.requires.peeled c.index-vertex.result.now (are_proper c.args.points c.args.rows.now c.requires.rows) (ends_within c.args.points c.args.rows.now c.requires.rows _ c.requires.each) c.requires.known q c.if-tally-eq0.false in
    omega (arith, r.known, r.same)

pub offset_bounds-tallies-next : goal.offset_bounds-tallies-next
offset_bounds-tallies-next c =
    let q : c.index-vertex.result.now ≡ at c.args.order.now.items c.args.k = get_or_read _ c.args.k c.index-vertex.result.now c.requires.known c.index-vertex.ensures 0 in
    let r = room_of _ _ c.args.k _ c.requires.peeled c.index-vertex.result.now (are_proper c.args.points c.args.rows.now c.requires.rows) (ends_within c.args.points c.args.rows.now c.requires.rows _ c.requires.each) c.requires.known q c.if-tally-eq0.false in
    omega (arith, r.known, r.same)

pub bounds-tallies-next : goal.bounds-tallies-next
bounds-tallies-next c =
    let q : c.index-vertex.result.now ≡ at c.args.order.now.items c.args.k = get_or_read _ c.args.k c.index-vertex.result.now c.requires.known c.index-vertex.ensures 0 in
    let r = room_of _ _ c.args.k _ c.requires.peeled c.index-vertex.result.now (are_proper c.args.points c.args.rows.now c.requires.rows) (ends_within c.args.points c.args.rows.now c.requires.rows _ c.requires.each) c.requires.known q c.if-tally-eq0.false in
    r.known

pub overflow_sub-other : goal.overflow_sub-other
overflow_sub-other c =
    let q : c.index-vertex.result.now ≡ at c.args.order.now.items c.args.k = get_or_read _ c.args.k c.index-vertex.result.now c.requires.known c.index-vertex.ensures 0 in
    let r = room_of _ _ c.args.k _ c.requires.peeled c.index-vertex.result.now (are_proper c.args.points c.args.rows.now c.requires.rows) (ends_within c.args.points c.args.rows.now c.requires.rows _ c.requires.each) c.requires.known q c.if-tally-eq0.false in
    r.degree

pub overflow_sub-other-2 : goal.overflow_sub-other-2
overflow_sub-other-2 c =
    let q : c.index-vertex.result.now ≡ at c.args.order.now.items c.args.k = get_or_read _ c.args.k c.index-vertex.result.now c.requires.known c.index-vertex.ensures 0 in
    let r = room_of _ _ c.args.k _ c.requires.peeled c.index-vertex.result.now (are_proper c.args.points c.args.rows.now c.requires.rows) (ends_within c.args.points c.args.rows.now c.requires.rows _ c.requires.each) c.requires.known q c.if-tally-eq0.false in
    r.others

pub overflow_sub-other-3 : goal.overflow_sub-other-3
overflow_sub-other-3 c =
    let q : c.index-vertex.result.now ≡ at c.args.order.now.items c.args.k = get_or_read _ c.args.k c.index-vertex.result.now c.requires.known c.index-vertex.ensures 0 in
    let r = room_of _ _ c.args.k _ c.requires.peeled c.index-vertex.result.now (are_proper c.args.points c.args.rows.now c.requires.rows) (ends_within c.args.points c.args.rows.now c.requires.rows _ c.requires.each) c.requires.known q c.if-tally-eq0.false in
    r.minuses

pub returns-clause-peeled : goal.returns-clause-peeled
returns-clause-peeled c =
    let q : c.index-vertex.result.now ≡ at c.args.order.now.items c.args.k = get_or_read _ c.args.k c.index-vertex.result.now c.requires.known c.index-vertex.ensures 0 in
    let t = turn_of _ _ c.args.k _ c.requires.peeled c.index-vertex.result.now (are_proper c.args.points c.args.rows.now c.requires.rows) (ends_within c.args.points c.args.rows.now c.requires.rows _ c.requires.each) c.requires.known q c.if-tally-eq0.false in
    elim c.if-other-eq1.branch [
      | then-other-eq1+in_ok-push w ↦
          let e : c.if-other-eq1.order.items ≡ c.args.order.now.items ++ (tally_at c.args.tallies.now c.index-vertex.result.now).others ∷ [] = rw w.order-is w.in_ok-push.ensures.items in
          rw e (peeled_push _ _ c.args.k _ c.requires.peeled c.index-vertex.result.now c.requires.known q t w.if-other-eq1.true)
      | else-other-eq1 w ↦
          let e : c.if-other-eq1.order.items ≡ c.args.order.now.items = rw w.order-is refl in
          rw e (peeled_more _ _ c.args.k _ c.requires.peeled c.index-vertex.result.now c.requires.known q t w.if-other-eq1.false)
    ]

pub returns-clause-link : goal.returns-clause-link
returns-clause-link c =
    let q : c.index-vertex.result.now ≡ at c.args.order.now.items c.args.k = get_or_read _ c.args.k c.index-vertex.result.now c.requires.known c.index-vertex.ensures 0 in
    let t = turn_of _ _ c.args.k _ c.requires.peeled c.index-vertex.result.now (are_proper c.args.points c.args.rows.now c.requires.rows) (ends_within c.args.points c.args.rows.now c.requires.rows _ c.requires.each) c.requires.known q c.if-tally-eq0.false in
    turn_link _ _ c.args.k _ c.requires.peeled c.index-vertex.result.now (are_proper c.args.points c.args.rows.now c.requires.rows) c.requires.known q t
