use Rattle.std.proofs.Common.{rules, ◌≡◌, ◌<◌, ◌≤◌, length, get_or, map, ◌+◌, [], ◌∷◌, ◌++◌, arith, sym, refl, ◌∙◌}
use Rattle.std.proofs.lemmas.List.{length-set, length-map, map-set, get_or-map}
use Rattle.xc_system.proofs.Places.{groups_more, more_elsewhere, groups_made}
use Rattle.xc_system.proofs.grouping.places_as_vectors.Goals.{then-number-count+in_ok-push-2, else-number-count}
use Rattle.xc_system.proofs.grouping.places_as_vectors.Goals as goal

pub loop-i-preserved : goal.loop-i-preserved
loop-i-preserved c = elim c.if-number-count.branch [
  | then-number-count+in_ok-push-2 w ↦
      let i = c.loop-i.invariant in
      let n : get_or c.args.numbers.now c.loop-i.i 0 < c.args.count = w.if-number-count.true in
      let g : get_or (map (λ v. v.items) c.loop-i.groups.items) (get_or c.args.numbers.now c.loop-i.i 0) [] ≡ w.index_mut.result.now.items =
      get_or-map (λ v. v.items) c.loop-i.groups.items (get_or c.args.numbers.now c.loop-i.i 0) w.index_mut.result.now [] (omega (arith, i.length)) ∙ (rw (← w.index_mut.ensures.value) refl) in
      let e : w.push-then-number-count.new.self.items ≡ get_or (map (λ v. v.items) c.loop-i.groups.items) (get_or c.args.numbers.now c.loop-i.i 0) [] ++ c.loop-i.i ∷ [] = rw g w.in_ok-push-2.ensures.items in
      record {
        length = rw w.groups-is (length-set _ _ _ ∙ i.length);
        places = λ k l. rw w.groups-is (rw (map-set (λ v. v.items) c.loop-i.groups.items (get_or c.args.numbers.now c.loop-i.i 0) w.push-then-number-count.new.self) (groups_more (map (λ v. v.items) c.loop-i.groups.items) c.args.numbers.now w.push-then-number-count.new.self.items c.loop-i.i c.args.count (get_or c.args.numbers.now c.loop-i.i 0) (length-map c.loop-i.groups.items (λ v. v.items) ∙ i.length) refl n e i.places k l));
      }
  | else-number-count w ↦
      let i = c.loop-i.invariant in
      let n : c.args.count ≤ get_or c.args.numbers.now c.loop-i.i 0 = w.if-number-count.false in
      record {
        length = rw w.groups-is i.length;
        places = λ k l. rw w.groups-is (i.places k l ∙ sym (more_elsewhere c.args.numbers.now k c.loop-i.i (λ q. omega (arith, q))));
      }
]

pub returns : goal.returns
returns c =
    let i = c.loop-i.invariant in
    let end : c.loop-i.i ≡ length c.args.numbers.now = omega arith in
    groups_made (map (λ v. v.items) c.loop-i.groups.items) c.args.numbers.now c.args.count (length-map c.loop-i.groups.items (λ v. v.items) ∙ i.length) (rw end at i.places)
