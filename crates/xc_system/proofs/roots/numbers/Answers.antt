use Rattle.std.proofs.Common.{rules, ◌≡◌, ℕ, ◌+◌, ◌<◌, ◌≤◌, length, get_or, [], ◌∷◌, ◌++◌, arith, ap, sym, ◌∙◌}
use Rattle.std.proofs.lemmas.List.{length_push, get_or_read}
use Rattle.xc_system.specs.Steps.Roots.{rank}
use Rattle.xc_system.proofs.Numbering.{rank_more_own, rank_more_other, numbered_push, number_own}
use Rattle.xc_system.proofs.roots.numbers.Goals.{then-above-p+in_ok-push, else-above-p+in_ok-push-2}
use Rattle.xc_system.proofs.roots.numbers.Goals as goal

pub loop-p-preserved : goal.loop-p-preserved
loop-p-preserved c = elim c.if-above-p.branch [
  | then-above-p+in_ok-push w ↦
      let i = c.loop-p.invariant in
      let e : c.if-above-p.numbers.items ≡ c.loop-p.numbers.items ++ c.loop-p.count ∷ [] = rw w.numbers-is w.in_ok-push.ensures.items in
      let t : get_or c.args.up.now c.loop-p.p 0 ≡ c.loop-p.p = search rules in
      record {
        length = rw e (length_push c.loop-p.numbers.items c.loop-p.count ∙ ap (λ (n : ℕ). n + 1) i.length);
        count = w.count-is ∙ (ap (λ (n : ℕ). n + 1) i.count ∙ sym (rank_more_own c.args.up.now c.loop-p.p t));
        few = omega (arith, w.count-is);
        numbers = λ root h q l. rw e (numbered_push c.args.up.now c.loop-p.numbers.items c.loop-p.p c.loop-p.count root i.length (i.numbers root h) (i.count ∙ number_own c.args.up.now c.loop-p.p root h (omega arith) t) q l);
      }
  | else-above-p+in_ok-push-2 w ↦
      let i = c.loop-p.invariant in
      let e : c.if-above-p.numbers.items ≡ c.loop-p.numbers.items ++ w.index-number.result.now ∷ [] = rw w.numbers-is w.in_ok-push-2.ensures.items in
      let t : get_or c.args.up.now c.loop-p.p 0 ≡ c.loop-p.p → ⊥ = λ q. omega (arith, q, w.if-above-p.false) in
      let d : get_or c.args.up.now c.loop-p.p 0 ≤ c.loop-p.p = c.requires.descends c.loop-p.p (omega arith) in
      let l : get_or c.args.up.now c.loop-p.p 0 < c.loop-p.p = omega arith in
      let v : w.index-number.result.now ≡ get_or c.loop-p.numbers.items (get_or c.args.up.now c.loop-p.p 0) 0 = get_or_read c.loop-p.numbers.items (get_or c.args.up.now c.loop-p.p 0) w.index-number.result.now (omega arith) w.index-number.ensures 0 in
      record {
        length = rw e (length_push c.loop-p.numbers.items w.index-number.result.now ∙ ap (λ (n : ℕ). n + 1) i.length);
        count = w.count-is ∙ (i.count ∙ sym (rank_more_other c.args.up.now c.loop-p.p t));
        few = omega (arith, w.count-is);
        numbers = λ root h q m. rw e (numbered_push c.args.up.now c.loop-p.numbers.items c.loop-p.p w.index-number.result.now root i.length (i.numbers root h) (v ∙ (i.numbers root h (get_or c.args.up.now c.loop-p.p 0) l ∙ ap (rank c.args.up.now) (h.kept c.loop-p.p (omega arith)))) q m);
      }
]
