use Rattle.std.proofs.Common.{rules, ◌≡◌, ◌<◌, ◌≤◌, length, ◌∙◌, arith, get_or, refl}
use Rattle.std.proofs.lemmas.List.{length-set}
use Rattle.xc_system.proofs.Pointers.{descends_set, roots_set, root_twice}
use Rattle.xc_system.proofs.roots.root_of.Goals as goal

pub loop-above-preserved : goal.loop-above-preserved
loop-above-preserved c =
    let i = c.loop-above.invariant in
    let le : c.loop-above.above ≤ c.loop-above.q = omega (arith, i.descends c.loop-above.q i.there) in
    let m : c.loop-above.above < length c.loop-above.up = omega arith in
    let n : get_or c.loop-above.up c.loop-above.above 0 ≤ c.loop-above.above = i.descends c.loop-above.above m in
    record {
      there = omega (arith, length-set c.loop-above.up c.loop-above.q (get_or c.loop-above.up c.loop-above.above 0));
      above = refl;
      descends = descends_set c.loop-above.up c.loop-above.q _ i.descends i.there (omega arith);
      same = λ root h. roots_set c.loop-above.up c.loop-above.q _ root (i.same root h) i.there (root_twice c.loop-above.up c.loop-above.q c.loop-above.above root (i.same root h) i.descends i.there i.above) (λ e. absurd (omega (arith, e)));
      root = λ root h. root_twice c.loop-above.up c.loop-above.q c.loop-above.above root (i.same root h) i.descends i.there i.above ∙ i.root root h;
    }
