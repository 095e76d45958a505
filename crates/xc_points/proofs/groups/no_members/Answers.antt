use Rattle.std.proofs.Common.{◌≡◌, ◌++◌, ◌∷◌, [], ◌+◌, rules, sym, subst}
use Rattle.xc_points.proofs.Spreading.{AreNone, more_none}
use Rattle.xc_points.proofs.groups.no_members.Goals as goal

pub loop-first-preserved : goal.loop-first-preserved
loop-first-preserved c =
    let grown : c.push.new.self.items ≡ c.loop-first.none.items ++ c.new.result ∷ [] = search rules in
    subst (λ none. AreNone c.args.firsts.now (c.loop-first._first-index + 1) none) (sym grown)
    (more_none c.args.firsts.now c.loop-first._first-index c.loop-first.none.items c.new.result c.loop-first-test.true c.new.ensures c.loop-first.invariant)
