use Rattle.std.proofs.Common.{rules, ◌≡◌, arith}
use Rattle.xc_system.proofs.Pointers.{roots_join}
use Rattle.xc_system.proofs.roots.join.Goals as goal

pub returns-then-left-right-clause-roots : goal.returns-then-left-right-clause-roots
returns-then-left-right-clause-roots c root h =
    let l = c.root_of-left.ensures in
    let r = c.root_of-right.ensures in
    let a : c.root_of-left.result ≡ root c.args.a = l.root root h in
    let b : c.root_of-right.result ≡ root c.args.b = r.root root (l.same root h) in
    roots_join c.root_of-right.new.up c.root_of-right.result c.root_of-left.result root c.args.a c.args.b (r.same root (l.same root h)) r.there ((r.same root (l.same root h)).own _ r.there r.top) ((l.same root h).own _ l.there l.top) (omega arith) (omega arith)

pub returns-else-left-right-clause-roots : goal.returns-else-left-right-clause-roots
returns-else-left-right-clause-roots c root h =
    let l = c.root_of-left.ensures in
    let r = c.root_of-right.ensures in
    let a : c.root_of-left.result ≡ root c.args.a = l.root root h in
    let b : c.root_of-right.result ≡ root c.args.b = r.root root (l.same root h) in
    roots_join c.root_of-right.new.up c.root_of-left.result c.root_of-right.result root c.args.a c.args.b (r.same root (l.same root h)) (omega arith) ((l.same root h).own _ l.there l.top) ((r.same root (l.same root h)).own _ r.there r.top) (omega arith) (omega arith)
