use Rattle.std.proofs.Common.{inl, inr}
use Rattle.xc_frac.proofs.Compared.{by_whole, by_rest, by_left_over}
use Rattle.xc_frac.proofs.order.+by_quotients.Goals as goal

pub returns-then-whole-other_whole : goal.returns-then-whole-other_whole
returns-then-whole-other_whole t c = by_whole _ c.args.a c.args.b c.args.c c.args.d c.requires.left c.requires.right c.cmp.ensures c.if-whole-other_whole.true

pub returns-then-rest-eq0 : goal.returns-then-rest-eq0
returns-then-rest-eq0 t c =
    by_rest _ c.args.a c.args.b c.args.c c.args.d c.requires.left c.requires.right c.cmp-then-rest-eq0.ensures c.if-whole-other_whole.false
    (elim c.then-rest-eq0.either [ inl e ↦ inl e | inr e ↦ inr e.1 ])

pub returns : goal.returns
returns t c = by_left_over _ c.args.a c.args.b c.args.c c.args.d c.if-whole-other_whole.false c.by_quotients.ensures
