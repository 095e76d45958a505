use Rattle.std.proofs.Common.{◌≡◌, ◌+◌, ◌<◌, List, length, drop, get_or, subst}
use Rattle.xc_system.specs.Systems.{equation_at}
use Rattle.xc_system.specs.declared.types.Entry.{Entry}
use Rattle.xc_verify.proofs.Adding.{continues_more, entries_at, entry_split}
use Rattle.xc_verify.specs.Infeasible.{entry_terms}
use Rattle.xc_verify.specs.Steps.Running.{at_point, sum_at}
use Rattle.xc_verify.specs.Sums.{plus_product}
use Rattle.xc_verify.proofs.multiples.add_equation.Goals as goal

pub loop-entry-preserved : goal.loop-entry-preserved
loop-entry-preserved c =
    let es = (equation_at c.args.system.now.equations c.args.number).entries in
    let f = c.args.factor in
    let i = c.loop-entry.entry-index in
    let e = c.entry-item.result in
    let is : c.as_slice-entry-items.result.now ≡ es = entries_at c.args.system.now.equations c.equations.result.now c.args.number c.index-equations-number.result c.as_slice-entry-items.result.now c.equations.ensures.is c.requires.known c.as_slice-entry-items.ensures in
    let within : i < length es = subst (λ (l : List Entry). i < length l) is c.loop-entry-test.true in
    let at : e ≡ get_or es i e = subst (λ (l : List Entry). e ≡ get_or l i e) is c.entry-item.is in
    continues_more (entry_terms f es) (entry_terms f (drop i es)) (entry_terms f (drop (i + 1) es)) (at_point e.point (plus_product f e.weight))
    (sum_at c.args.sums.now c.args.stops.now) (sum_at c.loop-entry.sums c.loop-entry.stops) (sum_at c.add_product.new.sums c.add_product.new.stops)
    (λ p. entry_split f es i e p within at) c.add_product.ensures c.loop-entry.invariant
