use Rattle.std.proofs.Common.{◌+◌, ◌<◌, Option, refl, Ok, drop, option_map, option_to_list, sym, subst}
use Rattle.std.proofs.lemmas.Option.{slice_get_read}
use Rattle.std.specs.Prelude.{length, slice_get}
use Rattle.xc_model.specs.Ratio.{Ratio}
use Rattle.xc_system.specs.declared.types.Entry.{Entry}
use Rattle.xc_verify.proofs.Results.{given_split, sum_more, sum_one}
use Rattle.xc_verify.specs.Feasible.{equation_terms}
use Rattle.xc_verify.specs.Sums.{IsSum, plus_product, zero_ratio}
use Rattle.xc_verify.proofs.feasible.sum_of.Goals as goal

pub loop-entry-preserved : goal.loop-entry-preserved
loop-entry-preserved c end =
    let values = c.args.values.now in
    let es = c.args.entries.now in
    let i = c.loop-entry.entry-index in
    let e = c.entry-item.result in
    let v = c.index-values-entry.result in
    sum_more (Ok zero_ratio) c.loop-entry.sum c.plus_product-sum.result end (equation_terms values es) (equation_terms values (drop i es)) (option_to_list (option_map (plus_product e.weight) (slice_get values e.point))) (equation_terms values (drop (i + 1) es))
    (given_split (λ (x : Entry). option_map (plus_product x.weight) (slice_get values x.point)) es i e c.loop-entry-test.true c.entry-item.is)
    (subst (λ (o : Option Ratio). IsSum c.loop-entry.sum (option_to_list (option_map (plus_product e.weight) o)) c.plus_product-sum.result)
    (sym (slice_get_read values (length values) e.point v refl (subst (λ (x : Entry). x.point < length values) (sym c.entry-item.is) (c.requires i e c.loop-entry-test.true)) c.index-values-entry.is))
    (sum_one c.loop-entry.sum c.plus_product-sum.result (plus_product e.weight v) c.plus_product-sum.ensures))
    c.loop-entry.invariant
