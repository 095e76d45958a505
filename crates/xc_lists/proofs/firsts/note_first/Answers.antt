use Rattle.std.proofs.Common.{cond, Some, sym, ap, ◌∙◌, is_some}
use Rattle.std.specs.BTreeMap.{get, is_at}
use Rattle.xc_lists.proofs.FirstPlaces.{index_stays, index_grows}
use Rattle.xc_lists.proofs.firsts.note_first.Goals as goal

pub returns-in-Some-clause-index : goal.returns-in-Some-clause-index
returns-in-Some-clause-index g c = λ items last index. index_stays g.met.K.Ord.total _ items _ index (ap is_some (sym c.in-Some.ensures.value))

pub returns-clause-index : goal.returns-clause-index
returns-clause-index g c = λ items last index. index_grows g.met.K.Ord.total _ _ items _ index (ap is_some (sym c.in_default.ensures.value)) (λ q. c.in_ok-insert.ensures.updates.0 q ∙ ap (λ n. cond (is_at (g.K.Ord.cmp c.args.item.now) q) (Some n) (get g.K.Ord.cmp c.args.places.now q)) last)
