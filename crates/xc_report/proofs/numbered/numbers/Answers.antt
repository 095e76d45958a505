use Rattle.std.proofs.Common.{◌≡◌, ◌+◌, ◌++◌, ◌∷◌, [], Some, drop, sym, ap, ◌∙◌, append_assoc, append-nil}
use Rattle.std.proofs.lemmas.List.{drop_more}
use Rattle.std.proofs.Math.ListN.{drop_of_length-le}
use Rattle.xc_report.specs.Each.{each_some}
use Rattle.xc_report.specs.Numbered.{id_of}
use Rattle.xc_report.proofs.Kept.{kept_on, gain_on}
use Rattle.xc_report.proofs.Pieces.{each_cons}
use Rattle.xc_report.proofs.numbered.numbers.Goals as goal

pub loop-name-preserved : goal.loop-name-preserved
loop-name-preserved c = record {
  names = gain_on c.loop-name.invariant.names c.number.ensures.names;
  each = λ later keeps rest e.
      let id = c.in_ok-number.field-0 in
      let left = drop (c.loop-name.name-index + 1) c.args.list.now in
      let here : drop c.loop-name.name-index c.args.list.now ≡ c.name-item.result ∷ left = drop_more c.args.list.now c.loop-name.name-index c.name-item.result c.loop-name-test.true ∙ ap (λ x. x ∷ left) (sym c.name-item.is) in
      c.loop-name.invariant.each later (kept_on _ _ _ c.number.ensures.names.kept keeps) (id ∷ rest) (ap (each_some (id_of later)) here ∙ each_cons (id_of later) c.name-item.result id left rest (c.in_ok-number.ensures.number later keeps) e)
      ∙ ap Some (sym (ap (λ items. items ++ rest) c.in_ok-push.ensures.items ∙ append_assoc c.loop-name.ids.items (id ∷ []) rest));
}

pub returns-clause-numbers : goal.returns-clause-numbers
returns-clause-numbers c = λ later keeps.
    c.loop-name.invariant.each later keeps [] (ap (each_some (id_of later)) (drop_of_length-le c.args.list.now c.loop-name-test.false))
    ∙ ap Some (append-nil c.loop-name.ids.items)
