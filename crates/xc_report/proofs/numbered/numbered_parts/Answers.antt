use Rattle.std.proofs.Common.{◌≡◌, ◌++◌, ◌∷◌, [], sym, ap, subst, ◌∙◌, append_assoc, append-nil, arith}
use Rattle.std.proofs.lemmas.List.{nil_from_length}
use Rattle.std.specs.Vec.Iter.{into_iter_items}
use Rattle.xc_report.specs.Numbered.{AreParts}
use Rattle.xc_report.proofs.Kept.{kept_on, gain_on}
use Rattle.xc_report.proofs.numbered.numbered_parts.Goals as goal

pub loop-part-preserved : goal.loop-part-preserved
loop-part-preserved c = record {
  can = tt;
  ends = tt;
  names = gain_on c.loop-part.invariant.names c.numbered_part.ensures.names;
  each = λ later keeps rest are.
      let made = c.in_ok-numbered_part.field-0 in
      let before = c.loop-part.invariant.each later (kept_on _ _ _ c.numbered_part.ensures.names.kept keeps) (made ∷ rest) (subst (λ left. AreParts later left (made ∷ rest)) (sym c.in-Some.ensures.steps.0) (c.in_ok-numbered_part.ensures.part later keeps, are)) in
      let pushed = ap (λ items. items ++ rest) c.in_ok-push.ensures.items ∙ append_assoc c.loop-part.numbered.items (made ∷ []) rest in
      subst (λ all. AreParts later c.args.parts.items all) (sym pushed) before;
}

pub returns-clause-parts : goal.returns-clause-parts
returns-clause-parts c = λ later keeps.
    let none : into_iter_items c.loop-part.part-iterator ≡ [] = nil_from_length _ (omega (arith, c.in-None.ensures.steps.0, c.loop-part.part-iterator.rest.ok.0)) in
    subst (λ all. AreParts later c.args.parts.items all) (append-nil c.loop-part.numbered.items) (c.loop-part.invariant.each later keeps [] (subst (λ left. AreParts later left []) (sym none) tt))
