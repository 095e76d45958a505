use Rattle.std.proofs.Common.{◌≡◌, ◌∷◌, [], Some, sym, ap, ◌∙◌, ◌++◌, option_map, rules}
use Rattle.xc_report.specs.Units.{product}
use Rattle.xc_report.proofs.Pieces.{first_none, first_some, last_none, last_some}
use Rattle.xc_report.proofs.units.product.Goals as goal

pub returns-in-None : goal.returns-in-None
returns-in-None c = sym c.loop-first.invariant.all ∙ first_none c.args.prefixes.now c.loop-first.measures.items c.loop-first.left.now (c.in-Some.first.now, c.in-Some.rest.now) (sym c.in-Some.ensures) (sym c.in-None.ensures)

pub loop-first-preserved : goal.loop-first-preserved
loop-first-preserved c =
    let name = c.in_ok-of-in-Some-expanded_name.field-0 in
    let items : c.push.new.self.items ≡ c.loop-first.measures.items ++ name ∷ [] = c.in_ok-push-in-Some-expanded_name.ensures.items in
    record {
      text = search rules;
      all = ap (λ ms. option_map (λ rest. ms ++ rest) (product c.args.prefixes.now c.in-Some.rest.now)) items
          ∙ sym (first_some c.args.prefixes.now c.loop-first.measures.items c.loop-first.left.now (c.in-Some.first.now, c.in-Some.rest.now) name (sym c.in-Some.ensures) (sym c.in-Some-expanded_name.ensures ∙ ap Some (sym c.in_ok-of-in-Some-expanded_name.ensures)))
          ∙ c.loop-first.invariant.all;
    }

pub returns-in-None-expanded_name : goal.returns-in-None-expanded_name
returns-in-None-expanded_name c = sym c.loop-first.invariant.all ∙ last_none c.args.prefixes.now c.loop-first.measures.items c.loop-first.left.now (sym c.in_default.ensures) (sym c.in-None-expanded_name.ensures)

pub returns : goal.returns
returns c =
    let name = c.in_ok-of-in-Some-expanded_name-2.field-0 in
    sym c.loop-first.invariant.all
    ∙ last_some c.args.prefixes.now c.loop-first.measures.items c.loop-first.left.now name (sym c.in_default.ensures) (sym c.in-Some-expanded_name-2.ensures ∙ ap Some (sym c.in_ok-of-in-Some-expanded_name-2.ensures))
    ∙ ap Some (sym (c.of-2.ensures ∙ c.in_ok-push-in-Some-expanded_name-2.ensures.items))
