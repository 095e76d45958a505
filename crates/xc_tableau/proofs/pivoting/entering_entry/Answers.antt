use Rattle.std.proofs.Common.{refl, arith}
use Rattle.xc_lists.proofs.Outcomes.{if_ok, if_named}
use Rattle.xc_corners.specs.Operations.{operation, own_divided, other_divided}
use Rattle.xc_frac.specs.declared.wide.Op.TheVariants.{Div}
use Rattle.xc_frac.specs.Passes.{Passes}
use Rattle.xc_tableau.specs.Exchanges.{PassesIn, IsEntering}
use Rattle.xc_tableau.specs.Steps.{table}
use Rattle.xc_tableau.proofs.Exchanging.{has_read}
use Rattle.xc_tableau.proofs.pivoting.entering_entry.Goals as goal

pub returns-then-column-pivot-clause-is : goal.returns-then-column-pivot-clause-is
returns-then-column-pivot-clause-is c =
    let p = c.args.pivot.now in
    if_ok c.div.result _ (IsEntering (table p c.args.entries.now) p.row p.column c.args.column) c.div.ensures.exact
    (λ u h. ((λ same. record { one = c.ratio.result; is_one = c.ratio.ensures; pivot = p.value; is_pivot = c.requires.pivot.value; gives = h }), (λ other. absurd (other (omega arith)))))

pub returns-then-column-pivot-clause-passes : goal.returns-then-column-pivot-clause-passes
returns-then-column-pivot-clause-passes c =
    let p = c.args.pivot.now in
    if_named c.div.result (PassesIn (table p c.args.entries.now) p.row p.column) (operation Div c.ratio.result p.value) (Passes Div c.ratio.result p.value) c.div.ensures.operands c.div.ensures.passes
    (λ h. record { stands = own_divided c.ratio.result p.value c.ratio.ensures c.requires.pivot.value refl; passes = h })

pub returns-clause-is : goal.returns-clause-is
returns-clause-is c =
    let p = c.args.pivot.now in
    let here = has_read (table p c.args.entries.now) p.row c.args.column c.place.result c.index-entries-place.result c.requires.pivot.filled c.place.ensures c.requires.pivot.row c.requires.column c.index-entries-place.is in
    if_ok c.div-2.result _ (IsEntering (table p c.args.entries.now) p.row p.column c.args.column) c.div-2.ensures.exact
    (λ u h. ((λ same. absurd (omega arith)), (λ other. record { factor = c.index-entries-place.result; is_factor = here; negative = c.negative_of.result; is_negative = c.negative_of.ensures; pivot = p.value; is_pivot = c.requires.pivot.value; gives = h })))

pub returns-clause-passes : goal.returns-clause-passes
returns-clause-passes c =
    let p = c.args.pivot.now in
    let here = has_read (table p c.args.entries.now) p.row c.args.column c.place.result c.index-entries-place.result c.requires.pivot.filled c.place.ensures c.requires.pivot.row c.requires.column c.index-entries-place.is in
    if_named c.div-2.result (PassesIn (table p c.args.entries.now) p.row p.column) (operation Div c.negative_of.result p.value) (Passes Div c.negative_of.result p.value) c.div-2.ensures.operands c.div-2.ensures.passes
    (λ h. record { stands = other_divided c.args.column c.index-entries-place.result c.negative_of.result p.value c.requires.column (λ same. absurd (omega arith)) here c.negative_of.ensures c.requires.pivot.value refl; passes = h })
