use Rattle.std.proofs.Common.{refl}
use Rattle.xc_lists.proofs.Outcomes.{if_both, if_named}
use Rattle.xc_corners.specs.Operations.{operation, Gives, other_added}
use Rattle.xc_frac.specs.Passes.{Passes}
use Rattle.xc_frac.specs.declared.wide.Op.TheVariants.{Add}
use Rattle.xc_tableau.specs.Exchanges.{PassesIn, IsOtherEntry}
use Rattle.xc_tableau.specs.Steps.{table}
use Rattle.xc_tableau.proofs.Exchanging.{has_read}
use Rattle.xc_tableau.proofs.pivoting.other_entry.Goals as goal

pub returns-then-column-pivot-clause-is : goal.returns-then-column-pivot-clause-is
returns-then-column-pivot-clause-is c = ((λ same. c.in_ok-product.ensures.leaving same), (λ other. absurd (other c.if-column-pivot.true)))

pub returns-clause-is : goal.returns-clause-is
returns-clause-is c =
    let p = c.args.pivot.now in
    let here = has_read (table p c.args.entries.now) c.args.row c.args.column c.place.result c.index-entries-place.result c.requires.pivot.filled c.place.ensures c.requires.row c.requires.column c.index-entries-place.is in
    if_both c.add.result (Gives Add c.index-entries-place.result c.in_ok-product.product) (IsOtherEntry (table p c.args.entries.now) p.row p.column c.args.row c.args.column) (¬ Passes Add c.index-entries-place.result c.in_ok-product.product) c.add.ensures.exact c.add.ensures.fits
    (λ r h fits. ((λ same. absurd (c.if-column-pivot.false same)), (λ other. record { factor = c.index-entries-place.result; is_factor = here; product = c.in_ok-product.product; is_product = c.in_ok-product.ensures.product other; gives = h; fits = fits })))

pub returns-clause-passes : goal.returns-clause-passes
returns-clause-passes c =
    let p = c.args.pivot.now in
    let here = has_read (table p c.args.entries.now) c.args.row c.args.column c.place.result c.index-entries-place.result c.requires.pivot.filled c.place.ensures c.requires.row c.requires.column c.index-entries-place.is in
    if_named c.add.result (PassesIn (table p c.args.entries.now) p.row p.column) (operation Add c.index-entries-place.result c.in_ok-product.product) (Passes Add c.index-entries-place.result c.in_ok-product.product) c.add.ensures.operands c.add.ensures.passes
    (λ h. record { stands = other_added c.args.row c.args.column c.index-entries-place.result c.in_ok-product.product c.requires.row c.requires.other c.requires.column c.if-column-pivot.false here (c.in_ok-product.ensures.product c.if-column-pivot.false) refl; passes = h })
