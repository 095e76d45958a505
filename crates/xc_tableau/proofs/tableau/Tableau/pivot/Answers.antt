use Rattle.std.proofs.Common.{◌≡◌, List, length, ap, sym, ◌∙◌, arith}
use Rattle.std.proofs.lemmas.List.{with_items_is}
use Rattle.xc_model.specs.Ratio.{Ratio}
use Rattle.xc_tableau.specs.Tables.{Table}
use Rattle.xc_tableau.proofs.Exchanging.{exchanged_same, passes_same}
use Rattle.xc_tableau.proofs.tableau.Tableau.pivot.Goals as goal

pub returns-clause-exchanged : goal.returns-clause-exchanged
returns-clause-exchanged c =
    let s = c.self.inside in
    let old = ap (λ (xs : List Ratio). let t : Table = record { rows = s.rows; columns = s.columns; entries = xs } in t) c.as_slice.ensures.value ∙ c.self.view_is in
    let new = ap (λ v. let t : Table = record { rows = s.rows; columns = s.columns; entries = v.items } in t) (sym c.swap.ensures.x_after) in
    let n = c.exchange.new.new in
    let filled : length n ≡ s.spare.len = omega (arith, s.spare.ok.0) in
    let written = with_items_is s.spare n filled in
    let whole = ap (λ (xs : List Ratio). let t : Table = record { rows = s.rows; columns = s.columns; entries = xs } in t) (sym written) ∙ new in
    exchanged_same c.args.row c.args.column _ _ _ _ old whole c.in_default.ensures.exchanged

pub returns-clause-fits : goal.returns-clause-fits
returns-clause-fits c w h =
    let s = c.self.inside in
    let old = ap (λ (xs : List Ratio). let t : Table = record { rows = s.rows; columns = s.columns; entries = xs } in t) c.as_slice.ensures.value ∙ c.self.view_is in
    c.in_default.ensures.fits w (passes_same c.args.row c.args.column _ _ w old h)

pub returns-in-Err-clause-passes : goal.returns-in-Err-clause-passes
returns-in-Err-clause-passes c =
    let s = c.self.inside in
    let old = ap (λ (xs : List Ratio). let t : Table = record { rows = s.rows; columns = s.columns; entries = xs } in t) c.as_slice.ensures.value ∙ c.self.view_is in
    passes_same c.args.row c.args.column _ _ c.in-Err.wide (sym old) c.in-Err.ensures.passes
