use Rattle.std.proofs.Common.{◌≡◌, ◌≢◌, ℕ, true, false, inl, inr, ⊎_elim, sym, ap, subst, ◌∙◌, arith}
use Rattle.std.proofs.lemmas.Bool.{cases_eq, false≢true}
use Rattle.xc_corners.specs.Conflicts.{multiplier}
use Rattle.xc_corners.specs.Corners.{Corner}
use Rattle.xc_model.specs.Ratio.{IsOver}
use Rattle.xc_pivot.specs.declared.types.Place.TheVariants.{Row, High, Low}
use Rattle.xc_pivot.proofs.Counts.{own_over, basic_over, other_over}
use Rattle.xc_pivot.proofs.Placed.{place_at, row_inside, row_basic, column_inside, column_other}
use Rattle.xc_pivot.proofs.refuting.count_of.Goals as goal

pub entry-requires-clause-row : goal.entry-requires-clause-row
entry-requires-clause-row c = omega (arith, row_inside c.args.problem.now c.args.state.now c.args.leaving.variable c.args.leaving.row c.requires.shaped c.requires.row, c.requires.shaped.rows)

pub entry-requires-clause-column : goal.entry-requires-clause-column
entry-requires-clause-column c =
    let s = c.args.state.now in
    let here = place_at s.places.items c.args.variable c.index.result.now (Low c.in-Low.column) c.requires.variable c.index.ensures c.in-Low.is in
    omega (arith, column_inside c.args.problem.now s c.args.variable c.in-Low.column c.requires.shaped (inl here), c.requires.shaped.columns)

pub entry-requires-in-High-clause-row : goal.entry-requires-in-High-clause-row
entry-requires-in-High-clause-row c = omega (arith, row_inside c.args.problem.now c.args.state.now c.args.leaving.variable c.args.leaving.row c.requires.shaped c.requires.row, c.requires.shaped.rows)

pub entry-requires-in-High-clause-column : goal.entry-requires-in-High-clause-column
entry-requires-in-High-clause-column c =
    let s = c.args.state.now in
    let here = place_at s.places.items c.args.variable c.index.result.now (High c.in-High.column) c.requires.variable c.index.ensures c.in-High.is in
    omega (arith, column_inside c.args.problem.now s c.args.variable c.in-High.column c.requires.shaped (inr here), c.requires.shaped.columns)

-- a variable that is not basic is another than one that is
apart : (x : Corner) (j b : ℕ) → x.basic b ≡ true → x.basic j ≡ false → j ≢ b
apart x j b basic other same = false≢true (sym other ∙ ap x.basic same ∙ basic)

pub returns-in-Row : goal.returns-in-Row
returns-in-Row c x t at =
    let s = c.args.state.now in
    let b = c.args.leaving.variable in
    let here = place_at s.places.items c.args.variable c.index.result.now (Row c.in-Row.field-0) c.requires.variable c.index.ensures c.in-Row.is in
    ⊎_elim
    (λ (same : c.args.variable ≡ b). subst (λ (k : ℕ). IsOver c.own_count.result (multiplier x t c.args.leaving.above b k) t.over) (sym same) (own_over x t c.args.leaving.above b c.own_count.result at.solved.positive (c.own_count.ensures.own same)))
    (λ (other : c.args.variable ≢ b). basic_over x t c.args.leaving.above b c.own_count.result c.args.variable other (row_basic _ _ x s.places.items c.args.variable c.in-Row.field-0 at.placed here) at.solved.positive (c.own_count.ensures.other other))
    (cases_eq c.args.variable b)

pub returns-in-Low : goal.returns-in-Low
returns-in-Low c x t at =
    let s = c.args.state.now in
    let b = c.args.leaving.variable in
    let here = place_at s.places.items c.args.variable c.index.result.now (Low c.in-Low.column) c.requires.variable c.index.ensures c.in-Low.is in
    let other = column_other _ _ x s.places.items c.args.variable c.in-Low.column at.placed (inl here) in
    let basic = row_basic _ _ x s.places.items b c.args.leaving.row at.placed c.requires.row in
    other_over x t c.args.leaving.above b c.number_with_sign.result c.args.variable (apart x c.args.variable b basic other) other
    (c.number_with_sign.ensures (t.factor b c.args.variable) t.over (at.factors b c.args.variable c.args.leaving.row c.in-Low.column c.entry.result c.requires.row (inl here) c.entry.ensures))

pub returns-in-High : goal.returns-in-High
returns-in-High c x t at =
    let s = c.args.state.now in
    let b = c.args.leaving.variable in
    let here = place_at s.places.items c.args.variable c.index.result.now (High c.in-High.column) c.requires.variable c.index.ensures c.in-High.is in
    let other = column_other _ _ x s.places.items c.args.variable c.in-High.column at.placed (inr here) in
    let basic = row_basic _ _ x s.places.items b c.args.leaving.row at.placed c.requires.row in
    other_over x t c.args.leaving.above b c.number_with_sign-in-High.result c.args.variable (apart x c.args.variable b basic other) other
    (c.number_with_sign-in-High.ensures (t.factor b c.args.variable) t.over (at.factors b c.args.variable c.args.leaving.row c.in-High.column c.entry-in-High.result c.requires.row (inr here) c.entry-in-High.ensures))
