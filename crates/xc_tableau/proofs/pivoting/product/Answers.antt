use Rattle.std.proofs.Common.{◌≡◌, ◌≢◌, refl, ⊎_elim}
use Rattle.std.proofs.lemmas.Bool.{cases_eq}
use Rattle.xc_lists.proofs.Outcomes.{if_ok, if_named}
use Rattle.xc_corners.specs.Operations.{operation, IsProductFactor, own_times, other_times}
use Rattle.xc_frac.specs.declared.wide.Op.TheVariants.{Mul}
use Rattle.xc_frac.specs.Passes.{Passes}
use Rattle.xc_tableau.specs.Exchanges.{PassesIn, IsLeaving}
use Rattle.xc_tableau.specs.Steps.{table}
use Rattle.xc_tableau.specs.Tables.{Has}
use Rattle.xc_tableau.proofs.pivoting.product.Goals as goal

pub returns : goal.returns
returns c =
    let p = c.args.pivot.now in
    record {
      leaving = if_ok c.mul.result _ (λ r. c.args.column ≡ p.column → IsLeaving (table p c.args.entries.now) p.row p.column c.args.row r) c.mul.ensures.exact
          (λ r h same. record { factor = c.args.factor; is_factor = c.requires.factor; own = c.args.entering; is_own = c.requires.entering.0 same; gives = h });
      product = if_ok c.mul.result _ (λ m. c.args.column ≢ p.column → IsProductFactor (Has (table p c.args.entries.now)) p.row p.column c.args.row c.args.column m) c.mul.ensures.exact
          (λ m h other. record { factor = c.args.factor; is_factor = c.requires.factor; other = c.args.entering; is_other = c.requires.entering.1 other; gives = h });
      passes = if_named c.mul.result (PassesIn (table p c.args.entries.now) p.row p.column) (operation Mul c.args.factor c.args.entering) (Passes Mul c.args.factor c.args.entering) c.mul.ensures.operands c.mul.ensures.passes
          (λ h. record {
            stands = ⊎_elim (λ same. own_times c.args.row c.args.factor c.args.entering c.requires.row c.requires.other c.requires.factor (c.requires.entering.0 same) refl)
                (λ other. other_times c.args.row c.args.column c.args.factor c.args.entering c.requires.row c.requires.other c.requires.column other c.requires.factor (c.requires.entering.1 other) refl)
                (cases_eq c.args.column p.column);
            passes = h;
          });
    }
