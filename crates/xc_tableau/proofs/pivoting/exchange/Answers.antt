use Rattle.std.proofs.Common.{◌≡◌, ◌*◌, length, refl, arith}
use Rattle.xc_frac.specs.declared.wide.Wide.{Wide}
use Rattle.xc_lists.proofs.Outcomes.{if_done}
use Rattle.xc_tableau.specs.Exchanges.{PassesIn, IsExchanged}
use Rattle.xc_tableau.specs.Steps.{table, EnteringDone, OthersDone}
use Rattle.xc_tableau.proofs.Exchanging.{none_passes}
use Rattle.xc_tableau.proofs.pivoting.exchange.Goals as goal

pub returns : goal.returns
returns c =
    let p = c.args.pivot.now in
    let f = c.fill_others.ensures in
    let new = c.fill_others.new.new in
    let filled : length new ≡ p.rows * p.columns = omega arith in
    let made = λ (entering : EnteringDone p c.args.entries.now p.columns new) (done : OthersDone p c.args.entries.now p.rows new).
    let exchanged : IsExchanged (table p c.args.entries.now) p.row p.column (table p new) = record { rows = refl; columns = refl; entering = entering; others = done } in exchanged in
    record {
      room = omega arith;
      exchanged = if_done c.fill_others.result _ _ (IsExchanged (table p c.args.entries.now) p.row p.column (table p new)) f.entering f.done made;
      fits = if_done c.fill_others.result _ _ ((w : Wide) → ¬ PassesIn (table p c.args.entries.now) p.row p.column w) f.entering f.done
          (λ entering done w h. none_passes (table p c.args.entries.now) p.row p.column (table p new) filled (made entering done) c.requires.pivot.row c.requires.pivot.column w h.stands h.passes);
      passes = f.passes;
    }
