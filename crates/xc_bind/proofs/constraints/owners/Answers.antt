use Rattle.std.proofs.Common.{arith, rules, ◌≡◌, ◌==◌, ◌∙◌, ◌<◌, ℕ, List, Some, All, IsTrue, false, length, slice_get, refl, sym, ap, subst}
use Rattle.std.proofs.lemmas.Option.{slice_get_read, slice_get_within}
use Rattle.std.specs.List.{list_any}
use Rattle.xc_bind.proofs.Owning.{facts_within, owners_more, owners_left}
use Rattle.xc_points.specs.declared.types.Point.{Point}
use Rattle.xc_bind.proofs.constraints.owners.Goals as goal

pub set_owner-requires : goal.set_owner-requires
set_owner-requires c =
    let points = c.args.points.now.points in
    let item = c.point-item.result in
    let n = c.loop-number.number in
    let there : slice_get points n ≡ Some item = ap (λ (l : List Point). slice_get l n) (sym c.as_slice-point-items.ensures.points) ∙ slice_get_read c.as_slice-point-items.result.now (length c.as_slice-point-items.result.now) n item refl c.loop-number-test.true c.point-item.is in
    subst (λ (l : List ℕ). All (λ f. f < length c.loop-number.all) l) (sym c.as_slice.ensures)
    (subst (λ (m : ℕ). All (λ f. f < m) item.facts) (sym c.loop-number.invariant.facts) (facts_within points c.args.points.now.ends n item c.as_slice-point-items.ensures.kept there))

pub loop-number-preserved : goal.loop-number-preserved
loop-number-preserved c =
    let points = c.args.points.now.points in
    let item = c.point-item.result in
    let n = c.loop-number.number in
    let there : slice_get points n ≡ Some item = ap (λ (l : List Point). slice_get l n) (sym c.as_slice-point-items.ensures.points) ∙ slice_get_read c.as_slice-point-items.result.now (length c.as_slice-point-items.result.now) n item refl c.loop-number-test.true c.point-item.is in
    record {
      facts = c.set_owner.auto.owners ∙ c.loop-number.invariant.facts;
      owned = owners_more points c.args.points.now.ends c.loop-number.all c.set_owner.new.owners n item c.as_slice-point-items.ensures.kept there
          (λ f h. c.set_owner.ensures.own f (subst (λ (l : List ℕ). IsTrue (list_any (λ g. g == f) l)) (sym c.as_slice.ensures) h))
          (λ f h. c.set_owner.ensures.others f (subst (λ (l : List ℕ). list_any (λ g. g == f) l ≡ false) (sym c.as_slice.ensures) h))
          c.loop-number.invariant.owned;
    }

pub returns : goal.returns
returns c =
    let points = c.args.points.now.points in
    let e : c.loop-fact.owners.len ≡ length c.loop-number.all = search rules in
    let past : length points ≡ length c.as_slice-point-items.result.now = ap length (sym c.as_slice-point-items.ensures.points) in
    owners_left c.args.points.now c.loop-number.all c.loop-fact.owners.items c.loop-fact.owners.len e c.loop-number.invariant.facts
    (λ k p at f has. c.loop-number.invariant.owned k p (omega (arith, slice_get_within points k p at, past, c.loop-number-test.false)) at f has)
