use Rattle.std.proofs.Common.{◌≡◌, suc, true, refl, sym, subst, ◌∙◌, arith}
use Rattle.xc_concepts.proofs.KnownKinds.{is_reached, known, kind_of_known}
use Rattle.xc_concepts.proofs.Walks.{Reaches, same_is, kind_of_end, kind_of_circle, kind_of_round}
use Rattle.xc_concepts.specs.Steps.Links.{as_name, is_same_type}
use Rattle.xc_concepts.proofs.kinds.walk.Goals as goal

pub returns-in-Some-get : goal.returns-in-Some-get
returns-in-Some-get c = λ types bases kinds long.
    let walk = c.loop-base.invariant.walk types bases in
    kind_of_known types c.loop-base.steps (as_name c.args.first.now) (as_name c.loop-base.name.now) c.in-Some-get.kind.now walk.0
    (known types c.args.kinds.now c.loop-base.name.now c.in-Some-get.kind.now kinds (sym c.in-Some-get.ensures.value))

pub returns-then-steps-count : goal.returns-then-steps-count
returns-then-steps-count c = λ types bases kinds long.
    kind_of_circle types c.loop-base.steps (as_name c.args.first.now) (as_name c.loop-base.name.now) (as_name c.in-Some.base.now) (c.loop-base.invariant.walk types bases).0 (sym (c.in-Some.ensures types bases))
    (omega (arith, c.if-steps-count.true, long))

pub returns-then-eq : goal.returns-then-eq
returns-then-eq c = λ types bases kinds long.
    let walk = c.loop-base.invariant.walk types bases in
    let name = as_name c.loop-base.name.now in
    let base = as_name c.in-Some.base.now in
    let step = sym (c.in-Some.ensures types bases) in
    let same : is_same_type c.in-Some.base.now c.loop-base.mark.now ≡ true = sym c.eq.ensures ∙ c.if-eq.true in
    kind_of_round types (suc c.loop-base.steps) walk.1.0 (as_name c.args.first.now) base (name, walk.0, step)
    (subst (λ mark. Reaches types (suc walk.1.0) mark base) (sym (same_is base (as_name c.loop-base.mark.now) same)) (name, walk.1.1, step))

pub loop-base-preserved-then-steps-marked : goal.loop-base-preserved-then-steps-marked
loop-base-preserved-then-steps-marked c = record {
  small = omega (arith, c.loop-base.invariant.small, c.if-steps-count.false);
  walk = λ types bases.
      let walk = c.loop-base.invariant.walk types bases in
      (is_reached types c.loop-base.steps (as_name c.args.first.now) (as_name c.loop-base.name.now) (as_name c.in-Some.base.now) walk.0 (sym (c.in-Some.ensures types bases)), (0, refl));
}

pub loop-base-preserved : goal.loop-base-preserved
loop-base-preserved c = record {
  small = omega (arith, c.loop-base.invariant.small, c.if-steps-count.false);
  walk = λ types bases.
      let walk = c.loop-base.invariant.walk types bases in
      let name = as_name c.loop-base.name.now in
      let step = sym (c.in-Some.ensures types bases) in
      (is_reached types c.loop-base.steps (as_name c.args.first.now) name (as_name c.in-Some.base.now) walk.0 step, (suc walk.1.0, (name, walk.1.1, step)));
}

pub returns : goal.returns
returns c = λ types bases kinds long.
    kind_of_end types c.loop-base.steps (as_name c.args.first.now) (as_name c.loop-base.name.now) c.kind_of_last.result (c.loop-base.invariant.walk types bases).0
    (sym (c.in_default.ensures types bases)) (c.kind_of_last.ensures types bases)
