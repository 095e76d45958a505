use Rattle.std.proofs.Common.{refl}
use Rattle.std.proofs.lemmas.Bool.{false≢true}
use Rattle.xc_system.proofs.Acyclic.{points_inside, equations_inside, acyclic_from, acyclic_to}
use Rattle.xc_system.proofs.forests.is_narrow_forest.Goals as goal

pub has_no_cycle-requires : goal.has_no_cycle-requires
has_no_cycle-requires c = equations_inside c.args.system.now c.args.component.now c.requires

pub have_unit_weights-requires : goal.have_unit_weights-requires
have_unit_weights-requires c = equations_inside c.args.system.now c.args.component.now c.requires

pub is_narrow-requires : goal.is_narrow-requires
is_narrow-requires c = points_inside c.args.system.now c.args.component.now c.requires

pub returns-then-not-has_no_cycle-clause-is : goal.returns-then-not-has_no_cycle-clause-is
returns-then-not-has_no_cycle-clause-is c =
    (λ h. absurd (false≢true h), λ n. c.if-not-has_no_cycle.ensures.is.1 (acyclic_to c.args.system.now c.args.component.now c.has_no_cycle.ensures.system c.requires n.forest n.once))

pub returns-then-not-have_unit_weights-clause-is : goal.returns-then-not-have_unit_weights-clause-is
returns-then-not-have_unit_weights-clause-is c = (λ h. absurd (false≢true h), λ n. c.if-not-have_unit_weights.ensures.1 n.weights)

pub returns-clause-is : goal.returns-clause-is
returns-clause-is c =
    let a = acyclic_from c.args.system.now c.args.component.now c.has_no_cycle.ensures.system c.requires (c.if-not-has_no_cycle.ensures.is.0 refl) in (
      λ h. record {
        forest = a.0;
        once = a.1;
        weights = c.if-not-have_unit_weights.ensures.0 refl;
        known = (c.is_narrow.ensures.0 h).0;
        narrow = (c.is_narrow.ensures.0 h).1;
      },
      λ n. c.is_narrow.ensures.1 (n.known, n.narrow),
    )
