use Rattle.std.proofs.Common.{refl, sym, subst}
use Rattle.xc_concepts.proofs.KnownKinds.{computed, is_computed, known}
use Rattle.xc_concepts.proofs.Walks.{kind_of_end}
use Rattle.xc_concepts.specs.Chains.{IsKindBy}
use Rattle.xc_concepts.specs.Declarations.{types_in}
use Rattle.xc_concepts.specs.Steps.Links.{as_name}
use Rattle.xc_concepts.proofs.kinds.kind_by.Goals as goal

pub returns-in-Some-clause-computed : goal.returns-in-Some-clause-computed
returns-in-Some-clause-computed c = known (types_in c.args.schemas.now) c.args.kinds.now c.args.first.now c.in-Some.kind.now c.requires.kinds (sym c.in-Some.ensures.value)

pub returns-in-Some-clause-chain : goal.returns-in-Some-clause-chain
returns-in-Some-clause-chain c =
    let types = types_in c.args.schemas.now in
    let first = as_name c.args.first.now in
    subst (IsKindBy types first) (sym (known types c.args.kinds.now c.args.first.now c.in-Some.kind.now c.requires.kinds (sym c.in-Some.ensures.value))) (computed types first)

pub returns-in-Some-base_name-clause-computed : goal.returns-in-Some-base_name-clause-computed
returns-in-Some-base_name-clause-computed c =
    is_computed (types_in c.args.schemas.now) (as_name c.args.first.now) c.walk.result.0 (c.walk.ensures (types_in c.args.schemas.now) c.requires.bases c.requires.kinds c.count_types.ensures)

pub returns-in-None-clause-chain : goal.returns-in-None-clause-chain
returns-in-None-clause-chain c =
    let types = types_in c.args.schemas.now in
    let first = as_name c.args.first.now in
    kind_of_end types 0 first first c.kind_of_last.result refl (sym (c.in-None.ensures types c.requires.bases)) (c.kind_of_last.ensures types c.requires.bases)
