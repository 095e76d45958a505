use Rattle.std.proofs.Common.{◌≡◌, List, Option, Some, None, MatchOption, refl, length, arith}
use Rattle.std.specs.Option.{option_map_or}
use Rattle.xc_concepts.proofs.Within.{computes}
use Rattle.xc_concepts.specs.Chains.{IsKindBy, kind_from, concept_numbered}
use Rattle.xc_concepts.specs.Declarations.{types_in}
use Rattle.xc_concepts.specs.declared.kind.Kind.TheVariants.{Other, Unknown}
use Rattle.xc_concepts.specs.declared.schema.Concept.{Concept}
use Rattle.xc_concepts.specs.declared.schema.NamedType.{NamedType}
use Rattle.xc_names.specs.declared.expanded.Expanded.{Expanded}
use Rattle.xc_concepts.proofs.laws.kinds_compute.Goals as goal

by_type : (types : List NamedType) (o : Option Expanded) → MatchOption o (option_map_or (kind_from types) o Other ≡ Other) (λ first. IsKindBy types first (option_map_or (kind_from types) o Other))
by_type types None = refl
by_type types (Some first) = computes types (length types) 0 first first refl (omega arith)

by_concept : (types : List NamedType) (o : Option Concept) → let kind = option_map_or (λ c. option_map_or (kind_from types) c.declared.first_type Other) o Unknown in
    MatchOption o (kind ≡ Unknown) (λ c. MatchOption c.declared.first_type (kind ≡ Other) (λ first. IsKindBy types first kind))
by_concept types None = refl
by_concept types (Some c) = by_type types c.declared.first_type

pub returns : goal.returns
returns c = λ schemas number. by_concept (types_in schemas) (concept_numbered schemas number)
