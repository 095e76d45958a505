-- Kinds of types that are worked out, in a map by their names.
use Rattle.indexmap.specs.IndexMap.{IndexMap, get}
use Rattle.std.specs.Prelude.{◌≡◌, List, IfSome}
use Rattle.xc_concepts.specs.Chains.{kind_from}
use Rattle.xc_concepts.specs.Steps.Links.{as_name, is_same_type}
use Rattle.xc_concepts.specs.declared.kind.Kind.{Kind}
use Rattle.xc_concepts.specs.declared.links.TypeName.{TypeName}
use Rattle.xc_concepts.specs.declared.schema.NamedType.{NamedType}

-- each name in the map has the kind by the chain of type names that begins with it
abbrev pub AreKinds : {S : Type 0} → List NamedType → IndexMap TypeName Kind S → Type 0
AreKinds types kinds = (name : TypeName) → IfSome (get is_same_type kinds name) (λ kind. kind ≡ kind_from types (as_name name))
