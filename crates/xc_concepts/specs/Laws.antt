-- What follows from the definitions, in the words of schemas.
use Rattle.std.specs.Prelude.{◌≡◌, ℕ, List}
use Rattle.xc_concepts.specs.Chains.{IsKind, kind_of}
use Rattle.xc_concepts.specs.declared.kind.Kind.{Kind}
use Rattle.xc_concepts.specs.declared.schema.Schema.{Schema}

-- a number has one kind at most
abbrev pub OneKind : Type 0
OneKind = (schemas : List Schema) (number : ℕ) (kind other : Kind) → IsKind schemas number kind → IsKind schemas number other → kind ≡ other

-- the kind that computes from the number of a concept is the one by its chain of type names
abbrev pub KindsCompute : Type 0
KindsCompute = (schemas : List Schema) (number : ℕ) → IsKind schemas number (kind_of schemas number)
