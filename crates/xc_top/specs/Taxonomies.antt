-- What the documents of a taxonomy say together, and the first rule that one of them breaks.
use Rattle.std.specs.Prelude.{◌≡◌, ◌⊎◌, ℕ, List, [], ◌∷◌, filter_map, flat_map, map, slice_get, take, Option, Some, None, option_and_then, if◌then◌else◌}
use Rattle.xc_chars.specs.Parts.{file_name}
use Rattle.xc_calc.specs.Linkbases.{is_linkbase}
use Rattle.xc_calc.specs.Linked.{arcs_in}
use Rattle.xc_calc.specs.Networks.{AreNetworks}
use Rattle.xc_calc.specs.Rules as link
use Rattle.xc_calc.specs.Wanted.{AreNodes}
use Rattle.xc_calc.specs.declared.arc.ArcKind.{ArcKind}
use Rattle.xc_calc.specs.declared.arc.ListedArc.{ListedArc}
use Rattle.xc_calc.specs.declared.arc.Network.{Network}
use Rattle.xc_concepts.specs.Declarations.{IsSchemaOf}
use Rattle.xc_concepts.specs.Held.{AreHeld, AreTyped}
use Rattle.xc_lists.specs.Places.{first_given, places}
use Rattle.xc_concepts.specs.Rules as schema
use Rattle.xc_concepts.specs.Schemas.{is_schema}
use Rattle.xc_concepts.specs.declared.schema.Schema.{Schema}
use Rattle.xc_elements.specs.declared.nodes.Node.{Node}
use Rattle.xc_names.specs.declared.expanded.Expanded.{Expanded}
use Rattle.xc_names.specs.declared.wanted.Wanted.{Wanted}
use Rattle.xc_top.specs.Answers.{schema_refusal, link_refusal}
use Rattle.xc_top.specs.Documents.{first_unread}
use Rattle.xc_top.specs.declared.documents.Content.{Content}
use Rattle.xc_top.specs.declared.documents.Content.TheVariants.{Elements, Broken}
use Rattle.xc_top.specs.declared.documents.Document.{Document}
use Rattle.xc_top.specs.declared.status.Answer.{Answer}

-- the elements of a document with the word that names it
pub record Part : Type 0 where
  pub word : List ℕ
  pub nodes : List Node

-- these elements, under this word
abbrev pub part_of : List ℕ → List Node → Part
part_of word nodes = record { word = word; nodes = nodes }

-- the elements of a schema
abbrev pub schema_in_content : List ℕ → Content → Option Part
schema_in_content word (Elements nodes) = if is_schema nodes then Some (part_of word nodes) else None
schema_in_content word (Broken fault) = None

-- the elements of a linkbase
abbrev pub linkbase_in_content : List ℕ → Content → Option Part
linkbase_in_content word (Elements nodes) = if is_linkbase nodes then Some (part_of word nodes) else None
linkbase_in_content word (Broken fault) = None

-- the elements of a document that is a schema
abbrev pub schema_in : Document → Option Part
schema_in document = schema_in_content document.word document.content

-- the elements of a document that is a linkbase
abbrev pub linkbase_in : Document → Option Part
linkbase_in document = linkbase_in_content document.word document.content

-- the schemas among documents, in their order
abbrev pub schemas_in : List Document → List Part
schemas_in documents = filter_map schema_in documents

-- the linkbases among documents, in their order
abbrev pub linkbases_in : List Document → List Part
linkbases_in documents = filter_map linkbase_in documents

-- what these schemas declare, one by one, whatever the numbers of the concepts
abbrev pub AreSchemasOf : List Part → List Schema → Type 0
AreSchemasOf [] [] = Unit {0}
AreSchemasOf [] (schema ∷ schemas) = ⊥
AreSchemasOf (part ∷ parts) [] = ⊥
AreSchemasOf (part ∷ parts) (schema ∷ schemas) = IsSchemaOf (file_name part.word) part.nodes schema × AreSchemasOf parts schemas

-- what is answered of a schema that breaks a rule beside the earlier ones
abbrev pub schema_broken : List Schema → Part → Option Answer
schema_broken earlier part = option_and_then (schema_refusal part.word) (schema.first_broken earlier (file_name part.word) part.nodes)

-- what is answered of schema k, where it breaks a rule beside the k before it
abbrev pub schema_broken_at : List Part → List Schema → ℕ → Option Answer
schema_broken_at parts schemas k = option_and_then (schema_broken (take k schemas)) (slice_get parts k)

-- what is answered of the first schema that breaks a rule
abbrev pub first_schema_broken : List Part → List Schema → Option Answer
first_schema_broken parts schemas = first_given (schema_broken_at parts schemas) (places parts)

-- what is answered of a linkbase that breaks a rule over the concepts of all schemas
abbrev pub link_broken : ArcKind → List Schema → Part → Option Answer
link_broken kind schemas part = option_and_then (link_refusal part.word) (link.first_broken kind schemas part.nodes)

-- what is answered of the first linkbase that breaks a rule
abbrev pub first_link_broken : ArcKind → List Schema → List Part → Option Answer
first_link_broken kind schemas parts = first_given (link_broken kind schemas) parts

-- the arcs of all linkbases, in reading order
abbrev pub arcs_of : ArcKind → List Schema → List Part → List ListedArc
arcs_of kind schemas parts = flat_map (λ part. arcs_in kind schemas part.nodes) parts

-- what a taxonomy says: the networks of its effective arcs, the concepts at the ends of its arcs, and its typed dimensions
pub record IsTaxonomy (schemas : List Schema) (arcs : List ListedArc) (networks : List Network) (wanted : Wanted) : Type 0 where
  pub networks_are : AreNetworks arcs networks
  pub nodes : AreNodes arcs (map (λ id. id.0) wanted.nodes)
  pub typed : AreTyped schemas (map (λ id. id.0) wanted.typed)

-- the documents are schemas and linkbases that break no rule, with the concepts numbered among these names, and this is what they say
pub record IsTaxonomyOf (kind : ArcKind) (documents : List Document) (names : List Expanded) (networks : List Network) (wanted : Wanted) : Type 0 where
  pub read : first_unread documents ≡ None
  pub schemas : List Schema
  pub declared : AreSchemasOf (schemas_in documents) schemas
  pub sound : first_schema_broken (schemas_in documents) schemas ≡ None
  pub held : AreHeld schemas names
  pub linked : first_link_broken kind schemas (linkbases_in documents) ≡ None
  pub says : IsTaxonomy schemas (arcs_of kind schemas (linkbases_in documents)) networks wanted

-- the documents are schemas and linkbases, and this is answered of the first schema that breaks a rule
pub record IsSchemaRefusal (documents : List Document) (answer : Answer) : Type 0 where
  pub read : first_unread documents ≡ None
  pub schemas : List Schema
  pub declared : AreSchemasOf (schemas_in documents) schemas
  pub broken : first_schema_broken (schemas_in documents) schemas ≡ Some answer

-- no schema breaks a rule, and this is answered of the first linkbase that breaks one
pub record IsLinkRefusal (kind : ArcKind) (documents : List Document) (answer : Answer) : Type 0 where
  pub read : first_unread documents ≡ None
  pub schemas : List Schema
  pub declared : AreSchemasOf (schemas_in documents) schemas
  pub sound : first_schema_broken (schemas_in documents) schemas ≡ None
  pub names : List Expanded
  pub held : AreHeld schemas names
  pub broken : first_link_broken kind schemas (linkbases_in documents) ≡ Some answer

-- what is answered where the documents make no taxonomy: one of them is neither a schema nor a linkbase; or else a schema breaks a rule; or else a linkbase does
abbrev pub IsTaxonomyRefusal : ArcKind → List Document → Answer → Type 0
IsTaxonomyRefusal kind documents answer = (first_unread documents ≡ Some answer) ⊎ IsSchemaRefusal documents answer ⊎ IsLinkRefusal kind documents answer
