use Rattle.std.proofs.Common.{◌≡◌, ℕ, List, Option, Some, None, option_map, ap, sym, ◌∙◌}
use Rattle.std.specs.Option.{option_map_or}
use Rattle.xc_concepts.specs.Chains.{concept_numbered, kind_from, kind_of}
use Rattle.xc_concepts.specs.Declarations.{concepts_in, types_in}
use Rattle.xc_concepts.specs.Steps.Links.{as_name, next_name, first_type_of}
use Rattle.xc_concepts.specs.declared.kind.Kind.TheVariants.{Other, Unknown}
use Rattle.xc_concepts.specs.declared.schema.Concept.{Concept}
use Rattle.xc_concepts.specs.declared.schema.Schema.{Schema}
use Rattle.xc_names.specs.declared.expanded.Expanded.{Expanded}
use Rattle.xc_concepts.proofs.concepts.Concepts.kind.Goals as goal

-- the kind of a concept whose first type name is known
kind_known : (schemas : List Schema) (number : ℕ) (first : Expanded) → first_type_of number (concepts_in schemas) ≡ Some (Some first) → kind_from (types_in schemas) first ≡ kind_of schemas number
kind_known schemas number first e = by (concept_numbered schemas number) e
  where
    named : (o : Option Expanded) → o ≡ Some first → kind_from (types_in schemas) first ≡ option_map_or (kind_from (types_in schemas)) o Other
    named o e = ap (λ p. option_map_or (kind_from (types_in schemas)) p Other) (sym e)

    by : (o : Option Concept) → option_map (λ c. c.declared.first_type) o ≡ Some (Some first) → kind_from (types_in schemas) first ≡ option_map_or (λ c. option_map_or (kind_from (types_in schemas)) c.declared.first_type Other) o Unknown
    by None e = absurd (cc)
    by (Some c) e = named c.declared.first_type (cc)

pub returns-in-Some-Some-clause-computed : goal.returns-in-Some-Some-clause-computed
returns-in-Some-Some-clause-computed c =
    let number = c.args.concept.0 in
    let first = as_name c.in-Some-Some.first in
    c.kind_by.ensures.computed
    ∙ ap (λ s. kind_from (types_in s) first) (c.as_slice.ensures.value ∙ c.self.view_is)
    ∙ kind_known c.args.self.now number first
    (ap (λ s. first_type_of number (concepts_in s)) (sym c.self.view_is) ∙ sym (c.self.invariant.1 number) ∙ ap next_name (sym c.in-Some-Some.ensures.value) ∙ ap (λ o. Some (option_map as_name o)) c.in-Some-Some.field-0-is)
