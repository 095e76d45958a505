use Rattle.std.proofs.Common.{◌∷◌, [], ◌++◌, nat_eq, ap, sym, ◌∙◌, cond}
use Rattle.indexmap.specs.IndexMap.{get}
use Rattle.std.specs.BTreeMap.{get_by_text}
use Rattle.std.specs.Option.{option_or}
use Rattle.std.specs.Str.{bytes_eq}
use Rattle.xc_concepts.proofs.KnownKinds.{none_known}
use Rattle.xc_concepts.proofs.LinkLists.{found_after, get_same}
use Rattle.xc_concepts.proofs.NumbersByIds.{numbers_after}
use Rattle.xc_concepts.specs.Chains.{has_number}
use Rattle.xc_concepts.specs.Declarations.{concepts_in, types_in}
use Rattle.xc_concepts.specs.Held.{number_by_id}
use Rattle.xc_concepts.specs.Rules.{has_file, is_same_name}
use Rattle.xc_concepts.specs.Steps.Ids.{number_at, number_with_id}
use Rattle.xc_concepts.specs.Steps.Links.{as_name, is_same_type, next_of, first_type_of, base_of}
use Rattle.xc_concepts.proofs.concepts.Concepts.push_schema.Goals as goal

pub invariant_of-self-2 : goal.invariant_of-self-2
invariant_of-self-2 c =
    let schema = c.args.schema in
    let schemas = c.self.inside.schemas.items in
    let numbers = c.in_ok-numbers.numbers in
    let firsts = c.in_ok-first_types.first_types in
    let bases = c.in_ok-bases.bases in
    let whole = sym (c.push_reserved.ensures.items ∙ ap (λ s. s ++ schema ∷ []) c.in_ok-reserve.ensures.items) in (
      λ file id.
          numbers_after schemas schema (get_by_text numbers) (number_at c.self.inside.ids) (number_at c.note_file.new.files)
          (ap (λ s. has_file s schema.file) c.self.view_is ∙ c.requires)
          (λ i. c.in_ok-numbers.ensures i ∙ ap (λ cs. number_with_id cs i) c.as_slice-3.ensures)
          c.self.invariant.0
          (λ f i. c.in_ok-note_file.ensures.ok f i ∙ ap (λ t. cond (bytes_eq t f) (get_by_text numbers i) (number_at c.self.inside.ids f i)) c.as_str.ensures)
          file id
          ∙ ap (λ s. number_by_id s file id) whole,
      λ number.
          found_after (has_number number) (λ d. d.declared.first_type) (λ s. s.concepts) schemas schema (get nat_eq c.self.inside.first_types number) (get nat_eq c.put_all.new.links number) (next_of nat_eq number firsts.items)
          (c.put_all.ensures number ∙ ap (λ o. option_or o (next_of nat_eq number firsts.items)) (get_same nat_eq c.self.inside.first_types c.reserve-2.new.self number c.in_ok-reserve-2.ensures.entries))
          (c.self.invariant.1 number)
          (c.in_ok-first_types.ensures number ∙ ap (first_type_of number) c.as_slice.ensures)
          ∙ ap (λ s. first_type_of number (concepts_in s)) whole,
      λ name.
          found_after (λ t. is_same_name (as_name name) t.name) (λ t. t.base) (λ s. s.types) schemas schema (get is_same_type c.self.inside.bases name) (get is_same_type c.put_all-2.new.links name) (next_of is_same_type name bases.items)
          (c.put_all-2.ensures name ∙ ap (λ o. option_or o (next_of is_same_type name bases.items)) (get_same is_same_type c.self.inside.bases c.reserve-3.new.self name c.in_ok-reserve-3.ensures.entries))
          (c.self.invariant.2 name)
          (c.in_ok-bases.ensures name ∙ ap (λ ts. base_of ts (as_name name)) c.as_slice-2.ensures)
          ∙ ap (λ s. base_of (types_in s) (as_name name)) whole,
      none_known _ c.clear.new.self c.clear.ensures.empty,
    )
