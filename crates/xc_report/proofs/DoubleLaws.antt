-- Dimensions of taxonomies of which two have one expanded name.
use Rattle.std.proofs.Common.{◌≡◌, ℕ, Bool, false, ◌||◌, List, [], ◌∷◌, refl, ap, ◌∙◌}
use Rattle.std.specs.List.{list_any, filter_map, cons_option}
use Rattle.xc_lists.specs.Doubles.{has_same, are_same_texts}
use Rattle.xc_lists.proofs.Anys.{no_one}
use Rattle.xc_names.specs.declared.expanded.Expanded.{Expanded}
use Rattle.xc_report.specs.Doubles.{name_parts, part_name}
use Rattle.xc_report.specs.Stated.{is_same_name, has_twice}
use Rattle.xc_report.specs.declared.stated.DimensionName.{DimensionName}
use Rattle.xc_report.specs.declared.stated.DimensionName.TheVariants as dimension
use Rattle.xc_report.specs.declared.stated.StatedPart.{StatedPart}

-- one more part, where the name of the one that is looked for is this
again : (name : Expanded) (d : DimensionName) (found : Bool) (names : List (List ℕ × List ℕ)) → found ≡ list_any (are_same_texts (name.space, name.local)) names → (is_same_name (dimension.Taxonomy name) d || found) ≡ list_any (are_same_texts (name.space, name.local)) (cons_option (name_parts d) names)
again name (dimension.Taxonomy other) found names e = ap (λ t. is_same_name (dimension.Taxonomy name) (dimension.Taxonomy other) || t) e
again name dimension.Entity found names e = e
again name dimension.Period found names e = e
again name dimension.Unit found names e = e
again name dimension.Language found names e = e
again name dimension.NoteId found names e = e

-- a name stands again where it is among the names of the others
named_again : (name : Expanded) (ps : List StatedPart) → list_any (λ q. is_same_name (dimension.Taxonomy name) q.dimension) ps ≡ list_any (are_same_texts (name.space, name.local)) (filter_map part_name ps)
named_again name [] = refl
named_again name (p ∷ ps) = again name p.dimension (list_any (λ q. is_same_name (dimension.Taxonomy name) q.dimension) ps) (filter_map part_name ps) (named_again name ps)

-- a dimension that is none of a taxonomy does not stand again
not_again : (d : DimensionName) (ps : List StatedPart) (twice : Bool) (names : List (List ℕ × List ℕ)) → ((q : StatedPart) → is_same_name d q.dimension ≡ false) → twice ≡ has_same are_same_texts names → (list_any (λ q. is_same_name d q.dimension) ps || twice) ≡ has_same are_same_texts names
not_again d ps twice names h e = ap (λ t. t || twice) (no_one (λ q. is_same_name d q.dimension) ps h) ∙ e

twice_more : (d : DimensionName) (ps : List StatedPart) (twice : Bool) → twice ≡ has_same are_same_texts (filter_map part_name ps) → (list_any (λ q. is_same_name d q.dimension) ps || twice) ≡ has_same are_same_texts (cons_option (name_parts d) (filter_map part_name ps))
twice_more (dimension.Taxonomy name) ps twice e =
    ap (λ t. t || twice) (named_again name ps)
    ∙ ap (λ t. list_any (are_same_texts (name.space, name.local)) (filter_map part_name ps) || t) e
twice_more dimension.Entity ps twice e = not_again dimension.Entity ps twice (filter_map part_name ps) (λ q. refl) e
twice_more dimension.Period ps twice e = not_again dimension.Period ps twice (filter_map part_name ps) (λ q. refl) e
twice_more dimension.Unit ps twice e = not_again dimension.Unit ps twice (filter_map part_name ps) (λ q. refl) e
twice_more dimension.Language ps twice e = not_again dimension.Language ps twice (filter_map part_name ps) (λ q. refl) e
twice_more dimension.NoteId ps twice e = not_again dimension.NoteId ps twice (filter_map part_name ps) (λ q. refl) e

-- parts have a dimension twice where two of their names are equal
pub twice_parts : (parts : List StatedPart) → has_twice parts ≡ has_same are_same_texts (filter_map part_name parts)
twice_parts [] = refl
twice_parts (p ∷ ps) = twice_more p.dimension ps (has_twice ps) (twice_parts ps)
