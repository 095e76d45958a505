-- Chains of type names, and the kinds of concepts by the last of a chain: XBRL 2.1, section 5.1.1.3.
use Rattle.std.specs.Prelude.{◌≡◌, ◌==◌, ◌++◌, ℕ, zero, suc, length, Bool, List, [], ◌∷◌, codes, find, Option, Some, None, option_and_then, MatchOption, if◌then◌else◌}
use Rattle.std.specs.List.{list_any}
use Rattle.std.specs.Option.{option_map_or}
use Rattle.std.specs.Str.{bytes_eq}
use Rattle.xc_concepts.specs.Declarations.{concepts_in, types_in}
use Rattle.xc_concepts.specs.Rules.{is_same_name}
use Rattle.xc_concepts.specs.Schemas.{instance_space}
use Rattle.xc_concepts.specs.declared.kind.Kind.{Kind}
use Rattle.xc_concepts.specs.declared.kind.Kind.TheVariants.{Decimal, Other, Unknown}
use Rattle.xc_concepts.specs.declared.schema.Concept.{Concept}
use Rattle.xc_concepts.specs.declared.schema.NamedType.{NamedType}
use Rattle.xc_concepts.specs.declared.schema.Schema.{Schema}
use Rattle.xc_names.specs.declared.expanded.Expanded.{Expanded}

-- the item types of XBRL that are decimal: XBRL 2.1, section 5.1.1.3
abbrev pub decimal_types : List (List ℕ)
decimal_types =
    codes "decimalItemType" ∷ codes "monetaryItemType" ∷ codes "sharesItemType" ∷ codes "pureItemType"
    ∷ codes "integerItemType" ∷ codes "nonPositiveIntegerItemType" ∷ codes "negativeIntegerItemType"
    ∷ codes "longItemType" ∷ codes "intItemType" ∷ codes "shortItemType" ∷ codes "byteItemType"
    ∷ codes "nonNegativeIntegerItemType" ∷ codes "unsignedLongItemType" ∷ codes "unsignedIntItemType"
    ∷ codes "unsignedShortItemType" ∷ codes "unsignedByteItemType" ∷ codes "positiveIntegerItemType" ∷ []

-- the local part is that of a decimal item type
abbrev pub is_decimal : List ℕ → Bool
is_decimal local = list_any (bytes_eq local) decimal_types

-- the name is in the namespace of XBRL instances
abbrev pub is_item_type : Expanded → Bool
is_item_type name = bytes_eq name.space instance_space

-- the first type of this name
abbrev pub type_named : List NamedType → Expanded → Option NamedType
type_named types name = find (λ t. is_same_name name t.name) types

-- the base of the first type of this name; an item type of XBRL has none here
abbrev pub base_name : List NamedType → Expanded → Option Expanded
base_name types name = if is_item_type name then None else option_and_then (λ t. t.base) (type_named types name)

-- the name that follows one in a chain behind these: its base, unless it has stood earlier
abbrev pub next_name : List NamedType → List Expanded → Expanded → Option Expanded
next_name types earlier name = if list_any (is_same_name name) earlier then None else base_name types name

-- these names are the rest of a chain behind the earlier ones: each is followed by the next, and the last by none
abbrev pub IsChain : List NamedType → List Expanded → List Expanded → Type 0
IsChain types earlier [] = ⊥
IsChain types earlier (name ∷ []) = next_name types earlier name ≡ None
IsChain types earlier (name ∷ next ∷ rest) = (next_name types earlier name ≡ Some next) × IsChain types (name ∷ earlier) (next ∷ rest)

-- the kind by the last name of a chain, behind the earlier ones: an item type of XBRL decides; a name that has stood earlier, or is not found, says nothing; a type without such a base is another
abbrev pub kind_by_last : List NamedType → List Expanded → Expanded → Kind
kind_by_last types earlier name =
    if is_item_type name then (if is_decimal name.local then Decimal else Other)
    else if list_any (is_same_name name) earlier then Unknown
    else option_map_or (λ t. Other) (type_named types name) Unknown

-- the kind by the chain that begins with this name
pub record IsKindBy (types : List NamedType) (first : Expanded) (kind : Kind) : Type 0 where
  pub earlier : List Expanded
  pub last : Expanded
  pub begins : (rest : List Expanded) × (earlier ++ last ∷ [] ≡ first ∷ rest)
  pub chain : IsChain types [] (earlier ++ last ∷ [])
  pub decides : kind ≡ kind_by_last types earlier last

-- the kind as it computes: of a chain in which at most so many names are followed by another
abbrev pub kind_within : List NamedType → ℕ → Expanded → Kind
kind_within types zero name = option_map_or (λ next. Unknown) (base_name types name) (kind_by_last types [] name)
kind_within types (suc n) name = option_map_or (kind_within types n) (base_name types name) (kind_by_last types [] name)

-- a chain that does not lead back to itself has at most as many such names as there are types
abbrev pub kind_from : List NamedType → Expanded → Kind
kind_from types first = kind_within types (length types) first

-- the concept has this number
abbrev pub has_number : ℕ → Concept → Bool
has_number number c = c.number.0 == number

-- the concept with this number
abbrev pub concept_numbered : List Schema → ℕ → Option Concept
concept_numbered schemas number = find (has_number number) (concepts_in schemas)

-- the kind of a number: by the chain of its concept's first type name. A concept that names no type is another, and what is no concept is unknown
abbrev pub IsKind : List Schema → ℕ → Kind → Type 0
IsKind schemas number kind = MatchOption (concept_numbered schemas number) (kind ≡ Unknown)
    (λ c. MatchOption c.declared.first_type (kind ≡ Other) (λ first. IsKindBy (types_in schemas) first kind))

-- the same as it computes
abbrev pub kind_of : List Schema → ℕ → Kind
kind_of schemas number = option_map_or (λ c. option_map_or (kind_from (types_in schemas)) c.declared.first_type Other) (concept_numbered schemas number) Unknown
