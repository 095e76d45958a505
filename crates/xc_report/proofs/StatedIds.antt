-- The ids of what facts state ascend, since an object's members stand in the order of their names.
use Rattle.std.proofs.Common.{◌≡◌, ℕ, ℤ, List, [], ◌∷◌, Option, Some, None, IfSome, String, string_bytes, map, refl, sym, subst}
use Rattle.std.specs.declared.alloc.Global.{Global}
use Rattle.std.specs.declared.cmp.Ordering.TheVariants.{Less}
use Rattle.std.specs.List.{AllByRecursion, cons_option}
use Rattle.std.specs.List.Sorted.{IsStrictlySortedBy}
use Rattle.std.specs.Ordering.{nat_cmp}
use Rattle.std.specs.Cmp.Lexicographic.{slice_cmp}
use Rattle.std.specs.Map.{keys_of}
use Rattle.std.specs.String.{string_cmp}
use Rattle.serde_json.specs.Data.{Data}
use Rattle.serde_json.specs.View.{view, members_view}
use Rattle.serde_json.specs.declared.value.Value.{Value}
use Rattle.xc_names.specs.declared.expanded.Expanded.{Expanded}
use Rattle.xc_names.specs.declared.expanded.NameId.{NameId}
use Rattle.xc_report.specs.Reports.{StatedIdsAscend}
use Rattle.xc_report.specs.StatedFacts.{concept_of, value_of, fact_parts, value_read, decimals_of, with_decimals, with_reading, with_parts, with_value, with_node, with_concept, stated_fact, fact_in, facts_of}
use Rattle.xc_report.specs.Wanted.{Known, node_of}
use Rattle.xc_report.specs.declared.reports.Reading.{Reading}
use Rattle.xc_report.specs.declared.stated.StatedFact.{StatedFact}
use Rattle.xc_report.specs.declared.stated.StatedPart.{StatedPart}

-- the fact that a step leads to has this id, if there is one
abbrev HasId : List ℕ → Option StatedFact → Type 0
HasId id fact = IfSome fact (λ f. f.id ≡ id)

by_decimals : (id : List ℕ) (concept : NameId) (parts : List StatedPart) (value : Reading) (o : Option (Option ℤ)) → HasId id (fact_in (with_decimals id concept parts value o))
by_decimals id concept parts value None = tt
by_decimals id concept parts value (Some decimals) = refl

by_reading : (id : List ℕ) (fact : Data) (concept : NameId) (parts : List StatedPart) (o : Option Reading) → HasId id (fact_in (with_reading id fact concept parts o))
by_reading id fact concept parts None = tt
by_reading id fact concept parts (Some value) = by_decimals id concept parts value (decimals_of fact)

by_parts : (id : List ℕ) (fact : Data) (concept : NameId) (text : List ℕ) (o : Option (List StatedPart)) → HasId id (fact_in (with_parts id fact concept text o))
by_parts id fact concept text None = tt
by_parts id fact concept text (Some parts) = by_reading id fact concept parts (value_read text)

by_value : (known : Known) (id : List ℕ) (fact : Data) (concept : NameId) (o : Option (Option (List ℕ))) → HasId id (fact_in (with_value known id fact concept o))
by_value known id fact concept None = tt
by_value known id fact concept (Some None) = tt
by_value known id fact concept (Some (Some text)) = by_parts id fact concept text (fact_parts known fact)

by_node : (known : Known) (id : List ℕ) (fact : Data) (o : Option NameId) → HasId id (fact_in (with_node known id fact o))
by_node known id fact None = tt
by_node known id fact (Some concept) = by_value known id fact concept (value_of fact)

by_concept : (known : Known) (id : List ℕ) (fact : Data) (o : Option Expanded) → HasId id (fact_in (with_concept known id fact o))
by_concept known id fact None = tt
by_concept known id fact (Some name) = by_node known id fact (node_of known name)

-- what a member states has the member's name as its id
id_is : (known : Known) (m : List ℕ × Data) → HasId m.0 (fact_in (stated_fact known m))
id_is known m = by_concept known m.0 m.1 (concept_of known.prefixes m.1)

-- an id is below the ids of these facts
abbrev IsBelow : List ℕ → List StatedFact → Type 0
IsBelow id facts = AllByRecursion (λ other. slice_cmp nat_cmp id other ≡ Less) (map (λ fact. fact.id) facts)

below_next : (id name : List ℕ) (o : Option StatedFact) (rest : List StatedFact) → HasId name o → slice_cmp nat_cmp id name ≡ Less → IsBelow id rest → IsBelow id (cons_option o rest)
below_next id name None rest has less below = below
below_next id name (Some fact) rest has less below = (subst (λ n. slice_cmp nat_cmp id n ≡ Less) (sym has) less, below)

below_each : (known : Known) (id : List ℕ) (entries : List (String Global × Value)) → AllByRecursion (λ name. slice_cmp nat_cmp id (string_bytes name) ≡ Less) (keys_of entries) → IsBelow id (facts_of known (members_view entries))
below_each known id [] below = tt
below_each known id (e ∷ es) below = below_next id (string_bytes e.0) (fact_in (stated_fact known (string_bytes e.0, view e.1))) (facts_of known (members_view es)) (id_is known (string_bytes e.0, view e.1)) below.0 (below_each known id es below.1)

next_ascends : (name : List ℕ) (o : Option StatedFact) (rest : List StatedFact) → HasId name o → IsBelow name rest → StatedIdsAscend rest → StatedIdsAscend (cons_option o rest)
unfolding IsStrictlySortedBy
next_ascends name None rest has below ascend = ascend
next_ascends name (Some fact) rest has below ascend = (subst (λ id. IsBelow id rest) (sym has) below, ascend)

pub none_ascend : StatedIdsAscend []
unfolding IsStrictlySortedBy
none_ascend = tt

pub stated_ascend : (known : Known) (entries : List (String Global × Value)) → IsStrictlySortedBy string_cmp (keys_of entries) → StatedIdsAscend (facts_of known (members_view entries))
unfolding IsStrictlySortedBy
stated_ascend known [] sorted = none_ascend
stated_ascend known (e ∷ es) sorted = next_ascends (string_bytes e.0) (fact_in (stated_fact known (string_bytes e.0, view e.1))) (facts_of known (members_view es)) (id_is known (string_bytes e.0, view e.1)) (below_each known (string_bytes e.0) es sorted.0) (stated_ascend known es sorted.1)
