-- What the words of `sum` name in a report, and the network that they are.
use Rattle.std.specs.Prelude.{◌≡◌, ◌==◌, ℕ, pos, negsuc, List, [], ◌∷◌, map, Bool, true, false, Option, Some, None, is_some, option_and_then, codes, refl, if◌then◌else◌}
use Rattle.std.specs.FinMap.{get}
use Rattle.std.specs.List.{list_any}
use Rattle.std.specs.List.Sorted.{IsStrictlySortedBy}
use Rattle.std.specs.Option.{option_map_or}
use Rattle.std.specs.Ordering.{nat_cmp}
use Rattle.xc_calc.specs.declared.arc.Arc.{Arc}
use Rattle.xc_calc.specs.declared.arc.Network.{Network}
use Rattle.xc_names.specs.NameSets.{is_among}
use Rattle.xc_decimal.specs.Numbers.{shortest_if}
use Rattle.xc_decimal.specs.Shortest.{Shortest}
use Rattle.xc_names.specs.Names.{number_of}
use Rattle.xc_chars.specs.PlainNames.{split}
use Rattle.xc_names.specs.Prefixes.{Bindings}
use Rattle.xc_names.specs.declared.expanded.Expanded.{Expanded}
use Rattle.xc_names.specs.declared.expanded.NameId.{NameId}
use Rattle.xc_names.specs.declared.expansion.NameFault.TheVariants.{NoPrefix}
use Rattle.xc_names.specs.declared.wanted.Wanted.{Wanted}
use Rattle.xc_top.specs.Answers.{name_refusal}
use Rattle.xc_top.specs.Words.{SumWords, name_of, is_negative}
use Rattle.xc_top.specs.declared.status.Answer.{Answer}

-- the words of the total and of the contributors, each with the name in it
abbrev pub named_words : SumWords → List (List ℕ × List ℕ)
named_words sum = (sum.total, sum.total) ∷ map (λ term. (term, name_of term)) sum.terms

-- the prefix of the name is declared
abbrev pub is_bound : Bindings → List ℕ → Bool
is_bound prefixes name = option_map_or (λ parts. is_some (get prefixes parts.0)) (split name) false

-- what is answered of a word whose name has a prefix that the report does not declare
abbrev pub unbound : Bindings → List ℕ → List ℕ × List ℕ → Option Answer
unbound prefixes report word = if is_bound prefixes word.1 then None else name_refusal report NoPrefix word.0

-- the number among these names of a name with a declared prefix
abbrev pub number_in : Bindings → List Expanded → List ℕ → Option ℕ
number_in prefixes names name = option_and_then (λ parts. option_and_then (λ space. number_of space parts.1 names) (get prefixes parts.0)) (split name)

-- the weight of a contributor: 1, or -1 where it is taken away
abbrev pub weight_of : Bool → Shortest
weight_of false = record { digits = pos 1; places = 0; shortest = shortest_if (pos 1, 0) refl }
weight_of true = record { digits = negsuc 0; places = 0; shortest = shortest_if (negsuc 0, 0) refl }

-- the arc from the total to a contributor, by the word and the number of its name
abbrev pub arc_to : NameId → List ℕ × NameId → Arc
arc_to total term = record { from = total; to = term.1; weight = weight_of (is_negative term.0) }

-- the one network of `sum`: an arc from the total to each contributor, in the order of the words
abbrev pub sum_network : NameId → List (List ℕ × NameId) → Network
sum_network total terms = record { role = codes "sum"; arcs = map (arc_to total) terms }

-- the number is that of one of these names
abbrev pub is_number_of : List NameId → ℕ → Bool
is_number_of ids number = list_any (λ id. id.0 == number) ids

-- the numbers of these names, each once and ascending
pub record AreNodesOf (ids : List NameId) (numbers : List ℕ) : Type 0 where
  pub ascending : IsStrictlySortedBy nat_cmp numbers
  pub nodes : (number : ℕ) → is_among numbers number ≡ is_number_of ids number

-- the names of the words have these numbers, and all of them are nodes; no dimension is typed
pub record AreSumNumbers (prefixes : Bindings) (names : List Expanded) (sum : SumWords) (total : NameId) (terms : List NameId) (wanted : Wanted) : Type 0 where
  pub total_is : number_in prefixes names sum.total ≡ Some total.0
  pub terms_are : map (λ term. number_in prefixes names (name_of term)) sum.terms ≡ map (λ id. Some id.0) terms
  pub nodes : AreNodesOf (total ∷ terms) (map (λ id. id.0) wanted.nodes)
  pub typed : wanted.typed ≡ []
