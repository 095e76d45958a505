-- Numbers of concepts in a map from files to maps from ids.
use Rattle.std.specs.Prelude.{◌≡◌, ℕ, List, Option, Some, None, String, find, option_map, option_and_then, if◌then◌else◌}
use Rattle.std.specs.BTreeMap.{BTreeMap, get_by_text}
use Rattle.xc_concepts.specs.Held.{has_id, number_by_id}
use Rattle.xc_concepts.specs.declared.schema.Concept.{Concept}
use Rattle.xc_concepts.specs.declared.schema.Schema.{Schema}

-- the number under an id in the map of a file
abbrev pub number_at : {Y Z : Type 0} → BTreeMap (String Y) (BTreeMap (String Z) ℕ) → List ℕ → List ℕ → Option ℕ
number_at files file id = option_and_then (λ numbers. get_by_text numbers id) (get_by_text files file)

-- the number of the first of these concepts that has this id
abbrev pub number_with_id : List Concept → List ℕ → Option ℕ
number_with_id concepts id = option_map (λ c. c.number.0) (find (has_id id) concepts)

-- the number of a concept, where it has this id
abbrev pub own_number : List ℕ → Concept → Option ℕ
own_number id c = if has_id id c then Some c.number.0 else None

-- the map has, for each file and id, the number of the concept that the id names there, and nothing else
abbrev pub AreNumbersOf : {Y Z : Type 0} → List Schema → BTreeMap (String Y) (BTreeMap (String Z) ℕ) → Type 0
AreNumbersOf schemas files = (file id : List ℕ) → number_at files file id ≡ number_by_id schemas file id
