-- Numbers of names in a map from namespaces to maps from local parts.
use Rattle.std.specs.Prelude.{ℕ, List, Option, option_and_then, String}
use Rattle.std.specs.HashMap.{HashMap, get_by_text}

-- the number of this local part under this namespace
abbrev pub number_in : {Y Z S T : Type 0} → HashMap (String Y) (HashMap (String Z) ℕ S) T → List ℕ → List ℕ → Option ℕ
number_in spaces space local = option_and_then (λ locals. get_by_text locals local) (get_by_text spaces space)
