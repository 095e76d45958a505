-- Units: products of measures, and quotients of two (xBRL-JSON 1.0, the unit dimension).
use Rattle.std.specs.Prelude.{ℕ, ◌==◌, List, [], ◌∷◌, Bool, false, codes, length, Option, Some, None, option_map, option_and_then, if◌then◌else◌}
use Rattle.std.specs.List.{slice_split}
use Rattle.xc_chars.specs.Parts.{is_slash, around}
use Rattle.xc_names.specs.Names.{is_named}
use Rattle.xc_names.specs.Prefixes.{Bindings}
use Rattle.xc_names.specs.declared.expanded.Expanded.{Expanded}
use Rattle.xc_report.specs.Each.{each_some}
use Rattle.xc_report.specs.Prefixed.{expanded_name}

-- an asterisk
abbrev pub is_star : ℕ → Bool
is_star byte = byte == 42

-- an opening parenthesis
abbrev pub is_open : ℕ → Bool
is_open byte = byte == 40

-- a closing one
abbrev pub is_close : ℕ → Bool
is_close byte = byte == 41

-- a product: measures joined by `*`, each a prefix and a local part
abbrev pub product : Bindings → List ℕ → Option (List Expanded)
product prefixes text = each_some (expanded_name prefixes) (slice_split is_star text)

-- what stands behind the parenthesis that a text begins with
abbrev pub behind_open : List ℕ → Option (List ℕ)
behind_open text = option_and_then (λ parts. if length parts.0 == 0 then Some parts.1 else None) (around is_open text)

-- what stands before the parenthesis that is the first and the end of a text
abbrev pub before_close : List ℕ → Option (List ℕ)
before_close text = option_and_then (λ parts. if length parts.1 == 0 then Some parts.0 else None) (around is_close text)

-- one measure
abbrev pub single : Bindings → List ℕ → Option (List Expanded)
single prefixes text = option_map (λ name. name ∷ []) (expanded_name prefixes text)

-- a side of a quotient, by what stands behind the parenthesis that it begins with
abbrev pub side_of : Bindings → List ℕ → Option (List ℕ) → Option (List Expanded)
side_of prefixes text None = single prefixes text
side_of prefixes text (Some rest) = option_and_then (product prefixes) (before_close rest)

-- a side of a quotient: one measure, or a product in parentheses
abbrev pub side : Bindings → List ℕ → Option (List Expanded)
side prefixes text = side_of prefixes text (behind_open text)

-- measures above the line and below it
abbrev pub above_and_below : Option (List Expanded) → Option (List Expanded) → Option (List Expanded × List Expanded)
above_and_below (Some above) (Some below) = Some (above, below)
above_and_below _ _ = None

-- a product, or a quotient of two sides
abbrev pub quotient : Bindings → List ℕ → Option (List ℕ × List ℕ) → Option (List Expanded × List Expanded)
quotient prefixes text None = option_map (λ above. (above, [])) (product prefixes text)
quotient prefixes text (Some parts) = above_and_below (side prefixes parts.0) (side prefixes parts.1)

-- the measures of a unit text, above the line and below it
abbrev pub unit : Bindings → List ℕ → Option (List Expanded × List Expanded)
unit prefixes text = quotient prefixes text (around is_slash text)

-- the measure `pure` of XBRL 2.1, section 4.8.2
abbrev pub is_pure : Expanded → Bool
is_pure name = is_named (codes "http://www.xbrl.org/2003/instance") (codes "pure") name

-- the one measure `pure`, which says the same as no unit
abbrev pub is_pure_alone : List Expanded × List Expanded → Bool
is_pure_alone (name ∷ [], []) = is_pure name
is_pure_alone _ = false
