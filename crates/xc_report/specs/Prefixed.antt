-- Expanded names of texts with a prefix, by what prefixes stand for.
use Rattle.std.specs.Prelude.{ℕ, List, Option, option_map, option_and_then}
use Rattle.std.specs.FinMap.{get}
use Rattle.xc_names.specs.Names.{name_of}
use Rattle.xc_chars.specs.Parts.{is_colon, around}
use Rattle.xc_chars.specs.PlainNames.{split}
use Rattle.xc_names.specs.Prefixes.{Bindings}
use Rattle.xc_names.specs.declared.expanded.Expanded.{Expanded}

-- the name of a prefix that is declared and a local part
abbrev pub bound_name : Bindings → List ℕ × List ℕ → Option Expanded
bound_name prefixes parts = option_map (λ uri. name_of uri parts.1) (get prefixes parts.0)

-- the expanded name of two plain names joined by a colon, whose prefix is declared
abbrev pub expanded_name : Bindings → List ℕ → Option Expanded
expanded_name prefixes text = option_and_then (bound_name prefixes) (split text)

-- the same of a text with a declared prefix before its first colon, and anything after it
abbrev pub expanded_loosely : Bindings → List ℕ → Option Expanded
expanded_loosely prefixes text = option_and_then (bound_name prefixes) (around is_colon text)
