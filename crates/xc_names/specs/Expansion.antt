-- The expanded name of a text of two plain names joined by a colon: Namespaces in XML 1.0, section 4.
use Rattle.std.specs.Prelude.{◌≡◌, ℕ, List, Some, IsSomeAnd, IsNone}
use Rattle.std.specs.FinMap.{get}
use Rattle.xc_names.specs.Names.{number_of, with_name}
use Rattle.xc_chars.specs.PlainNames.{split}
use Rattle.xc_names.specs.Prefixes.{Bindings}
use Rattle.xc_names.specs.declared.expanded.Expanded.{Expanded}

-- the text has a prefix that is not set
abbrev pub HasUnboundPrefix : Bindings → List ℕ → Type 0
HasUnboundPrefix prefixes text = IsSomeAnd (split text) (λ parts. IsNone (get prefixes parts.0))

-- the text spells a name with this number, which the list has afterwards
pub record Expands (prefixes : Bindings) (text : List ℕ) (old new : List Expanded) (number : ℕ) : Type 0 where
  pub prefix : List ℕ
  pub local : List ℕ
  pub space : List ℕ
  pub parts : split text ≡ Some (prefix, local)
  pub bound : get prefixes prefix ≡ Some space
  pub listed : new ≡ with_name space local old
  pub numbered : number_of space local new ≡ Some number
