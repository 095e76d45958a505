-- What texts with a prefix stand for (xBRL-JSON 1.0, QNames and SQNames; Namespaces in XML 1.0, section 4).
use Rattle.std.specs.Prelude.{◌≡◌, ℕ, List, true, Some}
use Rattle.std.specs.FinMap.{get}
use Rattle.xc_chars.specs.PlainNames.{is_plain_name}
use Rattle.xc_names.specs.Prefixes.{Bindings}
use Rattle.xc_names.specs.declared.expanded.Expanded.{Expanded}
use Rattle.xc_report.specs.Rules.Cuts.{colon, IsCut}

-- a text stands for a name: a prefix that is declared for its namespace, a colon and its local part, both plain names
pub record StandsFor (prefixes : Bindings) (text : List ℕ) (name : Expanded) : Type 0 where
  pub prefix : List ℕ
  pub cut : IsCut colon text prefix name.local
  pub prefix_plain : is_plain_name prefix ≡ true
  pub local_plain : is_plain_name name.local ≡ true
  pub declared : get prefixes prefix ≡ Some name.space

-- a text is the entity of this scheme and identifier: a prefix that is declared for the scheme, the first colon, and the identifier, whatever it is
pub record IsEntity (prefixes : Bindings) (text scheme identifier : List ℕ) : Type 0 where
  pub prefix : List ℕ
  pub cut : IsCut colon text prefix identifier
  pub declared : get prefixes prefix ≡ Some scheme
