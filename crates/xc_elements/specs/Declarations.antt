-- What an element declares: Namespaces in XML 1.0, section 3.
use Rattle.std.specs.Prelude.{ℕ, List, Option, find, option_map}
use Rattle.std.specs.Str.{bytes_eq}
use Rattle.xc_elements.specs.declared.nodes.NamespaceDeclaration.{NamespaceDeclaration}

-- what declarations, the last first, set a prefix to; the empty prefix is that of the default namespace: section 3
abbrev pub set_by : List NamespaceDeclaration → List ℕ → Option (List ℕ)
set_by declared prefix = option_map (λ d. d.space) (find (λ d. bytes_eq d.prefix prefix) declared)
