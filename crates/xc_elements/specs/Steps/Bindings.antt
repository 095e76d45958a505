-- What the scope of the reader stands for, and its index.
use Rattle.std.specs.Prelude.{◌≡◌, ℕ, List, [], ◌∷◌, Option, Some, None, length, reverse, encode_utf8_all, if◌then◌else◌}
use Rattle.std.specs.Borrow.{Bor}
use Rattle.std.specs.BTreeMap.{BTreeMap, get_by}
use Rattle.std.specs.Ordering.{nat_cmp}
use Rattle.std.specs.Cmp.Lexicographic.{slice_cmp}
use Rattle.std.specs.Str.{bytes_eq}
use Rattle.xc_elements.specs.Steps.Views.{lent_text}
use Rattle.xc_elements.specs.Namespaces.{Binding}
use Rattle.xc_elements.specs.declared.scope.BoundPrefix.{BoundPrefix}

-- the binding that a bound prefix stands for
abbrev pub binding_view : BoundPrefix → Binding
binding_view b = record { prefix = lent_text b.prefix; space = b.space }

-- of bindings, the nearest first: how many are outside the nearest of a prefix, which is its place from the other end
abbrev pub place_of : List ℕ → List BoundPrefix → Option ℕ
place_of prefix [] = None
place_of prefix (b ∷ outer) = if bytes_eq b.prefix.now prefix then Some (length outer) else place_of prefix outer

-- each binding is of a text, and keeps the place of the one that it shadows
abbrev pub AreLinked : List BoundPrefix → Type 0
AreLinked [] = Unit {0}
AreLinked (b ∷ outer) = (encode_utf8_all (lent_text b.prefix) ≡ b.prefix.now) × (b.shadowed ≡ place_of b.prefix.now outer) × AreLinked outer

-- the place that the map has for a prefix
abbrev pub place_in : BTreeMap (Bor (List ℕ)) ℕ → List ℕ → Option ℕ
place_in places prefix = get_by (λ key. slice_cmp nat_cmp prefix key.now) places

-- the map has the place of each prefix's nearest binding, and of no other prefix, for bindings with the nearest last
abbrev pub IsIndexed : BTreeMap (Bor (List ℕ)) ℕ → List BoundPrefix → Type 0
IsIndexed places bound = ((prefix : List ℕ) → place_in places prefix ≡ place_of prefix (reverse bound)) × AreLinked (reverse bound)
