-- A step of the code: other attributes as a list in order, each once, so that arcs with the same set are found together.
use Rattle.std.specs.Prelude.{List, [], ◌∷◌}
use Rattle.std.specs.BTreeSet.{insert_key}
use Rattle.std.specs.Cmp.Lexicographic.{slice_cmp}
use Rattle.std.specs.Ordering.{nat_cmp, ordering_then}
use Rattle.std.specs.declared.cmp.Ordering.{Ordering}
use Rattle.xc_calc.specs.declared.common.Compared.{Compared}
use Rattle.xc_elements.specs.declared.nodes.Attribute.{Attribute}

-- an attribute as it is lent
abbrev pub attribute_of : Compared → Attribute
attribute_of c = record { space = c.space.now; local = c.local.now; value = c.value.now }

-- by expanded name, and then by value
abbrev pub by_attribute : Attribute → Attribute → Ordering
by_attribute a b = ordering_then (slice_cmp nat_cmp a.space b.space) (ordering_then (slice_cmp nat_cmp a.local b.local) (slice_cmp nat_cmp a.value b.value))

-- the same as the code compares them
abbrev pub by_compared : Compared → Compared → Ordering
by_compared a b = by_attribute (attribute_of a) (attribute_of b)

-- these with more put in
abbrev pub put_all : List Attribute → List Attribute → List Attribute
put_all set [] = set
put_all set (a ∷ more) = put_all (insert_key by_attribute set a) more

-- the attributes in order, each once
abbrev pub in_order : List Attribute → List Attribute
in_order attributes = put_all [] attributes
