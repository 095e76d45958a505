-- The expanded names of attributes.
use Rattle.std.specs.Prelude.{ℕ, List}
use Rattle.xc_elements.specs.declared.nodes.Attribute.{Attribute}

-- the expanded name of an attribute
abbrev pub name_parts : Attribute → List ℕ × List ℕ
name_parts attribute = (attribute.space, attribute.local)
