-- A step of the code: what a point is looked up by.
use Rattle.std.specs.Prelude.{ℕ}
use Rattle.xc_names.specs.declared.expanded.NameId.{NameId}
use Rattle.xc_points.specs.declared.types.Place.{Place}

-- a concept and a key
abbrev pub place_at : NameId → ℕ → Place
place_at concept key = record { concept = concept; key = key }
