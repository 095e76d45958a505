-- What tells a data point from all others.
use Rattle.xc_points.specs.declared.types.Place.{Place}
use Rattle.xc_points.specs.declared.types.Point.{Point}

-- the concept and the key of a point
abbrev pub place_of : Point → Place
place_of point = record { concept = point.concept; key = point.key }
