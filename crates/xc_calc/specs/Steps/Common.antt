-- A step of the code: what equivalent arcs have in common, as a key. No public clause cites it.
use Rattle.std.specs.Prelude.{◌≡◌, ◌==◌, ◌&&◌, Bool, map}
use Rattle.std.specs.Cmp.Lexicographic.{slice_cmp}
use Rattle.std.specs.Ordering.{nat_cmp, int_cmp, int_eq, is_eq, ordering_then}
use Rattle.std.specs.Str.{bytes_eq}
use Rattle.std.specs.declared.cmp.Ordering.{Ordering}
use Rattle.xc_calc.specs.Steps.Sets.{attribute_of, by_attribute, by_compared, in_order}
use Rattle.xc_calc.specs.declared.arc.ListedArc.{ListedArc}
use Rattle.xc_calc.specs.declared.common.Common.{Common}
use Rattle.xc_calc.specs.declared.common.Number.{Number}
use Rattle.xc_decimal.specs.Shortest.{Shortest}

-- a decimal number, as the code compares it
abbrev pub number_of : Shortest → Number
number_of d = record { digits = d.digits; places = d.places }

-- numbers in the order of their digits, and then of their places
abbrev pub by_number : Number → Number → Ordering
by_number a b = ordering_then (int_cmp a.digits b.digits) (nat_cmp a.places b.places)

-- keys in the order of the ends, the role, the weight, the order and the other attributes
abbrev pub by_common : Common → Common → Ordering
by_common a b =
    ordering_then (nat_cmp a.from.0 b.from.0)
    (ordering_then (nat_cmp a.to.0 b.to.0)
    (ordering_then (slice_cmp nat_cmp a.role.now b.role.now)
    (ordering_then (by_number a.weight b.weight)
    (ordering_then (by_number a.order b.order) (slice_cmp by_compared a.others.now b.others.now)))))

-- the ends, the role, the weight, the order and the set of other attributes are those of the arc
pub record IsCommonOf (key : Common) (a : ListedArc) : Type 0 where
  pub from : key.from ≡ a.arc.from
  pub to : key.to ≡ a.arc.to
  pub role : key.role.now ≡ a.role
  pub weight : key.weight ≡ number_of a.arc.weight
  pub order : key.order ≡ number_of a.order
  pub others : map attribute_of key.others.now ≡ in_order a.others

-- a number in code and a decimal are the same
abbrev pub is_number : Number → Shortest → Bool
is_number n d = int_eq n.digits d.digits && (n.places == d.places)

-- the key's other attributes are the set of the arc's
abbrev pub has_others : Common → ListedArc → Bool
has_others key a = is_eq (slice_cmp by_attribute (map attribute_of key.others.now) (in_order a.others))

-- the arc has in common what the key says
abbrev pub has_common : Common → ListedArc → Bool
has_common key a =
    (key.from.0 == a.arc.from.0) && (key.to.0 == a.arc.to.0) && bytes_eq key.role.now a.role
    && is_number key.weight a.arc.weight && is_number key.order a.order && has_others key a
