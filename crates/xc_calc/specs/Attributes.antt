-- What the attributes of an arc element say: XBRL 2.1, sections 3.5.3.9 and 5.2.5.2.
use Rattle.std.specs.Prelude.{◌==◌, ◌&&◌, ◌||◌, ◌^◌, ◌-◌, ℕ, ℤ, pos, Bool, true, false, not, nat_lt, nat_le, List, [], ◌∷◌, codes, filter, length, unsigned_abs, Option, Some, None, Result, Ok, Err, option_and_then, slice_get, if◌then◌else◌}
use Rattle.std.specs.Char.{is_ascii_digit}
use Rattle.std.specs.List.{list_all}
use Rattle.std.specs.Option.{option_map_or}
use Rattle.std.specs.Str.{bytes_eq}
use Rattle.xc_calc.specs.Linkbases.{xlink_space, plain_at}
use Rattle.xc_calc.specs.declared.arc.Use.{Use}
use Rattle.xc_calc.specs.declared.arc.Use.TheVariants.{Optional, Prohibited}
use Rattle.xc_decimal.specs.Decimals.{signed}
use Rattle.xc_decimal.specs.Digits.{number_of}
use Rattle.xc_decimal.specs.Numbers.{reading}
use Rattle.xc_decimal.specs.Shortest.{Shortest}
use Rattle.xc_decimal.specs.declared.decimal.DecimalFault.{DecimalFault}
use Rattle.xc_elements.specs.Trees.{declarations_space}
use Rattle.xc_elements.specs.declared.nodes.Attribute.{Attribute}
use Rattle.xc_elements.specs.declared.nodes.Node.{Node}

-- the number that was read, where one was
abbrev pub if_read : Result Shortest DecimalFault → Option Shortest
if_read (Ok number) = Some number
if_read (Err fault) = None

-- the number that a text spells, where it spells one that is not wide
abbrev pub decimal_of : List ℕ → Option Shortest
decimal_of text = if_read (reading text)

-- the weight of an arc element, where it has a good one: XBRL 2.1, section 5.2.5.2
abbrev pub weight_at : List Node → ℕ → Option Shortest
weight_at nodes at = option_and_then decimal_of (plain_at nodes at (codes "weight"))

-- a number is 0
abbrev pub is_zero : Shortest → Bool
is_zero number = unsigned_abs number.digits == 0

-- the order of an arc element, where it has a good one or none; a missing one counts as 1: XBRL 2.1, section 3.5.3.9
abbrev pub order_of : Option (List ℕ) → Option Shortest
order_of None = decimal_of (codes "1")
order_of (Some text) = decimal_of text

-- the order of an arc element
abbrev pub order_at : List Node → ℕ → Option Shortest
order_at nodes at = order_of (plain_at nodes at (codes "order"))

-- one digit or more, and nothing else, of a number that is not more than the most
abbrev pub are_digits_up_to : ℕ → List ℕ → Bool
are_digits_up_to most text = list_all is_ascii_digit text && nat_lt 0 (length text) && nat_le (number_of text) most

-- the number of such digits with a sign
abbrev pub signed_up_to : ℕ → Bool → List ℕ → Option ℤ
signed_up_to most negative digits = if are_digits_up_to most digits then Some (signed negative (number_of digits)) else None

-- the number that an optional sign and digits spell, within 64 bits
abbrev pub integer_of : List ℕ → Option ℤ
integer_of [] = None
integer_of (c ∷ cs) =
    if c == 45 then signed_up_to (2 ^ 63) true cs
    else if c == 43 then signed_up_to (2 ^ 63 - 1) false cs
    else signed_up_to (2 ^ 63 - 1) false (c ∷ cs)

-- the priority of an arc element, where it has a good one or none; a missing one is 0: XBRL 2.1, section 3.5.3.9.7.2
abbrev pub priority_of : Option (List ℕ) → Option ℤ
priority_of None = Some (pos 0)
priority_of (Some text) = integer_of text

-- its priority
abbrev pub priority_at : List Node → ℕ → Option ℤ
priority_at nodes at = priority_of (plain_at nodes at (codes "priority"))

-- the use that a text names
abbrev pub use_named : List ℕ → Option Use
use_named text = if bytes_eq text (codes "optional") then Some Optional else if bytes_eq text (codes "prohibited") then Some Prohibited else None

-- the use of an arc element, where it has a good one or none; a missing one is `optional`: XBRL 2.1, section 3.5.3.9.7.1
abbrev pub use_of : Option (List ℕ) → Option Use
use_of None = Some Optional
use_of (Some text) = use_named text

-- its use
abbrev pub use_at : List Node → ℕ → Option Use
use_at nodes at = use_of (plain_at nodes at (codes "use"))

-- the names of attributes without namespace that are compared as numbers, or not at all
abbrev pub is_own_name : List ℕ → Bool
is_own_name local = bytes_eq local (codes "use") || bytes_eq local (codes "priority") || bytes_eq local (codes "weight") || bytes_eq local (codes "order")

-- the attribute is exempt where arcs are compared as to all other attributes: XBRL 2.1, section 3.5.3.9.7.4
abbrev pub is_exempt : Attribute → Bool
is_exempt a = bytes_eq a.space xlink_space || bytes_eq a.space declarations_space || (bytes_eq a.space [] && is_own_name a.local)

-- the attribute is compared where arcs are
abbrev pub is_other : Attribute → Bool
is_other a = not (is_exempt a)

-- the other attributes of a node, with their values as they were read
abbrev pub others_at : List Node → ℕ → List Attribute
others_at nodes at = option_map_or (λ n. filter is_other n.attributes) (slice_get nodes at) []
