-- How a refutation is judged.
use Rattle.std.specs.Prelude.{◌≡◌, ℕ, ◌==◌, ◌++◌, ◌⊎◌, pos, ◌<ℤ◌, List, Option, Some, None, IsTrue, slice_get, map, filter, filter_map}
use Rattle.std.specs.List.{flat_map}
use Rattle.std.specs.Option.{option_map, option_map_or, option_or}
use Rattle.xc_interval.specs.Ends.{value_of}
use Rattle.xc_interval.specs.declared.interval.Interval.{Interval}
use Rattle.xc_lists.specs.Places.{first_given}
use Rattle.xc_model.specs.Ratio.{Ratio}
use Rattle.xc_system.specs.Kept.{Multipliers}
use Rattle.xc_system.specs.Refutations.{lists_open}
use Rattle.xc_system.specs.Systems.{Constraints, equation_at, point_at, range_at}
use Rattle.xc_system.specs.declared.types.Bound.{Bound}
use Rattle.xc_system.specs.declared.types.Entry.{Entry}
use Rattle.xc_system.specs.declared.types.Equation.{Equation}
use Rattle.xc_system.specs.declared.types.Side.{Side}
use Rattle.xc_system.specs.declared.types.Side.TheVariants.{Low, High}
use Rattle.xc_verify.specs.Objections.{IsFirstOf, IsFirstBelow, IsMetIn, IsNothing}
use Rattle.xc_verify.specs.Sums.{Term, plus, minus, plus_product, minus_product}
use Rattle.xc_verify.specs.declared.types.Objection.{Objection}
use Rattle.xc_verify.specs.declared.types.Objection.TheVariants.{Misses, WideFact}
use Rattle.xc_verify.specs.declared.types.What.TheVariants.{Binding, Fact, Point, Constant}

-- a number with its multiplier, as it is listed
abbrev pub Line : Type 0
Line = ℕ × Ratio

-- what is met at a binding: that the system does not have it
abbrev pub binding_objection : List Equation → ℕ → Option Objection
binding_objection equations i = option_map_or (λ equation. None) (slice_get equations i) (Some (Misses (Binding i)))

-- what is met at a fact: that the system does not have it, or that it is wide
abbrev pub fact_objection : List Bound → ℕ → Option Objection
fact_objection bounds k = option_map_or (λ bound. option_map_or (λ interval. None) bound.range (Some (WideFact k))) (slice_get bounds k) (Some (Misses (Fact k)))

-- what is met first at the lines, in order: bindings, low ends, high ends
abbrev pub line_objection : Constraints → Multipliers → Option Objection
line_objection s r = option_or (first_given (λ m. binding_objection s.equations m.0) r.bindings)
    (option_or (first_given (λ m. fact_objection s.bounds m.0) r.lows) (first_given (λ m. fact_objection s.bounds m.0) r.highs))

-- what a listed equation adds to the coefficient of a point: for each entry at the point, the multiplier times the weight
abbrev pub entry_terms : Ratio → List Entry → ℕ → List Term
entry_terms factor entries p = map (λ entry. plus_product factor entry.weight) (filter (λ entry. entry.point == p) entries)

-- and what all listed equations add, in order
abbrev pub binding_terms : List Equation → List Line → ℕ → List Term
binding_terms equations ms p = flat_map (λ m. entry_terms m.1 (equation_at equations m.0).entries p) ms

-- a listed low end adds its multiplier, and a high one takes it away
abbrev pub end_term : Side → Ratio → Term
end_term Low factor = plus factor
end_term High factor = minus factor

-- what the listed ends of the facts of a point add, in order
abbrev pub end_terms : Side → List Bound → List Line → ℕ → List Term
end_terms side bounds ms p = map (λ m. end_term side m.1) (filter (λ m. point_at bounds m.0 == p) ms)

-- all that is added to the coefficient of a point: equations first, then low ends, then high ends
abbrev pub coefficient_terms : Constraints → Multipliers → ℕ → List Term
coefficient_terms s r p = binding_terms s.equations r.bindings p ++ (end_terms Low s.bounds r.lows p ++ end_terms High s.bounds r.highs p)

-- a listed low end takes its value times its multiplier from the constant, and a high one adds it
abbrev pub value_term : Side → Ratio → Interval Ratio → Term
value_term Low factor interval = minus_product factor (value_of interval.low)
value_term High factor interval = plus_product factor (value_of interval.high)

-- what listed ends add to the constant, in order
abbrev pub value_terms : Side → List Bound → List Line → List Term
value_terms side bounds ms = filter_map (λ m. option_map (value_term side m.1) (range_at bounds m.0)) ms

-- all that is added to the constant: low ends first, then high ends
abbrev pub constant_terms : Constraints → Multipliers → List Term
constant_terms s r = value_terms Low s.bounds r.lows ++ value_terms High s.bounds r.highs

-- the constant contradicts: it is negative, or it is 0 while a listed end is open
abbrev pub FallsShort : Constraints → Multipliers → Ratio → Type 0
FallsShort s r x = (x.num <ℤ pos 0) ⊎ ((x.num ≡ pos 0) × IsTrue (lists_open s r))

-- what is met first in a refutation: at its lines, then at the points, of each of which the coefficient has to be 0, and then at the
-- constant
abbrev pub IsRefutationMet : Constraints → Multipliers → Option Objection → Type 0
IsRefutationMet s r met = IsFirstOf (λ o. o ≡ line_objection s r)
    (IsFirstOf (IsFirstBelow s.points (λ p o. IsMetIn (Point p) IsNothing (coefficient_terms s r p) o))
    (IsMetIn Constant (FallsShort s r) (constant_terms s r))) met
