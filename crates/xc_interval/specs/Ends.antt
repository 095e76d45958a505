-- Ends of intervals.
use Rattle.std.specs.Prelude.{Bool, true, false}
use Rattle.xc_interval.specs.declared.ends.End.{End}
use Rattle.xc_interval.specs.declared.ends.End.TheVariants.{Closed, Open}

-- the value at which an end is
abbrev pub value_of : {E : Type 0} → End E → E
value_of (Closed e) = e
value_of (Open e) = e

-- the value itself is left out
abbrev pub is_open : {E : Type 0} → End E → Bool
is_open (Closed e) = false
is_open (Open e) = true

-- the end at what its value stands for
abbrev pub end_at : {E A : Type 0} → (E → A) → End E → End A
end_at meaning (Closed e) = Closed (meaning e)
end_at meaning (Open e) = Open (meaning e)
