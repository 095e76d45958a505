-- Which of two ends of one side is the tighter one.
use Rattle.std.specs.Prelude.{◌≡◌, ◌⊎◌, true, false}
use Rattle.xc_interval.specs.Ends.{value_of, is_open}
use Rattle.xc_interval.specs.declared.ends.End.{End}

module _ {A : Type 0} (Less Same : A → A → Type 0) where
  -- of two low ends, e is tighter than f: it is higher, or at the same value and open where f is closed
  abbrev pub IsTighterLow : End A → End A → Type 0
  IsTighterLow e f = Less (value_of f) (value_of e) ⊎ (Same (value_of f) (value_of e) × ((is_open e ≡ true) × (is_open f ≡ false)))

  -- of two high ends, e is tighter than f: it is lower, or at the same value and open where f is closed
  abbrev pub IsTighterHigh : End A → End A → Type 0
  IsTighterHigh e f = Less (value_of e) (value_of f) ⊎ (Same (value_of e) (value_of f) × ((is_open e ≡ true) × (is_open f ≡ false)))
