use Rattle.std.proofs.Common.{◌≡◌, ◌∷◌, ◌||◌, ℕ, drop}
use Rattle.xc_names.specs.NameSets.{is_among}
use Rattle.xc_top.specs.Sums.{is_number_of}
use Rattle.xc_top.proofs.sum.set_of.Given as goal

-- the numbers so far and those of the contributors that are left are all
abbrev pub invariant-loop-term : goal.invariant-loop-term
invariant-loop-term l = (n : ℕ) → (is_among l.set n || is_number_of (drop l.term-index l.terms) n) ≡ is_number_of (l.fn.total ∷ l.terms) n
