use Rattle.std.proofs.Common.{◌≡◌, ◌||◌, ℕ, drop}
use Rattle.xc_calc.specs.Wanted.{is_node}
use Rattle.xc_names.specs.NameSets.{is_among}
use Rattle.xc_calc.proofs.wanted.numbers_of.Given as goal

-- the numbers so far and those of the arcs that are left are all
abbrev pub invariant-loop-listed : goal.invariant-loop-listed
invariant-loop-listed l = (n : ℕ) → (is_among l.numbers n || is_node (drop l.listed-index l.arcs) n) ≡ is_node l.arcs n
