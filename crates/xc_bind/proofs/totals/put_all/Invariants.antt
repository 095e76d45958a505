use Rattle.std.proofs.Common.{◌≡◌, ◌||◌, ℕ, drop}
use Rattle.xc_names.specs.NameSets.{is_among}
use Rattle.xc_bind.proofs.totals.put_all.Given as goal

-- the numbers so far and those that are left are all
abbrev pub invariant-loop-number : goal.invariant-loop-number
invariant-loop-number l = (k : ℕ) → (is_among l.totals.keys k || is_among (drop l.number-index l.numbers) k) ≡ (is_among l.fn.totals.keys k || is_among l.numbers k)
