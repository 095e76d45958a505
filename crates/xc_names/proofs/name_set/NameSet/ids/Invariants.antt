use Rattle.std.proofs.Common.{◌≡◌, ◌++◌, map}
use Rattle.xc_names.proofs.name_set.NameSet.ids.Given as goal

-- the numbers so far and those that are left are all
abbrev pub invariant-loop-number : goal.invariant-loop-number
invariant-loop-number l = map (λ id. id.0) l.list.items ++ l.number-iterator ≡ l.self
