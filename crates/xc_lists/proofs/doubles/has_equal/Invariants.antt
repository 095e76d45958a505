use Rattle.std.proofs.Common.{◌≡◌, drop}
use Rattle.std.specs.BTreeSet.{contains}
use Rattle.std.specs.Ordering.{is_eq}
use Rattle.xc_lists.specs.Doubles.{has_equal}
use Rattle.xc_lists.proofs.EqualPairs.{has_same_or_seen}
use Rattle.xc_lists.proofs.doubles.has_equal.Given as goal

-- two are equal, or one that is left has been seen
abbrev pub invariant-loop-key : goal.invariant-loop-key
invariant-loop-key g l = has_equal g.K.Ord.cmp l.keys ≡ has_same_or_seen (λ x y. is_eq (g.K.Ord.cmp x y)) (contains g.K.Ord.cmp l.seen) (drop l.key-index l.keys)
