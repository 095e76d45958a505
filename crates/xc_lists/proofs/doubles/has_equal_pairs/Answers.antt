use Rattle.std.proofs.Common.{◌≡◌, IfOk, subst}
use Rattle.xc_lists.proofs.EqualPairs.{equal_pairs}
use Rattle.xc_lists.proofs.doubles.has_equal_pairs.Goals as goal

pub returns : goal.returns
returns c = subst (λ answer. IfOk c.has_equal.result (λ found. found ≡ answer)) (equal_pairs c.args.pairs.now) c.has_equal.ensures
