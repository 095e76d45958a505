use Rattle.std.proofs.Common.{◌≡◌, true, false, refl}
use Rattle.xc_model.specs.Parts.{IsLess, SameParts}
use Rattle.xc_interval.specs.Ends.{end_at}
use Rattle.xc_interval.proofs.Numbers.{pair_dense}
use Rattle.xc_interval.proofs.Tighter.{high_tightness, both_where, both_unless}
use Rattle.xc_interval.proofs.interval.lower.Goals as goal

no : false ≡ true → ⊥
no e = cc

pub returns-then-is_tighter_high-clause-both : goal.returns-then-is_tighter_high-clause-both
returns-then-is_tighter_high-clause-both g c =
    both_where (high_tightness IsLess SameParts pair_dense) (end_at g.E.Exact.parts c.args.one) (end_at g.E.Exact.parts c.args.other) (c.if-is_tighter_high.ensures.pairs.0 refl)

pub returns-else-is_tighter_high-clause-both : goal.returns-else-is_tighter_high-clause-both
returns-else-is_tighter_high-clause-both g c =
    both_unless (high_tightness IsLess SameParts pair_dense) (end_at g.E.Exact.parts c.args.one) (end_at g.E.Exact.parts c.args.other) (λ tighter. no (c.if-is_tighter_high.ensures.pairs.1 tighter))
