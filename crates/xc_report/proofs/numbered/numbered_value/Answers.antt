use Rattle.std.proofs.Common.{refl}
use Rattle.xc_report.proofs.Kept.{kept_on}
use Rattle.xc_report.proofs.numbered.numbered_value.Goals as goal

pub returns-in_ok-below-in-Measures-clause-value : goal.returns-in_ok-below-in-Measures-clause-value
returns-in_ok-below-in-Measures-clause-value c = λ later keeps.
    rw c.in-Measures.is (_, _, (c.in_ok-above-in-Measures.ensures.measures later (kept_on _ _ _ c.in_ok-below-in-Measures.ensures.names.kept keeps), c.in_ok-below-in-Measures.ensures.measures later keeps, refl))
