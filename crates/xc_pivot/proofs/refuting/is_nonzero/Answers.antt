use Rattle.std.proofs.lemmas.Bool.{false≢true}
use Rattle.xc_pivot.proofs.Counts.{other_sign, negative_some}
use Rattle.xc_pivot.proofs.refuting.is_nonzero.Goals as goal

pub returns : goal.returns
returns c n d o = (
  λ yes. negative_some n ((c.helps-2.ensures n d o).0 yes),
  λ some. (c.helps-2.ensures n d o).1 (other_sign n some (λ h. false≢true ((c.if-helps.ensures n d o).1 h))),
)
