use Rattle.xc_verify.proofs.sums.plus_product.Goals as goal

pub returns-in-Ok : goal.returns-in-Ok
returns-in-Ok c = rw c.in-Ok.is (c.multiply_fractions.result, c.multiply_fractions.ensures, c.add_unless_passed.ensures)
