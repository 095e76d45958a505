use Rattle.xc_verify.proofs.Results.{sum_append}
use Rattle.xc_verify.proofs.laws.sums_go_on.Goals as goal

pub returns : goal.returns
returns c = sum_append
