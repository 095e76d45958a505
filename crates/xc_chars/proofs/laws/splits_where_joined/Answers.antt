use Rattle.xc_chars.proofs.Splits.{joined_from_split, split_from_joined}
use Rattle.xc_chars.proofs.laws.splits_where_joined.Goals as goal

pub returns : goal.returns
returns c = λ text prefix local utf8. (joined_from_split text prefix local, split_from_joined text prefix local utf8)
