use Rattle.xc_corners.proofs.WholeProblems.{whole_too}
use Rattle.xc_corners.proofs.Bounds.{end_bounds, row_bounds}
use Rattle.xc_corners.proofs.Moves.{open_from_problem}
use Rattle.xc_corners.proofs.FirstNumbers.{counts_variables, first_factor, first_row_value, first_range_value}
use Rattle.xc_corners.proofs.laws.problems_are_whole.Goals as goal

pub returns : goal.returns
returns c = record { whole = whole_too; factors = first_factor; rows = first_row_value; ranges = first_range_value; variables = counts_variables; ends = end_bounds; zeros = row_bounds; order = λ p j h. open_from_problem p h j }
