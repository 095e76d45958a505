-- What is written of a sample in place of its findings and its joint part.
use Rattle.std.specs.Prelude.{ℕ, List, ◌++◌, Bool, true, false, codes, decimal}
use Rattle.std.specs.List.{count_by}
use Rattle.xc_bind.specs.declared.types.Verdict.{Verdict}
use Rattle.xc_bind.specs.declared.types.Verdict.TheVariants as verdict
use Rattle.xc_joint.specs.Kinds.{Kind, Solved, Contradicted, Caused}
use Rattle.xc_lines.specs.Findings.{counts_line}

-- ---- each verdict apart

-- values exist with which a total is the sum of its contributors
abbrev pub is_consistent : Verdict → Bool
is_consistent verdict.Consistent = true
is_consistent verdict.Inconsistent = false
is_consistent verdict.Unjudged = false
is_consistent verdict.TooWide = false

-- a total disagrees with its contributors
abbrev pub is_inconsistent : Verdict → Bool
is_inconsistent verdict.Consistent = false
is_inconsistent verdict.Inconsistent = true
is_inconsistent verdict.Unjudged = false
is_inconsistent verdict.TooWide = false

-- no value satisfies all facts of a point
abbrev pub is_unjudged : Verdict → Bool
is_unjudged verdict.Consistent = false
is_unjudged verdict.Inconsistent = false
is_unjudged verdict.Unjudged = true
is_unjudged verdict.TooWide = false

-- a binding passes the widths in which verdicts are computed
abbrev pub is_too_wide : Verdict → Bool
is_too_wide verdict.Consistent = false
is_too_wide verdict.Inconsistent = false
is_too_wide verdict.Unjudged = false
is_too_wide verdict.TooWide = true

-- ---- the lines

-- how many nodes the sample has
abbrev pub sample_line : ℕ → List ℕ
sample_line n = codes "sample " ++ decimal n ++ codes "\n"

-- how many verdicts agree, and how many disagree
abbrev pub judged_part : List Verdict → List ℕ
judged_part verdicts = codes "consistent " ++ decimal (count_by is_consistent verdicts) ++ codes " inconsistent " ++ decimal (count_by is_inconsistent verdicts)

-- how many verdicts are neither
abbrev pub unsettled_part : List Verdict → List ℕ
unsettled_part verdicts = codes " unjudged " ++ decimal (count_by is_unjudged verdicts) ++ codes " too-wide " ++ decimal (count_by is_too_wide verdicts)

-- how many verdicts there are of each
abbrev pub verdicts_line : List Verdict → List ℕ
verdicts_line verdicts = judged_part verdicts ++ unsettled_part verdicts ++ codes "\n"

-- the value that is reported of node 0
abbrev pub root_line : ℕ → List ℕ
root_line root = codes "root " ++ decimal root ++ codes "\n"

-- what is said of all data points together, without its certificate or causes
abbrev pub kind_line : Kind → List ℕ
kind_line Solved = codes "joint feasible\n"
kind_line Contradicted = codes "joint infeasible\n"
kind_line Caused = codes "joint too-wide\n"

-- the summary of a sample of n nodes: how many bindings and points, how many of each verdict, the value of node 0, and the kind of the joint answer
abbrev pub summary : ℕ → ℕ → ℕ → List Verdict → ℕ → Kind → List ℕ
summary n bindings points verdicts root kind = sample_line n ++ counts_line bindings points ++ verdicts_line verdicts ++ root_line root ++ kind_line kind
