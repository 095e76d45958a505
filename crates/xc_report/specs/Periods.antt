-- Periods in their normal form (xBRL-JSON 1.0, the period dimension; the normal form is this project's own: a date stands for the start of its day).
use Rattle.std.specs.Prelude.{ℕ, ◌++◌, List, Bool, codes, is_some, Option, Some, None, if◌then◌else◌}
use Rattle.xc_chars.specs.Parts.{is_slash, around}
use Rattle.xc_report.specs.Forms.{has_form}

-- a date, with a digit for each `d`; no calendar is asked
abbrev pub is_date : List ℕ → Bool
is_date text = has_form (codes "dddd-dd-dd") text

-- the start of the day where a text is a date, and any other text as it is
abbrev pub moment : List ℕ → List ℕ
moment text = if is_date text then text ++ codes "T00:00:00" else text

-- a text of one part, of two parts around a slash, or of more, which stays as it is
abbrev pub moments : List ℕ → Option (List ℕ × List ℕ) → List ℕ
moments text None = moment text
moments text (Some parts) = if is_some (around is_slash parts.1) then text else (moment parts.0 ++ codes "/" ++ moment parts.1)

-- a period in its normal form
abbrev pub normal_period : List ℕ → List ℕ
normal_period text = moments text (around is_slash text)
