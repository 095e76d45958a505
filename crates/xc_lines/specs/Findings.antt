-- What is written of a report's bindings and data points: their counts, the verdict of each binding, and the points that no value satisfies.
use Rattle.std.specs.Prelude.{ℕ, ◌≢◌, ◌<◌, List, [], ◌++◌, length, filter, All, option_and_then, slice_get, codes, decimal}
use Rattle.std.specs.List.{flat_map, zip, enumerate_from}
use Rattle.std.specs.Option.{option_map_or}
use Rattle.xc_calc.specs.Networks.{role_of}
use Rattle.xc_bind.specs.declared.types.Binding.{Binding}
use Rattle.xc_bind.specs.declared.types.Verdict.{Verdict}
use Rattle.xc_bind.specs.declared.types.Verdict.TheVariants.{Consistent, Inconsistent, Unjudged, TooWide}
use Rattle.xc_calc.specs.declared.arc.Network.{Network}
use Rattle.xc_interval.specs.Ranges.{is_empty_range}
use Rattle.xc_interval.specs.declared.mode.Mode.{Mode}
use Rattle.xc_interval.specs.declared.mode.Mode.TheVariants.{Rounding, Truncation}
use Rattle.xc_lines.specs.Lines.{printed_text}
use Rattle.xc_points.specs.declared.types.Point.{Point}
use Rattle.xc_report.specs.declared.reports.Fact.{Fact}

-- ---- what is asked of the numbers in points and bindings

-- each number in a point is that of a fact
abbrev pub CarryFacts : List Fact → List Point → Type 0
CarryFacts facts points = All (λ point. All (λ f. f < length facts) point.facts) points

-- each total is one of the points
abbrev pub NameTotals : List Point → List Binding → Type 0
NameTotals points bindings = All (λ binding. binding.total < length points) bindings

-- each binding is of one of the networks
abbrev pub NameNetworks : List Network → List Binding → Type 0
NameNetworks networks bindings = All (λ binding. binding.network < length networks) bindings

-- each point has a fact
abbrev pub HaveFacts : List Point → Type 0
HaveFacts points = All (λ point. point.facts ≢ []) points

-- ---- what is looked up

-- the id of a point's first fact
abbrev pub first_id : List Fact → Point → List ℕ
first_id facts point = option_map_or (λ fact. fact.id) (option_and_then (λ f. slice_get facts f) (slice_get point.facts 0)) []

-- the id of the first fact of a point, by its number
abbrev pub first_id_at : List Fact → List Point → ℕ → List ℕ
first_id_at facts points k = option_map_or (λ point. first_id facts point) (slice_get points k) []

-- ---- the lines

-- how many bindings and points there are
abbrev pub counts_line : ℕ → ℕ → List ℕ
counts_line bindings points = codes "bindings " ++ decimal bindings ++ codes " points " ++ decimal points ++ codes "\n"

-- the code of a disagreement (Calculations 1.1, the error codes)
abbrev pub mode_code : Mode → List ℕ
mode_code Rounding = codes " calc11e:inconsistentCalculationUsingRounding"
mode_code Truncation = codes " calc11e:inconsistentCalculationUsingTruncation"

-- what stands behind the fact of a binding
abbrev pub verdict_code : Mode → Verdict → List ℕ
verdict_code mode Consistent = []
verdict_code mode Inconsistent = mode_code mode
verdict_code mode Unjudged = []
verdict_code mode TooWide = []

-- the word of a verdict, between blanks
abbrev pub verdict_word : Verdict → List ℕ
verdict_word Consistent = codes " consistent "
verdict_word Inconsistent = codes " inconsistent "
verdict_word Unjudged = codes " unjudged "
verdict_word TooWide = codes " too-wide "

-- the verdict of a binding, by its number, the role of its network and its total's first fact
abbrev pub binding_line : Mode → ℕ → List ℕ → List ℕ → Verdict → List ℕ
binding_line mode number role id verdict = codes "binding " ++ decimal number ++ verdict_word verdict ++ printed_text role ++ codes " " ++ printed_text id ++ verdict_code mode verdict ++ codes "\n"

-- a point that no value satisfies, by its number and its first fact
abbrev pub empty_point_line : ℕ → List ℕ → List ℕ
empty_point_line number id = codes "point " ++ decimal number ++ codes " empty " ++ printed_text id ++ codes " xc:emptyDataPoint\n"

-- ---- the findings

-- the line of a binding with its verdict, by its number
abbrev pub line_of : Mode → List Fact → List Network → List Point → ℕ → Binding × Verdict → List ℕ
line_of mode facts networks points number judged = binding_line mode number (role_of networks judged.0.network) (first_id_at facts points judged.0.total) judged.1

-- the lines of bindings with their verdicts, each behind its number
abbrev pub binding_lines : Mode → List Fact → List Network → List Point → List (ℕ × (Binding × Verdict)) → List ℕ
binding_lines mode facts networks points judged = flat_map (λ numbered. line_of mode facts networks points numbered.0 numbered.1) judged

-- the lines of the empty ones of these points, each behind its number
abbrev pub empty_point_lines : List Fact → List (ℕ × Point) → List ℕ
empty_point_lines facts points = flat_map (λ numbered. empty_point_line numbered.0 (first_id facts numbered.1)) (filter (λ numbered. is_empty_range numbered.1.range) points)

-- the counts, a line for each binding in order, and then a line for each empty point in order; bindings and points are numbered from 0
abbrev pub findings : Mode → List Fact → List Network → List Point → List Binding → List Verdict → List ℕ
findings mode facts networks points bindings verdicts =
    counts_line (length bindings) (length points)
    ++ binding_lines mode facts networks points (enumerate_from 0 (zip bindings verdicts))
    ++ empty_point_lines facts (enumerate_from 0 points)
