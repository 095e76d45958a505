-- The definitions on worked texts and reports.
use Rattle.std.proofs.Common.{◌≡◌, ℕ, List, [], ◌∷◌, ◌++◌, None, refl}
use Rattle.std.specs.Prelude.{codes}
use Rattle.std.specs.Fmt.{digits}
use Rattle.std.specs.Str.{chars}
use Rattle.xc_bind.specs.declared.types.Binding.{Binding}
use Rattle.xc_bind.specs.declared.types.Verdict.TheVariants.{Consistent, Inconsistent, Unjudged, TooWide}
use Rattle.xc_calc.specs.declared.arc.Network.{Network}
use Rattle.xc_interval.specs.declared.mode.Mode.TheVariants.{Rounding, Truncation}
use Rattle.xc_interval.specs.declared.range.Range.{Range}
use Rattle.xc_interval.specs.declared.range.Range.TheVariants as range
use Rattle.xc_lines.specs.Findings.{findings}
use Rattle.xc_lines.specs.Lines.{printed_text, read_fault_line, refusal_line, placed_refusal_line}
use Rattle.xc_points.specs.declared.types.Point.{Point}
use Rattle.xc_report.specs.declared.reports.Fact.{Fact}
use Rattle.xc_report.specs.declared.reports.Reading.TheVariants as read

-- a space, `%`, a line feed and the delete character
escaped : printed_text (codes "a b%" ++ 10 ∷ 127 ∷ codes "~") ≡ codes "a%20b%25%0A%7F~"
unfolding chars lib.Utf8.encode
escaped = refl

-- U+00E9 and U+1F600 are of several bytes, which stay as they are
not_escaped : printed_text (195 ∷ 169 ∷ 240 ∷ 159 ∷ 152 ∷ 128 ∷ []) ≡ 195 ∷ 169 ∷ 240 ∷ 159 ∷ 152 ∷ 128 ∷ []
unfolding chars lib.Utf8.encode
not_escaped = refl

empty_text : printed_text (codes "") ≡ codes "%"
empty_text = refl

missing_file : read_fault_line (codes "my file.json") ≡ codes "read-fault my%20file.json\n"
unfolding chars lib.Utf8.encode
missing_file = refl

not_json : refusal_line (codes "r.json") (codes "xc:notJson") ≡ codes "refused r.json xc:notJson\n"
unfolding chars lib.Utf8.encode
not_json = refl

bad_value : placed_refusal_line (codes "r.json") (codes "xc:badValue") (codes "fact 1") ≡ codes "refused r.json xc:badValue fact%201\n"
unfolding chars lib.Utf8.encode
bad_value = refl

abbrev fact : Fact → List ℕ → Fact
fact f id = record { id = id; concept = f.concept; key = 0; value = read.Wide; decimals = None }

abbrev point : Fact → List ℕ → Range → Point
point f facts r = record { concept = f.concept; key = 0; facts = facts; range = r }

abbrev network : List ℕ → Network
network role = record { role = role; arcs = [] }

abbrev binding : ℕ → ℕ → Binding
binding of total = record { network = of; total = total; terms = [] }

nothing : findings Rounding [] [] [] [] [] ≡ codes "bindings 0 points 0\n"
unfolding digits
nothing = refl

-- the points have the facts `f 1` and `f 2`, `g`, and `h`; there are a role with a space and `%`, and an empty one
each_verdict : (f : Fact)
    → findings Truncation (fact f (codes "f 1") ∷ fact f (codes "f 2") ∷ fact f (codes "g") ∷ fact f (codes "h") ∷ [])
    (network (codes "") ∷ network (codes "role 5%") ∷ [])
    (point f (0 ∷ 1 ∷ []) range.Empty ∷ point f (2 ∷ []) range.Wide ∷ point f (3 ∷ []) range.Empty ∷ [])
    (binding 0 0 ∷ binding 0 1 ∷ binding 1 1 ∷ binding 1 2 ∷ [])
    (Unjudged ∷ TooWide ∷ Consistent ∷ Inconsistent ∷ [])
    ≡ codes "bindings 4 points 3\nbinding 0 unjudged % f%201\nbinding 1 too-wide % g\nbinding 2 consistent role%205%25 g\nbinding 3 inconsistent role%205%25 h calc11e:inconsistentCalculationUsingTruncation\npoint 0 empty f%201 xc:emptyDataPoint\npoint 2 empty h xc:emptyDataPoint\n"
unfolding chars digits lib.Utf8.encode
each_verdict f = refl
