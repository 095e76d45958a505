-- The joint part: what is written of all data points together.
use Rattle.std.specs.Prelude.{ℕ, ◌<◌, List, [], ◌++◌, length, codes, decimal, All}
use Rattle.std.specs.List.{enumerate_from, flat_map}
use Rattle.xc_cert.specs.Certificates.{HasFewValues}
use Rattle.xc_corners.specs.Corners.{CornerLists}
use Rattle.xc_joint.specs.declared.types.Cause.{Cause}
use Rattle.xc_joint.specs.declared.types.Cause.TheVariants.{Fact as FactNumber, Ends, Corner}
use Rattle.xc_joint.specs.declared.types.Joint.{Joint}
use Rattle.xc_joint.specs.declared.types.Joint.TheVariants.{Settled, TooWide}
use Rattle.xc_joint.specs.declared.types.Part.{Part}
use Rattle.xc_joint.specs.declared.types.Part.TheVariants.{Values, Wide}
use Rattle.xc_lines.specs.Judgements.{fact_id, wide_words}
use Rattle.xc_lines.specs.Lines.{printed_text}
use Rattle.xc_lines.specs.Settled.{settled_lines}
use Rattle.xc_report.specs.declared.reports.Fact.{Fact}

-- numbers, each behind a blank
abbrev pub number_words : List ℕ → List ℕ
number_words numbers = flat_map (λ n. codes " " ++ decimal n) numbers

-- a corner of a component's problem, by its basic variables and by those on their high side
abbrev pub corner_words : CornerLists → List ℕ
corner_words corner = codes "basic" ++ number_words corner.basic ++ codes " high" ++ number_words corner.high

-- why the component of this number has no answer: a fact that is wide, with its id; or two ends and the operation that passes; or
-- a corner and the operation that passes there
abbrev pub cause_line : List Fact → ℕ → Cause → List ℕ
cause_line facts k (FactNumber f) = codes "component " ++ decimal k ++ codes " wide-fact " ++ decimal f ++ codes " " ++ printed_text (fact_id facts f) ++ codes "\n"
cause_line facts k (Ends low high wide) = codes "component " ++ decimal k ++ codes " ends " ++ decimal low ++ codes " " ++ decimal high ++ codes " op " ++ wide_words wide ++ codes "\n"
cause_line facts k (Corner corner wide) = codes "component " ++ decimal k ++ codes " corner " ++ corner_words corner ++ codes " op " ++ wide_words wide ++ codes "\n"

-- the same of what is known of it; nothing is written of one that has an answer
abbrev pub part_line : List Fact → ℕ → Part → List ℕ
part_line facts k (Values values) = []
part_line facts k (Wide cause) = cause_line facts k cause

-- the lines of these parts, each behind its number
abbrev pub part_lines : List Fact → List (ℕ × Part) → List ℕ
part_lines facts parts = flat_map (λ numbered. part_line facts numbered.0 numbered.1) parts

-- the joint part: what is settled, with the certificate; or why each component has no answer that has none
abbrev pub joint_lines : List Fact → Joint → List ℕ
joint_lines facts (Settled certificate) = settled_lines facts certificate
joint_lines facts (TooWide parts) = codes "joint too-wide\n" ++ part_lines facts (enumerate_from 0 parts)

-- a fact that is named as wide is one of these
abbrev pub NamesFactOf : List Fact → Part → Type 0
NamesFactOf facts (Values values) = Unit {0}
NamesFactOf facts (Wide (FactNumber f)) = f < length facts
NamesFactOf facts (Wide (Ends low high wide)) = Unit {0}
NamesFactOf facts (Wide (Corner corner wide)) = Unit {0}

-- so is each that is named, and a certificate has few enough values
abbrev pub IsWritable : List Fact → Joint → Type 0
IsWritable facts (Settled certificate) = HasFewValues certificate
IsWritable facts (TooWide parts) = All (NamesFactOf facts) parts
