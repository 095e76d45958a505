-- What follows from the definitions for all texts and reports.
use Rattle.std.specs.Prelude.{◌≡◌, ◌≢◌, ◌<◌, ◌^◌, ◌++◌, ℕ, List, [], length, All}
use Rattle.std.specs.Str.{IsUtf8}
use Rattle.xc_bind.specs.declared.types.Binding.{Binding}
use Rattle.xc_bind.specs.declared.types.Verdict.{Verdict}
use Rattle.xc_calc.specs.declared.arc.Network.{Network}
use Rattle.xc_cert.specs.Certificates.{IsCertificate, IsPassedText, IsTextOf}
use Rattle.xc_interval.specs.declared.mode.Mode.{Mode}
use Rattle.xc_lines.specs.Findings.{CarryFacts, findings}
use Rattle.xc_lines.specs.JointPart.{IsJointPart, IsPlainText}
use Rattle.xc_lines.specs.Lines.{printed_text}
use Rattle.xc_lines.specs.Settled.{settled_lines}
use Rattle.xc_points.specs.Gathered.{ArePoints}
use Rattle.xc_points.specs.Kept.{Gathered, AreKept}
use Rattle.xc_points.specs.declared.types.Point.{Point}
use Rattle.xc_report.specs.declared.reports.Fact.{Fact}
use Rattle.xc_system.specs.declared.types.Certificate.{Certificate}

-- a byte of a word: no control character and no space
abbrev pub IsOfWord : ℕ → Type 0
IsOfWord byte = (32 < byte) × (byte ≢ 127)

-- a printed text is one word of its line: it has a byte, and no space, no line feed and no other control character
abbrev pub PrintsOneWord : Type 0
PrintsOneWord = (text : List ℕ) → IsUtf8 text → (printed_text text ≢ []) × All IsOfWord (printed_text text)

-- texts that are printed alike are one text
abbrev pub PrintsApart : Type 0
PrintsApart = (a b : List ℕ) → IsUtf8 a → IsUtf8 b → printed_text a ≡ printed_text b → a ≡ b

-- the numbers in the data points of a report are those of its facts
abbrev pub PointsCarryFacts : Type 0
PointsCarryFacts = (mode : Mode) (facts : List Fact) (gathered : Gathered) → ArePoints mode facts gathered → AreKept gathered.points gathered.ends → CarryFacts facts gathered.points

-- findings are lines that are passed over before a certificate: a certificate may stand behind them
abbrev pub FindingsArePassed : Type 0
FindingsArePassed = (mode : Mode) (facts : List Fact) (networks : List Network) (points : List Point) (bindings : List Binding) (verdicts : List Verdict)
    → length bindings < 2 ^ 64 → length points < 2 ^ 64 → IsPassedText (findings mode facts networks points bindings verdicts)

-- no line of findings begins a joint part
abbrev pub FindingsArePlain : Type 0
FindingsArePlain = (mode : Mode) (facts : List Fact) (networks : List Network) (points : List Point) (bindings : List Binding) (verdicts : List Verdict)
    → length bindings < 2 ^ 64 → length points < 2 ^ 64 → IsPlainText (findings mode facts networks points bindings verdicts)

-- a text has one joint part at most
abbrev pub HasOneJointPart : Type 0
HasOneJointPart = (text one other : List ℕ) → IsJointPart text one → IsJointPart text other → one ≡ other

-- what is written where the joint question is settled is a text of its certificate, whatever lines stand before that are passed over
abbrev pub SettledIsText : Type 0
SettledIsText = (front : List ℕ) (facts : List Fact) (certificate : Certificate) → IsPassedText front → length facts < 2 ^ 64 → IsCertificate certificate → IsTextOf (front ++ settled_lines facts certificate) certificate
