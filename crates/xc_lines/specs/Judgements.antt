-- What is written of a certificate: the line of its judgement.
use Rattle.std.specs.Prelude.{ℕ, ◌<◌, List, [], ◌++◌, length, slice_get, codes, decimal}
use Rattle.std.specs.Option.{option_map_or}
use Rattle.xc_decimal.specs.Spelling.{spelling}
use Rattle.xc_frac.specs.declared.wide.Op.{Op}
use Rattle.xc_frac.specs.declared.wide.Op.TheVariants.{Add, Sub, Mul, Div}
use Rattle.xc_frac.specs.declared.wide.Wide.{Wide}
use Rattle.xc_lines.specs.Lines.{printed_text}
use Rattle.xc_report.specs.declared.reports.Fact.{Fact}
use Rattle.xc_system.specs.declared.types.Certificate.{Certificate}
use Rattle.xc_system.specs.declared.types.Certificate.TheVariants.{Feasible, Infeasible}
use Rattle.xc_verify.specs.declared.types.Judgement.{Judgement}
use Rattle.xc_verify.specs.declared.types.Judgement.TheVariants.{Accepted, Misses, WideFact, TooWide}
use Rattle.xc_verify.specs.declared.types.What.{What}
use Rattle.xc_verify.specs.declared.types.What.TheVariants.{Point, Binding, Fact as FactNumber, Constant}

-- a fact that is named as wide is one of these
abbrev pub NamesFact : List Fact → Judgement → Type 0
NamesFact facts Accepted = Unit {0}
NamesFact facts (Misses what) = Unit {0}
NamesFact facts (WideFact k) = k < length facts
NamesFact facts (TooWide what wide) = Unit {0}

-- the id of a fact, by its number
abbrev pub fact_id : List Fact → ℕ → List ℕ
fact_id facts k = option_map_or (λ fact. fact.id) (slice_get facts k) []

-- what is claimed of a system
abbrev pub claim : Certificate → List ℕ
claim (Feasible values) = codes "feasible"
claim (Infeasible refutation) = codes "infeasible"

-- what a judgement speaks of
abbrev pub what_words : What → List ℕ
what_words (Point k) = codes "point " ++ decimal k
what_words (Binding k) = codes "binding " ++ decimal k
what_words (FactNumber k) = codes "fact " ++ decimal k
what_words Constant = codes "constant"

-- the word of an operation
abbrev pub op_word : Op → List ℕ
op_word Add = codes "add"
op_word Sub = codes "sub"
op_word Mul = codes "mul"
op_word Div = codes "div"

-- an operation with its operands
abbrev pub wide_words : Wide → List ℕ
wide_words wide = op_word wide.op ++ codes " " ++ spelling wide.left ++ codes " " ++ spelling wide.right

-- the judgement of a certificate over the system of a report with these facts
abbrev pub judgement_line : List Fact → Certificate → Judgement → List ℕ
judgement_line facts certificate Accepted = codes "accepted " ++ claim certificate ++ codes "\n"
judgement_line facts certificate (Misses what) = codes "misses " ++ what_words what ++ codes "\n"
judgement_line facts certificate (WideFact k) = codes "too-wide fact " ++ decimal k ++ codes " " ++ printed_text (fact_id facts k) ++ codes "\n"
judgement_line facts certificate (TooWide what wide) = codes "too-wide " ++ what_words what ++ codes " " ++ wide_words wide ++ codes "\n"
