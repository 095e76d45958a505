-- What borrowed words name.
use Rattle.std.specs.Prelude.{◌≤◌}
use Rattle.xc_top.specs.Words.{SumWords, CheckWords, VerifyWords, CommandWords, SumOf, CheckOf, VerifyOf, SampleOf, texts}
use Rattle.xc_top.specs.declared.words.Check.{Check}
use Rattle.xc_top.specs.declared.words.Command as lent
use Rattle.xc_top.specs.declared.words.Command.TheVariants as command
use Rattle.xc_top.specs.declared.words.Sum.{Sum}
use Rattle.xc_top.specs.declared.words.Verify.{Verify}

-- what the words of `sum` name
abbrev pub named_sum : Sum → SumWords
named_sum sum = record { mode = sum.mode; report = sum.report.now; total = sum.total.now; terms = texts sum.terms.now }

-- what the words of `check` name
abbrev pub named_check : Check → CheckWords
named_check check = record { kind = check.kind; mode = check.mode; report = check.report.now; documents = texts check.documents.now }

-- what the words of `verify` name
abbrev pub named_verify : Verify → VerifyWords
named_verify verify = record { certificate = verify.certificate.now; over = named_check verify.over }

-- what a command names
abbrev pub named : lent.Command → CommandWords
named (command.Sum sum) = SumOf (named_sum sum)
named (command.Check check) = CheckOf (named_check check)
named (command.Verify verify) = VerifyOf (named_verify verify)
named (command.Sample count) = SampleOf count

-- a sample that is named has as many nodes as a sample may have
abbrev pub IsSized : CommandWords → Type 0
IsSized (SumOf sum) = Unit {0}
IsSized (CheckOf check) = Unit {0}
IsSized (VerifyOf verify) = Unit {0}
IsSized (SampleOf n) = (2 ≤ n) × (n ≤ 100000)
