use Rattle.std.proofs.Common.{◌≡◌, ◌++◌, drop, string_bytes}
use Rattle.xc_lines.specs.Joints.{number_words}
use Rattle.xc_lines.proofs.joints.push_numbers.Given as goal

-- the numbers so far, and then those that are left
abbrev pub invariant-loop-number : goal.invariant-loop-number
invariant-loop-number l = string_bytes l.out ++ number_words (drop l.number-index l.numbers) ≡ string_bytes l.initial.out ++ number_words l.numbers
