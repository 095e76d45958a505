use Rattle.std.proofs.Common.{◌≡◌, ◌++◌, drop, take}
use Rattle.xc_cert.specs.Certificates.{AreNumbers, numbered_lines}
use Rattle.xc_lists.specs.TextLines.{text_of}
use Rattle.xc_cert.proofs.write.push_listed.Given as goal

-- the lines so far, and then those that are left; and the numbers so far
abbrev pub invariant-loop-number : goal.invariant-loop-number
invariant-loop-number l = record {
  text : l.out.items ++ text_of (numbered_lines l.word (drop l.number-index l.listed)) ≡ l.initial.out.items ++ text_of (numbered_lines l.word l.listed);
  numbers : AreNumbers (take l.number-index l.listed);
}
