-- The number of each status.
use Rattle.std.specs.Prelude.{ℕ}
use Rattle.xc_top.specs.declared.status.Status.{Status}
use Rattle.xc_top.specs.declared.status.Status.TheVariants.{Sound, Findings, Usage, Refused, TooWide, ReadFault, WriteFault, Memory}

-- what the program ends with
abbrev pub number : Status → ℕ
number Sound = 0
number Findings = 1
number Usage = 2
number Refused = 3
number TooWide = 4
number ReadFault = 5
number WriteFault = 6
number Memory = 7
