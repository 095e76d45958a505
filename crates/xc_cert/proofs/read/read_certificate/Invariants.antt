use Rattle.std.proofs.Common.{length}
use Rattle.xc_cert.specs.Steps.Reading.{IsReached, progress_of}
use Rattle.xc_cert.proofs.read.read_certificate.Given as goal

-- the lines before the rest were read
abbrev pub invariant-loop-text : goal.invariant-loop-text
invariant-loop-text l = IsReached l.bytes l.rest l.number (progress_of l.reader)

abbrev pub decreases-loop-text : goal.decreases-loop-text
decreases-loop-text l = length l.rest
