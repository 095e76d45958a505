use Rattle.std.proofs.Common.{◌≡◌, length}
use Rattle.xc_io.specs.Faults.{next_count}
use Rattle.xc_io.proofs.Sent.{Sent}
use Rattle.xc_io.proofs.stream.StreamSinkSink.put.Given as goal

abbrev pub invariant-loop-rest : goal.invariant-loop-rest
invariant-loop-rest g l = record {
  faults : l.self-inside.faults ≡ l.fn.self.faults;
  puts : l.self-inside.puts ≡ next_count l.fn.self.puts;
  sent : Sent l.fn.self.written (g.W.Write.contents l.self-inside.stream) l.piece l.rest;
}

abbrev pub decreases-loop-rest : goal.decreases-loop-rest
decreases-loop-rest g l = length l.rest
