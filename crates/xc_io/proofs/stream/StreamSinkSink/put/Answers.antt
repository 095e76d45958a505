use Rattle.std.proofs.Common.{subst, take}
use Rattle.std.specs.Io.KnownBytes.{Appends}
use Rattle.xc_io.proofs.Sent.{sent_part}
use Rattle.xc_io.proofs.stream.StreamSinkSink.put.Goals as goal

-- the writer took nothing
pub returns-then-count-eq0-clause-bytes : goal.returns-then-count-eq0-clause-bytes
returns-then-count-eq0-clause-bytes g c =
    sent_part _ _ _ _ _ c.loop-rest.invariant.sent
    (subst (λ k. Appends (g.W.Write.contents c.loop-rest.self-inside.stream) (g.W.Write.contents c.write_some-count.new.stream) (take k c.loop-rest.rest.now)) c.if-count-eq0.true c.write_some-count.ensures.bytes)
