use Rattle.std.proofs.Common.{refl, rules, length, take, ◌++◌, ◌≡◌}
use Rattle.xc_io.specs.MemorySink.{is_fault, after_put}
use Rattle.xc_io.proofs.Past.{faults_later}
use Rattle.xc_io.proofs.Put.{put_leaves}
use Rattle.xc_io.proofs.Steady.{room_after, full, filled, on_err, on_ok}
use Rattle.xc_io.proofs.memory_sink.MemorySinkSink.TheImpl.Goals as goal

pub put-tells : goal.put-tells
put-tells c = record {
  bytes = rw c.ensures.after (put_leaves c.args.self.now c.args.piece.now c.result c.ensures.fault);
  later = rw c.ensures.after (faults_later c.args.self.now.calls (is_fault c.args.self.now (length c.args.piece.now)));
  failed = search rules;
  worked = rw c.ensures.after (on_ok c.result c.args.self.now.calls (is_fault c.args.self.now (length c.args.piece.now)) c.ensures.fault);
  counted = rw c.ensures.after refl;
  room = rw c.ensures.after (room_after c.args.self.now c.args.piece.now);
  full = λ n steady. let h = full c.args.self.now c.args.piece.now n steady in (λ err. h.0 (c.ensures.fault.0 err), λ lt. c.ensures.fault.1 (h.1 lt));
  filled = λ n steady. rw c.ensures.after (on_err c.result ((after_put c.args.self.now c.args.piece.now).bytes ≡ c.args.self.now.bytes ++ take n c.args.piece.now) (filled c.args.self.now c.args.piece.now n steady));
}
