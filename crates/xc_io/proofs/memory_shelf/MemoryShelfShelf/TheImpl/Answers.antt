use Rattle.std.proofs.Common.{refl, rules}
use Rattle.std.specs.Prelude.{is_none}
use Rattle.xc_io.specs.MemoryShelf.{found}
use Rattle.xc_io.proofs.Past.{faults_kept, faults_later, past_stays, something}
use Rattle.xc_io.proofs.Steady.{absent, quiet}
use Rattle.xc_io.proofs.memory_shelf.MemoryShelfShelf.TheImpl.Goals as goal

pub fetch-tells : goal.fetch-tells
fetch-tells c = record {
  bytes = c.ensures.bytes;
  room = c.ensures.room;
  same = search rules;
  later = rw c.ensures.after (faults_later c.args.self.now.calls (is_none (found c.args.self.now c.args.name.now)));
  failed = search rules;
  worked = λ works. rw c.ensures.after (faults_kept c.args.self.now.calls (is_none (found c.args.self.now c.args.name.now)) (something (found c.args.self.now c.args.name.now) (λ none. works (c.ensures.fault.1 none))));
  counted = rw c.ensures.after refl;
  stays = rw c.ensures.after (past_stays c.args.self.now.calls (is_none (found c.args.self.now c.args.name.now)));
  answered = λ past failed. absent c.args.self.now c.args.name.now past (c.ensures.fault.0 failed);
  quiet = rw c.ensures.after (quiet c.args.self.now c.args.name.now);
}
