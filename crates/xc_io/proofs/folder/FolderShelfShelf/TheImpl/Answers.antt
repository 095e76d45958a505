use Rattle.std.proofs.Common.{rules, subst, sym}
use Rattle.xc_io.specs.Faults.{Rose}
use Rattle.xc_io.proofs.Past.{later_if, rose_next}
use Rattle.xc_io.proofs.folder.FolderShelfShelf.TheImpl.Goals as goal

pub fetch-tells : goal.fetch-tells
fetch-tells g c = record {
  bytes = tt;
  room = c.ensures.room;
  same = search rules;
  later = later_if c.result c.args.self.now.faults c.new.self.now.faults c.ensures.failed c.ensures.worked;
  failed = λ failed. subst (λ n. Rose c.args.self.now.faults n) (sym (c.ensures.failed failed)) (rose_next c.args.self.now.faults);
  worked = c.ensures.worked;
  counted = c.ensures.counted;
  stays = search rules;
  answered = search rules;
  quiet = search rules;
}
