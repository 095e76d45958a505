use Rattle.std.proofs.Common.{◌∙◌}
use Rattle.xc_io.proofs.Found.{found_bytes}
use Rattle.xc_io.proofs.memory_shelf.serve.Goals as goal

pub returns-else-fails : goal.returns-else-fails
returns-else-fails c = rw c.if-fails.false (c.find_file.ensures ∙ found_bytes c.args.files.now c.args.name.now)
