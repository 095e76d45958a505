use Rattle.std.proofs.Common.{Some, ap, ◌∙◌, cond, string_bytes}
use Rattle.std.proofs.lemmas.Map.Text.{btree_map_updates_text}
use Rattle.std.specs.BTreeMap.{get_by_text}
use Rattle.std.specs.Str.{bytes_eq}
use Rattle.xc_elements.proofs.declared.note.Goals as goal

pub returns-in-Ok-clause-ok : goal.returns-in-Ok-clause-ok
returns-in-Ok-clause-ok c = λ other.
    btree_map_updates_text (string_bytes c.in_ok-key.key) c.args.spaces.now c.insert.new.self (Some c.args.space) c.in-Ok.ensures.updates other
    ∙ ap (λ bs. cond (bytes_eq bs other) (Some c.args.space) (get_by_text c.args.spaces.now other)) c.in_ok-key.ensures.ok
