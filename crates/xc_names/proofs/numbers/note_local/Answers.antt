use Rattle.std.proofs.Common.{Some, ap, ◌∙◌, cond, string_bytes, rules}
use Rattle.std.proofs.lemmas.Map.Text.{hash_map_updates_text}
use Rattle.std.specs.HashMap.{get_by_text}
use Rattle.std.specs.Str.{bytes_eq}
use Rattle.xc_names.proofs.numbers.note_local.Goals.{in-Ok, in-Err}
use Rattle.xc_names.proofs.numbers.note_local.Goals as goal

pub returns-clause-ok : goal.returns-clause-ok
returns-clause-ok c = elim c.match-insert.branch [
  | in-Ok w ↦ rw w.result-is (λ l. hash_map_updates_text (string_bytes c.in_ok-key.key) c.args.locals.now c.insert.new.self (Some c.args.number) w.in-Ok.ensures.updates l
      ∙ ap (λ bs. cond (bytes_eq bs l) (Some c.args.number) (get_by_text c.args.locals.now l)) c.in_ok-key.ensures.ok)
  | in-Err w ↦ rw w.result-is (search rules)
]
