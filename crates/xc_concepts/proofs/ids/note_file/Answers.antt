use Rattle.std.proofs.Common.{Some, ap, ◌∙◌, cond, option_and_then, string_bytes}
use Rattle.std.proofs.lemmas.Map.Text.{btree_map_updates_text}
use Rattle.std.specs.BTreeMap.{get_by_text}
use Rattle.std.specs.Str.{bytes_eq}
use Rattle.xc_concepts.proofs.NumbersByIds.{and_then_cond}
use Rattle.xc_concepts.specs.Steps.Ids.{number_at}
use Rattle.xc_concepts.proofs.ids.note_file.Goals as goal

pub returns-in-Ok-clause-ok : goal.returns-in-Ok-clause-ok
returns-in-Ok-clause-ok c = λ f id.
    ap (option_and_then (λ numbers. get_by_text numbers id)) (btree_map_updates_text (string_bytes c.in_ok-key.key) c.args.files.now c.insert.new.self (Some c.args.numbers) c.in-Ok.ensures.updates f)
    ∙ and_then_cond (λ numbers. get_by_text numbers id) (bytes_eq (string_bytes c.in_ok-key.key) f) c.args.numbers (get_by_text c.args.files.now f)
    ∙ ap (λ bs. cond (bytes_eq bs f) (get_by_text c.args.numbers id) (number_at c.args.files.now f id)) c.in_ok-key.ensures.ok
