use Rattle.std.proofs.Common.{Some, ap, ◌∙◌, cond, string_bytes, rules}
use Rattle.std.proofs.lemmas.Map.Text.{btree_map_updates_text}
use Rattle.std.specs.BTreeMap.{get_by_text}
use Rattle.std.specs.Str.{bytes_eq}
use Rattle.xc_concepts.proofs.ids.insert_number.Goals.{in-Ok, in-Err}
use Rattle.xc_concepts.proofs.ids.insert_number.Goals as goal

pub returns : goal.returns
returns c = elim c.match-insert.branch [
  | in-Ok w ↦ rw w.result-is (λ i. btree_map_updates_text (string_bytes c.in_ok-key.key) c.args.numbers.now c.insert.new.self (Some c.args.number) w.in-Ok.ensures.updates i
      ∙ ap (λ bs. cond (bytes_eq bs i) (Some c.args.number) (get_by_text c.args.numbers.now i)) c.in_ok-key.ensures.ok)
  | in-Err w ↦ rw w.result-is (search rules)
]
