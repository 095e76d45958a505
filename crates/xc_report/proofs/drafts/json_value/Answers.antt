use Rattle.std.proofs.Common.{refl, rules}
use Rattle.serde_json.specs.Errors.{IsMemory}
use Rattle.xc_report.proofs.Json.{json_read, json_none}
use Rattle.xc_report.proofs.drafts.json_value.Goals as goal

pub returns-in-Ok-clause-ok : goal.returns-in-Ok-clause-ok
returns-in-Ok-clause-ok c = json_read _ _ c.in-Ok.ensures.ok.0 c.in-Ok.ensures.ok.1

pub returns-else-is_memory-clause-err : goal.returns-else-is_memory-clause-err
returns-else-is_memory-clause-err c =
    let other : ¬ IsMemory c.in-Err.e = search rules in
    λ _. (refl, json_none _ (c.in-Err.ensures.err other))
