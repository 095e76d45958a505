use Rattle.std.proofs.Common.{Some, sym, subst, ◌∙◌, string_bytes}
use Rattle.std.specs.HashMap.{UpdatesBy}
use Rattle.std.specs.Str.{bytes_eq}
use Rattle.std.specs.String.{string_eq}
use Rattle.xc_names.proofs.TextMaps.{opened}
use Rattle.xc_names.proofs.numbers.open_space.Goals as goal

pub returns-in-Ok-clause-same : goal.returns-in-Ok-clause-same
returns-in-Ok-clause-same c =
    let updates = subst (λ s. UpdatesBy string_eq (λ k. bytes_eq s (string_bytes k)) c.args.spaces.now c.insert.new.self (Some c.new.result)) c.in_ok-key.ensures.ok c.in-Ok.ensures.updates in
    opened c.args.spaces.now c.insert.new.self c.args.space.now c.new.result updates (sym c.contains_key.ensures ∙ c.if-contains_key.false) c.new.ensures.empty
