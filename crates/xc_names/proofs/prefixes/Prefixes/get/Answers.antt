use Rattle.std.proofs.Common.{ap, sym, ◌∙◌, option_map, string_bytes, Some}
use Rattle.std.specs.FinMap as map
use Rattle.xc_names.proofs.Bound.{get_bound}
use Rattle.xc_names.proofs.prefixes.Prefixes.get.Goals as goal

pub returns-in-Some : goal.returns-in-Some
returns-in-Some c = ap Some c.as_str.ensures.value ∙ ap (option_map string_bytes) c.in-Some.ensures.value ∙ sym (get_bound c.self.inside.uris.entries c.args.prefix.now) ∙ ap (λ m. map.get m c.args.prefix.now) c.self.view_is

pub returns-in-None : goal.returns-in-None
returns-in-None c = ap (option_map string_bytes) c.in-None.ensures.value ∙ sym (get_bound c.self.inside.uris.entries c.args.prefix.now) ∙ ap (λ m. map.get m c.args.prefix.now) c.self.view_is
