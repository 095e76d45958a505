use Rattle.std.proofs.Common.{sym, ◌∙◌}
use Rattle.std.proofs.lemmas.Str.{encodes-chars}
use Rattle.xc_elements.proofs.texts.copy_of.Goals as goal

pub returns-clause-characters : goal.returns-clause-characters
returns-clause-characters c = c.of.ensures ∙ c.in_ok-from_str.ensures.ok ∙ sym (encodes-chars c.args.text.now c.utf8.text)
