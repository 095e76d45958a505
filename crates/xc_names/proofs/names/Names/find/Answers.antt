use Rattle.std.proofs.Common.{ap, sym, ◌∙◌}
use Rattle.xc_names.specs.Names.{number_of}
use Rattle.xc_names.proofs.Found.{number_within}
use Rattle.xc_names.proofs.names.Names.find.Goals as goal

pub returns-in-Some-clause-within : goal.returns-in-Some-clause-within
returns-in-Some-clause-within c =
    let s = c.args.space.now in
    let l = c.args.local.now in
    number_within c.args.self.now s l c.in-Some.number (ap (number_of s l) (sym c.self.view_is) ∙ sym (c.self.invariant.0 s l) ∙ sym c.number_in.ensures ∙ c.in-Some.is)
