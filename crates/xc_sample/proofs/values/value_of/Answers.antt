use Rattle.std.proofs.Common.{◌<◌, sym, subst}
use Rattle.xc_sample.proofs.NodeValues.{small, stands}
use Rattle.xc_sample.proofs.values.value_of.Goals as goal

pub returns-clause-is : goal.returns-clause-is
returns-clause-is c = stands c.args.count c.args.node c.args.last.now c.requires.there c.requires.listed c.requires.last

pub returns-clause-small : goal.returns-clause-small
returns-clause-small c = subst (λ x. x < 10000000000) (sym (stands c.args.count c.args.node c.args.last.now c.requires.there c.requires.listed c.requires.last)) (small c.args.count c.args.node c.requires.there c.requires.few)
