use Rattle.xc_calc.proofs.Labelling.{put_locator, put_none}
use Rattle.xc_calc.proofs.locators.put_node.Goals as goal

pub returns-in_ok-put_last : goal.returns-in_ok-put_last
returns-in_ok-put_last c = λ before q. put_locator c.args.tree.now c.args.at q c.in-Some.key _ _ c.in-Some.ensures (before q) (c.in_ok-put_last.ensures q)

pub returns-in_default : goal.returns-in_default
returns-in_default c = λ before q. put_none c.args.tree.now c.args.at q _ c.in_default.ensures (before q)
