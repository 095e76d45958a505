use Rattle.std.proofs.Common.{◌∷◌, ◌∙◌, sym, ap}
use Rattle.xc_elements.specs.Elements.{nodes_of}
use Rattle.xc_elements.proofs.ProgressLaws.{whole_reverse}
use Rattle.xc_elements.proofs.NearestLaws.{scope_holds}
use Rattle.xc_elements.proofs.laws.one_scope.Goals as goal

pub returns : goal.returns
returns c = λ bytes nodes tree before after item tag cut is prefix.
    scope_holds nodes before after item tag (tree.nodes_are ∙ ap nodes_of (cut ∙ sym (whole_reverse before (item ∷ after)))) is prefix
