use Rattle.std.proofs.Common.{length}
use denote.Text.{Utf8}
use denote.Shadow.{shadow}
use Rattle.std.specs.Str.{chars}
use Rattle.xc_elements.specs.Fronts.{run}
use Rattle.xc_elements.specs.Steps.Views.{is_in}
use Rattle.xc_elements.proofs.ReadLaws.{Passed}
use Rattle.xc_elements.proofs.texts.run.Given as goal

abbrev pub invariant-loop-c : goal.invariant-loop-c
invariant-loop-c l = shadow (Utf8 l.rest) × Passed (run (is_in l.class)) (chars l.fn.text) (chars l.rest)

abbrev pub decreases-loop-c : goal.decreases-loop-c
decreases-loop-c l = length l.rest
