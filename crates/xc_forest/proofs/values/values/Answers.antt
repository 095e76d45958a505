use Rattle.std.proofs.Common.{[], ℕ}
use Rattle.xc_forest.specs.Steps.Vertices.{no_parts}
use Rattle.xc_forest.proofs.values.values.Goals as goal

pub loop-undo-init : goal.loop-undo-init
loop-undo-init g c = record {
  left = [];
  now = c.requires.taken.now;
  value = λ (v : ℕ). no_parts;
  trail = c.requires.taken.trail;
  settles = record { within = λ v i. absurd i; meets = λ r i. absurd i; signed = λ v i. absurd i };
  hold = c.in_ok-values.ensures.values;
  each = c.in_ok-values.ensures.each;
}
