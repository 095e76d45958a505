use Rattle.std.proofs.Common.{◌≡◌, ◌++◌, length, option_map}
use denote.Text.{Utf8}
use denote.Shadow.{shadow}
use Rattle.xc_report.specs.Units.{product}
use Rattle.xc_report.proofs.units.product.Given as goal

-- what was read, with what the text that is left gives, is what all gives
abbrev pub invariant-loop-first : goal.invariant-loop-first
invariant-loop-first l = record {
  text : shadow (Utf8 l.left);
  all : option_map (λ rest. l.measures.items ++ rest) (product l.prefixes l.left) ≡ product l.prefixes l.fn.text;
}

abbrev pub decreases-loop-first : goal.decreases-loop-first
decreases-loop-first l = length l.left
