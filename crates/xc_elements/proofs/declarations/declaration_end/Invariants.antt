use Rattle.std.proofs.Common.{length}
use denote.Text.{Utf8}
use denote.Shadow.{shadow}
use Rattle.std.specs.Str.{chars}
use Rattle.xc_elements.specs.Items.{part_or_end}
use Rattle.xc_elements.proofs.LoopLaws.{Leads}
use Rattle.xc_elements.proofs.declarations.declaration_end.Given as goal

abbrev pub invariant-loop-is_last : goal.invariant-loop-is_last
invariant-loop-is_last l = shadow (Utf8 l.rest) × Leads (part_or_end) (chars l.fn.text) (chars l.rest)

abbrev pub decreases-loop-is_last : goal.decreases-loop-is_last
decreases-loop-is_last l = length (chars l.rest)
