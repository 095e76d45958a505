use Rattle.std.proofs.Common.{length}
use denote.Text.{Utf8}
use denote.Shadow.{shadow}
use Rattle.std.specs.Str.{chars}
use Rattle.xc_elements.proofs.TagLaws.{Expands}
use Rattle.xc_elements.proofs.expanded.expand_attributes.Given as goal

abbrev pub invariant-loop-part : goal.invariant-loop-part
invariant-loop-part l = shadow (Utf8 l.rest) × Expands (chars l.fn.tag.attributes.now) (chars l.rest) l.scope l.attributes.items l.lacks_any

abbrev pub decreases-loop-part : goal.decreases-loop-part
decreases-loop-part l = length (chars l.rest)
