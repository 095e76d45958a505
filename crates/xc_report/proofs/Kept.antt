-- Numbers that are kept twice are kept.
use Rattle.std.proofs.Common.{List, refl, ◌∙◌}
use Rattle.xc_names.specs.Names.{KeepsNumbers}
use Rattle.xc_names.specs.declared.expanded.Expanded.{Expanded}
use Rattle.xc_report.specs.Steps.Gained.{GainedNames, MayGain, all_names}

pub kept_on : (a b c : List Expanded) → KeepsNumbers a b → KeepsNumbers b c → KeepsNumbers a c
kept_on a b c first then space local number e = then space local number (first space local number e)

pub none_gained : (names : GainedNames) → MayGain names names
none_gained names = record { there = refl; kept = λ space local number h. h }

pub gain_on : {a b c : GainedNames} → MayGain a b → MayGain b c → MayGain a c
gain_on {a} {b} {c} first then = record { there = then.there ∙ first.there; kept = kept_on (all_names a) (all_names b) (all_names c) first.kept then.kept }
