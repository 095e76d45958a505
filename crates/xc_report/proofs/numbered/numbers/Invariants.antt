use Rattle.std.proofs.Common.{◌≡◌, ◌++◌, List, Some, drop}
use Rattle.xc_names.specs.declared.expanded.NameId.{NameId}
use Rattle.xc_report.specs.Steps.Gained.{MayGain, Lasts, all_names}
use Rattle.xc_report.specs.Each.{each_some}
use Rattle.xc_report.specs.Numbered.{id_of}
use Rattle.xc_report.proofs.numbered.numbers.Given as goal

-- for names that keep their numbers, the numbers so far and those of the names that are left are those of all
abbrev pub invariant-loop-name : goal.invariant-loop-name
invariant-loop-name l = record {
  names : MayGain l.fn.names l.names;
  each : Lasts (all_names l.names) (λ later. (rest : List NameId) → each_some (id_of later) (drop l.name-index l.list) ≡ Some rest → each_some (id_of later) l.list ≡ Some (l.ids.items ++ rest));
}
