-- Other numbers for the same names: what is read of a report, with the numbers of its concepts exchanged.
use Rattle.std.specs.Prelude.{◌≡◌, ℕ, List, map, option_map, Result, Ok, Err}
use Rattle.xc_names.specs.declared.expanded.Expanded.{Expanded}
use Rattle.xc_names.specs.declared.expanded.NameId.{NameId}
use Rattle.xc_report.specs.Wanted.{Known, node_of, is_typed}
use Rattle.xc_report.specs.declared.reports.Fact.{Fact}
use Rattle.xc_report.specs.declared.reports.ReportFault.{ReportFault}
use Rattle.xc_report.specs.declared.stated.StatedFact.{StatedFact}

module _ (f : ℕ → ℕ) where
  -- a name under its other number
  abbrev pub renamed_id : NameId → NameId
  renamed_id id = record { 0 = f id.0 }

  -- and a fact that names it
  abbrev pub renamed_stated : StatedFact → StatedFact
  renamed_stated s = record { id = s.id; concept = renamed_id s.concept; parts = s.parts; value = s.value; decimals = s.decimals }

  -- facts keep the numbers of their keys, which are places in a list of keys
  abbrev pub renamed_fact : Fact → Fact
  renamed_fact x = record { id = x.id; concept = renamed_id x.concept; key = x.key; value = x.value; decimals = x.decimals }

  -- facts or their fault
  abbrev pub renamed_read : Result (List StatedFact) ReportFault → Result (List StatedFact) ReportFault
  renamed_read (Ok facts) = Ok (map renamed_stated facts)
  renamed_read (Err fault) = Err fault

  -- the same names are those of nodes and of typed dimensions
  pub record IsKnownAs (one other : Known) : Type 0 where
    pub prefixes : other.prefixes ≡ one.prefixes
    pub nodes : (name : Expanded) → node_of other name ≡ option_map renamed_id (node_of one name)
    pub typed : (name : Expanded) → is_typed other name ≡ is_typed one name
