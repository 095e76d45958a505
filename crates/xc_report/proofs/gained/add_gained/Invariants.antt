use Rattle.std.proofs.Common.{◌≡◌, ◌++◌, drop}
use Rattle.xc_names.specs.Names.{KeepsNumbers}
use Rattle.xc_report.proofs.gained.add_gained.Given as goal

-- the names, with those that are left behind them, are all
abbrev pub invariant-loop-number : goal.invariant-loop-number
invariant-loop-number l = record {
  kept : KeepsNumbers l.fn.names l.names;
  all : l.names ++ drop l.number l.gained ≡ l.fn.names ++ l.gained;
}
