use Rattle.std.proofs.Common.{◌≡◌, ◌≤◌, drop, true}
use Rattle.std.specs.List.{list_all}
use Rattle.std.specs.Char.{is_ascii_digit}
use Rattle.xc_decimal.specs.Digits.{behind}
use Rattle.xc_decimal.proofs.digits.number_behind.Given as goal

abbrev pub invariant-loop-digit : goal.invariant-loop-digit
invariant-loop-digit l = record {
  within : l.number ≤ l.most;
  digits : list_all is_ascii_digit (drop l.digit-index l.digits) ≡ true;
  left : behind l.number (drop l.digit-index l.digits) ≡ behind l.before l.digits;
}
