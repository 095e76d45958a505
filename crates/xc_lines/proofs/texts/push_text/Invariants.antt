use Rattle.std.proofs.Common.{◌≡◌, ◌++◌, drop, length, string_bytes}
use Rattle.std.specs.List.{flat_map}
use Rattle.std.specs.Str.{chars}
use Rattle.xc_lines.specs.Lines.{printed_char}
use Rattle.xc_lines.proofs.texts.push_text.Given as goal

-- what is printed so far, and then the characters that are left
abbrev pub invariant-loop-c : goal.invariant-loop-c
invariant-loop-c l = string_bytes l.out ++ flat_map printed_char (drop (length l.yielded) (chars l.text)) ≡ string_bytes l.initial.out ++ flat_map printed_char (chars l.text)
