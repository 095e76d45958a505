use Rattle.std.proofs.Common.{◌≡◌, ◌++◌, rules, string_bytes}
use Rattle.std.specs.Prelude.{codes, decimal}
use Rattle.xc_lines.proofs.Appended.{five}
use Rattle.xc_lines.specs.Lines.{printed_text}
use Rattle.xc_lines.proofs.found.push_empty_point.Goals as goal

pub returns : goal.returns
returns c =
    let word : string_bytes c.push_str.new.self ≡ string_bytes c.args.out.now ++ codes "point " = search rules in
    let number : string_bytes c.push_number.new.out ≡ string_bytes c.push_str.new.self ++ decimal c.args.number = search rules in
    let empty : string_bytes c.push_str-2.new.self ≡ string_bytes c.push_number.new.out ++ codes " empty " = search rules in
    let fact : string_bytes c.push_text.new.out ≡ string_bytes c.push_str-2.new.self ++ printed_text c.args.fact.now = search rules in
    let code : string_bytes c.push_str-3.new.self ≡ string_bytes c.push_text.new.out ++ codes " xc:emptyDataPoint\n" = c.in_ok-push_str-3.ensures.bytes in
    five (string_bytes c.args.out.now) (codes "point ") (decimal c.args.number) (codes " empty ") (printed_text c.args.fact.now) (codes " xc:emptyDataPoint\n") _ _ _ _ _ word number empty fact code
