use Rattle.std.proofs.Common.{◌∙◌, length, ap, arith}
use Rattle.std.specs.Prelude.{encode_utf8_all}
use Rattle.std.proofs.lemmas.List.{length-append}
use Rattle.xc_elements.proofs.TextLaws.{bytes_before, cut_before, part_before, take_of_range}
use Rattle.xc_elements.proofs.texts.text_before.Goals as goal

pub overflow_sub-text : goal.overflow_sub-text
overflow_sub-text c =
    let bytes = bytes_before c.args.text.now c.args.rest.now c.requires.0 c.utf8.text c.utf8.rest c.requires.1 in
    omega (arith, ap length bytes, length-append (encode_utf8_all c.requires.0) c.args.rest.now)

pub range-requires-clause-end_boundary : goal.range-requires-clause-end_boundary
range-requires-clause-end_boundary c = cut_before c.args.text.now c.args.rest.now c.requires.0 c.utf8.text c.utf8.rest c.requires.1

pub returns : goal.returns
returns c = λ front e. part_before c.args.text.now c.args.rest.now c.range.result.now front c.utf8.text c.utf8.rest c.range.utf8 (c.range.ensures.value ∙ take_of_range c.args.text.now _) e
