use Rattle.std.proofs.Common.{refl}
use Rattle.xc_cert.proofs.Saying.{no_space, no_spelling, one_space, no_word, no_number_there, no_fraction, all_there}
use Rattle.xc_cert.proofs.line.numbered_parts.Goals as goal

pub returns-in_default : goal.returns-in_default
returns-in_default c = no_space c.args.text.now c.in_default.ensures

pub returns-in_default-cut : goal.returns-in_default-cut
returns-in_default-cut c = one_space c.args.text.now c.in-Some.word.now c.in-Some.rest.now c.in-Some.ensures c.in_default-cut.ensures

pub returns-in_default-word_of : goal.returns-in_default-word_of
returns-in_default-word_of c = no_word c.args.text.now c.in-Some.word.now c.in-Some.rest.now c.in-Some.ensures c.in_default-word_of.ensures

pub returns-in_default-number_of : goal.returns-in_default-number_of
returns-in_default-number_of c = no_number_there c.args.text.now c.in-Some.word.now c.in-Some.rest.now c.in-Some-cut.number.now c.in-Some-cut.fraction.now c.in-Some.ensures c.in-Some-cut.ensures c.in_default-number_of.ensures

pub returns-in_default-read_frac : goal.returns-in_default-read_frac
returns-in_default-read_frac c = no_fraction c.args.text.now c.in-Some.word.now c.in-Some.rest.now c.in-Some-cut.number.now c.in-Some-cut.fraction.now c.in-Some.ensures c.in-Some-cut.ensures (no_spelling c.in-Some-cut.fraction.now c.in_default-read_frac.ensures)

pub returns : goal.returns
returns c = all_there c.args.text.now c.in-Some.word.now c.in-Some.rest.now c.in-Some-cut.number.now c.in-Some-cut.fraction.now c.in-Some.ensures c.in-Some-cut.ensures c.in-Some-word_of.word c.in-Some-number_of.number c.in-Some-read_frac.fraction c.in-Some-word_of.ensures c.in-Some-number_of.ensures ((c.in-Some-read_frac.ensures c.in-Some-read_frac.fraction).0 refl)
