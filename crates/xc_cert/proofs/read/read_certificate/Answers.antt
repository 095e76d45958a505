use Rattle.std.proofs.Common.{arith, sym}
use Rattle.xc_cert.specs.Steps.Reading.{after, progress_of}
use Rattle.xc_cert.proofs.Reached.{reached_more, reached_sound, reached_text, reached_within, fault_at_end, fault_at_line, taken_line, refused_line, empty_of, not_empty}
use Rattle.xc_cert.proofs.read.read_certificate.Goals as goal

pub returns-then-not-branch : goal.returns-then-not-branch
returns-then-not-branch c =
    let refused = refused_line (after (progress_of c.loop-text.reader) c.line_of.result) c.in_ok-take.field-0 (progress_of c.take.new.self) c.in_ok-take.ensures c.if-not-branch.true in
    fault_at_line c.one_spelling.ensures c.args.bytes.now c.loop-text.rest.now c.loop-text.number (progress_of c.loop-text.reader) c.loop-text.invariant c.in-Some.text.now c.in-Some.after.now c.line_of.result c.in-Some.ensures c.line_of.ensures refused

pub overflow_add-number : goal.overflow_add-number
overflow_add-number c = let within = reached_within c.args.bytes.now c.loop-text.rest.now c.loop-text.number (progress_of c.loop-text.reader) c.loop-text.invariant in omega arith

pub loop-text-preserved : goal.loop-text-preserved
loop-text-preserved c =
    let taken = taken_line (after (progress_of c.loop-text.reader) c.line_of.result) c.in_ok-take.field-0 (progress_of c.take.new.self) c.in_ok-take.ensures c.if-not-branch.false in
    reached_more c.args.bytes.now c.loop-text.rest.now c.in-Some.text.now c.in-Some.after.now c.loop-text.number (progress_of c.loop-text.reader) (progress_of c.take.new.self) c.line_of.result c.loop-text.invariant c.in-Some.ensures c.line_of.ensures taken

pub returns-then-not-is_empty : goal.returns-then-not-is_empty
returns-then-not-is_empty c =
    let some = not_empty c.loop-text.rest.now c.is_empty.result c.is_empty.ensures c.if-not-is_empty.true in
    fault_at_end c.one_spelling.ensures c.args.bytes.now c.loop-text.rest.now c.loop-text.number (progress_of c.loop-text.reader) c.loop-text.invariant c.in_default.ensures (λ none. absurd (some none))

pub certificate-requires : goal.certificate-requires
certificate-requires c = (reached_sound c.one_spelling.ensures c.args.bytes.now c.loop-text.rest.now c.loop-text.number (progress_of c.loop-text.reader) c.loop-text.invariant).kept

pub returns-in-Some-certificate : goal.returns-in-Some-certificate
returns-in-Some-certificate c =
    let none = empty_of c.loop-text.rest.now c.is_empty.result c.is_empty.ensures c.if-not-is_empty.false in
    reached_text c.one_spelling.ensures c.args.bytes.now c.loop-text.rest.now c.loop-text.number (progress_of c.loop-text.reader) c.loop-text.invariant c.in-Some-certificate.certificate none (sym c.in-Some-certificate.ensures)

pub returns-in-None : goal.returns-in-None
returns-in-None c =
    fault_at_end c.one_spelling.ensures c.args.bytes.now c.loop-text.rest.now c.loop-text.number (progress_of c.loop-text.reader) c.loop-text.invariant c.in_default.ensures (λ none. sym c.in-None.ensures)
