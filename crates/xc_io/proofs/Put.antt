-- What a put in memory leaves.
use Rattle.std.proofs.Common.{◌≡◌, ℕ, ◌/◌, ◌≤◌, min, List, length, ◌++◌, Bool, true, false, nat_lt, Some, Result, Ok, Err, refl, ap, arith}
use Rattle.std.specs.Prelude.{⊤, IsTrue, IsErrOf, ◌||◌, ◌↔◌, if◌then◌else◌}
use Rattle.std.proofs.lemmas.Bool.Decides.{nat_tests}
use Rattle.std.proofs.lemmas.List.{take_all}
use Rattle.xc_io.specs.declared.sink.SinkFault.{SinkFault}
use Rattle.xc_io.specs.declared.sink.SinkFault.TheVariants.{Failed}
use Rattle.xc_io.specs.Sink.{PutLeaves}
use Rattle.xc_io.specs.Calls.{fails_next}
use Rattle.xc_io.specs.MemorySink.{SinkState, is_fault, appended_count, after_put}

-- a test that cannot pass
not_true : (test : Bool) → (IsTrue test → ⊥) → test ≡ false
not_true true refuted = absurd (refuted refl)
not_true false refuted = refl

-- no more than the piece is appended
part_if : (fails : Bool) (room count : ℕ) → min room (if fails then count / 2 else count) ≤ count
part_if true room count = omega arith
part_if false room count = omega arith

-- where the put is no fault, the piece is
whole_if : (fails : Bool) (room count : ℕ) → (fails || nat_lt room count) ≡ false → count ≤ min room (if fails then count / 2 else count)
whole_if true room count works = absurd (cc)
whole_if false room count works = grind (arith, nat_tests)

-- the whole piece, or on a fault a beginning of it
pub put_leaves : (sink : SinkState) (piece : List ℕ) (result : Result ⊤ SinkFault) → (IsErrOf result Failed ↔ IsTrue (is_fault sink (length piece))) → PutLeaves (Some sink.bytes) (Some (after_put sink piece).bytes) piece result
put_leaves sink piece (Ok done) fault =
    let works : is_fault sink (length piece) ≡ false = not_true (is_fault sink (length piece)) (λ t. let e = fault.1 t in absurd (cc)) in
    ap (λ xs. sink.bytes ++ xs) (take_all (appended_count sink (length piece)) piece (whole_if (fails_next sink.calls) sink.room (length piece) works))
put_leaves sink piece (Err Failed) fault =
    (appended_count sink (length piece), part_if (fails_next sink.calls) sink.room (length piece), refl)
