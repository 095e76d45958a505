-- A shelf and a sink in memory of which no later call is to fail.
use Rattle.std.proofs.Common.{◌≡◌, ℕ, ◌-◌, ◌/◌, ◌<◌, min, List, length, take, ◌++◌, Bool, true, false, nat_lt, Option, Some, None, Result, Ok, Err, refl, ap, ◌∙◌, arith}
use Rattle.std.specs.Prelude.{⊤, IsErrOf, IsNone, IsSome, is_none, IsTrue, OnErr, OnOk, ◌||◌, ◌↔◌, if◌then◌else◌}
use Rattle.std.proofs.lemmas.Bool.Decides.{nat_tests}
use Rattle.std.proofs.lemmas.List.{take_min}
use Rattle.xc_io.specs.declared.sink.SinkFault.{SinkFault}
use Rattle.xc_io.specs.declared.sink.SinkFault.TheVariants.{Failed}
use Rattle.xc_io.specs.Faults.{next_count}
use Rattle.xc_io.specs.Calls.{CallState, is_past, fails_next, after_call}
use Rattle.xc_io.specs.MemoryShelf.{ShelfState, first_file, found, after_fetch}
use Rattle.xc_io.specs.MemorySink.{SinkState, steady_room, is_fault, after_put}
use Rattle.xc_io.proofs.Past.{faults_kept, past_stays, past_next}

-- where the call does not fail, what is not found is not held
absent_if : (fails : Bool) (held : Option (List ℕ)) → fails ≡ false → IsNone (if fails then None else held) → held ≡ None
absent_if true held works none = absurd (cc)
absent_if false None works none = refl
absent_if false (Some bytes) works none = absurd (cc)

-- only a name that is not held is not found
pub absent : (shelf : ShelfState) (name : List ℕ) → is_past shelf.calls ≡ true → IsNone (found shelf name) → first_file shelf.files name ≡ None
absent shelf name past none = absent_if (fails_next shelf.calls) (first_file shelf.files name) (past_next shelf.calls past) none

-- where the call does not fail, what is held is no fault
quiet_if : (fails : Bool) (held : Option (List ℕ)) (faults : ℕ) → fails ≡ false → IsSome held → (if is_none (if fails then None else held) then next_count faults else faults) ≡ faults
quiet_if true held faults works some = absurd (cc)
quiet_if false None faults works some = absurd (cc)
quiet_if false (Some bytes) faults works some = refl

-- a fetch of a name that is held is no fault
pub quiet : (shelf : ShelfState) (name : List ℕ) → is_past shelf.calls ≡ true → IsSome (first_file shelf.files name) → (after_fetch shelf name).calls.faults ≡ shelf.calls.faults
quiet shelf name past some = quiet_if (fails_next shelf.calls) (first_file shelf.files name) shelf.calls.faults (past_next shelf.calls past) some

-- a steady sink has made each call that is to fail, and its room is this
past_if : (past : Bool) (room n : ℕ) → (if past then Some room else None) ≡ Some n → (past ≡ true) × (room ≡ n)
past_if true room n steady = (refl, cc)
past_if false room n steady = absurd (cc)

-- where the call does not fail, the room is less by the count
room_if : (past fails : Bool) (room n count : ℕ) → past ≡ true → fails ≡ false → room ≡ n → (if past then Some (room - min room (if fails then count / 2 else count)) else None) ≡ Some (n - count)
room_if true true room n count past works same = absurd (cc)
room_if true false room n count past works same = let e : room - min room count ≡ n - count = omega arith in ap (λ k. Some k) e
room_if false fails room n count past works same = absurd (cc)

-- the room is less by the piece
pub room_after : (sink : SinkState) (piece : List ℕ) (n : ℕ) → steady_room sink ≡ Some n → steady_room (after_put sink piece) ≡ Some (n - length piece)
room_after sink piece n steady =
    let h = past_if (is_past sink.calls) sink.room n steady in
    room_if (is_past (after_put sink piece).calls) (fails_next sink.calls) sink.room n (length piece)
    (past_stays sink.calls (is_fault sink (length piece)) h.0) (past_next sink.calls h.0) h.1

-- where the call does not fail, only the room decides
full_if : (fails : Bool) (room n count : ℕ) → fails ≡ false → room ≡ n → IsTrue (fails || nat_lt room count) ↔ (n < count)
full_if true room n count works same = absurd (cc)
full_if false room n count works same = (λ t. grind (arith, nat_tests), λ lt. grind (arith, nat_tests))

-- a put is a fault exactly where the piece is longer than the room
pub full : (sink : SinkState) (piece : List ℕ) (n : ℕ) → steady_room sink ≡ Some n → IsTrue (is_fault sink (length piece)) ↔ (n < length piece)
full sink piece n steady =
    let h = past_if (is_past sink.calls) sink.room n steady in
    full_if (fails_next sink.calls) sink.room n (length piece) (past_next sink.calls h.0) h.1

-- where the call does not fail, the room decides how much is appended
filled_if : (fails : Bool) (bytes piece : List ℕ) (room n : ℕ) → fails ≡ false → room ≡ n → bytes ++ take (min room (if fails then length piece / 2 else length piece)) piece ≡ bytes ++ take n piece
filled_if true bytes piece room n works same = absurd (cc)
filled_if false bytes piece room n works same = ap (λ xs. bytes ++ xs) (take_min room piece ∙ ap (λ k. take k piece) same)

-- as much of the piece is appended as the room takes
pub filled : (sink : SinkState) (piece : List ℕ) (n : ℕ) → steady_room sink ≡ Some n → (after_put sink piece).bytes ≡ sink.bytes ++ take n piece
filled sink piece n steady =
    let h = past_if (is_past sink.calls) sink.room n steady in
    filled_if (fails_next sink.calls) sink.bytes piece sink.room n (past_next sink.calls h.0) h.1

-- a fact that holds of each result holds of an error
pub on_err : (result : Result ⊤ SinkFault) (P : Type 0) → P → OnErr result P
on_err (Ok done) P p = tt
on_err (Err fault) P p = p

-- a put that wrote its piece was no fault
pub on_ok : (result : Result ⊤ SinkFault) (calls : CallState) (is_fault : Bool) → (IsErrOf result Failed ↔ IsTrue is_fault) → OnOk result ((after_call calls is_fault).faults ≡ calls.faults)
on_ok (Ok done) calls is_fault fault = faults_kept calls is_fault (λ t. let e = fault.1 t in absurd (cc))
on_ok (Err fault) calls is_fault both = tt
