-- A sink in memory.
use Rattle.std.specs.Prelude.{ℕ, ◌-◌, ◌/◌, min, nat_lt, List, ◌++◌, length, take, Option, Some, None, Bool, ◌||◌, if◌then◌else◌}
use Rattle.xc_io.specs.Calls.{CallState, fails_next, is_past, after_call}

-- the bytes written, how many still fit, and the calls
pub record SinkState : Type 0 where
  pub bytes : List ℕ
  pub room : ℕ
  pub calls : CallState

-- the room, where no later call is to fail
abbrev pub steady_room : SinkState → Option ℕ
steady_room sink = if is_past sink.calls then Some sink.room else None

-- a put of a piece of this length is a fault: the call is to fail, or the room is too small
abbrev pub is_fault : SinkState → ℕ → Bool
is_fault sink count = fails_next sink.calls || nat_lt sink.room count

-- how many bytes a put of a piece of this length appends: as many as the room takes, of the piece,
-- or of its first half where the call is to fail
abbrev pub appended_count : SinkState → ℕ → ℕ
appended_count sink count = min sink.room (if fails_next sink.calls then count / 2 else count)

-- after a put of this piece
abbrev pub after_put : SinkState → List ℕ → SinkState
after_put sink piece = record {
  bytes = sink.bytes ++ take (appended_count sink (length piece)) piece;
  room = sink.room - appended_count sink (length piece);
  calls = after_call sink.calls (is_fault sink (length piece));
}
