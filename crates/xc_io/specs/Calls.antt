-- The calls of a shelf or a sink in memory, counted from 0, of which chosen ones fail.
use Rattle.std.specs.Prelude.{ℕ, ◌==◌, nat_lt, List, Bool, if◌then◌else◌}
use Rattle.std.specs.List.{list_any, list_all}
use Rattle.xc_io.specs.Faults.{next_count}

-- which calls are to fail, how many were made, and how many of those were faults
pub record CallState : Type 0 where
  pub failing : List ℕ
  pub made : ℕ
  pub faults : ℕ

-- before the first call
abbrev pub no_calls : List ℕ → CallState
no_calls failing = record { failing = failing; made = 0; faults = 0 }

-- the next call is to fail
abbrev pub fails_next : CallState → Bool
fails_next calls = list_any (λ call. call == calls.made) calls.failing

-- no later call is to fail
abbrev pub is_past : CallState → Bool
is_past calls = list_all (λ call. nat_lt call calls.made) calls.failing

-- after one more call, which was a fault or was none
abbrev pub after_call : CallState → Bool → CallState
after_call calls is_fault = record {
  failing = calls.failing;
  made = next_count calls.made;
  faults = if is_fault then next_count calls.faults else calls.faults;
}
