-- A sink over a writer.
use Rattle.std.specs.Prelude.{ℕ, List, Option}

-- the bytes that the writer holds, where it tells them, and how many puts were made and how many of those failed
pub record StreamState : Type 0 where
  pub written : Option (List ℕ)
  pub puts : ℕ
  pub faults : ℕ
