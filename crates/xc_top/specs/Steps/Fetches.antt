-- What the fetches of a run leave of its shelf, and what is answered of them. The parameters `held`, `steady`, `faults` and `fetches` are the meanings of a shelf.
use Rattle.std.specs.Prelude.{◌≡◌, ◌+◌, ◌≤◌, ◌⊎◌, ℕ, List, Bool, true, Option, Some, IfSome}
use Rattle.xc_io.specs.Faults.{Rose}
use Rattle.xc_io.specs.Shelf.{Files}
use Rattle.xc_top.specs.Documents.{first_unfetched}
use Rattle.xc_top.specs.Run.{IsReadFaultOf}
use Rattle.xc_top.specs.Steps.Chain.{IsCommandStep}
use Rattle.xc_top.specs.Steps.Stops.{IsSettled}
use Rattle.xc_top.specs.Words.{CommandWords, file_words}
use Rattle.xc_top.specs.declared.status.Answer.{Answer}
use Rattle.xc_top.specs.declared.status.Status.TheVariants.{ReadFault}

-- at most so many fetches were made: the shelf holds what it held, stays steady, and its count of faults has not fallen
pub record Leaves {S : Type 0} (held : S → Option Files) (steady : S → Bool) (faults fetches : S → ℕ) (old new : S) (count : ℕ) : Type 0 where
  pub same : held new ≡ held old
  pub stays : steady old ≡ true → steady new ≡ true
  pub later : faults old ≤ faults new
  pub few : fetches new ≤ fetches old + count

-- the fetch of one of these files failed, on a steady shelf because it is not held
pub record IsFailed {S : Type 0} (held : S → Option Files) (steady : S → Bool) (faults : S → ℕ) (old new : S) (words : List (List ℕ)) (answer : Answer) : Type 0 where
  pub ended : answer.status ≡ ReadFault
  pub rose : Rose (faults old) (faults new)
  pub line : IsReadFaultOf words answer.text
  pub missing : steady old ≡ true → IfSome (held old) (λ files. first_unfetched files words ≡ Some answer)

-- no fetch failed, and this holds of what the shelf holds
pub record IsTold {S : Type 0} (held : S → Option Files) (faults : S → ℕ) (old new : S) (answer : Answer) (P : Files → Type 0) : Type 0 where
  pub ended : IsSettled answer.status
  pub worked : faults new ≡ faults old
  pub told : IfSome (held old) P

-- what is answered where one of these files cannot be fetched
abbrev pub IsUnfetched : {S : Type 0} → (S → Option Files) → (S → Bool) → (S → ℕ) → S → S → List (List ℕ) → Answer → Type 0
IsUnfetched held steady faults old new words answer = IsFailed held steady faults old new words answer ⊎ IsTold held faults old new answer (λ files. first_unfetched files words ≡ Some answer)

-- what is answered of a command
abbrev pub IsOver : {S : Type 0} → (S → Option Files) → (S → Bool) → (S → ℕ) → S → S → CommandWords → Answer → Type 0
IsOver held steady faults old new command answer = IsFailed held steady faults old new (file_words command) answer ⊎ IsTold held faults old new answer (λ files. IsCommandStep command files answer)
