-- What a run leaves, by its status.
use Rattle.std.specs.Prelude.{◌≡◌, ◌≢◌, ◌<◌, ◌⊎◌, ℕ, List, [], ◌∷◌, length, take, Option, Some, None, IsSomeAnd}
use Rattle.std.specs.Io.KnownBytes.{Appends}
use Rattle.xc_io.specs.Shelf.{Files}
use Rattle.xc_io.specs.Sink.{AppendsPrefix}
use Rattle.xc_lines.specs.Lines.{read_fault_line}
use Rattle.xc_top.specs.Answer.{IsAnswerOf}
use Rattle.xc_top.specs.Documents.{limit}
use Rattle.xc_top.specs.Words.{CommandWords, file_words, words_of}
use Rattle.xc_top.specs.declared.status.Answer.{Answer}
use Rattle.xc_top.specs.declared.status.Status.{Status}
use Rattle.xc_top.specs.declared.status.Status.TheVariants.{Sound, Findings, Usage, Refused, TooWide, ReadFault, WriteFault, Memory}

-- the run came to an answer: no fault and no want of memory
abbrev pub IsAnswered : Status → Type 0
IsAnswered Sound = Unit {0}
IsAnswered Findings = Unit {0}
IsAnswered Usage = Unit {0}
IsAnswered Refused = Unit {0}
IsAnswered TooWide = Unit {0}
IsAnswered ReadFault = ⊥
IsAnswered WriteFault = ⊥
IsAnswered Memory = ⊥

-- a beginning of the text was written: where the sink has a known room, a proper one, as long as the room
abbrev pub AppendsPart : Option ℕ → Option (List ℕ) → Option (List ℕ) → List ℕ → Type 0
AppendsPart room old new text = AppendsPrefix old new text × ((n : ℕ) → room ≡ Some n → (n < length text) × Appends old new (take n text))

-- the line of a failed fetch, of one of these words
abbrev pub IsReadFaultOf : List (List ℕ) → List ℕ → Type 0
IsReadFaultOf [] text = ⊥
IsReadFaultOf (word ∷ words) text = (text ≡ read_fault_line word) ⊎ IsReadFaultOf words text

-- the line of a failed fetch, of a file that the words name
abbrev pub IsReadFaultLine : Option CommandWords → List ℕ → Type 0
IsReadFaultLine None text = ⊥
IsReadFaultLine (Some command) text = IsReadFaultOf (file_words command) text

-- more is held than the limit
abbrev pub IsTooLong : List ℕ → Type 0
IsTooLong bytes = limit < length bytes

-- each of these files is held, up to the first that is too long
abbrev pub AreHeldUpTo : Files → List (List ℕ) → Type 0
AreHeldUpTo files [] = Unit {0}
AreHeldUpTo files (word ∷ words) = IsSomeAnd (files word) (λ bytes. IsTooLong bytes ⊎ AreHeldUpTo files words)

-- one of these files is not held
abbrev pub LacksFile : Files → List (List ℕ) → Type 0
LacksFile files [] = ⊥
LacksFile files (word ∷ words) = (files word ≡ None) ⊎ LacksFile files words

-- the files that the words name are held, up to the first that is too long
abbrev pub HasFiles : Option CommandWords → Files → Type 0
HasFiles None files = Unit {0}
HasFiles (Some command) files = AreHeldUpTo files (file_words command)

-- the words are accepted, and no answer of them over these files is a refusal
pub record IsUnrefused (words : List (List ℕ)) (files : Files) : Type 0 where
  pub accepted : words_of words ≢ None
  pub sound : (answer : Answer) → IsAnswerOf words files answer → ¬ (answer.status ≡ Refused)

-- the bindings are judged
abbrev pub IsJudged : Status → Type 0
IsJudged status = (status ≡ Sound) ⊎ (status ≡ Findings) ⊎ (status ≡ TooWide)
