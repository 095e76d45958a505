-- How a run ended: steps from what its parts say.
use Rattle.std.proofs.Common.{◌≡◌, ◌⊎◌, ◌<◌, ◌≤◌, ◌+◌, ℕ, List, [], ◌∷◌, length, Bool, true, false, Option, Some, None, nat_lt, refl, sym, ap, subst, inl, inr, cond, arith}
use Rattle.std.specs.Prelude.{IsSomeAnd, codes}
use Rattle.std.proofs.lemmas.Bool.Decides.{nat_tests}
use Rattle.std.specs.Option.{option_or}
use Rattle.xc_io.specs.Shelf.{Files}
use Rattle.xc_lines.specs.Lines.{usage_line}
use Rattle.xc_top.specs.Answer.{IsAnswer, IsCommandAnswer}
use Rattle.xc_top.specs.Answers.{make_answer, unread, refused}
use Rattle.xc_top.specs.Documents.{limit, unfetched_of, first_unfetched}
use Rattle.xc_top.specs.Run.{IsAnswered, IsReadFaultOf, IsReadFaultLine, IsTooLong, AreHeldUpTo, HasFiles, IsUnrefused, IsJudged, LacksFile}
use Rattle.xc_top.specs.Steps.Stops.{IsEnding}
use Rattle.xc_top.proofs.Leaving.{lacks_file}
use Rattle.xc_top.specs.Words.{CommandWords, file_words, files_named, words_of}
use Rattle.xc_top.specs.declared.status.Answer.{Answer}
use Rattle.xc_top.specs.declared.status.Status.{Status}
use Rattle.xc_top.specs.declared.status.Status.TheVariants.{Sound, Findings, Usage, Refused, TooWide, ReadFault, WriteFault, Memory}

pub usage_answer : (words : Option CommandWords) (files : Files) → None ≡ words → IsAnswer words files (make_answer Usage usage_line)
usage_answer words files e = subst (λ w. IsAnswer w files (make_answer Usage usage_line)) e refl

pub command_answer : (words : Option CommandWords) (command : CommandWords) (files : Files) (answer : Answer) → Some command ≡ words → IsCommandAnswer command files answer → IsAnswer words files answer
command_answer words command files answer e h = subst (λ w. IsAnswer w files answer) e h

pub fault_line : (words : Option CommandWords) (command : CommandWords) (text : List ℕ) → Some command ≡ words → IsReadFaultOf (file_words command) text → IsReadFaultLine words text
fault_line words command text e h = subst (λ w. IsReadFaultLine w text) e h

-- words that are not accepted name no files
pub usage_files : (words : Option CommandWords) (files : Files) → None ≡ words → HasFiles words files
usage_files words files e = subst (λ w. HasFiles w files) e tt

more : (n : ℕ) → nat_lt limit n ≡ true → limit < n
more n h = grind (arith, nat_tests)

-- a word that is fetched or too long is held
held_one : (word : List ℕ) (held : Option (List ℕ)) (rest : Option Answer) (answer : Answer) (Left : Type 0)
    → (option_or (unfetched_of word held) rest ≡ Some answer) ⊎ (option_or (unfetched_of word held) rest ≡ None)
    → ¬ (answer.status ≡ ReadFault) → ((rest ≡ Some answer) ⊎ (rest ≡ None) → Left)
    → IsSomeAnd held (λ bytes. IsTooLong bytes ⊎ Left)
held_one word None rest answer Left (inl e) read further = absurd (read (status_of e))
  where
    status_of : Some (unread word) ≡ Some answer → answer.status ≡ ReadFault
    status_of e = let same : unread word ≡ answer = cc in sym (ap (λ a. a.status) same)
held_one word None rest answer Left (inr e) read further = absurd (cc)
held_one word (Some bytes) rest answer Left is read further = by (nat_lt limit (length bytes)) refl is
  where
    by : (b : Bool) → nat_lt limit (length bytes) ≡ b
        → (option_or (cond b (Some (refused word (codes "xc:tooLong"))) None) rest ≡ Some answer) ⊎ (option_or (cond b (Some (refused word (codes "xc:tooLong"))) None) rest ≡ None)
        → IsTooLong bytes ⊎ Left
    by true long is = inl (more (length bytes) long)
    by false short is = inr (further is)

pub held_all : (files : Files) (words : List (List ℕ)) (answer : Answer) → (first_unfetched files words ≡ Some answer) ⊎ (first_unfetched files words ≡ None) → ¬ (answer.status ≡ ReadFault) → AreHeldUpTo files words
held_all files [] answer is read = tt
held_all files (word ∷ words) answer is read = held_one word (files word) (first_unfetched files words) answer (AreHeldUpTo files words) is read (λ rest. held_all files words answer rest read)

-- where a command is answered, its files are held up to one that is too long
pub command_held : (words : Option CommandWords) (command : CommandWords) (files : Files) (answer : Answer) → Some command ≡ words → IsCommandAnswer command files answer → ¬ (answer.status ≡ ReadFault) → HasFiles words files
command_held words command files answer e (inl first) read = subst (λ w. HasFiles w files) e (held_all files (file_words command) answer (inl first) read)
command_held words command files answer e (inr answered) read = subst (λ w. HasFiles w files) e (held_all files (file_words command) answer (inr answered.fetched) read)

-- no more fetches than the command has files
pub few_fetches : (words : Option CommandWords) (command : CommandWords) (before now : ℕ) → Some command ≡ words → now ≤ before + length (file_words command) → now ≤ before + length (files_named words)
few_fetches words command before now e few = subst (λ w. now ≤ before + length (files_named w)) e few

-- where the first file that is not fetched is a read fault, one is not held
pub lacking : (words : Option CommandWords) (command : CommandWords) (files : Files) (answer : Answer) → Some command ≡ words → answer.status ≡ ReadFault → first_unfetched files (file_words command) ≡ Some answer → LacksFile files (files_named words)
lacking words command files answer e ended first = subst (λ w. LacksFile files (files_named w)) e (lacks_file files (file_words command) answer ended first)

-- words that are not accepted are not answered by verdicts
pub usage_unjudged : {A : Type 0} (words : List (List ℕ)) (files : Files) → None ≡ words_of words → IsUnrefused words files → A
usage_unjudged words files e sound = absurd (sound.accepted (sym e))

-- an ending that is neither a refusal nor a fault is a judgement
pub judged : (s : Status) → IsEnding s → ¬ (s ≡ ReadFault) → ¬ (s ≡ Refused) → IsJudged s
judged Sound ends read refused = inl refl
judged Findings ends read refused = inr (inl refl)
judged Usage ends read refused = absurd ends
judged Refused ends read refused = absurd (refused refl)
judged TooWide ends read refused = inr (inr refl)
judged ReadFault ends read refused = absurd (read refl)
judged WriteFault ends read refused = absurd ends
judged Memory ends read refused = absurd ends

-- a status is a read fault or none
pub read_fault_or_none : (s : Status) → (s ≡ ReadFault) ⊎ (¬ (s ≡ ReadFault))
read_fault_or_none Sound = inr (λ e. cc)
read_fault_or_none Findings = inr (λ e. cc)
read_fault_or_none Usage = inr (λ e. cc)
read_fault_or_none Refused = inr (λ e. cc)
read_fault_or_none TooWide = inr (λ e. cc)
read_fault_or_none ReadFault = inl refl
read_fault_or_none WriteFault = inr (λ e. cc)
read_fault_or_none Memory = inr (λ e. cc)

pub no_read_fault : (s : Status) → IsAnswered s → ¬ (s ≡ ReadFault)
no_read_fault s answered e = subst (λ t. IsAnswered t) e answered

pub no_write_fault : (s : Status) → IsAnswered s → ¬ (s ≡ WriteFault)
no_write_fault s answered e = subst (λ t. IsAnswered t) e answered

-- the answer with its status under another name
pub same_answer : (words : Option CommandWords) (files : Files) (s : Status) (answer : Answer) → s ≡ answer.status → IsAnswer words files answer → IsAnswer words files (make_answer s answer.text)
same_answer words files s answer e is = subst (λ t. IsAnswer words files (make_answer t answer.text)) (sym e) is

-- the two faults are two
pub read_or_write : ReadFault ≡ WriteFault → ⊥
read_or_write e = cc
