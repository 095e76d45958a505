-- What fetches leave of a shelf, one after another, and what is answered of them. The parameters `held`, `steady`, `faults` and `fetches` are the meanings of a shelf.
use Rattle.std.proofs.Common.{◌≡◌, ℕ, ◌+◌, ◌<◌, ◌≤◌, List, [], ◌∷◌, length, Bool, true, false, Option, Some, None, Result, Ok, Err, nat_lt, cond, refl, sym, ap, subst, ◌∙◌, inl, inr, arith, IfSome}
use Rattle.std.proofs.lemmas.Bool.Decides.{nat_tests}
use Rattle.std.specs.Option.{option_or}
use Rattle.std.specs.Prelude.{IsErrAnd, codes}
use Rattle.xc_io.specs.Faults.{Rose, next_count}
use Rattle.xc_io.specs.Shelf.{Files, IsLonger}
use Rattle.xc_top.specs.Answer.{IsCommandAnswer}
use Rattle.xc_top.specs.Answers.{refused, unread}
use Rattle.xc_top.specs.Steps.Stops.{IfNamed, IfStopped, IsEnding, IsSettled}
use Rattle.xc_top.specs.Documents.{limit, unfetched, unfetched_of, first_unfetched}
use Rattle.xc_top.specs.Run.{IsReadFaultOf, LacksFile}
use Rattle.xc_top.specs.Steps.Fetches.{Leaves, IsFailed, IsTold, IsUnfetched, IsOver}
use Rattle.xc_top.specs.Words.{CommandWords, file_words}
use Rattle.xc_top.specs.declared.status.Answer.{Answer}
use Rattle.xc_top.specs.declared.status.Status.TheVariants.{ReadFault}
use Rattle.xc_top.specs.declared.status.Stop.{Stop}
use Rattle.xc_top.specs.declared.status.Stop.TheVariants as stop
use Rattle.xc_top.proofs.Chain.{from_steps}
use Rattle.xc_top.proofs.Stops.{if_both, if_then}
use Rattle.xc_top.proofs.Told.{settled_ends}

next_within : (n : ℕ) → next_count n ≤ n + 1
next_within n = grind (arith, nat_tests)

-- one fetch was made
pub one_fetch : {S : Type 0} (held : S → Option Files) (steady : S → Bool) (faults fetches : S → ℕ) (old new : S)
    → held new ≡ held old → (steady old ≡ true → steady new ≡ true) → faults old ≤ faults new → fetches new ≡ next_count (fetches old)
    → Leaves held steady faults fetches old new 1
one_fetch held steady faults fetches old new same stays later counted = record {
  same = same;
  stays = stays;
  later = later;
  few = subst (λ n. n ≤ fetches old + 1) (sym counted) (next_within (fetches old));
}

-- none was
pub no_fetch : {S : Type 0} (held : S → Option Files) (steady : S → Bool) (faults fetches : S → ℕ) (shelf : S) → Leaves held steady faults fetches shelf shelf 0
no_fetch held steady faults fetches shelf = record { same = refl; stays = λ s. s; later = omega arith; few = omega arith }

-- some were made, and then some more, no more than so many in all
pub more_fetches : {S : Type 0} (held : S → Option Files) (steady : S → Bool) (faults fetches : S → ℕ) (old mid new : S) (first then all : ℕ)
    → first + then ≤ all → Leaves held steady faults fetches old mid first → Leaves held steady faults fetches mid new then → Leaves held steady faults fetches old new all
more_fetches held steady faults fetches old mid new first then all within one other = record {
  same = other.same ∙ one.same;
  stays = λ s. other.stays (one.stays s);
  later = omega arith;
  few = omega arith;
}

-- more are held than the limit
longer_is : (n : ℕ) → limit < n → nat_lt limit n ≡ true
longer_is n h = grind (arith, nat_tests)

short_is : (n : ℕ) → n ≤ limit → nat_lt limit n ≡ false
short_is n h = grind (arith, nat_tests)

too_long_of : (word : List ℕ) (held : Option (List ℕ)) → IsLonger held limit → unfetched_of word held ≡ Some (refused word (codes "xc:tooLong"))
too_long_of word None long = absurd long
too_long_of word (Some bytes) long = ap (λ b. cond b (Some (refused word (codes "xc:tooLong"))) None) (longer_is (length bytes) long)

-- what is held and within the limit is fetched
pub short_fetched : (files : Files) (word bytes : List ℕ) → files word ≡ Some bytes → length bytes ≤ limit → unfetched files word ≡ None
short_fetched files word bytes held short =
    ap (unfetched_of word) held ∙ ap (λ b. cond b (Some (refused word (codes "xc:tooLong"))) None) (short_is (length bytes) short)

first_of_one : (files : Files) (word : List ℕ) (answer : Answer) → unfetched files word ≡ Some answer → first_unfetched files (word ∷ []) ≡ Some answer
first_of_one files word answer e = ap (λ o. option_or o None) e

-- a fetch that found too much is a refusal
pub too_long : {S : Type 0} (held : S → Option Files) (steady : S → Bool) (faults : S → ℕ) (old new : S) (word : List ℕ) (stop : Stop)
    → faults new ≡ faults old → IfSome (held old) (λ files. IsLonger (files word) limit)
    → IfNamed stop (λ a. a ≡ refused word (codes "xc:tooLong")) → IfNamed stop (λ a. IsSettled a.status)
    → IfNamed stop (λ a. IsUnfetched held steady faults old new (word ∷ []) a)
too_long held steady faults old new word stop.Memory worked long is settled = tt
too_long held steady faults old new word (stop.Named a) worked long is settled = inr (record {
  ended = settled;
  worked = worked;
  told = if_then (held old) (λ files longer. first_of_one files word a (too_long_of word (files word) longer ∙ ap (λ x. Some x) (sym is))) long;
})

-- a fetch that failed is a read fault
pub failed : {S : Type 0} (held : S → Option Files) (steady : S → Bool) (faults : S → ℕ) (old new : S) (word : List ℕ) (stop : Stop)
    → Rose (faults old) (faults new) → (steady old ≡ true → IfSome (held old) (λ files. files word ≡ None))
    → IfNamed stop (λ a. a ≡ unread word)
    → IfNamed stop (λ a. IsUnfetched held steady faults old new (word ∷ []) a)
failed held steady faults old new word stop.Memory rose missing is = tt
failed held steady faults old new word (stop.Named a) rose missing is = inl (record {
  ended = ap (λ x. x.status) is;
  rose = rose;
  line = inl (ap (λ x. x.text) is);
  missing = λ s. if_then (held old) (λ files none. first_of_one files word a (ap (unfetched_of word) none ∙ ap (λ x. Some x) (sym is))) (missing s);
})

line_of_first : (word : List ℕ) (words : List (List ℕ)) (text : List ℕ) → IsReadFaultOf (word ∷ []) text → IsReadFaultOf (word ∷ words) text
line_of_first word words text (inl e) = inl e
line_of_first word words text (inr none) = absurd none

first_in : (files : Files) (word : List ℕ) (words : List (List ℕ)) (answer : Answer) → first_unfetched files (word ∷ []) ≡ Some answer → first_unfetched files (word ∷ words) ≡ Some answer
first_in files word words answer e = by (unfetched files word) e
  where
    by : (o : Option Answer) → option_or o None ≡ Some answer → option_or o (first_unfetched files words) ≡ Some answer
    by None e = absurd (cc)
    by (Some a) e = e

-- the first of some words is not fetched
pub first_unread : {S : Type 0} (held : S → Option Files) (steady : S → Bool) (faults : S → ℕ) (old new : S) (word : List ℕ) (words : List (List ℕ)) (answer : Answer)
    → IsUnfetched held steady faults old new (word ∷ []) answer → IsUnfetched held steady faults old new (word ∷ words) answer
first_unread held steady faults old new word words answer (inl is) = inl (record {
  ended = is.ended;
  rose = is.rose;
  line = line_of_first word words answer.text is.line;
  missing = λ s. if_then (held old) (λ files e. first_in files word words answer e) (is.missing s);
})
first_unread held steady faults old new word words answer (inr is) = inr (record {
  ended = is.ended;
  worked = is.worked;
  told = if_then (held old) (λ files e. first_in files word words answer e) is.told;
})

-- some words were fetched without a fault, and of those that are left one is not
pub later_unread : {S : Type 0} (held : S → Option Files) (steady : S → Bool) (faults : S → ℕ) (old mid new : S) (words left : List (List ℕ)) (answer : Answer)
    → held mid ≡ held old → (steady old ≡ true → steady mid ≡ true) → faults mid ≡ faults old
    → ((text : List ℕ) → IsReadFaultOf left text → IsReadFaultOf words text)
    → IfSome (held old) (λ files. first_unfetched files left ≡ first_unfetched files words)
    → IsUnfetched held steady faults mid new left answer → IsUnfetched held steady faults old new words answer
later_unread held steady faults old mid new words left answer same stays worked line first (inl is) = inl (record {
  ended = is.ended;
  rose = subst (λ n. Rose n (faults new)) worked is.rose;
  line = line answer.text is.line;
  missing = λ s. if_both (held old) (λ files all e. sym all ∙ e) first (subst (λ o. IfSome o (λ files. first_unfetched files left ≡ Some answer)) same (is.missing (stays s)));
})
later_unread held steady faults old mid new words left answer same stays worked line first (inr is) = inr (record {
  ended = is.ended;
  worked = is.worked ∙ worked;
  told = if_both (held old) (λ files all e. sym all ∙ e) first (subst (λ o. IfSome o (λ files. first_unfetched files left ≡ Some answer)) same is.told);
})

-- a command of which a file cannot be fetched is over
pub unread_over : {S : Type 0} (held : S → Option Files) (steady : S → Bool) (faults : S → ℕ) (old new : S) (command : CommandWords) (answer : Answer)
    → IsUnfetched held steady faults old new (file_words command) answer → IsOver held steady faults old new command answer
unread_over held steady faults old new command answer (inl is) = inl is
unread_over held steady faults old new command answer (inr is) = inr (record { ended = is.ended; worked = is.worked; told = if_then (held old) (λ files e. inl e) is.told })

-- where the first of the files that are left is not held, one of them is not
lacks_one : (files : Files) (word : List ℕ) (words : List (List ℕ)) (answer : Answer) → answer.status ≡ ReadFault
    → (first_unfetched files words ≡ Some answer → LacksFile files words)
    → (held : Option (List ℕ)) → files word ≡ held → option_or (unfetched_of word held) (first_unfetched files words) ≡ Some answer → LacksFile files (word ∷ words)
lacks_one files word words answer ended further None is e = inl is
lacks_one files word words answer ended further (Some bytes) is e = by (nat_lt limit (length bytes)) e
  where
    by : (b : Bool) → option_or (cond b (Some (refused word (codes "xc:tooLong"))) None) (first_unfetched files words) ≡ Some answer → LacksFile files (word ∷ words)
    by true e = let same : (refused word (codes "xc:tooLong")).status ≡ answer.status = ap (λ a. a.status) (the_one e) in absurd (two (same ∙ ended))
      where
        the_one : Some (refused word (codes "xc:tooLong")) ≡ Some answer → refused word (codes "xc:tooLong") ≡ answer
        the_one e = cc

        two : (refused word (codes "xc:tooLong")).status ≡ ReadFault → ⊥
        two e = cc
    by false e = inr (further e)

pub lacks_file : (files : Files) (words : List (List ℕ)) (answer : Answer) → answer.status ≡ ReadFault → first_unfetched files words ≡ Some answer → LacksFile files words
lacks_file files [] answer ended e = absurd (cc)
lacks_file files (word ∷ words) answer ended e = lacks_one files word words answer ended (lacks_file files words answer ended) (files word) refl e

-- a command whose status is a read fault is over by one
pub over_failed : {S : Type 0} (held : S → Option Files) (steady : S → Bool) (faults : S → ℕ) (old new : S) (command : CommandWords) (answer : Answer)
    → IsOver held steady faults old new command answer → answer.status ≡ ReadFault → IsFailed held steady faults old new (file_words command) answer
over_failed held steady faults old new command answer (inl is) ended = is
over_failed held steady faults old new command answer (inr is) ended = absurd (subst (λ s. IsSettled s) ended is.ended)

-- any other is told
pub over_told : {S : Type 0} (held : S → Option Files) (steady : S → Bool) (faults : S → ℕ) (old new : S) (command : CommandWords) (answer : Answer)
    → IsOver held steady faults old new command answer → ¬ (answer.status ≡ ReadFault) → IsTold held faults old new answer (λ files. IsCommandAnswer command files answer)
over_told held steady faults old new command answer (inl is) other = absurd (other is.ended)
over_told held steady faults old new command answer (inr is) other =
    record { ended = is.ended; worked = is.worked; told = if_then (held old) (λ files step. from_steps command files answer step) is.told }

-- it ends a run
pub over_ends : {S : Type 0} (held : S → Option Files) (steady : S → Bool) (faults : S → ℕ) (old new : S) (command : CommandWords) (answer : Answer)
    → IsOver held steady faults old new command answer → IsEnding answer.status
over_ends held steady faults old new command answer (inl is) = subst (λ s. IsEnding s) (sym is.ended) tt
over_ends held steady faults old new command answer (inr is) = settled_ends answer.status is.ended

-- a stop that is handed on
pub stop_through : {X : Type 0} (P : Answer → Type 0) (r : Result X Stop) (stop : Stop) → IsErrAnd r (λ e. e ≡ stop) → IfNamed stop P → IfStopped r P
stop_through P (Ok x) stop h p = absurd h
stop_through P (Err e) stop h p = subst (λ s. IfNamed s P) (sym h) p

-- of the words that are left the first cannot be fetched
pub left_unread : {S : Type 0} (held : S → Option Files) (steady : S → Bool) (faults fetches : S → ℕ) (old mid new : S) (count : ℕ) (words left : List (List ℕ)) (word : List ℕ) (after : List (List ℕ)) (stop : Stop)
    → left ≡ word ∷ after
    → Leaves held steady faults fetches old mid count → faults mid ≡ faults old
    → ((text : List ℕ) → IsReadFaultOf left text → IsReadFaultOf words text)
    → IfSome (held old) (λ files. first_unfetched files left ≡ first_unfetched files words)
    → IfNamed stop (λ a. IsUnfetched held steady faults mid new (word ∷ []) a)
    → IfNamed stop (λ a. IsUnfetched held steady faults old new words a)
left_unread held steady faults fetches old mid new count words left word after stop.Memory e leaves worked line first is = tt
left_unread held steady faults fetches old mid new count words left word after (stop.Named a) e leaves worked line first is =
    later_unread held steady faults old mid new words left a leaves.same leaves.stays worked line first
    (subst (λ ws. IsUnfetched held steady faults mid new ws a) (sym e) (first_unread held steady faults mid new word after a is))
