-- What a sequence takes is decided by the characters that it takes.
use Rattle.std.proofs.Common.{◌≡◌, ℕ, zero, suc, ◌+◌, ◌<◌, ◌≤◌, Bool, true, false, cond, List, [], ◌∷◌, ◌++◌, length, Option, Some, None, refl, sym, ap, ◌∙◌, append_assoc, arith}
use Rattle.std.specs.Prelude.{option_map}
use Rattle.std.proofs.lemmas.List.{length-append}
use Rattle.xc_elements.specs.Fronts.{Front, go_on, followed_by, give, refuse, one, by_next, past, Turn, More, Last, sequence_within, sequence}
use Rattle.xc_elements.proofs.FrontLaws.{found, same_answer, same_behind, split, mapped, Peeked, Freed, Ended, Peeks, Ends, peeks_from_ends, peeks_then_peeks, ends_shorter, one_ends, give_frees}

-- what a turn takes: a character at least, and the last turn ends
pub record Turns {A B : Type 0} (turn : Front (Turn A B)) : Type 0 where
  pub some : (text : List ℕ) (a : A) (rest : List ℕ) → turn text ≡ Some (More a, rest) → length rest < length text
  pub more : (text : List ℕ) (a : A) (rest : List ℕ) → turn text ≡ Some (More a, rest) → Peeked turn text (More a) rest
  pub last : (text : List ℕ) (b : B) (rest : List ℕ) → turn text ≡ Some (Last b, rest) → Ended turn text (Last b) rest

pub turns_from_ends : {A B : Type 0} {turn : Front (Turn A B)} → Ends turn → Turns turn
turns_from_ends {turn = turn} h = record {
  some = λ text a rest e. ends_shorter turn text (More a) rest h e;
  more = λ text a rest e. (peeks_from_ends h).taken text (More a) rest e;
  last = λ text b rest e. h.taken text (Last b) rest e;
}

abbrev pub with_first : {A B : Type 0} → A → (List A × B) × List ℕ → (List A × B) × List ℕ
with_first a x = ((a ∷ x.0.0, x.0.1), x.1)

pub repeated_last : {A B : Type 0} (turn : Front (Turn A B)) (n : ℕ) (text : List ℕ) (b : B) (rest : List ℕ) → turn text ≡ Some (Last b, rest) → sequence_within turn (suc n) text ≡ Some (([], b), rest)
unfolding sequence_within followed_by give
repeated_last turn n text b rest e = rw e refl

first_and_others : {A B : Type 0} (a : A) (o : Option ((List A × B) × List ℕ)) → go_on o (λ x. give (a ∷ x.0, x.1)) ≡ option_map (with_first a) o
unfolding give
first_and_others a None = refl
first_and_others a (Some x) = refl

pub repeated_more : {A B : Type 0} (turn : Front (Turn A B)) (n : ℕ) (text : List ℕ) (a : A) (rest : List ℕ) → turn text ≡ Some (More a, rest) → sequence_within turn (suc n) text ≡ option_map (with_first a) (sequence_within turn n rest)
unfolding sequence_within followed_by give
repeated_more turn n text a rest e = rw e (first_and_others a (sequence_within turn n rest))

pub repeated_none : {A B : Type 0} (turn : Front (Turn A B)) (n : ℕ) (text : List ℕ) → turn text ≡ None → sequence_within turn n text ≡ None
unfolding sequence_within followed_by refuse
repeated_none turn zero text e = refl
repeated_none turn (suc n) text e = rw e refl

-- what a sequence took of a text: it takes the same with any count that has one for each character
pub record Repeated {A B : Type 0} (turn : Front (Turn A B)) (text : List ℕ) (x : List A × B) (rest : List ℕ) : Type 0 where
  pub piece : List ℕ
  pub some : 0 < length piece
  pub whole : text ≡ piece ++ rest
  pub again : (n : ℕ) (more : List ℕ) → length piece ≤ n → sequence_within turn n (piece ++ more) ≡ Some (x, more)

module _ {A B : Type 0} (turn : Front (Turn A B)) (turns : Turns turn) where
  last_taken : (text : List ℕ) (b : B) (after : List ℕ) (x : List A × B) (rest : List ℕ) → turn text ≡ Some (Last b, after) → found ([], b) after ≡ Some (x, rest) → Repeated turn text x rest
  last_taken text b after x rest is e =
      let t = turns.last text b after is in
      let same = same_answer ([], b) x after rest e in
      record {
        piece = t.piece;
        some = t.some;
        whole = t.whole ∙ ap (λ (r : List ℕ). t.piece ++ r) same.1;
        again = λ n more le. at_count t.piece t.some n more le (t.again more) ∙ ap (λ (y : List A × B). Some (y, more)) same.0;
      }
    where
      at_count : (piece : List ℕ) → 0 < length piece → (n : ℕ) (more : List ℕ) → length piece ≤ n → turn (piece ++ more) ≡ Some (Last b, more) → sequence_within turn n (piece ++ more) ≡ Some (([], b), more)
      at_count piece some zero more le f = absurd (omega arith)
      at_count piece some (suc n) more le f = repeated_last turn n (piece ++ more) b more f

  more_again : (n : ℕ) (a : A) (front piece more : List ℕ) (y : List A × B) → length front + length piece ≤ n → 0 < length front → turn (front ++ (piece ++ more)) ≡ Some (More a, piece ++ more) → ((m : ℕ) → length piece ≤ m → sequence_within turn m (piece ++ more) ≡ Some (y, more)) → sequence_within turn n (front ++ (piece ++ more)) ≡ Some ((a ∷ y.0, y.1), more)
  more_again zero a front piece more y le some is others = absurd (omega arith)
  more_again (suc n) a front piece more y le some is others =
      repeated_more turn n (front ++ (piece ++ more)) a (piece ++ more) is ∙ rw (others n (omega arith)) refl

  more_taken : (n : ℕ) → ((text : List ℕ) (x : List A × B) (rest : List ℕ) → sequence_within turn n text ≡ Some (x, rest) → Repeated turn text x rest) → (text : List ℕ) (a : A) (after : List ℕ) (x : List A × B) (rest : List ℕ) → turn text ≡ Some (More a, after) → option_map (with_first a) (sequence_within turn n after) ≡ Some (x, rest) → Repeated turn text x rest
  more_taken n earlier text a after x rest is e =
      let m = mapped (with_first a) (sequence_within turn n after) (x, rest) e in
      let y = m.0 in
      let front = turns.more text a after is in
      let t = earlier after y.0 y.1 m.1 in
      let shorter = turns.some text a after is in
      let lens : length text ≡ length front.piece + length after = ap length front.whole ∙ length-append front.piece after in
      let front_some : 0 < length front.piece = omega (arith, shorter, lens) in
      record {
        piece = front.piece ++ t.piece;
        some = omega (arith, length-append front.piece t.piece, t.some);
        whole = front.whole ∙ ap (λ (r : List ℕ). front.piece ++ r) (t.whole ∙ ap (λ (z : (List A × B) × List ℕ). t.piece ++ z.1) m.2) ∙ sym (append_assoc front.piece t.piece rest);
        again = λ count more le. rw (append_assoc front.piece t.piece more)
            (more_again count a front.piece t.piece more y.0 (omega (arith, length-append front.piece t.piece, le)) front_some (front.again (t.piece ++ more) (same_behind t.piece y.1 more after t.whole t.some)) (λ k small. t.again k more small)
            ∙ ap (λ (z : (List A × B) × List ℕ). Some (z.0, more)) m.2);
      }

  turn_taken : (n : ℕ) → ((text : List ℕ) (x : List A × B) (rest : List ℕ) → sequence_within turn n text ≡ Some (x, rest) → Repeated turn text x rest) → (text : List ℕ) (t : Turn A B) (after : List ℕ) (x : List A × B) (rest : List ℕ) → turn text ≡ Some (t, after) → sequence_within turn (suc n) text ≡ Some (x, rest) → Repeated turn text x rest
  turn_taken n earlier text (Last b) after x rest is e = last_taken text b after x rest is (sym (repeated_last turn n text b after is) ∙ e)
  turn_taken n earlier text (More a) after x rest is e = more_taken n earlier text a after x rest is (sym (repeated_more turn n text a after is) ∙ e)

  answer_taken : (n : ℕ) → ((text : List ℕ) (x : List A × B) (rest : List ℕ) → sequence_within turn n text ≡ Some (x, rest) → Repeated turn text x rest) → (text : List ℕ) (o : Option (Turn A B × List ℕ)) (x : List A × B) (rest : List ℕ) → turn text ≡ o → sequence_within turn (suc n) text ≡ Some (x, rest) → Repeated turn text x rest
  answer_taken n earlier text None x rest is e = absurd (let no = repeated_none turn (suc n) text is in cc)
  answer_taken n earlier text (Some y) x rest is e = turn_taken n earlier text y.0 y.1 x rest is e

  pub repeated_taken : (n : ℕ) (text : List ℕ) (x : List A × B) (rest : List ℕ) → sequence_within turn n text ≡ Some (x, rest) → Repeated turn text x rest
  unfolding sequence_within refuse
  repeated_taken zero text x rest e = absurd cc
  repeated_taken (suc n) text x rest e = answer_taken n (repeated_taken n) text (turn text) x rest refl e

  pub sequence_ends : Ends (sequence turn)
  unfolding sequence
  sequence_ends = record {
    taken = λ text x rest e.
        let t = repeated_taken (length text) text x rest e in
        record { piece = t.piece; some = t.some; whole = t.whole; again = λ more. t.again (length (t.piece ++ more)) more (omega (arith, length-append t.piece more)) };
  }

-- ---- turns of which the last is known by its first character

-- no turn of these is the last
pub record GoesOn {A B : Type 0} (turn : Front (Turn A B)) : Type 0 where
  pub never : (text : List ℕ) (b : B) (rest : List ℕ) → turn text ≡ Some (Last b, rest) → ⊥

more_is_not_last : {A B : Type 0} (a : A) (b : B) (s t : List ℕ) → found (More a) s ≡ found (Last b) t → ⊥
more_is_not_last a b s t e = let same = same_answer (More a) (Last b) s t e in let no = same.0 in absurd cc

pub give_goes_on : {A B : Type 0} (a : A) → GoesOn (give {A = Turn A B} (More a))
unfolding give
give_goes_on a = record { never = λ text b rest e. more_is_not_last a b text rest e }

pub refuse_goes_on : {A B : Type 0} → GoesOn (refuse {A = Turn A B})
unfolding refuse
refuse_goes_on = record { never = λ text b rest e. absurd cc }

pub then_goes_on : {A B C : Type 0} (p : Front C) {q : C → Front (Turn A B)} → ((c : C) → GoesOn (q c)) → GoesOn (followed_by p q)
unfolding followed_by
then_goes_on p {q = q} h = record { never = λ text b rest e. let s = split (p text) q (Last b, rest) e in (h s.0.0).never s.0.1 b rest s.2 }

pub if_goes_on : {A B : Type 0} (b : Bool) {p q : Front (Turn A B)} → GoesOn p → GoesOn q → GoesOn (cond b p q)
if_goes_on true hp hq = hp
if_goes_on false hp hq = hq

pub past_goes_on : {A B : Type 0} {q : Front (Turn A B)} → GoesOn q → GoesOn (past q)
past_goes_on h = then_goes_on one (λ _. h)

by_next_never : {A B : Type 0} (q : ℕ → Front (Turn A B)) → ((c : ℕ) → GoesOn (q c)) → (text : List ℕ) (b : B) (rest : List ℕ) → by_next q text ≡ Some (Last b, rest) → ⊥
unfolding by_next one
by_next_never q h [] b rest e = absurd cc
by_next_never q h (c ∷ cs) b rest e = (h c).never (c ∷ cs) b rest e

pub by_next_goes_on : {A B : Type 0} {q : ℕ → Front (Turn A B)} → ((c : ℕ) → GoesOn (q c)) → GoesOn (by_next q)
by_next_goes_on {q = q} h = record { never = by_next_never q h }

-- where the last turn is given at once, it does not depend on what follows
pub last_freed : {A B : Type 0} (b : Bool) (last : B) {q : Front (Turn A B)} → GoesOn q → (text : List ℕ) (x : B) (rest : List ℕ) → cond b (give (Last last)) q text ≡ Some (Last x, rest) → Freed (cond b (give (Last last)) q) text (Last x) rest
last_freed true last h text x rest e = (give_frees (Last last)).taken text (Last x) rest e
last_freed false last h text x rest e = absurd (h.never text x rest e)

-- turns that one character begins, which alone decides whether it is the last
pub turns_from_one : {A B : Type 0} (q : ℕ → Front (Turn A B)) → ((c : ℕ) → Peeks (q c)) → ((c : ℕ) (text : List ℕ) (b : B) (rest : List ℕ) → q c text ≡ Some (Last b, rest) → Freed (q c) text (Last b) rest) → Turns (followed_by one q)
unfolding followed_by
turns_from_one q peeks lasts = record {
  some = λ text a rest e.
      let s = split (one text) q (More a, rest) e in
      let front = one_ends.taken text s.0.0 s.0.1 s.1 in
      let t = (peeks s.0.0).taken s.0.1 (More a) rest s.2 in
      let lens = ap length front.whole ∙ length-append front.piece s.0.1 in
      let others = ap length t.whole ∙ length-append t.piece rest in
      omega (arith, front.some, lens, others);
  more = λ text a rest e. (peeks_then_peeks (peeks_from_ends one_ends) peeks).taken text (More a) rest e;
  last = λ text b rest e.
      let s = split (one text) q (Last b, rest) e in
      let front = one_ends.taken text s.0.0 s.0.1 s.1 in
      let t = lasts s.0.0 s.0.1 b rest s.2 in
      record {
        piece = front.piece ++ t.piece;
        some = omega (arith, length-append front.piece t.piece, front.some);
        whole = front.whole ∙ ap (λ (r : List ℕ). front.piece ++ r) t.whole ∙ sym (append_assoc front.piece t.piece rest);
        again = λ more. rw (append_assoc front.piece t.piece more, front.again (t.piece ++ more)) (t.again more);
      };
}
