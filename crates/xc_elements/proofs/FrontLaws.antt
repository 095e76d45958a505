-- What a front takes is decided by the characters that it takes, or by these and the one behind them.
use Rattle.std.proofs.Common.{◌≡◌, ℕ, ◌<◌, ◌≤◌, Bool, true, false, cond, List, [], ◌∷◌, ◌++◌, length, Option, Some, None, refl, sym, ap, ◌∙◌, append_assoc, arith, ◌⊎◌, inl, inr, eq-eqb}
use Rattle.std.specs.Prelude.{option_map, is_some, ◌==◌}
use Rattle.std.proofs.lemmas.List.{length-append}
use Rattle.std.proofs.lemmas.Bool.{eqb-true}
use Rattle.xc_chars.specs.Characters.{is_character}
use Rattle.xc_elements.specs.Fronts.{Front, go_on, followed_by, give, give_some, refuse, one, by_next, past, exactly, put_before, run, up_to}

-- both are empty, or both begin with one character
abbrev pub SameHead : List ℕ → List ℕ → Type 0
SameHead [] [] = Unit {0}
SameHead [] (d ∷ ds) = ⊥
SameHead (c ∷ cs) [] = ⊥
SameHead (c ∷ cs) (d ∷ ds) = c ≡ d

-- what p took of the text: it takes the same where the text goes on otherwise, but with the same character
pub record Peeked {A : Type 0} (p : Front A) (text : List ℕ) (a : A) (rest : List ℕ) : Type 0 where
  pub piece : List ℕ
  pub whole : text ≡ piece ++ rest
  pub again : (more : List ℕ) → SameHead rest more → p (piece ++ more) ≡ Some (a, more)

-- the same, however the text goes on
pub record Freed {A : Type 0} (p : Front A) (text : List ℕ) (a : A) (rest : List ℕ) : Type 0 where
  pub piece : List ℕ
  pub whole : text ≡ piece ++ rest
  pub again : (more : List ℕ) → p (piece ++ more) ≡ Some (a, more)

-- the same, and it took a character at least
pub record Ended {A : Type 0} (p : Front A) (text : List ℕ) (a : A) (rest : List ℕ) : Type 0 where
  pub piece : List ℕ
  pub some : 0 < length piece
  pub whole : text ≡ piece ++ rest
  pub again : (more : List ℕ) → p (piece ++ more) ≡ Some (a, more)

pub record Peeks {A : Type 0} (p : Front A) : Type 0 where
  pub taken : (text : List ℕ) (a : A) (rest : List ℕ) → p text ≡ Some (a, rest) → Peeked p text a rest

pub record Frees {A : Type 0} (p : Front A) : Type 0 where
  pub taken : (text : List ℕ) (a : A) (rest : List ℕ) → p text ≡ Some (a, rest) → Freed p text a rest

pub record Ends {A : Type 0} (p : Front A) : Type 0 where
  pub taken : (text : List ℕ) (a : A) (rest : List ℕ) → p text ≡ Some (a, rest) → Ended p text a rest

-- ---- from one to another

pub peeks_from_frees : {A : Type 0} {p : Front A} → Frees p → Peeks p
peeks_from_frees h = record { taken = λ text a rest e. let t = h.taken text a rest e in record { piece = t.piece; whole = t.whole; again = λ more same. t.again more } }

pub frees_from_ends : {A : Type 0} {p : Front A} → Ends p → Frees p
frees_from_ends h = record { taken = λ text a rest e. let t = h.taken text a rest e in record { piece = t.piece; whole = t.whole; again = t.again } }

pub peeks_from_ends : {A : Type 0} {p : Front A} → Ends p → Peeks p
peeks_from_ends h = peeks_from_frees (frees_from_ends h)

-- a front that ends leaves less
pub ends_shorter : {A : Type 0} (p : Front A) (text : List ℕ) (a : A) (rest : List ℕ) → Ends p → p text ≡ Some (a, rest) → length rest < length text
ends_shorter p text a rest h e = let t = h.taken text a rest e in rw t.whole (omega (arith, length-append t.piece rest, t.some))

-- ---- one behind another

abbrev pub found : {A : Type 0} → A → List ℕ → Option (A × List ℕ)
found a rest = Some (a, rest)

-- what stands in two equal answers is equal
pub same_answer : {A : Type 0} (a b : A) (s t : List ℕ) → found a s ≡ found b t → (a ≡ b) × (s ≡ t)
same_answer {A = A} a b s t e =
    let one_side : A × List ℕ = (a, s) in
    let other_side : A × List ℕ = (b, t) in
    let both : one_side ≡ other_side = cc in
    (ap (λ (x : A × List ℕ). x.0) both, ap (λ (x : A × List ℕ). x.1) both)

pub split : {A B : Type 0} (o : Option (A × List ℕ)) (q : A → Front B) (y : B × List ℕ) → go_on o q ≡ Some y → (x : A × List ℕ) × (o ≡ Some x) × (q x.0 x.1 ≡ Some y)
split None q y e = absurd cc
split (Some x) q y e = (x, refl, e)

pub going_on : {A B : Type 0} (o : Option (A × List ℕ)) (q : A → Front B) (a : A) (rest : List ℕ) → o ≡ Some (a, rest) → go_on o q ≡ q a rest
going_on o q a rest e = rw e refl

same_through : (piece rest more head : List ℕ) → head ≡ piece ++ rest → SameHead rest more → SameHead head (piece ++ more)
same_through [] rest more head e h = rw e h
same_through (c ∷ cs) rest more head e h = rw e refl

pub peeks_then_peeks : {A B : Type 0} {p : Front A} {q : A → Front B} → Peeks p → ((a : A) → Peeks (q a)) → Peeks (followed_by p q)
unfolding followed_by
peeks_then_peeks {p = p} {q = q} hp hq = record {
  taken = λ text b rest e.
      let s = split (p text) q (b, rest) e in
      let x = s.0 in
      let t = hp.taken text x.0 x.1 s.1 in
      let u = (hq x.0).taken x.1 b rest s.2 in
      record {
        piece = t.piece ++ u.piece;
        whole = t.whole ∙ ap (λ (r : List ℕ). t.piece ++ r) u.whole ∙ sym (append_assoc t.piece u.piece rest);
        again = λ more same. rw (append_assoc t.piece u.piece more)
            (going_on (p (t.piece ++ (u.piece ++ more))) q x.0 (u.piece ++ more) (t.again (u.piece ++ more) (same_through u.piece rest more x.1 u.whole same)) ∙ u.again more same);
      };
}

pub same_behind : (piece rest more head : List ℕ) → head ≡ piece ++ rest → 0 < length piece → SameHead head (piece ++ more)
same_behind [] rest more head e h = absurd (omega arith)
same_behind (c ∷ cs) rest more head e h = rw e refl

pub peeks_then_ends : {A B : Type 0} {p : Front A} {q : A → Front B} → Peeks p → ((a : A) → Ends (q a)) → Ends (followed_by p q)
unfolding followed_by
peeks_then_ends {p = p} {q = q} hp hq = record {
  taken = λ text b rest e.
      let s = split (p text) q (b, rest) e in
      let x = s.0 in
      let t = hp.taken text x.0 x.1 s.1 in
      let u = (hq x.0).taken x.1 b rest s.2 in
      record {
        piece = t.piece ++ u.piece;
        some = omega (arith, length-append t.piece u.piece, u.some);
        whole = t.whole ∙ ap (λ (r : List ℕ). t.piece ++ r) u.whole ∙ sym (append_assoc t.piece u.piece rest);
        again = λ more. rw (append_assoc t.piece u.piece more)
            (going_on (p (t.piece ++ (u.piece ++ more))) q x.0 (u.piece ++ more) (t.again (u.piece ++ more) (same_behind u.piece rest more x.1 u.whole u.some)) ∙ u.again more);
      };
}

pub ends_then_frees : {A B : Type 0} {p : Front A} {q : A → Front B} → Ends p → ((a : A) → Frees (q a)) → Ends (followed_by p q)
unfolding followed_by
ends_then_frees {p = p} {q = q} hp hq = record {
  taken = λ text b rest e.
      let s = split (p text) q (b, rest) e in
      let x = s.0 in
      let t = hp.taken text x.0 x.1 s.1 in
      let u = (hq x.0).taken x.1 b rest s.2 in
      record {
        piece = t.piece ++ u.piece;
        some = omega (arith, length-append t.piece u.piece, t.some);
        whole = t.whole ∙ ap (λ (r : List ℕ). t.piece ++ r) u.whole ∙ sym (append_assoc t.piece u.piece rest);
        again = λ more. rw (append_assoc t.piece u.piece more)
            (going_on (p (t.piece ++ (u.piece ++ more))) q x.0 (u.piece ++ more) (t.again (u.piece ++ more)) ∙ u.again more);
      };
}

-- ---- the small ones

pub give_frees : {A : Type 0} (a : A) → Frees (give a)
unfolding give
give_frees a = record {
  taken = λ text b rest e.
      let same = same_answer a b text rest e in
      record { piece = []; whole = same.1; again = λ more. ap (λ x. Some (x, more)) same.0 };
}

pub refuse_frees : {A : Type 0} → Frees (refuse {A = A})
unfolding refuse
refuse_frees = record { taken = λ text a rest e. absurd cc }

pub refuse_ends : {A : Type 0} → Ends (refuse {A = A})
unfolding refuse
refuse_ends = record { taken = λ text a rest e. absurd cc }

pub refuse_peeks : {A : Type 0} → Peeks (refuse {A = A})
refuse_peeks = peeks_from_frees refuse_frees

pub give_peeks : {A : Type 0} (a : A) → Peeks (give a)
give_peeks a = peeks_from_frees (give_frees a)

pub give_some_frees : {A : Type 0} (o : Option A) → Frees (give_some o)
give_some_frees None = refuse_frees
give_some_frees (Some a) = give_frees a

one_taken : (text : List ℕ) (c : ℕ) (rest : List ℕ) → one text ≡ Some (c, rest) → Ended one text c rest
unfolding one
one_taken [] c rest e = absurd cc
one_taken (d ∷ ds) c rest e =
    let same = same_answer d c ds rest e in
    record { piece = d ∷ []; some = omega arith; whole = ap (λ (r : List ℕ). d ∷ r) same.1; again = λ more. ap (λ x. Some (x, more)) same.0 }

pub one_ends : Ends one
one_ends = record { taken = one_taken }

pub past_ends : {A : Type 0} {q : Front A} → Frees q → Ends (past q)
past_ends h = ends_then_frees one_ends (λ _. h)

pub past_peeks : {A : Type 0} {q : Front A} → Peeks q → Peeks (past q)
past_peeks h = peeks_then_peeks (peeks_from_ends one_ends) (λ _. h)

-- ---- a choice

pub if_ends : {A : Type 0} (b : Bool) {p q : Front A} → Ends p → Ends q → Ends (cond b p q)
if_ends true hp hq = hp
if_ends false hp hq = hq

pub if_peeks : {A : Type 0} (b : Bool) {p q : Front A} → Peeks p → Peeks q → Peeks (cond b p q)
if_peeks true hp hq = hp
if_peeks false hp hq = hq

pub if_frees : {A : Type 0} (b : Bool) {p q : Front A} → Frees p → Frees q → Frees (cond b p q)
if_frees true hp hq = hp
if_frees false hp hq = hq

next_again : {A : Type 0} (q : ℕ → Front A) (c : ℕ) (cs text : List ℕ) (a : A) (rest : List ℕ) → text ≡ c ∷ cs → q c text ≡ Some (a, rest) → by_next q text ≡ Some (a, rest)
unfolding by_next one
next_again q c cs text a rest e f = rw e (rw e at f)

next_ended : {A : Type 0} (q : ℕ → Front A) (c : ℕ) (cs : List ℕ) (a : A) (rest : List ℕ) → Ended (q c) (c ∷ cs) a rest → Ended (by_next q) (c ∷ cs) a rest
next_ended q c cs a rest t = by_piece t.piece t.some t.whole t.again
  where
    by_piece : (piece : List ℕ) → 0 < length piece → (c ∷ cs) ≡ piece ++ rest → ((more : List ℕ) → q c (piece ++ more) ≡ Some (a, more)) → Ended (by_next q) (c ∷ cs) a rest
    by_piece [] some whole again = absurd (omega arith)
    by_piece (d ∷ ds) some whole again = record {
      piece = d ∷ ds;
      some = some;
      whole = whole;
      again = λ more. let same : c ≡ d = cc in next_again q c (ds ++ more) (d ∷ (ds ++ more)) a more (ap (λ x. x ∷ (ds ++ more)) (sym same)) (again more);
    }

next_peeked : {A : Type 0} (q : ℕ → Front A) (c : ℕ) (cs : List ℕ) (a : A) (rest : List ℕ) → Peeked (q c) (c ∷ cs) a rest → Peeked (by_next q) (c ∷ cs) a rest
next_peeked q c cs a rest t = by_piece t.piece t.whole t.again
  where
    at_head : (more : List ℕ) → SameHead (c ∷ cs) more → q c more ≡ Some (a, more) → by_next q more ≡ Some (a, more)
    at_head [] same e = absurd same
    at_head (d ∷ ds) same e = next_again q c ds (d ∷ ds) a (d ∷ ds) (ap (λ x. x ∷ ds) (sym same)) e

    by_piece : (piece : List ℕ) → (c ∷ cs) ≡ piece ++ rest → ((more : List ℕ) → SameHead rest more → q c (piece ++ more) ≡ Some (a, more)) → Peeked (by_next q) (c ∷ cs) a rest
    by_piece [] whole again = record { piece = []; whole = whole; again = λ more same. at_head more (rw whole same) (again more same) }
    by_piece (d ∷ ds) whole again = record {
      piece = d ∷ ds;
      whole = whole;
      again = λ more same. let head : c ≡ d = cc in next_again q c (ds ++ more) (d ∷ (ds ++ more)) a more (ap (λ x. x ∷ (ds ++ more)) (sym head)) (again more same);
    }

by_next_taken : {A : Type 0} (q : ℕ → Front A) → ((c : ℕ) → Ends (q c)) → (text : List ℕ) (a : A) (rest : List ℕ) → by_next q text ≡ Some (a, rest) → Ended (by_next q) text a rest
unfolding by_next one
by_next_taken q h [] a rest e = absurd cc
by_next_taken q h (c ∷ cs) a rest e = next_ended q c cs a rest ((h c).taken (c ∷ cs) a rest e)

pub by_next_ends : {A : Type 0} {q : ℕ → Front A} → ((c : ℕ) → Ends (q c)) → Ends (by_next q)
by_next_ends {q = q} h = record { taken = by_next_taken q h }

by_next_seen : {A : Type 0} (q : ℕ → Front A) → ((c : ℕ) → Peeks (q c)) → (text : List ℕ) (a : A) (rest : List ℕ) → by_next q text ≡ Some (a, rest) → Peeked (by_next q) text a rest
unfolding by_next one
by_next_seen q h [] a rest e = absurd cc
by_next_seen q h (c ∷ cs) a rest e = next_peeked q c cs a rest ((h c).taken (c ∷ cs) a rest e)

pub by_next_peeks : {A : Type 0} {q : ℕ → Front A} → ((c : ℕ) → Peeks (q c)) → Peeks (by_next q)
by_next_peeks {q = q} h = record { taken = by_next_seen q h }

-- ---- the longer ones

-- which way a test went
pub chosen : {A : Type 0} (b : Bool) (x y z : A) → cond b x y ≡ z → ((b ≡ true) × (x ≡ z)) ⊎ ((b ≡ false) × (y ≡ z))
chosen true x y z e = inl (refl, e)
chosen false x y z e = inr (refl, e)

-- what a map found
pub mapped : {A B : Type 0} (f : A → B) (o : Option A) (y : B) → option_map f o ≡ Some y → (x : A) × (o ≡ Some x) × (f x ≡ y)
mapped f None y e = absurd cc
mapped f (Some x) y e = (x, refl, cc)

pub exactly_whole : (word text : List ℕ) (u : Unit {0}) (rest : List ℕ) → exactly word text ≡ Some (u, rest) → text ≡ word ++ rest
unfolding exactly
exactly_whole [] text u rest e = (same_answer tt u text rest e).1
exactly_whole (w ∷ ws) [] u rest e = absurd cc
exactly_whole (w ∷ ws) (c ∷ cs) u rest e =
    elim (chosen (c == w) (exactly ws cs) None (Some (u, rest)) e) [
      | inl h ↦ let same : c ≡ w = eqb-true c w h.0 in rw (same, exactly_whole ws cs u rest h.1) refl
      | inr h ↦ absurd cc
    ]

pub exactly_again : (word more : List ℕ) → exactly word (word ++ more) ≡ Some (tt, more)
unfolding exactly
exactly_again [] more = refl
exactly_again (w ∷ ws) more = rw (eq-eqb w w refl) (exactly_again ws more)

-- whether a word stands at the front depends on no character behind its length
exactly_none : (word piece rest more : List ℕ) → length word ≤ length piece → exactly word (piece ++ rest) ≡ None → exactly word (piece ++ more) ≡ None
unfolding exactly
exactly_none [] piece rest more le e = absurd cc
exactly_none (w ∷ ws) [] rest more le e = absurd (omega arith)
exactly_none (w ∷ ws) (c ∷ cs) rest more le e =
    elim (chosen (c == w) (exactly ws (cs ++ rest)) None None e) [
      | inl h ↦ rw h.0 (exactly_none ws cs rest more (omega arith) h.1)
      | inr h ↦ rw h.0 refl
    ]

exactly_taken : (word text : List ℕ) (u : Unit {0}) (rest : List ℕ) → exactly word text ≡ Some (u, rest) → Freed (exactly word) text u rest
exactly_taken word text u rest e = record { piece = word; whole = exactly_whole word text u rest e; again = λ more. exactly_again word more }

pub exactly_frees : (word : List ℕ) → Frees (exactly word)
exactly_frees word = record { taken = exactly_taken word }

pub exactly_ends : (word : List ℕ) → 0 < length word → Ends (exactly word)
exactly_ends word some = record { taken = λ text u rest e. record { piece = word; some = some; whole = exactly_whole word text u rest e; again = λ more. exactly_again word more } }

run_again : (test : ℕ → Bool) (c : ℕ) (cs rest more : List ℕ) → test c ≡ false → (c ∷ cs) ≡ rest → SameHead rest more → run test more ≡ Some ([], more)
unfolding run
run_again test c cs rest [] off e same = absurd (rw (← e) at same)
run_again test c cs rest (d ∷ ds) off e same = let head : c ≡ d = (rw (← e) at same) in rw (← head, off) refl

run_taken : (test : ℕ → Bool) (text a rest : List ℕ) → run test text ≡ Some (a, rest) → Peeked (run test) text a rest
unfolding run
run_taken test [] a rest e = absurd cc
run_taken test (c ∷ cs) a rest e =
    elim (chosen (test c) (option_map (put_before c) (run test cs)) (Some ([], c ∷ cs)) (Some (a, rest)) e) [
      | inl h ↦
          let m = mapped (put_before c) (run test cs) (a, rest) h.1 in
          let x = m.0 in
          let t = run_taken test cs x.0 x.1 m.1 in
          let ends : x.1 ≡ rest = ap (λ (y : List ℕ × List ℕ). y.1) m.2 in
          record {
            piece = c ∷ t.piece;
            whole = ap (λ (r : List ℕ). c ∷ r) t.whole ∙ ap (λ (r : List ℕ). c ∷ (t.piece ++ r)) ends;
            again = λ more same. rw (h.0, t.again more (rw ends same)) (ap (λ (y : List ℕ × List ℕ). Some (y.0, more)) m.2);
          }
      | inr h ↦
          let same_as = same_answer [] a (c ∷ cs) rest h.1 in
          record { piece = []; whole = same_as.1; again = λ more same. run_again test c cs rest more h.0 same_as.1 same ∙ ap (λ (y : List ℕ). Some (y, more)) same_as.0 }
    ]

pub run_peeks : (test : ℕ → Bool) → Peeks (run test)
run_peeks test = record { taken = run_taken test }

-- what stands before a mark, with the mark
record Marked (mark text a rest : List ℕ) : Type 0 where
  pub piece : List ℕ
  pub long : length mark ≤ length piece
  pub whole : text ≡ piece ++ rest
  pub again : (more : List ℕ) → up_to mark (piece ++ more) ≡ Some (a, more)

pub none_from_is_some : {A : Type 0} (o : Option A) → is_some o ≡ false → o ≡ None
none_from_is_some None e = refl
none_from_is_some (Some x) e = absurd cc

pub marked_here : (mark more : List ℕ) → 0 < length mark → up_to mark (mark ++ more) ≡ Some ([], more)
unfolding up_to
marked_here [] more some = absurd (omega arith)
marked_here (w ∷ ws) more some = rw (exactly_again (w ∷ ws) more) refl

up_to_taken : (mark : List ℕ) → 0 < length mark → (text a rest : List ℕ) → up_to mark text ≡ Some (a, rest) → Marked mark text a rest
unfolding up_to
up_to_taken mark some [] a rest e = absurd cc
up_to_taken mark some (c ∷ cs) a rest e =
    elim (chosen (is_some (exactly mark (c ∷ cs))) (option_map (λ x. ([], x.1)) (exactly mark (c ∷ cs))) (cond (is_character c) (option_map (put_before c) (up_to mark cs)) None) (Some (a, rest)) e) [
      | inl h ↦
          let m = mapped (λ (x : Unit {0} × List ℕ). ([], x.1)) (exactly mark (c ∷ cs)) (a, rest) h.1 in
          let x = m.0 in
          let ends : x.1 ≡ rest = ap (λ (y : List ℕ × List ℕ). y.1) m.2 in
          record {
            piece = mark;
            long = omega arith;
            whole = exactly_whole mark (c ∷ cs) x.0 x.1 m.1 ∙ ap (λ (r : List ℕ). mark ++ r) ends;
            again = λ more. marked_here mark more some ∙ ap (λ (y : List ℕ × List ℕ). Some (y.0, more)) m.2;
          }
      | inr h ↦
          elim (chosen (is_character c) (option_map (put_before c) (up_to mark cs)) None (Some (a, rest)) h.1) [
            | inl g ↦
                let m = mapped (put_before c) (up_to mark cs) (a, rest) g.1 in
                let x = m.0 in
                let t = up_to_taken mark some cs x.0 x.1 m.1 in
                let ends : x.1 ≡ rest = ap (λ (y : List ℕ × List ℕ). y.1) m.2 in
                let off : exactly mark ((c ∷ t.piece) ++ x.1) ≡ None = none_from_is_some (exactly mark ((c ∷ t.piece) ++ x.1)) (rw t.whole at h.0) in
                record {
                  piece = c ∷ t.piece;
                  long = omega (arith, t.long);
                  whole = ap (λ (r : List ℕ). c ∷ r) t.whole ∙ ap (λ (r : List ℕ). c ∷ (t.piece ++ r)) ends;
                  again = λ more. rw (exactly_none mark (c ∷ t.piece) x.1 more (omega (arith, t.long)) off, g.0, t.again more) (ap (λ (y : List ℕ × List ℕ). Some (y.0, more)) m.2);
                }
            | inr g ↦ absurd cc
          ]
    ]

pub up_to_ends : (mark : List ℕ) → 0 < length mark → Ends (up_to mark)
up_to_ends mark some = record {
  taken = λ text a rest e.
      let t = up_to_taken mark some text a rest e in
      record { piece = t.piece; some = omega (arith, t.long); whole = t.whole; again = t.again };
}
