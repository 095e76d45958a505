-- A sequence is its turns, one behind another.
use Rattle.std.proofs.Common.{◌≡◌, ℕ, zero, suc, ◌<◌, ◌≤◌, List, [], ◌∷◌, length, Option, Some, None, refl, sym, ap, ◌∙◌, subst, arith, length-append}
use Rattle.std.specs.Prelude.{option_map}
use Rattle.xc_elements.specs.Fronts.{Front, refuse, Turn, More, Last, sequence_within, sequence}
use Rattle.xc_elements.proofs.FrontLaws.{Ended, mapped, same_answer}
use Rattle.xc_elements.proofs.SequenceLaws.{Turns, with_first, repeated_last, repeated_more, repeated_none}

-- one turn, and what follows it
pub record Step {A B : Type 0} (turn : Front (Turn A B)) (text : List ℕ) (a : A) (after : List ℕ) : Type 0 where
  pub taken : turn text ≡ Some (More a, after)

-- the turns of a text, one behind another
abbrev pub Steps : {A B : Type 0} → Front (Turn A B) → List A → List ℕ → B → List ℕ → Type 0
Steps turn [] text b rest = turn text ≡ Some (Last b, rest)
Steps turn (a ∷ xs) text b rest = (after : List ℕ) × Step turn text a after × Steps turn xs after b rest

module _ {A B : Type 0} (turn : Front (Turn A B)) where
  steps_same : (text : List ℕ) (x y : List A × B) (r s : List ℕ) → (x ≡ y) × (r ≡ s) → Steps turn x.0 text x.1 r → Steps turn y.0 text y.1 s
  steps_same text x y r s same h = subst (λ (z : List ℕ). Steps turn y.0 text y.1 z) same.1 (subst (λ (z : List A × B). Steps turn z.0 text z.1 r) same.0 h)

  by_turn : (n : ℕ) → ((text : List ℕ) (x : List A × B) (rest : List ℕ) → sequence_within turn n text ≡ Some (x, rest) → Steps turn x.0 text x.1 rest) → (text : List ℕ) (t : Turn A B) (after : List ℕ) (x : List A × B) (rest : List ℕ) → turn text ≡ Some (t, after) → sequence_within turn (suc n) text ≡ Some (x, rest) → Steps turn x.0 text x.1 rest
  by_turn n earlier text (Last b) after x rest is e = steps_same text ([], b) x after rest (same_answer ([], b) x after rest (sym (repeated_last turn n text b after is) ∙ e)) is
  by_turn n earlier text (More a) after x rest is e =
      let m = mapped (with_first a) (sequence_within turn n after) (x, rest) (sym (repeated_more turn n text a after is) ∙ e) in
      let y = m.0 in
      steps_same text (a ∷ y.0.0, y.0.1) x y.1 rest (ap (λ (z : (List A × B) × List ℕ). z.0) m.2, ap (λ (z : (List A × B) × List ℕ). z.1) m.2) (after, record { taken = is }, earlier after y.0 y.1 m.1)

  by_answer : (n : ℕ) → ((text : List ℕ) (x : List A × B) (rest : List ℕ) → sequence_within turn n text ≡ Some (x, rest) → Steps turn x.0 text x.1 rest) → (text : List ℕ) (o : Option (Turn A B × List ℕ)) (x : List A × B) (rest : List ℕ) → turn text ≡ o → sequence_within turn (suc n) text ≡ Some (x, rest) → Steps turn x.0 text x.1 rest
  by_answer n earlier text None x rest is e = absurd (let none = repeated_none turn (suc n) text is in cc)
  by_answer n earlier text (Some y) x rest is e = by_turn n earlier text y.0 y.1 x rest is e

  repeated_steps : (n : ℕ) (text : List ℕ) (x : List A × B) (rest : List ℕ) → sequence_within turn n text ≡ Some (x, rest) → Steps turn x.0 text x.1 rest
  unfolding sequence_within refuse
  repeated_steps zero text x rest e = absurd cc
  repeated_steps (suc n) text x rest e = by_answer n (repeated_steps n) text (turn text) x rest refl e

  pub sequence_read : (text : List ℕ) (x : List A × B) (rest : List ℕ) → sequence turn text ≡ Some (x, rest) → Steps turn x.0 text x.1 rest
  unfolding sequence
  sequence_read text x rest e = repeated_steps (length text) text x rest e

  last_some : (text : List ℕ) (b : B) (rest : List ℕ) → Ended turn text (Last b) rest → 0 < length text
  last_some text b rest t = let lens = ap length t.whole ∙ length-append t.piece rest in omega (arith, t.some, lens)

  steps_repeated : Turns turn → (xs : List A) (n : ℕ) (text : List ℕ) (b : B) (rest : List ℕ) → length text ≤ n → Steps turn xs text b rest → sequence_within turn n text ≡ Some ((xs, b), rest)
  steps_repeated turns [] zero text b rest le h = absurd (omega (arith, le, last_some text b rest (turns.last text b rest h)))
  steps_repeated turns [] (suc n) text b rest le h = repeated_last turn n text b rest h
  steps_repeated turns (a ∷ xs) zero text b rest le h = absurd (omega (arith, le, turns.some text a h.0 h.1.taken))
  steps_repeated turns (a ∷ xs) (suc n) text b rest le h =
      repeated_more turn n text a h.0 h.1.taken ∙ ap (option_map (with_first a)) (steps_repeated turns xs n h.0 b rest (omega (arith, le, turns.some text a h.0 h.1.taken)) h.2)

  pub sequence_spelled : Turns turn → (xs : List A) (text : List ℕ) (b : B) (rest : List ℕ) → Steps turn xs text b rest → sequence turn text ≡ Some ((xs, b), rest)
  unfolding sequence
  sequence_spelled turns xs text b rest h = steps_repeated turns xs (length text) text b rest (omega arith) h
