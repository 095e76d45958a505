-- A loop that gathers what the turns of a sequence have.
use Rattle.std.proofs.Common.{◌≡◌, ℕ, zero, suc, ◌<◌, ◌≤◌, List, [], ◌∷◌, ◌++◌, length, Option, Some, None, refl, sym, ap, ◌∙◌, append_assoc, arith}
use Rattle.std.specs.Prelude.{option_map, encode_utf8, encode_utf8_all, IsSome}
use Rattle.std.proofs.lemmas.List.{length-append}
use Rattle.std.proofs.lemmas.Str.{encodes-append}
use Rattle.xc_elements.specs.Fronts.{Front, Turn, More, Last, followed_by, give, sequence_within, sequence}
use Rattle.xc_elements.specs.Items.{character_or_end, value_until}
use Rattle.xc_elements.specs.Steps.Views.{value_at}
use Rattle.xc_elements.proofs.FrontLaws.{found}
use Rattle.xc_elements.proofs.SequenceLaws.{Turns, with_first, repeated_last, repeated_more, repeated_none}
use Rattle.xc_elements.proofs.ReadLaws.{append-nil}

abbrev pub all_before : {A B : Type 0} → List A → (List A × B) × List ℕ → (List A × B) × List ℕ
all_before so_far x = ((so_far ++ x.0.0, x.0.1), x.1)

-- the sequence in the text is what has been gathered and the turns that are left
pub record Gathers {A B : Type 0} (turn : Front (Turn A B)) (text rest : List ℕ) (so_far : List A) : Type 0 where
  pub count : ℕ
  pub enough : length rest ≤ count
  pub left : sequence turn text ≡ option_map (all_before so_far) (sequence_within turn count rest)

nothing_before : {A B : Type 0} (o : Option ((List A × B) × List ℕ)) → o ≡ option_map (all_before []) o
nothing_before None = refl
nothing_before (Some x) = refl

pub gathers_none : {A B : Type 0} (turn : Front (Turn A B)) (text : List ℕ) → Gathers turn text text []
unfolding sequence
gathers_none turn text = record { count = length text; enough = omega arith; left = nothing_before (sequence_within turn (length text) text) }

one_more_before : {A B : Type 0} (so_far : List A) (a : A) (o : Option ((List A × B) × List ℕ)) → option_map (all_before so_far) (option_map (with_first a) o) ≡ option_map (all_before (so_far ++ a ∷ [])) o
one_more_before so_far a None = refl
one_more_before so_far a (Some x) = ap (λ xs. Some ((xs, x.0.1), x.1)) (sym (append_assoc so_far (a ∷ []) x.0.0))

more_gathered : {A B : Type 0} (turn : Front (Turn A B)) (text rest after : List ℕ) (so_far : List A) (a : A) (n : ℕ) → length after < length rest → found (More a) after ≡ turn rest → length rest ≤ n → sequence turn text ≡ option_map (all_before so_far) (sequence_within turn n rest) → Gathers turn text after (so_far ++ a ∷ [])
more_gathered turn text rest after so_far a zero shorter is enough left = absurd (omega arith)
more_gathered turn text rest after so_far a (suc n) shorter is enough left = record {
  count = n;
  enough = omega arith;
  left = left ∙ ap (λ o. option_map (all_before so_far) o) (repeated_more turn n rest a after (sym is)) ∙ one_more_before so_far a (sequence_within turn n after);
}

pub gathers_more : {A B : Type 0} (turn : Front (Turn A B)) (text rest after : List ℕ) (so_far : List A) (a : A) → Turns turn → found (More a) after ≡ turn rest → Gathers turn text rest so_far → Gathers turn text after (so_far ++ a ∷ [])
gathers_more turn text rest after so_far a turns is t = more_gathered turn text rest after so_far a t.count (turns.some rest a after (sym is)) is t.enough t.left

last_gathered : {A B : Type 0} (turn : Front (Turn A B)) (text rest after : List ℕ) (so_far : List A) (b : B) (n : ℕ) → 0 < length rest → found (Last b) after ≡ turn rest → length rest ≤ n → sequence turn text ≡ option_map (all_before so_far) (sequence_within turn n rest) → sequence turn text ≡ Some ((so_far, b), after)
last_gathered turn text rest after so_far b zero some is enough left = absurd (omega arith)
last_gathered turn text rest after so_far b (suc n) some is enough left =
    left ∙ ap (λ o. option_map (all_before so_far) o) (repeated_last turn n rest b after (sym is)) ∙ ap (λ xs. Some ((xs, b), after)) (append-nil so_far)

pub gathers_last : {A B : Type 0} (turn : Front (Turn A B)) (text rest after : List ℕ) (so_far : List A) (b : B) → Turns turn → found (Last b) after ≡ turn rest → Gathers turn text rest so_far → sequence turn text ≡ Some ((so_far, b), after)
gathers_last turn text rest after so_far b turns is t =
    let e = turns.last rest b after (sym is) in
    last_gathered turn text rest after so_far b t.count (omega (arith, ap length e.whole, length-append e.piece after, e.some)) is t.enough t.left

pub gathers_nowhere : {A B : Type 0} (turn : Front (Turn A B)) (text rest : List ℕ) (so_far : List A) → None ≡ turn rest → Gathers turn text rest so_far → sequence turn text ≡ None
gathers_nowhere turn text rest so_far is t = t.left ∙ ap (λ o. option_map (all_before so_far) o) (repeated_none turn t.count rest (sym is))

-- ---- the characters of a value

pub value_of_turns : (mark : ℕ) (text rest value : List ℕ) → sequence (character_or_end mark) text ≡ Some ((value, tt), rest) → value_at mark text ≡ value
unfolding value_until followed_by give
value_of_turns mark text rest value e = rw e refl

pub no_value : (mark : ℕ) (text : List ℕ) → sequence (character_or_end mark) text ≡ None → IsSome (value_until mark text) → ⊥
unfolding value_until followed_by
no_value mark text e some = let wrong = rw e at some in absurd cc

pub one_more_encoded : (bytes before so_far : List ℕ) (c : ℕ) → before ≡ encode_utf8_all so_far → bytes ≡ before ++ encode_utf8 c → bytes ≡ encode_utf8_all (so_far ++ c ∷ [])
one_more_encoded bytes before so_far c e f =
    f ∙ ap (λ (bs : List ℕ). bs ++ encode_utf8 c) e ∙ ap (λ (bs : List ℕ). encode_utf8_all so_far ++ bs) (sym (append-nil (encode_utf8 c))) ∙ sym (encodes-append so_far (c ∷ []))
