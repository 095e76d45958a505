-- A loop over the turns of a sequence, for the end of it.
use Rattle.std.proofs.Common.{◌≡◌, ℕ, zero, suc, ◌<◌, ◌≤◌, List, length, Option, Some, None, refl, sym, ap, ◌∙◌, arith}
use Rattle.std.specs.Prelude.{option_map}
use Rattle.std.proofs.lemmas.List.{length-append}
use Rattle.xc_elements.specs.Fronts.{Front, Turn, More, Last, sequence_within, sequence, ending}
use Rattle.xc_elements.proofs.FrontLaws.{found}
use Rattle.xc_elements.proofs.SequenceLaws.{Turns, with_first, repeated_last, repeated_more, repeated_none}

-- the turns that are left lead to the end of the sequence in the text
pub record Leads {A B : Type 0} (turn : Front (Turn A B)) (text rest : List ℕ) : Type 0 where
  pub count : ℕ
  pub enough : length rest ≤ count
  pub left : option_map ending (sequence turn text) ≡ option_map ending (sequence_within turn count rest)

pub leads_none : {A B : Type 0} (turn : Front (Turn A B)) (text : List ℕ) → Leads turn text text
unfolding sequence
leads_none turn text = record { count = length text; enough = omega arith; left = refl }

same_ending : {A B : Type 0} (a : A) (o : Option ((List A × B) × List ℕ)) → option_map ending (option_map (with_first a) o) ≡ option_map ending o
same_ending a None = refl
same_ending a (Some x) = refl

pub more_shorter : {A B : Type 0} (turn : Front (Turn A B)) (rest after : List ℕ) (a : A) → Turns turn → found (More a) after ≡ turn rest → length after < length rest
more_shorter turn rest after a turns is = turns.some rest a after (sym is)

more_counted : {A B : Type 0} (turn : Front (Turn A B)) (text rest after : List ℕ) (a : A) (n : ℕ) → length after < length rest → found (More a) after ≡ turn rest → length rest ≤ n → option_map ending (sequence turn text) ≡ option_map ending (sequence_within turn n rest) → Leads turn text after
more_counted turn text rest after a zero shorter is enough left = absurd (omega arith)
more_counted turn text rest after a (suc n) shorter is enough left = record {
  count = n;
  enough = omega arith;
  left = left ∙ ap (λ o. option_map ending o) (repeated_more turn n rest a after (sym is)) ∙ same_ending a (sequence_within turn n after);
}

pub leads_more : {A B : Type 0} (turn : Front (Turn A B)) (text rest after : List ℕ) (a : A) → Turns turn → found (More a) after ≡ turn rest → Leads turn text rest → Leads turn text after
leads_more turn text rest after a turns is t = more_counted turn text rest after a t.count (more_shorter turn rest after a turns is) is t.enough t.left

last_counted : {A B : Type 0} (turn : Front (Turn A B)) (text rest after : List ℕ) (b : B) (n : ℕ) → 0 < length rest → found (Last b) after ≡ turn rest → length rest ≤ n → option_map ending (sequence turn text) ≡ option_map ending (sequence_within turn n rest) → found b after ≡ option_map ending (sequence turn text)
last_counted turn text rest after b zero some is enough left = absurd (omega arith)
last_counted turn text rest after b (suc n) some is enough left = sym (left ∙ ap (λ o. option_map ending o) (repeated_last turn n rest b after (sym is)))

pub leads_last : {A B : Type 0} (turn : Front (Turn A B)) (text rest after : List ℕ) (b : B) → Turns turn → found (Last b) after ≡ turn rest → Leads turn text rest → found b after ≡ option_map ending (sequence turn text)
leads_last turn text rest after b turns is t =
    let e = turns.last rest b after (sym is) in
    last_counted turn text rest after b t.count (omega (arith, ap length e.whole, length-append e.piece after, e.some)) is t.enough t.left

pub leads_nowhere : {A B : Type 0} (turn : Front (Turn A B)) (text rest : List ℕ) → None ≡ turn rest → Leads turn text rest → None ≡ option_map ending (sequence turn text)
leads_nowhere turn text rest is t = sym (t.left ∙ ap (λ o. option_map ending o) (repeated_none turn t.count rest (sym is)))
