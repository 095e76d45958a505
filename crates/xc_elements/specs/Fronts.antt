-- What stands at the front of a text, and what follows it. A text is the list of its characters.
use Rattle.std.specs.Prelude.{ℕ, zero, suc, Bool, ◌==◌, List, [], ◌∷◌, length, Option, Some, None, option_map, is_some, if◌then◌else◌}
use Rattle.xc_chars.specs.Characters.{is_character}

-- what a text may begin with: a value, and the text that follows it
abbrev pub Front : Type 0 → Type 0
Front A = List ℕ → Option (A × List ℕ)

-- this value, with what follows it
abbrev pub go_on : {A B : Type 0} → Option (A × List ℕ) → (A → Front B) → Option (B × List ℕ)
go_on None q = None
go_on (Some x) q = q x.0 x.1

-- the one, and behind it the other
unfoldable pub followed_by : {A B : Type 0} → Front A → (A → Front B) → Front B
followed_by p q text = go_on (p text) q

infixl 10 ◌>>=◌
-- `followed_by` as an operator, for `do`
abbrev pub ◌>>=◌ : {A B : Type 0} → Front A → (A → Front B) → Front B
p >>= q = followed_by p q

infixl 10 ◌>>◌
-- the same where the second reader asks for nothing of the first
abbrev pub ◌>>◌ : {A B : Type 0} → Front A → Front B → Front B
p >> q = followed_by p (λ _. q)

-- nothing, which stands for this value
unfoldable pub give : {A : Type 0} → A → Front A
give a text = Some (a, text)

-- what nothing begins with
unfoldable pub refuse : {A : Type 0} → Front A
refuse text = None

-- one character, whichever it is
unfoldable pub one : Front ℕ
one [] = None
one (c ∷ cs) = Some (c, cs)

-- this value, if there is one
abbrev pub give_some : {A : Type 0} → Option A → Front A
give_some None = refuse
give_some (Some a) = give a

-- what this character decides of the text
abbrev pub decided_by : {A : Type 0} → Option (ℕ × List ℕ) → (ℕ → Front A) → Front A
decided_by None q text = None
decided_by (Some x) q text = q x.0 text

-- what the next character decides, which is left where it stands
unfoldable pub by_next : {A : Type 0} → (ℕ → Front A) → Front A
by_next q text = decided_by (one text) q text

-- one character, whichever it is, and behind it the other
abbrev pub past : {A : Type 0} → Front A → Front A
past q = followed_by one (λ _. q)

-- exactly these characters
unfoldable pub exactly : List ℕ → Front Unit
exactly [] text = Some (tt, text)
exactly (w ∷ ws) [] = None
exactly (w ∷ ws) (c ∷ cs) = if c == w then exactly ws cs else None

-- a character before what stands at a front
abbrev pub put_before : ℕ → List ℕ × List ℕ → List ℕ × List ℕ
put_before c x = (c ∷ x.0, x.1)

-- all characters up to the first that fails the test, which is there
unfoldable pub run : (ℕ → Bool) → Front (List ℕ)
run test [] = None
run test (c ∷ cs) = if test c then option_map (put_before c) (run test cs) else Some ([], c ∷ cs)

-- the characters before the first place at which these characters stand, and these
unfoldable pub up_to : List ℕ → Front (List ℕ)
up_to mark [] = None
up_to mark (c ∷ cs) =
    if is_some (exactly mark (c ∷ cs)) then option_map (λ x. ([], x.1)) (exactly mark (c ∷ cs))
    else if is_character c then option_map (put_before c) (up_to mark cs)
    else None

-- one more of a sequence, or what ends it
pub data Turn (A B : Type 0) : Type 0 where
  More : A → Turn A B
  Last : B → Turn A B

-- what follows a turn: nothing behind the last, and behind any other the others
abbrev pub after_turn : {A B : Type 0} → Front (List A × B) → Turn A B → Front (List A × B)
after_turn others (Last b) = give ([], b)
after_turn others (More a) = followed_by others (λ x. give (a ∷ x.0, x.1))

-- a sequence of fewer than so many turns, with what ends it
unfoldable pub sequence_within : {A B : Type 0} → Front (Turn A B) → ℕ → Front (List A × B)
sequence_within turn zero = refuse
sequence_within turn (suc n) = followed_by turn (after_turn (sequence_within turn n))

-- a sequence, with what ends it: each turn has a character of its own, so no text has more turns than characters
unfoldable pub sequence : {A B : Type 0} → Front (Turn A B) → Front (List A × B)
sequence turn text = sequence_within turn (length text) text

-- what ends a sequence, and the text that follows it
abbrev pub ending : {A B : Type 0} → (List A × B) × List ℕ → B × List ℕ
ending x = (x.0.1, x.1)
