-- A loop that goes over the characters that a front takes.
use Rattle.std.proofs.Common.{◌≡◌, ℕ, Bool, true, false, List, [], ◌∷◌, ◌++◌, Option, Some, None, refl, sym, ap, ◌∙◌, append_assoc}
use Rattle.std.specs.Prelude.{option_map}
use Rattle.xc_chars.specs.Characters.{is_character}
use Rattle.xc_elements.specs.Fronts.{Front, exactly, put_before, run, up_to}
use Rattle.xc_elements.proofs.FrontLaws.{found}

abbrev pub put_all : List ℕ → List ℕ × List ℕ → List ℕ × List ℕ
put_all front x = (front ++ x.0, x.1)

-- the loop has passed a part of the text, and p finds in the text that part and what it finds in the rest
pub record Passed (p : Front (List ℕ)) (text rest : List ℕ) : Type 0 where
  pub front : List ℕ
  pub whole : text ≡ front ++ rest
  pub left : p text ≡ option_map (put_all front) (p rest)

put_nothing : (o : Option (List ℕ × List ℕ)) → o ≡ option_map (put_all []) o
put_nothing None = refl
put_nothing (Some x) = refl

pub passed_none : (p : Front (List ℕ)) (text : List ℕ) → Passed p text text
passed_none p text = record { front = []; whole = refl; left = put_nothing (p text) }

put_one_more : (front : List ℕ) (c : ℕ) (o : Option (List ℕ × List ℕ)) → option_map (put_all front) (option_map (put_before c) o) ≡ option_map (put_all (front ++ c ∷ [])) o
put_one_more front c None = refl
put_one_more front c (Some x) = ap (λ (cs : List ℕ). Some (cs, x.1)) (sym (append_assoc front (c ∷ []) x.0))

pub passed_more : (p : Front (List ℕ)) (text rest after : List ℕ) (c : ℕ) → Passed p text rest → rest ≡ c ∷ after → p rest ≡ option_map (put_before c) (p after) → Passed p text after
passed_more p text rest after c t e step = record {
  front = t.front ++ c ∷ [];
  whole = t.whole ∙ ap (λ (r : List ℕ). t.front ++ r) e ∙ sym (append_assoc t.front (c ∷ []) after);
  left = t.left ∙ ap (λ o. option_map (put_all t.front) o) step ∙ put_one_more t.front c (p after);
}

pub append-nil : {A : Type 0} (xs : List A) → xs ++ [] ≡ xs
append-nil [] = refl
append-nil (x ∷ xs) = ap (λ r. x ∷ r) (append-nil xs)

pub passed_all : (p : Front (List ℕ)) (text rest part end : List ℕ) (t : Passed p text rest) → ((front : List ℕ) → text ≡ front ++ rest → part ≡ front) → p rest ≡ Some ([], end) → found part end ≡ p text
passed_all p text rest part end t is e =
    sym (t.left ∙ ap (λ o. option_map (put_all t.front) o) e ∙ ap (λ (cs : List ℕ). found cs end) (append-nil t.front ∙ sym (is t.front t.whole)))

pub passed_to_none : (p : Front (List ℕ)) (text rest : List ℕ) → Passed p text rest → p rest ≡ None → None ≡ p text
passed_to_none p text rest t e = sym (t.left ∙ ap (λ o. option_map (put_all t.front) o) e)

-- ---- the steps of the two fronts that loops go over

pub run_on : (test : ℕ → Bool) (text rest : List ℕ) (c : ℕ) → text ≡ c ∷ rest → test c ≡ true → run test text ≡ option_map (put_before c) (run test rest)
unfolding run
run_on test text rest c e h = rw (e, h) refl

pub run_ends : (test : ℕ → Bool) (text rest : List ℕ) (c : ℕ) → text ≡ c ∷ rest → test c ≡ false → run test text ≡ Some ([], text)
unfolding run
run_ends test text rest c e h = rw (e, h) refl

pub run_none : (test : ℕ → Bool) (text : List ℕ) → text ≡ [] → run test text ≡ None
unfolding run
run_none test text e = rw e refl

pub up_to_on : (mark text rest : List ℕ) (c : ℕ) → text ≡ c ∷ rest → exactly mark text ≡ None → is_character c ≡ true → up_to mark text ≡ option_map (put_before c) (up_to mark rest)
unfolding up_to
up_to_on mark text rest c e missing h = rw e (rw (rw e at missing, h) refl)

pub up_to_ends_here : (mark text rest end : List ℕ) (c : ℕ) → text ≡ c ∷ rest → exactly mark text ≡ Some (tt, end) → up_to mark text ≡ Some ([], end)
unfolding up_to
up_to_ends_here mark text rest end c e stands = rw e (rw (rw e at stands) refl)

pub up_to_refuses : (mark text rest : List ℕ) (c : ℕ) → text ≡ c ∷ rest → exactly mark text ≡ None → is_character c ≡ false → up_to mark text ≡ None
unfolding up_to
up_to_refuses mark text rest c e missing h = rw e (rw (rw e at missing, h) refl)

pub up_to_none : (mark text : List ℕ) → text ≡ [] → up_to mark text ≡ None
unfolding up_to
up_to_none mark text e = rw e refl
