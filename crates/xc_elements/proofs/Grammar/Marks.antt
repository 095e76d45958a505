-- What stands before the first place of a mark.
use Rattle.std.proofs.Common.{◌≡◌, ℕ, ◌<◌, true, cond, List, [], ◌∷◌, ◌++◌, length, Option, Some, None, refl, sym, ap, ◌∙◌, subst, inl, inr, append_assoc}
use Rattle.std.specs.Prelude.{option_map, is_some}
use Rattle.xc_chars.specs.Characters.{is_character}
use Rattle.xc_elements.specs.Fronts.{exactly, put_before, up_to}
use Rattle.xc_elements.specs.Grammar.Words.{AreCharacters, Occurs}
use Rattle.xc_elements.proofs.FrontLaws.{chosen, mapped, exactly_whole, exactly_again, marked_here, none_from_is_some}

-- the text is the body, the mark and the rest, and the mark begins at no character of the body
pub record FirstMark (mark text body rest : List ℕ) : Type 0 where
  pub whole : text ≡ body ++ (mark ++ rest)
  pub characters : AreCharacters body
  pub first : (front : List ℕ) (c : ℕ) (cs : List ℕ) → body ≡ front ++ (c ∷ cs) → exactly mark (c ∷ (cs ++ (mark ++ rest))) ≡ None

nothing_there : (front : List ℕ) (c : ℕ) (cs : List ℕ) → [] ≡ front ++ (c ∷ cs) → ⊥
nothing_there [] c cs e = absurd cc
nothing_there (f ∷ front) c cs e = absurd cc

mark_here : (mark text rest : List ℕ) → text ≡ mark ++ rest → FirstMark mark text [] rest
mark_here mark text rest e = record { whole = e; characters = tt; first = λ front c cs no. absurd (nothing_there front c cs no) }

mark_later : (mark : List ℕ) (c : ℕ) (cs body rest : List ℕ) → is_character c ≡ true → exactly mark (c ∷ cs) ≡ None → FirstMark mark cs body rest → FirstMark mark (c ∷ cs) (c ∷ body) rest
mark_later mark c cs body rest good off t = record {
  whole = ap (λ (z : List ℕ). c ∷ z) t.whole;
  characters = (good, t.characters);
  first = by_front;
}
  where
    by_front : (front : List ℕ) (d : ℕ) (ds : List ℕ) → (c ∷ body) ≡ front ++ (d ∷ ds) → exactly mark (d ∷ (ds ++ (mark ++ rest))) ≡ None
    by_front [] d ds e = sym (ap (λ (z : List ℕ). exactly mark (z ++ (mark ++ rest))) e) ∙ sym (ap (λ (z : List ℕ). exactly mark (c ∷ z)) t.whole) ∙ off
    by_front (f ∷ front) d ds e = t.first front d ds cc

pub first_mark : (mark : List ℕ) → 0 < length mark → (text body rest : List ℕ) → up_to mark text ≡ Some (body, rest) → FirstMark mark text body rest
unfolding up_to
first_mark mark some [] body rest e = absurd cc
first_mark mark some (c ∷ cs) body rest e =
    elim (chosen (is_some (exactly mark (c ∷ cs))) (option_map (λ x. ([], x.1)) (exactly mark (c ∷ cs))) (cond (is_character c) (option_map (put_before c) (up_to mark cs)) None) (Some (body, rest)) e) [
      | inl h ↦
          let m = mapped (λ (x : Unit {0} × List ℕ). ([], x.1)) (exactly mark (c ∷ cs)) (body, rest) h.1 in
          let x = m.0 in
          subst (λ (y : List ℕ × List ℕ). FirstMark mark (c ∷ cs) y.0 y.1) m.2 (mark_here mark (c ∷ cs) x.1 (exactly_whole mark (c ∷ cs) x.0 x.1 m.1))
      | inr h ↦
          elim (chosen (is_character c) (option_map (put_before c) (up_to mark cs)) None (Some (body, rest)) h.1) [
            | inl g ↦
                let m = mapped (put_before c) (up_to mark cs) (body, rest) g.1 in
                let x = m.0 in
                subst (λ (y : List ℕ × List ℕ). FirstMark mark (c ∷ cs) y.0 y.1) m.2
                (mark_later mark c cs x.0 x.1 g.0 (none_from_is_some (exactly mark (c ∷ cs)) h.0) (first_mark mark some cs x.0 x.1 m.1))
            | inr g ↦ absurd cc
          ]
    ]

pub up_to_first : (mark : List ℕ) → 0 < length mark → (body rest : List ℕ) → AreCharacters body → ((front : List ℕ) (c : ℕ) (cs : List ℕ) → body ≡ front ++ (c ∷ cs) → exactly mark (c ∷ (cs ++ (mark ++ rest))) ≡ None) → up_to mark (body ++ (mark ++ rest)) ≡ Some (body, rest)
unfolding up_to
up_to_first mark some [] rest good first = marked_here mark rest some
up_to_first mark some (c ∷ cs) rest good first =
    rw (first [] c cs refl, good.0, up_to_first mark some cs rest good.1 (λ front d ds e. first (c ∷ front) d ds (ap (λ (z : List ℕ). c ∷ z) e))) refl

-- a mark that begins at no character stands nowhere
pub nowhere : (w : ℕ) (ws text body rest : List ℕ) → FirstMark (w ∷ ws) text body rest → Occurs (w ∷ ws) body → ⊥
nowhere w ws text body rest t o =
    let whole = ap (λ (z : List ℕ). exactly (w ∷ ws) (w ∷ z)) (append_assoc ws o.after (w ∷ (ws ++ rest))) in
    let same = sym (t.first o.before w (ws ++ o.after) o.whole) ∙ whole ∙ exactly_again (w ∷ ws) (o.after ++ (w ∷ (ws ++ rest))) in
    absurd (let no = same in cc)

-- what is found nowhere is none
pub none_unless : {A : Type 0} (o : Option A) → ((x : A) → o ≡ Some x → ⊥) → o ≡ None
none_unless None h = refl
none_unless (Some x) h = absurd (h x refl)

-- lists that are one have one head and one tail
pub cons_same : {c d : ℕ} {cs ds : List ℕ} → (c ∷ cs) ≡ (d ∷ ds) → (c ≡ d) × (cs ≡ ds)
cons_same e = (cc, cc)
