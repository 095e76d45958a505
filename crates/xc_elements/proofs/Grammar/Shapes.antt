-- With what an item of each kind begins, and which row it is of.
use Rattle.std.proofs.Common.{◌≡◌, ℕ, Bool, true, false, cond, List, [], ◌∷◌, ◌++◌, Option, Some, refl, sym, ap, ◌∙◌, ◌⊎◌, subst, inl, inr, eqb-true}
use Rattle.std.specs.Prelude.{codes, ◌==◌}
use Rattle.xc_chars.specs.Characters.{is_character}
use Rattle.xc_elements.specs.Fronts.{Front, followed_by, ◌>>=◌, ◌>>◌, give, refuse, one, by_next, past, exactly}
use Rattle.xc_elements.specs.Items.{Meaning, Letter, Reference, reference, tag, end_tag, instruction, comment, section, comment_or_section, markup, letter, item}
use Rattle.xc_elements.proofs.FrontLaws.{split, same_answer, exactly_whole}

-- an item by what begins it
pub data Shape (is_first : Bool) (text : List ℕ) (m : Meaning) (rest : List ℕ) : Type 0 where
  AsEnd : (t : List ℕ) → text ≡ codes "</" ++ t → end_tag t ≡ Some (m, rest) → Shape is_first text m rest
  AsInstruction : (t : List ℕ) → text ≡ codes "<?" ++ t → instruction is_first t ≡ Some (m, rest) → Shape is_first text m rest
  AsComment : (t : List ℕ) → text ≡ codes "<!--" ++ t → comment t ≡ Some (m, rest) → Shape is_first text m rest
  AsSection : (t : List ℕ) → text ≡ codes "<![CDATA[" ++ t → section t ≡ Some (m, rest) → Shape is_first text m rest
  AsTag : (t : List ℕ) → text ≡ codes "<" ++ t → tag t ≡ Some (m, rest) → Shape is_first text m rest
  AsReference : (t : List ℕ) (c : ℕ) → text ≡ codes "&" ++ t → reference t ≡ Some (c, rest) → Reference c ≡ m → Shape is_first text m rest
  AsLetter : (c : ℕ) → text ≡ c ∷ rest → is_character c ≡ true → (c == 60) ≡ false → (c == 38) ≡ false → Letter c ≡ m → Shape is_first text m rest

-- which of two fronts was taken
pub chosen_front : {A : Type 0} (b : Bool) (p q : Front A) (text : List ℕ) (z : Option (A × List ℕ)) → cond b p q text ≡ z → ((b ≡ true) × (p text ≡ z)) ⊎ ((b ≡ false) × (q text ≡ z))
chosen_front true p q text z e = inl (refl, e)
chosen_front false p q text z e = inr (refl, e)

behind_bang : (is_first : Bool) (t : List ℕ) (m : Meaning) (rest : List ℕ) → comment_or_section t ≡ Some (m, rest) → Shape is_first (codes "<!" ++ t) m rest
unfolding comment_or_section by_next one followed_by
behind_bang is_first [] m rest e = absurd cc
behind_bang is_first (c ∷ cs) m rest e =
    elim (chosen_front (c == 45) (exactly (codes "--") >> comment) (exactly (codes "[CDATA[") >> section) (c ∷ cs) (Some (m, rest)) e) [
      | inl h ↦
          let s = split (exactly (codes "--") (c ∷ cs)) (λ _. comment) (m, rest) h.1 in
          AsComment s.0.1 (ap (λ (z : List ℕ). codes "<!" ++ z) (exactly_whole (codes "--") (c ∷ cs) s.0.0 s.0.1 s.1)) s.2
      | inr h ↦
          let s = split (exactly (codes "[CDATA[") (c ∷ cs)) (λ _. section) (m, rest) h.1 in
          AsSection s.0.1 (ap (λ (z : List ℕ). codes "<!" ++ z) (exactly_whole (codes "[CDATA[") (c ∷ cs) s.0.0 s.0.1 s.1)) s.2
    ]

behind_open : (is_first : Bool) (t : List ℕ) (m : Meaning) (rest : List ℕ) → markup is_first t ≡ Some (m, rest) → Shape is_first (codes "<" ++ t) m rest
unfolding markup by_next one followed_by
behind_open is_first [] m rest e = absurd cc
behind_open is_first (c ∷ cs) m rest e =
    elim (chosen_front (c == 47) (past end_tag) (cond (c == 63) (past (instruction is_first)) (cond (c == 33) (past comment_or_section) tag)) (c ∷ cs) (Some (m, rest)) e) [
      | inl h ↦ AsEnd cs (ap (λ d. 60 ∷ (d ∷ cs)) (eqb-true c 47 h.0)) h.1
      | inr h ↦
          elim (chosen_front (c == 63) (past (instruction is_first)) (cond (c == 33) (past comment_or_section) tag) (c ∷ cs) (Some (m, rest)) h.1) [
            | inl g ↦ AsInstruction cs (ap (λ d. 60 ∷ (d ∷ cs)) (eqb-true c 63 g.0)) g.1
            | inr g ↦
                elim (chosen_front (c == 33) (past comment_or_section) tag (c ∷ cs) (Some (m, rest)) g.1) [
                  | inl k ↦ subst (λ d. Shape is_first (60 ∷ (d ∷ cs)) m rest) (sym (eqb-true c 33 k.0)) (behind_bang is_first cs m rest k.1)
                  | inr k ↦ AsTag (c ∷ cs) refl k.1
                ]
          ]
    ]

as_reference : (is_first : Bool) (t : List ℕ) (m : Meaning) (rest : List ℕ) → followed_by reference (λ r. give (Reference r)) t ≡ Some (m, rest) → Shape is_first (codes "&" ++ t) m rest
unfolding followed_by give
as_reference is_first t m rest e =
    let s = split (reference t) (λ r. give (Reference r)) (m, rest) e in
    let same = same_answer (Reference s.0.0) m s.0.1 rest s.2 in
    AsReference t s.0.0 refl (s.1 ∙ ap (λ (z : List ℕ). Some (s.0.0, z)) same.1) same.0

as_letter : (is_first : Bool) (c : ℕ) (cs : List ℕ) (m : Meaning) (rest : List ℕ) → (c == 60) ≡ false → (c == 38) ≡ false → letter (c ∷ cs) ≡ Some (m, rest) → Shape is_first (c ∷ cs) m rest
unfolding letter followed_by one give refuse
as_letter is_first c cs m rest no_tag no_reference e =
    elim (chosen_front (is_character c) (give (Letter c)) refuse cs (Some (m, rest)) e) [
      | inl h ↦
          let same = same_answer (Letter c) m cs rest h.1 in
          AsLetter c (ap (λ (z : List ℕ). c ∷ z) same.1) h.0 no_tag no_reference same.0
      | inr h ↦ absurd (let no = h.1 in cc)
    ]

-- every item has one of these shapes
pub shape_of : (is_first : Bool) (text : List ℕ) (m : Meaning) (rest : List ℕ) → item is_first text ≡ Some (m, rest) → Shape is_first text m rest
unfolding item by_next one followed_by
shape_of is_first [] m rest e = absurd cc
shape_of is_first (c ∷ cs) m rest e =
    elim (chosen_front (c == 60) (past (markup is_first)) (cond (c == 38) (past (reference >>= λ r. give (Reference r))) letter) (c ∷ cs) (Some (m, rest)) e) [
      | inl h ↦ subst (λ d. Shape is_first (d ∷ cs) m rest) (sym (eqb-true c 60 h.0)) (behind_open is_first cs m rest h.1)
      | inr h ↦
          elim (chosen_front (c == 38) (past (reference >>= λ r. give (Reference r))) letter (c ∷ cs) (Some (m, rest)) h.1) [
            | inl g ↦ subst (λ d. Shape is_first (d ∷ cs) m rest) (sym (eqb-true c 38 g.0)) (as_reference is_first cs m rest g.1)
            | inr g ↦ as_letter is_first c cs m rest h.0 g.0 g.1
          ]
    ]
