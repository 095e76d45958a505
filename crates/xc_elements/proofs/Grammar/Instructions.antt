-- An item is an instruction exactly where the text begins with one.
use Rattle.std.proofs.Common.{◌≡◌, ◌≢◌, ℕ, Bool, true, false, cond, List, [], ◌∷◌, ◌++◌, map, Some, None, refl, sym, ap, ◌∙◌, ◌⊎◌, subst, inl, inr, arith}
use Rattle.std.specs.Prelude.{codes, ◌↔◌, ◌&&◌}
use Rattle.std.specs.Char.{to_ascii_lowercase}
use Rattle.xc_chars.specs.Characters.{is_space, is_name_start, is_name_char}
use Rattle.xc_elements.specs.Fronts.{followed_by, ◌>>◌, give, refuse, one, by_next, exactly, up_to}
use Rattle.xc_elements.specs.Items.{Instruction, spells, spells_in_any_case, plain_name, declaration, instruction_rest, behind_target, instruction, markup, item}
use Rattle.xc_elements.specs.Grammar.Words.{BeginsWithSpace, Occurs}
use Rattle.xc_elements.specs.Grammar.Instructions.{IsSpaced, IsInstruction}
use Rattle.xc_elements.proofs.FrontLaws.{split, same_answer, exactly_whole, exactly_again}
use Rattle.xc_elements.proofs.Grammar.Kinds.{declaration_kind, as_instruction}
use Rattle.xc_elements.proofs.Grammar.Marks.{FirstMark, first_mark, up_to_first, nowhere, none_unless, cons_same}
use Rattle.xc_elements.proofs.Grammar.Names.{Stops, PlainRead, plain_name_read, plain_name_spelled, space_ends_name}
use Rattle.xc_elements.proofs.Grammar.Shapes.{chosen_front, shape_of}
use Rattle.xc_elements.proofs.Grammar.Spelling.{spells_word, spells_other}

-- what follows a target
record Follows (text rest : List ℕ) : Type 0 where
  pub body : List ℕ
  pub whole : text ≡ body ++ (codes "?>" ++ rest)
  pub behind : (body ≡ []) ⊎ IsSpaced body

space_first : (c : ℕ) (cs body rest : List ℕ) → is_space c ≡ true → (c ∷ cs) ≡ body ++ (codes "?>" ++ rest) → BeginsWithSpace body
space_first c cs [] rest h e = let no = ap is_space (cons_same e).0 in let off : true ≡ false = sym h ∙ no in absurd cc
space_first c cs (d ∷ ds) rest h e = ap is_space (sym (cons_same e).0) ∙ h

spaced_read : (c : ℕ) (cs body rest : List ℕ) → is_space c ≡ true → FirstMark (codes "?>") (c ∷ cs) body rest → Follows (c ∷ cs) rest
spaced_read c cs body rest h t = record {
  body = body;
  whole = t.whole;
  behind = inr (record { space = space_first c cs body rest h t.whole; characters = t.characters; single = nowhere 63 (62 ∷ []) (c ∷ cs) body rest t });
}

follows_read : (text rest : List ℕ) → instruction_rest text ≡ Some (Instruction, rest) → Follows text rest
unfolding instruction_rest by_next one followed_by give
follows_read [] rest e = absurd cc
follows_read (c ∷ cs) rest e =
    elim (chosen_front (is_space c) (up_to (codes "?>") >> give Instruction) (exactly (codes "?>") >> give Instruction) (c ∷ cs) (Some (Instruction, rest)) e) [
      | inl h ↦
          let s = split (up_to (codes "?>") (c ∷ cs)) (λ _. give Instruction) (Instruction, rest) h.1 in
          let same = same_answer Instruction Instruction s.0.1 rest s.2 in
          let t = first_mark (codes "?>") (omega arith) (c ∷ cs) s.0.0 s.0.1 s.1 in
          spaced_read c cs s.0.0 rest h.0 (subst (λ (z : List ℕ). FirstMark (codes "?>") (c ∷ cs) s.0.0 z) same.1 t)
      | inr h ↦
          let s = split (exactly (codes "?>") (c ∷ cs)) (λ _. give Instruction) (Instruction, rest) h.1 in
          let same = same_answer Instruction Instruction s.0.1 rest s.2 in
          record { body = []; whole = exactly_whole (codes "?>") (c ∷ cs) s.0.0 s.0.1 s.1 ∙ ap (λ (z : List ℕ). codes "?>" ++ z) same.1; behind = inl refl }
    ]

-- the target is another than `xml`, and an instruction follows
record Behind (target text rest : List ℕ) : Type 0 where
  pub other : map to_ascii_lowercase target ≢ codes "xml"
  pub follows : Follows text rest

no_declaration : (text rest : List ℕ) → declaration text ≡ Some (Instruction, rest) → ⊥
no_declaration text rest e = let no = declaration_kind text Instruction rest e in absurd (omega (arith, no))

behind_read : (is_first : Bool) (target text rest : List ℕ) → behind_target is_first target text ≡ Some (Instruction, rest) → Behind target text rest
unfolding refuse
behind_read is_first target text rest e =
    elim (chosen_front (spells_in_any_case target (codes "xml")) (cond (is_first && spells target (codes "xml")) declaration refuse) instruction_rest text (Some (Instruction, rest)) e) [
      | inl h ↦
          elim (chosen_front (is_first && spells target (codes "xml")) declaration refuse text (Some (Instruction, rest)) h.1) [
            | inl g ↦ absurd (no_declaration text rest g.1)
            | inr g ↦ absurd (let no = g.1 in cc)
          ]
      | inr h ↦ record { other = λ same. (let on = spells_word (map to_ascii_lowercase target) (codes "xml") same in let off = h.0 in cc); follows = follows_read text rest h.1 }
    ]

instruction_spaced : (text target after rest : List ℕ) → PlainRead text target after → Behind target after rest → IsInstruction (codes "<?" ++ text) rest
instruction_spaced text target after rest t u = record {
  target = target;
  body = u.follows.body;
  whole = ap (λ (z : List ℕ). codes "<?" ++ z) (t.whole ∙ ap (λ (z : List ℕ). target ++ z) u.follows.whole);
  named = record { name = t.plain; other = u.other };
  behind = u.follows.behind;
}

-- what is read as an instruction is spelled so
instruction_read : (is_first : Bool) (text rest : List ℕ) → instruction is_first text ≡ Some (Instruction, rest) → IsInstruction (codes "<?" ++ text) rest
unfolding instruction followed_by
instruction_read is_first text rest e =
    let s = split (plain_name text) (behind_target is_first) (Instruction, rest) e in
    instruction_spaced text s.0.0 s.0.1 rest (plain_name_read text s.0.0 s.0.1 s.1) (behind_read is_first s.0.0 s.0.1 rest s.2)

-- ---- the other way

mark_later : (body rest : List ℕ) → ¬ (Occurs (codes "?>") body) → (front : List ℕ) (c : ℕ) (cs : List ℕ) → body ≡ front ++ (c ∷ cs) → exactly (codes "?>") (c ∷ (cs ++ (codes "?>" ++ rest))) ≡ None
mark_later body rest single front c cs e = none_unless _ (λ x is. by_tail cs e (exactly_whole (codes "?>") (c ∷ (cs ++ (codes "?>" ++ rest))) x.0 x.1 is))
  where
    marks_differ : ◌≡◌ {A = ℕ} 63 62 → ⊥
    marks_differ e = absurd (omega (arith, e))

    by_tail : {after : List ℕ} (cs : List ℕ) → body ≡ front ++ (c ∷ cs) → (c ∷ (cs ++ (codes "?>" ++ rest))) ≡ codes "?>" ++ after → ⊥
    by_tail [] e f = marks_differ (cons_same (cons_same f).1).0
    by_tail (d ∷ ds) e f =
        let first = cons_same f in
        let second = cons_same first.1 in
        single (record { before = front; after = ds; whole = e ∙ (λ i. front ++ (first.0 i ∷ (second.0 i ∷ ds))) })

spaced_spelled : (body rest : List ℕ) → IsSpaced body → instruction_rest (body ++ (codes "?>" ++ rest)) ≡ Some (Instruction, rest)
unfolding instruction_rest by_next one followed_by give
spaced_spelled [] rest h = absurd h.space
spaced_spelled (c ∷ cs) rest h = rw (h.space, up_to_first (codes "?>") (omega arith) (c ∷ cs) rest h.characters (mark_later (c ∷ cs) rest h.single)) refl

bare_spelled : (rest : List ℕ) → instruction_rest (codes "?>" ++ rest) ≡ Some (Instruction, rest)
unfolding instruction_rest by_next one followed_by give
bare_spelled rest = rw (exactly_again (codes "?>") rest) refl

follows_spelled : (body rest : List ℕ) → (body ≡ []) ⊎ IsSpaced body → instruction_rest (body ++ (codes "?>" ++ rest)) ≡ Some (Instruction, rest)
follows_spelled body rest (inl e) = ap (λ (z : List ℕ). instruction_rest (z ++ (codes "?>" ++ rest))) e ∙ bare_spelled rest
follows_spelled body rest (inr h) = spaced_spelled body rest h

mark_stops : (rest : List ℕ) → Stops is_name_char (63 ∷ rest)
unfolding is_name_char is_name_start
mark_stops rest = refl

spaced_stops : (body rest : List ℕ) → BeginsWithSpace body → Stops is_name_char (body ++ rest)
spaced_stops [] rest h = absurd h
spaced_stops (c ∷ cs) rest h = (space_ends_name c (cs ++ rest) h).0

follows_stops : (body rest : List ℕ) → (body ≡ []) ⊎ IsSpaced body → Stops is_name_char (body ++ (codes "?>" ++ rest))
follows_stops body rest (inl e) = subst (λ (z : List ℕ). Stops is_name_char (z ++ (codes "?>" ++ rest))) (sym e) (mark_stops (62 ∷ rest))
follows_stops body rest (inr h) = spaced_stops body (codes "?>" ++ rest) h.space

-- what is spelled so is read as an instruction
instruction_spelled : (is_first : Bool) (text rest : List ℕ) → IsInstruction text rest → item is_first text ≡ Some (Instruction, rest)
unfolding item markup instruction by_next one followed_by
instruction_spelled is_first text rest h =
    rw (h.whole, plain_name_spelled h.target (h.body ++ (codes "?>" ++ rest)) h.named.name (follows_stops h.body rest h.behind), spells_other (map to_ascii_lowercase h.target) (codes "xml") h.named.other)
    (follows_spelled h.body rest h.behind)

instruction_found : (is_first : Bool) (text rest : List ℕ) → item is_first text ≡ Some (Instruction, rest) → IsInstruction text rest
instruction_found is_first text rest e =
    let t = as_instruction is_first text Instruction rest refl (shape_of is_first text Instruction rest e) in
    subst (λ (z : List ℕ). IsInstruction z rest) (sym t.whole) (instruction_read is_first t.after rest t.taken)

pub instruction_holds : (is_first : Bool) (text rest : List ℕ) → (item is_first text ≡ Some (Instruction, rest)) ↔ IsInstruction text rest
instruction_holds is_first text rest = (instruction_found is_first text rest, instruction_spelled is_first text rest)
