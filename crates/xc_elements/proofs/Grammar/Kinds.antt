-- Each kind of item is told by what the text begins with.
use Rattle.std.proofs.Common.{◌≡◌, ℕ, Bool, true, false, cond, List, [], ◌∷◌, ◌++◌, Some, refl, sym, ap, ◌∙◌, ◌⊎◌, subst, inl, inr, arith}
use Rattle.std.specs.Prelude.{codes, ◌==◌, if◌then◌else◌, ◌&&◌}
use Rattle.xc_chars.specs.Characters.{is_character, is_space}
use Rattle.xc_elements.specs.Fronts.{Front, followed_by, ◌>>=◌, ◌>>◌, give, refuse, one, by_next, exactly, run, up_to, sequence}
use Rattle.xc_elements.specs.Items.{Name, Pair, Meaning, Declaration, Start, Empty, End, Comment, Instruction, Section, Letter, Reference, spells, spells_in_any_case, plain_name, qualified_name, reference, tag_rest, part_or_end, tag, end_tag, declaration, instruction_rest, behind_target, instruction, comment, section}
use Rattle.xc_elements.proofs.FrontLaws.{split, same_answer}
use Rattle.xc_elements.proofs.Grammar.Shapes.{chosen_front, Shape, AsEnd, AsInstruction, AsComment, AsSection, AsTag, AsReference, AsLetter}

-- a number for each kind
abbrev pub kind : Meaning → ℕ
kind Declaration = 0
kind (Start name pairs) = 1
kind (Empty name pairs) = 2
kind (End name) = 3
kind Comment = 4
kind Instruction = 5
kind (Section text) = 6
kind (Letter c) = 7
kind (Reference c) = 8

end_kind : (text : List ℕ) (m : Meaning) (rest : List ℕ) → end_tag text ≡ Some (m, rest) → kind m ≡ 3
unfolding end_tag followed_by give
end_kind text m rest e =
    let s = split (qualified_name text) (λ name. run is_space >>= λ _. exactly (codes ">") >>= λ _. give (End name)) (m, rest) e in
    let u = split (run is_space s.0.1) (λ _. exactly (codes ">") >>= λ _. give (End s.0.0)) (m, rest) s.2 in
    let v = split (exactly (codes ">") u.0.1) (λ _. give (End s.0.0)) (m, rest) u.2 in
    ap kind (sym (same_answer (End s.0.0) m v.0.1 rest v.2).0)

comment_kind : (text : List ℕ) (m : Meaning) (rest : List ℕ) → comment text ≡ Some (m, rest) → kind m ≡ 4
unfolding comment followed_by give
comment_kind text m rest e =
    let s = split (followed_by (up_to (codes "--")) (λ _. exactly (codes ">")) text) (λ _. give Comment) (m, rest) e in
    ap kind (sym (same_answer Comment m s.0.1 rest s.2).0)

section_kind : (text : List ℕ) (m : Meaning) (rest : List ℕ) → section text ≡ Some (m, rest) → kind m ≡ 6
unfolding section followed_by give
section_kind text m rest e =
    let s = split (up_to (codes "]]>") text) (λ body. give (Section body)) (m, rest) e in
    ap kind (sym (same_answer (Section s.0.0) m s.0.1 rest s.2).0)

which_tag : (b : Bool) (name : Name) (pairs : List Pair) → (kind (cond b (Empty name pairs) (Start name pairs)) ≡ 1) ⊎ (kind (cond b (Empty name pairs) (Start name pairs)) ≡ 2)
which_tag true name pairs = inr refl
which_tag false name pairs = inl refl

tag_kind : (text : List ℕ) (m : Meaning) (rest : List ℕ) → tag text ≡ Some (m, rest) → (kind m ≡ 1) ⊎ (kind m ≡ 2)
unfolding tag followed_by give
tag_kind text m rest e =
    let s = split (qualified_name text) (λ name. tag_rest >>= λ body. give (cond body.1 (Empty name body.0) (Start name body.0))) (m, rest) e in
    let u = split (tag_rest s.0.1) (λ body. give (cond body.1 (Empty s.0.0 body.0) (Start s.0.0 body.0))) (m, rest) s.2 in
    let same = same_answer (cond u.0.0.1 (Empty s.0.0 u.0.0.0) (Start s.0.0 u.0.0.0)) m u.0.1 rest u.2 in
    subst (λ n. (kind n ≡ 1) ⊎ (kind n ≡ 2)) same.0 (which_tag u.0.0.1 s.0.0 u.0.0.0)

pub declaration_kind : (text : List ℕ) (m : Meaning) (rest : List ℕ) → declaration text ≡ Some (m, rest) → kind m ≡ 0
unfolding declaration followed_by give
declaration_kind text m rest e =
    let s = split (sequence part_or_end text) (λ _. give Declaration) (m, rest) e in
    ap kind (sym (same_answer Declaration m s.0.1 rest s.2).0)

pub instruction_rest_kind : (text : List ℕ) (m : Meaning) (rest : List ℕ) → instruction_rest text ≡ Some (m, rest) → kind m ≡ 5
unfolding instruction_rest by_next one followed_by give
instruction_rest_kind [] m rest e = absurd cc
instruction_rest_kind (c ∷ cs) m rest e =
    elim (chosen_front (is_space c) (up_to (codes "?>") >> give Instruction) (exactly (codes "?>") >> give Instruction) (c ∷ cs) (Some (m, rest)) e) [
      | inl h ↦ let s = split (up_to (codes "?>") (c ∷ cs)) (λ _. give Instruction) (m, rest) h.1 in ap kind (sym (same_answer Instruction m s.0.1 rest s.2).0)
      | inr h ↦ let s = split (exactly (codes "?>") (c ∷ cs)) (λ _. give Instruction) (m, rest) h.1 in ap kind (sym (same_answer Instruction m s.0.1 rest s.2).0)
    ]

behind_target_kind : (is_first : Bool) (target text : List ℕ) (m : Meaning) (rest : List ℕ) → behind_target is_first target text ≡ Some (m, rest) → (kind m ≡ 0) ⊎ (kind m ≡ 5)
unfolding refuse
behind_target_kind is_first target text m rest e =
    elim (chosen_front (spells_in_any_case target (codes "xml")) (if is_first && spells target (codes "xml") then declaration else refuse) instruction_rest text (Some (m, rest)) e) [
      | inl h ↦
          elim (chosen_front (is_first && spells target (codes "xml")) declaration refuse text (Some (m, rest)) h.1) [
            | inl g ↦ inl (declaration_kind text m rest g.1)
            | inr g ↦ absurd (let no = g.1 in cc)
          ]
      | inr h ↦ inr (instruction_rest_kind text m rest h.1)
    ]

instruction_kind : (is_first : Bool) (text : List ℕ) (m : Meaning) (rest : List ℕ) → instruction is_first text ≡ Some (m, rest) → (kind m ≡ 0) ⊎ (kind m ≡ 5)
unfolding instruction followed_by
instruction_kind is_first text m rest e =
    let s = split (plain_name text) (behind_target is_first) (m, rest) e in
    behind_target_kind is_first s.0.0 s.0.1 m rest s.2

-- which of two kinds it is, is no third
neither : (k m n l : ℕ) → (k ≡ m) ⊎ (k ≡ n) → k ≡ l → (m ≡ l → ⊥) → (n ≡ l → ⊥) → ⊥
neither k m n l (inl e) is f g = f (sym e ∙ is)
neither k m n l (inr e) is f g = g (sym e ∙ is)

-- what a front took of the text behind the word that begins it
pub record Behind (word : List ℕ) (p : Front Meaning) (text : List ℕ) (m : Meaning) (rest : List ℕ) : Type 0 where
  pub after : List ℕ
  pub whole : text ≡ word ++ after
  pub taken : p after ≡ Some (m, rest)

pub as_end_tag : (is_first : Bool) (text : List ℕ) (m : Meaning) (rest : List ℕ) → kind m ≡ 3 → Shape is_first text m rest → Behind (codes "</") end_tag text m rest
as_end_tag is_first text m rest k (AsEnd t w e) = record { after = t; whole = w; taken = e }
as_end_tag is_first text m rest k (AsInstruction t w e) = absurd (neither (kind m) 0 5 3 (instruction_kind is_first t m rest e) k (omega arith) (omega arith))
as_end_tag is_first text m rest k (AsComment t w e) = absurd (omega (arith, k, comment_kind t m rest e))
as_end_tag is_first text m rest k (AsSection t w e) = absurd (omega (arith, k, section_kind t m rest e))
as_end_tag is_first text m rest k (AsTag t w e) = absurd (neither (kind m) 1 2 3 (tag_kind t m rest e) k (omega arith) (omega arith))
as_end_tag is_first text m rest k (AsReference t c w e is) = absurd (omega (arith, k, ap kind is))
as_end_tag is_first text m rest k (AsLetter c w good no_tag no_reference is) = absurd (omega (arith, k, ap kind is))

pub as_comment : (is_first : Bool) (text : List ℕ) (m : Meaning) (rest : List ℕ) → kind m ≡ 4 → Shape is_first text m rest → Behind (codes "<!--") comment text m rest
as_comment is_first text m rest k (AsEnd t w e) = absurd (omega (arith, k, end_kind t m rest e))
as_comment is_first text m rest k (AsInstruction t w e) = absurd (neither (kind m) 0 5 4 (instruction_kind is_first t m rest e) k (omega arith) (omega arith))
as_comment is_first text m rest k (AsComment t w e) = record { after = t; whole = w; taken = e }
as_comment is_first text m rest k (AsSection t w e) = absurd (omega (arith, k, section_kind t m rest e))
as_comment is_first text m rest k (AsTag t w e) = absurd (neither (kind m) 1 2 4 (tag_kind t m rest e) k (omega arith) (omega arith))
as_comment is_first text m rest k (AsReference t c w e is) = absurd (omega (arith, k, ap kind is))
as_comment is_first text m rest k (AsLetter c w good no_tag no_reference is) = absurd (omega (arith, k, ap kind is))

pub as_section : (is_first : Bool) (text : List ℕ) (m : Meaning) (rest : List ℕ) → kind m ≡ 6 → Shape is_first text m rest → Behind (codes "<![CDATA[") section text m rest
as_section is_first text m rest k (AsEnd t w e) = absurd (omega (arith, k, end_kind t m rest e))
as_section is_first text m rest k (AsInstruction t w e) = absurd (neither (kind m) 0 5 6 (instruction_kind is_first t m rest e) k (omega arith) (omega arith))
as_section is_first text m rest k (AsComment t w e) = absurd (omega (arith, k, comment_kind t m rest e))
as_section is_first text m rest k (AsSection t w e) = record { after = t; whole = w; taken = e }
as_section is_first text m rest k (AsTag t w e) = absurd (neither (kind m) 1 2 6 (tag_kind t m rest e) k (omega arith) (omega arith))
as_section is_first text m rest k (AsReference t c w e is) = absurd (omega (arith, k, ap kind is))
as_section is_first text m rest k (AsLetter c w good no_tag no_reference is) = absurd (omega (arith, k, ap kind is))

pub as_instruction : (is_first : Bool) (text : List ℕ) (m : Meaning) (rest : List ℕ) → kind m ≡ 5 → Shape is_first text m rest → Behind (codes "<?") (instruction is_first) text m rest
as_instruction is_first text m rest k (AsEnd t w e) = absurd (omega (arith, k, end_kind t m rest e))
as_instruction is_first text m rest k (AsInstruction t w e) = record { after = t; whole = w; taken = e }
as_instruction is_first text m rest k (AsComment t w e) = absurd (omega (arith, k, comment_kind t m rest e))
as_instruction is_first text m rest k (AsSection t w e) = absurd (omega (arith, k, section_kind t m rest e))
as_instruction is_first text m rest k (AsTag t w e) = absurd (neither (kind m) 1 2 5 (tag_kind t m rest e) k (omega arith) (omega arith))
as_instruction is_first text m rest k (AsReference t c w e is) = absurd (omega (arith, k, ap kind is))
as_instruction is_first text m rest k (AsLetter c w good no_tag no_reference is) = absurd (omega (arith, k, ap kind is))

pub as_declaration : (is_first : Bool) (text : List ℕ) (m : Meaning) (rest : List ℕ) → kind m ≡ 0 → Shape is_first text m rest → Behind (codes "<?") (instruction is_first) text m rest
as_declaration is_first text m rest k (AsEnd t w e) = absurd (omega (arith, k, end_kind t m rest e))
as_declaration is_first text m rest k (AsInstruction t w e) = record { after = t; whole = w; taken = e }
as_declaration is_first text m rest k (AsComment t w e) = absurd (omega (arith, k, comment_kind t m rest e))
as_declaration is_first text m rest k (AsSection t w e) = absurd (omega (arith, k, section_kind t m rest e))
as_declaration is_first text m rest k (AsTag t w e) = absurd (neither (kind m) 1 2 0 (tag_kind t m rest e) k (omega arith) (omega arith))
as_declaration is_first text m rest k (AsReference t c w e is) = absurd (omega (arith, k, ap kind is))
as_declaration is_first text m rest k (AsLetter c w good no_tag no_reference is) = absurd (omega (arith, k, ap kind is))

pub as_start : (is_first : Bool) (text : List ℕ) (m : Meaning) (rest : List ℕ) → kind m ≡ 1 → Shape is_first text m rest → Behind (codes "<") tag text m rest
as_start is_first text m rest k (AsEnd t w e) = absurd (omega (arith, k, end_kind t m rest e))
as_start is_first text m rest k (AsInstruction t w e) = absurd (neither (kind m) 0 5 1 (instruction_kind is_first t m rest e) k (omega arith) (omega arith))
as_start is_first text m rest k (AsComment t w e) = absurd (omega (arith, k, comment_kind t m rest e))
as_start is_first text m rest k (AsSection t w e) = absurd (omega (arith, k, section_kind t m rest e))
as_start is_first text m rest k (AsTag t w e) = record { after = t; whole = w; taken = e }
as_start is_first text m rest k (AsReference t c w e is) = absurd (omega (arith, k, ap kind is))
as_start is_first text m rest k (AsLetter c w good no_tag no_reference is) = absurd (omega (arith, k, ap kind is))

pub as_empty : (is_first : Bool) (text : List ℕ) (m : Meaning) (rest : List ℕ) → kind m ≡ 2 → Shape is_first text m rest → Behind (codes "<") tag text m rest
as_empty is_first text m rest k (AsEnd t w e) = absurd (omega (arith, k, end_kind t m rest e))
as_empty is_first text m rest k (AsInstruction t w e) = absurd (neither (kind m) 0 5 2 (instruction_kind is_first t m rest e) k (omega arith) (omega arith))
as_empty is_first text m rest k (AsComment t w e) = absurd (omega (arith, k, comment_kind t m rest e))
as_empty is_first text m rest k (AsSection t w e) = absurd (omega (arith, k, section_kind t m rest e))
as_empty is_first text m rest k (AsTag t w e) = record { after = t; whole = w; taken = e }
as_empty is_first text m rest k (AsReference t c w e is) = absurd (omega (arith, k, ap kind is))
as_empty is_first text m rest k (AsLetter c w good no_tag no_reference is) = absurd (omega (arith, k, ap kind is))

pub record ReferenceBehind (text : List ℕ) (c : ℕ) (rest : List ℕ) : Type 0 where
  pub after : List ℕ
  pub whole : text ≡ codes "&" ++ after
  pub taken : reference after ≡ Some (c, rest)

reference_same : (c d : ℕ) → Reference c ≡ Reference d → c ≡ d
reference_same c d e = cc

letter_same : (c d : ℕ) → Letter c ≡ Letter d → c ≡ d
letter_same c d e = cc

pub record LetterBehind (text : List ℕ) (c : ℕ) (rest : List ℕ) : Type 0 where
  pub whole : text ≡ c ∷ rest
  pub character : is_character c ≡ true
  pub no_tag : (c == 60) ≡ false
  pub no_reference : (c == 38) ≡ false

letter_is : (text : List ℕ) (c d : ℕ) (rest : List ℕ) → c ≡ d → LetterBehind text c rest → LetterBehind text d rest
letter_is text c d rest e t = subst (λ x. LetterBehind text x rest) e t

pub as_reference : (is_first : Bool) (text : List ℕ) (m : Meaning) (d : ℕ) (rest : List ℕ) → Reference d ≡ m → Shape is_first text m rest → ReferenceBehind text d rest
as_reference is_first text m d rest k (AsEnd t w e) = absurd (omega (arith, ap kind k, end_kind t m rest e))
as_reference is_first text m d rest k (AsInstruction t w e) = absurd (neither (kind m) 0 5 8 (instruction_kind is_first t m rest e) (sym (ap kind k)) (omega arith) (omega arith))
as_reference is_first text m d rest k (AsComment t w e) = absurd (omega (arith, ap kind k, comment_kind t m rest e))
as_reference is_first text m d rest k (AsSection t w e) = absurd (omega (arith, ap kind k, section_kind t m rest e))
as_reference is_first text m d rest k (AsTag t w e) = absurd (neither (kind m) 1 2 8 (tag_kind t m rest e) (sym (ap kind k)) (omega arith) (omega arith))
as_reference is_first text m d rest k (AsReference t c w e is) = record { after = t; whole = w; taken = e ∙ ap (λ x. Some (x, rest)) (reference_same c d (is ∙ sym k)) }
as_reference is_first text m d rest k (AsLetter c w good no_tag no_reference is) = absurd (omega (arith, ap kind k, ap kind is))

pub as_letter : (is_first : Bool) (text : List ℕ) (m : Meaning) (d : ℕ) (rest : List ℕ) → Letter d ≡ m → Shape is_first text m rest → LetterBehind text d rest
as_letter is_first text m d rest k (AsEnd t w e) = absurd (omega (arith, ap kind k, end_kind t m rest e))
as_letter is_first text m d rest k (AsInstruction t w e) = absurd (neither (kind m) 0 5 7 (instruction_kind is_first t m rest e) (sym (ap kind k)) (omega arith) (omega arith))
as_letter is_first text m d rest k (AsComment t w e) = absurd (omega (arith, ap kind k, comment_kind t m rest e))
as_letter is_first text m d rest k (AsSection t w e) = absurd (omega (arith, ap kind k, section_kind t m rest e))
as_letter is_first text m d rest k (AsTag t w e) = absurd (neither (kind m) 1 2 7 (tag_kind t m rest e) (sym (ap kind k)) (omega arith) (omega arith))
as_letter is_first text m d rest k (AsReference t c w e is) = absurd (omega (arith, ap kind k, ap kind is))
as_letter is_first text m d rest k (AsLetter c w good no_tag no_reference is) = letter_is text c d rest (letter_same c d (is ∙ sym k)) (record { whole = w; character = good; no_tag = no_tag; no_reference = no_reference })
