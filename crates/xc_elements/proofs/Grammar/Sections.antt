-- An item is a section exactly where the text begins with one.
use Rattle.std.proofs.Common.{◌≡◌, ℕ, Bool, List, [], ◌∷◌, ◌++◌, Some, None, refl, sym, ap, ◌∙◌, subst, arith}
use Rattle.std.specs.Prelude.{codes, ◌↔◌}
use Rattle.xc_elements.specs.Fronts.{followed_by, give, one, by_next, exactly, up_to}
use Rattle.xc_elements.specs.Items.{Meaning, Section, section, comment_or_section, markup, item}
use Rattle.xc_elements.specs.Grammar.Words.{Occurs}
use Rattle.xc_elements.specs.Grammar.Sections.{IsSection}
use Rattle.xc_elements.proofs.FrontLaws.{split, same_answer, exactly_whole}
use Rattle.xc_elements.proofs.Grammar.Marks.{FirstMark, first_mark, up_to_first, nowhere, none_unless, cons_same}
use Rattle.xc_elements.proofs.Grammar.Kinds.{as_section}
use Rattle.xc_elements.proofs.Grammar.Shapes.{shape_of}

section_marked : (text body rest : List ℕ) → FirstMark (codes "]]>") text body rest → IsSection (codes "<![CDATA[" ++ text) body rest
section_marked text body rest t = record {
  whole = ap (λ (z : List ℕ). codes "<![CDATA[" ++ z) t.whole;
  characters = t.characters;
  single = nowhere 93 (93 ∷ (62 ∷ [])) text body rest t;
}

-- what is read as a section is spelled so
section_read : (text : List ℕ) (m : Meaning) (rest : List ℕ) → section text ≡ Some (m, rest) → (body : List ℕ) × (Section body ≡ m) × IsSection (codes "<![CDATA[" ++ text) body rest
unfolding section followed_by give
section_read text m rest e =
    let s = split (up_to (codes "]]>") text) (λ body. give (Section body)) (m, rest) e in
    let same = same_answer (Section s.0.0) m s.0.1 rest s.2 in
    let t = first_mark (codes "]]>") (omega arith) text s.0.0 s.0.1 s.1 in
    (s.0.0, same.0, section_marked text s.0.0 rest (subst (λ (z : List ℕ). FirstMark (codes "]]>") text s.0.0 z) same.1 t))

brackets_end : ◌≡◌ {A = ℕ} 93 62 → ⊥
brackets_end e = absurd cc

mark_later : (body rest : List ℕ) → ¬ (Occurs (codes "]]>") body) → (front : List ℕ) (c : ℕ) (cs : List ℕ) → body ≡ front ++ (c ∷ cs) → exactly (codes "]]>") (c ∷ (cs ++ (codes "]]>" ++ rest))) ≡ None
mark_later body rest single front c cs e = none_unless _ (λ x is. by_tail cs e (exactly_whole (codes "]]>") (c ∷ (cs ++ (codes "]]>" ++ rest))) x.0 x.1 is))
  where
    by_tail : {after : List ℕ} (cs : List ℕ) → body ≡ front ++ (c ∷ cs) → (c ∷ (cs ++ (codes "]]>" ++ rest))) ≡ codes "]]>" ++ after → ⊥
    by_tail [] e f = brackets_end (cons_same (cons_same (cons_same f).1).1).0
    by_tail (d ∷ []) e f = brackets_end (cons_same (cons_same (cons_same f).1).1).0
    by_tail (d ∷ (b ∷ ds)) e f =
        let first = cons_same f in
        let second = cons_same first.1 in
        let third = cons_same second.1 in
        single (record { before = front; after = ds; whole = e ∙ (λ i. front ++ (first.0 i ∷ (second.0 i ∷ (third.0 i ∷ ds)))) })

-- what is spelled so is read as a section
section_spelled : (is_first : Bool) (text body rest : List ℕ) → IsSection text body rest → item is_first text ≡ Some (Section body, rest)
unfolding item markup comment_or_section section by_next one followed_by give exactly
section_spelled is_first text body rest h =
    rw (h.whole, up_to_first (codes "]]>") (omega arith) body rest h.characters (mark_later body rest h.single)) refl

section_same : (a b : List ℕ) → Section a ≡ Section b → a ≡ b
section_same a b e = cc

section_found : (is_first : Bool) (text body rest : List ℕ) → item is_first text ≡ Some (Section body, rest) → IsSection text body rest
section_found is_first text body rest e =
    let t = as_section is_first text (Section body) rest refl (shape_of is_first text (Section body) rest e) in
    let found = section_read t.after (Section body) rest t.taken in
    subst (λ (z : List ℕ). IsSection z body rest) (sym t.whole) (subst (λ (b : List ℕ). IsSection (codes "<![CDATA[" ++ t.after) b rest) (section_same found.0 body found.1) found.2)

pub section_holds : (is_first : Bool) (text body rest : List ℕ) → (item is_first text ≡ Some (Section body, rest)) ↔ IsSection text body rest
section_holds is_first text body rest = (section_found is_first text body rest, section_spelled is_first text body rest)
