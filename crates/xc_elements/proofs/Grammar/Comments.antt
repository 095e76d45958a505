-- An item is a comment exactly where the text begins with one.
use Rattle.std.proofs.Common.{◌≡◌, ℕ, Bool, List, [], ◌∷◌, ◌++◌, Some, None, refl, sym, ap, ◌∙◌, subst, arith}
use Rattle.std.specs.Prelude.{codes, ◌↔◌}
use Rattle.xc_elements.specs.Fronts.{followed_by, give, one, by_next, exactly, up_to}
use Rattle.xc_elements.specs.Items.{Meaning, Comment, comment, comment_or_section, markup, item}
use Rattle.xc_elements.specs.Grammar.Words.{Occurs, EndsIn}
use Rattle.xc_elements.specs.Grammar.Comments.{IsComment}
use Rattle.xc_elements.proofs.FrontLaws.{split, same_answer, exactly_whole}
use Rattle.xc_elements.proofs.Grammar.Marks.{FirstMark, first_mark, up_to_first, nowhere, none_unless}
use Rattle.xc_elements.proofs.Grammar.Kinds.{as_comment}
use Rattle.xc_elements.proofs.Grammar.Shapes.{shape_of}

ends_in_no_hyphen : (text body rest : List ℕ) → FirstMark (codes "--") text body (codes ">" ++ rest) → EndsIn (codes "-") body → ⊥
unfolding exactly
ends_in_no_hyphen text body rest t h = let no = t.first h.before 45 [] h.whole in absurd cc

comment_marked : (text body rest : List ℕ) → FirstMark (codes "--") text body (codes ">" ++ rest) → IsComment (codes "<!--" ++ text) rest
comment_marked text body rest t = record {
  body = body;
  whole = ap (λ (z : List ℕ). codes "<!--" ++ z) t.whole;
  characters = t.characters;
  single = nowhere 45 (45 ∷ []) text body (codes ">" ++ rest) t;
  last = ends_in_no_hyphen text body rest t;
}

-- what is read as a comment is spelled so
comment_read : (text : List ℕ) (m : Meaning) (rest : List ℕ) → comment text ≡ Some (m, rest) → (Comment ≡ m) × IsComment (codes "<!--" ++ text) rest
unfolding comment followed_by give
comment_read text m rest e =
    let s = split (followed_by (up_to (codes "--")) (λ _. exactly (codes ">")) text) (λ _. give Comment) (m, rest) e in
    let u = split (up_to (codes "--") text) (λ _. exactly (codes ">")) s.0 s.1 in
    let same = same_answer Comment m s.0.1 rest s.2 in
    let t = first_mark (codes "--") (omega arith) text u.0.0 u.0.1 u.1 in
    let ends = exactly_whole (codes ">") u.0.1 s.0.0 s.0.1 u.2 ∙ ap (λ (z : List ℕ). codes ">" ++ z) same.1 in
    (same.0, comment_marked text u.0.0 rest (subst (λ (z : List ℕ). FirstMark (codes "--") text u.0.0 z) ends t))

hyphens_later : (body rest : List ℕ) → ¬ (Occurs (codes "--") body) → ¬ (EndsIn (codes "-") body) → (front : List ℕ) (c : ℕ) (cs : List ℕ) → body ≡ front ++ (c ∷ cs) → exactly (codes "--") (c ∷ (cs ++ (codes "--" ++ rest))) ≡ None
hyphens_later body rest single last front c cs e = none_unless _ (λ x is. by_tail cs e (exactly_whole (codes "--") (c ∷ (cs ++ (codes "--" ++ rest))) x.0 x.1 is))
  where
    by_tail : {after : List ℕ} (cs : List ℕ) → body ≡ front ++ (c ∷ cs) → (c ∷ (cs ++ (codes "--" ++ rest))) ≡ codes "--" ++ after → ⊥
    by_tail [] e f = last (record { before = front; whole = e ∙ ap (λ (z : ℕ). front ++ (z ∷ [])) (let d : c ≡ 45 = cc in d) })
    by_tail (d ∷ ds) e f = single (record { before = front; after = ds; whole = e ∙ (let c_is : c ≡ 45 = cc in let d_is : d ≡ 45 = cc in cc) })

-- what is spelled so is read as a comment
comment_spelled : (is_first : Bool) (text rest : List ℕ) → IsComment text rest → item is_first text ≡ Some (Comment, rest)
unfolding item markup comment_or_section comment by_next one followed_by give exactly
comment_spelled is_first text rest h =
    rw (h.whole, up_to_first (codes "--") (omega arith) h.body (codes ">" ++ rest) h.characters (hyphens_later h.body (codes ">" ++ rest) h.single h.last)) refl

comment_found : (is_first : Bool) (text rest : List ℕ) → item is_first text ≡ Some (Comment, rest) → IsComment text rest
comment_found is_first text rest e =
    let t = as_comment is_first text Comment rest refl (shape_of is_first text Comment rest e) in
    subst (λ (z : List ℕ). IsComment z rest) (sym t.whole) (comment_read t.after Comment rest t.taken).1

pub comment_holds : (is_first : Bool) (text rest : List ℕ) → (item is_first text ≡ Some (Comment, rest)) ↔ IsComment text rest
comment_holds is_first text rest = (comment_found is_first text rest, comment_spelled is_first text rest)
