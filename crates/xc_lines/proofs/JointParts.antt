-- A text has one joint part at most.
use Rattle.std.proofs.Common.{◌≡◌, ◌≢◌, ℕ, zero, suc, List, [], ◌∷◌, ◌++◌, take, refl, sym, ap, ◌∙◌, subst, inl, inr, append_assoc}
use Rattle.std.specs.List.{AllByRecursion}
use Rattle.std.specs.Prelude.{codes}
use Rattle.xc_lists.proofs.Cutting.{Continues, first_line, lines_meet}
use Rattle.xc_lists.proofs.Lacking.{all_back, lacks_by}
use Rattle.xc_lists.specs.TextLines.{AreLines, text_of}
use Rattle.xc_lists.specs.Members.{Lacks}
use Rattle.xc_lines.specs.JointPart.{BeginsJoint, IsPlain, IsJointPart}
use Rattle.xc_lines.specs.Laws.{HasOneJointPart}

same_head : (x y : ℕ) (xs ys : List ℕ) → x ∷ xs ≡ y ∷ ys → x ≡ y
same_head x y xs ys e = cc

same_tail : (x y : ℕ) (xs ys : List ℕ) → x ∷ xs ≡ y ∷ ys → xs ≡ ys
same_tail x y xs ys e = cc

plain_are_lines : (lines : List (List ℕ)) → AllByRecursion IsPlain lines → AreLines lines
plain_are_lines [] h = tt
plain_are_lines (line ∷ lines) h = (h.0.0, plain_are_lines lines h.1)

-- a word without the byte that ends a line begins a text only where it begins the line
begins_line : (byte n : ℕ) (line rest word : List ℕ) → Lacks byte word → take n (line ++ byte ∷ rest) ≡ word → take n line ≡ word
begins_line byte zero line rest word lacks e = e
begins_line byte (suc n) [] rest [] lacks e = absurd (cc)
begins_line byte (suc n) [] rest (w ∷ ws) lacks e = absurd (lacks.0 (sym (same_head byte w (take n rest) ws e)))
begins_line byte (suc n) (b ∷ bs) rest [] lacks e = absurd (cc)
begins_line byte (suc n) (b ∷ bs) rest (w ∷ ws) lacks e =
    let first : b ≡ w = same_head b w (take n (bs ++ byte ∷ rest)) ws e in
    let later : take n bs ≡ ws = begins_line byte n bs rest ws lacks.1 (same_tail b w (take n (bs ++ byte ∷ rest)) ws e) in
    λ i. first i ∷ later i

-- what begins a joint part begins with no plain line
not_later : (part line other : List ℕ) (lines : List (List ℕ)) → BeginsJoint part → IsPlain line → part ≡ text_of (line ∷ lines) ++ other → ⊥
not_later part line other lines begins plain e =
    let flat : part ≡ line ++ 10 ∷ (text_of lines ++ other) = e ∙ first_line line (text_of lines) other in
    plain.1 (begins_line 10 6 line (text_of lines ++ other) (codes "joint ") (lacks_by 10 (codes "joint ") refl) (subst BeginsJoint flat begins))

-- of two joint parts neither stands before the other
same_part : (one other : List ℕ) (before after : List (List ℕ)) → BeginsJoint one → AllByRecursion IsPlain after → Continues before after one other → one ≡ other
same_part one other before after begins plain c = by c.more refl
  where
    by : (more : List (List ℕ)) → c.more ≡ more → one ≡ other
    by [] e = c.rest ∙ ap (λ lines. text_of lines ++ other) e
    by (line ∷ lines) e =
        let longer : after ≡ before ++ line ∷ lines = c.lines ∙ ap (λ more. before ++ more) e in
        absurd (not_later one line other lines begins (all_back IsPlain before (line ∷ lines) (subst (λ ls. AllByRecursion IsPlain ls) longer plain)).0 (c.rest ∙ ap (λ ls. text_of ls ++ other) e))

pub one_joint_part : HasOneJointPart
one_joint_part text one other h k =
    let f = h.plain in
    let g = k.plain in
    let same : text_of f.lines ++ one ≡ text_of g.lines ++ other = ap (λ before. before ++ one) (sym f.is) ∙ sym h.is ∙ k.is ∙ ap (λ before. before ++ other) g.is in
    elim (lines_meet f.lines g.lines one other (plain_are_lines f.lines f.plain) (plain_are_lines g.lines g.plain) same) [
      | inl c ↦ same_part one other f.lines g.lines h.begins g.plain c
      | inr c ↦ sym (same_part other one g.lines f.lines k.begins f.plain c)
    ]
