-- An item is an end tag exactly where the text begins with one.
use Rattle.std.proofs.Common.{◌≡◌, ℕ, Bool, List, ◌∷◌, ◌++◌, Some, refl, sym, ap, ◌∙◌, subst}
use Rattle.std.specs.Prelude.{codes, ◌↔◌}
use Rattle.xc_chars.specs.Characters.{is_space, is_name_start, is_name_char}
use Rattle.xc_elements.specs.Fronts.{followed_by, ◌>>=◌, give, one, by_next, exactly, run}
use Rattle.xc_elements.specs.Items.{Name, End, qualified_name, end_tag, markup, item}
use Rattle.xc_elements.specs.Grammar.EndTags.{IsEndTag}
use Rattle.xc_elements.proofs.FrontLaws.{split, same_answer, exactly_whole}
use Rattle.xc_elements.proofs.Grammar.Kinds.{as_end_tag}
use Rattle.xc_elements.proofs.Grammar.Names.{IsRun, run_read, run_spelled, NameRead, EndsName, qualified_name_read, qualified_name_spelled, spaces_end_name}
use Rattle.xc_elements.proofs.Grammar.Shapes.{shape_of}

end_tag_spaced : (text after : List ℕ) (name : Name) (spaces rest : List ℕ) → NameRead text name after → IsRun is_space after spaces (codes ">" ++ rest) → IsEndTag (codes "</" ++ text) name rest
end_tag_spaced text after name spaces rest t u = record {
  written = t.written;
  spaces = spaces;
  whole = ap (λ (z : List ℕ). codes "</" ++ z) (t.whole ∙ ap (λ (z : List ℕ). t.written ++ z) u.whole);
  named = t.named;
  white = u.each;
}

name_same : (a b : Name) → End a ≡ End b → a ≡ b
name_same a b e = cc

-- what is read as an end tag is spelled so
end_tag_read : (text : List ℕ) (name : Name) (rest : List ℕ) → end_tag text ≡ Some (End name, rest) → IsEndTag (codes "</" ++ text) name rest
unfolding end_tag followed_by give
end_tag_read text name rest e =
    let s = split (qualified_name text) (λ name. run is_space >>= λ _. exactly (codes ">") >>= λ _. give (End name)) (End name, rest) e in
    let u = split (run is_space s.0.1) (λ _. exactly (codes ">") >>= λ _. give (End s.0.0)) (End name, rest) s.2 in
    let v = split (exactly (codes ">") u.0.1) (λ _. give (End s.0.0)) (End name, rest) u.2 in
    let same = same_answer (End s.0.0) (End name) v.0.1 rest v.2 in
    let ends = exactly_whole (codes ">") u.0.1 v.0.0 v.0.1 v.1 ∙ ap (λ (z : List ℕ). codes ">" ++ z) same.1 in
    let spaced = subst (λ (z : List ℕ). IsRun is_space s.0.1 u.0.0 z) ends (run_read is_space s.0.1 u.0.0 u.0.1 u.1) in
    subst (λ (n : Name). IsEndTag (codes "</" ++ text) n rest) (name_same s.0.0 name same.0)
    (end_tag_spaced text s.0.1 s.0.0 u.0.0 rest (qualified_name_read text s.0.0 s.0.1 s.1) spaced)

bracket_ends_name : (rest : List ℕ) → EndsName (62 ∷ rest)
unfolding is_name_char is_name_start
bracket_ends_name rest = (refl, refl)

-- what is spelled so is read as an end tag
end_tag_spelled : (is_first : Bool) (text : List ℕ) (name : Name) (rest : List ℕ) → IsEndTag text name rest → item is_first text ≡ Some (End name, rest)
unfolding item markup end_tag by_next one followed_by give exactly
end_tag_spelled is_first text name rest h =
    rw (h.whole, qualified_name_spelled h.written name (h.spaces ++ (62 ∷ rest)) h.named (spaces_end_name h.spaces (62 ∷ rest) h.white (bracket_ends_name rest)), run_spelled is_space h.spaces (62 ∷ rest) h.white refl) refl

end_tag_found : (is_first : Bool) (text : List ℕ) (name : Name) (rest : List ℕ) → item is_first text ≡ Some (End name, rest) → IsEndTag text name rest
end_tag_found is_first text name rest e =
    let t = as_end_tag is_first text (End name) rest refl (shape_of is_first text (End name) rest e) in
    subst (λ (z : List ℕ). IsEndTag z name rest) (sym t.whole) (end_tag_read t.after name rest t.taken)

pub end_tag_holds : (is_first : Bool) (text : List ℕ) (name : Name) (rest : List ℕ) → (item is_first text ≡ Some (End name, rest)) ↔ IsEndTag text name rest
end_tag_holds is_first text name rest = (end_tag_found is_first text name rest, end_tag_spelled is_first text name rest)
