-- An item is a tag exactly where the text begins with one.
use Rattle.std.proofs.Common.{◌≡◌, ◌≢◌, ℕ, Bool, true, false, cond, List, [], ◌∷◌, ◌++◌, Some, refl, sym, ap, ◌∙◌, subst, inl, inr, append_assoc, eqb-true}
use Rattle.std.specs.Prelude.{codes, ◌↔◌, ◌==◌}
use Rattle.std.proofs.lemmas.Bool.{false_from_ne_true}
use Rattle.xc_chars.specs.Characters.{is_space, is_name_start, is_name_char}
use Rattle.xc_elements.specs.Fronts.{followed_by, ◌>>=◌, ◌>>◌, give, refuse, one, by_next, past, exactly, run, Turn, More, Last, sequence}
use Rattle.xc_elements.specs.Items.{Name, Pair, Meaning, Start, Empty, is_nil, qualified_name, attribute, attribute_or_end_by, attribute_or_end, tag_rest, tag, markup, item}
use Rattle.xc_elements.specs.Grammar.Words.{AreSpaces, IsPlainName, IsName}
use Rattle.xc_elements.specs.Grammar.Attributes.{IsAttribute}
use Rattle.xc_elements.specs.Grammar.Tags.{Closes, BeginsWithAttribute, HasAttributes, IsTag}
use Rattle.xc_elements.proofs.FrontLaws.{split, same_answer, exactly_whole}
use Rattle.xc_elements.proofs.ItemLaws.{attribute_or_end_ends}
use Rattle.xc_elements.proofs.SequenceLaws.{turns_from_ends}
use Rattle.xc_elements.proofs.Grammar.Attributes.{attribute_holds}
use Rattle.xc_elements.proofs.Grammar.Kinds.{as_start, as_empty}
use Rattle.xc_elements.proofs.Grammar.Names.{IsRun, run_read, run_spelled, NameRead, EndsName, qualified_name_read, qualified_name_spelled, by_space, space_ends_name, spaces_end_name}
use Rattle.xc_elements.proofs.Grammar.Sequences.{Steps, sequence_read, sequence_spelled}
use Rattle.xc_elements.proofs.Grammar.Shapes.{chosen_front, shape_of}

-- what closes a tag
abbrev pub closing : Bool → List ℕ
closing true = codes "/>"
closing false = codes ">"

-- ---- the turns of a tag

more_pair : (p q : Pair) → ◌≡◌ {A = Turn Pair Bool} (More p) (More q) → p ≡ q
more_pair p q e = cc

same_end : (a b : Bool) → ◌≡◌ {A = Turn Pair Bool} (Last a) (Last b) → a ≡ b
same_end a b e = cc

end_is_no_pair : (b : Bool) (p : Pair) → ◌≡◌ {A = Turn Pair Bool} (Last b) (More p) → ⊥
end_is_no_pair b p e = absurd cc

abbrev pub ends : Bool → Turn Pair Bool
ends b = Last b

abbrev pub pairs_on : Pair → Turn Pair Bool
pairs_on p = More p

pub not_nil : (spaces : List ℕ) → is_nil spaces ≡ false → spaces ≢ []
not_nil spaces h e = let on = ap is_nil e in let clash : true ≡ false = sym on ∙ h in absurd (let two = clash in cc)

pub nil_not : (spaces : List ℕ) → spaces ≢ [] → is_nil spaces ≡ false
nil_not [] h = absurd (h refl)
nil_not (c ∷ cs) h = refl

closed_by : (text spaces middle rest : List ℕ) (b : Bool) → IsRun is_space text spaces middle → middle ≡ closing b ++ rest → Closes (closing b) text rest
closed_by text spaces middle rest b t e = record { spaces = spaces; whole = t.whole ∙ ap (λ (z : List ℕ). spaces ++ z) e; white = t.each }

after_spaces_more : (spaces middle : List ℕ) (p : Pair) (after : List ℕ) → by_next (attribute_or_end_by spaces) middle ≡ Some (More p, after) → (spaces ≢ []) × (attribute middle ≡ Some (p, after))
unfolding by_next one followed_by give refuse
after_spaces_more spaces [] p after e = absurd cc
after_spaces_more spaces (c ∷ cs) p after e =
    elim (chosen_front (c == 62) (past (give (ends false))) (cond (c == 47) (past (exactly (codes ">") >> give (ends true))) (cond (is_nil spaces) refuse (attribute >>= λ a. give (pairs_on a)))) (c ∷ cs) (Some (More p, after)) e) [
      | inl h ↦ absurd (end_is_no_pair false p (same_answer (ends false) (pairs_on p) cs after h.1).0)
      | inr h ↦
          elim (chosen_front (c == 47) (past (exactly (codes ">") >> give (ends true))) (cond (is_nil spaces) refuse (attribute >>= λ a. give (pairs_on a))) (c ∷ cs) (Some (More p, after)) h.1) [
            | inl g ↦ let s = split (exactly (codes ">") cs) (λ _. give (ends true)) (pairs_on p, after) g.1 in absurd (end_is_no_pair true p (same_answer (ends true) (pairs_on p) s.0.1 after s.2).0)
            | inr g ↦
                elim (chosen_front (is_nil spaces) refuse (attribute >>= λ a. give (pairs_on a)) (c ∷ cs) (Some (More p, after)) g.1) [
                  | inl k ↦ absurd (let none = k.1 in cc)
                  | inr k ↦
                      let s = split (attribute (c ∷ cs)) (λ a. give (pairs_on a)) (pairs_on p, after) k.1 in
                      let same = same_answer (pairs_on s.0.0) (pairs_on p) s.0.1 after s.2 in
                      let pair = more_pair s.0.0 p same.0 in
                      (not_nil spaces k.0, s.1 ∙ (λ i. Some (pair i, same.1 i)))
                ]
          ]
    ]

bracket_read : (c : ℕ) (cs : List ℕ) (b : Bool) (rest : List ℕ) → (c == 62) ≡ true → (ends false ≡ ends b) × (cs ≡ rest) → (c ∷ cs) ≡ closing b ++ rest
bracket_read c cs b rest on same =
    let first = eqb-true c 62 on in
    let end = same_end false b same.0 in
    (λ i. first i ∷ same.1 i) ∙ ap (λ (d : Bool). closing d ++ rest) end

slash_read : (c : ℕ) (cs : List ℕ) (b : Bool) (rest : List ℕ) → (c == 47) ≡ true → cs ≡ codes ">" ++ rest → ends true ≡ ends b → (c ∷ cs) ≡ closing b ++ rest
slash_read c cs b rest on whole same =
    let first = eqb-true c 47 on in
    let end = same_end true b same in
    (λ i. first i ∷ whole i) ∙ ap (λ (d : Bool). closing d ++ rest) end

after_spaces_last : (spaces middle : List ℕ) (b : Bool) (rest : List ℕ) → by_next (attribute_or_end_by spaces) middle ≡ Some (Last b, rest) → middle ≡ closing b ++ rest
unfolding by_next one followed_by give refuse
after_spaces_last spaces [] b rest e = absurd cc
after_spaces_last spaces (c ∷ cs) b rest e =
    elim (chosen_front (c == 62) (past (give (ends false))) (cond (c == 47) (past (exactly (codes ">") >> give (ends true))) (cond (is_nil spaces) refuse (attribute >>= λ a. give (pairs_on a)))) (c ∷ cs) (Some (Last b, rest)) e) [
      | inl h ↦ bracket_read c cs b rest h.0 (same_answer (ends false) (ends b) cs rest h.1)
      | inr h ↦
          elim (chosen_front (c == 47) (past (exactly (codes ">") >> give (ends true))) (cond (is_nil spaces) refuse (attribute >>= λ a. give (pairs_on a))) (c ∷ cs) (Some (Last b, rest)) h.1) [
            | inl g ↦
                let s = split (exactly (codes ">") cs) (λ _. give (ends true)) (ends b, rest) g.1 in
                let same = same_answer (ends true) (ends b) s.0.1 rest s.2 in
                slash_read c cs b rest g.0 (exactly_whole (codes ">") cs s.0.0 s.0.1 s.1 ∙ ap (λ (z : List ℕ). codes ">" ++ z) same.1) same.0
            | inr g ↦
                elim (chosen_front (is_nil spaces) refuse (attribute >>= λ a. give (pairs_on a)) (c ∷ cs) (Some (Last b, rest)) g.1) [
                  | inl k ↦ absurd (let none = k.1 in cc)
                  | inr k ↦
                      let s = split (attribute (c ∷ cs)) (λ a. give (pairs_on a)) (ends b, rest) k.1 in
                      absurd (end_is_no_pair b s.0.0 (sym (same_answer (pairs_on s.0.0) (ends b) s.0.1 rest s.2).0))
                ]
          ]
    ]

with_attribute : (text spaces middle : List ℕ) (p : Pair) (after : List ℕ) → IsRun is_space text spaces middle → (spaces ≢ []) × (attribute middle ≡ Some (p, after)) → BeginsWithAttribute text p after
with_attribute text spaces middle p after t h = record { spaces = spaces; spaced = middle; whole = t.whole; some = h.0; white = t.each; attribute = (attribute_holds middle p after).0 h.1 }

turn_read : (text : List ℕ) (p : Pair) (after : List ℕ) → attribute_or_end text ≡ Some (More p, after) → BeginsWithAttribute text p after
unfolding attribute_or_end followed_by
turn_read text p after e =
    let s = split (run is_space text) (λ spaces. by_next (attribute_or_end_by spaces)) (pairs_on p, after) e in
    with_attribute text s.0.0 s.0.1 p after (run_read is_space text s.0.0 s.0.1 s.1) (after_spaces_more s.0.0 s.0.1 p after s.2)

last_read : (text : List ℕ) (b : Bool) (rest : List ℕ) → attribute_or_end text ≡ Some (Last b, rest) → Closes (closing b) text rest
unfolding attribute_or_end followed_by
last_read text b rest e =
    let s = split (run is_space text) (λ spaces. by_next (attribute_or_end_by spaces)) (ends b, rest) e in
    closed_by text s.0.0 s.0.1 rest b (run_read is_space text s.0.0 s.0.1 s.1) (after_spaces_last s.0.0 s.0.1 b rest s.2)

attributes_read : (pairs : List Pair) (text : List ℕ) (b : Bool) (rest : List ℕ) → Steps attribute_or_end pairs text b rest → HasAttributes (closing b) pairs text rest
attributes_read [] text b rest h = last_read text b rest h
attributes_read (p ∷ ps) text b rest h = (h.0, turn_read text p h.0 h.1.taken, attributes_read ps h.0 b rest h.2)

-- ---- tags

tagged : (text : List ℕ) (name : Name) (middle : List ℕ) (pairs : List Pair) (b : Bool) (rest : List ℕ) → NameRead text name middle → HasAttributes (closing b) pairs middle rest → IsTag (closing b) (codes "<" ++ text) name pairs rest
tagged text name middle pairs b rest n h = record { written = n.written; after = middle; whole = ap (λ (z : List ℕ). codes "<" ++ z) n.whole; named = n.named; attributes = h }

-- the tag of a name with attributes, of an empty element or not
abbrev pub meaning_of : Bool → Name → List Pair → Meaning
meaning_of b name pairs = cond b (Empty name pairs) (Start name pairs)

pub record TagRead (text : List ℕ) (m : Meaning) (rest : List ℕ) : Type 0 where
  pub is_empty : Bool
  pub name : Name
  pub pairs : List Pair
  pub spelled : IsTag (closing is_empty) (codes "<" ++ text) name pairs rest
  pub meant : meaning_of is_empty name pairs ≡ m

tag_read : (text : List ℕ) (m : Meaning) (rest : List ℕ) → tag text ≡ Some (m, rest) → TagRead text m rest
unfolding tag tag_rest followed_by give
tag_read text m rest e =
    let n = split (qualified_name text) (λ name. tag_rest >>= λ body. give (meaning_of body.1 name body.0)) (m, rest) e in
    let u = split (sequence attribute_or_end n.0.1) (λ body. give (meaning_of body.1 n.0.0 body.0)) (m, rest) n.2 in
    let same = same_answer (meaning_of u.0.0.1 n.0.0 u.0.0.0) m u.0.1 rest u.2 in
    let found = attributes_read u.0.0.0 n.0.1 u.0.0.1 u.0.1 (sequence_read attribute_or_end n.0.1 u.0.0 u.0.1 u.1) in
    record {
      is_empty = u.0.0.1;
      name = n.0.0;
      pairs = u.0.0.0;
      spelled = subst (λ (z : List ℕ). IsTag (closing u.0.0.1) (codes "<" ++ text) n.0.0 u.0.0.0 z) same.1 (tagged text n.0.0 n.0.1 u.0.0.0 u.0.0.1 u.0.1 (qualified_name_read text n.0.0 n.0.1 n.1) found);
      meant = same.0;
    }

start_same : (a b : Name) (ps qs : List Pair) → Start a ps ≡ Start b qs → (a ≡ b) × (ps ≡ qs)
start_same a b ps qs e = (cc, cc)

empty_same : (a b : Name) (ps qs : List Pair) → Empty a ps ≡ Empty b qs → (a ≡ b) × (ps ≡ qs)
empty_same a b ps qs e = (cc, cc)

start_is_not_empty : (a b : Name) (ps qs : List Pair) → Start a ps ≡ Empty b qs → ⊥
start_is_not_empty a b ps qs e = absurd cc

tag_is : (closing text : List ℕ) (a b : Name) (ps qs : List Pair) (rest : List ℕ) → (a ≡ b) × (ps ≡ qs) → IsTag closing text a ps rest → IsTag closing text b qs rest
tag_is closing text a b ps qs rest same h = subst (λ (n : Name). IsTag closing text n qs rest) same.0 (subst (λ (z : List Pair). IsTag closing text a z rest) same.1 h)

start_of : (text : List ℕ) (name : Name) (pairs : List Pair) (rest : List ℕ) (b : Bool) (a : Name) (ps : List Pair) → meaning_of b a ps ≡ Start name pairs → IsTag (closing b) text a ps rest → IsTag (codes ">") text name pairs rest
start_of text name pairs rest true a ps e h = absurd (start_is_not_empty name a pairs ps (sym e))
start_of text name pairs rest false a ps e h = tag_is (codes ">") text a name ps pairs rest (start_same a name ps pairs e) h

empty_of : (text : List ℕ) (name : Name) (pairs : List Pair) (rest : List ℕ) (b : Bool) (a : Name) (ps : List Pair) → meaning_of b a ps ≡ Empty name pairs → IsTag (closing b) text a ps rest → IsTag (codes "/>") text name pairs rest
empty_of text name pairs rest false a ps e h = absurd (start_is_not_empty a name ps pairs e)
empty_of text name pairs rest true a ps e h = tag_is (codes "/>") text a name ps pairs rest (empty_same a name ps pairs e) h

start_found : (is_first : Bool) (text : List ℕ) (name : Name) (pairs : List Pair) (rest : List ℕ) → item is_first text ≡ Some (Start name pairs, rest) → IsTag (codes ">") text name pairs rest
start_found is_first text name pairs rest e =
    let t = as_start is_first text (Start name pairs) rest refl (shape_of is_first text (Start name pairs) rest e) in
    let r = tag_read t.after (Start name pairs) rest t.taken in
    subst (λ (z : List ℕ). IsTag (codes ">") z name pairs rest) (sym t.whole) (start_of (codes "<" ++ t.after) name pairs rest r.is_empty r.name r.pairs r.meant r.spelled)

empty_found : (is_first : Bool) (text : List ℕ) (name : Name) (pairs : List Pair) (rest : List ℕ) → item is_first text ≡ Some (Empty name pairs, rest) → IsTag (codes "/>") text name pairs rest
empty_found is_first text name pairs rest e =
    let t = as_empty is_first text (Empty name pairs) rest refl (shape_of is_first text (Empty name pairs) rest e) in
    let r = tag_read t.after (Empty name pairs) rest t.taken in
    subst (λ (z : List ℕ). IsTag (codes "/>") z name pairs rest) (sym t.whole) (empty_of (codes "<" ++ t.after) name pairs rest r.is_empty r.name r.pairs r.meant r.spelled)

-- ---- the other way

-- a name begins with a character that may begin one
pub record NameFirst (written : List ℕ) : Type 0 where
  pub first : ℕ
  pub others : List ℕ
  pub whole : written ≡ first ∷ others
  pub start : is_name_start first ≡ true

pub plain_first : (name rest : List ℕ) → IsPlainName name → NameFirst (name ++ rest)
plain_first [] rest h = absurd h
plain_first (c ∷ cs) rest h = record { first = c; others = cs ++ rest; whole = refl; start = h.0 }

first_is : (written text : List ℕ) → written ≡ text → NameFirst text → NameFirst written
first_is written text e h = record { first = h.first; others = h.others; whole = e ∙ h.whole; start = h.start }

pub name_first : (written : List ℕ) (name : Name) (rest : List ℕ) → IsName written name → NameFirst (written ++ rest)
name_first written name rest (inl h) = first_is (written ++ rest) (name.local ++ rest) (ap (λ (z : List ℕ). z ++ rest) h.whole) (plain_first name.local rest h.local)
name_first written name rest (inr h) = first_is (written ++ rest) ((name.prefix ++ (58 ∷ name.local)) ++ rest) (ap (λ (z : List ℕ). z ++ rest) h.whole) (first_is ((name.prefix ++ (58 ∷ name.local)) ++ rest) (name.prefix ++ ((58 ∷ name.local) ++ rest)) (append_assoc name.prefix (58 ∷ name.local) rest) (plain_first name.prefix ((58 ∷ name.local) ++ rest) h.prefix))

pub start_differs : (c k : ℕ) → is_name_start c ≡ true → is_name_start k ≡ false → (c == k) ≡ false
start_differs c k on off = false_from_ne_true (c == k) (λ same. let clash : true ≡ false = sym on ∙ ap is_name_start (eqb-true c k same) ∙ off in absurd (let two = clash in cc))

space_is_no_start : (c : ℕ) → is_space c ≡ true → is_name_start c ≡ false
unfolding is_name_start
space_is_no_start c h = by_space (λ d. is_name_start d ≡ false) refl refl refl refl c h

pub start_is_no_space : (c : ℕ) → is_name_start c ≡ true → is_space c ≡ false
start_is_no_space c on = false_from_ne_true (is_space c) (λ space. let clash : true ≡ false = sym on ∙ space_is_no_start c space in absurd (let two = clash in cc))

attribute_first : (text : List ℕ) (p : Pair) (after : List ℕ) → IsAttribute text p after → NameFirst text
attribute_first text p after h = first_is text _ h.whole (name_first h.written p.name _ h.named)

marks_start_none : (is_name_start 62 ≡ false) × (is_name_start 47 ≡ false) × (is_name_start 63 ≡ false) × (is_name_start 33 ≡ false)
unfolding is_name_start
marks_start_none = (refl, refl, refl, refl)

turn_at_start : (spaces : List ℕ) (c : ℕ) (cs : List ℕ) (p : Pair) (after : List ℕ) → AreSpaces spaces → spaces ≢ [] → is_name_start c ≡ true → attribute (c ∷ cs) ≡ Some (p, after) → attribute_or_end (spaces ++ (c ∷ cs)) ≡ Some (More p, after)
unfolding attribute_or_end followed_by by_next one give
turn_at_start spaces c cs p after white some start e =
    rw (run_spelled is_space spaces (c ∷ cs) white (start_is_no_space c start), start_differs c 62 start marks_start_none.0, start_differs c 47 start marks_start_none.1, nil_not spaces some, e) refl

turn_spelled : (text : List ℕ) (p : Pair) (after : List ℕ) → BeginsWithAttribute text p after → attribute_or_end text ≡ Some (More p, after)
turn_spelled text p after h =
    let f = attribute_first h.spaced p after h.attribute in
    let whole = h.whole ∙ ap (λ (z : List ℕ). h.spaces ++ z) f.whole in
    let found = ap attribute (sym f.whole) ∙ (attribute_holds h.spaced p after).1 h.attribute in
    ap attribute_or_end whole ∙ turn_at_start h.spaces f.first f.others p after h.white h.some f.start found

closed_spelled : (b : Bool) (spaces rest : List ℕ) → AreSpaces spaces → attribute_or_end (spaces ++ (closing b ++ rest)) ≡ Some (Last b, rest)
unfolding attribute_or_end followed_by by_next one give exactly
closed_spelled true spaces rest white = rw (run_spelled is_space spaces (47 ∷ (62 ∷ rest)) white refl) refl
closed_spelled false spaces rest white = rw (run_spelled is_space spaces (62 ∷ rest) white refl) refl

attributes_spelled : (pairs : List Pair) (text : List ℕ) (b : Bool) (rest : List ℕ) → HasAttributes (closing b) pairs text rest → Steps attribute_or_end pairs text b rest
attributes_spelled [] text b rest h = ap attribute_or_end h.whole ∙ closed_spelled b h.spaces rest h.white
attributes_spelled (p ∷ ps) text b rest h = (h.0, record { taken = turn_spelled text p h.0 h.1 }, attributes_spelled ps h.0 b rest h.2)

closing_ends_name : (b : Bool) (rest : List ℕ) → EndsName (closing b ++ rest)
unfolding is_name_char is_name_start
closing_ends_name true rest = (refl, refl)
closing_ends_name false rest = (refl, refl)

pub some_spaces_end_name : (spaces rest : List ℕ) → spaces ≢ [] → AreSpaces spaces → EndsName (spaces ++ rest)
some_spaces_end_name [] rest some white = absurd (some refl)
some_spaces_end_name (c ∷ cs) rest some white = space_ends_name c (cs ++ rest) white.0

attributes_end_name : (pairs : List Pair) (text : List ℕ) (b : Bool) (rest : List ℕ) → HasAttributes (closing b) pairs text rest → EndsName text
attributes_end_name [] text b rest h = subst EndsName (sym h.whole) (spaces_end_name h.spaces (closing b ++ rest) h.white (closing_ends_name b rest))
attributes_end_name (p ∷ ps) text b rest h = subst EndsName (sym h.1.whole) (some_spaces_end_name h.1.spaces h.1.spaced h.1.some h.1.white)

tag_spelled : (written after : List ℕ) (name : Name) (pairs : List Pair) (b : Bool) (rest : List ℕ) → IsName written name → HasAttributes (closing b) pairs after rest → tag (written ++ after) ≡ Some (meaning_of b name pairs, rest)
unfolding tag tag_rest followed_by give
tag_spelled written after name pairs b rest n h =
    rw (qualified_name_spelled written name after n (attributes_end_name pairs after b rest h), sequence_spelled attribute_or_end (turns_from_ends attribute_or_end_ends) pairs after b rest (attributes_spelled pairs after b rest h)) refl

markup_at_start : (is_first : Bool) (c : ℕ) (cs : List ℕ) → is_name_start c ≡ true → item is_first (60 ∷ (c ∷ cs)) ≡ tag (c ∷ cs)
unfolding item markup followed_by by_next one
markup_at_start is_first c cs start = rw (start_differs c 47 start marks_start_none.1, start_differs c 63 start marks_start_none.2, start_differs c 33 start marks_start_none.3) refl

tag_item : (is_first : Bool) (b : Bool) (text : List ℕ) (name : Name) (pairs : List Pair) (rest : List ℕ) → IsTag (closing b) text name pairs rest → item is_first text ≡ Some (meaning_of b name pairs, rest)
tag_item is_first b text name pairs rest h =
    let f = name_first h.written name h.after h.named in
    ap (item is_first) (h.whole ∙ ap (λ (z : List ℕ). 60 ∷ z) f.whole)
    ∙ markup_at_start is_first f.first f.others f.start
    ∙ ap tag (sym f.whole)
    ∙ tag_spelled h.written h.after name pairs b rest h.named h.attributes

pub start_tag_holds : (is_first : Bool) (text : List ℕ) (name : Name) (pairs : List Pair) (rest : List ℕ) → (item is_first text ≡ Some (Start name pairs, rest)) ↔ IsTag (codes ">") text name pairs rest
start_tag_holds is_first text name pairs rest = (start_found is_first text name pairs rest, tag_item is_first false text name pairs rest)

pub empty_tag_holds : (is_first : Bool) (text : List ℕ) (name : Name) (pairs : List Pair) (rest : List ℕ) → (item is_first text ≡ Some (Empty name pairs, rest)) ↔ IsTag (codes "/>") text name pairs rest
empty_tag_holds is_first text name pairs rest = (empty_found is_first text name pairs rest, tag_item is_first true text name pairs rest)
