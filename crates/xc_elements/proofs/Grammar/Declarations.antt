-- An item is the declaration exactly where it is the first and the text begins with one.
use Rattle.std.proofs.Common.{◌≡◌, ◌≢◌, ℕ, zero, suc, Bool, true, false, cond, List, [], ◌∷◌, ◌++◌, map, length, Some, refl, sym, ap, ◌∙◌, subst, inl, inr, eqb-true, eq-eqb, arith}
use Rattle.std.specs.Prelude.{codes, ◌↔◌, ◌==◌, ◌&&◌, ◌||◌, not}
use Rattle.std.specs.Char.{to_ascii_lowercase}
use Rattle.std.proofs.lemmas.Bool.{and_from, and_parts, or_cases, or_left, or_right, not-true, false_from_ne_true, cases_Bool}
use Rattle.xc_chars.specs.Characters.{is_character, is_space, is_name_start, is_name_char}
use Rattle.xc_elements.specs.Fronts.{followed_by, ◌>>=◌, ◌>>◌, give, refuse, one, by_next, past, exactly, run, Turn, More, Last, sequence}
use Rattle.xc_elements.specs.Items.{Declaration, is_nil, spells, spells_in_any_case, is_known_encoding, may_declare, is_inside, plain_name, equals_sign, quote, part, part_or_end_by, part_or_end, declaration, instruction_rest, behind_target, instruction, markup, item}
use Rattle.xc_elements.specs.Grammar.Words.{Each, AreCharacters, AreSpaces, IsPlainName, Occurs}
use Rattle.xc_elements.specs.Grammar.Tags.{Closes}
use Rattle.xc_elements.specs.Grammar.Declarations.{IsEncoding, IsPart, BeginsWithPart, HasParts, IsDeclaration}
use Rattle.xc_elements.proofs.FrontLaws.{split, same_answer, exactly_whole, exactly_again}
use Rattle.xc_elements.proofs.ItemLaws.{part_or_end_ends}
use Rattle.xc_elements.proofs.SequenceLaws.{turns_from_ends}
use Rattle.xc_elements.proofs.Grammar.Attributes.{IsEquals, equals_read, equals_spelled, QuoteRead, quote_read, quote_spelled, quote_stops}
use Rattle.xc_elements.proofs.Grammar.Kinds.{instruction_rest_kind, as_declaration}
use Rattle.xc_elements.proofs.Grammar.Names.{Stops, IsRun, run_read, run_spelled, PlainRead, plain_name_read, plain_name_spelled, space_ends_name}
use Rattle.xc_elements.proofs.Grammar.Sequences.{Steps, sequence_read, sequence_spelled}
use Rattle.xc_elements.proofs.Grammar.Shapes.{chosen_front, shape_of}
use Rattle.xc_elements.proofs.Grammar.Spelling.{spelled_is, spells_word, each_at}
use Rattle.xc_elements.proofs.Grammar.Tags.{not_nil, nil_not, NameFirst, plain_first, start_differs, start_is_no_space, some_spaces_end_name}

clash : {A : Type 0} → true ≡ false → A
clash e = absurd (let two = e in cc)

-- ---- encodings

encoding_read : (value : List ℕ) → is_known_encoding value ≡ true → IsEncoding value
encoding_read value h =
    elim (or_cases (spells_in_any_case value (codes "utf-8") || spells_in_any_case value (codes "us-ascii")) (spells_in_any_case value (codes "ascii")) h) [
      | inl g ↦
          elim (or_cases (spells_in_any_case value (codes "utf-8")) (spells_in_any_case value (codes "us-ascii")) g) [
            | inl k ↦ inl (spelled_is (map to_ascii_lowercase value) (codes "utf-8") k)
            | inr k ↦ inr (inl (spelled_is (map to_ascii_lowercase value) (codes "us-ascii") k))
          ]
      | inr g ↦ inr (inr (spelled_is (map to_ascii_lowercase value) (codes "ascii") g))
    ]

encoding_known : (value : List ℕ) → IsEncoding value → is_known_encoding value ≡ true
encoding_known value (inl h) = or_left (spells_in_any_case value (codes "utf-8") || spells_in_any_case value (codes "us-ascii")) (spells_in_any_case value (codes "ascii")) (or_left (spells_in_any_case value (codes "utf-8")) (spells_in_any_case value (codes "us-ascii")) (spells_word (map to_ascii_lowercase value) (codes "utf-8") h))
encoding_known value (inr (inl h)) = or_left (spells_in_any_case value (codes "utf-8") || spells_in_any_case value (codes "us-ascii")) (spells_in_any_case value (codes "ascii")) (or_right (spells_in_any_case value (codes "utf-8")) (spells_in_any_case value (codes "us-ascii")) (spells_word (map to_ascii_lowercase value) (codes "us-ascii") h))
encoding_known value (inr (inr h)) = or_right (spells_in_any_case value (codes "utf-8") || spells_in_any_case value (codes "us-ascii")) (spells_in_any_case value (codes "ascii")) (spells_word (map to_ascii_lowercase value) (codes "ascii") h)

declared : (name value : List ℕ) → may_declare name value ≡ true → name ≡ codes "encoding" → IsEncoding value
declared name value h e =
    elim (or_cases (not (spells name (codes "encoding"))) (is_known_encoding value) h) [
      | inl g ↦ clash (sym (spells_word name (codes "encoding") e) ∙ not-true (spells name (codes "encoding")) g)
      | inr g ↦ encoding_read value g
    ]

may_be_declared : (name value : List ℕ) → (name ≡ codes "encoding" → IsEncoding value) → may_declare name value ≡ true
may_be_declared name value h =
    elim (cases_Bool (spells name (codes "encoding"))) [
      | inl on ↦ or_right (not (spells name (codes "encoding"))) (is_known_encoding value) (encoding_known value (h (spelled_is name (codes "encoding") on)))
      | inr off ↦ or_left (not (spells name (codes "encoding"))) (is_known_encoding value) (ap not off)
    ]

-- ---- characters between quotes

inside_characters : (mark : ℕ) (value : List ℕ) → Each (is_inside mark) value → AreCharacters value
inside_characters mark [] h = tt
inside_characters mark (c ∷ cs) h = ((and_parts (is_character c) (not (c == mark)) h.0).0, inside_characters mark cs h.1)

inside_nowhere : (mark : ℕ) (value : List ℕ) → Each (is_inside mark) value → Occurs (mark ∷ []) value → ⊥
inside_nowhere mark value h o =
    let on = (and_parts (is_character mark) (not (mark == mark)) (each_at (is_inside mark) value o.before mark o.after h o.whole)).1 in
    clash (sym (eq-eqb mark mark refl) ∙ not-true (mark == mark) on)

inside_each : (mark : ℕ) (value : List ℕ) → AreCharacters value → ((before after : List ℕ) → value ≡ before ++ (mark ∷ after) → ⊥) → Each (is_inside mark) value
inside_each mark [] good none = tt
inside_each mark (c ∷ cs) good none =
    (and_from (is_character c) (not (c == mark)) good.0 (ap not (false_from_ne_true (c == mark) (λ on. none [] cs (ap (λ (z : ℕ). z ∷ cs) (eqb-true c mark on))))), inside_each mark cs good.1 (λ before after e. none (c ∷ before) after (ap (λ (z : List ℕ). c ∷ z) e)))

inside_stops : (mark : ℕ) (rest : List ℕ) → Stops (is_inside mark) (mark ∷ rest)
inside_stops mark rest = false_from_ne_true (is_inside mark mark) (λ on. clash (sym (eq-eqb mark mark refl) ∙ not-true (mark == mark) (and_parts (is_character mark) (not (mark == mark)) on).1))

-- ---- parts

part_parts : (text after marked middle name value closed rest : List ℕ) (mark : ℕ) → PlainRead text name after → IsEquals after marked → QuoteRead marked mark middle → IsRun (is_inside mark) middle value closed → closed ≡ mark ∷ rest → may_declare name value ≡ true → IsPart text rest
part_parts text after marked middle name value closed rest mark n e q v c may = record {
  name = name;
  before = e.before;
  behind = e.behind;
  mark = mark;
  value = value;
  whole = n.whole ∙ ap (λ (z : List ℕ). name ++ z) (e.whole ∙ ap (λ (z : List ℕ). e.before ++ (61 ∷ (e.behind ++ z))) (q.whole ∙ ap (λ (z : List ℕ). mark ∷ z) (v.whole ∙ ap (λ (z : List ℕ). value ++ z) c)));
  plain = n.plain;
  white_before = e.white_before;
  white_behind = e.white_behind;
  quote = q.quote;
  characters = inside_characters mark value v.each;
  inside = inside_nowhere mark value v.each;
  encoding = declared name value may;
}

allowed : (b : Bool) (text rest : List ℕ) (u : Unit {0}) → cond b (give tt) refuse text ≡ Some (u, rest) → (b ≡ true) × (text ≡ rest)
unfolding give refuse
allowed true text rest u e = (refl, (same_answer tt u text rest e).1)
allowed false text rest u e = absurd cc

part_read : (text rest : List ℕ) (u : Unit {0}) → part text ≡ Some (u, rest) → IsPart text rest
unfolding part followed_by
part_read text rest u e =
    let n = split (plain_name text) (λ name. equals_sign >> (quote >>= λ mark. run (is_inside mark) >>= λ value. exactly (mark ∷ []) >> cond (may_declare name value) (give tt) refuse)) (u, rest) e in
    let s = split (equals_sign n.0.1) (λ _. quote >>= λ mark. run (is_inside mark) >>= λ value. exactly (mark ∷ []) >> cond (may_declare n.0.0 value) (give tt) refuse) (u, rest) n.2 in
    let q = split (quote s.0.1) (λ mark. run (is_inside mark) >>= λ value. exactly (mark ∷ []) >> cond (may_declare n.0.0 value) (give tt) refuse) (u, rest) s.2 in
    let v = split (run (is_inside q.0.0) q.0.1) (λ value. exactly (q.0.0 ∷ []) >> cond (may_declare n.0.0 value) (give tt) refuse) (u, rest) q.2 in
    let c = split (exactly (q.0.0 ∷ []) v.0.1) (λ _. cond (may_declare n.0.0 v.0.0) (give tt) refuse) (u, rest) v.2 in
    let may = allowed (may_declare n.0.0 v.0.0) c.0.1 rest u c.2 in
    part_parts text n.0.1 s.0.1 q.0.1 n.0.0 v.0.0 v.0.1 rest q.0.0 (plain_name_read text n.0.0 n.0.1 n.1) (equals_read n.0.1 s.0.0 s.0.1 s.1) (quote_read s.0.1 q.0.0 q.0.1 q.1)
    (run_read (is_inside q.0.0) q.0.1 v.0.0 v.0.1 v.1) (exactly_whole (q.0.0 ∷ []) v.0.1 c.0.0 c.0.1 c.1 ∙ ap (λ (z : List ℕ). q.0.0 ∷ z) may.1) may.0

equals_stop : (before rest : List ℕ) → AreSpaces before → Stops is_name_char (before ++ (61 ∷ rest))
unfolding is_name_char is_name_start
equals_stop [] rest white = refl
equals_stop (c ∷ cs) rest white = (space_ends_name c (cs ++ (61 ∷ rest)) white.0).0

part_spelled : (text rest : List ℕ) → IsPart text rest → part text ≡ Some (tt, rest)
unfolding part followed_by give
part_spelled text rest h =
    rw (
      h.whole,
      plain_name_spelled h.name (h.before ++ (61 ∷ (h.behind ++ (h.mark ∷ (h.value ++ (h.mark ∷ rest)))))) h.plain (equals_stop h.before (h.behind ++ (h.mark ∷ (h.value ++ (h.mark ∷ rest)))) h.white_before),
      equals_spelled h.before h.behind (h.mark ∷ (h.value ++ (h.mark ∷ rest))) h.white_before h.white_behind (quote_stops h.mark (h.value ++ (h.mark ∷ rest)) h.quote),
      quote_spelled h.mark (h.value ++ (h.mark ∷ rest)) h.quote,
      run_spelled (is_inside h.mark) h.value (h.mark ∷ rest) (inside_each h.mark h.value h.characters (λ before after e. h.inside (record { before = before; after = after; whole = e }))) (inside_stops h.mark rest),
      exactly_again (h.mark ∷ []) rest,
      may_be_declared h.name h.value h.encoding,
    ) refl

-- ---- turns

abbrev pub one_more : Turn Unit Unit
one_more = More tt

abbrev pub the_end : Turn Unit Unit
the_end = Last tt

end_is_no_more : ◌≡◌ {A = Turn Unit Unit} (Last tt) (More tt) → ⊥
end_is_no_more e = absurd cc

after_spaces_more : (spaces middle after : List ℕ) → by_next (part_or_end_by spaces) middle ≡ Some (More tt, after) → (spaces ≢ []) × IsPart middle after
unfolding by_next one followed_by give refuse
after_spaces_more spaces [] after e = absurd cc
after_spaces_more spaces (c ∷ cs) after e =
    elim (chosen_front (c == 63) (past (exactly (codes ">") >> give the_end)) (cond (is_nil spaces) refuse (part >> give one_more)) (c ∷ cs) (Some (one_more, after)) e) [
      | inl h ↦ let s = split (exactly (codes ">") cs) (λ _. give the_end) (one_more, after) h.1 in absurd (end_is_no_more (same_answer the_end one_more s.0.1 after s.2).0)
      | inr h ↦
          elim (chosen_front (is_nil spaces) refuse (part >> give one_more) (c ∷ cs) (Some (one_more, after)) h.1) [
            | inl g ↦ absurd (let none = g.1 in cc)
            | inr g ↦
                let s = split (part (c ∷ cs)) (λ _. give one_more) (one_more, after) g.1 in
                let same = same_answer one_more one_more s.0.1 after s.2 in
                (not_nil spaces g.0, subst (λ (z : List ℕ). IsPart (c ∷ cs) z) same.1 (part_read (c ∷ cs) s.0.1 s.0.0 s.1))
          ]
    ]

after_spaces_last : (spaces middle rest : List ℕ) → by_next (part_or_end_by spaces) middle ≡ Some (Last tt, rest) → middle ≡ codes "?>" ++ rest
unfolding by_next one followed_by give refuse
after_spaces_last spaces [] rest e = absurd cc
after_spaces_last spaces (c ∷ cs) rest e =
    elim (chosen_front (c == 63) (past (exactly (codes ">") >> give the_end)) (cond (is_nil spaces) refuse (part >> give one_more)) (c ∷ cs) (Some (the_end, rest)) e) [
      | inl h ↦
          let s = split (exactly (codes ">") cs) (λ _. give the_end) (the_end, rest) h.1 in
          let same = same_answer the_end the_end s.0.1 rest s.2 in
          let first = eqb-true c 63 h.0 in
          let whole = exactly_whole (codes ">") cs s.0.0 s.0.1 s.1 ∙ ap (λ (z : List ℕ). codes ">" ++ z) same.1 in
          (λ i. first i ∷ whole i)
      | inr h ↦
          elim (chosen_front (is_nil spaces) refuse (part >> give one_more) (c ∷ cs) (Some (the_end, rest)) h.1) [
            | inl g ↦ absurd (let none = g.1 in cc)
            | inr g ↦
                let s = split (part (c ∷ cs)) (λ _. give one_more) (the_end, rest) g.1 in
                absurd (end_is_no_more (sym (same_answer one_more the_end s.0.1 rest s.2).0))
          ]
    ]

with_part : (text spaces middle after : List ℕ) → IsRun is_space text spaces middle → (spaces ≢ []) × IsPart middle after → BeginsWithPart text after
with_part text spaces middle after t h = record { spaces = spaces; spaced = middle; whole = t.whole; some = h.0; white = t.each; part = h.1 }

closed_by : (text spaces middle rest : List ℕ) → IsRun is_space text spaces middle → middle ≡ codes "?>" ++ rest → Closes (codes "?>") text rest
closed_by text spaces middle rest t e = record { spaces = spaces; whole = t.whole ∙ ap (λ (z : List ℕ). spaces ++ z) e; white = t.each }

turn_read : (text after : List ℕ) → part_or_end text ≡ Some (More tt, after) → BeginsWithPart text after
unfolding part_or_end followed_by
turn_read text after e =
    let s = split (run is_space text) (λ spaces. by_next (part_or_end_by spaces)) (one_more, after) e in
    with_part text s.0.0 s.0.1 after (run_read is_space text s.0.0 s.0.1 s.1) (after_spaces_more s.0.0 s.0.1 after s.2)

last_read : (text rest : List ℕ) → part_or_end text ≡ Some (Last tt, rest) → Closes (codes "?>") text rest
unfolding part_or_end followed_by
last_read text rest e =
    let s = split (run is_space text) (λ spaces. by_next (part_or_end_by spaces)) (the_end, rest) e in
    closed_by text s.0.0 s.0.1 rest (run_read is_space text s.0.0 s.0.1 s.1) (after_spaces_last s.0.0 s.0.1 rest s.2)

parts_read : (xs : List (Unit {0})) (text rest : List ℕ) → Steps part_or_end xs text tt rest → HasParts (length xs) text rest
parts_read [] text rest h = last_read text rest h
parts_read (x ∷ xs) text rest h = (h.0, turn_read text h.0 h.1.taken, parts_read xs h.0 rest h.2)

question_starts_none : is_name_start 63 ≡ false
unfolding is_name_start
question_starts_none = refl

turn_at_start : (spaces : List ℕ) (c : ℕ) (cs after : List ℕ) → AreSpaces spaces → spaces ≢ [] → is_name_start c ≡ true → part (c ∷ cs) ≡ Some (tt, after) → part_or_end (spaces ++ (c ∷ cs)) ≡ Some (More tt, after)
unfolding part_or_end followed_by by_next one give
turn_at_start spaces c cs after white some start e =
    rw (run_spelled is_space spaces (c ∷ cs) white (start_is_no_space c start), start_differs c 63 start question_starts_none, nil_not spaces some, e) refl

part_first : (text after : List ℕ) → IsPart text after → NameFirst text
part_first text after h =
    let f = plain_first h.name _ h.plain in
    record { first = f.first; others = f.others; whole = h.whole ∙ f.whole; start = f.start }

turn_spelled : (text after : List ℕ) → BeginsWithPart text after → part_or_end text ≡ Some (More tt, after)
turn_spelled text after h =
    let f = part_first h.spaced after h.part in
    let whole = h.whole ∙ ap (λ (z : List ℕ). h.spaces ++ z) f.whole in
    let found = ap part (sym f.whole) ∙ part_spelled h.spaced after h.part in
    ap part_or_end whole ∙ turn_at_start h.spaces f.first f.others after h.white h.some f.start found

closed_spelled : (spaces rest : List ℕ) → AreSpaces spaces → part_or_end (spaces ++ (63 ∷ (62 ∷ rest))) ≡ Some (Last tt, rest)
unfolding part_or_end followed_by by_next one give exactly
closed_spelled spaces rest white = rw (run_spelled is_space spaces (63 ∷ (62 ∷ rest)) white refl) refl

-- a list of so many
abbrev pub so_many : ℕ → List (Unit {0})
so_many zero = []
so_many (suc n) = tt ∷ so_many n

parts_spelled : (n : ℕ) (text rest : List ℕ) → HasParts n text rest → Steps part_or_end (so_many n) text tt rest
parts_spelled zero text rest h = ap part_or_end h.whole ∙ closed_spelled h.spaces rest h.white
parts_spelled (suc n) text rest h = (h.0, record { taken = turn_spelled text h.0 h.1 }, parts_spelled n h.0 rest h.2)

-- ---- the declaration

record PartsRead (text rest : List ℕ) : Type 0 where
  pub count : ℕ
  pub parts : HasParts count text rest

declaration_read : (text rest : List ℕ) → declaration text ≡ Some (Declaration, rest) → PartsRead text rest
unfolding declaration followed_by give
declaration_read text rest e =
    let s = split (sequence part_or_end text) (λ _. give Declaration) (Declaration, rest) e in
    let same = same_answer Declaration Declaration s.0.1 rest s.2 in
    let found = parts_read s.0.0.0 text s.0.1 (sequence_read part_or_end text s.0.0 s.0.1 s.1) in
    record { count = length s.0.0.0; parts = subst (λ (z : List ℕ). HasParts (length s.0.0.0) text z) same.1 found }

no_instruction : (text rest : List ℕ) → instruction_rest text ≡ Some (Declaration, rest) → ⊥
no_instruction text rest e = let differs = instruction_rest_kind text Declaration rest e in absurd (omega (arith, differs))

-- the target is `xml`, it is the first, and parts follow
record Declares (is_first : Bool) (target text rest : List ℕ) : Type 0 where
  pub first : is_first ≡ true
  pub target_is : target ≡ codes "xml"
  pub parts : PartsRead text rest

behind_read : (is_first : Bool) (target text rest : List ℕ) → behind_target is_first target text ≡ Some (Declaration, rest) → Declares is_first target text rest
unfolding refuse
behind_read is_first target text rest e =
    elim (chosen_front (spells_in_any_case target (codes "xml")) (cond (is_first && spells target (codes "xml")) declaration refuse) instruction_rest text (Some (Declaration, rest)) e) [
      | inl h ↦
          elim (chosen_front (is_first && spells target (codes "xml")) declaration refuse text (Some (Declaration, rest)) h.1) [
            | inl g ↦
                let both = and_parts is_first (spells target (codes "xml")) g.0 in
                record { first = both.0; target_is = spelled_is target (codes "xml") both.1; parts = declaration_read text rest g.1 }
            | inr g ↦ absurd (let none = g.1 in cc)
          ]
      | inr h ↦ absurd (no_instruction text rest h.1)
    ]

declared_so : (is_first : Bool) (text target after rest : List ℕ) → PlainRead text target after → Declares is_first target after rest → (is_first ≡ true) × IsDeclaration (codes "<?" ++ text) rest
declared_so is_first text target after rest t d =
    (d.first, record { after = after; count = d.parts.count; whole = ap (λ (z : List ℕ). codes "<?" ++ z) (t.whole ∙ ap (λ (z : List ℕ). z ++ after) d.target_is); parts = d.parts.parts })

instruction_declares : (is_first : Bool) (text rest : List ℕ) → instruction is_first text ≡ Some (Declaration, rest) → (is_first ≡ true) × IsDeclaration (codes "<?" ++ text) rest
unfolding instruction followed_by
instruction_declares is_first text rest e =
    let s = split (plain_name text) (behind_target is_first) (Declaration, rest) e in
    declared_so is_first text s.0.0 s.0.1 rest (plain_name_read text s.0.0 s.0.1 s.1) (behind_read is_first s.0.0 s.0.1 rest s.2)

declaration_found : (is_first : Bool) (text rest : List ℕ) → item is_first text ≡ Some (Declaration, rest) → (is_first ≡ true) × IsDeclaration text rest
declaration_found is_first text rest e =
    let t = as_declaration is_first text Declaration rest refl (shape_of is_first text Declaration rest e) in
    subst (λ (z : List ℕ). (is_first ≡ true) × IsDeclaration z rest) (sym t.whole) (instruction_declares is_first t.after rest t.taken)

question_stops : (rest : List ℕ) → Stops is_name_char (63 ∷ rest)
unfolding is_name_char is_name_start
question_stops rest = refl

closes_stops : (spaces rest : List ℕ) → AreSpaces spaces → Stops is_name_char (spaces ++ (63 ∷ rest))
closes_stops [] rest white = question_stops rest
closes_stops (c ∷ cs) rest white = (space_ends_name c (cs ++ (63 ∷ rest)) white.0).0

parts_stop : (n : ℕ) (text rest : List ℕ) → HasParts n text rest → Stops is_name_char text
parts_stop zero text rest h = subst (Stops is_name_char) (sym h.whole) (closes_stops h.spaces (62 ∷ rest) h.white)
parts_stop (suc n) text rest h = subst (Stops is_name_char) (sym h.1.whole) (some_spaces_end_name h.1.spaces h.1.spaced h.1.some h.1.white).0

xml_is_plain : IsPlainName (codes "xml")
unfolding is_name_char is_name_start
xml_is_plain = (refl, (refl, (refl, tt)))

declaration_spelled : (n : ℕ) (text rest : List ℕ) → HasParts n text rest → declaration text ≡ Some (Declaration, rest)
unfolding declaration followed_by give
declaration_spelled n text rest h = rw (sequence_spelled part_or_end (turns_from_ends part_or_end_ends) (so_many n) text tt rest (parts_spelled n text rest h)) refl

first_instruction : (after rest : List ℕ) → Stops is_name_char after → declaration after ≡ Some (Declaration, rest) → item true (codes "<?xml" ++ after) ≡ Some (Declaration, rest)
unfolding item markup instruction followed_by by_next one exactly
first_instruction after rest stops e = rw (plain_name_spelled (codes "xml") after xml_is_plain stops) e

declaration_item : (is_first : Bool) (text rest : List ℕ) → (is_first ≡ true) × IsDeclaration text rest → item is_first text ≡ Some (Declaration, rest)
declaration_item is_first text rest h =
    let d = h.1 in
    ap (λ (b : Bool). item b text) h.0 ∙ ap (item true) d.whole ∙ first_instruction d.after rest (parts_stop d.count d.after rest d.parts) (declaration_spelled d.count d.after rest d.parts)

pub declaration_holds : (is_first : Bool) (text rest : List ℕ) → (item is_first text ≡ Some (Declaration, rest)) ↔ ((is_first ≡ true) × IsDeclaration text rest)
declaration_holds is_first text rest = (declaration_found is_first text rest, declaration_item is_first text rest)
