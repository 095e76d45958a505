-- A value is read exactly where the text begins with what is written for it.
use Rattle.std.proofs.Common.{◌≡◌, ◌≢◌, ℕ, true, false, cond, List, [], ◌∷◌, ◌++◌, map, Some, refl, sym, ap, ◌∙◌, subst, inl, inr, append_assoc, eqb-true, eq-eqb, ne_eqb}
use Rattle.std.specs.Prelude.{codes, ◌↔◌, ◌==◌, ◌&&◌, ◌||◌, not}
use Rattle.std.proofs.lemmas.Bool.{and_parts, or_cases, or_parts, not-true}
use Rattle.xc_chars.specs.Characters.{is_character}
use Rattle.xc_elements.specs.Fronts.{Front, followed_by, ◌>>=◌, give, refuse, one, by_next, past, Turn, More, Last, sequence}
use Rattle.xc_elements.specs.Items.{reference, line_end, character_or_end, value_until}
use Rattle.xc_elements.specs.Grammar.Values.{IsQuote, Written, Plain, White, LineEnd, Referred, characters_of, meant_by, IsPlain, BeginsWithFeed, IsWhite, MayStand, Stands, AreWritten, IsValue}
use Rattle.xc_elements.proofs.FrontLaws.{found, split, same_answer}
use Rattle.xc_elements.proofs.ItemLaws.{value_turns, line_end_goes_on}
use Rattle.xc_elements.specs.Grammar.References.{StandsFor}
use Rattle.xc_elements.proofs.SequenceLaws.{GoesOn, give_goes_on, refuse_goes_on, then_goes_on, if_goes_on}
use Rattle.xc_elements.proofs.Grammar.References.{reference_read, reference_spelled}
use Rattle.xc_elements.proofs.Grammar.Sequences.{Steps, sequence_read, sequence_spelled}
use Rattle.xc_elements.proofs.Grammar.Shapes.{chosen_front}

-- a character of a value
abbrev pub more : ℕ → Turn ℕ Unit
more r = More r

-- the end of a value
abbrev pub closed : Turn ℕ Unit
closed = Last tt

-- a part that stands for this character
pub record PartRead (mark : ℕ) (text : List ℕ) (r : ℕ) (after : List ℕ) : Type 0 where
  pub part : Written
  pub stands : Stands mark part text after
  pub meant : meant_by part ≡ r

more_same : (r s : ℕ) → ◌≡◌ {A = Turn ℕ Unit} (More r) (More s) → r ≡ s
more_same r s e = cc

more_is_not_last : (r : ℕ) → ◌≡◌ {A = Turn ℕ Unit} (More r) (Last tt) → ⊥
more_is_not_last r e = absurd cc

referred_read : (mark : ℕ) (cs : List ℕ) (r : ℕ) (after : List ℕ) → followed_by reference (λ r. give (more r)) cs ≡ Some (More r, after) → PartRead mark (38 ∷ cs) r after
unfolding followed_by give
referred_read mark cs r after e =
    let s = split (reference cs) (λ r. give (More r)) (More r, after) e in
    let same = same_answer (More s.0.0) (More r) s.0.1 after s.2 in
    let t = reference_read cs s.0.0 s.0.1 s.1 in
    record {
      part = Referred t.name s.0.0;
      stands = record { whole = ap (λ (z : List ℕ). 38 ∷ z) (t.whole ∙ ap (λ (z : List ℕ). t.name ++ (59 ∷ z)) same.1 ∙ sym (append_assoc t.name (codes ";") after)); fit = t.meant };
      meant = more_same s.0.0 r same.0;
    }

space_read : (mark : ℕ) (text : List ℕ) (part : Written) (between : List ℕ) (r : ℕ) (after : List ℕ) → text ≡ characters_of part ++ between → MayStand mark part between → meant_by part ≡ 32 → found (more 32) between ≡ found (more r) after → PartRead mark text r after
space_read mark text part between r after whole fit is e =
    let same = same_answer (more 32) (More r) between after e in
    subst (λ (z : List ℕ). PartRead mark text r z) same.1 (record { part = part; stands = record { whole = whole; fit = fit }; meant = is ∙ more_same 32 r same.0 })

line_read : (mark : ℕ) (cs : List ℕ) (r : ℕ) (after : List ℕ) → line_end cs ≡ Some (More r, after) → PartRead mark (13 ∷ cs) r after
unfolding line_end by_next one followed_by give
line_read mark [] r after e = absurd cc
line_read mark (d ∷ ds) r after e =
    elim (chosen_front (d == 10) (past (give (more 32))) (give (More 32)) (d ∷ ds) (Some (More r, after)) e) [
      | inl h ↦ space_read mark (13 ∷ (d ∷ ds)) LineEnd ds r after (ap (λ (z : ℕ). 13 ∷ (z ∷ ds)) (eqb-true d 10 h.0)) tt refl h.1
      | inr h ↦ space_read mark (13 ∷ (d ∷ ds)) (White 13) (d ∷ ds) r after refl (inr (inr (refl, λ same. let on = eq-eqb d 10 same in let clash : true ≡ false = sym on ∙ h.0 in absurd (let two = clash in cc)))) refl h.1
    ]

which_white : (c : ℕ) (after : List ℕ) → (c == 9 || c == 10) ≡ true → IsWhite c after
which_white c after h =
    elim (or_cases (c == 9) (c == 10) h) [
      | inl k ↦ inl (eqb-true c 9 k)
      | inr k ↦ inr (inl (eqb-true c 10 k))
    ]

differ : (c d : ℕ) → (c == d) ≡ false → c ≡ d → ⊥
differ c d off e = let on = eq-eqb c d e in let clash : true ≡ false = sym on ∙ off in absurd (let two = clash in cc)

plain_read : (mark c : ℕ) (cs : List ℕ) (r : ℕ) (after : List ℕ) → IsPlain mark c → found (more c) cs ≡ found (more r) after → PartRead mark (c ∷ cs) r after
plain_read mark c cs r after h e =
    let same = same_answer (more c) (More r) cs after e in
    subst (λ (z : List ℕ). PartRead mark (c ∷ cs) r z) same.1 (record { part = Plain c; stands = record { whole = refl; fit = h }; meant = more_same c r same.0 })

abbrev pub others_at : ℕ → Front (Turn ℕ Unit)
others_at c = cond (c == 9 || c == 10) (give (More 32)) (cond (is_character c && not (c == 60)) (give (More c)) refuse)

others_read : (mark c : ℕ) (cs : List ℕ) (r : ℕ) (after : List ℕ) → (c == mark) ≡ false → (c == 38) ≡ false → (c == 13) ≡ false → others_at c cs ≡ Some (More r, after) → PartRead mark (c ∷ cs) r after
unfolding give refuse
others_read mark c cs r after inside no_reference no_return e =
    elim (chosen_front (c == 9 || c == 10) (give (More 32)) (cond (is_character c && not (c == 60)) (give (More c)) refuse) cs (Some (More r, after)) e) [
      | inl h ↦ space_read mark (c ∷ cs) (White c) cs r after refl (which_white c cs h.0) refl h.1
      | inr h ↦
          elim (chosen_front (is_character c && not (c == 60)) (give (More c)) refuse cs (Some (More r, after)) h.1) [
            | inl g ↦
                let off = or_parts (c == 9) (c == 10) h.0 in
                let good = and_parts (is_character c) (not (c == 60)) g.0 in
                plain_read mark c cs r after
                (record {
                  character = good.0;
                  inside = differ c mark inside;
                  no_tag = differ c 60 (not-true (c == 60) good.1);
                  no_reference = differ c 38 no_reference;
                  no_tab = differ c 9 off.0;
                  no_feed = differ c 10 off.1;
                  no_return = differ c 13 no_return;
                })
                g.1
            | inr g ↦ absurd (let none = g.1 in cc)
          ]
    ]

part_read : (mark : ℕ) (text : List ℕ) (r : ℕ) (after : List ℕ) → character_or_end mark text ≡ Some (More r, after) → PartRead mark text r after
unfolding character_or_end followed_by one give
part_read mark [] r after e = absurd cc
part_read mark (c ∷ cs) r after e =
    elim (chosen_front (c == mark) (give (Last tt)) (cond (c == 38) (reference >>= λ r. give (More r)) (cond (c == 13) line_end (others_at c))) cs (Some (More r, after)) e) [
      | inl h ↦ absurd (more_is_not_last r (sym (same_answer (Last tt) (More r) cs after h.1).0))
      | inr h ↦
          elim (chosen_front (c == 38) (reference >>= λ r. give (More r)) (cond (c == 13) line_end (others_at c)) cs (Some (More r, after)) h.1) [
            | inl g ↦ subst (λ (z : ℕ). PartRead mark (z ∷ cs) r after) (sym (eqb-true c 38 g.0)) (referred_read mark cs r after g.1)
            | inr g ↦
                elim (chosen_front (c == 13) line_end (others_at c) cs (Some (More r, after)) g.1) [
                  | inl k ↦ subst (λ (z : ℕ). PartRead mark (z ∷ cs) r after) (sym (eqb-true c 13 k.0)) (line_read mark cs r after k.1)
                  | inr k ↦ others_read mark c cs r after h.0 g.0 k.0 k.1
                ]
          ]
    ]

last_read : (mark : ℕ) (text rest : List ℕ) → character_or_end mark text ≡ Some (Last tt, rest) → text ≡ mark ∷ rest
unfolding character_or_end followed_by one give
last_read mark [] rest e = absurd cc
last_read mark (c ∷ cs) rest e =
    elim (chosen_front (c == mark) (give (Last tt)) (cond (c == 38) (reference >>= λ r. give (More r)) (cond (c == 13) line_end (others_at c))) cs (Some (Last tt, rest)) e) [
      | inl h ↦ let same = same_answer closed closed cs rest h.1 in let first = eqb-true c mark h.0 in (λ i. first i ∷ same.1 i)
      | inr h ↦ absurd ((others_go_on c).never cs tt rest h.1)
    ]
  where
    others_go_on : (c : ℕ) → GoesOn (cond (c == 38) (reference >>= λ r. give (more r)) (cond (c == 13) line_end (others_at c)))
    others_go_on c =
        if_goes_on _ (then_goes_on reference (λ r. give_goes_on r))
        (if_goes_on _ line_end_goes_on
        (if_goes_on _ (give_goes_on 32)
        (if_goes_on _ (give_goes_on c) refuse_goes_on)))

-- what is read as a value is written for it
record PartsRead (mark : ℕ) (text xs rest : List ℕ) : Type 0 where
  pub parts : List Written
  pub written : AreWritten mark parts text rest
  pub meant : map meant_by parts ≡ xs

parts_read : (mark : ℕ) (xs text rest : List ℕ) → Steps (character_or_end mark) xs text tt rest → PartsRead mark text xs rest
parts_read mark [] text rest h = record { parts = []; written = last_read mark text rest h; meant = refl }
parts_read mark (x ∷ xs) text rest h =
    let first = part_read mark text x h.0 h.1.taken in
    let others = parts_read mark xs h.0 rest h.2 in
    record { parts = first.part ∷ others.parts; written = (h.0, first.stands, others.written); meant = (λ i. first.meant i ∷ others.meant i) }

value_read : (mark : ℕ) (text value rest : List ℕ) → value_until mark text ≡ Some (value, rest) → IsValue mark text value rest
unfolding value_until followed_by give
value_read mark text value rest e =
    let s = split (sequence (character_or_end mark) text) (λ x. give x.0) (value, rest) e in
    let same = same_answer s.0.0.0 value s.0.1 rest s.2 in
    let t = parts_read mark s.0.0.0 text s.0.1 (sequence_read (character_or_end mark) text s.0.0 s.0.1 s.1) in
    record { parts = t.parts; written = subst (λ (z : List ℕ). AreWritten mark t.parts text z) same.1 t.written; meant = t.meant ∙ same.0 }

-- ---- the other way

quote_differs : (mark c : ℕ) → IsQuote mark → (c == 34) ≡ false → (c == 39) ≡ false → (c == mark) ≡ false
quote_differs mark c (inl q) a b = ap (λ (m : ℕ). c == m) q ∙ a
quote_differs mark c (inr q) a b = ap (λ (m : ℕ). c == m) q ∙ b

plain_spelled : (mark c : ℕ) (after : List ℕ) → IsPlain mark c → character_or_end mark (c ∷ after) ≡ Some (More c, after)
unfolding character_or_end followed_by one give
plain_spelled mark c after h = rw (ne_eqb c mark h.inside, ne_eqb c 38 h.no_reference, ne_eqb c 13 h.no_return, ne_eqb c 9 h.no_tab, ne_eqb c 10 h.no_feed, h.character, ne_eqb c 60 h.no_tag) refl

tab_spelled : (mark : ℕ) (after : List ℕ) → IsQuote mark → character_or_end mark (9 ∷ after) ≡ Some (More 32, after)
unfolding character_or_end followed_by one give
tab_spelled mark after q = rw (quote_differs mark 9 q refl refl) refl

feed_spelled : (mark : ℕ) (after : List ℕ) → IsQuote mark → character_or_end mark (10 ∷ after) ≡ Some (More 32, after)
unfolding character_or_end followed_by one give
feed_spelled mark after q = rw (quote_differs mark 10 q refl refl) refl

return_spelled : (mark : ℕ) (after : List ℕ) → IsQuote mark → after ≢ [] → ¬ (BeginsWithFeed after) → character_or_end mark (13 ∷ after) ≡ Some (More 32, after)
unfolding character_or_end followed_by one give line_end by_next
return_spelled mark [] q some apart = absurd (some refl)
return_spelled mark (d ∷ ds) q some apart = rw (quote_differs mark 13 q refl refl, ne_eqb d 10 apart) refl

line_spelled : (mark : ℕ) (after : List ℕ) → IsQuote mark → character_or_end mark (13 ∷ (10 ∷ after)) ≡ Some (More 32, after)
unfolding character_or_end followed_by one give line_end by_next
line_spelled mark after q = rw (quote_differs mark 13 q refl refl) refl

referred_spelled : (mark : ℕ) (name : List ℕ) (c : ℕ) (after : List ℕ) → IsQuote mark → StandsFor name c → character_or_end mark (38 ∷ (name ++ (codes ";" ++ after))) ≡ Some (More c, after)
unfolding character_or_end followed_by one give
referred_spelled mark name c after q h = rw (quote_differs mark 38 q refl refl, reference_spelled name c after h) refl

white_spelled : (mark c : ℕ) (after : List ℕ) → IsQuote mark → after ≢ [] → IsWhite c after → character_or_end mark (c ∷ after) ≡ Some (More 32, after)
white_spelled mark c after q some (inl e) = ap (λ (z : ℕ). character_or_end mark (z ∷ after)) e ∙ tab_spelled mark after q
white_spelled mark c after q some (inr (inl e)) = ap (λ (z : ℕ). character_or_end mark (z ∷ after)) e ∙ feed_spelled mark after q
white_spelled mark c after q some (inr (inr h)) = ap (λ (z : ℕ). character_or_end mark (z ∷ after)) h.0 ∙ return_spelled mark after q some h.1

part_spelled : (mark : ℕ) (part : Written) (text after : List ℕ) → IsQuote mark → after ≢ [] → Stands mark part text after → character_or_end mark text ≡ Some (More (meant_by part), after)
part_spelled mark (Plain c) text after q some h = ap (character_or_end mark) h.whole ∙ plain_spelled mark c after h.fit
part_spelled mark (White c) text after q some h = ap (character_or_end mark) h.whole ∙ white_spelled mark c after q some h.fit
part_spelled mark LineEnd text after q some h = ap (character_or_end mark) h.whole ∙ line_spelled mark after q
part_spelled mark (Referred name c) text after q some h = ap (character_or_end mark) (h.whole ∙ ap (λ (z : List ℕ). 38 ∷ z) (append_assoc name (codes ";") after)) ∙ referred_spelled mark name c after q h.fit

not_nothing : (text : List ℕ) (c : ℕ) (cs : List ℕ) → text ≡ c ∷ cs → text ≢ []
not_nothing text c cs e none = let clash = sym e ∙ none in absurd cc

part_some : (mark : ℕ) (part : Written) (text after : List ℕ) → Stands mark part text after → text ≢ []
part_some mark (Plain c) text after h = not_nothing text c after h.whole
part_some mark (White c) text after h = not_nothing text c after h.whole
part_some mark LineEnd text after h = not_nothing text 13 (10 ∷ after) h.whole
part_some mark (Referred name c) text after h = not_nothing text 38 ((name ++ codes ";") ++ after) h.whole

written_some : (mark : ℕ) (parts : List Written) (text rest : List ℕ) → AreWritten mark parts text rest → text ≢ []
written_some mark [] text rest h = not_nothing text mark rest h
written_some mark (p ∷ ps) text rest h = part_some mark p text h.0 h.1

quote_last : (mark : ℕ) (rest : List ℕ) → character_or_end mark (mark ∷ rest) ≡ Some (Last tt, rest)
unfolding character_or_end followed_by one give
quote_last mark rest = rw (eq-eqb mark mark refl) refl

parts_spelled : (mark : ℕ) (parts : List Written) (text rest : List ℕ) → IsQuote mark → AreWritten mark parts text rest → Steps (character_or_end mark) (map meant_by parts) text tt rest
parts_spelled mark [] text rest q h = ap (character_or_end mark) h ∙ quote_last mark rest
parts_spelled mark (p ∷ ps) text rest q h =
    (h.0, record { taken = part_spelled mark p text h.0 q (written_some mark ps h.0 rest h.2) h.1 }, parts_spelled mark ps h.0 rest q h.2)

value_spelled : (mark : ℕ) (text value rest : List ℕ) → IsQuote mark → IsValue mark text value rest → value_until mark text ≡ Some (value, rest)
unfolding value_until followed_by give
value_spelled mark text value rest q h =
    rw (sequence_spelled (character_or_end mark) (value_turns mark) (map meant_by h.parts) text tt rest (parts_spelled mark h.parts text rest q h.written))
    (ap (λ (z : List ℕ). Some (z, rest)) h.meant)

pub value_holds : (mark : ℕ) (text value rest : List ℕ) → IsQuote mark → (value_until mark text ≡ Some (value, rest)) ↔ IsValue mark text value rest
value_holds mark text value rest q = (value_read mark text value rest, value_spelled mark text value rest q)
