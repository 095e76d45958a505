-- The ancestors of the nodes of items.
use Rattle.std.proofs.Common.{◌≡◌, ◌⊎◌, inl, inr, ℕ, zero, suc, ◌<◌, ◌≤◌, Bool, true, false, ◌||◌, List, [], ◌∷◌, length, Option, Some, None, refl, sym, ap, subst, ◌∙◌, arith}
use Rattle.std.specs.Prelude.{◌==◌, map, nat_lt, slice_get}
use Rattle.std.specs.List.{list_any}
use Rattle.std.proofs.lemmas.Bool.{eqb-true, eq-eqb}
use Rattle.std.proofs.lemmas.Bool.Decides.{nat_tests}
use Rattle.xc_elements.specs.Items.{Name, Pair, Meaning, Declaration, Start, Empty, End, Comment, Instruction, Section, Letter, Reference}
use Rattle.xc_elements.specs.Elements.{begun, Open, open_behind, open_at, begun_inside}
use Rattle.xc_elements.proofs.CompletedLaws.{IsPlain, plain_declaration, plain_comment, plain_instruction, plain_section, plain_letter, plain_reference}
use Rattle.xc_elements.proofs.KeptLaws.{AreUnder, open_under, outer, open_outside}

abbrev pub numbers : List Open → List ℕ
numbers os = map (λ o. o.number) os

abbrev pub is_among : ℕ → List ℕ → Bool
is_among a xs = list_any (λ b. b == a) xs

abbrev pub first_of : List ℕ → Option ℕ
first_of [] = None
first_of (x ∷ xs) = Some x

-- the numbers of the elements that are open at each tag
abbrev pub lineage : List Meaning → List Meaning → List (List ℕ)
lineage before [] = []
lineage before (Start name pairs ∷ after) = numbers (open_at before) ∷ lineage (Start name pairs ∷ before) after
lineage before (Empty name pairs ∷ after) = numbers (open_at before) ∷ lineage (Empty name pairs ∷ before) after
lineage before (item ∷ after) = lineage (item ∷ before) after

-- ---- numbers

same_not : (b a : ℕ) → b < a → (b == a) ≡ false
same_not b a h = grind (arith, nat_tests)

pub none_among : (a : ℕ) (os : List Open) → AreUnder a os → is_among a (numbers os) ≡ false
none_among a [] h = refl
none_among a (o ∷ os) h = ap (λ t. t || is_among a (numbers os)) (same_not o.number a h.0) ∙ none_among a os h.1

pub under_le : (m n : ℕ) (os : List Open) → m ≤ n → AreUnder m os → AreUnder n os
under_le m n [] h u = tt
under_le m n (o ∷ os) h u = (omega (arith, h, u.0), under_le m n os h u.1)

-- each open element has a number above those outside it
abbrev pub AreNested : List Open → Type 0
AreNested [] = Unit {0}
AreNested (o ∷ os) = AreUnder o.number os × AreNested os

open_nested : (passed : ℕ) (before : List Meaning) → AreNested (open_behind passed before)
open_nested passed [] = tt
open_nested passed (End name ∷ before) = open_nested (suc passed) before
open_nested zero (Start name pairs ∷ before) = (open_under zero before, open_nested zero before)
open_nested (suc passed) (Start name pairs ∷ before) = open_nested passed before
open_nested passed (Empty name pairs ∷ before) = open_nested passed before
open_nested passed (Declaration ∷ before) = open_nested passed before
open_nested passed (Comment ∷ before) = open_nested passed before
open_nested passed (Instruction ∷ before) = open_nested passed before
open_nested passed (Section text ∷ before) = open_nested passed before
open_nested passed (Letter c ∷ before) = open_nested passed before
open_nested passed (Reference c ∷ before) = open_nested passed before

pub open_few : (passed : ℕ) (before : List Meaning) → length (open_behind passed before) ≤ begun before
open_few passed [] = omega arith
open_few passed (End name ∷ before) = open_few (suc passed) before
open_few zero (Start name pairs ∷ before) = omega (arith, open_few zero before)
open_few (suc passed) (Start name pairs ∷ before) = omega (arith, open_few passed before)
open_few passed (Empty name pairs ∷ before) = omega (arith, open_few passed before)
open_few passed (Declaration ∷ before) = open_few passed before
open_few passed (Comment ∷ before) = open_few passed before
open_few passed (Instruction ∷ before) = open_few passed before
open_few passed (Section text ∷ before) = open_few passed before
open_few passed (Letter c ∷ before) = open_few passed before
open_few passed (Reference c ∷ before) = open_few passed before

-- ---- an ancestor is open, or begins later

or_true : (b : Bool) → (b || true) ≡ true
or_true true = refl
or_true false = refl

-- a list that has one number only if the other has it too, or it is at least so great
abbrev IsKnown : ℕ → List ℕ → ℕ → List ℕ → Type 0
IsKnown n os a anc = is_among a anc ≡ true → (is_among a os ≡ true) ⊎ (n ≤ a)

or_later : (n : ℕ) (a : ℕ) (os : List ℕ) → (is_among a os ≡ true) ⊎ (suc n ≤ a) → (is_among a os ≡ true) ⊎ (n ≤ a)
or_later n a os (inl h) = inl h
or_later n a os (inr h) = inr (omega (arith, h))

by_head : (n a : ℕ) (t : Bool) (os : List ℕ) → (n == a) ≡ t → (t || is_among a os) ≡ true → (is_among a os ≡ true) ⊎ (n ≤ a)
by_head n a true os e h = inr (omega (arith, eqb-true n a e))
by_head n a false os e h = inl h

or_head : (n a : ℕ) (os : List ℕ) → (is_among a (n ∷ os) ≡ true) ⊎ (suc n ≤ a) → (is_among a os ≡ true) ⊎ (n ≤ a)
or_head n a os (inl h) = by_head n a (n == a) os refl h
or_head n a os (inr h) = inr (omega (arith, h))

among_outer : (a : ℕ) (os : List Open) → is_among a (numbers (outer os)) ≡ true → is_among a (numbers os) ≡ true
among_outer a [] h = h
among_outer a (o ∷ os) h = ap (λ t. (o.number == a) || t) h ∙ or_true (o.number == a)

or_outer : (n a : ℕ) (os : List Open) → (is_among a (numbers (outer os)) ≡ true) ⊎ (n ≤ a) → (is_among a (numbers os) ≡ true) ⊎ (n ≤ a)
or_outer n a os (inl h) = inl (among_outer a os h)
or_outer n a os (inr h) = inr h

pub some_same : {A : Type 0} (x y : A) → Some x ≡ Some y → x ≡ y
some_same x y e = cc

here_known : (n : ℕ) (os anc : List ℕ) (a : ℕ) → Some os ≡ Some anc → IsKnown n os a anc
here_known n os anc a e h = inl (ap (λ xs. is_among a xs) (some_same os anc e) ∙ h)

known : (before after : List Meaning) (j : ℕ) (anc : List ℕ) (a : ℕ) → slice_get (lineage before after) j ≡ Some anc → IsKnown (begun before) (numbers (open_at before)) a anc
known before [] j anc a e = absurd cc
known before (Start name pairs ∷ after) zero anc a e = here_known (begun before) (numbers (open_at before)) anc a e
known before (Start name pairs ∷ after) (suc j) anc a e = λ h. or_head (begun before) a (numbers (open_at before)) (known (Start name pairs ∷ before) after j anc a e h)
known before (Empty name pairs ∷ after) zero anc a e = here_known (begun before) (numbers (open_at before)) anc a e
known before (Empty name pairs ∷ after) (suc j) anc a e = λ h. or_later (begun before) a (numbers (open_at before)) (known (Empty name pairs ∷ before) after j anc a e h)
known before (End name ∷ after) j anc a e = λ h. or_outer (begun before) a (open_at before) (subst (λ os. (is_among a (numbers os) ≡ true) ⊎ (begun before ≤ a)) (open_outside zero before) (known (End name ∷ before) after j anc a e h))
known before (Declaration ∷ after) j anc a e = known (Declaration ∷ before) after j anc a e
known before (Comment ∷ after) j anc a e = known (Comment ∷ before) after j anc a e
known before (Instruction ∷ after) j anc a e = known (Instruction ∷ before) after j anc a e
known before (Section text ∷ after) j anc a e = known (Section text ∷ before) after j anc a e
known before (Letter c ∷ after) j anc a e = known (Letter c ∷ before) after j anc a e
known before (Reference c ∷ after) j anc a e = known (Reference c ∷ before) after j anc a e

-- what is neither open nor begins later is no ancestor
never_among : (t : Bool) → (t ≡ true → ⊥) → t ≡ false
never_among true h = absurd (h refl)
never_among false h = refl

neither : (a n : ℕ) (os : List ℕ) → is_among a os ≡ false → a < n → (is_among a os ≡ true) ⊎ (n ≤ a) → ⊥
neither a n os none less (inl h) = let wrong = sym none ∙ h in cc
neither a n os none less (inr h) = omega (arith, less, h)

pub no_ancestor : (before after : List Meaning) (j : ℕ) (anc : List ℕ) (a : ℕ) → slice_get (lineage before after) j ≡ Some anc → is_among a (numbers (open_at before)) ≡ false → a < begun before → is_among a anc ≡ false
no_ancestor before after j anc a e none less = never_among (is_among a anc) (λ h. neither a (begun before) (numbers (open_at before)) none less (known before after j anc a e h))

-- ---- the descendants of open elements

-- each of these elements, which are open at a place, is an ancestor of a later tag exactly up to its end
abbrev pub AreSpans : ℕ → List Open → List Meaning → ℕ → List ℕ → Type 0
AreSpans depth [] after j anc = Unit {0}
AreSpans depth (o ∷ os) after j anc = (is_among o.number anc ≡ nat_lt j (begun_inside depth after)) × AreSpans (suc depth) os after j anc

pub below_suc : (j n : ℕ) → nat_lt (suc j) (suc n) ≡ nat_lt j n
below_suc j n = grind (arith, nat_tests)

pub zero_below : (n : ℕ) → nat_lt 0 (suc n) ≡ true
zero_below n = grind (arith, nat_tests)

pub none_below : (j : ℕ) → nat_lt j 0 ≡ false
none_below j = grind (arith, nat_tests)

abbrev AllAmong : List Open → List ℕ → Type 0
AllAmong [] anc = Unit {0}
AllAmong (o ∷ os) anc = (is_among o.number anc ≡ true) × AllAmong os anc

among_more : (x : ℕ) (os : List Open) (anc : List ℕ) → AllAmong os anc → AllAmong os (x ∷ anc)
among_more x [] anc h = tt
among_more x (o ∷ os) anc h = (ap (λ t. (x == o.number) || t) h.0 ∙ or_true (x == o.number), among_more x os anc h.1)

same_self : (a : ℕ) → (a == a) ≡ true
same_self a = eq-eqb a a refl

among_self : (os : List Open) → AllAmong os (numbers os)
among_self [] = tt
among_self (o ∷ os) = (ap (λ t. t || is_among o.number (numbers os)) (same_self o.number), among_more o.number os (numbers os) (among_self os))

start_here : (name : Name) (pairs : List Pair) (depth : ℕ) (os : List Open) (after : List Meaning) (anc : List ℕ) → AllAmong os anc → AreSpans depth os (Start name pairs ∷ after) 0 anc
start_here name pairs depth [] after anc h = tt
start_here name pairs depth (o ∷ os) after anc h = (h.0 ∙ sym (zero_below (begun_inside (suc depth) after)), start_here name pairs (suc depth) os after anc h.1)

empty_here : (name : Name) (pairs : List Pair) (depth : ℕ) (os : List Open) (after : List Meaning) (anc : List ℕ) → AllAmong os anc → AreSpans depth os (Empty name pairs ∷ after) 0 anc
empty_here name pairs depth [] after anc h = tt
empty_here name pairs depth (o ∷ os) after anc h = (h.0 ∙ sym (zero_below (begun_inside depth after)), empty_here name pairs (suc depth) os after anc h.1)

start_spans : (name : Name) (pairs : List Pair) (depth : ℕ) (os : List Open) (after : List Meaning) (j : ℕ) (anc : List ℕ) → AreSpans (suc depth) os after j anc → AreSpans depth os (Start name pairs ∷ after) (suc j) anc
start_spans name pairs depth [] after j anc h = tt
start_spans name pairs depth (o ∷ os) after j anc h = (h.0 ∙ sym (below_suc j (begun_inside (suc depth) after)), start_spans name pairs (suc depth) os after j anc h.1)

empty_spans : (name : Name) (pairs : List Pair) (depth : ℕ) (os : List Open) (after : List Meaning) (j : ℕ) (anc : List ℕ) → AreSpans depth os after j anc → AreSpans depth os (Empty name pairs ∷ after) (suc j) anc
empty_spans name pairs depth [] after j anc h = tt
empty_spans name pairs depth (o ∷ os) after j anc h = (h.0 ∙ sym (below_suc j (begun_inside depth after)), empty_spans name pairs (suc depth) os after j anc h.1)

end_spans : (name : Name) (depth : ℕ) (os : List Open) (after : List Meaning) (j : ℕ) (anc : List ℕ) → AreSpans depth os after j anc → AreSpans (suc depth) os (End name ∷ after) j anc
end_spans name depth [] after j anc h = tt
end_spans name depth (o ∷ os) after j anc h = (h.0, end_spans name (suc depth) os after j anc h.1)

end_all : (name : Name) (os : List Open) (after : List Meaning) (j : ℕ) (anc : List ℕ) (n : ℕ) → AreNested os → AreUnder n os → ((a : ℕ) → is_among a (numbers (outer os)) ≡ false → a < n → is_among a anc ≡ false) → AreSpans zero (outer os) after j anc → AreSpans zero os (End name ∷ after) j anc
end_all name [] after j anc n nested under none h = tt
end_all name (o ∷ os) after j anc n nested under none h = (none o.number (none_among o.number os nested.0) under.0 ∙ sym (none_below j), end_spans name zero os after j anc h)

plain_spans : (item : Meaning) (p : IsPlain item) (depth : ℕ) (os : List Open) (after : List Meaning) (j : ℕ) (anc : List ℕ) → AreSpans depth os after j anc → AreSpans depth os (item ∷ after) j anc
plain_spans item p depth [] after j anc h = tt
plain_spans item p depth (o ∷ os) after j anc h = (h.0 ∙ ap (λ n. nat_lt j n) (sym (p.inside depth after)), plain_spans item p (suc depth) os after j anc h.1)

pub spans : (before after : List Meaning) (j : ℕ) (anc : List ℕ) → slice_get (lineage before after) j ≡ Some anc → AreSpans zero (open_at before) after j anc
spans before [] j anc e = absurd cc
spans before (Start name pairs ∷ after) zero anc e = start_here name pairs zero (open_at before) after anc (subst (λ xs. AllAmong (open_at before) xs) (some_same (numbers (open_at before)) anc e) (among_self (open_at before)))
spans before (Start name pairs ∷ after) (suc j) anc e = start_spans name pairs zero (open_at before) after j anc (spans (Start name pairs ∷ before) after j anc e).1
spans before (Empty name pairs ∷ after) zero anc e = empty_here name pairs zero (open_at before) after anc (subst (λ xs. AllAmong (open_at before) xs) (some_same (numbers (open_at before)) anc e) (among_self (open_at before)))
spans before (Empty name pairs ∷ after) (suc j) anc e = empty_spans name pairs zero (open_at before) after j anc (spans (Empty name pairs ∷ before) after j anc e)
spans before (End name ∷ after) j anc e =
    let out : open_at (End name ∷ before) ≡ outer (open_at before) = open_outside zero before in
    end_all name (open_at before) after j anc (begun before) (open_nested zero before) (open_under zero before)
    (λ a none less. no_ancestor (End name ∷ before) after j anc a e (ap (λ os. is_among a (numbers os)) out ∙ none) less)
    (subst (λ os. AreSpans zero os after j anc) out (spans (End name ∷ before) after j anc e))
spans before (Declaration ∷ after) j anc e = plain_spans Declaration plain_declaration zero (open_at before) after j anc (spans (Declaration ∷ before) after j anc e)
spans before (Comment ∷ after) j anc e = plain_spans Comment plain_comment zero (open_at before) after j anc (spans (Comment ∷ before) after j anc e)
spans before (Instruction ∷ after) j anc e = plain_spans Instruction plain_instruction zero (open_at before) after j anc (spans (Instruction ∷ before) after j anc e)
spans before (Section text ∷ after) j anc e = plain_spans (Section text) (plain_section text) zero (open_at before) after j anc (spans (Section text ∷ before) after j anc e)
spans before (Letter c ∷ after) j anc e = plain_spans (Letter c) (plain_letter c) zero (open_at before) after j anc (spans (Letter c ∷ before) after j anc e)
spans before (Reference c ∷ after) j anc e = plain_spans (Reference c) (plain_reference c) zero (open_at before) after j anc (spans (Reference c ∷ before) after j anc e)
