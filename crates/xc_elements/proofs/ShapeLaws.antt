-- The nodes of items without fault are those of a tree.
use Rattle.std.proofs.Common.{◌≡◌, ℕ, zero, suc, ◌+◌, ◌<◌, ◌≤◌, Bool, true, false, ◌&&◌, List, [], ◌∷◌, ◌++◌, length, Option, Some, None, refl, sym, ap, subst, ◌∙◌, append_assoc, append-nil, arith}
use Rattle.std.specs.Prelude.{◌==◌, ◌↔◌, reverse, nat_lt, slice_get, option_map, option_and_then, IsTrue}
use Rattle.std.specs.List.{list_any}
use Rattle.std.proofs.lemmas.Bool.Decides.{nat_tests, Decides-and, Decides-ltb}
use Rattle.std.proofs.lemmas.List.{reverse-append}
use Rattle.xc_elements.specs.Items.{Meaning, Declaration, Start, Empty, End, Comment, Instruction, Section, Letter, Reference}
use Rattle.xc_elements.specs.Elements.{begun, Open, open_behind, open_at, begun_inside, innermost, is_outside, is_behind_root, nodes_from, nodes_of}
use Rattle.xc_elements.specs.Steps.Reading.{whole}
use Rattle.xc_elements.specs.Trees.{IsTree, parent_of, end_of, upward, ancestors}
use Rattle.xc_elements.specs.declared.nodes.Node.{Node}
use Rattle.xc_elements.proofs.KeptLaws.{AreUnder, open_under}
use Rattle.xc_elements.proofs.FaultLaws.{AreFine}
use Rattle.xc_elements.proofs.LineageLaws.{numbers, is_among, first_of, lineage, none_among, no_ancestor, below_suc, zero_below, none_below, spans, some_same, open_few, under_le}

-- ---- the descendants of a node

pub add_zero : (n : ℕ) → n + 0 ≡ n
add_zero n = omega arith

pub zero_add : (n : ℕ) → 0 + n ≡ n
zero_add n = omega arith

pub add_suc : (n i : ℕ) → n + suc i ≡ suc n + i
add_suc n i = omega arith

-- a tag is no ancestor of itself or of an earlier one
no_later : (n i : ℕ) (os : List Open) (anc : List ℕ) → Some (numbers os) ≡ Some anc → AreUnder n os → is_among (n + i) anc ≡ false
no_later n i os anc e u = ap (λ xs. is_among (n + i) xs) (sym (some_same (numbers os) anc e)) ∙ none_among (n + i) os (under_le n (n + i) os (omega arith) u)

shifted : (n j inside : ℕ) → nat_lt j inside ≡ nat_lt (n + suc j) (suc n + inside)
shifted n j inside = grind (arith, nat_tests)

-- the tag is an ancestor of later ones up to its end
up_to_end : (n j inside : ℕ) (anc : List ℕ) → is_among n anc ≡ nat_lt j inside → is_among (n + 0) anc ≡ (nat_lt 0 (suc j) && nat_lt (n + suc j) (suc n + inside))
up_to_end n j inside anc h =
    ap (λ m. is_among m anc) (add_zero n) ∙ h ∙ shifted n j inside ∙ ap (λ t. t && nat_lt (n + suc j) (suc n + inside)) (sym (zero_below j))

below_itself : (n j : ℕ) → (nat_lt 0 (suc j) && nat_lt (n + suc j) (suc n + 0)) ≡ false
below_itself n j = grind (arith, nat_tests)

further_on : (n i j end : ℕ) (anc : List ℕ) → is_among (suc n + i) anc ≡ (nat_lt i j && nat_lt (suc n + j) end) → is_among (n + suc i) anc ≡ (nat_lt (suc i) (suc j) && nat_lt (n + suc j) end)
further_on n i j end anc h =
    ap (λ m. is_among m anc) (add_suc n i) ∙ h ∙ ap (λ t. t && nat_lt (suc n + j) end) (sym (below_suc i j)) ∙ ap (λ m. nat_lt (suc i) (suc j) && nat_lt m end) (sym (add_suc n j))

node_same : (n m : Node) → Some n ≡ Some m → n ≡ m
node_same n m e = cc

-- a node is an ancestor of a tag exactly where the tag stands behind it and before its end
within : (before after : List Meaning) (i j : ℕ) (anc : List ℕ) (node : Node) → slice_get (lineage before after) j ≡ Some anc → slice_get (nodes_from before after) i ≡ Some node →
    is_among (begun before + i) anc ≡ (nat_lt i j && nat_lt (begun before + j) node.end)
within before [] i j anc node e f = absurd cc
within before (Start name pairs ∷ after) zero zero anc node e f = no_later (begun before) 0 (open_at before) anc e (open_under zero before)
within before (Start name pairs ∷ after) zero (suc j) anc node e f =
    up_to_end (begun before) j (begun_inside zero after) anc (spans (Start name pairs ∷ before) after j anc e).0
    ∙ ap (λ (n : Node). nat_lt 0 (suc j) && nat_lt (begun before + suc j) n.end) (node_same _ node f)
within before (Start name pairs ∷ after) (suc i) zero anc node e f = no_later (begun before) (suc i) (open_at before) anc e (open_under zero before) ∙ ap (λ t. t && nat_lt (begun before + 0) node.end) (sym (none_below (suc i)))
within before (Start name pairs ∷ after) (suc i) (suc j) anc node e f = further_on (begun before) i j node.end anc (within (Start name pairs ∷ before) after i j anc node e f)
within before (Empty name pairs ∷ after) zero zero anc node e f = no_later (begun before) 0 (open_at before) anc e (open_under zero before)
within before (Empty name pairs ∷ after) zero (suc j) anc node e f =
    ap (λ m. is_among m anc) (add_zero (begun before))
    ∙ no_ancestor (Empty name pairs ∷ before) after j anc (begun before) e (none_among (begun before) (open_at before) (open_under zero before)) (omega arith)
    ∙ sym (below_itself (begun before) j)
    ∙ ap (λ (n : Node). nat_lt 0 (suc j) && nat_lt (begun before + suc j) n.end) (node_same _ node f)
within before (Empty name pairs ∷ after) (suc i) zero anc node e f = no_later (begun before) (suc i) (open_at before) anc e (open_under zero before) ∙ ap (λ t. t && nat_lt (begun before + 0) node.end) (sym (none_below (suc i)))
within before (Empty name pairs ∷ after) (suc i) (suc j) anc node e f = further_on (begun before) i j node.end anc (within (Empty name pairs ∷ before) after i j anc node e f)
within before (End name ∷ after) i j anc node e f = within (End name ∷ before) after i j anc node e f
within before (Declaration ∷ after) i j anc node e f = within (Declaration ∷ before) after i j anc node e f
within before (Comment ∷ after) i j anc node e f = within (Comment ∷ before) after i j anc node e f
within before (Instruction ∷ after) i j anc node e f = within (Instruction ∷ before) after i j anc node e f
within before (Section text ∷ after) i j anc node e f = within (Section text ∷ before) after i j anc node e f
within before (Letter c ∷ after) i j anc node e f = within (Letter c ∷ before) after i j anc node e f
within before (Reference c ∷ after) i j anc node e f = within (Reference c ∷ before) after i j anc node e f

-- ---- parents

first_number : (os : List Open) → innermost os ≡ first_of (numbers os)
first_number [] = refl
first_number (o ∷ os) = refl

parent_here : (os : List Open) (anc : List ℕ) → Some (numbers os) ≡ Some anc → innermost os ≡ first_of anc
parent_here os anc e = first_number os ∙ ap first_of (some_same (numbers os) anc e)

-- the parent of a node is the innermost element that is open at its tag
pub parents : (before after : List Meaning) (i : ℕ) (anc : List ℕ) → slice_get (lineage before after) i ≡ Some anc → parent_of (nodes_from before after) i ≡ first_of anc
parents before [] i anc e = absurd cc
parents before (Start name pairs ∷ after) zero anc e = parent_here (open_at before) anc e
parents before (Start name pairs ∷ after) (suc i) anc e = parents (Start name pairs ∷ before) after i anc e
parents before (Empty name pairs ∷ after) zero anc e = parent_here (open_at before) anc e
parents before (Empty name pairs ∷ after) (suc i) anc e = parents (Empty name pairs ∷ before) after i anc e
parents before (End name ∷ after) i anc e = parents (End name ∷ before) after i anc e
parents before (Declaration ∷ after) i anc e = parents (Declaration ∷ before) after i anc e
parents before (Comment ∷ after) i anc e = parents (Comment ∷ before) after i anc e
parents before (Instruction ∷ after) i anc e = parents (Instruction ∷ before) after i anc e
parents before (Section text ∷ after) i anc e = parents (Section text ∷ before) after i anc e
parents before (Letter c ∷ after) i anc e = parents (Letter c ∷ before) after i anc e
parents before (Reference c ∷ after) i anc e = parents (Reference c ∷ before) after i anc e

same_count : (before after : List Meaning) → length (lineage before after) ≡ length (nodes_from before after)
same_count before [] = refl
same_count before (Start name pairs ∷ after) = ap suc (same_count (Start name pairs ∷ before) after)
same_count before (Empty name pairs ∷ after) = ap suc (same_count (Empty name pairs ∷ before) after)
same_count before (End name ∷ after) = same_count (End name ∷ before) after
same_count before (Declaration ∷ after) = same_count (Declaration ∷ before) after
same_count before (Comment ∷ after) = same_count (Comment ∷ before) after
same_count before (Instruction ∷ after) = same_count (Instruction ∷ before) after
same_count before (Section text ∷ after) = same_count (Section text ∷ before) after
same_count before (Letter c ∷ after) = same_count (Letter c ∷ before) after
same_count before (Reference c ∷ after) = same_count (Reference c ∷ before) after

-- ---- the path to the root

-- what the lineage has behind these items
pub lineage_behind : (before rest : List Meaning) (i : ℕ) → slice_get (lineage [] (whole before rest)) (begun before + i) ≡ slice_get (lineage before rest) i
lineage_behind [] rest i = ap (λ n. slice_get (lineage [] rest) n) (zero_add i)
lineage_behind (Start name pairs ∷ before) rest i = ap (λ n. slice_get (lineage [] (whole before (Start name pairs ∷ rest))) n) (sym (add_suc (begun before) i)) ∙ lineage_behind before (Start name pairs ∷ rest) (suc i)
lineage_behind (Empty name pairs ∷ before) rest i = ap (λ n. slice_get (lineage [] (whole before (Empty name pairs ∷ rest))) n) (sym (add_suc (begun before) i)) ∙ lineage_behind before (Empty name pairs ∷ rest) (suc i)
lineage_behind (End name ∷ before) rest i = lineage_behind before (End name ∷ rest) i
lineage_behind (Declaration ∷ before) rest i = lineage_behind before (Declaration ∷ rest) i
lineage_behind (Comment ∷ before) rest i = lineage_behind before (Comment ∷ rest) i
lineage_behind (Instruction ∷ before) rest i = lineage_behind before (Instruction ∷ rest) i
lineage_behind (Section text ∷ before) rest i = lineage_behind before (Section text ∷ rest) i
lineage_behind (Letter c ∷ before) rest i = lineage_behind before (Letter c ∷ rest) i
lineage_behind (Reference c ∷ before) rest i = lineage_behind before (Reference c ∷ rest) i

-- the ancestors of each of these open elements are those outside it
abbrev pub AreLinked : List (List ℕ) → List Open → Type 0
AreLinked all [] = Unit {0}
AreLinked all (o ∷ os) = (slice_get all o.number ≡ Some (numbers os)) × AreLinked all os

pub linked : (passed : ℕ) (before after : List Meaning) → AreLinked (lineage [] (whole before after)) (open_behind passed before)
linked passed [] after = tt
linked passed (End name ∷ before) after = linked (suc passed) before (End name ∷ after)
linked zero (Start name pairs ∷ before) after = (
  ap (λ n. slice_get (lineage [] (whole before (Start name pairs ∷ after))) n) (sym (add_zero (begun before))) ∙ lineage_behind before (Start name pairs ∷ after) 0,
  linked zero before (Start name pairs ∷ after),
)
linked (suc passed) (Start name pairs ∷ before) after = linked passed before (Start name pairs ∷ after)
linked passed (Empty name pairs ∷ before) after = linked passed before (Empty name pairs ∷ after)
linked passed (Declaration ∷ before) after = linked passed before (Declaration ∷ after)
linked passed (Comment ∷ before) after = linked passed before (Comment ∷ after)
linked passed (Instruction ∷ before) after = linked passed before (Instruction ∷ after)
linked passed (Section text ∷ before) after = linked passed before (Section text ∷ after)
linked passed (Letter c ∷ before) after = linked passed before (Letter c ∷ after)
linked passed (Reference c ∷ before) after = linked passed before (Reference c ∷ after)

pub climb : (nodes : List Node) (all : List (List ℕ)) (steps : ℕ) (os : List Open) → AreLinked all os → length os ≤ steps → ((k : ℕ) (anc : List ℕ) → slice_get all k ≡ Some anc → parent_of nodes k ≡ first_of anc) → upward nodes steps (first_of (numbers os)) ≡ numbers os
climb nodes all zero [] h l p = refl
climb nodes all (suc steps) [] h l p = refl
climb nodes all zero (o ∷ os) h l p = absurd (omega (arith, l))
climb nodes all (suc steps) (o ∷ os) h l p =
    ap (λ k. o.number ∷ upward nodes steps k) (p o.number (numbers os) h.0) ∙ ap (λ xs. o.number ∷ xs) (climb nodes all steps os h.1 (omega (arith, l)) p)

-- where a tag stands
record TagAt (items : List Meaning) (k : ℕ) (anc : List ℕ) : Type 0 where
  before : List Meaning
  rest : List Meaning
  same : items ≡ whole before rest
  number : begun before ≡ k
  opened : anc ≡ numbers (open_at before)

tag_here : (items before rest : List Meaning) (anc : List ℕ) (k : ℕ) → items ≡ whole before rest → begun before + 0 ≡ k → Some (numbers (open_at before)) ≡ Some anc → TagAt items k anc
tag_here items before rest anc k s n e = record { before = before; rest = rest; same = s; number = sym (add_zero (begun before)) ∙ n; opened = sym (some_same (numbers (open_at before)) anc e) }

tag_at : (items before rest : List Meaning) (j : ℕ) (anc : List ℕ) (k : ℕ) → items ≡ whole before rest → begun before + j ≡ k → slice_get (lineage before rest) j ≡ Some anc → TagAt items k anc
tag_at items before [] j anc k s n e = absurd cc
tag_at items before (Start name pairs ∷ after) zero anc k s n e = tag_here items before (Start name pairs ∷ after) anc k s n e
tag_at items before (Start name pairs ∷ after) (suc j) anc k s n e = tag_at items (Start name pairs ∷ before) after j anc k s (sym (add_suc (begun before) j) ∙ n) e
tag_at items before (Empty name pairs ∷ after) zero anc k s n e = tag_here items before (Empty name pairs ∷ after) anc k s n e
tag_at items before (Empty name pairs ∷ after) (suc j) anc k s n e = tag_at items (Empty name pairs ∷ before) after j anc k s (sym (add_suc (begun before) j) ∙ n) e
tag_at items before (End name ∷ after) j anc k s n e = tag_at items (End name ∷ before) after j anc k s n e
tag_at items before (Declaration ∷ after) j anc k s n e = tag_at items (Declaration ∷ before) after j anc k s n e
tag_at items before (Comment ∷ after) j anc k s n e = tag_at items (Comment ∷ before) after j anc k s n e
tag_at items before (Instruction ∷ after) j anc k s n e = tag_at items (Instruction ∷ before) after j anc k s n e
tag_at items before (Section text ∷ after) j anc k s n e = tag_at items (Section text ∷ before) after j anc k s n e
tag_at items before (Letter c ∷ after) j anc k s n e = tag_at items (Letter c ∷ before) after j anc k s n e
tag_at items before (Reference c ∷ after) j anc k s n e = tag_at items (Reference c ∷ before) after j anc k s n e

-- the path from the parent of a node to the root has the elements that are open at its tag
path_is : (items : List Meaning) (k : ℕ) (anc : List ℕ) → k < length (nodes_of items) → slice_get (lineage [] items) k ≡ Some anc → ancestors (nodes_of items) k ≡ anc
path_is items k anc h e =
    let t = tag_at items [] items k anc k refl (zero_add k) e in
    let linked_there : AreLinked (lineage [] items) (open_at t.before) = subst (λ all. AreLinked (lineage [] all) (open_at t.before)) (sym t.same) (linked zero t.before t.rest) in
    ap (λ p. upward (nodes_of items) (length (nodes_of items)) p) (parents [] items k anc e ∙ ap first_of t.opened)
    ∙ climb (nodes_of items) (lineage [] items) (length (nodes_of items)) (open_at t.before) linked_there (omega (arith, open_few zero t.before, t.number, h)) (λ i a f. parents [] items i a f)
    ∙ sym t.opened

-- ---- the form of the tree

there : {A : Type 0} (xs : List A) (k : ℕ) → k < length xs → (x : A) × (slice_get xs k ≡ Some x)
there [] k h = absurd (omega (arith, h))
there (x ∷ xs) zero h = (x, refl)
there (x ∷ xs) (suc k) h = there xs k (omega (arith, h))

anc_there : (items : List Meaning) (k : ℕ) → k < length (nodes_of items) → (anc : List ℕ) × (slice_get (lineage [] items) k ≡ Some anc)
anc_there items k h = there (lineage [] items) k (omega (arith, same_count [] items, h))

end_same : (m n : ℕ) → Some m ≡ Some n → m ≡ n
end_same m n e = cc

has_end : (o : Option Node) (end : ℕ) → option_map (λ n. n.end) o ≡ Some end → (n : Node) × (o ≡ Some n) × (n.end ≡ end)
has_end None end e = absurd cc
has_end (Some n) end e = (n, refl, end_same n.end end e)

both_tests : (i j k end : ℕ) (t : Bool) → t ≡ (nat_lt i j && nat_lt k end) → j ≡ k → IsTrue t ↔ ((i < j) × (j < end))
both_tests i j k end t e f =
    let d = Decides-and (nat_lt i j) (nat_lt j end) (Decides-ltb i j) (Decides-ltb j end) in
    let same : t ≡ (nat_lt i j && nat_lt j end) = e ∙ ap (λ m. nat_lt i j && nat_lt m end) (sym f) in
    (λ h. d.0 (sym same ∙ h), λ p. same ∙ d.1 p)

descendants_are : (items : List Meaning) (node k : ℕ) → k < length (nodes_of items) → (end : ℕ) → end_of (nodes_of items) node ≡ Some end → IsTrue (list_any (λ a. a == node) (ancestors (nodes_of items) k)) ↔ ((node < k) × (k < end))
descendants_are items node k h end e =
    let anc = anc_there items k h in
    let n = has_end (slice_get (nodes_of items) node) end e in
    let test = within [] items node k anc.0 n.0 anc.1 n.1 in
    both_tests node k (0 + k) end (list_any (λ a. a == node) (ancestors (nodes_of items) k))
    (ap (λ xs. list_any (λ a. a == node) xs) (path_is items k anc.0 h anc.1)
    ∙ ap (λ m. is_among m anc.0) (sym (zero_add node))
    ∙ test
    ∙ ap (λ m. nat_lt node k && nat_lt (0 + k) m) n.2)
    (sym (zero_add k))

-- each item before the last of the whole list has no fault
abbrev told : List Meaning → List Meaning → List Meaning
told before [] = before
told before (item ∷ rest) = told (item ∷ before) rest

fine_before : (before rest : List Meaning) → AreFine (told before rest) → AreFine before
fine_before before [] h = h
fine_before before (item ∷ rest) h = (fine_before (item ∷ before) rest h).1

never_both : true ≡ false → ⊥
never_both e = absurd cc

root_or_parent : (n p : ℕ) (os : List Open) → AreUnder n os → (is_outside os && nat_lt 0 n) ≡ false → n ≡ suc p → (q : ℕ) × (first_of (numbers os) ≡ Some q) × (q < suc p)
root_or_parent n p [] u h e = absurd (never_both (sym (ap (λ m. nat_lt 0 m) e ∙ zero_below p) ∙ h))
root_or_parent n p (o ∷ os) u h e = (o.number, refl, omega (arith, u.0, e))

parent_found : (before : List Meaning) (k : ℕ) (anc : List ℕ) → is_behind_root before ≡ false → begun before + 0 ≡ suc k → Some (numbers (open_at before)) ≡ Some anc → (p : ℕ) × (first_of anc ≡ Some p) × (p < suc k)
parent_found before k anc balanced n e =
    let q = root_or_parent (begun before) k (open_at before) (open_under zero before) balanced (sym (add_zero (begun before)) ∙ n) in
    (q.0, ap first_of (sym (some_same (numbers (open_at before)) anc e)) ∙ q.1, q.2)

has_parent : (before rest : List Meaning) (j k : ℕ) (anc : List ℕ) → AreFine (told before rest) → begun before + j ≡ suc k → slice_get (lineage before rest) j ≡ Some anc → (p : ℕ) × (first_of anc ≡ Some p) × (p < suc k)
has_parent before [] j k anc f n e = absurd cc
has_parent before (Start name pairs ∷ after) zero k anc f n e = parent_found before k anc (fine_before (Start name pairs ∷ before) after f).0.balanced n e
has_parent before (Start name pairs ∷ after) (suc j) k anc f n e = has_parent (Start name pairs ∷ before) after j k anc f (sym (add_suc (begun before) j) ∙ n) e
has_parent before (Empty name pairs ∷ after) zero k anc f n e = parent_found before k anc (fine_before (Empty name pairs ∷ before) after f).0.balanced n e
has_parent before (Empty name pairs ∷ after) (suc j) k anc f n e = has_parent (Empty name pairs ∷ before) after j k anc f (sym (add_suc (begun before) j) ∙ n) e
has_parent before (End name ∷ after) j k anc f n e = has_parent (End name ∷ before) after j k anc f n e
has_parent before (Declaration ∷ after) j k anc f n e = has_parent (Declaration ∷ before) after j k anc f n e
has_parent before (Comment ∷ after) j k anc f n e = has_parent (Comment ∷ before) after j k anc f n e
has_parent before (Instruction ∷ after) j k anc f n e = has_parent (Instruction ∷ before) after j k anc f n e
has_parent before (Section text ∷ after) j k anc f n e = has_parent (Section text ∷ before) after j k anc f n e
has_parent before (Letter c ∷ after) j k anc f n e = has_parent (Letter c ∷ before) after j k anc f n e
has_parent before (Reference c ∷ after) j k anc f n e = has_parent (Reference c ∷ before) after j k anc f n e

told_reverse : (before rest : List Meaning) → told before rest ≡ reverse rest ++ before
told_reverse before [] = refl
told_reverse before (m ∷ rest) =
    told_reverse (m ∷ before) rest ∙ sym (append_assoc (reverse rest) (m ∷ []) before) ∙ ap (λ ms. ms ++ before) (sym (reverse-append (m ∷ []) rest))

none_first : (os : List Open) → length os ≤ 0 → first_of (numbers os) ≡ None
none_first [] h = refl
none_first (o ∷ os) h = absurd (omega (arith, h))

root_is : (items : List Meaning) → 0 < length (nodes_of items) → (n : Node) × (slice_get (nodes_of items) 0 ≡ Some n) × (n.parent ≡ None)
root_is items some =
    let n = there (nodes_of items) 0 some in
    let anc = anc_there items 0 some in
    let t = tag_at items [] items 0 anc.0 0 refl (zero_add 0) anc.1 in
    let none : first_of anc.0 ≡ None = ap first_of t.opened ∙ none_first (open_at t.before) (omega (arith, open_few zero t.before, t.number)) in
    (n.0, n.1, sym (ap (λ o. option_and_then (λ x. x.parent) o) n.1) ∙ parents [] items 0 anc.0 anc.1 ∙ none)

pub tree_shape : (items : List Meaning) → AreFine (reverse items) → 0 < length (nodes_of items) → IsTree (nodes_of items)
tree_shape items fine some = record {
  root = root_is items some;
  parents = λ k h.
      let anc = anc_there items (suc k) h in
      let told_fine : AreFine (told [] items) = subst (λ ms. AreFine ms) (sym (told_reverse [] items ∙ append-nil (reverse items))) fine in
      let p = has_parent [] items (suc k) k anc.0 told_fine (zero_add (suc k)) anc.1 in
      (p.0, parents [] items (suc k) anc.0 anc.1 ∙ p.1, p.2);
  descendants = λ node k h end e. descendants_are items node k h end e;
}
