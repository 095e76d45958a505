-- A prefix stands for the same at a tag and at the tag's node.
use lib.Utf8.{encode}
use Rattle.std.proofs.Common.{◌≡◌, ℕ, zero, suc, ◌+◌, ◌<◌, ◌≤◌, Bool, true, false, cond, List, [], ◌∷◌, ◌++◌, length, Option, Some, None, refl, sym, ap, ◌∙◌, append-nil, arith}
use Rattle.std.specs.Prelude.{map, reverse, codes, slice_get, option_and_then, encode_utf8_all}
use Rattle.std.specs.List.{filter_map}
use Rattle.std.specs.Option.{option_or}
use Rattle.std.specs.Str.{bytes_eq}
use Rattle.std.proofs.lemmas.Bool.Decides.{Decides-like, same_from_decides}
use Rattle.std.proofs.lemmas.Slice.Eq.{bytes_eq-Decides}
use Rattle.std.proofs.lemmas.Str.{encodes_same}
use Rattle.xc_elements.specs.Fronts.{exactly}
use Rattle.xc_elements.specs.Items.{Meaning, Declaration, Start, Empty, End, Comment, Instruction, Section, Letter, Reference, is_nil, is_whole, spells}
use Rattle.xc_elements.specs.Namespaces.{Binding, Tag, tag_of, binding_of, declaration_of, declared_by, declarations, nearest, space_under}
use Rattle.xc_elements.specs.Elements.{begun, Open, open_at, open_behind, tag_in, declared_at, nodes_from, nodes_of}
use Rattle.xc_elements.specs.Trees.{xml_space, parent_of, upward, path}
use Rattle.xc_elements.specs.Declarations.{set_by}
use Rattle.xc_elements.specs.Scopes.{set_at, first_declared, not_empty, space_in_scope}
use Rattle.xc_elements.specs.Steps.Reading.{whole}
use Rattle.xc_elements.specs.declared.nodes.NamespaceDeclaration.{NamespaceDeclaration}
use Rattle.xc_elements.specs.declared.nodes.Node.{Node}
use Rattle.xc_elements.proofs.FrontLaws.{exactly_whole, exactly_again}
use Rattle.xc_elements.proofs.ScopeLaws.{by_first}
use Rattle.xc_elements.proofs.KeptLaws.{tags_of}
use Rattle.xc_elements.proofs.LineageLaws.{numbers, first_of, lineage, open_few}
use Rattle.xc_elements.proofs.ShapeLaws.{AreLinked, parents, lineage_behind, linked, climb, add_zero, add_suc, zero_add}

-- ---- prefixes by their characters and by their UTF-8

same_by_bytes : (p q : List ℕ) → bytes_eq (encode_utf8_all p) (encode_utf8_all q) ≡ bytes_eq p q
same_by_bytes p q = same_from_decides (bytes_eq (encode_utf8_all p) (encode_utf8_all q)) (bytes_eq p q) (bytes_eq-Decides (encode_utf8_all p) (encode_utf8_all q)) (Decides-like (bytes_eq p q) (λ e. ap encode_utf8_all e) (λ e. encodes_same p q e) (bytes_eq-Decides p q))

nothing_left : (rest : List ℕ) → is_nil rest ≡ true → rest ≡ []
nothing_left [] e = refl
nothing_left (c ∷ cs) e = absurd cc

spelled_whole : (word text : List ℕ) (o : Option (Unit {0} × List ℕ)) → exactly word text ≡ o → is_whole o ≡ true → text ≡ word
spelled_whole word text None e h = absurd cc
spelled_whole word text (Some x) e h = exactly_whole word text x.0 x.1 e ∙ ap (λ r. word ++ r) (nothing_left x.1 h) ∙ append-nil word

spells_itself : (word : List ℕ) → spells word word ≡ true
spells_itself word = ap is_whole (ap (exactly word) (sym (append-nil word)) ∙ exactly_again word [])

spelled : (text word : List ℕ) → spells text word ≡ bytes_eq text word
spelled text word = same_from_decides (spells text word) (bytes_eq text word) (λ h. spelled_whole word text (exactly word text) refl h, λ e. ap (λ t. spells t word) e ∙ spells_itself word) (bytes_eq-Decides text word)

xml_bytes : encode_utf8_all (codes "xml") ≡ codes "xml"
unfolding encode
xml_bytes = refl

xmlns_bytes : encode_utf8_all (codes "xmlns") ≡ codes "xmlns"
unfolding encode
xmlns_bytes = refl

spelled_bytes : (prefix word : List ℕ) → encode_utf8_all word ≡ word → spells prefix word ≡ bytes_eq (encode_utf8_all prefix) word
spelled_bytes prefix word e = spelled prefix word ∙ sym (same_by_bytes prefix word) ∙ ap (bytes_eq (encode_utf8_all prefix)) e

-- ---- the declarations of one tag

abbrev own : Tag → List Binding
own tag = reverse (filter_map binding_of tag.attributes)

set_first : (d : NamespaceDeclaration) (ds : List NamespaceDeclaration) (prefix : List ℕ) (t : Bool) → bytes_eq d.prefix prefix ≡ t → set_by (d ∷ ds) prefix ≡ cond t (Some d.space) (set_by ds prefix)
set_first d ds prefix true e = rw e refl
set_first d ds prefix false e = rw e refl

set_by_bindings : (bs : List Binding) (prefix : List ℕ) → set_by (map declaration_of bs) (encode_utf8_all prefix) ≡ nearest bs prefix
set_by_bindings [] prefix = refl
set_by_bindings (b ∷ bs) prefix =
    set_first (declaration_of b) (map declaration_of bs) (encode_utf8_all prefix) (bytes_eq b.prefix prefix) (same_by_bytes b.prefix prefix)
    ∙ ap (λ o. cond (bytes_eq b.prefix prefix) (Some b.space) o) (set_by_bindings bs prefix)
    ∙ sym (by_first b bs prefix (bytes_eq b.prefix prefix) refl)

or_first : (t : Bool) (space : List ℕ) (o further : Option (List ℕ)) → cond t (Some space) (option_or o further) ≡ option_or (cond t (Some space) o) further
or_first true space o further = refl
or_first false space o further = refl

-- the nearest of two parts is that of the first, or else that of the second
nearest_of_parts : (bs cs : List Binding) (prefix : List ℕ) → nearest (bs ++ cs) prefix ≡ option_or (nearest bs prefix) (nearest cs prefix)
nearest_of_parts [] cs prefix = refl
nearest_of_parts (b ∷ bs) cs prefix =
    by_first b (bs ++ cs) prefix (bytes_eq b.prefix prefix) refl
    ∙ ap (λ o. cond (bytes_eq b.prefix prefix) (Some b.space) o) (nearest_of_parts bs cs prefix)
    ∙ or_first (bytes_eq b.prefix prefix) b.space (nearest bs prefix) (nearest cs prefix)
    ∙ ap (λ o. option_or o (nearest cs prefix)) (sym (by_first b bs prefix (bytes_eq b.prefix prefix) refl))

set_at_tag : (nodes : List Node) (k : ℕ) (n : Node) (tag : Tag) (prefix : List ℕ) → slice_get nodes k ≡ Some n → n.declared ≡ declared_by tag → set_at nodes k (encode_utf8_all prefix) ≡ nearest (own tag) prefix
set_at_tag nodes k n tag prefix e f =
    ap (λ o. option_and_then (λ x. set_by x.declared (encode_utf8_all prefix)) o) e
    ∙ ap (λ ds. set_by ds (encode_utf8_all prefix)) f
    ∙ set_by_bindings (own tag) prefix

-- ---- the nodes of the elements that are open

-- the node that stands behind these items
nodes_behind : (before rest : List Meaning) (i : ℕ) → slice_get (nodes_from [] (whole before rest)) (begun before + i) ≡ slice_get (nodes_from before rest) i
nodes_behind [] rest i = ap (λ n. slice_get (nodes_from [] rest) n) (zero_add i)
nodes_behind (Start name pairs ∷ before) rest i = ap (λ n. slice_get (nodes_from [] (whole before (Start name pairs ∷ rest))) n) (sym (add_suc (begun before) i)) ∙ nodes_behind before (Start name pairs ∷ rest) (suc i)
nodes_behind (Empty name pairs ∷ before) rest i = ap (λ n. slice_get (nodes_from [] (whole before (Empty name pairs ∷ rest))) n) (sym (add_suc (begun before) i)) ∙ nodes_behind before (Empty name pairs ∷ rest) (suc i)
nodes_behind (End name ∷ before) rest i = nodes_behind before (End name ∷ rest) i
nodes_behind (Declaration ∷ before) rest i = nodes_behind before (Declaration ∷ rest) i
nodes_behind (Comment ∷ before) rest i = nodes_behind before (Comment ∷ rest) i
nodes_behind (Instruction ∷ before) rest i = nodes_behind before (Instruction ∷ rest) i
nodes_behind (Section text ∷ before) rest i = nodes_behind before (Section text ∷ rest) i
nodes_behind (Letter c ∷ before) rest i = nodes_behind before (Letter c ∷ rest) i
nodes_behind (Reference c ∷ before) rest i = nodes_behind before (Reference c ∷ rest) i

node_here : (before rest : List Meaning) → slice_get (nodes_of (whole before rest)) (begun before) ≡ slice_get (nodes_from before rest) 0
node_here before rest = ap (λ n. slice_get (nodes_of (whole before rest)) n) (sym (add_zero (begun before))) ∙ nodes_behind before rest 0

-- the node of each of these elements sets a prefix as the element's tag declares it
abbrev AreSet : List Node → List ℕ → List Open → Type 0
AreSet nodes prefix [] = Unit {0}
AreSet nodes prefix (o ∷ os) = (set_at nodes o.number (encode_utf8_all prefix) ≡ nearest (own o.tag) prefix) × AreSet nodes prefix os

are_set : (passed : ℕ) (before after : List Meaning) (prefix : List ℕ) → AreSet (nodes_of (whole before after)) prefix (open_behind passed before)
are_set passed [] after prefix = tt
are_set passed (End name ∷ before) after prefix = are_set (suc passed) before (End name ∷ after) prefix
are_set zero (Start name pairs ∷ before) after prefix = (
  set_at_tag (nodes_of (whole before (Start name pairs ∷ after))) (begun before) _ (tag_of name pairs) prefix (node_here before (Start name pairs ∷ after)) refl,
  are_set zero before (Start name pairs ∷ after) prefix,
)
are_set (suc passed) (Start name pairs ∷ before) after prefix = are_set passed before (Start name pairs ∷ after) prefix
are_set passed (Empty name pairs ∷ before) after prefix = are_set passed before (Empty name pairs ∷ after) prefix
are_set passed (Declaration ∷ before) after prefix = are_set passed before (Declaration ∷ after) prefix
are_set passed (Comment ∷ before) after prefix = are_set passed before (Comment ∷ after) prefix
are_set passed (Instruction ∷ before) after prefix = are_set passed before (Instruction ∷ after) prefix
are_set passed (Section text ∷ before) after prefix = are_set passed before (Section text ∷ after) prefix
are_set passed (Letter c ∷ before) after prefix = are_set passed before (Letter c ∷ after) prefix
are_set passed (Reference c ∷ before) after prefix = are_set passed before (Reference c ∷ after) prefix

-- what the nodes of the open elements declare, from the innermost out
declared_by_open : (nodes : List Node) (os : List Open) (prefix : List ℕ) → AreSet nodes prefix os → first_declared nodes (numbers os) (encode_utf8_all prefix) ≡ nearest (declarations (tags_of os)) prefix
declared_by_open nodes [] prefix h = refl
declared_by_open nodes (o ∷ os) prefix h =
    ap (λ x. option_or x (first_declared nodes (numbers os) (encode_utf8_all prefix))) h.0
    ∙ ap (λ x. option_or (nearest (own o.tag) prefix) x) (declared_by_open nodes os prefix h.1)
    ∙ sym (nearest_of_parts (own o.tag) (declarations (tags_of os)) prefix)

-- ---- the node of a tag

-- where a tag stands among items: its node declares what it declares, and its ancestors are the elements that are open there
record Stands (before after : List Meaning) (item : Meaning) (tag : Tag) : Type 0 where
  node : Node
  at : slice_get (nodes_of (whole before (item ∷ after))) (begun before) ≡ Some node
  declares : node.declared ≡ declared_by tag
  above : slice_get (lineage [] (whole before (item ∷ after))) (begun before) ≡ Some (numbers (open_at before))

lineage_here : (before rest : List Meaning) → slice_get (lineage [] (whole before rest)) (begun before) ≡ slice_get (lineage before rest) 0
lineage_here before rest = ap (λ n. slice_get (lineage [] (whole before rest)) n) (sym (add_zero (begun before))) ∙ lineage_behind before rest 0

stands : (before after : List Meaning) (item : Meaning) (tag : Tag) → tag_in item ≡ Some tag → Stands before after item tag
stands before after (Start name pairs) tag e = record { node = _; at = node_here before (Start name pairs ∷ after); declares = ap declared_by (tag_same (tag_of name pairs) tag e); above = lineage_here before (Start name pairs ∷ after) }
  where
    tag_same : (x y : Tag) → Some x ≡ Some y → x ≡ y
    tag_same x y e = cc
stands before after (Empty name pairs) tag e = record { node = _; at = node_here before (Empty name pairs ∷ after); declares = ap declared_by (tag_same (tag_of name pairs) tag e); above = lineage_here before (Empty name pairs ∷ after) }
  where
    tag_same : (x y : Tag) → Some x ≡ Some y → x ≡ y
    tag_same x y e = cc
stands before after (End name) tag e = absurd cc
stands before after Declaration tag e = absurd cc
stands before after Comment tag e = absurd cc
stands before after Instruction tag e = absurd cc
stands before after (Section text) tag e = absurd cc
stands before after (Letter c) tag e = absurd cc
stands before after (Reference c) tag e = absurd cc

there_within : (nodes : List Node) (k : ℕ) (n : Node) → slice_get nodes k ≡ Some n → k < length nodes
there_within [] k n e = absurd cc
there_within (x ∷ xs) zero n e = omega arith
there_within (x ∷ xs) (suc k) n e = omega (arith, there_within xs k n e)

climb_from : (nodes : List Node) (all : List (List ℕ)) (steps k : ℕ) (os : List Open) → k < steps → length os ≤ k → AreLinked all os → slice_get all k ≡ Some (numbers os)
    → ((i : ℕ) (anc : List ℕ) → slice_get all i ≡ Some anc → parent_of nodes i ≡ first_of anc) → upward nodes steps (Some k) ≡ k ∷ numbers os
climb_from nodes all zero k os h l a e p = absurd (omega (arith, h))
climb_from nodes all (suc steps) k os h l a e p =
    ap (λ o. k ∷ upward nodes steps o) (p k (numbers os) e) ∙ ap (λ ks. k ∷ ks) (climb nodes all steps os a (omega (arith, h, l)) p)

-- what is declared on the path from a tag's node is what is declared at the tag
declared_on_path : (before after : List Meaning) (item : Meaning) (tag : Tag) (prefix : List ℕ) → tag_in item ≡ Some tag →
    first_declared (nodes_of (whole before (item ∷ after))) (path (nodes_of (whole before (item ∷ after))) (begun before)) (encode_utf8_all prefix) ≡ nearest (declared_at before tag) prefix
declared_on_path before after item tag prefix e =
    let items = whole before (item ∷ after) in
    let nodes = nodes_of items in
    let here = stands before after item tag e in
    let within : begun before < length nodes = there_within nodes (begun before) here.node here.at in
    ap (λ ks. first_declared nodes ks (encode_utf8_all prefix))
    (climb_from nodes (lineage [] items) (length nodes) (begun before) (open_at before) within (open_few zero before) (linked zero before (item ∷ after)) here.above (parents [] items))
    ∙ ap (λ x. option_or x (first_declared nodes (numbers (open_at before)) (encode_utf8_all prefix))) (set_at_tag nodes (begun before) here.node tag prefix here.at here.declares)
    ∙ ap (λ x. option_or (nearest (own tag) prefix) x) (declared_by_open nodes (open_at before) prefix (are_set zero before (item ∷ after) prefix))
    ∙ sym (nearest_of_parts (own tag) (declarations (tags_of (open_at before))) prefix)

by_tests : (a b c d : Bool) (x y : Option (List ℕ)) → a ≡ b → c ≡ d → x ≡ y → cond a (Some xml_space) (cond c None (option_and_then not_empty x)) ≡ cond b (Some xml_space) (cond d None (option_and_then not_empty y))
by_tests a b c d x y e f g = rw (e, f, g) refl

pub scope_holds : (nodes : List Node) (before after : List Meaning) (item : Meaning) (tag : Tag) → nodes ≡ nodes_of (whole before (item ∷ after)) → tag_in item ≡ Some tag → (prefix : List ℕ) →
    space_under (declared_at before tag) prefix ≡ space_in_scope nodes (begun before) (encode_utf8_all prefix)
scope_holds nodes before after item tag e is prefix =
    by_tests (spells prefix (codes "xml")) (bytes_eq (encode_utf8_all prefix) (codes "xml")) (spells prefix (codes "xmlns")) (bytes_eq (encode_utf8_all prefix) (codes "xmlns")) (nearest (declared_at before tag) prefix) _
    (spelled_bytes prefix (codes "xml") xml_bytes) (spelled_bytes prefix (codes "xmlns") xmlns_bytes) (sym (declared_on_path before after item tag prefix is))
    ∙ ap (λ ns. space_in_scope ns (begun before) (encode_utf8_all prefix)) (sym e)
