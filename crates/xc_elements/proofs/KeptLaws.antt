-- What the reader keeps, item by item.
use Rattle.std.proofs.Common.{◌≡◌, ℕ, zero, suc, ◌+◌, ◌-◌, ◌<◌, Bool, false, List, [], ◌∷◌, ◌++◌, length, drop, Some, refl, sym, ap, subst, ◌∙◌, append_assoc, arith}
use Rattle.std.specs.Prelude.{map, reverse, encode_utf8_all}
use Rattle.std.specs.List.{filter_map}
use Rattle.std.proofs.lemmas.List.{length-append, drop_at, append-nil}
use Rattle.xc_elements.specs.Items.{Name, Pair, Meaning, Declaration, Start, Empty, End, Comment, Instruction, Section, Letter, Reference}
use Rattle.xc_elements.specs.Steps.Kept.{Kept, with_text, none_kept, innermost_kept, AreBelow}
use Rattle.xc_elements.specs.Namespaces.{Binding, Tag, tag_of, declarations, binding_of}
use Rattle.xc_elements.specs.Elements.{begun, Open, open_at, open_behind, begun_inside, is_return, item_text, text_inside, innermost, nodes_from, node_at, declared_at, is_outside}
use Rattle.xc_elements.specs.Steps.Reading.{AreOpen, end_node, complete_nodes, IsKeptOf, HasNode, new_node}
use Rattle.xc_elements.specs.declared.nodes.Node.{Node}
use Rattle.xc_elements.proofs.CompletedLaws.{IsPlain, completed_plain, completed_start, completed_empty, completed_end, completed_before, length-end_node, ended_last}

abbrev pub tags_of : List Open → List Tag
tags_of os = map (λ o. o.tag) os

-- ---- nothing read

pub kept_none : IsKeptOf [] [] [] false []
kept_none = record { are_open = tt; declared = refl; count = refl; last = refl; made = λ after. refl }

-- ---- plain items

same_open : (text : List ℕ) (ks : List Kept) (os : List Open) → AreOpen ks os → AreOpen (with_text text ks) os
same_open text [] os h = h
same_open text (k ∷ ks) [] h = h
same_open text (k ∷ ks) (o ∷ os) h = h

pub kept_plain : (item : Meaning) (p : IsPlain item) (opens new : List Kept) (scope : List Binding) (nodes : List Node) (r : Bool) (before : List Meaning) →
    new ≡ with_text (encode_utf8_all (item_text r item)) opens → IsKeptOf opens scope nodes r before → IsKeptOf new scope nodes (is_return item) (item ∷ before)
kept_plain item p opens new scope nodes r before e k = record {
  are_open = subst (λ os. AreOpen new os) (sym (p.still_open before)) (subst (λ ks. AreOpen ks (open_at before)) (sym e) (same_open (encode_utf8_all (item_text r item)) opens (open_at before) k.are_open));
  declared = k.declared ∙ ap (λ os. declarations (tags_of os)) (sym (p.still_open before));
  count = k.count ∙ sym (p.begins_none before);
  last = refl;
  made = λ after.
      k.made (item ∷ after)
      ∙ ap (λ ns. ns ++ nodes_from before (item ∷ after)) (completed_plain item p r after (begun before) opens nodes)
      ∙ ap (λ ns. complete_nodes zero (is_return item) after (begun before) (with_text (encode_utf8_all (item_text r item)) opens) nodes ++ ns) (p.nodes before after)
      ∙ ap (λ ks. complete_nodes zero (is_return item) after (begun before) ks nodes ++ nodes_from (item ∷ before) after) (sym e)
      ∙ ap (λ n. complete_nodes zero (is_return item) after n new nodes ++ nodes_from (item ∷ before) after) (sym (p.begins_none before));
}

with_none : (ks : List Kept) → with_text [] ks ≡ ks
with_none [] = refl
with_none (k ∷ ks) = ap (λ (t : List ℕ). record { number = k.number; name = k.name; outside = k.outside; text = t } ∷ ks) (append-nil k.text)

-- an item without text
pub kept_silent : (item : Meaning) (p : IsPlain item) (opens : List Kept) (scope : List Binding) (nodes : List Node) (r : Bool) (before : List Meaning) →
    item_text r item ≡ [] → IsKeptOf opens scope nodes r before → IsKeptOf opens scope nodes (is_return item) (item ∷ before)
kept_silent item p opens scope nodes r before e k =
    kept_plain item p opens opens scope nodes r before (sym (ap (λ (t : List ℕ). with_text (encode_utf8_all t) opens) e ∙ with_none opens)) k

-- ---- what is open

-- the numbers of open elements are below how many have begun
abbrev pub AreUnder : ℕ → List Open → Type 0
AreUnder n [] = Unit {0}
AreUnder n (o ∷ os) = (o.number < n) × AreUnder n os

under_more : (n : ℕ) (os : List Open) → AreUnder n os → AreUnder (suc n) os
under_more n [] h = tt
under_more n (o ∷ os) h = (omega (arith, h.0), under_more n os h.1)

pub open_under : (passed : ℕ) (before : List Meaning) → AreUnder (begun before) (open_behind passed before)
open_under passed [] = tt
open_under passed (End name ∷ before) = open_under (suc passed) before
open_under zero (Start name pairs ∷ before) = (omega arith, under_more (begun before) (open_behind zero before) (open_under zero before))
open_under (suc passed) (Start name pairs ∷ before) = under_more (begun before) (open_behind passed before) (open_under passed before)
open_under passed (Empty name pairs ∷ before) = under_more (begun before) (open_behind passed before) (open_under passed before)
open_under passed (Declaration ∷ before) = open_under passed before
open_under passed (Comment ∷ before) = open_under passed before
open_under passed (Instruction ∷ before) = open_under passed before
open_under passed (Section text ∷ before) = open_under passed before
open_under passed (Letter c ∷ before) = open_under passed before
open_under passed (Reference c ∷ before) = open_under passed before

abbrev pub outer : List Open → List Open
outer [] = []
outer (o ∷ os) = os

-- an end tag ends the innermost element
pub open_outside : (passed : ℕ) (before : List Meaning) → open_behind (suc passed) before ≡ outer (open_behind passed before)
open_outside passed [] = refl
open_outside passed (End name ∷ before) = open_outside (suc passed) before
open_outside zero (Start name pairs ∷ before) = refl
open_outside (suc passed) (Start name pairs ∷ before) = open_outside passed before
open_outside passed (Empty name pairs ∷ before) = open_outside passed before
open_outside passed (Declaration ∷ before) = open_outside passed before
open_outside passed (Comment ∷ before) = open_outside passed before
open_outside passed (Instruction ∷ before) = open_outside passed before
open_outside passed (Section text ∷ before) = open_outside passed before
open_outside passed (Letter c ∷ before) = open_outside passed before
open_outside passed (Reference c ∷ before) = open_outside passed before

below_of : (n : ℕ) (ks : List Kept) (os : List Open) → AreOpen ks os → AreUnder n os → AreBelow n ks
below_of n [] os h u = tt
below_of n (k ∷ ks) [] h u = absurd h
below_of n (k ∷ ks) (o ∷ os) h u = (omega (arith, h.0, u.0), below_of n ks os h.3 u.1)

-- each element that is kept has begun
pub kept_below : (opens : List Kept) (scope : List Binding) (nodes : List Node) (r : Bool) (before : List Meaning) → IsKeptOf opens scope nodes r before → AreBelow (length nodes) opens
kept_below opens scope nodes r before k = subst (λ n. AreBelow n opens) (sym k.count) (below_of (begun before) opens (open_at before) k.are_open (open_under zero before))

-- ---- end tags

open_end : (k : Kept) (ks : List Kept) (os : List Open) → AreOpen (k ∷ ks) os → AreOpen ks (outer os)
open_end k ks [] h = absurd h
open_end k ks (o ∷ os) h = h.3

declared_end : (k : Kept) (ks : List Kept) (os : List Open) (scope : List Binding) → AreOpen (k ∷ ks) os → scope ≡ declarations (tags_of os) → drop (length scope - k.outside) scope ≡ declarations (tags_of (outer os))
declared_end k ks [] scope h e = absurd h
declared_end k ks (o ∷ os) scope h e =
    let own = reverse (filter_map binding_of o.tag.attributes) in
    let others = declarations (tags_of os) in
    let long : length own ≡ length scope - k.outside = omega (arith, ap length e, length-append own others, h.2) in
    ap (λ (bs : List Binding). drop (length scope - k.outside) bs) e ∙ drop_at own others (length scope - k.outside) long

pub kept_end : (name : Name) (opens new : List Kept) (k : Kept) (scope new_scope : List Binding) (nodes new_nodes : List Node) (r : Bool) (before : List Meaning) →
    opens ≡ k ∷ new → new_scope ≡ drop (length scope - k.outside) scope → new_nodes ≡ end_node k.number (length nodes) k.text nodes →
    IsKeptOf opens scope nodes r before → IsKeptOf new new_scope new_nodes false (End name ∷ before)
kept_end name opens new k scope new_scope nodes new_nodes r before eo es en kept =
    let are : AreOpen (k ∷ new) (open_at before) = subst (λ ks. AreOpen ks (open_at before)) eo kept.are_open in
    let out : open_at (End name ∷ before) ≡ outer (open_at before) = open_outside zero before in
    record {
      are_open = subst (λ os. AreOpen new os) (sym out) (open_end k new (open_at before) are);
      declared = es ∙ declared_end k new (open_at before) scope are kept.declared ∙ ap (λ os. declarations (tags_of os)) (sym out);
      count = ap length en ∙ length-end_node k.number (length nodes) k.text nodes ∙ kept.count;
      last = refl;
      made = λ after.
          kept.made (End name ∷ after)
          ∙ ap (λ ks. complete_nodes zero r (End name ∷ after) (begun before) ks nodes ++ nodes_from (End name ∷ before) after) eo
          ∙ ap (λ ns. ns ++ nodes_from (End name ∷ before) after) (completed_end name r after (begun before) k new nodes)
          ∙ ap (λ n. complete_nodes zero false after (begun before) new (end_node k.number n k.text nodes) ++ nodes_from (End name ∷ before) after) (sym kept.count)
          ∙ ap (λ ns. complete_nodes zero false after (begun before) new ns ++ nodes_from (End name ∷ before) after) (sym en);
    }

-- ---- tags

same_number : (ks : List Kept) (os : List Open) → AreOpen ks os → innermost_kept ks ≡ innermost os
same_number [] [] h = refl
same_number [] (o ∷ os) h = absurd h
same_number (k ∷ ks) [] h = absurd h
same_number (k ∷ ks) (o ∷ os) h = ap (λ n. Some n) h.0

pub same_length : (ks : List Kept) (os : List Open) → AreOpen ks os → length ks ≡ length os
same_length [] [] h = refl
same_length [] (o ∷ os) h = absurd h
same_length (k ∷ ks) [] h = absurd h
same_length (k ∷ ks) (o ∷ os) h = ap suc (same_length ks os h.3)

pub same_none : (ks : List Kept) (os : List Open) → AreOpen ks os → none_kept ks ≡ is_outside os
same_none [] [] h = refl
same_none [] (o ∷ os) h = absurd h
same_none (k ∷ ks) [] h = absurd h
same_none (k ∷ ks) (o ∷ os) h = refl

-- the scope inside a tag
pub scope_inside : (tag : Tag) (os : List Open) (scope inside : List Binding) → scope ≡ declarations (tags_of os) → inside ≡ declarations (tag ∷ []) ++ scope → inside ≡ declarations (tag ∷ tags_of os)
scope_inside tag os scope inside e f =
    f ∙ ap (λ (bs : List Binding). declarations (tag ∷ []) ++ bs) e
    ∙ ap (λ (bs : List Binding). bs ++ declarations (tags_of os)) (append-nil (reverse (filter_map binding_of tag.attributes)))

-- the node of a tag, with what is inside it
abbrev finished : Node → ℕ → List ℕ → Node
finished n end text = record { space = n.space; local = n.local; attributes = n.attributes; declared = n.declared; parent = n.parent; end = end; text = text }

node_of_tag : (opens : List Kept) (scope inside : List Binding) (nodes : List Node) (r : Bool) (before : List Meaning) (tag : Tag) (node : Node) (more : ℕ) (text : List ℕ) →
    IsKeptOf opens scope nodes r before → inside ≡ declarations (tag ∷ []) ++ scope → HasNode opens inside (length nodes) tag node →
    finished node (suc (length nodes) + more) (encode_utf8_all text) ≡ node_at before tag more text
node_of_tag opens scope inside nodes r before tag node more text kept e h =
    ap (λ n. finished n (suc (length nodes) + more) (encode_utf8_all text)) h.is
    ∙ ap (λ bs. finished (new_node bs tag (innermost_kept opens) (suc (length nodes))) (suc (length nodes) + more) (encode_utf8_all text)) (scope_inside tag (open_at before) scope inside kept.declared e)
    ∙ ap (λ p. finished (new_node (declared_at before tag) tag p (suc (length nodes))) (suc (length nodes) + more) (encode_utf8_all text)) (same_number opens (open_at before) kept.are_open)
    ∙ ap (λ n. finished (new_node (declared_at before tag) tag (innermost (open_at before)) (suc (length nodes))) (suc n + more) (encode_utf8_all text)) kept.count

one_longer : (ns : List Node) (n : Node) → length (ns ++ n ∷ []) ≡ suc (length ns)
one_longer ns n = omega (arith, length-append ns (n ∷ []))

-- what is kept of a start tag
abbrev pub opened : ℕ → Name → ℕ → Kept
opened number name outside = record { number = number; name = name; outside = outside; text = [] }

-- the same, with what has been found to be so
pub opened_as : (number number' outside outside' : ℕ) (name : Name) (text : List ℕ) (new opens opens' : List Kept) → number ≡ number' → outside ≡ outside' → text ≡ [] → opens ≡ opens' →
    new ≡ record { number = number; name = name; outside = outside; text = text } ∷ opens → new ≡ opened number' name outside' ∷ opens'
opened_as number number' outside outside' name text new opens opens' en eo et es e =
    e ∙ ap (λ n. record { number = n; name = name; outside = outside; text = text } ∷ opens) en
    ∙ ap (λ n. record { number = number'; name = name; outside = n; text = text } ∷ opens) eo
    ∙ ap (λ (t : List ℕ). record { number = number'; name = name; outside = outside'; text = t } ∷ opens) et
    ∙ ap (λ ks. opened number' name outside' ∷ ks) es

pub kept_start : (name : Name) (pairs : List Pair) (opens new : List Kept) (scope inside : List Binding) (nodes new_nodes : List Node) (node : Node) (r : Bool) (before : List Meaning) →
    new ≡ opened (length nodes) name (length scope) ∷ opens → inside ≡ declarations (tag_of name pairs ∷ []) ++ scope → new_nodes ≡ nodes ++ node ∷ [] → HasNode opens inside (length nodes) (tag_of name pairs) node →
    IsKeptOf opens scope nodes r before → IsKeptOf new inside new_nodes false (Start name pairs ∷ before)
kept_start name pairs opens new scope inside nodes new_nodes node r before eo es en h kept =
    let tag = tag_of name pairs in
    record {
      are_open = subst (λ ks. AreOpen ks (open_at (Start name pairs ∷ before))) (sym eo) (kept.count, refl, ap length kept.declared, kept.are_open);
      declared = scope_inside tag (open_at before) scope inside kept.declared es;
      count = ap length en ∙ one_longer nodes node ∙ ap suc kept.count;
      last = refl;
      made = λ after.
          let more = begun_inside zero after in
          let text = text_inside zero false after in
          kept.made (Start name pairs ∷ after)
          ∙ ap (λ ns. ns ++ nodes_from before (Start name pairs ∷ after)) (completed_start name pairs zero r after (begun before) opens nodes)
          ∙ sym (append_assoc (complete_nodes (suc zero) false after (suc (begun before)) opens nodes) (node_at before tag more text ∷ []) (nodes_from (Start name pairs ∷ before) after))
          ∙ ap (λ ns. ns ++ nodes_from (Start name pairs ∷ before) after) (sym (completed_before (suc zero) false after (suc (begun before)) opens nodes (node_at before tag more text ∷ []) (kept_below opens scope nodes r before kept)))
          ∙ ap (λ n. complete_nodes (suc zero) false after (suc (begun before)) opens (nodes ++ n ∷ []) ++ nodes_from (Start name pairs ∷ before) after) (sym (node_of_tag opens scope inside nodes r before tag node more text kept es h))
          ∙ ap (λ ns. complete_nodes (suc zero) false after (suc (begun before)) opens ns ++ nodes_from (Start name pairs ∷ before) after) (sym (ended_last nodes node (length nodes) (suc (length nodes) + more) (encode_utf8_all text) refl))
          ∙ ap (λ n. complete_nodes (suc zero) false after (suc (begun before)) opens (end_node (length nodes) (suc n + more) (encode_utf8_all text) (nodes ++ node ∷ [])) ++ nodes_from (Start name pairs ∷ before) after) kept.count
          ∙ ap (λ ks. complete_nodes zero false after (suc (begun before)) ks (nodes ++ node ∷ []) ++ nodes_from (Start name pairs ∷ before) after) (sym eo)
          ∙ ap (λ ns. complete_nodes zero false after (suc (begun before)) new ns ++ nodes_from (Start name pairs ∷ before) after) (sym en);
    }

drop_own : (own others : List Binding) → drop (length (own ++ others) - length others) (own ++ others) ≡ others
drop_own own others = drop_at own others (length (own ++ others) - length others) (omega (arith, length-append own others))

pub kept_empty : (name : Name) (pairs : List Pair) (opens : List Kept) (scope inside new_scope : List Binding) (nodes new_nodes : List Node) (node : Node) (r : Bool) (before : List Meaning) →
    inside ≡ declarations (tag_of name pairs ∷ []) ++ scope → new_scope ≡ drop (length inside - length scope) inside → new_nodes ≡ nodes ++ node ∷ [] → HasNode opens inside (length nodes) (tag_of name pairs) node →
    IsKeptOf opens scope nodes r before → IsKeptOf opens new_scope new_nodes false (Empty name pairs ∷ before)
kept_empty name pairs opens scope inside new_scope nodes new_nodes node r before es el en h kept =
    let tag = tag_of name pairs in
    let same : finished node (suc (length nodes) + 0) (encode_utf8_all []) ≡ node = ap (λ n. finished n (suc (length nodes) + 0) []) h.is ∙ ap (λ m. finished (new_node inside tag (innermost_kept opens) (suc (length nodes))) m []) (omega arith) ∙ sym h.is in
    record {
      are_open = kept.are_open;
      declared = el ∙ ap (λ (bs : List Binding). drop (length bs - length scope) bs) es ∙ drop_own (declarations (tag ∷ [])) scope ∙ kept.declared;
      count = ap length en ∙ one_longer nodes node ∙ ap suc kept.count;
      last = refl;
      made = λ after.
          kept.made (Empty name pairs ∷ after)
          ∙ ap (λ ns. ns ++ nodes_from before (Empty name pairs ∷ after)) (completed_empty name pairs r after (begun before) opens nodes)
          ∙ sym (append_assoc (complete_nodes zero false after (suc (begun before)) opens nodes) (node_at before tag 0 [] ∷ []) (nodes_from (Empty name pairs ∷ before) after))
          ∙ ap (λ ns. ns ++ nodes_from (Empty name pairs ∷ before) after) (sym (completed_before zero false after (suc (begun before)) opens nodes (node_at before tag 0 [] ∷ []) (kept_below opens scope nodes r before kept)))
          ∙ ap (λ n. complete_nodes zero false after (suc (begun before)) opens (nodes ++ n ∷ []) ++ nodes_from (Empty name pairs ∷ before) after) (sym (node_of_tag opens scope inside nodes r before tag node 0 [] kept es h) ∙ same)
          ∙ ap (λ ns. complete_nodes zero false after (suc (begun before)) opens ns ++ nodes_from (Empty name pairs ∷ before) after) (sym en);
    }
