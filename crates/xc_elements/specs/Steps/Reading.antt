-- What the reader of a document keeps, and what it stands for.
use Rattle.std.specs.Prelude.{◌≡◌, ℕ, zero, suc, ◌+◌, ◌&&◌, nat_lt, nat_le, Bool, true, false, List, [], ◌∷◌, ◌++◌, length, map, Option, unwrap_or, encode_utf8_all}
use Rattle.xc_elements.specs.Items.{Meaning}
use Rattle.xc_elements.specs.Steps.Kept.{Kept, none_kept, innermost_kept}
use Rattle.xc_elements.specs.Steps.Views.{lent_text, name_view, attributes_at}
use Rattle.xc_elements.specs.Namespaces.{Binding, Tag, tag_of, declarations, declared_by, element_space, expand, tag_lacks_space, has_double}
use Rattle.xc_elements.specs.Elements.{begun, Open, open_at, begun_inside, is_return, text_inside, nodes_from, nodes_of, is_unbalanced, is_too_deep, has_no_space, has_same_attribute}
use Rattle.xc_elements.specs.declared.nodes.Node.{Node}
use Rattle.xc_elements.specs.declared.reader.Reader.{Reader}
use Rattle.xc_elements.specs.declared.refusal.Refusal.{Refusal}
use Rattle.xc_elements.specs.declared.refusal.Refusal.TheVariants as refusals
use Rattle.xc_elements.specs.declared.tags.Tag as tags

-- what is kept is of these elements
abbrev pub AreOpen : List Kept → List Open → Type 0
AreOpen [] [] = Unit {0}
AreOpen [] (o ∷ os) = ⊥
AreOpen (k ∷ ks) [] = ⊥
AreOpen (k ∷ ks) (o ∷ os) = (k.number ≡ o.number) × (k.name ≡ o.tag.name) × (k.outside ≡ length (declarations (map (λ q. q.tag) os))) × AreOpen ks os

-- nodes, of which one has ended
abbrev pub end_node : ℕ → ℕ → List ℕ → List Node → List Node
end_node number end text [] = []
end_node zero end text (n ∷ ns) = record { space = n.space; local = n.local; attributes = n.attributes; declared = n.declared; parent = n.parent; end = end; text = text } ∷ ns
end_node (suc number) end text (n ∷ ns) = n ∷ end_node number end text ns

-- the nodes that have been made, when the open elements have ended: these items follow
abbrev pub complete_nodes : ℕ → Bool → List Meaning → ℕ → List Kept → List Node → List Node
complete_nodes depth behind_return after count [] nodes = nodes
complete_nodes depth behind_return after count (k ∷ ks) nodes = complete_nodes (suc depth) behind_return after count ks (end_node k.number (count + begun_inside depth after) (k.text ++ encode_utf8_all (text_inside depth behind_return after)) nodes)

-- the whole list of items, of which those before a place are told from the last to the first
abbrev pub whole : List Meaning → List Meaning → List Meaning
whole [] after = after
whole (item ∷ before) after = whole before (item ∷ after)

-- the last item before a place is a carriage return
abbrev pub ends_in_return : List Meaning → Bool
ends_in_return [] = false
ends_in_return (item ∷ before) = is_return item

-- this is kept of these items, which are told from the last to the first
pub record IsKeptOf (opens : List Kept) (scope : List Binding) (nodes : List Node) (behind_return : Bool) (before : List Meaning) : Type 0 where
  pub are_open : AreOpen opens (open_at before)
  pub declared : scope ≡ declarations (map (λ o. o.tag) (open_at before))
  pub count : length nodes ≡ begun before
  pub last : behind_return ≡ ends_in_return before
  pub made : (after : List Meaning) → nodes_of (whole before after) ≡ complete_nodes zero behind_return after (begun before) opens nodes ++ nodes_from before after

-- the reader has read these items
abbrev pub Reads : Reader → List Meaning → Type 0
Reads reader before = IsKeptOf reader.opens reader.scope reader.nodes.items reader.behind_return before

-- whatever items the reader had read, it has now read this one too
abbrev pub HasRead : Reader → Reader → Meaning → Type 0
HasRead old new item = (before : List Meaning) → Reads old before → Reads new (item ∷ before)

-- what the text of a tag stands for
abbrev pub tag_view : tags.Tag → Tag
tag_view tag = tag_of (name_view tag.name) (attributes_at (lent_text tag.attributes))

-- the node of a tag with these declarations in scope, before anything inside it
abbrev pub new_node : List Binding → Tag → Option ℕ → ℕ → Node
new_node scope tag parent end = record { space = unwrap_or (element_space scope tag.name) []; local = encode_utf8_all tag.name.local; attributes = map (expand scope) tag.attributes; declared = declared_by tag; parent = parent; end = end; text = [] }

-- a tag that is refused for its names
abbrev pub IsRefusedTag : List Binding → Tag → Refusal → Type 0
IsRefusedTag scope tag refusals.Memory = Unit {0}
IsRefusedTag scope tag refusals.Unbalanced = ⊥
IsRefusedTag scope tag refusals.TooDeep = ⊥
IsRefusedTag scope tag refusals.NoSpace = tag_lacks_space scope tag ≡ true
IsRefusedTag scope tag refusals.SameAttribute = (tag_lacks_space scope tag ≡ false) × (has_double (map (expand scope) tag.attributes) ≡ true)

-- a tag is refused where this is kept
abbrev pub IsRefusedAt : List Kept → List Binding → ℕ → Tag → Refusal → Type 0
IsRefusedAt opens scope count tag refusals.Memory = Unit {0}
IsRefusedAt opens scope count tag refusals.Unbalanced = (none_kept opens && nat_lt 0 count) ≡ true
IsRefusedAt opens scope count tag refusals.TooDeep = ((none_kept opens && nat_lt 0 count) ≡ false) × (nat_le 127 (length opens) ≡ true)
IsRefusedAt opens scope count tag refusals.NoSpace = ((none_kept opens && nat_lt 0 count) ≡ false) × (nat_le 127 (length opens) ≡ false) × IsRefusedTag (declarations (tag ∷ []) ++ scope) tag refusals.NoSpace
IsRefusedAt opens scope count tag refusals.SameAttribute = ((none_kept opens && nat_lt 0 count) ≡ false) × (nat_le 127 (length opens) ≡ false) × IsRefusedTag (declarations (tag ∷ []) ++ scope) tag refusals.SameAttribute

-- a tag with this scope has a node, where so many elements have begun and these are open
pub record HasNode (opens : List Kept) (scope : List Binding) (count : ℕ) (tag : Tag) (node : Node) : Type 0 where
  pub balanced : (none_kept opens && nat_lt 0 count) ≡ false
  pub shallow : nat_le 127 (length opens) ≡ false
  pub spaced : tag_lacks_space scope tag ≡ false
  pub distinct : has_double (map (expand scope) tag.attributes) ≡ false
  pub is : node ≡ new_node scope tag (innermost_kept opens) (suc count)

-- the item has no fault
pub record IsFine (before : List Meaning) (item : Meaning) : Type 0 where
  pub balanced : is_unbalanced before item ≡ false
  pub shallow : is_too_deep before item ≡ false
  pub spaced : has_no_space before item ≡ false
  pub distinct : has_same_attribute before item ≡ false

-- the item has this fault, and none that goes before it
abbrev pub IsRefused : List Meaning → Meaning → Refusal → Type 0
IsRefused before item refusals.Memory = Unit {0}
IsRefused before item refusals.Unbalanced = is_unbalanced before item ≡ true
IsRefused before item refusals.TooDeep = (is_unbalanced before item ≡ false) × (is_too_deep before item ≡ true)
IsRefused before item refusals.NoSpace = (is_unbalanced before item ≡ false) × (is_too_deep before item ≡ false) × (has_no_space before item ≡ true)
IsRefused before item refusals.SameAttribute = (is_unbalanced before item ≡ false) × (is_too_deep before item ≡ false) × (has_no_space before item ≡ false) × (has_same_attribute before item ≡ true)

-- whatever items the reader has read, this one has no fault behind them
abbrev pub Takes : Reader → Meaning → Type 0
Takes reader item = (before : List Meaning) → Reads reader before → IsFine before item

-- whatever items the reader has read, this one has this fault behind them, and none that goes before it
abbrev pub Refuses : Reader → Meaning → Refusal → Type 0
Refuses reader item refusal = (before : List Meaning) → Reads reader before → IsRefused before item refusal
