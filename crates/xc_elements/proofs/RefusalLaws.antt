-- Why an item is refused, by what the reader keeps.
use Rattle.std.proofs.Common.{◌≡◌, Bool, ◌&&◌, List, [], ◌∷◌, ◌++◌, length, refl, sym, ap, subst, ◌∙◌}
use Rattle.std.specs.Prelude.{map, nat_lt, nat_le, Result, Ok, Err, IsErr, IsErrAnd, IfErr}
use Rattle.xc_elements.specs.Items.{Name, Pair, Meaning, Start, Empty}
use Rattle.xc_elements.specs.Steps.Kept.{Kept, none_kept}
use Rattle.xc_elements.specs.Namespaces.{Binding, Tag, tag_of, declarations, expand, tag_lacks_space, has_double}
use Rattle.xc_elements.specs.Elements.{begun, open_at, declared_at, is_behind_root}
use Rattle.xc_elements.specs.Steps.Reading.{IsKeptOf, IsFine, IsRefused, IsRefusedAt, HasNode}
use Rattle.xc_elements.specs.declared.nodes.Node.{Node}
use Rattle.xc_elements.specs.declared.refusal.Refusal.{Refusal}
use Rattle.xc_elements.specs.declared.refusal.Refusal.TheVariants as refusals
use Rattle.xc_elements.proofs.KeptLaws.{same_none, same_length, scope_inside}

-- an error that is handed on
pub handed_on : {T E : Type 0} (r : Result T E) (e : E) (F : E → Type 0) → IsErr r × IsErrAnd r (λ x. x ≡ e) → F e → IfErr r F
handed_on (Ok t) e F h f = tt
handed_on (Err x) e F h f = subst F (sym h.1) f

-- ---- what is kept says of a tag what the items say

behind_root : (opens : List Kept) (scope : List Binding) (nodes : List Node) (r : Bool) (before : List Meaning) → IsKeptOf opens scope nodes r before → is_behind_root before ≡ (none_kept opens && nat_lt 0 (length nodes))
behind_root opens scope nodes r before k =
    ap (λ t. t && nat_lt 0 (begun before)) (sym (same_none opens (open_at before) k.are_open)) ∙ ap (λ n. none_kept opens && nat_lt 0 n) (sym k.count)

deep : (opens : List Kept) (scope : List Binding) (nodes : List Node) (r : Bool) (before : List Meaning) → IsKeptOf opens scope nodes r before → nat_le 127 (length (open_at before)) ≡ nat_le 127 (length opens)
deep opens scope nodes r before k = ap (λ n. nat_le 127 n) (sym (same_length opens (open_at before) k.are_open))

inside : (opens : List Kept) (scope : List Binding) (nodes : List Node) (r : Bool) (before : List Meaning) (tag : Tag) → IsKeptOf opens scope nodes r before → declared_at before tag ≡ declarations (tag ∷ []) ++ scope
inside opens scope nodes r before tag k = sym (scope_inside tag (open_at before) scope (declarations (tag ∷ []) ++ scope) k.declared refl)

-- a tag has no fault where it has a node
pub fine_tag : (opens : List Kept) (scope new : List Binding) (nodes : List Node) (r : Bool) (before : List Meaning) (name : Name) (pairs : List Pair) (node : Node) →
    IsKeptOf opens scope nodes r before → new ≡ declarations (tag_of name pairs ∷ []) ++ scope → HasNode opens new (length nodes) (tag_of name pairs) node → IsFine before (Start name pairs)
fine_tag opens scope new nodes r before name pairs node k e h =
    let tag = tag_of name pairs in
    let same : declared_at before tag ≡ new = inside opens scope nodes r before tag k ∙ sym e in
    record {
      balanced = behind_root opens scope nodes r before k ∙ h.balanced;
      shallow = deep opens scope nodes r before k ∙ h.shallow;
      spaced = ap (λ bs. tag_lacks_space bs tag) same ∙ h.spaced;
      distinct = ap (λ bs. has_double (map (expand bs) tag.attributes)) same ∙ h.distinct;
    }

pub fine_empty : (before : List Meaning) (name : Name) (pairs : List Pair) → IsFine before (Start name pairs) → IsFine before (Empty name pairs)
fine_empty before name pairs h = record { balanced = h.balanced; shallow = h.shallow; spaced = h.spaced; distinct = h.distinct }

-- a tag is refused where the reader refuses it
pub refused_tag : (opens : List Kept) (scope : List Binding) (nodes : List Node) (r : Bool) (before : List Meaning) (name : Name) (pairs : List Pair) (refusal : Refusal) →
    IsKeptOf opens scope nodes r before → IsRefusedAt opens scope (length nodes) (tag_of name pairs) refusal → IsRefused before (Start name pairs) refusal
refused_tag opens scope nodes r before name pairs refusals.Memory k h = tt
refused_tag opens scope nodes r before name pairs refusals.Unbalanced k h = behind_root opens scope nodes r before k ∙ h
refused_tag opens scope nodes r before name pairs refusals.TooDeep k h = (behind_root opens scope nodes r before k ∙ h.0, deep opens scope nodes r before k ∙ h.1)
refused_tag opens scope nodes r before name pairs refusals.NoSpace k h =
    let tag = tag_of name pairs in
    (behind_root opens scope nodes r before k ∙ h.0, deep opens scope nodes r before k ∙ h.1, ap (λ bs. tag_lacks_space bs tag) (inside opens scope nodes r before tag k) ∙ h.2)
refused_tag opens scope nodes r before name pairs refusals.SameAttribute k h =
    let tag = tag_of name pairs in
    let same = inside opens scope nodes r before tag k in
    (behind_root opens scope nodes r before k ∙ h.0, deep opens scope nodes r before k ∙ h.1, ap (λ bs. tag_lacks_space bs tag) same ∙ h.2.0, ap (λ bs. has_double (map (expand bs) tag.attributes)) same ∙ h.2.1)

pub refused_empty : (before : List Meaning) (name : Name) (pairs : List Pair) (refusal : Refusal) → IsRefused before (Start name pairs) refusal → IsRefused before (Empty name pairs) refusal
refused_empty before name pairs refusals.Memory h = h
refused_empty before name pairs refusals.Unbalanced h = h
refused_empty before name pairs refusals.TooDeep h = h
refused_empty before name pairs refusals.NoSpace h = h
refused_empty before name pairs refusals.SameAttribute h = h
