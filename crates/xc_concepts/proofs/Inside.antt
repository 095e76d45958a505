-- What stands inside an element of a tree.
use Rattle.std.proofs.Common.{◌≡◌, ◌<◌, ◌≤◌, ◌==◌, ◌||◌, ℕ, zero, suc, List, Bool, true, false, Option, Some, None, length, get_or, option_map, option_and_then, codes, refl, sym, ap, subst, ◌∙◌, arith, if◌then◌else◌}
use Rattle.std.specs.List.{list_any}
use Rattle.std.proofs.lemmas.Bool.Decides.{Decides-eqb}
use Rattle.std.proofs.lemmas.Option.{slice_get-get_or}
use Rattle.std.proofs.lemmas.Bool.{eqb-true}
use Rattle.xc_lists.specs.Places.{is_place}
use Rattle.xc_concepts.specs.References.{Reference, make_reference, base_of_restriction}
use Rattle.xc_concepts.specs.Steps.{restricted_node}
use Rattle.xc_concepts.specs.Schemas.{is_schema_element, text_at, element_around, restricted_type, restricted_element}
use Rattle.xc_concepts.specs.declared.references.Restricted.{Restricted}
use Rattle.xc_concepts.specs.declared.references.Restricted.TheVariants.{AsType, AsElement}
use Rattle.xc_elements.specs.Trees.{IsTree, upward, ancestors, parent_of, end_of}
use Rattle.xc_elements.specs.declared.nodes.Node.{Node}

same_number : (n : ℕ) → (n == n) ≡ true
same_number n = (Decides-eqb n n).1 refl

either : (a b : Bool) → b ≡ true → (a || b) ≡ true
either true b e = refl
either false b e = e

-- a parent stands before
pub parent_before : (nodes : List Node) → IsTree nodes → (k p : ℕ) → k < length nodes → parent_of nodes k ≡ Some p → p < k
parent_before nodes tree zero p h e =
    let gone : Some p ≡ None = sym e ∙ ap (option_and_then (λ n. n.parent)) tree.root.1 ∙ tree.root.2 in absurd (cc)
parent_before nodes tree (suc k) p h e =
    let parent = tree.parents k h in
    let same : parent.0 ≡ p = (let some : Some parent.0 ≡ Some p = sym parent.1 ∙ e in cc) in
    subst (λ q. q < suc k) same parent.2

-- what is around a node is its parent
around_parent : (nodes : List Node) (local : List ℕ) (k p : ℕ) → element_around nodes local k ≡ Some p → parent_of nodes k ≡ Some p
around_parent nodes local k p e = elim (is_schema_element nodes local k) as (λ b. (if b then parent_of nodes k else None) ≡ Some p → parent_of nodes k ≡ Some p) [ true ↦ λ h. h | false ↦ λ h. absurd (cc) ] e

-- what is above a node by two parents, or by three
above_two : (nodes : List Node) (n k c e : ℕ) → 2 ≤ n → parent_of nodes k ≡ Some c → parent_of nodes c ≡ Some e → list_any (λ a. a == e) (upward nodes n (parent_of nodes k)) ≡ true
above_two nodes zero k c e less p q = absurd (omega arith)
above_two nodes (suc zero) k c e less p q = absurd (omega arith)
above_two nodes (suc (suc n)) k c e less p q = rw p (either (c == e) _ (rw q (ap (λ b. b || list_any (λ a. a == e) (upward nodes n (parent_of nodes e))) (same_number e))))

above_three : (nodes : List Node) (n k c t e : ℕ) → 3 ≤ n → parent_of nodes k ≡ Some c → parent_of nodes c ≡ Some t → parent_of nodes t ≡ Some e → list_any (λ a. a == e) (upward nodes n (parent_of nodes k)) ≡ true
above_three nodes zero k c t e less p q r = absurd (omega arith)
above_three nodes (suc n) k c t e less p q r = rw p (either (c == e) _ (above_two nodes n c t e (omega arith) q r))

bound : {X Y : Type 0} (o : Option X) (f : X → Option Y) (y : Y) → option_and_then f o ≡ Some y → (x : X) × (o ≡ Some x) × (f x ≡ Some y)
bound None f y e = absurd (cc)
bound (Some x) f y e = (x, refl, e)

inside_type : (nodes : List Node) → IsTree nodes → (k e : ℕ) → k < length nodes → restricted_type nodes k ≡ Some e → list_any (λ a. a == e) (ancestors nodes k) ≡ true
inside_type nodes tree k e within is =
    let content = bound _ _ e is in
    let p = around_parent nodes _ k content.0 content.1 in
    let q = around_parent nodes _ content.0 e content.2 in
    let first = parent_before nodes tree k content.0 within p in
    let second = parent_before nodes tree content.0 e (omega arith) q in
    above_two nodes (length nodes) k content.0 e (omega arith) p q

inside_element : (nodes : List Node) → IsTree nodes → (k e : ℕ) → k < length nodes → restricted_element nodes k ≡ Some e → list_any (λ a. a == e) (ancestors nodes k) ≡ true
inside_element nodes tree k e within is =
    let complex = bound _ _ e is in
    let content = bound _ _ complex.0 complex.1 in
    let p = around_parent nodes _ k content.0 content.1 in
    let q = around_parent nodes _ content.0 complex.0 content.2 in
    let r = around_parent nodes _ complex.0 e complex.2 in
    let first = parent_before nodes tree k content.0 within p in
    let second = parent_before nodes tree content.0 complex.0 (omega arith) q in
    let third = parent_before nodes tree complex.0 e (omega arith) r in
    above_three nodes (length nodes) k content.0 complex.0 e (omega arith) p q r

-- a restriction stands inside the element whose content it restricts
pub owned_inside : (nodes : List Node) → IsTree nodes → (restricted : Restricted) (k e end : ℕ) → k < length nodes → restricted_node nodes restricted k ≡ Some e → end_of nodes e ≡ Some end → (e < k) × (k < end)
owned_inside nodes tree AsType k e end within is at = (tree.descendants e k within end at).0 (inside_type nodes tree k e within is)
owned_inside nodes tree AsElement k e end within is at = (tree.descendants e k within end at).0 (inside_element nodes tree k e within is)

-- what is not inside an element restricts nothing of it
pub none_outside : (nodes : List Node) → IsTree nodes → (restricted : Restricted) (element k end : ℕ) → k < length nodes → end_of nodes element ≡ Some end → ¬ ((element < k) × (k < end)) → base_of_restriction nodes (restricted_node nodes restricted) element k ≡ None
none_outside nodes tree restricted element k end within at outside = by (restricted_node nodes restricted k) refl
  where
    text : Option Reference
    text = option_map (make_reference k) (text_at nodes k (codes "base"))

    decided : (p : ℕ) (b : Bool) → restricted_node nodes restricted k ≡ Some p → (p == element) ≡ b → (if b then text else None) ≡ None
    decided p true e same = absurd (outside (owned_inside nodes tree restricted k element end within (e ∙ ap Some (eqb-true p element same)) at))
    decided p false e same = refl

    by : (o : Option ℕ) → restricted_node nodes restricted k ≡ o → (if is_place element o then text else None) ≡ None
    by None e = refl
    by (Some p) e = decided p (p == element) e refl

-- the same of a node that was read from the list
pub none_beyond : (nodes read : List Node) → read ≡ nodes → IsTree read → (restricted : Restricted) (element k : ℕ) (d : Node) → element < length nodes → k < length nodes → ¬ ((element < k) × (k < (get_or read element d).end)) → base_of_restriction nodes (restricted_node nodes restricted) element k ≡ None
none_beyond nodes read same tree restricted element k d there within outside =
    let here : element < length read = subst (λ ns. element < length ns) (sym same) there in
    none_outside nodes (subst IsTree same tree) restricted element k (get_or read element d).end within
    (ap (λ ns. end_of ns element) (sym same) ∙ ap (option_map (λ n. n.end)) (slice_get-get_or read element d here)) outside
