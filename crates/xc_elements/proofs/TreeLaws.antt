-- Parents stand before their children, and the root's end behind all others.
use Rattle.std.proofs.Common.{◌≡◌, ◌<◌, ◌≤◌, ◌==◌, ◌||◌, ℕ, zero, suc, max, List, Bool, true, false, Option, Some, None, length, slice_get, option_map, option_and_then, IfSome, refl, sym, ap, subst, ◌∙◌, arith}
use Rattle.std.specs.List.{list_any}
use Rattle.xc_elements.specs.Trees.{IsTree, upward, parent_of}
use Rattle.xc_elements.specs.declared.nodes.Node.{Node}

either : (a b : Bool) → b ≡ true → (a || b) ≡ true
either true b e = refl
either false b e = e

-- a parent stands before
pub parent_before : (nodes : List Node) → IsTree nodes → (k p : ℕ) → k < length nodes → parent_of nodes k ≡ Some p → p < k
parent_before nodes tree zero p h e =
    let gone : Some p ≡ None = sym e ∙ ap (option_and_then (λ n. n.parent)) tree.root.1 ∙ tree.root.2 in absurd (cc)
parent_before nodes tree (suc k) p h e =
    let parent = tree.parents k h in
    let same : parent.0 ≡ p = (let some : Some parent.0 ≡ Some p = sym parent.1 ∙ e in cc) in
    subst (λ q. q < suc k) same parent.2

-- the root is above every other node
root_above : (nodes : List Node) → IsTree nodes → (n k : ℕ) → suc k < length nodes → suc k ≤ n → list_any (λ a. a == 0) (upward nodes n (parent_of nodes (suc k))) ≡ true
root_above nodes tree zero k h less = absurd (omega arith)
root_above nodes tree (suc n) k h less =
    let parent = tree.parents k h in
    rw parent.1 (by parent.0 parent.2 (root_above nodes tree n))
  where
    by : (p : ℕ) → p < suc k → ((j : ℕ) → suc j < length nodes → suc j ≤ n → list_any (λ a. a == 0) (upward nodes n (parent_of nodes (suc j))) ≡ true)
        → ((p == 0) || list_any (λ a. a == 0) (upward nodes n (parent_of nodes p))) ≡ true
    by zero b above = refl
    by (suc j) b above = either (suc j == 0) _ (above j (omega arith) (omega arith))

-- the end of the root is behind all other nodes
pub length_by_end : (nodes : List Node) → IsTree nodes → (root : Node) → slice_get nodes 0 ≡ Some root → length nodes ≤ max 1 root.end
length_by_end nodes tree root first = by (length nodes) refl
  where
    by : (n : ℕ) → length nodes ≡ n → length nodes ≤ max 1 root.end
    by zero e = omega arith
    by (suc zero) e = omega arith
    by (suc (suc k)) e =
        let within : suc k < length nodes = omega arith in
        let last = (tree.descendants 0 (suc k) within root.end (ap (option_map (λ n. n.end)) first)).0 (root_above nodes tree (length nodes) k within (omega arith)) in
        omega (arith, last.1)

pub parents_before : (nodes : List Node) → IsTree nodes → (k : ℕ) → k < length nodes → (o : Option ℕ) → parent_of nodes k ≡ o → IfSome o (λ p. p < k)
parents_before nodes tree k within None e = tt
parents_before nodes tree k within (Some p) e = parent_before nodes tree k p within e
