-- The path from a node to the root.
use Rattle.std.proofs.Common.{◌≡◌, ℕ, zero, suc, ◌<◌, ◌≤◌, List, [], ◌∷◌, length, get_or, Option, Some, None, refl, sym, ap, ◌∙◌, arith}
use Rattle.std.specs.Prelude.{slice_get, option_and_then}
use Rattle.std.specs.Option.{option_or}
use Rattle.xc_elements.specs.declared.nodes.Node.{Node}
use Rattle.xc_elements.specs.Trees.{IsTree, parent_of, upward, path}
use Rattle.xc_elements.specs.Declarations.{set_by}
use Rattle.xc_elements.specs.Scopes.{set_at, first_declared}

-- how many nodes the path from a node has at most
abbrev pub height : Option ℕ → ℕ
height None = 0
height (Some k) = suc k

-- what the nodes on the path from here on declare is what is declared on the whole path
pub record Climbs (nodes : List Node) (node : ℕ) (prefix : List ℕ) (here : Option ℕ) : Type 0 where
  pub steps : ℕ
  pub enough : height here ≤ steps
  pub within : height here ≤ length nodes
  pub left : first_declared nodes (path nodes node) prefix ≡ first_declared nodes (upward nodes steps here) prefix

pub climbs_none : (nodes : List Node) (node : ℕ) (prefix : List ℕ) → node < length nodes → Climbs nodes node prefix (Some node)
climbs_none nodes node prefix h = record { steps = length nodes; enough = omega arith; within = omega arith; left = refl }

-- the node at a number
pub node_there : (nodes : List Node) (k : ℕ) (n : Node) → k < length nodes → n ≡ get_or nodes k n → slice_get nodes k ≡ Some n
node_there [] k n h e = absurd (omega arith)
node_there (x ∷ xs) zero n h e = ap (λ y. Some y) (sym e)
node_there (x ∷ xs) (suc k) n h e = node_there xs k n (omega arith) e

pub parent_there : (nodes : List Node) (k : ℕ) (n : Node) → k < length nodes → n ≡ get_or nodes k n → parent_of nodes k ≡ n.parent
parent_there nodes k n h e = ap (λ o. option_and_then (λ x. x.parent) o) (node_there nodes k n h e)

-- a parent is an earlier node
earlier : (nodes : List Node) (k : ℕ) (above : Option ℕ) → IsTree nodes → k < length nodes → parent_of nodes k ≡ above → height above < suc k
earlier nodes zero None t h e = omega arith
earlier nodes zero (Some p) t h e =
    let r = t.root in
    let none : parent_of nodes 0 ≡ None = ap (λ o. option_and_then (λ x. x.parent) o) r.1 ∙ r.2 in
    absurd (cc)
earlier nodes (suc k) above t h e =
    let p = t.parents k h in
    let same : above ≡ Some p.0 = sym e ∙ p.1 in
    let less = p.2 in
    rw same (omega arith)

pub parent_earlier : (nodes : List Node) (k : ℕ) (n : Node) → IsTree nodes → k < length nodes → n ≡ get_or nodes k n → height n.parent < suc k
parent_earlier nodes k n t h e = earlier nodes k n.parent t h (parent_there nodes k n h e)

-- the declaration of a node on the path, or else what is declared further up
declared_on : (nodes : List Node) (steps : ℕ) (k : ℕ) (prefix : List ℕ) → suc k ≤ steps → (n : ℕ) × (steps ≡ suc n) × (first_declared nodes (upward nodes steps (Some k)) prefix ≡ option_or (set_at nodes k prefix) (first_declared nodes (upward nodes n (parent_of nodes k)) prefix))
declared_on nodes zero k prefix h = absurd (omega arith)
declared_on nodes (suc n) k prefix h = (n, refl, refl)

set_there : (nodes : List Node) (k : ℕ) (n : Node) (prefix : List ℕ) (o : Option (List ℕ)) → k < length nodes → n ≡ get_or nodes k n → o ≡ set_by n.declared prefix → set_at nodes k prefix ≡ o
set_there nodes k n prefix o h e v = ap (λ o. option_and_then (λ x. set_by x.declared prefix) o) (node_there nodes k n h e) ∙ sym v

pub climbs_more : (nodes : List Node) (node k : ℕ) (n : Node) (prefix : List ℕ) → IsTree nodes → k < length nodes → n ≡ get_or nodes k n → None ≡ set_by n.declared prefix → Climbs nodes node prefix (Some k) → Climbs nodes node prefix n.parent
climbs_more nodes node k n prefix t h e v c =
    let step = declared_on nodes c.steps k prefix c.enough in
    let count = step.1 in
    let less = parent_earlier nodes k n t h e in
    let high : suc k ≤ c.steps = c.enough in
    record {
      steps = step.0;
      enough = omega arith;
      within = omega arith;
      left = c.left ∙ step.2
          ∙ ap (λ o. option_or o (first_declared nodes (upward nodes step.0 (parent_of nodes k)) prefix)) (set_there nodes k n prefix None h e v)
          ∙ ap (λ o. first_declared nodes (upward nodes step.0 o) prefix) (parent_there nodes k n h e);
    }

pub climbs_here : (nodes : List Node) (node k : ℕ) (n : Node) (prefix space : List ℕ) → k < length nodes → n ≡ get_or nodes k n → Some space ≡ set_by n.declared prefix → Climbs nodes node prefix (Some k) → Some space ≡ first_declared nodes (path nodes node) prefix
climbs_here nodes node k n prefix space h e v c =
    let step = declared_on nodes c.steps k prefix c.enough in
    sym (c.left ∙ step.2 ∙ ap (λ o. option_or o (first_declared nodes (upward nodes step.0 (parent_of nodes k)) prefix)) (set_there nodes k n prefix (Some space) h e v))

nowhere : (nodes : List Node) (steps : ℕ) (prefix : List ℕ) → first_declared nodes (upward nodes steps None) prefix ≡ None
nowhere nodes zero prefix = refl
nowhere nodes (suc n) prefix = refl

pub climbs_out : (nodes : List Node) (node : ℕ) (prefix : List ℕ) → Climbs nodes node prefix None → None ≡ first_declared nodes (path nodes node) prefix
climbs_out nodes node prefix c = sym (c.left ∙ nowhere nodes c.steps prefix)
