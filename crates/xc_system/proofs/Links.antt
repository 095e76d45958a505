-- Points that equations link, and the components that they make.
use Rattle.std.proofs.Common.{◌≡◌, ℕ, ◌<◌, ◌≤◌, List, [], ◌∷◌, length, ◌⊎◌, inl, inr, subst, arith}
use Rattle.std.proofs.lemmas.Bool.{cases_eq}
use Rattle.std.proofs.lemmas.List.{get_or_past}
use Rattle.xc_system.specs.Components.{HasPoint, IsLinked, itself, by, IsComponent, least_of}
use Rattle.xc_lists.specs.Members.{IsIn}
use Rattle.xc_system.specs.Systems.{Constraints, points_of}
use Rattle.xc_system.specs.declared.types.Component.{Component}
use Rattle.xc_system.specs.declared.types.Equation.{Equation}

pub linked_trans : (es : List Equation) (p q r : ℕ) → IsLinked es p q → IsLinked es q r → IsLinked es p r
linked_trans es p q r (itself t) k = k
linked_trans es p q r (by i t u v a b h) k = by i t u r a b (linked_trans es u v r h k)

pub linked_sym : (es : List Equation) (p q : ℕ) → IsLinked es p q → IsLinked es q p
linked_sym es p q (itself t) = itself t
linked_sym es p q (by i t u v a b h) = linked_trans es v u t (linked_sym es u v h) (by i u t t b a (itself t))

-- one of the list or not
pub is_in : (p : ℕ) (xs : List ℕ) → IsIn p xs ⊎ (IsIn p xs → ⊥)
is_in p [] = inr (λ h. h)
is_in p (x ∷ xs) = go (cases_eq p x) (is_in p xs)
  where
    go : ((p ≡ x) ⊎ (p ≡ x → ⊥)) → (IsIn p xs ⊎ (IsIn p xs → ⊥)) → IsIn p (x ∷ xs) ⊎ (IsIn p (x ∷ xs) → ⊥)
    go (inl e) k = inl (inl e)
    go (inr e) (inl k) = inl (inr k)
    go (inr e) (inr k) = inr (λ h. elim h [ inl q ↦ e q | inr q ↦ k q ])

-- an equation that has a point is one of the list
pub has_within : (es : List Equation) (i p : ℕ) → HasPoint es i p → i < length es
has_within es i p h = go (grind arith)
  where
    go : ((i < length es) ⊎ (length es ≤ i)) → i < length es
    go (inl l) = l
    go (inr l) = absurd (subst (λ (e : Equation). IsIn p (points_of e)) (get_or_past es i (record { entries = [] }) l) h)

module _ (s : Constraints) (c : Component) (is : IsComponent s c) where
  -- with a point of an equation of the component, every point of that equation is in it
  pub closed : (i p q : ℕ) → q < s.points → IsIn p c.points → HasPoint s.equations i p → HasPoint s.equations i q → IsIn q c.points
  closed i p q l at has other = (is.points q).1 (l, linked_trans s.equations (least_of c) p q ((is.points p).0 at).1 (by i p q q has other (itself q)))

  pub owned : (i q : ℕ) → q < s.points → IsIn i c.equations → HasPoint s.equations i q → IsIn q c.points
  owned i q l own has = go ((is.equations i).0 own)
    where
      go : ((p : ℕ) × HasPoint s.equations i p × IsIn p c.points) → IsIn q c.points
      go (p, there, at) = closed i p q l at there has
