-- Joining the points of an equation.
use Rattle.std.proofs.Common.{◌≡◌, ℕ, zero, suc, ◌+◌, ◌<◌, ◌≤◌, List, length, get_or, ◌⊎◌, inl, inr, refl, sym, ap, ◌∙◌, arith, cond, eqb, max, min, subst}
use Rattle.std.proofs.lemmas.Bool.{cases_eq, eq-eqb, ne_eqb}
use Rattle.xc_system.proofs.Links.{linked_trans, linked_sym}
use Rattle.xc_system.specs.Components.{HasPoint, IsLinked, itself, by}
use Rattle.xc_lists.specs.Members.{IsIn}
use Rattle.xc_system.specs.Steps.Roots.{Descends, IsRoots, IsJoined, roots_after_join}
use Rattle.xc_system.specs.Systems.{equation_at, points_of}
use Rattle.xc_system.specs.declared.types.Equation.{Equation}
use Rattle.xc_lists.proofs.Members.{is_in_at, place_of}

-- the numbers that a and b stand for
joined_left : (root : ℕ → ℕ) (a b : ℕ) → roots_after_join root a b a ≡ min (root a) (root b)
joined_left root a b = go (cases_eq (root a) (max (root a) (root b)))
  where
    least : (root a ≡ max (root a) (root b) → ⊥) → root a ≡ min (root a) (root b)
    least e = grind arith

    go : ((root a ≡ max (root a) (root b)) ⊎ (root a ≡ max (root a) (root b) → ⊥)) → cond (eqb (root a) (max (root a) (root b))) (min (root a) (root b)) (root a) ≡ min (root a) (root b)
    go (inl e) = rw (eq-eqb (root a) (max (root a) (root b)) e)
    go (inr e) = rw (ne_eqb (root a) (max (root a) (root b)) e) (least e)

joined_right : (root : ℕ → ℕ) (a b : ℕ) → roots_after_join root a b b ≡ min (root a) (root b)
joined_right root a b = go (cases_eq (root b) (max (root a) (root b)))
  where
    least : (root b ≡ max (root a) (root b) → ⊥) → root b ≡ min (root a) (root b)
    least e = grind arith

    go : ((root b ≡ max (root a) (root b)) ⊎ (root b ≡ max (root a) (root b) → ⊥)) → cond (eqb (root b) (max (root a) (root b))) (min (root a) (root b)) (root b) ≡ min (root a) (root b)
    go (inl e) = rw (eq-eqb (root b) (max (root a) (root b)) e)
    go (inr e) = rw (ne_eqb (root b) (max (root a) (root b)) e) (least e)

pub joined_same : (root : ℕ → ℕ) (a b p q : ℕ) → root p ≡ root q → roots_after_join root a b p ≡ roots_after_join root a b q
joined_same root a b p q e = ap (λ (r : ℕ). cond (eqb r (max (root a) (root b))) (min (root a) (root b)) r) e

either : (a b : ℕ) → ((max a b ≡ a) × (min a b ≡ b)) ⊎ ((max a b ≡ b) × (min a b ≡ a))
either a b = grind arith

pub joined_linked : (es : List Equation) (root : ℕ → ℕ) (a b p : ℕ) → IsLinked es a b → IsLinked es a (root a) → IsLinked es b (root b) → IsLinked es p (root p) → IsLinked es p (roots_after_join root a b p)
joined_linked es root a b p k h i j = go (cases_eq (root p) (max (root a) (root b))) (either (root a) (root b))
  where
    kept : (root p ≡ max (root a) (root b) → ⊥) → roots_after_join root a b p ≡ root p
    kept e = rw (ne_eqb (root p) (max (root a) (root b)) e)

    moved : root p ≡ max (root a) (root b) → roots_after_join root a b p ≡ min (root a) (root b)
    moved e = rw (eq-eqb (root p) (max (root a) (root b)) e)

    through : (a b x y : ℕ) → root p ≡ x → roots_after_join root a b p ≡ y → x ≡ root a → y ≡ root b → IsLinked es a b → IsLinked es a (root a) → IsLinked es b (root b) → IsLinked es p y
    through a b x y e f s t k h i =
        subst (λ (w : ℕ). IsLinked es p w) (sym t) (linked_trans es p a (root b) (linked_trans es p (root a) a (subst (λ (w : ℕ). IsLinked es p w) (e ∙ s) j) (linked_sym es a (root a) h)) (linked_trans es a b (root b) k i))

    go : ((root p ≡ max (root a) (root b)) ⊎ (root p ≡ max (root a) (root b) → ⊥)) → (((max (root a) (root b) ≡ root a) × (min (root a) (root b) ≡ root b)) ⊎ ((max (root a) (root b) ≡ root b) × (min (root a) (root b) ≡ root a))) → IsLinked es p (roots_after_join root a b p)
    go (inr e) o = subst (λ (x : ℕ). IsLinked es p x) (sym (kept e)) j
    go (inl e) (inl o) = subst (λ (x : ℕ). IsLinked es p x) (sym (moved e ∙ o.1)) (linked_trans es p a (root b) (linked_trans es p (root a) a (subst (λ (x : ℕ). IsLinked es p x) (e ∙ o.0) j) (linked_sym es a (root a) h)) (linked_trans es a b (root b) k i))
    go (inl e) (inr o) = subst (λ (x : ℕ). IsLinked es p x) (sym (moved e ∙ o.1)) (linked_trans es p b (root a) (linked_trans es p (root b) b (subst (λ (x : ℕ). IsLinked es p x) (e ∙ o.0) j) (linked_sym es b (root b) i)) (linked_trans es b a (root a) (linked_sym es a b k) h))

-- an equation with these points, as far as its point n
pub record IsPartly (es : List Equation) (i : ℕ) (row : List ℕ) (n : ℕ) (up : List ℕ) : Type 0 where
  pub descends : Descends up
  pub root : ℕ → ℕ
  pub roots : IsRoots up root
  pub linked : (p : ℕ) → p < length up → IsLinked es p (root p)
  pub joined : (k p q : ℕ) → k < i → HasPoint es k p → HasPoint es k q → root p ≡ root q
  pub first : (j : ℕ) → j < n → root (get_or row j 0) ≡ root (get_or row 0 0)

pub partly_start : (es : List Equation) (i : ℕ) (row : List ℕ) (up : List ℕ) → IsJoined es i up → IsPartly es i row 0 up
partly_start es i row up h = record { descends = h.descends; root = h.root; roots = h.roots; linked = h.linked; joined = h.joined; first = λ j k. absurd (omega arith) }

pub partly_more : (es : List Equation) (i : ℕ) (row : List ℕ) (n : ℕ) (up now : List ℕ) → points_of (equation_at es i) ≡ row → n < length row → get_or row 0 0 < length up → get_or row n 0 < length up → length now ≡ length up → Descends now → ((root : ℕ → ℕ) → IsRoots up root → IsRoots now (roots_after_join root (get_or row 0 0) (get_or row n 0))) → IsPartly es i row n up → IsPartly es i row (n + 1) now
partly_more es i row n up now er ln la lb e d r h = record {
  descends = d;
  root = roots_after_join h.root (get_or row 0 0) (get_or row n 0);
  roots = r h.root h.roots;
  linked = λ p l. joined_linked es h.root (get_or row 0 0) (get_or row n 0) p link (h.linked _ la) (h.linked _ lb) (h.linked p (omega arith));
  joined = λ k p q l a b. joined_same h.root _ _ p q (h.joined k p q l a b);
  first = λ j l. go j l (cases_eq j n);
}
  where
    has : (j : ℕ) → j < length row → HasPoint es i (get_or row j 0)
    has j l = subst (IsIn (get_or row j 0)) (sym er) (is_in_at row j l)

    link : IsLinked es (get_or row 0 0) (get_or row n 0)
    link = by i (get_or row 0 0) (get_or row n 0) (get_or row n 0) (has 0 (omega arith)) (has n ln) (itself (get_or row n 0))

    go : (j : ℕ) → j < n + 1 → ((j ≡ n) ⊎ (j ≡ n → ⊥)) → roots_after_join h.root (get_or row 0 0) (get_or row n 0) (get_or row j 0) ≡ roots_after_join h.root (get_or row 0 0) (get_or row n 0) (get_or row 0 0)
    go j l (inl q) = rw q (joined_right h.root (get_or row 0 0) (get_or row n 0) ∙ sym (joined_left h.root (get_or row 0 0) (get_or row n 0)))
    go j l (inr q) = joined_same h.root _ _ _ _ (h.first j (omega arith))

pub partly_end : (es : List Equation) (i : ℕ) (row : List ℕ) (n : ℕ) (up : List ℕ) → points_of (equation_at es i) ≡ row → length row ≤ n → IsPartly es i row n up → IsJoined es (i + 1) up
partly_end es i row n up er l h = record { descends = h.descends; root = h.root; roots = h.roots; linked = h.linked; joined = λ k p q m a b. go k p q m a b (cases_eq k i) }
  where
    at_place : (p : ℕ) → ((j : ℕ) × (j < length row) × (get_or row j 0 ≡ p)) → h.root p ≡ h.root (get_or row 0 0)
    at_place p (j, m, e) = ap h.root (sym e) ∙ h.first j (omega arith)

    to_first : (p : ℕ) → HasPoint es i p → h.root p ≡ h.root (get_or row 0 0)
    to_first p has = at_place p (place_of p row (subst (IsIn p) er has))

    go : (k p q : ℕ) → k < i + 1 → HasPoint es k p → HasPoint es k q → ((k ≡ i) ⊎ (k ≡ i → ⊥)) → h.root p ≡ h.root q
    go k p q m a b (inl e) = to_first p (subst (λ (x : ℕ). HasPoint es x p) e a) ∙ sym (to_first q (subst (λ (x : ℕ). HasPoint es x q) e b))
    go k p q m a b (inr e) = h.joined k p q (omega arith) a b

pub joined_start : (es : List Equation) (up : List ℕ) → ((q : ℕ) → q < length up → get_or up q 0 ≡ q) → IsJoined es 0 up
joined_start es up h = record {
  descends = λ q l. omega (arith, h q l);
  root = λ q. q;
  roots = record { kept = h; own = λ q l e. refl };
  linked = λ p l. itself p;
  joined = λ k p q l. absurd (omega arith);
}

-- once all equations are joined, roots tell exactly what is linked
pub linked_from_roots : (es : List Equation) (n : ℕ) (up : List ℕ) (h : IsJoined es n up) (p q : ℕ) → p < length up → q < length up → h.root p ≡ h.root q → IsLinked es p q
linked_from_roots es n up h p q l m e = linked_trans es p (h.root q) q (subst (λ (r : ℕ). IsLinked es p r) e (h.linked p l)) (linked_sym es q (h.root q) (h.linked q m))

-- the root is the least of what has it
pub root_least : (up : List ℕ) (root : ℕ → ℕ) → Descends up → IsRoots up root → (fuel p : ℕ) → p < fuel → p < length up → (root p ≤ p) × ((root p < length up) × (get_or up (root p) 0 ≡ root p))
root_least up root d h zero p f l = absurd (omega arith)
root_least up root d h (suc n) p f l = go (cases_eq (get_or up p 0) p) (λ k m. root_least up root d h n (get_or up p 0) k m)
  where
    goal : ℕ → Type 0
    goal x = (root x ≤ x) × ((root x < length up) × (get_or up (root x) 0 ≡ root x))

    less : (x : ℕ) → x ≤ p → (x ≡ p → ⊥) → x < p
    less x a e = grind arith

    go : ((get_or up p 0 ≡ p) ⊎ (get_or up p 0 ≡ p → ⊥)) → (get_or up p 0 < n → get_or up p 0 < length up → (root (get_or up p 0) ≤ get_or up p 0) × ((root (get_or up p 0) < length up) × (get_or up (root (get_or up p 0)) 0 ≡ root (get_or up p 0)))) → (root p ≤ p) × ((root p < length up) × (get_or up (root p) 0 ≡ root p))
    go (inl e) r = let o : root p ≡ p = h.own p l e in rw o (omega arith, (l, e))
    go (inr e) r =
        let a : get_or up p 0 ≤ p = d p l in
        let b : get_or up p 0 < p = less (get_or up p 0) a e in
        let s = r (omega arith) (omega arith) in
        let k : root (get_or up p 0) ≡ root p = h.kept p l in
        let t = s.0 in
        (omega arith, (subst (λ (x : ℕ). x < length up) k s.1.0, subst (λ (x : ℕ). get_or up x 0 ≡ x) k s.1.1))

-- the same, where a and b are the points that are joined
pub partly_next : (es : List Equation) (i : ℕ) (row : List ℕ) (n : ℕ) (up now : List ℕ) (a b : ℕ) → get_or row 0 0 ≡ a → get_or row n 0 ≡ b → points_of (equation_at es i) ≡ row → n < length row → a < length up → b < length up → length now ≡ length up → Descends now → ((root : ℕ → ℕ) → IsRoots up root → IsRoots now (roots_after_join root a b)) → IsPartly es i row n up → IsPartly es i row (n + 1) now
partly_next es i row n up now a b ea eb er ln la lb e d r h =
    partly_more es i row n up now er ln (subst (λ (x : ℕ). x < length up) (sym ea) la) (subst (λ (x : ℕ). x < length up) (sym eb) lb) e d
    (λ root k. subst (λ (x : ℕ). IsRoots now (roots_after_join root x (get_or row n 0))) (sym ea) (subst (λ (x : ℕ). IsRoots now (roots_after_join root a x)) (sym eb) (r root k))) h
