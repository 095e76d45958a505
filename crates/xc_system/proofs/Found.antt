-- Grouped by their roots, points and equations make the components.
use Rattle.std.proofs.Common.{◌≡◌, ℕ, zero, suc, ◌+◌, ◌-◌, ◌<◌, ◌≤◌, Bool, cond, List, [], ◌∷◌, length, map, get_or, slice_index, Some, slice_get, ◌⊎◌, inl, inr, refl, sym, ap, ap₂, subst, ◌∙◌, arith}
use Rattle.std.proofs.lemmas.Bool.{cases_eq, eq-eqb, ne_eqb}
use Rattle.std.proofs.lemmas.List.{length-map, get_or-map}
use Rattle.std.proofs.lemmas.List.Elements.{recursion_from_All}
use Rattle.std.specs.Prelude.{All}
use Rattle.std.proofs.lemmas.List.FromFn.{length-map-range_with_len, get_or-map-range_with_len}
use Rattle.std.proofs.lemmas.Option.{slice_get_within, get_or_from_slice_get, slice_get-get_or}
use Rattle.std.specs.List.{AllByRecursion, zip}
use Rattle.std.specs.Option.{option_map_or}
use Rattle.xc_lists.specs.Places.{before}
use Rattle.xc_system.proofs.Joins.{linked_from_roots, root_least}
use Rattle.xc_lists.proofs.Members.{first_least, in_places, is_in_at, places_ascend, places_in}
use Rattle.xc_system.proofs.Links.{has_within}
use Rattle.xc_system.specs.Components.{HasPoint, IsLinked, itself, by, IsComponent, AreComponents, least_of}
use Rattle.xc_lists.specs.Members.{IsIn, places_with}
use Rattle.xc_system.specs.Steps.Owned.{owner_of, component_of}
use Rattle.xc_system.specs.Steps.Roots.{IsRoots, IsJoined, rank}
use Rattle.xc_system.specs.Systems.{Constraints, equation_at, points_of}
use Rattle.xc_system.specs.declared.types.Component.{Component}
use Rattle.xc_system.specs.declared.types.Entry.{Entry}
use Rattle.xc_system.specs.declared.types.Equation.{Equation}

-- numbers of roots
rank_grows : (up : List ℕ) (a d : ℕ) → rank up a ≤ rank up (a + d)
rank_grows up a zero = let e : a + 0 ≡ a = omega arith in rw e (omega arith)
rank_grows up a (suc d) = let e : a + suc d ≡ suc (a + d) = omega arith in let i : rank up a ≤ rank up (a + d) = rank_grows up a d in rw e (omega arith)

rank_le : (up : List ℕ) (a b : ℕ) → a ≤ b → rank up a ≤ rank up b
rank_le up a b h = let e : a + (b - a) ≡ b = omega arith in subst (λ (x : ℕ). rank up a ≤ rank up x) e (rank_grows up a (b - a))

rank_own : (up : List ℕ) (r b : ℕ) → get_or up r 0 ≡ r → r < b → rank up r < rank up b
rank_own up r b own h =
    let one : rank up (suc r) ≡ rank up r + 1 = ap (λ (t : Bool). rank up r + cond t 1 0) (eq-eqb (get_or up r 0) r own) in
    let more : rank up (suc r) ≤ rank up b = rank_le up (suc r) b (omega arith) in
    omega arith

-- two roots with one number are one
rank_tells : (up : List ℕ) (q r : ℕ) → get_or up q 0 ≡ q → get_or up r 0 ≡ r → rank up q ≡ rank up r → q ≡ r
rank_tells up q r own_q own_r e = go (three q r)
  where
    three : (q r : ℕ) → ((q < r) ⊎ (r < q)) ⊎ (q ≡ r)
    three q r = grind arith

    go : ((q < r) ⊎ (r < q)) ⊎ (q ≡ r) → q ≡ r
    go (inr same) = same
    go (inl (inl h)) = let l : rank up q < rank up r = rank_own up q r own_q h in absurd (omega arith)
    go (inl (inr h)) = let l : rank up r < rank up q = rank_own up r q own_r h in absurd (omega arith)

-- each number below theirs is that of a root
pub record Root (up : List ℕ) (n k : ℕ) : Type 0 where
  pub root : ℕ
  pub below : root < n
  pub own : get_or up root 0 ≡ root
  pub number : rank up root ≡ k

rank_reached : (up : List ℕ) (n k : ℕ) → k < rank up n → Root up n k
rank_reached up zero k h = absurd (omega arith)
rank_reached up (suc n) k h = go (cases_eq (get_or up n 0) n) (rank_reached up n k)
  where
    later : Root up n k → Root up (suc n) k
    later r = let l = r.below in record { root = r.root; below = omega arith; own = r.own; number = r.number }

    go : ((get_or up n 0 ≡ n) ⊎ (get_or up n 0 ≡ n → ⊥)) → (k < rank up n → Root up n k) → Root up (suc n) k
    go (inr other) f = later (f (let e : rank up (suc n) ≡ rank up n + 0 = ap (λ (t : Bool). rank up n + cond t 1 0) (ne_eqb (get_or up n 0) n other) in omega arith))
    go (inl own) f = at (two k (rank up n) (let e : rank up (suc n) ≡ rank up n + 1 = ap (λ (t : Bool). rank up n + cond t 1 0) (eq-eqb (get_or up n 0) n own) in omega arith))
      where
        two : (k m : ℕ) → k < m + 1 → (k < m) ⊎ (m ≡ k)
        two k m h = grind arith

        at : (k < rank up n) ⊎ (rank up n ≡ k) → Root up (suc n) k
        at (inl l) = later (f l)
        at (inr e) = record { root = n; below = omega arith; own = own; number = e }

-- points and equations of one number
zip_maps : {X Y Z : Type 0} (f : X → Y) (g : X → Z) (xs : List X) → zip (map f xs) (map g xs) ≡ map (λ x. (f x, g x)) xs
zip_maps f g [] = refl
zip_maps f g (x ∷ xs) = ap (λ l. (f x, g x) ∷ l) (zip_maps f g xs)

map_maps : {X Y Z : Type 0} (g : Y → Z) (f : X → Y) (xs : List X) → map g (map f xs) ≡ map (λ x. g (f x)) xs
map_maps g f [] = refl
map_maps g f (x ∷ xs) = ap (λ l. g (f x) ∷ l) (map_maps g f xs)

abbrev made : List ℕ → List ℕ → ℕ → Component
made ns os k = record { points = places_with ns k; equations = places_with os k }

pub pairs_made : (ns os : List ℕ) (count : ℕ) → map component_of (zip (map (places_with ns) (before count)) (map (places_with os) (before count))) ≡ map (made ns os) (before count)
pairs_made ns os count = ap (map component_of) (zip_maps (places_with ns) (places_with os) (before count)) ∙ map_maps component_of (λ k. (places_with ns k, places_with os k)) (before count)

module _ (s : Constraints) (up ns : List ℕ) (joined : IsJoined s.equations (length s.equations) up) (up_length : length up ≡ s.points) (ns_length : length ns ≡ s.points)
    (numbers : (q : ℕ) → q < s.points → get_or ns q 0 ≡ rank up (joined.root q)) (named : (i p : ℕ) → HasPoint s.equations i p → p < s.points) where
  abbrev count : ℕ
  count = rank up s.points

  abbrev os : List ℕ
  os = map (owner_of ns (rank up s.points)) s.equations

  -- the root of a point is one of its own, and not greater
  at_root : (p : ℕ) → p < s.points → (joined.root p ≤ p) × ((joined.root p < length up) × (get_or up (joined.root p) 0 ≡ joined.root p))
  at_root p h = root_least up joined.root joined.descends joined.roots (suc p) p (omega arith) (omega arith)

  roots_linked : (p q : ℕ) → IsLinked s.equations p q → joined.root p ≡ joined.root q
  roots_linked p q (itself t) = refl
  roots_linked p q (by i t u v a b h) = joined.joined i t u (has_within s.equations i t a) a b ∙ roots_linked u v h

  numbered_below : (p : ℕ) → p < s.points → get_or ns p 0 < count
  numbered_below p h = let r = at_root p h in let l = r.1.0 in let m : rank up (joined.root p) < count = rank_own up (joined.root p) s.points r.1.1 (omega arith) in let e : get_or ns p 0 ≡ rank up (joined.root p) = numbers p h in omega arith

  module _ (k : ℕ) (below : k < rank up s.points) where
    first : Root up s.points k
    first = rank_reached up s.points k below

    first_up : first.root < length up
    first_up = let l = first.below in omega arith

    first_own : joined.root first.root ≡ first.root
    first_own = joined.roots.own first.root first_up first.own

    -- a point has this number exactly where the root is its root
    in_group : (p : ℕ) → IsIn p (places_with ns k) → (p < s.points) × (joined.root p ≡ first.root)
    in_group p h =
        let i = in_places ns k p h in
        let l = i.0 in
        let there : p < s.points = omega arith in
        (there, rank_tells up (joined.root p) first.root (at_root p there).1.1 first.own (sym (numbers p there) ∙ i.1 ∙ sym first.number))

    group_in : (p : ℕ) → p < s.points → joined.root p ≡ first.root → IsIn p (places_with ns k)
    group_in p h e = places_in ns k p (omega arith) (numbers p h ∙ ap (rank up) e ∙ first.number)

    first_in : IsIn first.root (places_with ns k)
    first_in = group_in first.root first.below first_own

    filled : (xs : List ℕ) (x : ℕ) → IsIn x xs → 0 < length xs
    filled [] x h = absurd h
    filled (y ∷ ys) x h = omega arith

    least_is : least_of (made ns os k) ≡ first.root
    least_is =
        let low : slice_index (places_with ns k) 0 ≤ first.root = first_least (places_with ns k) first.root (places_ascend ns k) first_in in
        let g = in_group (slice_index (places_with ns k) 0) (is_in_at (places_with ns k) 0 (filled (places_with ns k) first.root first_in)) in
        let least = (at_root (slice_index (places_with ns k) 0) g.0).0 in
        let same = g.1 in
        omega arith

    linked_in : (p : ℕ) → p < s.points → IsLinked s.equations first.root p → IsIn p (places_with ns k)
    linked_in p h l = group_in p h (sym (roots_linked first.root p l) ∙ first_own)

    in_linked : (p : ℕ) → IsIn p (places_with ns k) → (p < s.points) × IsLinked s.equations first.root p
    in_linked p h = let g = in_group p h in let l = g.0 in (g.0, linked_from_roots s.equations (length s.equations) up joined first.root p first_up (omega arith) (first_own ∙ sym g.1))

    -- the owner of an equation is the number of its first point
    owner : ℕ → Equation → ℕ
    owner i e = owner_of ns (rank up s.points) e

    owner_at : (i : ℕ) → i < length s.equations → get_or os i 0 ≡ owner_of ns (rank up s.points) (equation_at s.equations i)
    owner_at i h = get_or-map (owner_of ns (rank up s.points)) s.equations i (record { entries = [] }) 0 h

    owned_by : (i : ℕ) (es : List Entry) → points_of (equation_at s.equations i) ≡ map (λ e. e.point) es → option_map_or (λ entry. slice_index ns entry.point) (slice_get es 0) (rank up s.points) ≡ k → (p : ℕ) × HasPoint s.equations i p × IsIn p (places_with ns k)
    owned_by i [] is e = absurd (omega arith)
    owned_by i (x ∷ es) is e =
        let has : HasPoint s.equations i x.point = subst (IsIn x.point) (sym is) (inl refl) in
        let l : x.point < s.points = named i x.point has in
        (x.point, has, places_in ns k x.point (omega arith) e)

    by_owner : (i p : ℕ) (es : List Entry) → points_of (equation_at s.equations i) ≡ map (λ e. e.point) es → HasPoint s.equations i p → IsIn p (places_with ns k) → option_map_or (λ entry. slice_index ns entry.point) (slice_get es 0) (rank up s.points) ≡ k
    by_owner i p [] is has at = absurd (subst (IsIn p) is has)
    by_owner i p (x ∷ es) is has at =
        let first_has : HasPoint s.equations i x.point = subst (IsIn x.point) (sym is) (inl refl) in
        let same : joined.root x.point ≡ joined.root p = joined.joined i x.point p (has_within s.equations i p has) first_has has in
        numbers x.point (named i x.point first_has) ∙ ap (rank up) (same ∙ (in_group p at).1) ∙ first.number

    equations_tell : (i : ℕ) → (IsIn i (places_with os k) → (p : ℕ) × HasPoint s.equations i p × IsIn p (places_with ns k)) × ((p : ℕ) × HasPoint s.equations i p × IsIn p (places_with ns k) → IsIn i (places_with os k))
    equations_tell i = (there, back)
      where
        there : IsIn i (places_with os k) → (p : ℕ) × HasPoint s.equations i p × IsIn p (places_with ns k)
        there h =
            let g = in_places os k i h in
            let l : i < length s.equations = subst (λ (m : ℕ). i < m) (length-map s.equations (owner_of ns (rank up s.points))) g.0 in
            owned_by i (equation_at s.equations i).entries refl (sym (owner_at i l) ∙ g.1)

        back : (p : ℕ) × HasPoint s.equations i p × IsIn p (places_with ns k) → IsIn i (places_with os k)
        back (p, has, at) =
            let l : i < length s.equations = has_within s.equations i p has in
            places_in os k i (subst (λ (m : ℕ). i < m) (sym (length-map s.equations (owner_of ns (rank up s.points)))) l) (owner_at i l ∙ by_owner i p (equation_at s.equations i).entries refl has at)

    component_made : IsComponent s (made ns os k)
    component_made = record {
      least = subst (λ (r : ℕ). r < s.points) (sym least_is) first.below;
      points = λ p. subst (λ (r : ℕ). (IsIn p (places_with ns k) → (p < s.points) × IsLinked s.equations r p) × ((p < s.points) × IsLinked s.equations r p → IsIn p (places_with ns k))) (sym least_is) (in_linked p, λ h. linked_in p h.0 h.1);
      equations = equations_tell;
      points_ascend = places_ascend ns k;
      equations_ascend = places_ascend os k;
    }

  made_at : (k : ℕ) (c : Component) → slice_get (map (made ns os) (before (rank up s.points))) k ≡ Some c → (k < rank up s.points) × (c ≡ made ns os k)
  made_at k c e =
      let l : k < rank up s.points = subst (λ (m : ℕ). k < m) (length-map-range_with_len (made ns os) 0 (rank up s.points)) (slice_get_within (map (made ns os) (before (rank up s.points))) k c e) in
      (l, sym (get_or_from_slice_get (map (made ns os) (before (rank up s.points))) k c c e) ∙ get_or-map-range_with_len (made ns os) 0 (rank up s.points) k k c l (from_zero k))
    where
      from_zero : (k : ℕ) → 0 + k ≡ k
      from_zero k = omega arith

  made_there : (k : ℕ) → k < rank up s.points → slice_get (map (made ns os) (before (rank up s.points))) k ≡ Some (made ns os k)
  made_there k h =
      slice_get-get_or (map (made ns os) (before (rank up s.points))) k (made ns os k) (subst (λ (m : ℕ). k < m) (sym (length-map-range_with_len (made ns os) 0 (rank up s.points))) h)
      ∙ ap Some (get_or-map-range_with_len (made ns os) 0 (rank up s.points) k k (made ns os k) h (from_zero k))
    where
      from_zero : (k : ℕ) → 0 + k ≡ k
      from_zero k = omega arith

  pub are_made : AreComponents s (map (made ns os) (before (rank up s.points)))
  are_made = record {
    each = λ k c e. let m = made_at k c e in subst (IsComponent s) (sym m.1) (component_made k m.0);
    all = λ p h. (get_or ns p 0, record { component = made ns os (get_or ns p 0); there = made_there (get_or ns p 0) (numbered_below p h); has = places_in ns (get_or ns p 0) p (omega arith) refl });
    numbered = λ j k b c e f less. go j k b c (made_at j b e) (made_at k c f) less;
  }
    where
      go : (j k : ℕ) (b c : Component) → (j < rank up s.points) × (b ≡ made ns os j) → (k < rank up s.points) × (c ≡ made ns os k) → j < k → least_of b < least_of c
      go j k b c m n less =
          let low : least_of b ≡ (first j m.0).root = ap least_of m.1 ∙ least_is j m.0 in
          let high : least_of c ≡ (first k n.0).root = ap least_of n.1 ∙ least_is k n.0 in
          apart (first j m.0).root (first k n.0).root (first j m.0).number (first k n.0).number (rank_le up (first k n.0).root (first j m.0).root) low high
        where
          apart : (a r : ℕ) → rank up a ≡ j → rank up r ≡ k → (r ≤ a → rank up r ≤ rank up a) → least_of b ≡ a → least_of c ≡ r → least_of b < least_of c
          apart a r e f g low high = at (two a r)
            where
              two : (a r : ℕ) → (a < r) ⊎ (r ≤ a)
              two a r = grind arith

              at : (a < r) ⊎ (r ≤ a) → least_of b < least_of c
              at (inl h) = omega arith
              at (inr h) = absurd (omega (arith, g h))

-- every point that an equation has is one of the points
named_points : (n : ℕ) (es : List Equation) → All (λ equation. All (λ entry. entry.point < n) equation.entries) es → (i p : ℕ) → HasPoint es i p → p < n
named_points n es all i p h = within (equation_at es i).entries (recursion_from_All (λ entry. entry.point < n) (equation_at es i).entries (all i (record { entries = [] }) (has_within es i p h))) h
  where
    within : (xs : List Entry) → AllByRecursion (λ entry. entry.point < n) xs → IsIn p (map (λ e. e.point) xs) → p < n
    within [] a h = absurd h
    within (x ∷ xs) a (inl q) = subst (λ (m : ℕ). m < n) (sym q) a.0
    within (x ∷ xs) a (inr k) = within xs a.1 k

pub found : (s : Constraints) (es : List Equation) (up ns os : List ℕ) (ps qs : List (List ℕ)) (cs : List Component) (n count : ℕ) → s.points ≡ n → s.equations ≡ es
    → length up ≡ n → IsJoined es (length es) up → length ns ≡ length up → count ≡ rank up (length up) → ((root : ℕ → ℕ) → IsRoots up root → (q : ℕ) → q < length up → slice_index ns q ≡ rank up (root q))
    → All (λ equation. All (λ entry. entry.point < n) equation.entries) es → os ≡ map (owner_of ns count) es → ps ≡ map (places_with ns) (before count) → qs ≡ map (places_with os) (before count) → cs ≡ map component_of (zip ps qs) → AreComponents s cs
found s es up ns os ps qs cs n count points equations up_length joined ns_length count_is numbers named os_is ps_is qs_is cs_is =
    let j : IsJoined s.equations (length s.equations) up = subst (λ (e : List Equation). IsJoined e (length e) up) (sym equations) joined in
    let l : length up ≡ s.points = up_length ∙ sym points in
    let k : count ≡ rank up s.points = count_is ∙ ap (rank up) l in
    let a : All (λ equation. All (λ entry. entry.point < s.points) equation.entries) s.equations = subst (λ (m : ℕ). All (λ equation. All (λ entry. entry.point < m) equation.entries) s.equations) (sym points) (subst (λ (e : List Equation). All (λ equation. All (λ entry. entry.point < n) equation.entries) e) (sym equations) named) in
    let o : os ≡ map (owner_of ns (rank up s.points)) s.equations = os_is ∙ ap₂ (λ (m : ℕ) (e : List Equation). map (owner_of ns m) e) k (sym equations) in
    subst (AreComponents s)
    (sym (cs_is ∙ ap₂ (λ (x y : List (List ℕ)). map component_of (zip x y)) (ps_is ∙ ap (λ (m : ℕ). map (places_with ns) (before m)) k) (qs_is ∙ ap₂ (λ (x : List ℕ) (m : ℕ). map (places_with x) (before m)) o k)
    ∙ pairs_made ns (map (owner_of ns (rank up s.points)) s.equations) (rank up s.points)))
    (are_made s up ns j l (ns_length ∙ l) (λ q h. numbers j.root j.roots q (omega arith)) (named_points s.points s.equations a))
