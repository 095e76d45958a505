-- A component is a forest, and no equation has a point twice, exactly where its equations have one entry less than it has points and
-- equations.
use Rattle.std.proofs.Common.{◌≡◌, ℕ, ◌+◌, ◌-◌, ◌≤◌, ◌<◌, List, [], ◌∷◌, map, length, cond, ◌⊎◌, inl, inr, refl, sym, ap, ap₂, ◌∙◌, arith, subst, Bool}
use Rattle.std.specs.Prelude.{nat_lt, All}
use Rattle.std.proofs.lemmas.Bool.{lt-ltb, le-ltb}
use Rattle.std.proofs.lemmas.List.Elements.{recursion_from_All, All-from_recursion}
use Rattle.std.specs.List.{AllByRecursion}
use Rattle.xc_system.proofs.Graphs.{joins, IsThinBy, IsListingOf, IsSimple}
use Rattle.std.proofs.lemmas.List.{length-map}
use Rattle.std.proofs.lemmas.List.Sums.{sum_by-cons}
use Rattle.xc_system.proofs.Links.{owned, has_within}
use Rattle.xc_system.proofs.Parts.{point_within}
use Rattle.xc_system.proofs.Trees.{has, vertices, count, count_in, in_count, count_once, once_count, has_row, point_none, row_none, in_left, in_right, in_either, in_map, from_map, below, entries_on, tree_from_count, count_from_tree}
use Rattle.xc_system.specs.Components.{HasPoint, IsComponent}
use Rattle.xc_system.specs.Forests.{Vertex, a_point, an_equation, IsNext, IsOf, IsThin, IsForest}
use Rattle.xc_lists.specs.Members.{IsIn, IsOnce}
use Rattle.xc_system.specs.Steps.Measured.{entries_of}
use Rattle.xc_system.specs.Systems.{Constraints, IsSystem, equation_at, points_of}
use Rattle.xc_system.specs.declared.types.Component.{Component}
use Rattle.xc_system.specs.declared.types.Equation.{Equation}

-- vertices and their numbers
abbrev number : ℕ → Vertex → ℕ
number n (a_point p) = p
number n (an_equation i) = n + i

vertex : ℕ → ℕ → Vertex
vertex n v = cond (nat_lt v n) (a_point v) (an_equation (v - n))

vertex_below : (n v : ℕ) → v < n → vertex n v ≡ a_point v
unfolding vertex
vertex_below n v h = ap (λ (b : Bool). cond b (a_point v) (an_equation (v - n))) (lt-ltb v n h)

vertex_above : (n v : ℕ) → n ≤ v → vertex n v ≡ an_equation (v - n)
unfolding vertex
vertex_above n v h = ap (λ (b : Bool). cond b (a_point v) (an_equation (v - n))) (le-ltb v n h)

either : (n v : ℕ) → (v < n) ⊎ (n ≤ v)
either n v = grind arith

number_vertex : (n v : ℕ) → number n (vertex n v) ≡ v
number_vertex n v = go (either n v)
  where
    go : (v < n) ⊎ (n ≤ v) → number n (vertex n v) ≡ v
    go (inl h) = ap (number n) (vertex_below n v h)
    go (inr h) = ap (number n) (vertex_above n v h) ∙ omega arith

vertex_point : (n p : ℕ) → p < n → vertex n p ≡ a_point p
vertex_point n p h = vertex_below n p h

vertex_equation : (n i : ℕ) → vertex n (n + i) ≡ an_equation i
vertex_equation n i = vertex_above n (n + i) (omega arith) ∙ ap an_equation (less n i)
  where
    less : (n i : ℕ) → (n + i) - n ≡ i
    less n i = omega arith

in_mapped : {X Y : Type 0} (f : X → Y) (x : X) (xs : List X) → IsIn x xs → IsIn (f x) (map f xs)
in_mapped f x [] h = absurd h
in_mapped f x (y ∷ ys) (inl e) = inl (ap f e)
in_mapped f x (y ∷ ys) (inr h) = inr (in_mapped f x ys h)

mapped_from : {X Y : Type 0} (f : X → Y) (y : Y) (xs : List X) → IsIn y (map f xs) → (x : X) × IsIn x xs × (y ≡ f x)
mapped_from f y [] h = absurd h
mapped_from f y (x ∷ xs) (inl e) = (x, inl refl, e)
mapped_from {X} f y (x ∷ xs) (inr h) = go (mapped_from f y xs h)
  where
    go : ((z : X) × IsIn z xs × (y ≡ f z)) → (z : X) × IsIn z (x ∷ xs) × (y ≡ f z)
    go (z, i, e) = (z, inr i, e)

once_mapped : {X Y : Type 0} (f : X → Y) (xs : List X) → ((x y : X) → IsIn x xs → IsIn y xs → f x ≡ f y → x ≡ y) → IsOnce xs → IsOnce (map f xs)
once_mapped f [] h o = tt
once_mapped {X} f (x ∷ xs) h o = (λ i. none (mapped_from f (f x) xs i), once_mapped f xs (λ y z a b. h y z (inr a) (inr b)) o.1)
  where
    none : ((z : X) × IsIn z xs × (f x ≡ f z)) → ⊥
    none (z, i, e) = o.0 (subst (λ (w : X). IsIn w xs) (sym (h x z (inl refl) (inr i) e)) i)

module _ (s : Constraints) (c : Component) (is : IsComponent s c) (named : (i p : ℕ) → HasPoint s.equations i p → p < s.points) where
  -- a vertex of the component by its number
  of_vertex : (v : Vertex) → IsOf c v → IsIn (number s.points v) (vertices s.points c.points c.equations)
  of_vertex (a_point p) h = in_left p c.points _ h
  of_vertex (an_equation i) h = in_right (s.points + i) c.points _ (in_map s.points i c.equations h)

  vertex_of : (v : ℕ) → IsIn v (vertices s.points c.points c.equations) → IsOf c (vertex s.points v)
  vertex_of v h = elim (in_either v c.points (map (λ j. s.points + j) c.equations) h) [
    | inl a ↦ subst (IsOf c) (sym (vertex_point s.points v (below s c is named v a))) a
    | inr b ↦ from (from_map s.points v c.equations b)
  ]
    where
      from : ((j : ℕ) × IsIn j c.equations × (v ≡ s.points + j)) → IsOf c (vertex s.points v)
      from (j, a, e) = subst (IsOf c) (sym (ap (vertex s.points) e ∙ vertex_equation s.points j)) a

  back : (v : Vertex) → IsOf c v → vertex s.points (number s.points v) ≡ v
  back (a_point p) h = vertex_point s.points p (below s c is named p h)
  back (an_equation i) h = vertex_equation s.points i

  -- what stands next to each other is joined, and the other way
  next_joins : (v u : Vertex) → IsOf c v → IsOf c u → IsNext s.equations v u → 0 < joins (has s.points s.equations) (number s.points v) (number s.points u)
  next_joins (a_point p) (a_point q) a b h = absurd h
  next_joins (a_point p) (an_equation i) a b h =
      let e : has s.points s.equations (s.points + i) p ≡ count (points_of (equation_at s.equations i)) p = has_row s.points s.equations i p (below s c is named p a) in
      let m : 0 < count (points_of (equation_at s.equations i)) p = count_in (points_of (equation_at s.equations i)) p h in
      omega arith
  next_joins (an_equation i) (a_point p) a b h =
      let e : has s.points s.equations (s.points + i) p ≡ count (points_of (equation_at s.equations i)) p = has_row s.points s.equations i p (below s c is named p b) in
      let m : 0 < count (points_of (equation_at s.equations i)) p = count_in (points_of (equation_at s.equations i)) p h in
      omega arith
  next_joins (an_equation i) (an_equation j) a b h = absurd h

  joined_count : (i p : ℕ) → IsIn p c.points → joins (has s.points s.equations) (s.points + i) p ≡ count (points_of (equation_at s.equations i)) p
  joined_count i p a =
      let e : has s.points s.equations (s.points + i) p ≡ count (points_of (equation_at s.equations i)) p = has_row s.points s.equations i p (below s c is named p a) in
      let z : has s.points s.equations p (s.points + i) ≡ 0 = point_none s.points s.equations p (s.points + i) (below s c is named p a) in
      omega arith

  count_joined : (i p : ℕ) → IsIn p c.points → joins (has s.points s.equations) p (s.points + i) ≡ count (points_of (equation_at s.equations i)) p
  count_joined i p a = let e : joins (has s.points s.equations) (s.points + i) p ≡ count (points_of (equation_at s.equations i)) p = joined_count i p a in omega arith

  joins_next : (v u : Vertex) → IsOf c v → IsOf c u → 0 < joins (has s.points s.equations) (number s.points v) (number s.points u) → IsNext s.equations v u
  joins_next (a_point p) (a_point q) a b h =
      let z : has s.points s.equations p q ≡ 0 = point_none s.points s.equations p q (below s c is named p a) in
      let y : has s.points s.equations q p ≡ 0 = point_none s.points s.equations q p (below s c is named q b) in
      absurd (omega arith)
  joins_next (a_point p) (an_equation i) a b h = in_count (points_of (equation_at s.equations i)) p (subst (λ (n : ℕ). 0 < n) (count_joined i p a) h)
  joins_next (an_equation i) (a_point p) a b h = in_count (points_of (equation_at s.equations i)) p (subst (λ (n : ℕ). 0 < n) (joined_count i p b) h)
  joins_next (an_equation i) (an_equation j) a b h =
      let z : has s.points s.equations (s.points + i) (s.points + j) ≡ 0 = row_none s.points s.equations (s.points + i) j in
      let y : has s.points s.equations (s.points + j) (s.points + i) ≡ 0 = row_none s.points s.equations (s.points + j) i in
      absurd (omega arith)

  -- from a listing of numbers to one of vertices
  thin_vertices : (us : List ℕ) → ((v : ℕ) → IsIn v us → IsIn v (vertices s.points c.points c.equations)) → IsThinBy (has s.points s.equations) us → IsThin s.equations (map (vertex s.points) us)
  thin_vertices [] known t = tt
  thin_vertices (v ∷ us) known t = (λ u w a b m n. same u w (mapped_from (vertex s.points) u us a) (mapped_from (vertex s.points) w us b) m n, thin_vertices us (λ u i. known u (inr i)) t.1)
    where
      joined : (u : Vertex) (x : ℕ) → IsIn x us → u ≡ vertex s.points x → IsNext s.equations (vertex s.points v) u → 0 < joins (has s.points s.equations) v x
      joined u x i e h =
          let k : 0 < joins (has s.points s.equations) (number s.points (vertex s.points v)) (number s.points (vertex s.points x)) = next_joins (vertex s.points v) (vertex s.points x) (vertex_of v (known v (inl refl))) (vertex_of x (known x (inr i))) (subst (IsNext s.equations (vertex s.points v)) e h) in
          subst (λ (y : ℕ). 0 < joins (has s.points s.equations) v y) (number_vertex s.points x) (subst (λ (y : ℕ). 0 < joins (has s.points s.equations) y (number s.points (vertex s.points x))) (number_vertex s.points v) k)

      same : (u w : Vertex) → ((x : ℕ) × IsIn x us × (u ≡ vertex s.points x)) → ((x : ℕ) × IsIn x us × (w ≡ vertex s.points x)) → IsNext s.equations (vertex s.points v) u → IsNext s.equations (vertex s.points v) w → u ≡ w
      same u w (x, a, e) (y, b, f) m n = e ∙ ap (vertex s.points) (t.0 x y a b (joined u x a e m) (joined w y b f n)) ∙ sym f

  once_equations : IsSimple (has s.points s.equations) (vertices s.points c.points c.equations) → (i : ℕ) → IsIn i c.equations → IsOnce (points_of (equation_at s.equations i))
  once_equations simple i own = once_count (points_of (equation_at s.equations i)) (λ p h. subst (λ (n : ℕ). n ≤ 1) (joined_count i p (owned s c is i p (named i p h) own h))
      (simple (s.points + i) p (in_right (s.points + i) c.points _ (in_map s.points i c.equations own)) (in_left p c.points _ (owned s c is i p (named i p h) own h))))

  pub forest_from_count : entries_on s.equations c.equations + 1 ≡ length c.points + length c.equations → IsForest s c × ((i : ℕ) → IsIn i c.equations → IsOnce (points_of (equation_at s.equations i)))
  forest_from_count e = go (tree_from_count s c is named e)
    where
      go : ((us : List ℕ) × IsListingOf (vertices s.points c.points c.equations) us × IsThinBy (has s.points s.equations) us × IsSimple (has s.points s.equations) us) → IsForest s c × ((i : ℕ) → IsIn i c.equations → IsOnce (points_of (equation_at s.equations i)))
      go (us, l, t, simple) = (
        record {
          order = map (vertex s.points) us;
          once = once_mapped (vertex s.points) us (λ x y a b e. sym (number_vertex s.points x) ∙ ap (number s.points) e ∙ number_vertex s.points y) l.distinct;
          all = λ v. (λ h. there v (mapped_from (vertex s.points) v us h), λ h. subst (λ (u : Vertex). IsIn u (map (vertex s.points) us)) (back v h) (in_mapped (vertex s.points) (number s.points v) us (l.listed (number s.points v) (of_vertex v h))));
          thin = thin_vertices us l.known t;
        },
        once_equations (λ u w a b. simple u w (l.listed u a) (l.listed w b)),
      )
        where
          there : (v : Vertex) → ((x : ℕ) × IsIn x us × (v ≡ vertex s.points x)) → IsOf c v
          there v (x, i, e) = subst (IsOf c) (sym e) (vertex_of x (l.known x i))

  -- and from one of vertices to one of numbers
  thin_numbers : (vs : List Vertex) → ((v : Vertex) → IsIn v vs → IsOf c v) → IsThin s.equations vs → IsThinBy (has s.points s.equations) (map (number s.points) vs)
  thin_numbers [] known t = tt
  thin_numbers (v ∷ vs) known t = (λ u w a b m n. same u w (mapped_from (number s.points) u vs a) (mapped_from (number s.points) w vs b) m n, thin_numbers vs (λ u i. known u (inr i)) t.1)
    where
      next : (u : ℕ) (x : Vertex) → IsIn x vs → u ≡ number s.points x → 0 < joins (has s.points s.equations) (number s.points v) u → IsNext s.equations v x
      next u x i e h = joins_next v x (known v (inl refl)) (known x (inr i)) (subst (λ (y : ℕ). 0 < joins (has s.points s.equations) (number s.points v) y) e h)

      same : (u w : ℕ) → ((x : Vertex) × IsIn x vs × (u ≡ number s.points x)) → ((x : Vertex) × IsIn x vs × (w ≡ number s.points x)) → 0 < joins (has s.points s.equations) (number s.points v) u → 0 < joins (has s.points s.equations) (number s.points v) w → u ≡ w
      same u w (x, a, e) (y, b, f) m n = e ∙ ap (number s.points) (t.0 x y a b (next u x a e m) (next w y b f n)) ∙ sym f

  simple_by : ((i : ℕ) → IsIn i c.equations → IsOnce (points_of (equation_at s.equations i))) → (u v : Vertex) → IsOf c u → IsOf c v → joins (has s.points s.equations) (number s.points u) (number s.points v) ≤ 1
  simple_by once (a_point p) (a_point q) a b =
      let z : has s.points s.equations p q ≡ 0 = point_none s.points s.equations p q (below s c is named p a) in
      let y : has s.points s.equations q p ≡ 0 = point_none s.points s.equations q p (below s c is named q b) in
      omega arith
  simple_by once (a_point p) (an_equation i) a b = subst (λ (n : ℕ). n ≤ 1) (sym (count_joined i p a)) (count_once (points_of (equation_at s.equations i)) p (once i b))
  simple_by once (an_equation i) (a_point p) a b = subst (λ (n : ℕ). n ≤ 1) (sym (joined_count i p b)) (count_once (points_of (equation_at s.equations i)) p (once i a))
  simple_by once (an_equation i) (an_equation j) a b =
      let z : has s.points s.equations (s.points + i) (s.points + j) ≡ 0 = row_none s.points s.equations (s.points + i) j in
      let y : has s.points s.equations (s.points + j) (s.points + i) ≡ 0 = row_none s.points s.equations (s.points + j) i in
      omega arith

  pub count_from_forest : IsForest s c → ((i : ℕ) → IsIn i c.equations → IsOnce (points_of (equation_at s.equations i))) → entries_on s.equations c.equations + 1 ≡ length c.points + length c.equations
  count_from_forest f once = count_from_tree s c is named (map (number s.points) f.order) listing (thin_numbers f.order (λ v i. (f.all v).0 i) f.thin) simple
    where
      injective : (x y : Vertex) → IsIn x f.order → IsIn y f.order → number s.points x ≡ number s.points y → x ≡ y
      injective x y a b e = sym (back x ((f.all x).0 a)) ∙ ap (vertex s.points) e ∙ back y ((f.all y).0 b)

      listing : IsListingOf (vertices s.points c.points c.equations) (map (number s.points) f.order)
      listing = record {
        distinct = once_mapped (number s.points) f.order injective f.once;
        listed = λ v h. subst (λ (u : ℕ). IsIn u (map (number s.points) f.order)) (number_vertex s.points v) (in_mapped (number s.points) (vertex s.points v) f.order ((f.all (vertex s.points v)).1 (vertex_of v h)));
        known = λ v h. known v (mapped_from (number s.points) v f.order h);
      }
        where
          known : (v : ℕ) → ((x : Vertex) × IsIn x f.order × (v ≡ number s.points x)) → IsIn v (vertices s.points c.points c.equations)
          known v (x, i, e) = subst (λ (u : ℕ). IsIn u (vertices s.points c.points c.equations)) (sym e) (of_vertex x ((f.all x).0 i))

      simple : IsSimple (has s.points s.equations) (map (number s.points) f.order)
      simple u v a b = at u v (mapped_from (number s.points) u f.order a) (mapped_from (number s.points) v f.order b)
        where
          at : (u v : ℕ) → ((x : Vertex) × IsIn x f.order × (u ≡ number s.points x)) → ((x : Vertex) × IsIn x f.order × (v ≡ number s.points x)) → joins (has s.points s.equations) u v ≤ 1
          at u v (x, i, e) (y, j, g) = subst (λ (w : ℕ). joins (has s.points s.equations) w v ≤ 1) (sym e) (subst (λ (w : ℕ). joins (has s.points s.equations) (number s.points x) w ≤ 1) (sym g) (simple_by once x y ((f.all x).0 i) ((f.all y).0 j)))

-- the numbers of a component are those of points and equations
pub points_inside : (s : Constraints) (c : Component) → IsComponent s c → All (λ p. p < s.points) c.points
points_inside s c is = All-from_recursion (λ p. p < s.points) c.points (by c.points (λ p i. ((is.points p).0 i).0))
  where
    by : (xs : List ℕ) → ((p : ℕ) → IsIn p xs → p < s.points) → AllByRecursion (λ p. p < s.points) xs
    by [] h = tt
    by (x ∷ xs) h = (h x (inl refl), by xs (λ p i. h p (inr i)))

pub equations_inside : (s : Constraints) (c : Component) → IsComponent s c → All (λ i. i < length s.equations) c.equations
equations_inside s c is = All-from_recursion (λ i. i < length s.equations) c.equations (by c.equations (λ i own. within i ((is.equations i).0 own)))
  where
    within : (i : ℕ) → ((p : ℕ) × HasPoint s.equations i p × IsIn p c.points) → i < length s.equations
    within i (p, has, at) = has_within s.equations i p has

    by : (xs : List ℕ) → ((p : ℕ) → IsIn p xs → p < length s.equations) → AllByRecursion (λ p. p < length s.equations) xs
    by [] h = tt
    by (x ∷ xs) h = (h x (inl refl), by xs (λ p i. h p (inr i)))

-- entries counted over the list
entries_same : (es : List Equation) (qs : List ℕ) → entries_of es qs ≡ entries_on es qs
entries_same es [] = refl
entries_same es (q ∷ qs) = sum_by-cons (λ i. length (equation_at es i).entries) q qs ∙ ap₂ ◌+◌ (sym (length-map (equation_at es q).entries (λ e. e.point))) (entries_same es qs)

of_all : (P : ℕ → Type 0) (xs : List ℕ) → All P xs → (x : ℕ) → IsIn x xs → P x
of_all P xs all x i = by xs (recursion_from_All P xs all) i
  where
    by : (ys : List ℕ) → AllByRecursion P ys → IsIn x ys → P x
    by [] a i = absurd i
    by (y ∷ ys) a (inl e) = subst P (sym e) a.0
    by (y ∷ ys) a (inr i) = by ys a.1 i

all_of : (P : ℕ → Type 0) (xs : List ℕ) → ((x : ℕ) → IsIn x xs → P x) → All P xs
all_of P xs h = All-from_recursion P xs (by xs h)
  where
    by : (ys : List ℕ) → ((x : ℕ) → IsIn x ys → P x) → AllByRecursion P ys
    by [] h = tt
    by (y ∷ ys) h = (h y (inl refl), by ys (λ x i. h x (inr i)))

module _ (s : Constraints) (c : Component) (ok : IsSystem s) (is : IsComponent s c) where
  pub acyclic_from : entries_of s.equations c.equations + 1 ≡ length c.points + length c.equations → IsForest s c × All (λ i. IsOnce (points_of (equation_at s.equations i))) c.equations
  acyclic_from e =
      let f = forest_from_count s c is (λ i p. point_within s i p ok) (ap (λ (n : ℕ). n + 1) (sym (entries_same s.equations c.equations)) ∙ e) in
      (f.0, all_of (λ i. IsOnce (points_of (equation_at s.equations i))) c.equations f.1)

  pub acyclic_to : IsForest s c → All (λ i. IsOnce (points_of (equation_at s.equations i))) c.equations → entries_of s.equations c.equations + 1 ≡ length c.points + length c.equations
  acyclic_to f once = ap (λ (n : ℕ). n + 1) (entries_same s.equations c.equations) ∙ count_from_forest s c is (λ i p. point_within s i p ok) f (of_all (λ i. IsOnce (points_of (equation_at s.equations i))) c.equations once)
