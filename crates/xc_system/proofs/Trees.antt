-- A component is connected, and its edges are as many as its equations have entries: so it has no cycle, and no equation has a point
-- twice, exactly where its equations have one entry less than it has points and equations.
use Rattle.std.proofs.Common.{◌≡◌, ℕ, suc, ◌+◌, ◌-◌, ◌≤◌, ◌<◌, List, [], ◌∷◌, ◌++◌, map, length, cond, eqb, ◌⊎◌, inl, inr, refl, sym, ap, ap₂, ◌∙◌, arith, subst, Bool, true, false}
use Rattle.std.specs.Prelude.{nat_le}
use Rattle.std.proofs.lemmas.Bool.{cases_eq, eq-eqb, ne_eqb, le-leb, lt-leb}
use Rattle.xc_system.proofs.Counts.{sum_same, sum_plus, sum_zero, removed, removed_sum, removed_distinct, thin_from_count, count_from_thin}
use Rattle.xc_system.proofs.Graphs.{sum_on, joins, IsThinBy, edges, IsConnected, IsListingOf, IsSimple}
use Rattle.xc_system.proofs.Links.{is_in, linked_sym, closed, owned}
use Rattle.xc_system.specs.Components.{HasPoint, IsLinked, itself, by, IsComponent, least_of}
use Rattle.xc_lists.specs.Members.{IsIn, IsOnce}
use Rattle.xc_system.specs.Systems.{Constraints, equation_at, points_of}
use Rattle.xc_system.specs.declared.types.Component.{Component}
use Rattle.xc_system.specs.declared.types.Equation.{Equation}
use Rattle.xc_lists.proofs.Members.{once_of_ascending}

pub in_left : (v : ℕ) (xs ys : List ℕ) → IsIn v xs → IsIn v (xs ++ ys)
in_left v [] ys h = absurd h
in_left v (x ∷ xs) ys (inl e) = inl e
in_left v (x ∷ xs) ys (inr i) = inr (in_left v xs ys i)

pub in_right : (v : ℕ) (xs ys : List ℕ) → IsIn v ys → IsIn v (xs ++ ys)
in_right v [] ys h = h
in_right v (x ∷ xs) ys h = inr (in_right v xs ys h)

pub in_either : (v : ℕ) (xs ys : List ℕ) → IsIn v (xs ++ ys) → IsIn v xs ⊎ IsIn v ys
in_either v [] ys h = inr h
in_either v (x ∷ xs) ys (inl e) = inl (inl e)
in_either v (x ∷ xs) ys (inr i) = elim (in_either v xs ys i) [ inl a ↦ inl (inr a) | inr b ↦ inr b ]

pub in_map : (n i : ℕ) (qs : List ℕ) → IsIn i qs → IsIn (n + i) (map (λ j. n + j) qs)
in_map n i [] h = absurd h
in_map n i (q ∷ qs) (inl e) = inl (ap (λ j. n + j) e)
in_map n i (q ∷ qs) (inr k) = inr (in_map n i qs k)

pub from_map : (n v : ℕ) (qs : List ℕ) → IsIn v (map (λ j. n + j) qs) → (i : ℕ) × IsIn i qs × (v ≡ n + i)
from_map n v [] h = absurd h
from_map n v (q ∷ qs) (inl e) = (q, inl refl, e)
from_map n v (q ∷ qs) (inr k) = go (from_map n v qs k)
  where
    go : ((i : ℕ) × IsIn i qs × (v ≡ n + i)) → (i : ℕ) × IsIn i (q ∷ qs) × (v ≡ n + i)
    go (i, a, e) = (i, inr a, e)

-- how often p stands in a list
abbrev pub count : List ℕ → ℕ → ℕ
count [] p = 0
count (x ∷ xs) p = cond (eqb x p) 1 0 + count xs p

pub count_in : (xs : List ℕ) (p : ℕ) → IsIn p xs → 0 < count xs p
count_in [] p h = absurd h
count_in (x ∷ xs) p (inl e) = rw (eq-eqb x p (sym e)) (omega arith)
count_in (x ∷ xs) p (inr i) = let k : 0 < count xs p = count_in xs p i in omega arith

pub in_count : (xs : List ℕ) (p : ℕ) → 0 < count xs p → IsIn p xs
in_count [] p h = absurd (omega arith)
in_count (x ∷ xs) p h = go (cases_eq x p) h (λ k. in_count xs p k)
  where
    go : ((x ≡ p) ⊎ (x ≡ p → ⊥)) → 0 < cond (eqb x p) 1 0 + count xs p → (0 < count xs p → IsIn p xs) → (p ≡ x) ⊎ IsIn p xs
    go (inl e) h r = inl (sym e)
    go (inr e) h r = inr (r (omega (arith, rw (ne_eqb x p e) at h)))

-- a list has each at most once exactly where no count passes 1
pub count_once : (xs : List ℕ) (p : ℕ) → IsOnce xs → count xs p ≤ 1
count_once [] p o = omega arith
count_once (x ∷ xs) p o = go (cases_eq x p) (count_once xs p o.1)
  where
    zero_or : (n : ℕ) → (n ≡ 0) ⊎ (0 < n)
    zero_or n = grind arith

    none : x ≡ p → ((count xs p ≡ 0) ⊎ (0 < count xs p)) → count xs p ≡ 0
    none e (inl z) = z
    none e (inr k) = absurd (o.0 (subst (λ (y : ℕ). IsIn y xs) (sym e) (in_count xs p k)))

    go : ((x ≡ p) ⊎ (x ≡ p → ⊥)) → count xs p ≤ 1 → cond (eqb x p) 1 0 + count xs p ≤ 1
    go (inl e) k = let z : count xs p ≡ 0 = none e (zero_or (count xs p)) in rw (eq-eqb x p e) (omega arith)
    go (inr e) k = rw (ne_eqb x p e) (omega arith)

pub once_count : (xs : List ℕ) → ((p : ℕ) → IsIn p xs → count xs p ≤ 1) → IsOnce xs
once_count [] h = tt
once_count (x ∷ xs) h = (λ i. absurd (twice (count_in xs x i) (h x (inl refl))), once_count xs (λ p i. fewer p (h p (inr i))))
  where
    twice : 0 < count xs x → cond (eqb x x) 1 0 + count xs x ≤ 1 → ⊥
    twice a b = omega (arith, rw (eq-eqb x x refl) at b)

    fewer : (p : ℕ) → cond (eqb x p) 1 0 + count xs p ≤ 1 → count xs p ≤ 1
    fewer p k = omega arith

-- the points are vertices 0 to n - 1, and equation i is vertex n + i
abbrev pub has : ℕ → List Equation → ℕ → ℕ → ℕ
has n es r p = cond (nat_le n r) (cond (nat_le n p) 0 (count (points_of (equation_at es (r - n))) p)) 0

abbrev pub vertices : ℕ → List ℕ → List ℕ → List ℕ
vertices n points equations = points ++ map (λ i. n + i) equations

pub has_row : (n : ℕ) (es : List Equation) (i p : ℕ) → p < n → has n es (n + i) p ≡ count (points_of (equation_at es i)) p
has_row n es i p l = rw (le-leb n (n + i) (omega arith), lt-leb n p l, number n i) refl
  where
    number : (n i : ℕ) → (n + i) - n ≡ i
    number n i = omega arith

pub point_none : (n : ℕ) (es : List Equation) (p v : ℕ) → p < n → has n es p v ≡ 0
point_none n es p v l = rw (lt-leb n p l)

pub row_none : (n : ℕ) (es : List Equation) (v i : ℕ) → has n es v (n + i) ≡ 0
row_none n es v i = rw (le-leb n (n + i) (omega arith)) (go (nat_le n v))
  where
    go : (b : Bool) → (let t : ℕ = cond b 0 0 in t ≡ 0)
    go true = refl
    go false = refl

module _ (s : Constraints) (c : Component) (is : IsComponent s c) (named : (i p : ℕ) → HasPoint s.equations i p → p < s.points) where
  abbrev all_vertices : List ℕ
  all_vertices = vertices s.points c.points c.equations

  pub below : (p : ℕ) → IsIn p c.points → p < s.points
  below p i = ((is.points p).0 i).0

  least_in : IsIn (least_of c) c.points
  least_in = (is.points (least_of c)).1 (is.least, itself (least_of c))

  row_joins : (i p : ℕ) → p < s.points → HasPoint s.equations i p → 0 < joins (has s.points s.equations) (s.points + i) p
  row_joins i p l k =
      let e : has s.points s.equations (s.points + i) p ≡ count (points_of (equation_at s.equations i)) p = has_row s.points s.equations i p l in
      let m : 0 < count (points_of (equation_at s.equations i)) p = count_in (points_of (equation_at s.equations i)) p k in
      omega arith

  abbrev Out : List ℕ → Type 0
  Out ws = (x : ℕ) × (y : ℕ) × IsIn x (vertices s.points c.points c.equations) × (IsIn x ws → ⊥) × IsIn y ws × (0 < joins (has s.points s.equations) x y)

  swap : (x y : ℕ) → 0 < joins (has s.points s.equations) x y → 0 < joins (has s.points s.equations) y x
  swap x y k = omega arith

  cross : (ws : List ℕ) (p q : ℕ) → IsLinked s.equations p q → q ≡ least_of c → IsIn q ws → IsIn p c.points → (IsIn p ws → ⊥) → Out ws
  cross ws p q (itself r) e k at m = absurd (m k)
  cross ws p q (by i a t r ha ht rest) e k at m = go (is_in (s.points + i) ws) (is_in t ws) (cross ws t r rest e k at_t)
    where
      at_t : IsIn t c.points
      at_t = closed s c is i a t (named i t ht) at ha ht

      row_in : IsIn (s.points + i) (vertices s.points c.points c.equations)
      row_in = in_right (s.points + i) c.points _ (in_map s.points i c.equations ((is.equations i).1 (a, ha, at)))

      go : (IsIn (s.points + i) ws ⊎ (IsIn (s.points + i) ws → ⊥)) → (IsIn t ws ⊎ (IsIn t ws → ⊥)) → ((IsIn t ws → ⊥) → Out ws) → Out ws
      go (inl r) o f = (a, s.points + i, in_left a c.points _ at, m, r, swap (s.points + i) a (row_joins i a (below a at) ha))
      go (inr r) (inl o) f = (s.points + i, t, row_in, r, o, row_joins i t (below t at_t) ht)
      go (inr r) (inr o) f = f o

  out : (ws : List ℕ) → IsIn (least_of c) ws → (v : ℕ) → IsIn v (vertices s.points c.points c.equations) → (IsIn v ws → ⊥) → Out ws
  out ws k v i m = elim (in_either v c.points (map (λ j. s.points + j) c.equations) i) [
    | inl a ↦ cross ws v (least_of c) (linked_sym s.equations (least_of c) v ((is.points v).0 a).1) refl k a m
    | inr b ↦ from_row (from_map s.points v c.equations b)
  ]
    where
      from_row : ((j : ℕ) × IsIn j c.equations × (v ≡ s.points + j)) → Out ws
      from_row (j, a, e) = at ((is.equations j).0 a)
        where
          at : ((p : ℕ) × HasPoint s.equations j p × IsIn p c.points) → Out ws
          at (p, own, there) = go (is_in p ws)
            where
              go : (IsIn p ws ⊎ (IsIn p ws → ⊥)) → Out ws
              go (inl o) = (v, p, i, m, o, subst (λ (x : ℕ). 0 < joins (has s.points s.equations) x p) (sym e) (row_joins j p (below p there) own))
              go (inr o) = cross ws p (least_of c) (linked_sym s.equations (least_of c) p ((is.points p).0 there).1) refl k there o

  apart : (xs : List ℕ) → ((p : ℕ) → IsIn p xs → p < s.points) → IsOnce xs → (ys : List ℕ) → IsOnce ys → IsOnce (xs ++ map (λ j. s.points + j) ys)
  apart (x ∷ xs) b d ys e = (λ i. elim (in_either x xs (map (λ j. s.points + j) ys) i) [ inl a ↦ d.0 a | inr c ↦ over x (b x (inl refl)) (from_map s.points x ys c) ], apart xs (λ p i. b p (inr i)) d.1 ys e)
    where
      over : (x : ℕ) → x < s.points → ((j : ℕ) × IsIn j ys × (x ≡ s.points + j)) → ⊥
      over x l (j, a, q) = omega arith
  apart [] b d [] e = tt
  apart [] b d (y ∷ ys) e = (λ i. same (from_map s.points (s.points + y) ys i), apart [] b d ys e.1)
    where
      same : ((j : ℕ) × IsIn j ys × (s.points + y ≡ s.points + j)) → ⊥
      same (j, a, q) = e.0 (subst (λ (z : ℕ). IsIn z ys) (let k : j ≡ y = omega arith in k) a)

  loopless : (v : ℕ) → has s.points s.equations v v ≡ 0
  loopless v = go (nat_le s.points v)
    where
      go : (b : Bool) → cond b (cond b 0 (count (points_of (equation_at s.equations (v - s.points))) v)) 0 ≡ 0
      go true = refl
      go false = refl

  connected : IsConnected (has s.points s.equations) (vertices s.points c.points c.equations)
  connected = record {
    distinct = apart c.points below (once_of_ascending c.points is.points_ascend) c.equations (once_of_ascending c.equations is.equations_ascend);
    loopless = loopless;
    first = least_of c;
    first_in = in_left (least_of c) c.points _ least_in;
    out = out;
  }

-- how many edges
sum_append : (xs ys : List ℕ) (f : ℕ → ℕ) → sum_on (xs ++ ys) f ≡ sum_on xs f + sum_on ys f
sum_append [] ys f = omega arith
sum_append (x ∷ xs) ys f = let i : sum_on (xs ++ ys) f ≡ sum_on xs f + sum_on ys f = sum_append xs ys f in omega arith

sum_map : (n : ℕ) (qs : List ℕ) (f : ℕ → ℕ) → sum_on (map (λ j. n + j) qs) f ≡ sum_on qs (λ j. f (n + j))
sum_map n [] f = refl
sum_map n (q ∷ qs) f = ap (λ t. f (n + q) + t) (sum_map n qs f)

one_at : (ps : List ℕ) (x : ℕ) → IsOnce ps → IsIn x ps → sum_on ps (λ p. cond (eqb x p) 1 0) ≡ 1
one_at ps x d i =
    let a : sum_on ps (λ p. cond (eqb x p) 1 0) ≡ cond (eqb x x) 1 0 + sum_on (removed x ps) (λ p. cond (eqb x p) 1 0) = removed_sum x ps (λ p. cond (eqb x p) 1 0) i in
    let b : sum_on (removed x ps) (λ p. cond (eqb x p) 1 0) ≡ 0 = sum_zero (removed x ps) _ (λ v j. rw (ne_eqb x v (λ e. (removed_distinct x ps d).1 (subst (λ (z : ℕ). IsIn z (removed x ps)) (sym e) j)))) in
    a ∙ rw (eq-eqb x x refl, b) (omega arith)

row_length : (ps row : List ℕ) → IsOnce ps → ((p : ℕ) → IsIn p row → IsIn p ps) → sum_on ps (count row) ≡ length row
row_length ps [] d h = sum_zero ps _ (λ v i. refl)
row_length ps (x ∷ row) d h =
    let a : sum_on ps (λ p. cond (eqb x p) 1 0 + count row p) ≡ sum_on ps (λ p. cond (eqb x p) 1 0) + sum_on ps (count row) = sum_plus ps (λ p. cond (eqb x p) 1 0) (count row) in
    let b : sum_on ps (λ p. cond (eqb x p) 1 0) ≡ 1 = one_at ps x d (h x (inl refl)) in
    let i : sum_on ps (count row) ≡ length row = row_length ps row d (λ p k. h p (inr k)) in
    omega arith

length_map : (n : ℕ) (qs : List ℕ) → length (map (λ j. n + j) qs) ≡ length qs
length_map n [] = refl
length_map n (q ∷ qs) = ap suc (length_map n qs)

length_both : (xs ys : List ℕ) → length (xs ++ ys) ≡ length xs + length ys
length_both [] ys = omega arith
length_both (x ∷ xs) ys = let i : length (xs ++ ys) ≡ length xs + length ys = length_both xs ys in omega arith

-- how many entries the equations have
abbrev pub entries_on : List Equation → List ℕ → ℕ
entries_on es qs = sum_on qs (λ i. length (points_of (equation_at es i)))

module _ (s : Constraints) (c : Component) (is : IsComponent s c) (named : (i p : ℕ) → HasPoint s.equations i p → p < s.points) where
  row_edges : (i : ℕ) → IsIn i c.equations → sum_on (vertices s.points c.points c.equations) (has s.points s.equations (s.points + i)) ≡ length (points_of (equation_at s.equations i))
  row_edges i k =
      sum_append c.points (map (λ j. s.points + j) c.equations) (has s.points s.equations (s.points + i))
      ∙ (ap₂ ◌+◌ (sum_same c.points _ _ (λ p m. has_row s.points s.equations i p (below s c is named p m)) ∙ row_length c.points (points_of (equation_at s.equations i)) (once_of_ascending c.points is.points_ascend) (λ p m. owned s c is i p (named i p m) k m)) (sum_map s.points c.equations _ ∙ sum_zero c.equations _ (λ j m. row_none s.points s.equations (s.points + i) j))
      ∙ omega arith)

  edges_are : edges (has s.points s.equations) (vertices s.points c.points c.equations) ≡ entries_on s.equations c.equations
  edges_are =
      sum_append c.points (map (λ j. s.points + j) c.equations) (λ r. sum_on (vertices s.points c.points c.equations) (has s.points s.equations r))
      ∙ (ap₂ ◌+◌ (sum_zero c.points _ (λ p m. sum_zero (vertices s.points c.points c.equations) _ (λ v j. point_none s.points s.equations p v (below s c is named p m)))) (sum_map s.points c.equations _ ∙ sum_same c.equations _ _ (λ i m. row_edges i m))
      ∙ omega arith)

  pub tree_from_count : entries_on s.equations c.equations + 1 ≡ length c.points + length c.equations → (us : List ℕ) × IsListingOf (vertices s.points c.points c.equations) us × IsThinBy (has s.points s.equations) us × IsSimple (has s.points s.equations) us
  tree_from_count e = thin_from_count (has s.points s.equations) (vertices s.points c.points c.equations) (connected s c is named) (ap (λ t. t + 1) edges_are ∙ (e ∙ (ap (λ t. length c.points + t) (sym (length_map s.points c.equations)) ∙ sym (length_both c.points (map (λ j. s.points + j) c.equations)))))

  pub count_from_tree : (us : List ℕ) → IsListingOf (vertices s.points c.points c.equations) us → IsThinBy (has s.points s.equations) us → IsSimple (has s.points s.equations) us → entries_on s.equations c.equations + 1 ≡ length c.points + length c.equations
  count_from_tree us l t o = ap (λ t. t + 1) (sym edges_are) ∙ (count_from_thin (has s.points s.equations) (vertices s.points c.points c.equations) us (connected s c is named) l t o ∙ (length_both c.points (map (λ j. s.points + j) c.equations) ∙ ap (λ t. length c.points + t) (length_map s.points c.equations)))
