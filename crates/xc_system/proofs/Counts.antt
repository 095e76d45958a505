-- A connected graph has a thin listing exactly where it has one edge less than vertices.
use Rattle.std.proofs.Common.{◌≡◌, ◌≢◌, ℕ, zero, suc, ◌+◌, ◌≤◌, ◌<◌, List, [], ◌∷◌, length, cond, eqb, ◌⊎◌, inl, inr, refl, sym, ap₂, ◌∙◌, arith, subst}
use Rattle.std.proofs.lemmas.Bool.{cases_eq, eq-eqb, ne_eqb}
use Rattle.xc_lists.specs.Members.{IsIn, IsOnce}
use Rattle.xc_system.proofs.Links.{is_in}
use Rattle.xc_system.proofs.Graphs.{sum_on, joins, IsThinBy, edges, IsConnected, IsListingOf, IsSimple}

-- sums over lists with the same members
pub removed : ℕ → List ℕ → List ℕ
removed v [] = []
removed v (x ∷ xs) = cond (eqb x v) xs (x ∷ removed v xs)

pub removed_sum : (v : ℕ) (xs : List ℕ) (f : ℕ → ℕ) → IsIn v xs → sum_on xs f ≡ f v + sum_on (removed v xs) f
unfolding removed
removed_sum v [] f h = absurd h
removed_sum v (x ∷ xs) f h = go (cases_eq x v) h (λ i. removed_sum v xs f i)
  where
    go : ((x ≡ v) ⊎ (x ≡ v → ⊥)) → ((v ≡ x) ⊎ IsIn v xs) → (IsIn v xs → sum_on xs f ≡ f v + sum_on (removed v xs) f) → f x + sum_on xs f ≡ f v + sum_on (cond (eqb x v) xs (x ∷ removed v xs)) f
    go (inl e) h r = rw (eq-eqb x v e, e)
    go (inr e) (inl q) r = absurd (e (sym q))
    go (inr e) (inr i) r = let k : sum_on xs f ≡ f v + sum_on (removed v xs) f = r i in rw (ne_eqb x v e) (omega arith)

removed_in : (v u : ℕ) (xs : List ℕ) → IsIn u xs → u ≢ v → IsIn u (removed v xs)
unfolding removed
removed_in v u [] h m = absurd h
removed_in v u (x ∷ xs) h m = go (cases_eq x v) h (λ i. removed_in v u xs i m)
  where
    go : ((x ≡ v) ⊎ (x ≡ v → ⊥)) → ((u ≡ x) ⊎ IsIn u xs) → (IsIn u xs → IsIn u (removed v xs)) → IsIn u (cond (eqb x v) xs (x ∷ removed v xs))
    go (inl e) (inl q) r = absurd (m (q ∙ e))
    go (inl e) (inr i) r = rw (eq-eqb x v e) i
    go (inr e) (inl q) r = rw (ne_eqb x v e) (inl q)
    go (inr e) (inr i) r = rw (ne_eqb x v e) (inr (r i))

removed_from : (v u : ℕ) (xs : List ℕ) → IsIn u (removed v xs) → IsIn u xs
unfolding removed
removed_from v u [] h = h
removed_from v u (x ∷ xs) h = go (cases_eq x v) h (λ i. removed_from v u xs i)
  where
    go : ((x ≡ v) ⊎ (x ≡ v → ⊥)) → IsIn u (cond (eqb x v) xs (x ∷ removed v xs)) → (IsIn u (removed v xs) → IsIn u xs) → (u ≡ x) ⊎ IsIn u xs
    go (inl e) k r = inr (rw (eq-eqb x v e) at k)
    go (inr e) k r = at (rw (ne_eqb x v e) at k)
      where
        at : ((u ≡ x) ⊎ IsIn u (removed v xs)) → (u ≡ x) ⊎ IsIn u xs
        at (inl q) = inl q
        at (inr i) = inr (r i)

pub removed_distinct : (v : ℕ) (xs : List ℕ) → IsOnce xs → IsOnce (removed v xs) × (IsIn v (removed v xs) → ⊥)
unfolding removed
removed_distinct v [] d = (tt, λ h. h)
removed_distinct v (x ∷ xs) d = go (cases_eq x v) (removed_distinct v xs d.1)
  where
    go : ((x ≡ v) ⊎ (x ≡ v → ⊥)) → (IsOnce (removed v xs) × (IsIn v (removed v xs) → ⊥)) → IsOnce (cond (eqb x v) xs (x ∷ removed v xs)) × (IsIn v (cond (eqb x v) xs (x ∷ removed v xs)) → ⊥)
    go (inl e) r = rw (eq-eqb x v e) ((d.1, λ h. d.0 (subst (λ (y : ℕ). IsIn y xs) (sym e) h)))
    go (inr e) r = rw (ne_eqb x v e) (((λ h. d.0 (removed_from v x xs h), r.0), λ h. elim h [ inl q ↦ e (sym q) | inr i ↦ r.1 i ]))

same_sums : (xs ys : List ℕ) (f : ℕ → ℕ) → IsOnce xs → IsOnce ys → ((v : ℕ) → IsIn v xs → IsIn v ys) → ((v : ℕ) → IsIn v ys → IsIn v xs) → sum_on xs f ≡ sum_on ys f
same_sums [] [] f d e h k = refl
same_sums [] (y ∷ ys) f d e h k = absurd (k y (inl refl))
same_sums (x ∷ xs) ys f d e h k =
    let r : sum_on ys f ≡ f x + sum_on (removed x ys) f = removed_sum x ys f (h x (inl refl)) in
    let i : sum_on xs f ≡ sum_on (removed x ys) f = same_sums xs (removed x ys) f d.1 (removed_distinct x ys e).0 (λ v j. removed_in x v ys (h v (inr j)) (λ q. d.0 (subst (λ (y : ℕ). IsIn y xs) q j))) (λ v j. left v j (k v (removed_from x v ys j))) in
    omega arith
  where
    left : (v : ℕ) → IsIn v (removed x ys) → ((v ≡ x) ⊎ IsIn v xs) → IsIn v xs
    left v j (inl q) = absurd ((removed_distinct x ys e).1 (subst (λ (y : ℕ). IsIn y (removed x ys)) q j))
    left v j (inr i) = i

pub sum_same : (xs : List ℕ) (f g : ℕ → ℕ) → ((v : ℕ) → IsIn v xs → f v ≡ g v) → sum_on xs f ≡ sum_on xs g
sum_same [] f g h = refl
sum_same (x ∷ xs) f g h = ap₂ ◌+◌ (h x (inl refl)) (sum_same xs f g (λ v i. h v (inr i)))

pub sum_plus : (xs : List ℕ) (f g : ℕ → ℕ) → sum_on xs (λ v. f v + g v) ≡ sum_on xs f + sum_on xs g
sum_plus [] f g = refl
sum_plus (x ∷ xs) f g = let i : sum_on xs (λ v. f v + g v) ≡ sum_on xs f + sum_on xs g = sum_plus xs f g in omega arith

sum_ones : (xs : List ℕ) → sum_on xs (λ v. 1) ≡ length xs
sum_ones [] = refl
sum_ones (x ∷ xs) = let i : sum_on xs (λ v. 1) ≡ length xs = sum_ones xs in omega arith

pub same_edges : (has : ℕ → ℕ → ℕ) (vs ws : List ℕ) → IsOnce vs → IsListingOf vs ws → edges has vs ≡ edges has ws
same_edges has vs ws d l = sum_same vs _ _ (λ r i. same_sums vs ws (has r) d l.distinct l.listed l.known) ∙ same_sums vs ws (λ r. sum_on ws (has r)) d l.distinct l.listed l.known

pub same_lengths : (vs ws : List ℕ) → IsOnce vs → IsListingOf vs ws → length vs ≡ length ws
same_lengths vs ws d l = sym (sum_ones vs) ∙ (same_sums vs ws (λ v. 1) d l.distinct l.listed l.known ∙ sum_ones ws)

-- edges one vertex at a time
edges_more : (has : ℕ → ℕ → ℕ) (v : ℕ) (vs : List ℕ) → has v v ≡ 0 → edges has (v ∷ vs) ≡ sum_on vs (joins has v) + edges has vs
edges_more has v vs o =
    let a : sum_on vs (λ r. has r v + sum_on vs (has r)) ≡ sum_on vs (λ r. has r v) + sum_on vs (λ r. sum_on vs (has r)) = sum_plus vs (λ r. has r v) (λ r. sum_on vs (has r)) in
    let b : sum_on vs (λ u. has v u + has u v) ≡ sum_on vs (has v) + sum_on vs (λ u. has u v) = sum_plus vs (has v) (λ u. has u v) in
    omega arith

pub sum_zero : (xs : List ℕ) (f : ℕ → ℕ) → ((v : ℕ) → IsIn v xs → f v ≡ 0) → sum_on xs f ≡ 0
sum_zero [] f h = refl
sum_zero (x ∷ xs) f h = let a : f x ≡ 0 = h x (inl refl) in let b : sum_on xs f ≡ 0 = sum_zero xs f (λ v i. h v (inr i)) in omega arith

at_most_one : (xs : List ℕ) (f : ℕ → ℕ) → IsOnce xs → ((v : ℕ) → IsIn v xs → f v ≤ 1) → ((u w : ℕ) → IsIn u xs → IsIn w xs → 0 < f u → 0 < f w → u ≡ w) → sum_on xs f ≤ 1
at_most_one [] f d b o = omega arith
at_most_one (x ∷ xs) f d b o = go (zero_or (f x)) (at_most_one xs f d.1 (λ v i. b v (inr i)) (λ u w i j. o u w (inr i) (inr j)))
  where
    zero_or : (n : ℕ) → (n ≡ 0) ⊎ (0 < n)
    zero_or n = grind arith

    none : 0 < f x → (v : ℕ) → IsIn v xs → ((f v ≡ 0) ⊎ (0 < f v)) → f v ≡ 0
    none p v i (inl e) = e
    none p v i (inr q) = absurd (d.0 (subst (λ (y : ℕ). IsIn y xs) (o v x (inr i) (inl refl) q p) i))

    go : ((f x ≡ 0) ⊎ (0 < f x)) → sum_on xs f ≤ 1 → f x + sum_on xs f ≤ 1
    go (inl e) i = omega arith
    go (inr p) i =
        let z : sum_on xs f ≡ 0 = sum_zero xs f (λ v j. none p v j (zero_or (f v))) in
        let k : f x ≤ 1 = b x (inl refl) in
        omega arith

pub thin_edges : (has : ℕ → ℕ → ℕ) (vs : List ℕ) → ((v : ℕ) → has v v ≡ 0) → IsOnce vs → IsSimple has vs → IsThinBy has vs → 0 < length vs → edges has vs + 1 ≤ length vs
thin_edges has [] o d s t l = absurd (omega arith)
thin_edges has (v ∷ []) o d s t l = let e : has v v ≡ 0 = o v in omega arith
thin_edges has (v ∷ w ∷ vs) o d s t l =
    let i : edges has (w ∷ vs) + 1 ≤ length (w ∷ vs) = thin_edges has (w ∷ vs) o d.1 (λ a b j k. s a b (inr j) (inr k)) t.1 (omega arith) in
    let m : sum_on (w ∷ vs) (joins has v) ≤ 1 = at_most_one (w ∷ vs) (joins has v) d.1 (λ u j. s v u (inl refl) (inr j)) t.0 in
    let e : edges has (v ∷ w ∷ vs) ≡ sum_on (w ∷ vs) (joins has v) + edges has (w ∷ vs) = edges_more has v (w ∷ vs) (o v) in
    omega (arith, e, i, m)

-- a listing in which each vertex but the last stands next to a later one
abbrev IsGrown : (ℕ → ℕ → ℕ) → List ℕ → Type 0
IsGrown has [] = Unit {0}
IsGrown has (v ∷ []) = Unit {0}
IsGrown has (v ∷ w ∷ vs) = (1 ≤ sum_on (w ∷ vs) (joins has v)) × IsGrown has (w ∷ vs)

grown_edges : (has : ℕ → ℕ → ℕ) (vs : List ℕ) → ((v : ℕ) → has v v ≡ 0) → IsGrown has vs → length vs ≤ edges has vs + 1
grown_edges has [] o g = omega arith
grown_edges has (v ∷ []) o g = omega arith
grown_edges has (v ∷ w ∷ vs) o g =
    let i : length (w ∷ vs) ≤ edges has (w ∷ vs) + 1 = grown_edges has (w ∷ vs) o g.1 in
    let e : edges has (v ∷ w ∷ vs) ≡ sum_on (w ∷ vs) (joins has v) + edges has (w ∷ vs) = edges_more has v (w ∷ vs) (o v) in
    omega (arith, e, i, g.0)

member_le : (xs : List ℕ) (f : ℕ → ℕ) (u : ℕ) → IsIn u xs → f u ≤ sum_on xs f
member_le xs f u h = let e : sum_on xs f ≡ f u + sum_on (removed u xs) f = removed_sum u xs f h in omega arith

two_members : (xs : List ℕ) (f : ℕ → ℕ) (u w : ℕ) → IsIn u xs → IsIn w xs → u ≢ w → f u + f w ≤ sum_on xs f
two_members xs f u w h k m =
    let e : sum_on xs f ≡ f u + sum_on (removed u xs) f = removed_sum u xs f h in
    let i : f w ≤ sum_on (removed u xs) f = member_le (removed u xs) f w (removed_in u w xs k (λ q. m (sym q))) in
    omega arith

one_next : (has : ℕ → ℕ → ℕ) (v : ℕ) (vs : List ℕ) → sum_on vs (joins has v) ≤ 1 → (u w : ℕ) → IsIn u vs → IsIn w vs → 0 < joins has v u → 0 < joins has v w → u ≡ w
one_next has v vs s u w i j a b = go (cases_eq u w)
  where
    go : ((u ≡ w) ⊎ (u ≡ w → ⊥)) → u ≡ w
    go (inl e) = e
    go (inr m) = let k : joins has v u + joins has v w ≤ sum_on vs (joins has v) = two_members vs (joins has v) u w i j m in absurd (omega (arith, k, s, a, b))

grown_thin : (has : ℕ → ℕ → ℕ) (vs : List ℕ) → ((v : ℕ) → has v v ≡ 0) → IsGrown has vs → edges has vs + 1 ≤ length vs → IsThinBy has vs × IsSimple has vs
grown_thin has [] o g l = absurd (omega arith)
grown_thin has (v ∷ []) o g l = ((λ u w i. absurd i, tt), simple)
  where
    simple : (u w : ℕ) → IsIn u (v ∷ []) → IsIn w (v ∷ []) → joins has u w ≤ 1
    simple u w (inl e) (inl f) = let z : has v v ≡ 0 = o v in rw (e, f) (omega arith)
    simple u w (inl e) (inr i) = absurd i
    simple u w (inr i) j = absurd i
grown_thin has (v ∷ w ∷ vs) o g l = go (grown_thin has (w ∷ vs) o g.1)
  where
    more : edges has (v ∷ w ∷ vs) ≡ sum_on (w ∷ vs) (joins has v) + edges has (w ∷ vs)
    more = edges_more has v (w ∷ vs) (o v)

    rest : length (w ∷ vs) ≤ edges has (w ∷ vs) + 1
    rest = grown_edges has (w ∷ vs) o g.1

    one : sum_on (w ∷ vs) (joins has v) ≤ 1
    one = omega (arith, more, rest, l)

    go : (edges has (w ∷ vs) + 1 ≤ length (w ∷ vs) → IsThinBy has (w ∷ vs) × IsSimple has (w ∷ vs)) → IsThinBy has (v ∷ w ∷ vs) × IsSimple has (v ∷ w ∷ vs)
    go f = ((one_next has v (w ∷ vs) one, r.0), simple)
      where
        r : IsThinBy has (w ∷ vs) × IsSimple has (w ∷ vs)
        r = f (omega (arith, more, g.0, l))

        simple : (a b : ℕ) → IsIn a (v ∷ w ∷ vs) → IsIn b (v ∷ w ∷ vs) → joins has a b ≤ 1
        simple a b (inl e) (inl q) = let z : has v v ≡ 0 = o v in rw (e, q) (omega arith)
        simple a b (inl e) (inr j) = let k : joins has v b ≤ sum_on (w ∷ vs) (joins has v) = member_le (w ∷ vs) (joins has v) b j in rw e (omega (arith, k, one))
        simple a b (inr i) (inl q) = let k : joins has v a ≤ sum_on (w ∷ vs) (joins has v) = member_le (w ∷ vs) (joins has v) a i in rw q (omega (arith, k, one))
        simple a b (inr i) (inr j) = r.1 a b i j

-- a listing is grown from the first vertex
all_or_some : (vs ws : List ℕ) → ((v : ℕ) → IsIn v vs → IsIn v ws) ⊎ ((v : ℕ) × IsIn v vs × (IsIn v ws → ⊥))
all_or_some [] ws = inl (λ v i. absurd i)
all_or_some (v ∷ vs) ws = go (is_in v ws) (all_or_some vs ws)
  where
    go : (IsIn v ws ⊎ (IsIn v ws → ⊥)) → (((u : ℕ) → IsIn u vs → IsIn u ws) ⊎ ((u : ℕ) × IsIn u vs × (IsIn u ws → ⊥))) → ((u : ℕ) → IsIn u (v ∷ vs) → IsIn u ws) ⊎ ((u : ℕ) × IsIn u (v ∷ vs) × (IsIn u ws → ⊥))
    go (inr n) r = inr (v, inl refl, n)
    go (inl i) (inr r) = inr (r.0, inr r.1, r.2)
    go (inl i) (inl r) = inl all
      where
        all : (u : ℕ) → IsIn u (v ∷ vs) → IsIn u ws
        all u (inl e) = subst (λ (y : ℕ). IsIn y ws) (sym e) i
        all u (inr j) = r u j

sub_length : (xs ys : List ℕ) → IsOnce xs → ((v : ℕ) → IsIn v xs → IsIn v ys) → length xs ≤ length ys
sub_length [] ys d h = omega arith
sub_length (x ∷ xs) ys d h =
    let a : sum_on ys (λ v. 1) ≡ 1 + sum_on (removed x ys) (λ v. 1) = removed_sum x ys (λ v. 1) (h x (inl refl)) in
    let b : length xs ≤ length (removed x ys) = sub_length xs (removed x ys) d.1 (λ v i. removed_in x v ys (h v (inr i)) (λ q. d.0 (subst (λ (y : ℕ). IsIn y xs) q i))) in
    omega (arith, sum_ones ys, sum_ones (removed x ys))

grown_more : (has : ℕ → ℕ → ℕ) (x y : ℕ) (ws : List ℕ) → IsIn y ws → 0 < joins has x y → IsGrown has ws → IsGrown has (x ∷ ws)
grown_more has x y [] i l g = tt
grown_more has x y (w ∷ ws) i l g = (let k : joins has x y ≤ sum_on (w ∷ ws) (joins has x) = member_le (w ∷ ws) (joins has x) y i in omega (arith, k, l), g)

grow : (has : ℕ → ℕ → ℕ) (vs : List ℕ) (h : IsConnected has vs) (n : ℕ) (ws : List ℕ) → IsOnce ws → ((v : ℕ) → IsIn v ws → IsIn v vs) → IsIn h.first ws → IsGrown has ws → length vs ≤ n + length ws → (us : List ℕ) × IsListingOf vs us × IsGrown has us
grow has vs h zero ws d k f g l = go (all_or_some vs ws)
  where
    go : (((v : ℕ) → IsIn v vs → IsIn v ws) ⊎ ((v : ℕ) × IsIn v vs × (IsIn v ws → ⊥))) → (us : List ℕ) × IsListingOf vs us × IsGrown has us
    go (inl a) = (ws, record { distinct = d; listed = a; known = k }, g)
    go (inr s) = absurd (let m : length (s.0 ∷ ws) ≤ length vs = sub_length (s.0 ∷ ws) vs (s.2, d) all in omega (arith, m))
      where
        all : (v : ℕ) → IsIn v (s.0 ∷ ws) → IsIn v vs
        all v (inl e) = subst (λ (y : ℕ). IsIn y vs) (sym e) s.1
        all v (inr i) = k v i
grow has vs h (suc n) ws d k f g l = go (all_or_some vs ws) (λ x. grow has vs h n (x ∷ ws))
  where
    go : (((v : ℕ) → IsIn v vs → IsIn v ws) ⊎ ((v : ℕ) × IsIn v vs × (IsIn v ws → ⊥))) → ((x : ℕ) → IsOnce (x ∷ ws) → ((v : ℕ) → IsIn v (x ∷ ws) → IsIn v vs) → IsIn h.first (x ∷ ws) → IsGrown has (x ∷ ws) → length vs ≤ n + length (x ∷ ws) → (us : List ℕ) × IsListingOf vs us × IsGrown has us) → (us : List ℕ) × IsListingOf vs us × IsGrown has us
    go (inl a) r = (ws, record { distinct = d; listed = a; known = k }, g)
    go (inr s) r = at (h.out ws f s.0 s.1 s.2)
      where
        at : ((x : ℕ) × (y : ℕ) × IsIn x vs × (IsIn x ws → ⊥) × IsIn y ws × (0 < joins has x y)) → (us : List ℕ) × IsListingOf vs us × IsGrown has us
        at o = r o.0 (o.3, d) all (inr f) (grown_more has o.0 o.1 ws o.4 o.5 g) (omega arith)
          where
            all : (v : ℕ) → IsIn v (o.0 ∷ ws) → IsIn v vs
            all v (inl e) = subst (λ (y : ℕ). IsIn y vs) (sym e) o.2
            all v (inr i) = k v i

pub grown : (has : ℕ → ℕ → ℕ) (vs : List ℕ) → IsConnected has vs → (us : List ℕ) × IsListingOf vs us × IsGrown has us
grown has vs h = grow has vs h (length vs) (h.first ∷ []) ((λ i. i), tt) first_known (inl refl) tt (omega arith)
  where
    first_known : (v : ℕ) → IsIn v (h.first ∷ []) → IsIn v vs
    first_known v (inl e) = subst (λ (y : ℕ). IsIn y vs) (sym e) h.first_in
    first_known v (inr i) = absurd i

-- the count decides
pub thin_from_count : (has : ℕ → ℕ → ℕ) (vs : List ℕ) → IsConnected has vs → edges has vs + 1 ≡ length vs → (us : List ℕ) × IsListingOf vs us × IsThinBy has us × IsSimple has us
thin_from_count has vs h e = go (grown has vs h)
  where
    go : ((us : List ℕ) × IsListingOf vs us × IsGrown has us) → (us : List ℕ) × IsListingOf vs us × IsThinBy has us × IsSimple has us
    go u =
        let a : edges has vs ≡ edges has u.0 = same_edges has vs u.0 h.distinct u.1 in
        let b : length vs ≡ length u.0 = same_lengths vs u.0 h.distinct u.1 in
        let t = grown_thin has u.0 h.loopless u.2 (omega arith) in
        (u.0, u.1, t.0, t.1)

pub count_from_thin : (has : ℕ → ℕ → ℕ) (vs us : List ℕ) → IsConnected has vs → IsListingOf vs us → IsThinBy has us → IsSimple has us → edges has vs + 1 ≡ length vs
count_from_thin has vs us h l t s = go (grown has vs h)
  where
    some : 0 < length us
    some = filled us (l.listed h.first h.first_in)
      where
        filled : (xs : List ℕ) → IsIn h.first xs → 0 < length xs
        filled [] i = absurd i
        filled (x ∷ xs) i = omega arith

    go : ((ws : List ℕ) × IsListingOf vs ws × IsGrown has ws) → edges has vs + 1 ≡ length vs
    go u =
        let a : edges has vs ≡ edges has u.0 = same_edges has vs u.0 h.distinct u.1 in
        let b : length vs ≡ length u.0 = same_lengths vs u.0 h.distinct u.1 in
        let c : edges has vs ≡ edges has us = same_edges has vs us h.distinct l in
        let e : length vs ≡ length us = same_lengths vs us h.distinct l in
        let f : length u.0 ≤ edges has u.0 + 1 = grown_edges has u.0 h.loopless u.2 in
        let g : edges has us + 1 ≤ length us = thin_edges has us h.loopless l.distinct s t some in
        omega arith
