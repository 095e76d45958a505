-- Making the bounds and the equations of a system.
use Rattle.std.proofs.Common.{◌≡◌, ◌≢◌, ◌==◌, ◌||◌, ◌+◌, ◌<◌, ◌^◌, ℕ, zero, suc, Bool, true, false, List, [], ◌∷◌, ◌++◌, length, map, take, drop, get_or, set, Option, Some, slice_get, slice_index, ◌⊎◌, inl, inr, refl, sym, ap, subst, ◌∙◌, arith, true≢false, pos}
use Rattle.std.proofs.lemmas.Bool.{cases_eq, eq-eqb, ne_eqb}
use Rattle.std.proofs.lemmas.List.{take_more, get_or-set_same, get_or-set_other}
use Rattle.std.proofs.lemmas.List.Elements.{recursion_from_All, All-from_recursion}
use Rattle.std.proofs.lemmas.List.Folds.{list_any-append}
use Rattle.std.proofs.Math.Seq.{take-append_seam}
use Rattle.std.proofs.lemmas.Option.{slice_get_within, get_or_from_slice_get, slice_get-get_or}
use Rattle.std.specs.Prelude.{All, IsTrue}
use Rattle.std.specs.List.{AllByRecursion, AllZip, list_any, zip}
use Rattle.xc_bind.specs.Placed.{IsPlaced, IsInside}
use Rattle.xc_bind.specs.Steps.Owners.{AreOwners, bound_with}
use Rattle.xc_bind.specs.Systems.{AreEntries, IsBoundOf, IsEntry, IsEquationOf, IsSystemOf, IsTermEntry}
use Rattle.xc_bind.specs.declared.types.Binding.{Binding}
use Rattle.xc_bind.specs.declared.types.Term.{Term}
use Rattle.xc_interval.specs.declared.interval.Interval.{Interval}
use Rattle.xc_model.specs.Fraction.{whole}
use Rattle.xc_model.specs.Ratio.{Ratio}
use Rattle.xc_points.specs.Kept.{AreKept, Gathered, HasFact}
use Rattle.xc_points.specs.declared.types.Point.{Point}
use Rattle.xc_system.specs.Systems.{Constraints, HasBound, IsSystem, IsSmall}
use Rattle.xc_system.specs.declared.types.Bound.{Bound}
use Rattle.xc_system.specs.declared.types.Entry.{Entry}
use Rattle.xc_system.specs.declared.types.Equation.{Equation}

-- the numbers of these facts are this one, and the others as they were
pub record IsOwned (old new facts : List ℕ) (number : ℕ) : Type 0 where
  pub own : (f : ℕ) → IsTrue (list_any (λ g. g == f) facts) → slice_index new f ≡ number
  pub others : (f : ℕ) → list_any (λ g. g == f) facts ≡ false → slice_index new f ≡ slice_index old f

pub owned_none : (old : List ℕ) (number : ℕ) → IsOwned old old [] number
owned_none old number = record { own = λ f h. absurd (true≢false (sym h)); others = λ f h. refl }

-- one fact more
pub owned_more : (old new facts : List ℕ) (number i x : ℕ) → i < length facts → x ≡ get_or facts i 0 → x < length new → IsOwned old new (take i facts) number → IsOwned old (set new x number) (take (i + 1) facts) number
owned_more old new facts number i x h is l o = record { own = λ f k. own f (cases_eq f x) k; others = λ f k. others f (cases_eq f x) k }
  where
    any : (f : ℕ) → list_any (λ g. g == f) (take (i + 1) facts) ≡ (list_any (λ g. g == f) (take i facts) || ((x == f) || false))
    any f = ap (list_any (λ g. g == f)) (take_more facts i 0 h) ∙ list_any-append (λ g. g == f) (take i facts) (get_or facts i 0 ∷ []) ∙ ap (λ (y : ℕ). list_any (λ g. g == f) (take i facts) || ((y == f) || false)) (sym is)

    or_false : (a : Bool) → (a || (false || false)) ≡ a
    or_false true = refl
    or_false false = refl

    or_true : (a : Bool) → (a || (true || false)) ≡ true
    or_true true = refl
    or_true false = refl

    flip : (f : ℕ) → (f ≡ x → ⊥) → x ≡ f → ⊥
    flip f n e = n (sym e)

    same_any : (f : ℕ) → (f ≡ x → ⊥) → list_any (λ g. g == f) (take (i + 1) facts) ≡ list_any (λ g. g == f) (take i facts)
    same_any f n = any f ∙ ap (λ b. list_any (λ g. g == f) (take i facts) || (b || false)) (ne_eqb x f (flip f n)) ∙ or_false (list_any (λ g. g == f) (take i facts))

    own : (f : ℕ) → ((f ≡ x) ⊎ (f ≡ x → ⊥)) → IsTrue (list_any (λ g. g == f) (take (i + 1) facts)) → slice_index (set new x number) f ≡ number
    own f (inl e) k = ap (slice_index (set new x number)) e ∙ get_or-set_same new x number 0 l
    own f (inr n) k = get_or-set_other new x f number 0 n ∙ o.own f (sym (same_any f n) ∙ k)

    others : (f : ℕ) → ((f ≡ x) ⊎ (f ≡ x → ⊥)) → list_any (λ g. g == f) (take (i + 1) facts) ≡ false → slice_index (set new x number) f ≡ slice_index old f
    others f (inl e) k = absurd (true≢false (sym (any f ∙ ap (λ b. list_any (λ g. g == f) (take i facts) || (b || false)) (eq-eqb x f (sym e)) ∙ or_true (list_any (λ g. g == f) (take i facts))) ∙ k))
    others f (inr n) k = get_or-set_other new x f number 0 n ∙ o.others f (sym (same_any f n) ∙ k)

-- the facts of a point are facts
member_any : (xs : List ℕ) (j d : ℕ) → j < length xs → IsTrue (list_any (λ g. g == get_or xs j d) xs)
member_any [] j d h = absurd (omega arith)
member_any (x ∷ xs) zero d h = ap (λ b. b || list_any (λ g. g == x) xs) (eq-eqb x x refl)
member_any (x ∷ xs) (suc j) d h = by (x == get_or xs j d) (member_any xs j d (omega arith))
  where
    by : (b : Bool) → IsTrue (list_any (λ g. g == get_or xs j d) xs) → IsTrue (b || list_any (λ g. g == get_or xs j d) xs)
    by true k = refl
    by false k = k

pub facts_within : (points : List Point) (ends : List (Option (Interval Ratio))) (k : ℕ) (point : Point) → AreKept points ends → slice_get points k ≡ Some point → All (λ f. f < length ends) point.facts
facts_within points ends k point kept there j d h = kept.within k point there (get_or point.facts j d) (member_any point.facts j d h)

-- the facts of one point more
pub owners_more : (points : List Point) (ends : List (Option (Interval Ratio))) (old new : List ℕ) (n : ℕ) (point : Point) → AreKept points ends → slice_get points n ≡ Some point
    → ((f : ℕ) → IsTrue (list_any (λ g. g == f) point.facts) → slice_index new f ≡ n) → ((f : ℕ) → list_any (λ g. g == f) point.facts ≡ false → slice_index new f ≡ slice_index old f)
    → ((k : ℕ) (p : Point) → k < n → slice_get points k ≡ Some p → (f : ℕ) → HasFact p f → slice_index old f ≡ k)
    → (k : ℕ) (p : Point) → k < n + 1 → slice_get points k ≡ Some p → (f : ℕ) → HasFact p f → slice_index new f ≡ k
owners_more points ends old new n point kept there own others before k p l at f has = go (cases_eq k n)
  where
    some_same : (o : Option Point) (x y : Point) → o ≡ Some x → o ≡ Some y → x ≡ y
    some_same o x y e g = let same : Some x ≡ Some y = sym e ∙ g in cc

    by : (b : Bool) → list_any (λ g. g == f) point.facts ≡ b → (k ≡ n → ⊥) → slice_index new f ≡ k
    by true e other = absurd (other (kept.apart k n p point at there f has e))
    by false e other = others f e ∙ before k p (omega arith) at f has

    go : ((k ≡ n) ⊎ (k ≡ n → ⊥)) → slice_index new f ≡ k
    go (inl e) = own f (subst (λ (q : Point). HasFact q f) (some_same (slice_get points n) p point (ap (slice_get points) (sym e) ∙ at) there) has) ∙ sym e
    go (inr other) = by (list_any (λ g. g == f) point.facts) refl other

-- lists that go together, with one more each
pub zip_push : {A B : Type 0} (R : A → B → Type 0) (xs : List A) (ys : List B) (x : A) (y : B) → AllZip R xs ys → R x y → AllZip R (xs ++ x ∷ []) (ys ++ y ∷ [])
zip_push R [] [] x y a r = (r, tt)
zip_push R [] (z ∷ ys) x y a r = absurd a
zip_push R (w ∷ xs) [] x y a r = absurd a
zip_push R (w ∷ xs) (z ∷ ys) x y a r = (a.0, zip_push R xs ys x y a.1 r)

-- the entries of a binding's equation, as far as these terms
abbrev pub AreEntriesSoFar : ℕ → List Term → List Entry → Type 0
AreEntriesSoFar total terms [] = ⊥
AreEntriesSoFar total terms (e ∷ es) = IsEntry total (whole (pos 1)) e × AllZip IsTermEntry terms es

pub entries_more : (total : ℕ) (terms : List Term) (entries : List Entry) (term : Term) (entry : Entry) → AreEntriesSoFar total terms entries → IsTermEntry term entry → AreEntriesSoFar total (terms ++ term ∷ []) (entries ++ entry ∷ [])
entries_more total terms [] term entry a r = absurd a
entries_more total terms (e ∷ es) term entry a r = (a.0, zip_push IsTermEntry terms es term entry a.1 r)

-- what the bounds are
zip_at : {A B : Type 0} (xs : List A) (ys : List B) (f : ℕ) (b : Bound) (made : A × B → Bound) → slice_get (map made (zip xs ys)) f ≡ Some b → (x : A) × (y : B) × (slice_get xs f ≡ Some x) × (slice_get ys f ≡ Some y) × (b ≡ made (x, y))
zip_at [] ys f b made e = absurd (true≢false (some_none f e))
  where
    some_none : (f : ℕ) → slice_get [] f ≡ Some b → true ≡ false
    some_none f e = cc
zip_at (x ∷ xs) [] f b made e = absurd (true≢false (cc))
zip_at (x ∷ xs) (y ∷ ys) zero b made e = (x, y, refl, refl, cc)
zip_at (x ∷ xs) (y ∷ ys) (suc f) b made e = zip_at xs ys f b made e

zip_length : {A B : Type 0} (xs : List A) (ys : List B) (made : A × B → Bound) → length xs ≡ length ys → length (map made (zip xs ys)) ≡ length ys
zip_length [] [] made e = refl
zip_length [] (y ∷ ys) made e = absurd (omega arith)
zip_length (x ∷ xs) [] made e = absurd (omega arith)
zip_length (x ∷ xs) (y ∷ ys) made e = ap suc (zip_length xs ys made (omega arith))

module _ (gathered : Gathered) (bindings : List Binding) (owners : List ℕ) (kept : AreKept gathered.points gathered.ends) (are : AreOwners gathered owners) where
  abbrev bounds : List Bound
  bounds = map bound_with (zip owners gathered.ends)

  bounds_length : length bounds ≡ length gathered.ends
  bounds_length = zip_length owners gathered.ends bound_with are.facts

  bound_made : (f : ℕ) (bound : Bound) → slice_get bounds f ≡ Some bound → IsBoundOf gathered f bound
  bound_made f bound e = go (zip_at owners gathered.ends f bound bound_with e)
    where
      go : ((x : ℕ) × (y : Option (Interval Ratio)) × (slice_get owners f ≡ Some x) × (slice_get gathered.ends f ≡ Some y) × (bound ≡ bound_with (x, y))) → IsBoundOf gathered f bound
      go (x, y, at, end, is) = by (kept.covers f (slice_get_within gathered.ends f y end))
        where
          by : ((k : ℕ) × (point : Point) × ((slice_get gathered.points k ≡ Some point) × HasFact point f)) → IsBoundOf gathered f bound
          by (k, point, w) =
              let owner : x ≡ k = sym (get_or_from_slice_get owners f x 0 at) ∙ are.owned k point w.0 f w.1 in
              record { range = end ∙ ap (λ (b : Bound). Some b.range) (sym is); point = point; there = ap (λ (b : Bound). slice_get gathered.points b.point) is ∙ ap (slice_get gathered.points) owner ∙ w.0; has = w.1 }

  owner_is : (f p : ℕ) (bound : Bound) (point : Point) → slice_get bounds f ≡ Some bound → slice_get gathered.points p ≡ Some point → HasFact point f → bound.point ≡ p
  owner_is f p bound point e there has = go (zip_at owners gathered.ends f bound bound_with e)
    where
      go : ((x : ℕ) × (y : Option (Interval Ratio)) × (slice_get owners f ≡ Some x) × (slice_get gathered.ends f ≡ Some y) × (bound ≡ bound_with (x, y))) → bound.point ≡ p
      go (x, y, at, end, is) = ap (λ (b : Bound). b.point) is ∙ sym (get_or_from_slice_get owners f x 0 at) ∙ are.owned p point there f has

  some_at : {X : Type 0} (xs : List X) (p : ℕ) → p < length xs → (x : X) × (slice_get xs p ≡ Some x)
  some_at [] p h = absurd (omega arith)
  some_at (x ∷ xs) zero h = (x, refl)
  some_at (x ∷ xs) (suc p) h = some_at xs p (omega arith)

  any_at : (bs : List Bound) (f p : ℕ) (b : Bound) → slice_get bs f ≡ Some b → b.point ≡ p → HasBound bs p
  any_at [] f p b e is = absurd (true≢false (none f e))
    where
      none : (f : ℕ) → slice_get [] f ≡ Some b → true ≡ false
      none f e = cc
  any_at (x ∷ bs) zero p b e is = ap (λ t. t || list_any (λ y. y.point == p) bs) (eq-eqb x.point p (ap (λ (y : Bound). y.point) (same e) ∙ is))
    where
      same : Some x ≡ Some b → x ≡ b
      same e = cc
  any_at (x ∷ bs) (suc f) p b e is = by (x.point == p) (any_at bs f p b e is)
    where
      by : (t : Bool) → HasBound bs p → IsTrue (t || list_any (λ y. y.point == p) bs)
      by true h = refl
      by false h = h

  first_of : (facts : List ℕ) → facts ≢ [] → (f : ℕ) × IsTrue (list_any (λ g. g == f) facts)
  first_of [] some = absurd (some refl)
  first_of (x ∷ xs) some = (x, ap (λ b. b || list_any (λ g. g == x) xs) (eq-eqb x x refl))

  bounded : (p : ℕ) → p < length gathered.points → HasBound bounds p
  bounded p h = go (some_at gathered.points p h)
    where
      go : (point : Point) × (slice_get gathered.points p ≡ Some point) → HasBound bounds p
      go (point, there) = at (first_of point.facts (kept.some p point there))
        where
          at : (f : ℕ) × IsTrue (list_any (λ g. g == f) point.facts) → HasBound bounds p
          at (f, has) = by (some_at bounds f (subst (λ (n : ℕ). f < n) (sym bounds_length) (kept.within p point there f has)))
            where
              by : (b : Bound) × (slice_get bounds f ≡ Some b) → HasBound bounds p
              by (b, e) = any_at bounds f p b e (owner_is f p b point e there has)

  bounds_named : All (λ b. b.point < length gathered.points) bounds
  bounds_named k d h = let m = bound_made k (get_or bounds k d) (slice_get-get_or bounds k d h) in slice_get_within gathered.points (get_or bounds k d).point m.point m.there

  entries_named : (terms : List Term) (es : List Entry) → AllByRecursion (IsInside gathered.points) terms → AllZip IsTermEntry terms es → AllByRecursion (λ entry. entry.point < length gathered.points) es
  entries_named [] [] a z = tt
  entries_named [] (e ∷ es) a z = absurd z
  entries_named (t ∷ ts) [] a z = absurd z
  entries_named (t ∷ ts) (e ∷ es) a z = (subst (λ (n : ℕ). n < length gathered.points) (sym z.0.at) a.0, entries_named ts es a.1 z.1)

  equation_named : (b : Binding) (es : List Entry) → IsPlaced gathered.points b → AreEntries b es → AllByRecursion (λ entry. entry.point < length gathered.points) es
  equation_named b [] placed h = absurd h
  equation_named b (e ∷ es) placed h = (subst (λ (n : ℕ). n < length gathered.points) (sym h.0.at) placed.total, entries_named b.terms es (recursion_from_All (IsInside gathered.points) b.terms placed.terms) h.1)

  equations_named : (bs : List Binding) (es : List Equation) → AllByRecursion (IsPlaced gathered.points) bs → AllZip IsEquationOf bs es → AllByRecursion (λ equation. All (λ entry. entry.point < length gathered.points) equation.entries) es
  equations_named [] [] a z = tt
  equations_named [] (e ∷ es) a z = absurd z
  equations_named (b ∷ bs) [] a z = absurd z
  equations_named (b ∷ bs) (e ∷ es) a z = (All-from_recursion (λ entry. entry.point < length gathered.points) e.entries (equation_named b e.entries a.0 z.0), equations_named bs es a.1 z.1)

  pub system_made : (equations : List Equation) → All (IsPlaced gathered.points) bindings → AllZip IsEquationOf bindings equations → IsSystem (record { points = length gathered.points; bounds = map bound_with (zip owners gathered.ends); equations = equations })
  system_made equations placed z = record {
    bounds = bounds_named;
    equations = All-from_recursion (λ equation. All (λ entry. entry.point < length gathered.points) equation.entries) equations (equations_named bindings equations (recursion_from_All (IsPlaced gathered.points) bindings placed) z);
    bounded = bounded;
  }

  pub system_is : (equations : List Equation) → AllZip IsEquationOf bindings equations → IsSystemOf gathered bindings (record { points = length gathered.points; bounds = map bound_with (zip owners gathered.ends); equations = equations })
  system_is equations z = record { points = refl; facts = bounds_length; bounds = bound_made; equations = z }

  pub made_length : length (map bound_with (zip owners gathered.ends)) ≡ length gathered.ends
  made_length = bounds_length

-- as many equations as bindings
pub zipped_length : {A B : Type 0} (R : A → B → Type 0) (xs : List A) (ys : List B) → AllZip R xs ys → length ys ≡ length xs
zipped_length R [] [] a = refl
zipped_length R [] (y ∷ ys) a = absurd a
zipped_length R (x ∷ xs) [] a = absurd a
zipped_length R (x ∷ xs) (y ∷ ys) a = ap suc (zipped_length R xs ys a.1)

-- the next of a loop over a list, and what is put to the other for it
pub zip_next : {A B : Type 0} (R : A → B → Type 0) (xs items : List A) (ys now : List B) (i : ℕ) (x : A) (y : B) → items ≡ xs → i < length items → x ≡ get_or items i x → now ≡ ys ++ y ∷ [] → AllZip R (take i xs) ys → R x y → AllZip R (take (i + 1) xs) now
zip_next R xs items ys now i x y same h is made a r =
    let here : i < length xs = subst (λ (l : List _). i < length l) same h in
    let at : x ≡ get_or xs i x = is ∙ ap (λ (l : List _). get_or l i x) same in
    subst (λ (l : List _). AllZip R (take (i + 1) xs) l) (sym made) (subst (λ (l : List _). AllZip R l (ys ++ y ∷ [])) (sym (take_more xs i x here ∙ ap (λ (z : _). take i xs ++ z ∷ []) (sym at))) (zip_push R (take i xs) ys x y a r))

pub entries_next : (total : ℕ) (terms items : List Term) (entries now : List Entry) (i : ℕ) (term : Term) (entry : Entry) → items ≡ terms → i < length items → term ≡ get_or items i term → now ≡ entries ++ entry ∷ [] → AreEntriesSoFar total (take i terms) entries → IsTermEntry term entry → AreEntriesSoFar total (take (i + 1) terms) now
entries_next total terms items entries now i term entry same h is made a r =
    let here : i < length terms = subst (λ (l : List Term). i < length l) same h in
    let at : term ≡ get_or terms i term = is ∙ ap (λ (l : List Term). get_or l i term) same in
    subst (λ (l : List Entry). AreEntriesSoFar total (take (i + 1) terms) l) (sym made) (subst (λ (l : List Term). AreEntriesSoFar total l (entries ++ entry ∷ [])) (sym (take_more terms i term here ∙ ap (λ (z : Term). take i terms ++ z ∷ []) (sym at))) (entries_more total (take i terms) entries term entry a r))

-- the numbers that the loop over points leaves
pub owners_left : (gathered : Gathered) (all items : List ℕ) (n : ℕ) → n ≡ length all → length all ≡ length gathered.ends
    → ((k : ℕ) (p : Point) → slice_get gathered.points k ≡ Some p → (f : ℕ) → HasFact p f → slice_index all f ≡ k)
    → AreOwners gathered (take n (all ++ drop (length all) items))
owners_left gathered all items n e facts owned = subst (AreOwners gathered) (sym (ap (λ (m : ℕ). take m (all ++ drop (length all) items)) e ∙ take-append_seam all (drop (length all) items))) (record { facts = facts; owned = owned })

-- what the bounds and equations make
pub record IsMade (gathered : Gathered) (bindings : List Binding) (s : Constraints) : Type 0 where
  pub system : IsSystem s
  pub is : IsSystemOf gathered bindings s
  pub facts : length s.bounds ≡ length gathered.ends
  pub equations : length s.equations ≡ length bindings

pub made : (gathered : Gathered) (bindings : List Binding) (owners listed : List ℕ) (ends : List (Option (Interval Ratio))) (bounds : List Bound) (equations : List Equation) (points : List Point)
    → AreKept gathered.points gathered.ends → AreOwners gathered owners → listed ≡ owners → ends ≡ gathered.ends → points ≡ gathered.points → bounds ≡ map bound_with (zip listed ends)
    → All (IsPlaced gathered.points) bindings → AllZip IsEquationOf bindings equations → IsMade gathered bindings (record { points = length points; bounds = bounds; equations = equations })
made gathered bindings owners listed ends bounds equations points kept are same_owners same_ends same_points is placed z =
    let from : bounds ≡ map bound_with (zip owners gathered.ends) = is ∙ ap (λ (l : List ℕ). map bound_with (zip l ends)) same_owners ∙ ap (λ (l : List (Option (Interval Ratio))). map bound_with (zip owners l)) same_ends in
    subst (λ (l : List Point). IsMade gathered bindings (record { points = length l; bounds = bounds; equations = equations })) (sym same_points)
    (subst (λ (l : List Bound). IsMade gathered bindings (record { points = length gathered.points; bounds = l; equations = equations })) (sym from)
    (record {
      system = system_made gathered bindings owners kept are equations placed z;
      is = system_is gathered bindings owners kept are equations z;
      facts = made_length gathered bindings owners kept are;
      equations = zipped_length IsEquationOf bindings equations z;
    }))

pub small_made : (gathered : Gathered) (bindings : List Binding) (s : Constraints) → IsMade gathered bindings s → s.points ≡ length gathered.points → length gathered.points < 2 ^ 31 → length gathered.ends < 2 ^ 31 → length bindings < 2 ^ 31 → IsSmall s
small_made gathered bindings s m p a b c = record {
  points = subst (λ (n : ℕ). n < 2 ^ 31) (sym p) a;
  bounds = subst (λ (n : ℕ). n < 2 ^ 31) (sym m.facts) b;
  equations = subst (λ (n : ℕ). n < 2 ^ 31) (sym m.equations) c;
}
