-- Numbers that solve the ranges and the rows of a component are values of it.
use Rattle.std.proofs.Common.{◌≡◌, ◌≢◌, ◌⊎◌, ℕ, zero, suc, ◌*◌, ◌<◌, ◌≤◌, Bool, true, false, Option, Some, None, List, [], ◌∷◌, ◌++◌, length, map, get_or, ℤ, pos, negsuc, neg_ℤ, ◌*ℤ◌, inl, inr, refl, sym, ap, subst, ◌∙◌, arith}
use Rattle.std.proofs.lemmas.Bool.{eq-eqb, ne_eqb}
use Rattle.std.proofs.lemmas.Int.{ints}
use Rattle.std.proofs.lemmas.List.{get_or-map, length-map}
use Rattle.std.proofs.lemmas.Option.{slice_get_cases, slice_get-get_or}
use Rattle.std.specs.Option.{option_map_or}
use Rattle.std.specs.Prelude.{IsSomeAnd, slice_get, if◌then◌else◌}
use Rattle.xc_forest.specs.Forests.{row_at}
use Rattle.xc_interval.specs.Ends.{end_at}
use Rattle.xc_interval.specs.Intervals.{numbers_of, HasNumber, IsBefore, IsPast}
use Rattle.xc_interval.specs.Laws.{IsTightness}
use Rattle.xc_interval.specs.Ranges.{AllKnown}
use Rattle.xc_interval.specs.Tightest.{IsTighterHigh, IsTighterLow}
use Rattle.xc_interval.specs.declared.ends.End.TheVariants.{Closed}
use Rattle.xc_interval.specs.declared.interval.Interval.{Interval}
use Rattle.xc_joint.specs.Answers.{assignment_at, AreValuesOf}
use Rattle.xc_joint.specs.ComponentProblems.{IsTightestRange}
use Rattle.xc_joint.specs.Solved.{interval_at, number_at, number_total, signed_number, NumbersSolve}
use Rattle.xc_joint.specs.Lists.{AreEach}
use Rattle.xc_joint.specs.Steps.OneForest.{IsBounded, IsRowOf, IsSign, IsSignedPlace}
use Rattle.xc_joint.proofs.Each.{each_at, each_length}
use Rattle.xc_joint.proofs.Exact.{exact_whole}
use Rattle.xc_joint.proofs.Searched.{rises}
use Rattle.xc_joint.proofs.Sizes.{place_of}
use Rattle.xc_joint.proofs.TightestRanges.{bounded_known, bounded_tightest, HasKnown}
use Rattle.xc_model.specs.Fraction.{Fraction, IsBelow, SameNumber, whole, neg_of, product_of}
use Rattle.xc_model.specs.Ratio.{Ratio, fraction_of}
use Rattle.xc_model.proofs.Numbers.{same-sum, same-trans}
use Rattle.xc_system.specs.Components.{IsComponent}
use Rattle.xc_lists.specs.Members.{IsIn}
use Rattle.xc_system.specs.Solutions.{Admits, Holds, IsZero, sum_over_entries}
use Rattle.xc_system.specs.Spots.{HasTighter, IsFirstTightest, high_end, low_end}
use Rattle.xc_system.specs.Systems.{Constraints, equation_at, facts_of, range_at}
use Rattle.xc_system.specs.declared.types.Bound.{Bound}
use Rattle.xc_system.specs.declared.types.Component.{Component}
use Rattle.xc_system.specs.declared.types.Entry.{Entry}
use Rattle.xc_system.specs.declared.types.Equation.{Equation}
use Rattle.xc_system.specs.declared.types.Side.TheVariants.{High, Low}
use Rattle.xc_lists.proofs.Members.{places_in}

-- ---- the value of a point

abbrev pub Rise : List ℕ → Type 0
Rise xs = (i j : ℕ) → i < j → j < length xs → get_or xs i 0 < get_or xs j 0

pub placed_at : (points : List ℕ) (xs : List Ratio) (j : ℕ) → Rise points → j < length points → length xs ≡ length points → assignment_at points xs (get_or points j 0) ≡ number_at xs j
placed_at [] xs j up l long = absurd (omega (arith, l))
placed_at (q ∷ qs) [] j up l long = absurd (omega (arith, long))
placed_at (q ∷ qs) (x ∷ xs) zero up l long = ap (λ b. if b then fraction_of x else assignment_at qs xs q) (eq-eqb q q refl)
placed_at (q ∷ qs) (x ∷ xs) (suc j) up l long =
    let p = get_or qs j 0 in
    let above : q < p = up 0 (suc j) (omega arith) l in
    let apart : p ≢ q = λ e. omega (arith, above, e) in
    ap (λ b. if b then fraction_of x else assignment_at qs xs p) (ne_eqb p q apart) ∙ placed_at qs xs j (λ i k m n. up (suc i) (suc k) (omega (arith, m)) (omega (arith, n))) (omega (arith, l)) (omega (arith, long))

-- ---- equations

one_times : (a : ℤ) → pos 1 *ℤ a ≡ a
one_times a = omega (arith, ints)

minus_times : (a : ℤ) → negsuc 0 *ℤ a ≡ neg_ℤ a
minus_times a = omega (arith, ints)

pub signed_product : (b : Bool) (w : Ratio) (y : Fraction) → IsSign b w → SameNumber (product_of (fraction_of w) y) (signed_number b y)
signed_product false w y h =
    let is = exact_whole w (pos 1) (record { cross = let n = h.0 in let d = h.1 in omega (arith, ints, n, d) }) in
    let e : 1 * y.den ≡ y.den = omega arith in
    subst (λ f. SameNumber (product_of f y) y) (sym is) (record { cross = ap (λ a. a *ℤ pos y.den) (one_times y.num) ∙ ap (λ (d : ℕ). y.num *ℤ pos d) (sym e) })
signed_product true w y h =
    let is = exact_whole w (negsuc 0) (record { cross = let n = h.0 in let d = h.1 in omega (arith, ints, n, d) }) in
    let e : 1 * y.den ≡ y.den = omega arith in
    subst (λ f. SameNumber (product_of f y) (neg_of y)) (sym is) (record { cross = ap (λ a. a *ℤ pos y.den) (minus_times y.num) ∙ ap (λ (d : ℕ). neg_ℤ y.num *ℤ pos d) (sym e) })

module _ (points : List ℕ) (xs : List Ratio) (up : Rise points) (long : length xs ≡ length points) where
  weighed_row : (entries : List Entry) (row : List (ℕ × Bool)) → AreEach (IsSignedPlace points) entries row → SameNumber (sum_over_entries entries (assignment_at points xs)) (number_total row (number_at xs))
  weighed_row [] [] h = record { cross = refl }
  weighed_row [] (r ∷ row) h = absurd h
  weighed_row (entry ∷ entries) [] h = absurd h
  weighed_row (entry ∷ entries) (r ∷ row) h =
      let value : assignment_at points xs entry.point ≡ number_at xs r.0 = ap (assignment_at points xs) (sym h.0.there) ∙ placed_at points xs r.0 up h.0.inside long in
      let one : SameNumber (product_of (fraction_of entry.weight) (assignment_at points xs entry.point)) (signed_number r.1 (number_at xs r.0)) = subst (λ y. SameNumber (product_of (fraction_of entry.weight) y) (signed_number r.1 (number_at xs r.0))) (sym value) (signed_product r.1 entry.weight (number_at xs r.0) h.0.sign) in
      same-sum _ _ _ _ one (weighed_row entries row h.1)

-- ---- facts

in_either : (x : ℕ) (xs ys : List ℕ) → IsIn x (xs ++ ys) → IsIn x xs ⊎ IsIn x ys
in_either x [] ys h = inr h
in_either x (y ∷ xs) ys (inl e) = inl (inl e)
in_either x (y ∷ xs) ys (inr h) = elim (in_either x xs ys h) [ inl a ↦ inl (inr a) | inr b ↦ inr b ]

-- low ends and high ends go by tightness
abbrev pub LowsCompare : Type 0
LowsCompare = IsTightness (IsTighterLow IsBelow SameNumber) (IsPast IsBelow SameNumber)

abbrev pub HighsCompare : Type 0
HighsCompare = IsTightness (IsTighterHigh IsBelow SameNumber) (IsBefore IsBelow SameNumber)

module _ (bounds : List Bound) (facts : List ℕ) (x : Fraction) where
  -- what is past the tightest low end is past all
  past_all : LowsCompare → (k : ℕ) → IsFirstTightest (HasTighter Low bounds) facts k → IsPast IsBelow SameNumber (low_end bounds k) x → (j : ℕ) → IsIn j facts → IsPast IsBelow SameNumber (low_end bounds j) x
  past_all T k h past j listed = go (in_either j h.front (k ∷ h.back) (subst (λ (l : List ℕ). IsIn j l) h.there listed))
    where
      go : IsIn j h.front ⊎ ((j ≡ k) ⊎ IsIn j h.back) → IsPast IsBelow SameNumber (low_end bounds j) x
      go (inl a) = T.lets (low_end bounds k) (low_end bounds j) (h.before j a) x past
      go (inr (inl e)) = subst (λ (i : ℕ). IsPast IsBelow SameNumber (low_end bounds i) x) (sym e) past
      go (inr (inr b)) = T.keeps (low_end bounds j) (low_end bounds k) (h.behind j b) x past

  before_all : HighsCompare → (k : ℕ) → IsFirstTightest (HasTighter High bounds) facts k → IsBefore IsBelow SameNumber (high_end bounds k) x → (j : ℕ) → IsIn j facts → IsBefore IsBelow SameNumber (high_end bounds j) x
  before_all T k h past j listed = go (in_either j h.front (k ∷ h.back) (subst (λ (l : List ℕ). IsIn j l) h.there listed))
    where
      go : IsIn j h.front ⊎ ((j ≡ k) ⊎ IsIn j h.back) → IsBefore IsBelow SameNumber (high_end bounds j) x
      go (inl a) = T.lets (high_end bounds k) (high_end bounds j) (h.before j a) x past
      go (inr (inl e)) = subst (λ (i : ℕ). IsBefore IsBelow SameNumber (high_end bounds i) x) (sym e) past
      go (inr (inr b)) = T.keeps (high_end bounds j) (high_end bounds k) (h.behind j b) x past

-- a fact that is known and between whose ends the number lies
known_has : (bounds : List Bound) (facts : List ℕ) (k : ℕ) (x : Fraction) → AllKnown (map (range_at bounds) facts) → IsIn k facts → IsPast IsBelow SameNumber (low_end bounds k) x → IsBefore IsBelow SameNumber (high_end bounds k) x → IsSomeAnd (range_at bounds k) (λ interval. HasNumber (numbers_of interval) x)
known_has bounds [] k x known listed past before = absurd listed
known_has bounds (f ∷ fs) k x known (inl same) past before = subst (λ (j : ℕ). IsSomeAnd (range_at bounds j) (λ interval. HasNumber (numbers_of interval) x)) (sym same) (go (range_at bounds f) known (subst (λ (j : ℕ). IsPast IsBelow SameNumber (low_end bounds j) x) same past) (subst (λ (j : ℕ). IsBefore IsBelow SameNumber (high_end bounds j) x) same before))
  where
    go : (o : Option (Interval Ratio)) → AllKnown (o ∷ map (range_at bounds) fs) → IsPast IsBelow SameNumber (option_map_or (λ interval. end_at (λ y. fraction_of y) interval.low) o (Closed (whole (pos 0)))) x → IsBefore IsBelow SameNumber (option_map_or (λ interval. end_at (λ y. fraction_of y) interval.high) o (Closed (whole (pos 0)))) x → IsSomeAnd o (λ interval. HasNumber (numbers_of interval) x)
    go None a b c = absurd a
    go (Some i) a b c = record { low = b; high = c }
known_has bounds (f ∷ fs) k x known (inr listed) past before = known_has bounds fs k x (rest (range_at bounds f) known) listed past before
  where
    rest : (o : Option (Interval Ratio)) → AllKnown (o ∷ map (range_at bounds) fs) → AllKnown (map (range_at bounds) fs)
    rest None a = absurd a
    rest (Some i) a = a

-- a number between the tightest ends lies in the interval of each fact
pub all_have : LowsCompare → HighsCompare → (s : Constraints) (p : ℕ) (range : Interval Ratio) → AllKnown (map (range_at s.bounds) (facts_of s.bounds p)) → IsTightestRange s p range → (x : Fraction) → HasNumber (numbers_of range) x → (k : ℕ) → IsIn k (facts_of s.bounds p) → IsSomeAnd (range_at s.bounds k) (λ interval. HasNumber (numbers_of interval) x)
all_have lows highs s p range known t x lies k listed =
    let facts = facts_of s.bounds p in
    let low_is : low_end s.bounds t.low_fact ≡ end_at (λ y. fraction_of y) range.low = ap (λ o. option_map_or (λ interval. end_at (λ y. fraction_of y) interval.low) o (Closed (whole (pos 0)))) t.low_known ∙ ap (λ e. end_at (λ y. fraction_of y) e) (sym t.low_is) in
    let high_is : high_end s.bounds t.high_fact ≡ end_at (λ y. fraction_of y) range.high = ap (λ o. option_map_or (λ interval. end_at (λ y. fraction_of y) interval.high) o (Closed (whole (pos 0)))) t.high_known ∙ ap (λ e. end_at (λ y. fraction_of y) e) (sym t.high_is) in
    let past = subst (λ e. IsPast IsBelow SameNumber e x) (sym low_is) lies.low in
    let before = subst (λ e. IsBefore IsBelow SameNumber e x) (sym high_is) lies.high in
    known_has s.bounds facts k x known listed
    (past_all s.bounds facts x lows t.low_fact t.low_first past k listed)
    (before_all s.bounds facts x highs t.high_fact t.high_first before k listed)

-- ---- the component

tightest_at : (s : Constraints) (points : List ℕ) (ranges : List (Interval Ratio)) (j : ℕ) → AreEach (IsTightestRange s) points ranges → j < length points → (range : Interval Ratio) × IsTightestRange s (get_or points j 0) range × (interval_at ranges j ≡ numbers_of range)
tightest_at s [] ranges j h l = absurd (omega (arith, l))
tightest_at s (q ∷ qs) [] j h l = absurd h
tightest_at s (q ∷ qs) (r ∷ rs) zero h l = (r, h.0, refl)
tightest_at s (q ∷ qs) (r ∷ rs) (suc j) h l = tightest_at s qs rs j h.1 (omega (arith, l))

-- numbers that lie in the ranges of its points and meet its equations are values of a component
module _ (lows : LowsCompare) (highs : HighsCompare) (s : Constraints) (c : Component) (is : IsComponent s c) (known : HasKnown s c.points) (ranges : List (Interval Ratio)) (tight : AreEach (IsTightestRange s) c.points ranges) (xs : List Ratio) (each : length xs ≡ length ranges) (within : (p : ℕ) → p < length ranges → HasNumber (interval_at ranges p) (number_at xs p)) where
  pub up : Rise c.points
  up = rises c.points is.points_ascend

  pub long : length xs ≡ length c.points
  long = each ∙ each_length (IsTightestRange s) c.points ranges tight

  admitted : (k : ℕ) (bound : Bound) → slice_get s.bounds k ≡ Some bound → IsIn bound.point c.points → Admits bound (assignment_at c.points xs bound.point)
  admitted k bound there inside = go (slice_get_cases s.bounds k).1
    where
      go : ((b : Bound) × (k < length s.bounds) × (slice_get s.bounds k ≡ Some b) × (get_or s.bounds k b ≡ b)) ⊎ ((length s.bounds ≤ k) × (slice_get s.bounds k ≡ None)) → Admits bound (assignment_at c.points xs bound.point)
      go (inl (b, l, found, at)) =
          let same : b ≡ bound = let e : Some b ≡ Some bound = sym found ∙ there in cc in
          let place = place_of bound.point c.points inside in
          let j = place.0 in
          let r = tightest_at s c.points ranges j tight place.1 in
          let lies : HasNumber (numbers_of r.0) (number_at xs j) = subst (λ i. HasNumber i (number_at xs j)) r.2 (within j (let many = each_length (IsTightestRange s) c.points ranges tight in let m = place.1 in omega (arith, many, m))) in
          let owner : get_or (map (λ (x : Bound). x.point) s.bounds) k 0 ≡ get_or c.points j 0 = get_or-map (λ (x : Bound). x.point) s.bounds k b 0 l ∙ ap (λ (x : Bound). x.point) at ∙ ap (λ (x : Bound). x.point) same ∙ sym place.2 in
          let listed : IsIn k (facts_of s.bounds (get_or c.points j 0)) = places_in (map (λ x. x.point) s.bounds) (get_or c.points j 0) k (let e = length-map s.bounds (λ (x : Bound). x.point) in omega (arith, e, l)) owner in
          let has = all_have lows highs s (get_or c.points j 0) r.0 (subst (λ (q : ℕ). AllKnown (map (range_at s.bounds) (facts_of s.bounds q))) (sym place.2) (known bound.point inside)) r.1 (number_at xs j) lies k listed in
          let value : assignment_at c.points xs bound.point ≡ number_at xs j = ap (assignment_at c.points xs) (sym place.2) ∙ placed_at c.points xs j up place.1 long in
          let range : range_at s.bounds k ≡ bound.range = ap (λ (o : Option Bound). option_map_or (λ x. x.range) o None) there in
          subst (λ y. IsSomeAnd bound.range (λ interval. HasNumber (numbers_of interval) y)) (sym value) (subst (λ o. IsSomeAnd o (λ interval. HasNumber (numbers_of interval) (number_at xs j))) range has)
      go (inr (past, none)) = absurd (let e : None ≡ Some bound = sym none ∙ there in cc)

  module _ (zero_at : (j : ℕ) → j < length c.equations → IsZero (sum_over_entries (equation_at s.equations (get_or c.equations j 0)).entries (assignment_at c.points xs))) where
    met : (i : ℕ) (equation : Equation) → slice_get s.equations i ≡ Some equation → IsIn i c.equations → Holds equation (assignment_at c.points xs)
    met i equation there inside = go (slice_get_cases s.equations i).1
      where
        equal : i < length s.equations → equation_at s.equations i ≡ equation
        equal l = let e : Some (equation_at s.equations i) ≡ Some equation = sym (slice_get-get_or s.equations i (record { entries = [] }) l) ∙ there in cc

        go : ((b : Equation) × (i < length s.equations) × (slice_get s.equations i ≡ Some b) × (get_or s.equations i b ≡ b)) ⊎ ((length s.equations ≤ i) × (slice_get s.equations i ≡ None)) → Holds equation (assignment_at c.points xs)
        go (inl (b, l, found, at)) =
            let place = place_of i c.equations inside in
            let zero = subst (λ (n : ℕ). IsZero (sum_over_entries (equation_at s.equations n).entries (assignment_at c.points xs))) place.2 (zero_at place.0 place.1) in
            subst (λ (e : Equation). IsZero (sum_over_entries e.entries (assignment_at c.points xs))) (equal l) zero
        go (inr (past, none)) = absurd (let e : None ≡ Some equation = sym none ∙ there in cc)

    pub values_of : AreValuesOf s c xs
    values_of = record { each = long; solve = record { admitted = admitted; met = met } }

module _ (lows : LowsCompare) (highs : HighsCompare) (s : Constraints) (c : Component) (is : IsComponent s c) (ranges : List (Interval Ratio)) (rows : List (List (ℕ × Bool))) (bounded : AreEach (IsBounded s) c.points ranges) (rows_are : AreEach (IsRowOf s c.points) c.equations rows) (xs : List Ratio) (solve : NumbersSolve rows ranges xs) where
  known : HasKnown s c.points
  known = bounded_known s c.points ranges bounded

  tight : AreEach (IsTightestRange s) c.points ranges
  tight = bounded_tightest s c.points ranges bounded

  pub are_values : AreValuesOf s c xs
  are_values = values_of lows highs s c is known ranges tight xs solve.each solve.within zero_at
    where
      zero_at : (j : ℕ) → j < length c.equations → IsZero (sum_over_entries (equation_at s.equations (get_or c.equations j 0)).entries (assignment_at c.points xs))
      zero_at j m =
          let many = each_length (IsRowOf s c.points) c.equations rows rows_are in
          let row : AreEach (IsSignedPlace c.points) (equation_at s.equations (get_or c.equations j 0)).entries (row_at rows j) = each_at (IsRowOf s c.points) c.equations rows j 0 [] rows_are m in
          let points_up = up lows highs s c is known ranges tight xs solve.each solve.within in
          let size = long lows highs s c is known ranges tight xs solve.each solve.within in
          let zero = same-trans _ _ _ (weighed_row c.points xs points_up size (equation_at s.equations (get_or c.equations j 0)).entries (row_at rows j) row) (solve.met j (omega (arith, many, m))) in
          let k = zero.cross in
          omega (arith, ints, k)
