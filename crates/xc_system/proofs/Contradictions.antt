-- A contradiction excludes every assignment.
use Rattle.std.proofs.Common.{◌≡◌, ℕ, ◌*◌, ◌<◌, Bool, false, ◌||◌, List, [], ◌∷◌, length, map, ℤ, pos, ◌+ℤ◌, ◌-ℤ◌, ◌<ℤ◌, ◌⊎◌, inl, inr, refl, sym, ap, ap₂, subst, arith, Option, Some, None, slice_get}
use Rattle.std.proofs.Math.Nat.{mul-pos}
use Rattle.std.proofs.lemmas.Int.{ints}
use Rattle.std.proofs.lemmas.List.Elements.{recursion_from_All}
use Rattle.std.proofs.lemmas.Option.{slice_get_within, get_or_from_slice_get, slice_get-get_or}
use Rattle.std.specs.Prelude.{neg_ℤ, IsTrue, IsSomeAnd, IfSome, All}
use Rattle.std.specs.List.{AllByRecursion, list_any}
use Rattle.std.specs.Option.{option_map_or}
use Prim.Native.Nat.{◌∣◌}
use Rattle.xc_interval.specs.Ends.{value_of, is_open, end_at}
use Rattle.xc_interval.specs.Intervals.{IsPast, IsBefore, numbers_of, HasNumber}
use Rattle.xc_interval.specs.declared.ends.End.{End}
use Rattle.xc_interval.specs.declared.ends.End.TheVariants.{Closed, Open}
use Rattle.xc_interval.specs.declared.interval.Interval.{Interval}
use Rattle.xc_model.proofs.Over.{ratio}
use Rattle.xc_model.specs.Fraction.{Fraction, SameNumber, IsBelow, whole, one_positive}
use Rattle.xc_model.specs.Ratio.{Ratio, fraction_of}
use Rattle.xc_system.proofs.Excluding.{Whole, counts, Contradicts, Meets, excluded}
use Rattle.xc_system.proofs.Scaling.{up, up_stands, zero_stands, negative_stands, positive_stands, past_stands, before_stands, sum_stands, difference_stands, more_stands, unit_stands, scaled, entries_scaled, total_stands, weighed_stands, Common, common_den, common_both, common_all, common_of}
use Rattle.xc_system.proofs.Totals.{total, one_at, IsLess}
use Rattle.xc_system.specs.Kept.{Multipliers}
use Rattle.xc_system.specs.Laws.{ExcludesPassing, ExcludesSolutions, SolvingMaySolve}
use Rattle.xc_system.specs.Refutations as listed
use Rattle.xc_system.specs.Refutations.{IsContradiction, IsKnown, AdmitsAt, Passes, coefficient, constant, lists_open, low_at, high_at, is_low_open, is_high_open, unit_at}
use Rattle.xc_system.specs.Solutions.{Assignment, IsZero, Admits, MayAdmit, Holds, sum_over_entries}
use Rattle.xc_system.specs.Systems.{Constraints, IsSystem, point_at, equation_at}
use Rattle.xc_system.specs.declared.types.Bound.{Bound}
use Rattle.xc_system.specs.declared.types.Entry.{Entry}

-- what holds of each holds of each that is made of it
all_map : {X Y : Type 0} (P : Y → Type 0) (f : X → Y) (xs : List X) → AllByRecursion (λ x. P (f x)) xs → AllByRecursion P (map f xs)
all_map P f [] a = tt
all_map P f (x ∷ xs) a = (a.0, all_map P f xs a.1)

all_alike : {X : Type 0} (P Q : X → Type 0) (xs : List X) → ((x : X) → P x → Q x) → AllByRecursion P xs → AllByRecursion Q xs
all_alike P Q [] h a = tt
all_alike P Q (x ∷ xs) h a = (h x a.0, all_alike P Q xs h a.1)

all_both : {X : Type 0} (P Q : X → Type 0) (xs : List X) → AllByRecursion P xs → AllByRecursion Q xs → AllByRecursion (λ x. P x × Q x) xs
all_both P Q [] a b = tt
all_both P Q (x ∷ xs) a b = ((a.0, b.0), all_both P Q xs a.1 b.1)

any_map : {X Y : Type 0} (p : Y → Bool) (f : X → Y) (xs : List X) → list_any p (map f xs) ≡ list_any (λ x. p (f x)) xs
any_map p f [] = refl
any_map p f (x ∷ xs) = ap (λ b. p (f x) || b) (any_map p f xs)

-- the point of a fact of the system is one of its points
pub point_known : (s : Constraints) (k : ℕ) → IsSystem s → IsKnown s k → point_at s.bounds k < s.points
point_known s k ok h = by (slice_get s.bounds k) refl h
  where
    by : (o : Option Bound) → slice_get s.bounds k ≡ o → IsSomeAnd (option_map_or (λ bound. bound.range) o None) (λ interval. Unit {0}) → option_map_or (λ bound. bound.point) o 0 < s.points
    by None e h = absurd h
    by (Some bound) e h = subst (λ (b : Bound). b.point < s.points) (get_or_from_slice_get s.bounds k bound bound e) (ok.bounds k bound (slice_get_within s.bounds k bound e))

past_ratio : (e : End Ratio) (x : Fraction) (n m : ℤ) (d : ℕ) (p : 0 < d) → SameNumber (fraction_of (value_of e)) (ratio n d p) → SameNumber x (ratio m d p) → IsPast IsBelow SameNumber (end_at (λ f. fraction_of f) e) x → IsLess (is_open e) n m
past_ratio (Closed e) x n m d p s t h = past_stands (Closed (fraction_of e)) x n m d p s t h
past_ratio (Open e) x n m d p s t h = past_stands (Open (fraction_of e)) x n m d p s t h

before_ratio : (e : End Ratio) (x : Fraction) (n m : ℤ) (d : ℕ) (p : 0 < d) → SameNumber (fraction_of (value_of e)) (ratio n d p) → SameNumber x (ratio m d p) → IsBefore IsBelow SameNumber (end_at (λ f. fraction_of f) e) x → IsLess (is_open e) m n
before_ratio (Closed e) x n m d p s t h = before_stands (Closed (fraction_of e)) x n m d p s t h
before_ratio (Open e) x n m d p s t h = before_stands (Open (fraction_of e)) x n m d p s t h

module _ (s : Constraints) (r : Multipliers) (z : Assignment) where
  -- d is over all denominators that matter
  abbrev Weighs : ℕ → Entry → Type 0
  Weighs d entry = ((fraction_of entry.weight).den ∣ d) × ((z entry.point).den ∣ d)

  abbrev Binds : ℕ → ℕ × Ratio → Type 0
  Binds d m = ((fraction_of m.1).den ∣ d) × AllByRecursion (Weighs d) (equation_at s.equations m.0).entries

  abbrev Ends : (ℕ → Fraction) → ℕ → ℕ × Ratio → Type 0
  Ends end d m = ((fraction_of m.1).den ∣ d) × (((end m.0).den ∣ d) × ((z (point_at s.bounds m.0)).den ∣ d))

  abbrev Serves : ℕ → Type 0
  Serves d = AllByRecursion (Binds d) r.bindings × (AllByRecursion (Ends (low_at s) d) r.lows × AllByRecursion (Ends (high_at s) d) r.highs)

  ends_common : (end : ℕ → Fraction) (m : ℕ × Ratio) → Common (λ d. Ends end d m)
  ends_common end m = common_both (common_den (fraction_of m.1)) (common_both (common_den (end m.0)) (common_den (z (point_at s.bounds m.0))))

  serving : (d : ℕ) × (0 < d) × Serves d
  serving = common_of (common_both
      (common_all Binds r.bindings (λ m. common_both (common_den (fraction_of m.1)) (common_all Weighs (equation_at s.equations m.0).entries (λ e. common_both (common_den (fraction_of e.weight)) (common_den (z e.point))))))
      (common_both (common_all (Ends (low_at s)) r.lows (ends_common (low_at s))) (common_all (Ends (high_at s)) r.highs (ends_common (high_at s)))))

  module _ (d : ℕ) (p : 0 < d) (serves : Serves d) where
    abbrev whole_of : Whole
    whole_of = record {
      n = s.points;
      d = d;
      rows = λ i. entries_scaled d (equation_at s.equations i).entries;
      of = point_at s.bounds;
      low = λ k. up d (low_at s k);
      high = λ k. up d (high_at s k);
      low_opens = is_low_open s;
      high_opens = is_high_open s;
      bindings = scaled d r.bindings;
      lows = scaled d r.lows;
      highs = scaled d r.highs;
    }

    -- the factors and the ends are over d
    rows_weighed : (es : List Entry) → AllByRecursion (Weighs d) es → SameNumber (sum_over_entries es z) (ratio (total (entries_scaled d es) (λ k. up d (z k))) (d * d) (mul-pos p p))
    rows_weighed es a = weighed_stands d d p p es z (λ k. up d (z k)) (all_alike (Weighs d) _ es (λ e h. (h.0, up_stands d p (z e.point) h.1)) a)

    units_weighed : (j : ℕ) (es : List Entry) → AllByRecursion (Weighs d) es → SameNumber (sum_over_entries es (unit_at j)) (ratio (total (entries_scaled d es) (one_at j)) (d * 1) (mul-pos p one_positive))
    units_weighed j es a = weighed_stands d 1 p one_positive es (unit_at j) (one_at j) (all_alike (Weighs d) _ es (λ e h. (h.0, unit_stands j e.point)) a)

    units_bound : (j : ℕ) → SameNumber (listed.total r.bindings (λ i. sum_over_entries (equation_at s.equations i).entries (unit_at j))) (ratio (total (scaled d r.bindings) (λ i. total (entries_scaled d (equation_at s.equations i).entries) (one_at j))) (d * (d * 1)) (mul-pos p (mul-pos p one_positive)))
    units_bound j = total_stands d (d * 1) p (mul-pos p one_positive) r.bindings _ _ (all_alike (Binds d) _ r.bindings (λ m h. (h.0, units_weighed j (equation_at s.equations m.0).entries h.1)) serves.0)

    units_ended : (end : ℕ → Fraction) (ms : List (ℕ × Ratio)) (j : ℕ) → AllByRecursion (Ends end d) ms → SameNumber (listed.total ms (λ k. unit_at j (point_at s.bounds k))) (ratio (total (scaled d ms) (λ k. one_at j (point_at s.bounds k))) (d * 1) (mul-pos p one_positive))
    units_ended end ms j a = total_stands d 1 p one_positive ms _ _ (all_alike (Ends end d) _ ms (λ m h. (h.0, unit_stands j (point_at s.bounds m.0))) a)

    ends_ended : (end : ℕ → Fraction) (ms : List (ℕ × Ratio)) → AllByRecursion (Ends end d) ms → SameNumber (listed.total ms end) (ratio (total (scaled d ms) (λ k. up d (end k))) (d * d) (mul-pos p p))
    ends_ended end ms a = total_stands d d p p ms end (λ k. up d (end k)) (all_alike (Ends end d) _ ms (λ m h. (h.0, up_stands d p (end m.0) h.1.0)) a)

    counted : (j : ℕ) → IsZero (coefficient s r j) → counts whole_of j ≡ pos 0
    counted j h =
        let lows = units_ended (low_at s) r.lows j serves.1.0 in
        let highs = units_ended (high_at s) r.highs j serves.1.1 in
        let apart = more_stands _ _ d (d * 1) p (mul-pos p one_positive) (difference_stands _ _ _ _ (d * 1) (mul-pos p one_positive) lows highs) in
        zero_stands (coefficient s r j) _ (d * (d * 1)) (mul-pos p (mul-pos p one_positive)) (sum_stands _ _ _ _ (d * (d * 1)) (mul-pos p (mul-pos p one_positive)) (units_bound j) apart) h

    -- what is left when the low ends are taken from the high ones
    abbrev tops : ℤ
    tops = total (scaled d r.highs) (λ k. up d (high_at s k))

    abbrev bottoms : ℤ
    bottoms = total (scaled d r.lows) (λ k. up d (low_at s k))

    constant_stands : SameNumber (constant s r) (ratio (tops +ℤ neg_ℤ bottoms) (d * d) (mul-pos p p))
    constant_stands = difference_stands _ _ _ _ (d * d) (mul-pos p p) (ends_ended (high_at s) r.highs serves.1.1) (ends_ended (low_at s) r.lows serves.1.0)

    abbrev opens : Bool
    opens = list_any (λ t. is_low_open s t.0) (scaled d r.lows) || list_any (λ t. is_high_open s t.0) (scaled d r.highs)

    opened : IsTrue (lists_open s r) → IsTrue opens
    opened h = subst IsTrue (sym (ap₂ ◌||◌ (any_map (λ t. is_low_open s t.0) (λ m. (m.0, up d (fraction_of m.1))) r.lows) (any_map (λ t. is_high_open s t.0) (λ m. (m.0, up d (fraction_of m.1))) r.highs))) h

    less_left : (a b : ℤ) → (a +ℤ neg_ℤ b) <ℤ pos 0 → (a -ℤ b) <ℤ pos 0
    less_left a b h = omega (arith, ints)

    none_left : (a b : ℤ) → a +ℤ neg_ℤ b ≡ pos 0 → a -ℤ b ≡ pos 0
    none_left a b h = omega (arith, ints)

    falls_short : listed.IsShort s r → ((tops -ℤ bottoms) <ℤ pos 0) ⊎ ((tops -ℤ bottoms ≡ pos 0) × IsTrue opens)
    falls_short (inl h) = inl (less_left tops bottoms (negative_stands (constant s r) _ (d * d) (mul-pos p p) constant_stands h))
    falls_short (inr h) = inr (none_left tops bottoms (zero_stands (constant s r) _ (d * d) (mul-pos p p) constant_stands h.0), opened h.1)

    named : IsSystem s → (m : ℕ × Ratio) → m.0 < length s.equations → AllByRecursion (λ e. e.0 < s.points) (entries_scaled d (equation_at s.equations m.0).entries)
    named ok m h = all_map (λ e. e.0 < s.points) (λ e. (e.point, up d (fraction_of e.weight))) (equation_at s.equations m.0).entries (recursion_from_All (λ entry. entry.point < s.points) (equation_at s.equations m.0).entries (ok.equations m.0 (record { entries = [] }) h))

    contradicts : IsSystem s → IsContradiction s r → Contradicts whole_of
    contradicts ok c = record {
      positive = p;
      bindings = all_map _ (λ m. (m.0, up d (fraction_of m.1))) r.bindings (all_alike (λ m. m.0 < length s.equations) _ r.bindings (named ok) (recursion_from_All (λ m. m.0 < length s.equations) r.bindings c.bindings));
      lows = all_map _ (λ m. (m.0, up d (fraction_of m.1))) r.lows (all_alike (λ m. IsKnown s m.0) _ r.lows (λ m h. point_known s m.0 ok h) (recursion_from_All (λ m. IsKnown s m.0) r.lows c.lows));
      highs = all_map _ (λ m. (m.0, up d (fraction_of m.1))) r.highs (all_alike (λ m. IsKnown s m.0) _ r.highs (λ m h. point_known s m.0 ok h) (recursion_from_All (λ m. IsKnown s m.0) r.highs c.highs));
      cancels = λ j h. counted j (c.cancels j h);
      short = falls_short c.short;
    }

    -- what the listed facts say of the numbers
    low_less : (k : ℕ) → IsKnown s k → AdmitsAt s z k → (low_at s k).den ∣ d → (z (point_at s.bounds k)).den ∣ d → IsLess (is_low_open s k) (up d (low_at s k)) (up d (z (point_at s.bounds k)))
    low_less k known admits below above = by (slice_get s.bounds k) known admits below above
      where
        inside : (g : Option (Interval Ratio)) (x : Fraction) → IsSomeAnd g (λ interval. Unit {0}) → IfSome g (λ interval. HasNumber (numbers_of interval) x)
            → (option_map_or (λ interval. fraction_of (value_of interval.low)) g (whole (pos 0))).den ∣ d → x.den ∣ d
            → IsLess (option_map_or (λ interval. is_open interval.low) g false) (up d (option_map_or (λ interval. fraction_of (value_of interval.low)) g (whole (pos 0)))) (up d x)
        inside None x known has below above = absurd known
        inside (Some g) x known has below above = past_ratio g.low x _ _ d p (up_stands d p (fraction_of (value_of g.low)) below) (up_stands d p x above) has.low

        by : (o : Option Bound) → IsSomeAnd (option_map_or (λ bound. bound.range) o None) (λ interval. Unit {0}) → ((bound : Bound) → o ≡ Some bound → MayAdmit bound (z bound.point))
            → (option_map_or (λ interval. fraction_of (value_of interval.low)) (option_map_or (λ bound. bound.range) o None) (whole (pos 0))).den ∣ d → (z (option_map_or (λ bound. bound.point) o 0)).den ∣ d
            → IsLess (option_map_or (λ interval. is_open interval.low) (option_map_or (λ bound. bound.range) o None) false) (up d (option_map_or (λ interval. fraction_of (value_of interval.low)) (option_map_or (λ bound. bound.range) o None) (whole (pos 0)))) (up d (z (option_map_or (λ bound. bound.point) o 0)))
        by None known admits below above = absurd known
        by (Some bound) known admits below above = inside bound.range (z bound.point) known (admits bound refl) below above

    high_less : (k : ℕ) → IsKnown s k → AdmitsAt s z k → (high_at s k).den ∣ d → (z (point_at s.bounds k)).den ∣ d → IsLess (is_high_open s k) (up d (z (point_at s.bounds k))) (up d (high_at s k))
    high_less k known admits below above = by (slice_get s.bounds k) known admits below above
      where
        inside : (g : Option (Interval Ratio)) (x : Fraction) → IsSomeAnd g (λ interval. Unit {0}) → IfSome g (λ interval. HasNumber (numbers_of interval) x)
            → (option_map_or (λ interval. fraction_of (value_of interval.high)) g (whole (pos 0))).den ∣ d → x.den ∣ d
            → IsLess (option_map_or (λ interval. is_open interval.high) g false) (up d x) (up d (option_map_or (λ interval. fraction_of (value_of interval.high)) g (whole (pos 0))))
        inside None x known has below above = absurd known
        inside (Some g) x known has below above = before_ratio g.high x _ _ d p (up_stands d p (fraction_of (value_of g.high)) below) (up_stands d p x above) has.high

        by : (o : Option Bound) → IsSomeAnd (option_map_or (λ bound. bound.range) o None) (λ interval. Unit {0}) → ((bound : Bound) → o ≡ Some bound → MayAdmit bound (z bound.point))
            → (option_map_or (λ interval. fraction_of (value_of interval.high)) (option_map_or (λ bound. bound.range) o None) (whole (pos 0))).den ∣ d → (z (option_map_or (λ bound. bound.point) o 0)).den ∣ d
            → IsLess (option_map_or (λ interval. is_open interval.high) (option_map_or (λ bound. bound.range) o None) false) (up d (z (option_map_or (λ bound. bound.point) o 0))) (up d (option_map_or (λ interval. fraction_of (value_of interval.high)) (option_map_or (λ bound. bound.range) o None) (whole (pos 0))))
        by None known admits below above = absurd known
        by (Some bound) known admits below above = inside bound.range (z bound.point) known (admits bound refl) below above

    -- what is known of a listed end
    abbrev Counts : (ℕ → Fraction) → ℕ × Ratio → Type 0
    Counts end m = ((pos 0 <ℤ m.1.num) × IsKnown s m.0) × (AdmitsAt s z m.0 × Ends end d m)

    known_ends : (end : ℕ → Fraction) (ms : List (ℕ × Ratio)) → All (λ m. pos 0 <ℤ m.1.num) ms → All (λ m. IsKnown s m.0) ms → All (λ m. AdmitsAt s z m.0) ms → AllByRecursion (Ends end d) ms → AllByRecursion (Counts end) ms
    known_ends end ms positive known admits over =
        all_both (λ m. (pos 0 <ℤ m.1.num) × IsKnown s m.0) (λ m. AdmitsAt s z m.0 × Ends end d m) ms
        (all_both (λ m. pos 0 <ℤ m.1.num) (λ m. IsKnown s m.0) ms (recursion_from_All (λ m. pos 0 <ℤ m.1.num) ms positive) (recursion_from_All (λ m. IsKnown s m.0) ms known))
        (all_both (λ m. AdmitsAt s z m.0) (Ends end d) ms (recursion_from_All (λ m. AdmitsAt s z m.0) ms admits) over)

    grows : (m : ℕ × Ratio) → pos 0 <ℤ m.1.num → (fraction_of m.1).den ∣ d → pos 0 <ℤ up d (fraction_of m.1)
    grows m positive divides = positive_stands (fraction_of m.1) (up d (fraction_of m.1)) d p (up_stands d p (fraction_of m.1) divides) positive

    meets : IsContradiction s r → Passes s r z → Meets whole_of (λ k. up d (z k))
    meets c h = record {
      bindings = all_map _ (λ m. (m.0, up d (fraction_of m.1))) r.bindings (all_alike (λ m. Holds (equation_at s.equations m.0) z × Binds d m) _ r.bindings
          (λ m w. zero_stands (sum_over_entries (equation_at s.equations m.0).entries z) _ (d * d) (mul-pos p p) (rows_weighed (equation_at s.equations m.0).entries w.1.1) w.0)
          (all_both (λ m. Holds (equation_at s.equations m.0) z) (Binds d) r.bindings (recursion_from_All (λ m. Holds (equation_at s.equations m.0) z) r.bindings h.bindings) serves.0));
      lows = all_map _ (λ m. (m.0, up d (fraction_of m.1))) r.lows (all_alike (Counts (low_at s)) _ r.lows
          (λ m w. (grows m w.0.0 w.1.1.0, low_less m.0 w.0.1 w.1.0 w.1.1.1.0 w.1.1.1.1))
          (known_ends (low_at s) r.lows c.kept.lows_positive c.lows h.lows serves.1.0));
      highs = all_map _ (λ m. (m.0, up d (fraction_of m.1))) r.highs (all_alike (Counts (high_at s)) _ r.highs
          (λ m w. (grows m w.0.0 w.1.1.0, high_less m.0 w.0.1 w.1.0 w.1.1.1.0 w.1.1.1.1))
          (known_ends (high_at s) r.highs c.kept.highs_positive c.highs h.highs serves.1.1));
    }

pub excludes_passing : ExcludesPassing
excludes_passing s r z ok c h =
    let d = serving s r z in
    excluded (whole_of s r z d.0 d.1 d.2) (λ k. up d.0 (z k)) (contradicts s r z d.0 d.1 d.2 ok c) (meets s r z d.0 d.1 d.2 c h)

-- what may solve the system passes what is listed
pub excludes_solutions : ExcludesSolutions
excludes_solutions s r z ok c h = excludes_passing s r z ok c (record {
  lows = λ k d l. h.admitted _;
  highs = λ k d l. h.admitted _;
  bindings = λ k d l. h.met _ _ (slice_get-get_or s.equations _ (record { entries = [] }) (c.bindings k d l));
})

admits_may : (bound : Bound) (x : Fraction) → Admits bound x → MayAdmit bound x
admits_may bound x h = by bound.range h
  where
    by : (o : Option (Interval Ratio)) → IsSomeAnd o (λ interval. HasNumber (numbers_of interval) x) → IfSome o (λ interval. HasNumber (numbers_of interval) x)
    by None h = absurd h
    by (Some interval) h = h

pub solving_may_solve : SolvingMaySolve
solving_may_solve s z h = record { admitted = λ k bound e. admits_may bound (z bound.point) (h.admitted k bound e); met = h.met }
