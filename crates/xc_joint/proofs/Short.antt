-- The constant of the refutation of a narrow forest falls short of 0.
use Rattle.std.proofs.Common.{◌≡◌, ℕ, zero, suc, ◌+◌, ◌*◌, ◌/◌, ◌<◌, ◌≤◌, ◌||◌, ◌⊎◌, Bool, true, false, Option, Some, None, List, [], ◌∷◌, length, map, get_or, ℤ, pos, negsuc, neg_ℤ, ◌+ℤ◌, ◌-ℤ◌, ◌*ℤ◌, inl, inr, refl, sym, ap, subst, ◌∙◌, arith}
use Rattle.std.specs.List.{list_any}
use Rattle.std.specs.List.Sorted.{IsPermutation}
use Rattle.std.specs.Option.{option_map_or}
use Rattle.std.specs.Prelude.{sum_by, slice_get, if◌then◌else◌}
use Rattle.std.proofs.Math.Nat.{mul-pos, one-dvd}
use Rattle.std.proofs.lemmas.Int.{ints}
use Rattle.std.proofs.lemmas.List.{length-map}
use Rattle.std.proofs.lemmas.List.Sorted.{sum_by-IsPermutation}
use Rattle.std.proofs.lemmas.Nat.Gcd.{dvd_trans}
use Rattle.std.proofs.lemmas.Option.{slice_get_cases}
use Prim.Native.Nat.{◌∣◌}
use native.Mathlib.Nat.{dvd-mul_left, dvd-mul_right, mul-div_cancel'}
use Rattle.xc_forest.specs.Forests.{sum_below, parts_below, multiplier_at, named_end, range_at as span_at}
use Rattle.xc_forest.specs.Laws.{SumsAreOver}
use Rattle.xc_interval.specs.Ends.{is_open, value_of}
use Rattle.xc_interval.specs.declared.interval.Interval.{Interval}
use Rattle.xc_joint.specs.Small.{closed_pairs, low_pair, high_pair}
use Rattle.xc_joint.specs.Steps.Multiplied.{named_high_facts, named_low_facts, IsContradicted, IsListed, IsMadeOf}
use Rattle.xc_joint.specs.Lists.{AreEach}
use Rattle.xc_joint.specs.Steps.OneForest.{IsRangeOf}
use Rattle.xc_joint.specs.declared.one_forest.Span.{Span}
use Rattle.xc_joint.proofs.Between.{same_over}
use Rattle.xc_joint.proofs.Disjoint.{more_sum}
use Rattle.xc_joint.proofs.Evaluated.{difference_over, number_below}
use Rattle.xc_joint.proofs.PartValues.{signed_product}
use Rattle.xc_model.specs.Fraction.{Fraction, IsNumberOver, neg_of, product_of, whole}
use Rattle.xc_model.specs.Parts.{Parts, WholeParts, ArePartsOver}
use Rattle.xc_model.specs.Ratio.{Ratio, fraction_of}
use Rattle.xc_model.proofs.Integers.{neg-mul, ring}
use Rattle.xc_model.proofs.NumbersOver.{below_number, equal_number, number_over-same, sum_number, zero_over}
use Rattle.xc_system.specs.Kept.{Multipliers}
use Rattle.xc_system.specs.Refutations.{constant, high_at, is_high_open, is_low_open, low_at, total, IsShort}
use Rattle.xc_system.specs.Systems.{Constraints, range_at}
use Rattle.xc_system.specs.declared.types.Bound.{Bound}
use Rattle.xc_system.specs.declared.types.Component.{Component}

-- ---- a denominator for the ends of all facts

abbrev product_below : ℕ → (ℕ → ℕ) → ℕ
product_below zero f = 1
product_below (suc n) f = product_below n f * f n

product_positive : (n : ℕ) (f : ℕ → ℕ) → ((k : ℕ) → 0 < f k) → 0 < product_below n f
product_positive zero f h = omega arith
product_positive (suc n) f h = mul-pos (product_positive n f h) (h n)

product_divided : (n : ℕ) (f : ℕ → ℕ) (k : ℕ) → k < n → f k ∣ product_below n f
product_divided zero f k l = absurd (omega (arith, l))
product_divided (suc n) f k l = go (order_of k n (omega (arith, l))) (λ m. product_divided n f k m)
  where
    order_of : (k n : ℕ) → k ≤ n → (k < n) ⊎ (k ≡ n)
    order_of zero zero l = inr refl
    order_of zero (suc n) l = inl (omega arith)
    order_of (suc k) zero l = absurd (omega (arith, l))
    order_of (suc k) (suc n) l = elim (order_of k n (omega (arith, l))) [ inl a ↦ inl (omega (arith, a)) | inr b ↦ inr (ap suc b) ]

    go : (k < n) ⊎ (k ≡ n) → (k < n → f k ∣ product_below n f) → f k ∣ product_below (suc n) f
    go (inl m) less = dvd_trans (f k) (less m) (dvd-mul_right (product_below n f) (f n))
    go (inr e) less = subst (λ j. f j ∣ product_below (suc n) f) (sym e) (dvd-mul_left (f n) (product_below n f))

module _ (s : Constraints) where
  abbrev dens : ℕ → ℕ
  dens k = (low_at s k).den * (high_at s k).den

  abbrev common : ℕ
  common = product_below (length s.bounds) dens

  dens_positive : (k : ℕ) → 0 < dens k
  dens_positive k = mul-pos (low_at s k).positive (high_at s k).positive

  common_positive : 0 < common
  common_positive = product_positive (length s.bounds) dens dens_positive

  divided : (k : ℕ) → ((low_at s k).den ∣ common) × ((high_at s k).den ∣ common)
  divided k = go (slice_get_cases s.bounds k).1
    where
      unknown : slice_get s.bounds k ≡ None → range_at s.bounds k ≡ None
      unknown none = ap (λ (o : Option Bound). option_map_or (λ bound. bound.range) o None) none

      go : ((b : Bound) × (k < length s.bounds) × (slice_get s.bounds k ≡ Some b) × (get_or s.bounds k b ≡ b)) ⊎ ((length s.bounds ≤ k) × (slice_get s.bounds k ≡ None)) → ((low_at s k).den ∣ common) × ((high_at s k).den ∣ common)
      go (inl (b, l, found, at)) =
          let d = product_divided (length s.bounds) dens k l in
          (dvd_trans (low_at s k).den (dvd-mul_right (low_at s k).den (high_at s k).den) d, dvd_trans (high_at s k).den (dvd-mul_left (high_at s k).den (low_at s k).den) d)
      go (inr (past, none)) =
          let low : (low_at s k).den ≡ 1 = ap (λ (o : Option (Interval Ratio)). (option_map_or (λ interval. fraction_of (value_of interval.low)) o (whole (pos 0))).den) (unknown none) in
          let high : (high_at s k).den ≡ 1 = ap (λ (o : Option (Interval Ratio)). (option_map_or (λ interval. fraction_of (value_of interval.high)) o (whole (pos 0))).den) (unknown none) in
          (subst (λ n. n ∣ common) (sym low) (one-dvd common), subst (λ n. n ∣ common) (sym high) (one-dvd common))

-- ---- numbers over a multiple of their denominator

abbrev times : ℕ → Fraction → ℤ
times d x = x.num *ℤ pos (d / x.den)

over_times : (d : ℕ) (x : Fraction) → 0 < d → x.den ∣ d → IsNumberOver x (times d x) d
over_times d x p h =
    let d_is : x.den * (d / x.den) ≡ d = mul-div_cancel' x.den h in
    let both : pos x.den *ℤ pos (d / x.den) ≡ pos d = ap (λ (z : ℕ). pos z) d_is in
    let turned : x.num *ℤ (pos x.den *ℤ pos (d / x.den)) ≡ (x.num *ℤ pos (d / x.den)) *ℤ pos x.den = simp ring in
    record { positive = p; cross = ap (λ (z : ℤ). x.num *ℤ z) (sym both) ∙ turned }

-- a whole number as a difference of two natural ones
up : ℤ → ℕ
up (pos n) = n
up (negsuc n) = 0

down : ℤ → ℕ
down (pos n) = 0
down (negsuc n) = suc n

up_down : (z : ℤ) → z ≡ pos (up z) -ℤ pos (down z)
unfolding up down
up_down (pos n) = omega (arith, ints)
up_down (negsuc n) = omega (arith, ints)

-- the sum of whole numbers over a list, in which order matters not
abbrev sum_of_list : (ℕ → ℤ) → List ℕ → ℤ
sum_of_list f ks = pos (sum_by (λ k. up (f k)) ks) -ℤ pos (sum_by (λ k. down (f k)) ks)

next_sum : (f : ℕ → ℤ) (k : ℕ) (ks : List ℕ) → sum_of_list f (k ∷ ks) ≡ f k +ℤ sum_of_list f ks
next_sum f k ks = let a = more_sum (λ k. up (f k)) k ks in let b = more_sum (λ k. down (f k)) k ks in let c = up_down (f k) in omega (arith, ints, a, b, c)

same_list : (f : ℕ → ℤ) (ks ls : List ℕ) → IsPermutation ks ls → sum_of_list f ls ≡ sum_of_list f ks
same_list f ks ls h = let a = sum_by-IsPermutation (λ k. up (f k)) ks ls h in let b = sum_by-IsPermutation (λ k. down (f k)) ks ls h in omega (arith, ints, a, b)

-- what is listed with 1, over d
listed_over : (d : ℕ) (f : ℕ → ℤ) (of : ℕ → Fraction) → 0 < d → ((k : ℕ) → IsNumberOver (of k) (f k) d) → (facts : List ℕ) (ms : List (ℕ × Ratio)) → AreEach IsListed facts ms → IsNumberOver (total ms of) (sum_of_list f facts) d
listed_over d f of p h [] [] each = zero_over (whole (pos 0)) d p (record { cross = refl })
listed_over d f of p h [] (m ∷ ms) each = absurd each
listed_over d f of p h (k ∷ ks) [] each = absurd each
listed_over d f of p h (k ∷ ks) (m ∷ ms) each =
    let here : IsNumberOver (of m.0) (f k) d = subst (λ (j : ℕ). IsNumberOver (of j) (f k) d) (sym each.0.0) (h k) in
    let product : IsNumberOver (product_of (fraction_of m.1) (of m.0)) (f k) d = number_over-same (of m.0) (product_of (fraction_of m.1) (of m.0)) (f k) d (signed_product false m.1 (of m.0) each.0.1) here in
    let rest = listed_over d f of p h ks ms each.1 in
    subst (λ z. IsNumberOver (total (m ∷ ms) of) z d) (sym (next_sum f k ks)) (sum_number (product_of (fraction_of m.1) (of m.0)) (total ms of) (f k) (sum_of_list f ks) d product rest)

first_below : (n : ℕ) (f : ℕ → ℤ) → sum_below (suc n) f ≡ f 0 +ℤ sum_below n (λ j. f (suc j))
first_below zero f = omega (arith, ints)
first_below (suc n) f = let i = first_below n f in omega (arith, ints, i)

-- ---- what the multipliers name

by_one : (d : ℕ) → d / 1 ≡ d
by_one d = let e : 1 * (d / 1) ≡ d = mul-div_cancel' 1 (one-dvd d) in omega (arith, e)

no_times : (d : ℕ) → times d (whole (pos 0)) ≡ pos 0
no_times d = omega (arith, ints)

low_times : (d : ℕ) (b : Bool) → times d (if b then whole (pos 1) else whole (pos 0)) ≡ pos (if b then d else 0)
low_times d false = no_times d
low_times d true = let e = by_one d in omega (arith, ints, e)

high_times : (d : ℕ) (b : Bool) → times d (neg_of (if b then whole (negsuc 0) else whole (pos 0))) ≡ pos (if b then d else 0)
high_times d false = no_times d
high_times d true = let e = by_one d in omega (arith, ints, e)

tiny_divides : (d : ℕ) (b : Bool) (z : ℤ) → (if b then whole z else whole (pos 0)).den ∣ d
tiny_divides d false z = one-dvd d
tiny_divides d true z = one-dvd d

module _ (s : Constraints) where
  abbrev D : ℕ
  D = common s

  abbrev L : ℕ → ℤ
  L k = times D (low_at s k)

  abbrev H : ℕ → ℤ
  H k = times D (high_at s k)

  abbrev low_opens : ℕ → ℕ
  low_opens k = if is_low_open s k then D else 0

  abbrev high_opens : ℕ → ℕ
  high_opens k = if is_high_open s k then D else 0

  abbrev named : List (Interval Ratio) → List ℤ → ℕ → Parts
  named ranges ends j = named_end (multiplier_at ends j) (span_at (map closed_pairs ranges) j)

  low_value : (x : Span) (r : Interval Ratio) → IsRangeOf s x r → fraction_of (value_of r.low) ≡ low_at s x.low
  low_value x r h = ap (λ e. fraction_of (value_of e)) h.low_is ∙ sym (ap (λ o. option_map_or (λ interval. fraction_of (value_of interval.low)) o (whole (pos 0))) h.low_known)

  high_value : (x : Span) (r : Interval Ratio) → IsRangeOf s x r → fraction_of (value_of r.high) ≡ high_at s x.high
  high_value x r h = ap (λ e. fraction_of (value_of e)) h.high_is ∙ sym (ap (λ o. option_map_or (λ interval. fraction_of (value_of interval.high)) o (whole (pos 0))) h.high_known)

  low_open : (x : Span) (r : Interval Ratio) → IsRangeOf s x r → is_open r.low ≡ is_low_open s x.low
  low_open x r h = ap (λ e. is_open e) h.low_is ∙ sym (ap (λ o. option_map_or (λ interval. is_open interval.low) o false) h.low_known)

  high_open : (x : Span) (r : Interval Ratio) → IsRangeOf s x r → is_open r.high ≡ is_high_open s x.high
  high_open x r h = ap (λ e. is_open e) h.high_is ∙ sym (ap (λ o. option_map_or (λ interval. is_open interval.high) o false) h.high_known)

  real_named : (spans : List Span) (ranges : List (Interval Ratio)) (ends : List ℤ) → AreEach (IsRangeOf s) spans ranges → length ends ≡ length ranges → sum_below (length (map closed_pairs ranges)) (λ j. times D (named ranges ends j).real) ≡ sum_of_list L (named_low_facts spans ends) -ℤ sum_of_list H (named_high_facts spans ends)
  real_named [] [] [] h l = refl
  real_named [] [] (e ∷ ends) h l = absurd (omega (arith, l))
  real_named [] (r ∷ ranges) ends h l = absurd h
  real_named (x ∷ spans) [] ends h l = absurd h
  real_named (x ∷ spans) (r ∷ ranges) [] h l = absurd (omega (arith, l))
  real_named (x ∷ spans) (r ∷ ranges) (pos zero ∷ ends) h l =
      let i = real_named spans ranges ends h.1 (omega (arith, l)) in
      let f = first_below (length (map closed_pairs ranges)) (λ j. times D (named (r ∷ ranges) (pos zero ∷ ends) j).real) in
      let k = no_times D in
      omega (arith, ints, i, f, k)
  real_named (x ∷ spans) (r ∷ ranges) (pos (suc n) ∷ ends) h l =
      let i = real_named spans ranges ends h.1 (omega (arith, l)) in
      let f = first_below (length (map closed_pairs ranges)) (λ j. times D (named (r ∷ ranges) (pos (suc n) ∷ ends) j).real) in
      let k : times D (fraction_of (value_of r.low)) ≡ L x.low = ap (times D) (low_value x r h.0) in
      let m = next_sum L x.low (named_low_facts spans ends) in
      omega (arith, ints, i, f, k, m)
  real_named (x ∷ spans) (r ∷ ranges) (negsuc n ∷ ends) h l =
      let i = real_named spans ranges ends h.1 (omega (arith, l)) in
      let f = first_below (length (map closed_pairs ranges)) (λ j. times D (named (r ∷ ranges) (negsuc n ∷ ends) j).real) in
      let k : times D (neg_of (fraction_of (value_of r.high))) ≡ neg_ℤ (H x.high) = neg-mul (fraction_of (value_of r.high)).num (pos (D / (fraction_of (value_of r.high)).den)) ∙ ap (λ y. neg_ℤ (times D y)) (high_value x r h.0) in
      let m = next_sum H x.high (named_high_facts spans ends) in
      omega (arith, ints, i, f, k, m)

  tiny_named : (spans : List Span) (ranges : List (Interval Ratio)) (ends : List ℤ) → AreEach (IsRangeOf s) spans ranges → length ends ≡ length ranges → sum_below (length (map closed_pairs ranges)) (λ j. times D (named ranges ends j).tiny) ≡ pos (sum_by low_opens (named_low_facts spans ends) + sum_by high_opens (named_high_facts spans ends))
  tiny_named [] [] [] h l = refl
  tiny_named [] [] (e ∷ ends) h l = absurd (omega (arith, l))
  tiny_named [] (r ∷ ranges) ends h l = absurd h
  tiny_named (x ∷ spans) [] ends h l = absurd h
  tiny_named (x ∷ spans) (r ∷ ranges) [] h l = absurd (omega (arith, l))
  tiny_named (x ∷ spans) (r ∷ ranges) (pos zero ∷ ends) h l =
      let i = tiny_named spans ranges ends h.1 (omega (arith, l)) in
      let f = first_below (length (map closed_pairs ranges)) (λ j. times D (named (r ∷ ranges) (pos zero ∷ ends) j).tiny) in
      let k = no_times D in
      omega (arith, ints, i, f, k)
  tiny_named (x ∷ spans) (r ∷ ranges) (pos (suc n) ∷ ends) h l =
      let i = tiny_named spans ranges ends h.1 (omega (arith, l)) in
      let f = first_below (length (map closed_pairs ranges)) (λ j. times D (named (r ∷ ranges) (pos (suc n) ∷ ends) j).tiny) in
      let k : times D (low_pair r.low).tiny ≡ pos (low_opens x.low) = low_times D (is_open r.low) ∙ ap (λ b. pos (if b then D else 0)) (low_open x r h.0) in
      let m = more_sum low_opens x.low (named_low_facts spans ends) in
      omega (arith, ints, i, f, k, m)
  tiny_named (x ∷ spans) (r ∷ ranges) (negsuc n ∷ ends) h l =
      let i = tiny_named spans ranges ends h.1 (omega (arith, l)) in
      let f = first_below (length (map closed_pairs ranges)) (λ j. times D (named (r ∷ ranges) (negsuc n ∷ ends) j).tiny) in
      let k : times D (neg_of (high_pair r.high).tiny) ≡ pos (high_opens x.high) = high_times D (is_open r.high) ∙ ap (λ b. pos (if b then D else 0)) (high_open x r h.0) in
      let m = more_sum high_opens x.high (named_high_facts spans ends) in
      omega (arith, ints, i, f, k, m)

  abbrev scaled : Parts → WholeParts
  scaled x = record { real = times D x.real; tiny = times D x.tiny }

  named_over : (spans : List Span) (ranges : List (Interval Ratio)) (ends : List ℤ) → AreEach (IsRangeOf s) spans ranges → length ends ≡ length ranges → (j : ℕ) → j < length (map closed_pairs ranges) → ArePartsOver (named ranges ends j) (scaled (named ranges ends j)) D
  named_over [] [] ends h l j m = absurd (omega (arith, m))
  named_over [] (r ∷ ranges) ends h l j m = absurd h
  named_over (x ∷ spans) [] ends h l j m = absurd h
  named_over (x ∷ spans) (r ∷ ranges) [] h l j m = absurd (omega (arith, l))
  named_over (x ∷ spans) (r ∷ ranges) (e ∷ ends) h l (suc j) m = named_over spans ranges ends h.1 (omega (arith, l)) j (omega (arith, m))
  named_over (x ∷ spans) (r ∷ ranges) (pos zero ∷ ends) h l zero m = record { real = over_times D (whole (pos 0)) (common_positive s) (one-dvd D); tiny = over_times D (whole (pos 0)) (common_positive s) (one-dvd D) }
  named_over (x ∷ spans) (r ∷ ranges) (pos (suc n) ∷ ends) h l zero m = record {
    real = over_times D (fraction_of (value_of r.low)) (common_positive s) (subst (λ y. y.den ∣ D) (sym (low_value x r h.0)) (divided s x.low).0);
    tiny = over_times D (low_pair r.low).tiny (common_positive s) (tiny_divides D (is_open r.low) (pos 1));
  }
  named_over (x ∷ spans) (r ∷ ranges) (negsuc n ∷ ends) h l zero m = record {
    real = over_times D (neg_of (fraction_of (value_of r.high))) (common_positive s) (subst (λ y. y.den ∣ D) (sym (high_value x r h.0)) (divided s x.high).1);
    tiny = over_times D (neg_of (high_pair r.high).tiny) (common_positive s) (tiny_divides D (is_open r.high) (negsuc 0));
  }

  -- where some count, one is open
  some_open : (p : ℕ → Bool) (facts : List ℕ) (ms : List (ℕ × Ratio)) → AreEach IsListed facts ms → 0 < sum_by (λ k. if p k then D else 0) facts → list_any (λ m. p m.0) ms ≡ true
  some_open p [] [] each l = absurd (omega (arith, l))
  some_open p [] (m ∷ ms) each l = absurd each
  some_open p (k ∷ ks) [] each l = absurd each
  some_open p (k ∷ ks) (m ∷ ms) each l = ap (λ j. p j || list_any (λ n. p n.0) ms) each.0.0 ∙ go (p k) refl (λ some. some_open p ks ms each.1 some)
    where
      go : (b : Bool) → p k ≡ b → (0 < sum_by (λ j. if p j then D else 0) ks → list_any (λ n. p n.0) ms ≡ true) → p k || list_any (λ n. p n.0) ms ≡ true
      go true e rest = ap (λ t. t || list_any (λ n. p n.0) ms) e
      go false e rest =
          let step = more_sum (λ j. if p j then D else 0) k ks in
          let none : (if p k then D else 0) ≡ 0 = ap (λ t. if t then D else 0) e in
          ap (λ t. t || list_any (λ n. p n.0) ms) e ∙ rest (omega (arith, l, step, none))

or_right : (a b : Bool) → b ≡ true → a || b ≡ true
or_right false b e = e
or_right true b e = refl

or_left : (a b : Bool) → a ≡ true → a || b ≡ true
or_left a b e = ap (λ t. t || b) e

one_of : (a b : ℕ) → 0 < a + b → (0 < a) ⊎ (0 < b)
one_of zero b l = inr (omega (arith, l))
one_of (suc a) b l = inl (omega arith)

pub is_short : SumsAreOver → (s : Constraints) (c : Component) (spans : List Span) (by ends : List ℤ) (r : Multipliers) → IsContradicted s c spans by ends → IsMadeOf c spans by ends r → IsShort s r
is_short sums_over s c spans by ends r h m =
    let d = common s in
    let p = common_positive s in
    let low_over = listed_over d (L s) (low_at s) p (λ k. over_times d (low_at s k) p (divided s k).0) m.lows r.lows m.lows_listed in
    let high_over = listed_over d (H s) (high_at s) p (λ k. over_times d (high_at s k) p (divided s k).1) m.highs r.highs m.highs_listed in
    let made = difference_over (total r.highs (high_at s)) (total r.lows (low_at s)) (sum_of_list (H s) m.highs) (sum_of_list (L s) m.lows) d high_over low_over in
    let none = zero_over (whole (pos 0)) d p (record { cross = refl }) in
    let many : length ends ≡ length h.ranges = h.contradicts.each_end ∙ length-map h.ranges closed_pairs in
    let sums = sums_over (length (map closed_pairs h.ranges)) (named s h.ranges ends) (λ j. scaled s (named s h.ranges ends j)) d p (named_over s spans h.ranges ends h.ranges_are many) in
    let real = real_named s spans h.ranges ends h.ranges_are many in
    let tiny = tiny_named s spans h.ranges ends h.ranges_are many in
    let same_lows = same_list (L s) (named_low_facts spans ends) m.lows m.lows_are in
    let same_highs = same_list (H s) (named_high_facts spans ends) m.highs m.highs_are in
    let total_parts = parts_below (length (map closed_pairs h.ranges)) (named s h.ranges ends) in
    elim h.contradicts.positive [
      | inl less ↦
          let positive = below_number (whole (pos 0)) total_parts.real (pos 0) _ d none sums.real less in
          let below = number_below (constant s r) (whole (pos 0)) _ (pos 0) d made none (omega (arith, ints, positive, real, same_lows, same_highs)) in
          let k = below.cross in
          inl (omega (arith, ints, k))
      | inr (same, less) ↦
          let equal = equal_number (whole (pos 0)) total_parts.real (pos 0) _ d none sums.real same in
          let zero = same_over (constant s r) (whole (pos 0)) _ (pos 0) d made none (omega (arith, ints, equal, real, same_lows, same_highs)) in
          let k = zero.cross in
          let positive = below_number (whole (pos 0)) total_parts.tiny (pos 0) _ d none sums.tiny less in
          let low_count = sum_by-IsPermutation (low_opens s) (named_low_facts spans ends) m.lows m.lows_are in
          let high_count = sum_by-IsPermutation (high_opens s) (named_high_facts spans ends) m.highs m.highs_are in
          let some : 0 < sum_by (low_opens s) m.lows + sum_by (high_opens s) m.highs = omega (arith, ints, positive, tiny, low_count, high_count) in
          inr (
            omega (arith, ints, k),
            elim (one_of (sum_by (low_opens s) m.lows) (sum_by (high_opens s) m.highs) some) [
              | inl a ↦ or_left _ _ (some_open s (is_low_open s) m.lows r.lows m.lows_listed a)
              | inr b ↦ or_right _ _ (some_open s (is_high_open s) m.highs r.highs m.highs_listed b)
            ],
          )
    ]
