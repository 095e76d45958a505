-- The first of the tightest facts, and the first wide one.
use Rattle.std.proofs.Common.{◌≡◌, ℕ, ◌+◌, ◌<◌, Bool, true, false, cond, List, [], ◌∷◌, ◌++◌, length, map, take, get_or, Option, Some, None, is_some, ◌⊎◌, inl, inr, refl, sym, ap, subst, ◌∙◌, append_assoc, true≢false}
use Rattle.std.proofs.lemmas.List.{take_more}
use Rattle.std.specs.Prelude.{find, is_none, IsSome}
use Rattle.std.specs.List.{AllByRecursion}
use Rattle.xc_interval.specs.Intervals.{IsPast, IsBefore}
use Rattle.xc_interval.specs.Laws.{IsTightness}
use Rattle.xc_interval.specs.Ranges.{AllKnown, IsRangeOf}
use Rattle.xc_interval.specs.Tightest.{IsTighterLow, IsTighterHigh}
use Rattle.xc_interval.specs.declared.interval.Interval.{Interval}
use Rattle.xc_interval.specs.declared.range.Range.{Range}
use Rattle.xc_interval.specs.declared.range.Range.TheVariants as range
use Rattle.xc_model.specs.Fraction.{SameNumber, IsBelow}
use Rattle.xc_model.specs.Ratio.{Ratio}
use Rattle.xc_lists.specs.Members.{IsIn}
use Rattle.xc_system.specs.Spots.{AreTightest, HasTighter, IsFirstTightest, is_wide_fact, low_end, high_end}
use Rattle.xc_system.specs.Systems.{range_at}
use Rattle.xc_system.specs.declared.types.Bound.{Bound}
use Rattle.xc_system.specs.declared.types.Side.{Side}
use Rattle.xc_system.specs.declared.types.Side.TheVariants.{Low, High}

map_last : {X Y : Type 0} (f : X → Y) (xs : List X) (x : X) → map f (xs ++ x ∷ []) ≡ map f xs ++ f x ∷ []
map_last f [] x = refl
map_last f (y ∷ ys) x = ap (λ l. f y ∷ l) (map_last f ys x)

-- one more of a list, behind a first
pub one_more : (a : ℕ) (xs : List ℕ) (i : ℕ) → i < length xs → a ∷ take (i + 1) xs ≡ (a ∷ take i xs) ++ get_or xs i 0 ∷ []
one_more a xs i h = ap (λ (l : List ℕ). a ∷ l) (take_more xs i 0 h)

pub mapped_more : {Y : Type 0} (f : ℕ → Y) (a : ℕ) (xs : List ℕ) (i : ℕ) → i < length xs → map f (a ∷ take (i + 1) xs) ≡ map f (a ∷ take i xs) ++ f (get_or xs i 0) ∷ []
mapped_more f a xs i h = ap (map f) (one_more a xs i h) ∙ map_last f (a ∷ take i xs) (get_or xs i 0)

in_front : {X : Type 0} (x : X) (xs ys : List X) → IsIn x xs → IsIn x (xs ++ ys)
in_front x [] ys h = absurd h
in_front x (y ∷ xs) ys (inl e) = inl e
in_front x (y ∷ xs) ys (inr h) = inr (in_front x xs ys h)

in_either : {X : Type 0} (x : X) (xs ys : List X) → IsIn x (xs ++ ys) → IsIn x xs ⊎ IsIn x ys
in_either x [] ys h = inr h
in_either x (y ∷ xs) ys (inl e) = inl (inl e)
in_either x (y ∷ xs) ys (inr h) = elim (in_either x xs ys h) [ inl a ↦ inl (inr a) | inr b ↦ inr b ]

-- how facts go by tightness
pub record IsGraded (Tighter : ℕ → ℕ → Type 0) : Type 0 where
  pub asymmetric : (j k : ℕ) → Tighter j k → Tighter k j → ⊥
  pub either : (j k m : ℕ) → Tighter j m → Tighter j k ⊎ Tighter k m

pub graded : (side : Side) (bounds : List Bound) → IsTightness (IsTighterLow IsBelow SameNumber) (IsPast IsBelow SameNumber) → IsTightness (IsTighterHigh IsBelow SameNumber) (IsBefore IsBelow SameNumber) → IsGraded (HasTighter side bounds)
graded Low bounds low high = record { asymmetric = λ j k. low.asymmetric (low_end bounds j) (low_end bounds k); either = λ j k m. low.either (low_end bounds j) (low_end bounds k) (low_end bounds m) }
graded High bounds low high = record { asymmetric = λ j k. high.asymmetric (high_end bounds j) (high_end bounds k); either = λ j k m. high.either (high_end bounds j) (high_end bounds k) (high_end bounds m) }

pub first_alone : (Tighter : ℕ → ℕ → Type 0) (k : ℕ) → IsFirstTightest Tighter (k ∷ []) k
first_alone Tighter k = record { front = []; back = []; there = refl; before = λ j h. absurd h; behind = λ j h. absurd h }

-- with one more fact behind
pub first_more : (Tighter : ℕ → ℕ → Type 0) (facts : List ℕ) (k f new : ℕ) → IsGraded Tighter → ((new ≡ f) × Tighter f k) ⊎ ((new ≡ k) × (Tighter f k → ⊥)) → IsFirstTightest Tighter facts k → IsFirstTightest Tighter (facts ++ f ∷ []) new
first_more Tighter facts k f new g (inl (same, more)) h = subst (IsFirstTightest Tighter (facts ++ f ∷ [])) (sym same) (record { front = facts; back = []; there = refl; before = λ j i. all j (in_either j h.front (k ∷ h.back) (subst (IsIn j) h.there i)); behind = λ j i. absurd i })
  where
    less : (j : ℕ) → (Tighter j k → ⊥) → Tighter f j ⊎ Tighter j k → Tighter f j
    less j none (inl t) = t
    less j none (inr t) = absurd (none t)

    all : (j : ℕ) → (IsIn j h.front ⊎ ((j ≡ k) ⊎ IsIn j h.back)) → Tighter f j
    all j (inl i) = less j (λ t. g.asymmetric j k t (h.before j i)) (g.either f j k more)
    all j (inr (inl e)) = subst (Tighter f) (sym e) more
    all j (inr (inr i)) = less j (h.behind j i) (g.either f j k more)
first_more Tighter facts k f new g (inr (same, none)) h = subst (IsFirstTightest Tighter (facts ++ f ∷ [])) (sym same) (record { front = h.front; back = h.back ++ f ∷ []; there = ap (λ (l : List ℕ). l ++ f ∷ []) h.there ∙ append_assoc h.front (k ∷ h.back) (f ∷ []); before = h.before; behind = λ j i. all j (in_either j h.back (f ∷ []) i) })
  where
    all : (j : ℕ) → (IsIn j h.back ⊎ ((j ≡ f) ⊎ ⊥)) → Tighter j k → ⊥
    all j (inl i) t = h.behind j i t
    all j (inr (inl e)) t = none (subst (λ (x : ℕ). Tighter x k) e t)
    all j (inr (inr i)) t = i

-- the first wide fact, or none
some_is : {X : Type 0} (o : Option X) → is_none o ≡ false → IsSome o
some_is None e = absurd (true≢false e)
some_is (Some x) e = refl

pub none_wide : (bounds : List Bound) (facts : List ℕ) → find (is_wide_fact bounds) facts ≡ None → AllByRecursion (λ k. IsSome (range_at bounds k)) facts
none_wide bounds [] e = tt
none_wide bounds (k ∷ ks) e = by (is_wide_fact bounds k) refl e (none_wide bounds ks)
  where
    by : (b : Bool) → is_wide_fact bounds k ≡ b → cond b (Some k) (find (is_wide_fact bounds) ks) ≡ None → (find (is_wide_fact bounds) ks ≡ None → AllByRecursion (λ j. IsSome (range_at bounds j)) ks) → IsSome (range_at bounds k) × AllByRecursion (λ j. IsSome (range_at bounds j)) ks
    by true w e rest = absurd (true≢false (ap is_some e))
    by false w e rest = (some_is (range_at bounds k) w, rest e)

all_known : (bounds : List Bound) (facts : List ℕ) → AllByRecursion (λ k. IsSome (range_at bounds k)) facts → AllKnown (map (range_at bounds) facts)
all_known bounds [] a = tt
all_known bounds (k ∷ ks) a = by (range_at bounds k) a.0 (all_known bounds ks a.1)
  where
    by : (o : Option (Interval Ratio)) → IsSome o → AllKnown (map (range_at bounds) ks) → AllKnown (o ∷ map (range_at bounds) ks)
    by None s rest = absurd (true≢false (sym s))
    by (Some i) s rest = rest

known_none : (bounds : List Bound) (facts : List ℕ) → AllKnown (map (range_at bounds) facts) → find (is_wide_fact bounds) facts ≡ None
known_none bounds [] a = refl
known_none bounds (k ∷ ks) a = by (range_at bounds k) a (known_none bounds ks)
  where
    by : (o : Option (Interval Ratio)) → AllKnown (o ∷ map (range_at bounds) ks) → (AllKnown (map (range_at bounds) ks) → find (is_wide_fact bounds) ks ≡ None) → cond (is_none o) (Some k) (find (is_wide_fact bounds) ks) ≡ None
    by None a rest = absurd a
    by (Some i) a rest = rest a

not_both : {X : Type 0} (o : Option X) (x : X) → o ≡ Some x → o ≡ None → ⊥
not_both o x some none = true≢false (ap is_some (sym some ∙ none))

pub wide_tightest : (bounds : List Bound) (facts : List ℕ) (r : Range) (w : ℕ) → find (is_wide_fact bounds) facts ≡ Some w → IsRangeOf (map (range_at bounds) facts) r → AreTightest bounds facts r w w
wide_tightest bounds facts range.Wide w e h = (e, e)
wide_tightest bounds facts range.Empty w e h = absurd (not_both _ w e (known_none bounds facts h.known))
wide_tightest bounds facts (range.Meets i) w e h = absurd (not_both _ w e (known_none bounds facts h.known))

pub known_tightest : (bounds : List Bound) (facts : List ℕ) (r : Range) (low high : ℕ) → find (is_wide_fact bounds) facts ≡ None → IsRangeOf (map (range_at bounds) facts) r → IsFirstTightest (HasTighter Low bounds) facts low → IsFirstTightest (HasTighter High bounds) facts high → AreTightest bounds facts r low high
known_tightest bounds facts range.Wide low high e h l m = absurd (h (all_known bounds facts (none_wide bounds facts e)))
known_tightest bounds facts range.Empty low high e h l m = (l, m)
known_tightest bounds facts (range.Meets i) low high e h l m = (l, m)

-- the range of one fact more
pub range_more : (bounds : List Bound) (first : ℕ) (others : List ℕ) (i : ℕ) (next : Option (Interval Ratio)) (r n : Range) → i < length others → next ≡ range_at bounds (get_or others i 0)
    → ((es : List (Option (Interval Ratio))) → IsRangeOf es r → IsRangeOf (es ++ next ∷ []) n) → IsRangeOf (map (range_at bounds) (first ∷ take i others)) r → IsRangeOf (map (range_at bounds) (first ∷ take (i + 1) others)) n
range_more bounds first others i next r n h is narrows so_far =
    subst (λ es. IsRangeOf es n) (ap (λ o. map (range_at bounds) (first ∷ take i others) ++ o ∷ []) is ∙ sym (mapped_more (range_at bounds) first others i h)) (narrows (map (range_at bounds) (first ∷ take i others)) so_far)
