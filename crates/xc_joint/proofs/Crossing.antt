-- The tightest ends of an empty point exclude one another, so that their refutation contradicts its component.
use Rattle.std.proofs.Common.{◌≡◌, ◌||◌, ◌⊎◌, ℕ, Bool, true, false, List, [], ◌∷◌, ◌++◌, map, Option, Some, None, inl, inr, pos, refl, sym, ap, subst, ◌∙◌}
use Rattle.std.proofs.lemmas.Bool.{false≢true}
use Rattle.std.specs.Option.{option_map_or}
use Rattle.std.specs.Prelude.{IsSomeAnd}
use Rattle.std.specs.declared.cmp.Ordering.{Ordering}
use Rattle.std.specs.declared.cmp.Ordering.TheVariants.{Less, Equal, Greater}
use Rattle.xc_interval.specs.Ends.{value_of, is_open, end_at}
use Rattle.xc_interval.specs.Intervals.{Crosses, IsBefore, IsPast, LiesIn}
use Rattle.xc_interval.specs.Laws.{EndsTell, IsTightness}
use Rattle.xc_interval.specs.Ranges.{AllKnown, LiesInAll, IsEmptyMeetOf}
use Rattle.xc_interval.specs.Tightest.{IsTighterHigh, IsTighterLow}
use Rattle.xc_interval.specs.declared.ends.End.{End}
use Rattle.xc_interval.specs.declared.ends.End.TheVariants.{Closed}
use Rattle.xc_interval.specs.declared.interval.Interval.{Interval}
use Rattle.xc_model.specs.Fraction.{Fraction, IsBelow, SameNumber, whole}
use Rattle.xc_model.specs.Laws.{IsSingle, IsTotal}
use Rattle.xc_model.specs.Order.{Orders}
use Rattle.xc_model.specs.Ratio.{Ratio, fraction_of}
use Rattle.xc_lists.specs.Members.{IsIn}
use Rattle.xc_system.specs.Spots.{HasTighter, IsFirstTightest, high_end, low_end}
use Rattle.xc_system.specs.Systems.{range_at}
use Rattle.xc_system.specs.declared.types.Bound.{Bound}
use Rattle.xc_system.specs.declared.types.Side.TheVariants.{High, Low}

-- lists

in_either : (x : ℕ) (xs ys : List ℕ) → IsIn x (xs ++ ys) → IsIn x xs ⊎ IsIn x ys
in_either x [] ys h = inr h
in_either x (y ∷ xs) ys (inl e) = inl (inl e)
in_either x (y ∷ xs) ys (inr h) = elim (in_either x xs ys h) [ inl a ↦ inl (inr a) | inr b ↦ inr b ]

pub in_middle : (x : ℕ) (xs ys : List ℕ) → IsIn x (xs ++ x ∷ ys)
in_middle x [] ys = inl refl
in_middle x (y ∷ xs) ys = inr (in_middle x xs ys)

-- the first of the tightest is one
pub first_tightest_once : (Tighter : ℕ → ℕ → Type 0) (facts : List ℕ) (k m : ℕ) → IsFirstTightest Tighter facts k → IsFirstTightest Tighter facts m → k ≡ m
first_tightest_once Tighter facts k m h g = decide (splits k m h.front h.back g.front g.back (sym h.there ∙ g.there))
  where
    tail : (x y : ℕ) (xs ys : List ℕ) → x ∷ xs ≡ y ∷ ys → xs ≡ ys
    tail x y xs ys e = cc

    head : (x y : ℕ) (xs ys : List ℕ) → x ∷ xs ≡ y ∷ ys → x ≡ y
    head x y xs ys e = cc

    splits : (k m : ℕ) (a b c d : List ℕ) → a ++ k ∷ b ≡ c ++ m ∷ d → (k ≡ m) ⊎ ((IsIn m b × IsIn k c) ⊎ (IsIn m a × IsIn k d))
    splits k m [] b [] d e = inl (head k m b d e)
    splits k m [] b (y ∷ c) d e = inr (inl (subst (λ (l : List ℕ). IsIn m l) (sym (tail k y b (c ++ m ∷ d) e)) (in_middle m c d), inl (head k y b (c ++ m ∷ d) e)))
    splits k m (x ∷ a) b [] d e = inr (inr (inl (sym (head x m (a ++ k ∷ b) d e)), subst (λ (l : List ℕ). IsIn k l) (tail x m (a ++ k ∷ b) d e) (in_middle k a b)))
    splits k m (x ∷ a) b (y ∷ c) d e = deeper (splits k m a b c d (tail x y (a ++ k ∷ b) (c ++ m ∷ d) e))
      where
        deeper : (k ≡ m) ⊎ ((IsIn m b × IsIn k c) ⊎ (IsIn m a × IsIn k d)) → (k ≡ m) ⊎ ((IsIn m b × IsIn k (y ∷ c)) ⊎ (IsIn m (x ∷ a) × IsIn k d))
        deeper (inl s) = inl s
        deeper (inr (inl s)) = inr (inl (s.0, inr s.1))
        deeper (inr (inr s)) = inr (inr (inr s.0, s.1))

    decide : (k ≡ m) ⊎ ((IsIn m h.back × IsIn k g.front) ⊎ (IsIn m h.front × IsIn k g.back)) → k ≡ m
    decide (inl e) = e
    decide (inr (inl s)) = absurd (h.behind m s.0 (g.before k s.1))
    decide (inr (inr s)) = absurd (g.behind k s.1 (h.before m s.0))

-- ends

module _ (bounds : List Bound) (facts : List ℕ) (x : Fraction) where
  -- what is past the tightest low end is past all
  past_all : IsTightness (IsTighterLow IsBelow SameNumber) (IsPast IsBelow SameNumber) → (k : ℕ) → IsFirstTightest (HasTighter Low bounds) facts k → IsPast IsBelow SameNumber (low_end bounds k) x → (j : ℕ) → IsIn j facts → IsPast IsBelow SameNumber (low_end bounds j) x
  past_all T k h past j listed = go (in_either j h.front (k ∷ h.back) (subst (λ (l : List ℕ). IsIn j l) h.there listed))
    where
      go : IsIn j h.front ⊎ ((j ≡ k) ⊎ IsIn j h.back) → IsPast IsBelow SameNumber (low_end bounds j) x
      go (inl a) = T.lets (low_end bounds k) (low_end bounds j) (h.before j a) x past
      go (inr (inl e)) = subst (λ (i : ℕ). IsPast IsBelow SameNumber (low_end bounds i) x) (sym e) past
      go (inr (inr b)) = T.keeps (low_end bounds j) (low_end bounds k) (h.behind j b) x past

  before_all : IsTightness (IsTighterHigh IsBelow SameNumber) (IsBefore IsBelow SameNumber) → (k : ℕ) → IsFirstTightest (HasTighter High bounds) facts k → IsBefore IsBelow SameNumber (high_end bounds k) x → (j : ℕ) → IsIn j facts → IsBefore IsBelow SameNumber (high_end bounds j) x
  before_all T k h past j listed = go (in_either j h.front (k ∷ h.back) (subst (λ (l : List ℕ). IsIn j l) h.there listed))
    where
      go : IsIn j h.front ⊎ ((j ≡ k) ⊎ IsIn j h.back) → IsBefore IsBelow SameNumber (high_end bounds j) x
      go (inl a) = T.lets (high_end bounds k) (high_end bounds j) (h.before j a) x past
      go (inr (inl e)) = subst (λ (i : ℕ). IsBefore IsBelow SameNumber (high_end bounds i) x) (sym e) past
      go (inr (inr b)) = T.keeps (high_end bounds j) (high_end bounds k) (h.behind j b) x past

-- what is between all ends of facts that are known lies in all of their intervals
between_all : (bounds : List Bound) (x : Fraction) (facts : List ℕ) → AllKnown (map (range_at bounds) facts) → ((j : ℕ) → IsIn j facts → IsPast IsBelow SameNumber (low_end bounds j) x × IsBefore IsBelow SameNumber (high_end bounds j) x) → LiesInAll (map (range_at bounds) facts) x
between_all bounds x [] known h = tt
between_all bounds x (k ∷ ks) known h = go (range_at bounds k) known (h k (inl refl)) (λ a. between_all bounds x ks a (λ j l. h j (inr l)))
  where
    go : (o : Option (Interval Ratio)) → AllKnown (o ∷ map (range_at bounds) ks) → IsPast IsBelow SameNumber (option_map_or (λ interval. end_at (λ y. fraction_of y) interval.low) o (Closed (whole (pos 0)))) x × IsBefore IsBelow SameNumber (option_map_or (λ interval. end_at (λ y. fraction_of y) interval.high) o (Closed (whole (pos 0)))) x
        → (AllKnown (map (range_at bounds) ks) → LiesInAll (map (range_at bounds) ks) x) → LiesInAll (o ∷ map (range_at bounds) ks) x
    go None a b c = absurd a
    go (Some i) a b c = (record { low = b.0; high = b.1 }, c a)

pub known_at : (bounds : List Bound) (k : ℕ) (facts : List ℕ) → AllKnown (map (range_at bounds) facts) → IsIn k facts → IsSomeAnd (range_at bounds k) (λ interval. Unit {0})
known_at bounds k [] a h = absurd h
known_at bounds k (j ∷ js) a h = go (range_at bounds j) refl a h (λ b i. known_at bounds k js b i)
  where
    go : (o : Option (Interval Ratio)) → range_at bounds j ≡ o → AllKnown (o ∷ map (range_at bounds) js) → (k ≡ j) ⊎ IsIn k js → (AllKnown (map (range_at bounds) js) → IsIn k js → IsSomeAnd (range_at bounds k) (λ interval. Unit {0})) → IsSomeAnd (range_at bounds k) (λ interval. Unit {0})
    go None e a h rest = absurd a
    go (Some i) e a (inl same) rest = subst (λ (o : Option (Interval Ratio)). IsSomeAnd o (λ interval. Unit {0})) (sym (ap (range_at bounds) same ∙ e)) tt
    go (Some i) e a (inr h) rest = rest a h

-- the two tightest ends of an empty point cross
module _ (total_order : IsTotal Orders) (single : IsSingle Orders) (tell : EndsTell IsBelow SameNumber) (lows : IsTightness (IsTighterLow IsBelow SameNumber) (IsPast IsBelow SameNumber)) (highs : IsTightness (IsTighterHigh IsBelow SameNumber) (IsBefore IsBelow SameNumber)) where
  abbrev Cross : End Fraction → End Fraction → Type 0
  Cross e f = Crosses IsBelow SameNumber (record { low = e; high = f })

  decided : (e f : End Fraction) → (¬ Cross e f → ⊥) → Cross e f
  decided e f h = go (total_order (value_of e) (value_of f))
    where
      apart : Less ≡ Greater → ⊥
      apart z = cc

      below_equal : Less ≡ Equal → ⊥
      below_equal z = cc

      above_equal : Equal ≡ Greater → ⊥
      above_equal z = cc

      go : (o : Ordering) × Orders o (value_of e) (value_of f) → Cross e f
      go (Less, less) = absurd (h (λ c. elim c [ inl b ↦ apart (single Less Greater (value_of e) (value_of f) less b) | inr s ↦ below_equal (single Less Equal (value_of e) (value_of f) less s.0) ]))
      go (Equal, same) = opened (is_open e || is_open f) refl
        where
          opened : (b : Bool) → is_open e || is_open f ≡ b → Cross e f
          opened true t = inr (same, t)
          opened false t = absurd (h (λ c. elim c [ inl b ↦ above_equal (single Equal Greater (value_of e) (value_of f) same b) | inr s ↦ false≢true (sym t ∙ s.1) ]))
      go (Greater, above) = inl above

  pub cross_at : (bounds : List Bound) (facts : List ℕ) (k m : ℕ) → IsEmptyMeetOf (map (range_at bounds) facts) → IsFirstTightest (HasTighter Low bounds) facts k → IsFirstTightest (HasTighter High bounds) facts m → Cross (low_end bounds k) (high_end bounds m)
  cross_at bounds facts k m empty low high = decided (low_end bounds k) (high_end bounds m) (λ n. none ((tell (record { low = low_end bounds k; high = high_end bounds m })).1 n))
    where
      none : (x : Fraction) × LiesIn IsBelow SameNumber (record { low = low_end bounds k; high = high_end bounds m }) x → ⊥
      none (x, lies) = empty.none x (between_all bounds x facts empty.known (λ j l. (past_all bounds facts x lows k low lies.low j l, before_all bounds facts x highs m high lies.high j l)))
