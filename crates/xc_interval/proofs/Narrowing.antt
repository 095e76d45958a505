-- The range of several intervals, and of one more.
use Rattle.std.proofs.Common.{◌≡◌, ℕ, zero, suc, List, [], ◌∷◌, ◌++◌, Option, Some, None, refl, sym, ap, subst, ◌∙◌, ◌⊎◌, inl, inr}
use Rattle.std.specs.Prelude.{slice_get, ◌↔◌}
use Rattle.xc_model.specs.Fraction.{Fraction}
use Rattle.xc_model.specs.Ratio.{Ratio}
use Rattle.xc_interval.specs.Intervals.{AreReal, frac_parts, numbers_of, HasNumber}
use Rattle.xc_interval.specs.Laws.{HasOneInterval, HasOneRangeOf}
use Rattle.xc_interval.specs.Ranges.{AllKnown, LiesInAll, HasLow, HasHigh, IsMeetOf, IsRangeOf}
use Rattle.xc_interval.specs.Steps.Between.{IsRangeBetween}
use Rattle.xc_interval.specs.declared.interval.Interval.{Interval}
use Rattle.xc_interval.specs.declared.range.Range.{Range}
use Rattle.xc_interval.specs.declared.range.Range.TheVariants as range
use Rattle.xc_interval.proofs.Emptiness.{number_in}
use Rattle.xc_interval.proofs.Reals.{crosses_real}

-- fractions have no infinitely small part
pub fractions_are_real : AreReal frac_parts
fractions_are_real f = record { cross = refl }

abbrev Known : Type 0
Known = Option (Interval Ratio)

-- ---- one interval

pub one_alone : (i : Interval Ratio) (r : Range) → IsRangeBetween i r → IsRangeOf (Some i ∷ []) r
one_alone i (range.Meets j) h =
    let own : IsMeetOf (Some i ∷ []) i = record {
      known = tt;
      numbers = λ x. (λ lies. (lies, tt), λ all. all.0);
      some = h.1;
      low = (i, 0, (refl, refl));
      high = (i, 0, (refl, refl));
    } in
    subst (λ k. IsMeetOf (Some i ∷ []) k) (sym h.0) own
one_alone i range.Empty none = record { known = tt; none = λ x all. none x all.0 }
one_alone i range.Wide h = absurd h

-- ---- one more

known_more : (es : List Known) (e : Interval Ratio) → AllKnown es → AllKnown (es ++ Some e ∷ [])
known_more [] e known = tt
known_more (None ∷ es) e known = absurd known
known_more (Some i ∷ es) e known = known_more es e known

known_before : (es : List Known) (e : Known) → AllKnown (es ++ e ∷ []) → AllKnown es
known_before [] e known = tt
known_before (None ∷ es) e known = absurd known
known_before (Some i ∷ es) e known = known_before es e known

last_known : (es : List Known) → AllKnown (es ++ None ∷ []) → ⊥
last_known [] known = known
last_known (None ∷ es) known = known
last_known (Some i ∷ es) known = last_known es known

all_more : (es : List Known) (e : Interval Ratio) (x : Fraction) → LiesInAll es x → HasNumber (numbers_of e) x → LiesInAll (es ++ Some e ∷ []) x
all_more [] e x all lies = (lies, tt)
all_more (None ∷ es) e x all lies = absurd all
all_more (Some i ∷ es) e x all lies = (all.0, all_more es e x all.1 lies)

all_before : (es : List Known) (e : Interval Ratio) (x : Fraction) → LiesInAll (es ++ Some e ∷ []) x → LiesInAll es x × HasNumber (numbers_of e) x
all_before [] e x all = (tt, all.0)
all_before (None ∷ es) e x all = absurd all
all_before (Some i ∷ es) e x all = let rest = all_before es e x all.1 in ((all.0, rest.0), rest.1)

still_there : (es : List Known) (e : Known) (f : ℕ) (i : Interval Ratio) → slice_get es f ≡ Some (Some i) → slice_get (es ++ e ∷ []) f ≡ Some (Some i)
still_there [] e f i at = absurd (cc)
still_there (d ∷ es) e zero i at = at
still_there (d ∷ es) e (suc f) i at = still_there es e f i at

last_there : (es : List Known) (e : Known) → (f : ℕ) × (slice_get (es ++ e ∷ []) f ≡ Some e)
last_there [] e = (0, refl)
last_there (d ∷ es) e = let rest = last_there es e in (suc rest.0, rest.1)

low_of : (es : List Known) (met e m : Interval Ratio) → HasLow es met.low → (m.low ≡ met.low) ⊎ (m.low ≡ e.low) → HasLow (es ++ Some e ∷ []) m.low
low_of es met e m has (inl own) = (has.0, has.1, (still_there es (Some e) has.1 has.0 has.2.0, has.2.1 ∙ sym own))
low_of es met e m has (inr other) = let at = last_there es (Some e) in (e, at.0, (at.1, sym other))

high_of : (es : List Known) (met e m : Interval Ratio) → HasHigh es met.high → (m.high ≡ met.high) ⊎ (m.high ≡ e.high) → HasHigh (es ++ Some e ∷ []) m.high
high_of es met e m has (inl own) = (has.0, has.1, (still_there es (Some e) has.1 has.0 has.2.0, has.2.1 ∙ sym own))
high_of es met e m has (inr other) = let at = last_there es (Some e) in (e, at.0, (at.1, sym other))

-- the meet with one more interval
pub met_more : (es : List Known) (met e m : Interval Ratio) (r : Range) → IsMeetOf es met
    → ((x : Fraction) → HasNumber (numbers_of m) x ↔ (HasNumber (numbers_of met) x × HasNumber (numbers_of e) x))
    → (m.low ≡ met.low) ⊎ (m.low ≡ e.low) → (m.high ≡ met.high) ⊎ (m.high ≡ e.high) → IsRangeBetween m r → IsRangeOf (es ++ Some e ∷ []) r
met_more es met e m (range.Meets i) h both low high between =
    let own : IsMeetOf (es ++ Some e ∷ []) m = record {
      known = known_more es e h.known;
      numbers = λ x. (
        λ lies. let of_both = (both x).0 lies in all_more es e x ((h.numbers x).0 of_both.0) of_both.1,
        λ all. let before = all_before es e x all in (both x).1 ((h.numbers x).1 before.0, before.1),
      );
      some = between.1;
      low = low_of es met e m h.low low;
      high = high_of es met e m h.high high;
    } in
    subst (λ k. IsMeetOf (es ++ Some e ∷ []) k) (sym between.0) own
met_more es met e m range.Empty h both low high none = record {
  known = known_more es e h.known;
  none = λ x all. let before = all_before es e x all in none x ((both x).1 ((h.numbers x).1 before.0, before.1));
}
met_more es met e m range.Wide h both low high between = absurd between

-- one more that is not known
pub wide_more : (es : List Known) → IsRangeOf (es ++ None ∷ []) range.Wide
wide_more es = last_known es

-- where nothing lies in several, or one of them is not known, one more changes nothing
pub empty_more : (es : List Known) (e : Interval Ratio) → IsRangeOf es range.Empty → IsRangeOf (es ++ Some e ∷ []) range.Empty
empty_more es e h = record { known = known_more es e h.known; none = λ x all. h.none x (all_before es e x all).0 }

pub still_wide : (es : List Known) (e : Known) → IsRangeOf es range.Wide → IsRangeOf (es ++ e ∷ []) range.Wide
still_wide es e h known = h (known_before es e known)

-- ---- there is one range

met_some : (es : List Known) (i : Interval Ratio) → IsMeetOf es i → IsRangeOf es range.Empty → ⊥
met_some es i met empty =
    let x = number_in (numbers_of i) (λ crosses. met.some (crosses_real frac_parts fractions_are_real i crosses)) in
    empty.none x.0 ((met.numbers x.0).0 x.1)

one_met : (es : List Known) (i j : Interval Ratio) → HasOneInterval → IsMeetOf es i → IsMeetOf es j → i ≡ j
one_met es i j one r s = one i j r.some s.some (λ x. ((λ in_i. (s.numbers x).1 ((r.numbers x).0 in_i)), (λ in_j. (r.numbers x).1 ((s.numbers x).0 in_j))))

pub one_range : HasOneInterval → HasOneRangeOf
one_range one es (range.Meets i) (range.Meets j) r s = ap range.Meets (one_met es i j one r s)
one_range one es (range.Meets i) range.Empty r s = absurd (met_some es i r s)
one_range one es (range.Meets i) range.Wide r s = absurd (s r.known)
one_range one es range.Empty (range.Meets j) r s = absurd (met_some es j s r)
one_range one es range.Empty range.Empty r s = refl
one_range one es range.Empty range.Wide r s = absurd (s r.known)
one_range one es range.Wide (range.Meets j) r s = absurd (r s.known)
one_range one es range.Wide range.Empty r s = absurd (r s.known)
one_range one es range.Wide range.Wide r s = refl
