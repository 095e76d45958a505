-- Narrow ranges leave room for the sums of their ends.
use Rattle.std.proofs.Common.{ℕ, zero, suc, ◌*◌, ◌<◌, ◌≤◌, ◌^◌, true, false, List, length, ℤ, neg_ℤ, arith}
use Rattle.std.specs.Prelude.{unsigned_abs}
use Rattle.std.proofs.lemmas.Int.{ints}
use Rattle.xc_forest.specs.Forests.{IsSignedSum, Choice, Neither, Plus, Minus, range_at, sum_below, worth_of}
use Rattle.xc_forest.specs.Laws.{AreSized, IsAtMostSize, NarrowRangesHaveRoom, count_below}
use Rattle.xc_forest.specs.Steps.Vertices.{Span}
use Rattle.xc_forest.proofs.FirstSpans.{same_parts_over}
use Rattle.xc_forest.proofs.Scales.{parts_below_over, worth_over, worth_pair}
use Rattle.xc_frac.specs.Passes.{SumsHaveRoom, DifferencesHaveRoom}
use Rattle.xc_frac.specs.declared.wide.Op.{Op}
use Rattle.xc_frac.specs.declared.wide.Wide.{Wide}
use Rattle.xc_interval.specs.declared.interval.Interval.{Interval}
use Rattle.xc_model.specs.Parts.{Parts, WholeParts, ArePartsOver}
use Rattle.xc_model.specs.Width.{SumFits}

-- a sum is no greater in magnitude than the sum of the magnitudes
sum_size : (n : ℕ) (f : ℕ → ℤ) (size : ℕ → ℕ) → ((p : ℕ) → p < n → unsigned_abs (f p) ≤ size p) → unsigned_abs (sum_below n f) ≤ count_below n size
sum_size zero f size h = omega arith
sum_size (suc n) f size h =
    let i : unsigned_abs (sum_below n f) ≤ count_below n size = sum_size n f size (λ p l. h p (omega arith)) in
    let k : unsigned_abs (f n) ≤ size n = h n (omega arith) in
    omega (arith, ints)

-- an end with its sign is no greater than the ends
worth_size : (k : Choice) (low high : WholeParts) (real tiny : ℕ) → IsAtMostSize real tiny low → IsAtMostSize real tiny high → IsAtMostSize real tiny (worth_pair k (record { low = low; high = high }))
worth_size Neither low high real tiny h k = record { in_real = omega arith; in_tiny = omega arith }
worth_size (Plus false) low high real tiny h k = h
worth_size (Plus true) low high real tiny h k = k
worth_size (Minus false) low high real tiny h k = let a = h.in_real in let b = h.in_tiny in record { in_real = omega (arith, ints); in_tiny = omega (arith, ints) }
worth_size (Minus true) low high real tiny h k = let a = k.in_real in let b = k.in_tiny in record { in_real = omega (arith, ints); in_tiny = omega (arith, ints) }

-- a signed sum over d, and how great it is
pub record IsSizedSum (d real tiny : ℕ) (x : Parts) : Type 0 where
  pub whole : WholeParts
  pub over : ArePartsOver x whole d
  pub size : IsAtMostSize real tiny whole

module _ (ranges : List (Interval Parts)) (d : ℕ) (real tiny : ℕ → ℕ) (h : AreSized d ranges real tiny) (positive : 0 < d) (x : Parts) (s : IsSignedSum ranges x) where
  abbrev span : ℕ → Span
  span p = record { low = h.low p; high = h.high p }

  abbrev part_of : ℕ → WholeParts
  part_of p = worth_pair (s.choice p) (span p)

  each : (p : ℕ) → p < length ranges → IsAtMostSize (real p) (tiny p) (part_of p)
  each p l = worth_size (s.choice p) (h.low p) (h.high p) (real p) (tiny p) (h.low_size p l) (h.high_size p l)

  sized_sum : IsSizedSum d (count_below (length ranges) real) (count_below (length ranges) tiny) x
  sized_sum = record {
    whole = record { real = sum_below (length ranges) (λ p. (part_of p).real); tiny = sum_below (length ranges) (λ p. (part_of p).tiny) };
    over = same_parts_over x _ _ d s.is (parts_below_over (length ranges) (λ p. worth_of (s.choice p) (range_at ranges p)) part_of d positive (λ p l. worth_over (s.choice p) (range_at ranges p) (span p) d (h.low_over p l) (h.high_over p l)));
    size = record {
      in_real = sum_size (length ranges) (λ p. (part_of p).real) real (λ p l. (each p l).in_real);
      in_tiny = sum_size (length ranges) (λ p. (part_of p).tiny) tiny (λ p l. (each p l).in_tiny);
    };
  }

both_fit : (n m : ℤ) (d size : ℕ) → d < 2 ^ 127 → 2 * size < 2 ^ 127 → unsigned_abs n ≤ size → unsigned_abs m ≤ size → SumFits n m d
both_fit n m d size k l h j = record { den = k; left = omega arith; right = omega arith; sum = omega (arith, ints) }

neg_size : (n : ℤ) (size : ℕ) → unsigned_abs n ≤ size → unsigned_abs (neg_ℤ n) ≤ size
neg_size n size h = omega (arith, ints)

pub narrow_room : {E : Type 0} (parts : E → Parts) (passes : Op → E → E → Wide → Type 0) → SumsHaveRoom parts passes → DifferencesHaveRoom parts passes → NarrowRangesHaveRoom parts passes
narrow_room parts passes sums differences ranges d real tiny sized narrow x y s t w =
    let a = sized_sum ranges d real tiny sized narrow.positive (parts x) s in
    let b = sized_sum ranges d real tiny sized narrow.positive (parts y) t in (
      sums x y a.whole b.whole d a.over b.over (record {
        real = both_fit a.whole.real b.whole.real d _ narrow.den narrow.in_real a.size.in_real b.size.in_real;
        tiny = both_fit a.whole.tiny b.whole.tiny d _ narrow.den narrow.in_tiny a.size.in_tiny b.size.in_tiny;
      }) w,
      differences x y a.whole b.whole d a.over b.over (record {
        real = both_fit a.whole.real (neg_ℤ b.whole.real) d _ narrow.den narrow.in_real a.size.in_real (neg_size b.whole.real _ b.size.in_real);
        tiny = both_fit a.whole.tiny (neg_ℤ b.whole.tiny) d _ narrow.den narrow.in_tiny a.size.in_tiny (neg_size b.whole.tiny _ b.size.in_tiny);
      }) w,
    )
