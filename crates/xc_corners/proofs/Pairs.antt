-- The order of pairs, in either direction.
use Rattle.std.proofs.Common.{◌≡◌, ℕ, ◌<◌, Bool, true, false, ℤ, pos, ◌*ℤ◌, ◌≤ℤ◌, ◌<ℤ◌, ◌⊎◌, inl, inr, ⊎_elim, refl, sym, ap, arith}
use Rattle.std.proofs.lemmas.Int.{ints}
use Rattle.xc_model.specs.Parts.{WholeParts, whole_sum}
use Rattle.xc_model.proofs.Integers.{ring, scale_lt, turn_lt, cancel}
use Rattle.xc_model.proofs.Pairs.{same_pairs}
use Rattle.xc_corners.specs.Pairs.{◌≺◌, ◌≼◌, times}

pub le_refl : (a : WholeParts) → a ≼ a
le_refl a = inr (refl, omega (arith, ints))

pub le_from_same : (a b : WholeParts) → a ≡ b → a ≼ b
le_from_same a b e = rw e (le_refl b)

pub le_from_lt : (a b : WholeParts) → a ≺ b → a ≼ b
le_from_lt a b h = grind (arith, ints)

pub le_le : (a b c : WholeParts) → a ≼ b → b ≼ c → a ≼ c
le_le a b c h k = grind (arith, ints)

pub lt_le : (a b c : WholeParts) → a ≺ b → b ≼ c → a ≺ c
lt_le a b c h k = grind (arith, ints)

pub le_lt : (a b c : WholeParts) → a ≼ b → b ≺ c → a ≺ c
le_lt a b c h k = grind (arith, ints)

pub irreflexive : (a : WholeParts) → a ≺ a → ⊥
irreflexive a h = grind (arith, ints)

pub antisymmetric : (a b : WholeParts) → a ≼ b → b ≼ a → a ≡ b
antisymmetric a b h k = same_pairs a b (grind (arith, ints)) (grind (arith, ints))

pub plus_le : (a b c d : WholeParts) → a ≼ b → c ≼ d → whole_sum a c ≼ whole_sum b d
plus_le a b c d h k = grind (arith, ints)

pub plus_lt : (a b c d : WholeParts) → a ≼ b → c ≺ d → whole_sum a c ≺ whole_sum b d
plus_lt a b c d h k = grind (arith, ints)

pub plus_lt_first : (a b c d : WholeParts) → a ≺ b → c ≼ d → whole_sum a c ≺ whole_sum b d
plus_lt_first a b c d h k = grind (arith, ints)

pub positive_pos : (n : ℕ) → 0 < n → pos 0 <ℤ pos n
positive_pos n h = omega (arith, ints)

-- ---- a factor
pub times_lt : (t : ℤ) (a b : WholeParts) → pos 0 <ℤ t → a ≺ b → times t a ≺ times t b
times_lt t a b p (inl h) = inl (scale_lt t a.real b.real p h)
times_lt t a b p (inr h) = inr (ap (λ (z : ℤ). t *ℤ z) h.0, scale_lt t a.tiny b.tiny p h.1)

pub times_turn_lt : (t : ℤ) (a b : WholeParts) → t <ℤ pos 0 → a ≺ b → times t b ≺ times t a
times_turn_lt t a b p (inl h) = inl (turn_lt t a.real b.real p h)
times_turn_lt t a b p (inr h) = inr (ap (λ (z : ℤ). t *ℤ z) (sym h.0), turn_lt t a.tiny b.tiny p h.1)

zero_le : (a b : WholeParts) → times (pos 0) a ≼ times (pos 0) b
zero_le a b = inr (omega (arith, ints), omega (arith, ints))

pub le_cases : (a b : WholeParts) → a ≼ b → (a ≺ b) ⊎ (a ≡ b)
le_cases a b (inl h) = inl (inl h)
le_cases a b (inr h) = go (grind (arith, ints))
  where
    go : ((a.tiny <ℤ b.tiny) ⊎ (a.tiny ≡ b.tiny)) → (a ≺ b) ⊎ (a ≡ b)
    go (inl k) = inl (inr (h.0, k))
    go (inr k) = inr (same_pairs a b h.0 k)

pub not_negative_cases : (t : ℤ) → pos 0 ≤ℤ t → (pos 0 <ℤ t) ⊎ (t ≡ pos 0)
not_negative_cases t h = grind (arith, ints)

pub times_le : (t : ℤ) (a b : WholeParts) → pos 0 ≤ℤ t → a ≼ b → times t a ≼ times t b
times_le t a b p h = go (not_negative_cases t p) (le_cases a b h)
  where
    go : ((pos 0 <ℤ t) ⊎ (t ≡ pos 0)) → ((a ≺ b) ⊎ (a ≡ b)) → times t a ≼ times t b
    go (inl q) (inl k) = le_from_lt _ _ (times_lt t a b q k)
    go (inr q) k = rw q (zero_le a b)
    go (inl q) (inr k) = rw k (le_refl (times t b))

pub times_turn_le : (t : ℤ) (a b : WholeParts) → t ≤ℤ pos 0 → a ≼ b → times t b ≼ times t a
times_turn_le t a b p h = go (grind (arith, ints)) (le_cases a b h)
  where
    go : ((t <ℤ pos 0) ⊎ (t ≡ pos 0)) → ((a ≺ b) ⊎ (a ≡ b)) → times t b ≼ times t a
    go (inl q) (inl k) = le_from_lt _ _ (times_turn_lt t a b q k)
    go (inr q) k = rw q (zero_le b a)
    go (inl q) (inr k) = rw k (le_refl (times t b))

pub times_times : (s t : ℤ) (a : WholeParts) → times s (times t a) ≡ times t (times s a)
times_times s t a = same_pairs _ _ (simp ring) (simp ring)

-- ---- the order, or its reverse
abbrev pub Ord : Bool → WholeParts → WholeParts → Type 0
Ord false a b = a ≼ b
Ord true a b = b ≼ a

abbrev pub StrictOrd : Bool → WholeParts → WholeParts → Type 0
StrictOrd false a b = a ≺ b
StrictOrd true a b = b ≺ a

pub Ord_same : (s : Bool) (a b : WholeParts) → a ≡ b → Ord s a b
Ord_same false a b e = le_from_same a b e
Ord_same true a b e = le_from_same b a (sym e)

pub Ord_from_strict : (s : Bool) (a b : WholeParts) → StrictOrd s a b → Ord s a b
Ord_from_strict false a b h = le_from_lt a b h
Ord_from_strict true a b h = le_from_lt b a h

pub Ord_clash : (s : Bool) (a b c : WholeParts) → StrictOrd s a b → StrictOrd s b c → Ord s c a → ⊥
Ord_clash false a b c h k l = irreflexive a (lt_le a c a (lt_le a b c h (le_from_lt b c k)) l)
Ord_clash true a b c h k l = irreflexive a (le_lt a c a l (lt_le c b a k (le_from_lt b a h)))

pub StrictOrd_times : (s : Bool) (t : ℤ) (a b : WholeParts) → pos 0 <ℤ t → StrictOrd s a b → StrictOrd s (times t a) (times t b)
StrictOrd_times false t a b p h = times_lt t a b p h
StrictOrd_times true t a b p h = times_lt t b a p h

pub Ord_times : (s : Bool) (t : ℤ) (a b : WholeParts) → pos 0 ≤ℤ t → Ord s a b → Ord s (times t a) (times t b)
Ord_times false t a b p h = times_le t a b p h
Ord_times true t a b p h = times_le t b a p h

pub pair_order : (a b : WholeParts) → (a ≼ b) ⊎ (b ≺ a)
pair_order a b = grind (arith, ints)

pub cancel_le_pair : (n : ℕ) (a b : WholeParts) → 0 < n → times (pos n) a ≼ times (pos n) b → a ≼ b
cancel_le_pair n a b h k = ⊎_elim (λ (l : a ≼ b). l) (λ (l : b ≺ a). absurd (irreflexive _ (lt_le _ _ _ (times_lt (pos n) b a (positive_pos n h) l) k))) (pair_order a b)

-- a positive factor is cancelled
pub cancel_positive : (n : ℕ) (a b : ℤ) → 0 < n → pos n *ℤ a ≡ pos n *ℤ b → a ≡ b
cancel_positive n a b h e = cancel (pos n) a b (λ z. absurd (omega (arith, ints, z))) e
