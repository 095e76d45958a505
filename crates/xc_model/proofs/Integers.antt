-- Whole numbers: the laws of products that std lacks, the order under products, magnitudes.
--
-- An equation of polynomials is `simp ring (omega (arith, ints))`, or `simp ring` alone where it has only products.
use Rattle.std.proofs.Common.{◌≡◌, ◌≢◌, ℕ, zero, suc, ◌+◌, ◌*◌, ◌<◌, ◌≤◌, ℤ, pos, negsuc, ◌+ℤ◌, ◌*ℤ◌, neg_ℤ, ◌≤ℤ◌, ◌<ℤ◌, ◌⊎◌, refl, ap, sym, ◌∙◌, arith}
use Rattle.std.specs.Prelude.{unsigned_abs}
use Rattle.std.proofs.lemmas.Int.{ints, by_lt_z, unsigned_abs-mul}
use borrow.Author.Differences.{up, down, same_in, product_is, sum_is_lem, neg_is, at_most_in, below_in, le_out, lt_out}
use Rattle.std.proofs.Math.Nat.{mul-le-mul_left, le-mul_of_pos_right}
use Rattle.xc_model.specs.Width.{IsNarrow, IsWide}

-- of two numbers one is less, or the other is at most as great
pub lt_or_le : (a b : ℕ) → (a < b) ⊎ (b ≤ a)
lt_or_le a b = grind arith

up-mul : (a b : ℤ) → up (a *ℤ b) ≡ up a * up b + down a * down b
up-mul a b = (product_is a b).0

down-mul : (a b : ℤ) → down (a *ℤ b) ≡ up a * down b + down a * up b
down-mul a b = (product_is a b).1

pub mul_assoc : (a b c : ℤ) → (a *ℤ b) *ℤ c ≡ a *ℤ (b *ℤ c)
mul_assoc a b c = same_in _ _ (simp (up-mul, down-mul) (omega arith))

pub mul_comm : (a b : ℤ) → a *ℤ b ≡ b *ℤ a
mul_comm a b = omega (arith, ints)

pub mul_left_comm : (a b c : ℤ) → a *ℤ (b *ℤ c) ≡ b *ℤ (a *ℤ c)
mul_left_comm a b c = same_in _ _ (simp (up-mul, down-mul) (omega arith))

pub mul-add : (a b c : ℤ) → a *ℤ (b +ℤ c) ≡ a *ℤ b +ℤ a *ℤ c
mul-add a b c = same_in _ _ (omega (arith, up-mul a (b +ℤ c), down-mul a (b +ℤ c), sum_is_lem (a *ℤ b) (a *ℤ c), up-mul a b, down-mul a b, up-mul a c, down-mul a c, ap (λ (n : ℕ). up a * n) (sum_is_lem b c), ap (λ (n : ℕ). down a * n) (sum_is_lem b c)))

pub add-mul : (a b c : ℤ) → (a +ℤ b) *ℤ c ≡ a *ℤ c +ℤ b *ℤ c
add-mul a b c = mul_comm (a +ℤ b) c ∙ mul-add c a b ∙ (ap (λ (z : ℤ). z +ℤ c *ℤ b) (mul_comm c a)) ∙ ap (λ (z : ℤ). a *ℤ c +ℤ z) (mul_comm c b)

pub mul-neg : (a b : ℤ) → a *ℤ neg_ℤ b ≡ neg_ℤ (a *ℤ b)
mul-neg a b = same_in _ _ (omega (arith, up-mul a (neg_ℤ b), down-mul a (neg_ℤ b), up-mul a b, down-mul a b, neg_is (a *ℤ b), ap (λ (n : ℕ). up a * n) (neg_is b).0, ap (λ (n : ℕ). up a * n) (neg_is b).1, ap (λ (n : ℕ). down a * n) (neg_is b).0, ap (λ (n : ℕ). down a * n) (neg_is b).1))

pub neg-mul : (a b : ℤ) → neg_ℤ a *ℤ b ≡ neg_ℤ (a *ℤ b)
neg-mul a b = mul_comm (neg_ℤ a) b ∙ mul-neg b a ∙ ap neg_ℤ (mul_comm b a)

pub neg-neg : (a : ℤ) → neg_ℤ (neg_ℤ a) ≡ a
neg-neg a = omega (arith, ints)

-- multiplies out, and brings the factors of each product into one order
pub ruleset ring = (neg-neg, mul-add, add-mul, mul-neg, neg-mul, mul_assoc, mul_comm, mul_left_comm)

scale_le_nat : (n : ℕ) (a b : ℤ) → a ≤ℤ b → (pos n *ℤ a) ≤ℤ (pos n *ℤ b)
scale_le_nat n a b h = at_most_in _ _ (omega (arith, up-mul (pos n) a, down-mul (pos n) a, up-mul (pos n) b, down-mul (pos n) b, mul-le-mul_left n (le_out a b h)))

scale_lt_nat : (n : ℕ) (a b : ℤ) → a <ℤ b → (pos (suc n) *ℤ a) <ℤ (pos (suc n) *ℤ b)
scale_lt_nat n a b h = below_in _ _ (omega (arith, up-mul (pos (suc n)) a, down-mul (pos (suc n)) a, up-mul (pos (suc n)) b, down-mul (pos (suc n)) b, mul-le-mul_left (suc n) (lt_out a b h)))

-- a factor that is not negative keeps an order
pub scale_le : (t a b : ℤ) → pos 0 ≤ℤ t → a ≤ℤ b → (t *ℤ a) ≤ℤ (t *ℤ b)
scale_le (pos n) a b p h = scale_le_nat n a b h
scale_le (negsuc n) a b p h = absurd (omega (arith, ints))

-- a positive one keeps a strict order
pub scale_lt : (t a b : ℤ) → pos 0 <ℤ t → a <ℤ b → (t *ℤ a) <ℤ (t *ℤ b)
scale_lt (pos zero) a b p h = absurd (omega (arith, ints))
scale_lt (pos (suc n)) a b p h = scale_lt_nat n a b h
scale_lt (negsuc n) a b p h = absurd (omega (arith, ints))

-- a factor that is not positive turns an order round
pub turn_le : (t a b : ℤ) → t ≤ℤ pos 0 → a ≤ℤ b → (t *ℤ b) ≤ℤ (t *ℤ a)
turn_le t a b p h =
    let scaled : (neg_ℤ t *ℤ a) ≤ℤ (neg_ℤ t *ℤ b) = scale_le (neg_ℤ t) a b (omega (arith, ints)) h in
    omega (arith, ints, simp neg-mul at scaled)

pub turn_lt : (t a b : ℤ) → t <ℤ pos 0 → a <ℤ b → (t *ℤ b) <ℤ (t *ℤ a)
turn_lt t a b p h =
    let scaled : (neg_ℤ t *ℤ a) <ℤ (neg_ℤ t *ℤ b) = scale_lt (neg_ℤ t) a b (omega (arith, ints)) h in
    omega (arith, ints, simp neg-mul at scaled)

-- a positive factor is cancelled from an order
pub cancel_le : (t a b : ℤ) → pos 0 <ℤ t → (t *ℤ a) ≤ℤ (t *ℤ b) → a ≤ℤ b
cancel_le t a b p h = by_lt_z b a (λ above. absurd (omega (arith, ints, scale_lt t b a p above))) (λ below. below)

pub cancel_lt : (t a b : ℤ) → pos 0 <ℤ t → (t *ℤ a) <ℤ (t *ℤ b) → a <ℤ b
cancel_lt t a b p h = by_lt_z a b (λ below. below) (λ above. absurd (omega (arith, ints, scale_le t b a (omega (arith, ints)) above)))

cancel_pos : (t a b : ℤ) → pos 0 <ℤ t → t *ℤ a ≡ t *ℤ b → a ≡ b
cancel_pos t a b p e =
    let up : a ≤ℤ b = cancel_le t a b p (omega (arith, ints, e)) in
    let down : b ≤ℤ a = cancel_le t b a p (omega (arith, ints, e)) in
    omega (arith, ints)

-- a factor other than 0 is cancelled from an equation
pub cancel : (t a b : ℤ) → t ≢ pos 0 → t *ℤ a ≡ t *ℤ b → a ≡ b
cancel (pos zero) a b some e = absurd (some refl)
cancel (pos (suc n)) a b some e = cancel_pos (pos (suc n)) a b (omega (arith, ints)) e
cancel (negsuc n) a b some e = cancel_pos (neg_ℤ (negsuc n)) a b (omega (arith, ints)) (neg-mul (negsuc n) a ∙ ap neg_ℤ e ∙ sym (neg-mul (negsuc n) b))

-- a product of positive numbers is positive
pub mul_positive : (a b : ℤ) → pos 0 <ℤ a → pos 0 <ℤ b → pos 0 <ℤ (a *ℤ b)
mul_positive a b p q = omega (arith, ints, scale_lt a (pos 0) b p q)

-- a product of numbers other than 0 is another
pub mul_some : (a b : ℤ) → a ≢ pos 0 → b ≢ pos 0 → a *ℤ b ≢ pos 0
mul_some a b p q e = q (cancel a b (pos 0) p (omega (arith, ints, e)))

-- a positive number is its magnitude
pub pos-unsigned_abs : (z : ℤ) → pos 0 <ℤ z → pos (unsigned_abs z) ≡ z
pos-unsigned_abs z p = omega (arith, ints)

-- a number other than 0 has a positive magnitude
pub unsigned_abs_some : (z : ℤ) → z ≢ pos 0 → 0 < unsigned_abs z
unsigned_abs_some z some = omega (arith, ints)

pub unsigned_abs-neg : (z : ℤ) → unsigned_abs (neg_ℤ z) ≡ unsigned_abs z
unsigned_abs-neg z = omega (arith, ints)

-- a number is narrow or wide
pub wide_if : (z : ℤ) → ¬ (IsNarrow z) → IsWide z
wide_if z h = omega arith

-- a factor is no more than the product, where the other factor is not 0
pub factor_below : (a b c : ℤ) → a *ℤ b ≡ c → b ≢ pos 0 → unsigned_abs a ≤ unsigned_abs c
factor_below a b c e some =
    let size : unsigned_abs a * unsigned_abs b ≡ unsigned_abs c = sym (unsigned_abs-mul a b) ∙ ap unsigned_abs e in
    omega (arith, size, le-mul_of_pos_right (unsigned_abs a) (unsigned_abs_some b some))
