-- What the values of a sample are, and how great.
use Rattle.std.proofs.Common.{◌≡◌, ◌+◌, ◌*◌, ◌-◌, ◌<◌, ◌≤◌, ℕ, zero, suc, List, [], ◌∷◌, Bool, true, false, length, get_or, nat_lt, if◌then◌else◌, refl, sym, ap, subst, ◌∙◌, arith}
use Rattle.std.proofs.Math.Nat.{mul-le-mul_left, mul-le-mul_right}
use Rattle.std.proofs.lemmas.Bool.{lt-ltb, le-ltb, ltb-true}
use Rattle.std.proofs.lemmas.List.FromFn.{get_or-map-range_with_len}
use Rattle.std.proofs.lemmas.List.Sums.{sum_by-cons}
use Rattle.std.specs.List.{list_any, sum_by}
use Rattle.xc_sample.proofs.Lists.{two_children, one_child}
use Rattle.xc_sample.specs.Samples.{children, has_children, lift, value, value_within}
use Rattle.xc_sample.specs.Steps.Backwards.{AreLastValues}

-- what is picked of two by these tests
abbrev pick : Bool → Bool → ℕ → ℕ → List ℕ
pick s t a b = if s then a ∷ (if t then b ∷ [] else []) else (if t then b ∷ [] else [])

-- a node without children has its number as value
pub leaf : (levels n i : ℕ) → has_children n i ≡ false → value_within levels n i ≡ i
leaf zero n i none = refl
leaf (suc levels) n i none = ap (λ b. if b then sum_by (λ c. value_within levels n c) (children n i) + lift n i else i) none

-- sums over two numbers and over one
two_sum : (u : ℕ → ℕ) (a b : ℕ) → sum_by u (a ∷ b ∷ []) ≡ u a + (u b + 0)
two_sum u a b = sum_by-cons u a (b ∷ []) ∙ ap (λ s. u a + s) (sum_by-cons u b [])

one_sum : (u : ℕ → ℕ) (a : ℕ) → sum_by u (a ∷ []) ≡ u a + 0
one_sum u a = sum_by-cons u a []

-- sums over what is picked of two, of which the values are the same
same_sum : (u v : ℕ → ℕ) (s t : Bool) (a b : ℕ) → u a ≡ v a → u b ≡ v b → sum_by u (pick s t a b) ≡ sum_by v (pick s t a b)
same_sum u v true true a b one other = two_sum u a b ∙ (λ i. one i + (other i + 0)) ∙ sym (two_sum v a b)
same_sum u v true false a b one other = one_sum u a ∙ (λ i. one i + 0) ∙ sym (one_sum v a)
same_sum u v false true a b one other = one_sum u b ∙ (λ i. other i + 0) ∙ sym (one_sum v b)
same_sum u v false false a b one other = refl

-- more levels than there are below a node change nothing of its value
pub enough : (f g n i : ℕ) → n ≤ f + i → n ≤ g + i → value_within f n i ≡ value_within g n i
enough zero g n i one other = sym (leaf g n i (le-ltb _ _ (omega (arith, one))))
enough (suc f) zero n i one other = leaf (suc f) n i (le-ltb _ _ (omega (arith, other)))
enough (suc f) (suc g) n i one other =
    ap (λ sum. if has_children n i then sum + lift n i else i)
    (same_sum (λ c. value_within f n c) (λ c. value_within g n c) (nat_lt (2 * i + 1) n) (nat_lt (2 * i + 2) n) (2 * i + 1) (2 * i + 2)
    (enough f g n (2 * i + 1) (omega (arith, one)) (omega (arith, other)))
    (enough f g n (2 * i + 2) (omega (arith, one)) (omega (arith, other))))

-- a node with children has the sum of their values as value, lifted
pub total : (n i : ℕ) → has_children n i ≡ true → value n i ≡ sum_by (λ c. value n c) (children n i) + lift n i
total zero i some = absurd (impossible (ltb-true _ _ some))
  where
    impossible : 2 * i + 1 < 0 → ⊥
    impossible less = omega (arith, less)
total (suc m) i some =
    ap (λ b. if b then sum_by (λ c. value_within m (suc m) c) (children (suc m) i) + lift (suc m) i else i) some
    ∙ ap (λ sum. sum + lift (suc m) i)
    (same_sum (λ c. value_within m (suc m) c) (λ c. value (suc m) c) (nat_lt (2 * i + 1) (suc m)) (nat_lt (2 * i + 2) (suc m)) (2 * i + 1) (2 * i + 2)
    (enough m (suc m) (suc m) (2 * i + 1) (omega arith) (omega arith))
    (enough m (suc m) (suc m) (2 * i + 2) (omega arith) (omega arith)))

-- ---- how great they are

-- a number that is less than another has its square below the other's
square : (i n : ℕ) → i < n → (i + 1) * (i + 1) ≤ n * n
square i n less =
    let one : (i + 1) * (i + 1) ≤ (i + 1) * n = mul-le-mul_left (i + 1) (omega (arith, less)) in
    let other : (i + 1) * n ≤ n * n = mul-le-mul_right n (omega (arith, less)) in
    omega (arith, one, other)

-- the sums of two bounded values, and of one
bound_two : (x y l i m : ℕ) → l ≤ 1 → (x + 1) * (2 * i + 1 + 1) ≤ m → (y + 1) * (2 * i + 2 + 1) ≤ m → (x + (y + 0) + l + 1) * (i + 1) ≤ m
bound_two x y zero i m small one other = omega (arith, one, other)
bound_two x y (suc zero) i m small one other = omega (arith, one, other)
bound_two x y (suc (suc l)) i m small one other = omega (arith, small)

bound_one : (x l i m : ℕ) → l ≤ 1 → (x + 1) * (2 * i + 1 + 1) ≤ m → (x + 0 + l + 1) * (i + 1) ≤ m
bound_one x zero i m small one = omega (arith, one)
bound_one x (suc zero) i m small one = omega (arith, one)
bound_one x (suc (suc l)) i m small one = omega (arith, small)

pub lift_small : (n i : ℕ) → lift n i ≤ 1
lift_small n i = by (list_any (λ c. has_children n c) (children n i))
  where
    by : (b : Bool) → (if b then 0 else 1) ≤ 1
    by true = omega arith
    by false = omega arith

-- by the tests of both children
bounded : (v : ℕ → ℕ) (s t : Bool) (l i m : ℕ) → l ≤ 1 → (i + 1) * (i + 1) ≤ m → (t ≡ true → s ≡ true) → (s ≡ true → (v (2 * i + 1) + 1) * (2 * i + 1 + 1) ≤ m) → (t ≡ true → (v (2 * i + 2) + 1) * (2 * i + 2 + 1) ≤ m)
    → ((if s then sum_by v (pick s t (2 * i + 1) (2 * i + 2)) + l else i) + 1) * (i + 1) ≤ m
bounded v true true l i m small own both one other = subst (λ sum. (sum + l + 1) * (i + 1) ≤ m) (sym (two_sum v (2 * i + 1) (2 * i + 2))) (bound_two (v (2 * i + 1)) (v (2 * i + 2)) l i m small (one refl) (other refl))
bounded v true false l i m small own both one other = subst (λ sum. (sum + l + 1) * (i + 1) ≤ m) (sym (one_sum v (2 * i + 1))) (bound_one (v (2 * i + 1)) l i m small (one refl))
bounded v false t l i m small own both one other = own

-- the value and the number of a node, one more of each, multiplied: at most the square of how many nodes there are
pub within_square : (f n i : ℕ) → i < n → (value_within f n i + 1) * (i + 1) ≤ n * n
within_square zero n i less = square i n less
within_square (suc f) n i less =
    bounded (λ c. value_within f n c) (nat_lt (2 * i + 1) n) (nat_lt (2 * i + 2) n) (lift n i) i (n * n) (lift_small n i) (square i n less)
    (λ there. let second = ltb-true _ _ there in lt-ltb _ _ (omega (arith, second)))
    (λ there. within_square f n (2 * i + 1) (ltb-true _ _ there))
    (λ there. within_square f n (2 * i + 2) (ltb-true _ _ there))

-- the values of the largest sample have ten digits at most
pub small : (n i : ℕ) → i < n → n ≤ 100000 → value n i < 10000000000
small n i less few =
    let bound = within_square n n i less in
    let one : n * n ≤ n * 100000 = mul-le-mul_left n few in
    let own : (value n i + 1) * 1 ≤ (value n i + 1) * (i + 1) = mul-le-mul_left (value n i + 1) (omega arith) in
    omega (arith, bound, one, own, few)

-- ---- as they are worked out

-- the value of a node with two children, and with one
pub of_two : (n i : ℕ) → 2 * i + 2 < n → value n (2 * i + 1) + value n (2 * i + 2) + lift n i ≡ value n i
of_two n i second = sym (
    total n i (lt-ltb _ _ (omega (arith, second)))
    ∙ ap (λ cs. sum_by (λ c. value n c) cs + lift n i) (two_children n i second)
    ∙ ap (λ sum. sum + lift n i) (two_sum (λ c. value n c) (2 * i + 1) (2 * i + 2))
    ∙ sums (value n (2 * i + 1)) (value n (2 * i + 2)) (lift n i))
  where
    sums : (x y l : ℕ) → x + (y + 0) + l ≡ x + y + l
    sums x y l = omega arith

pub of_one : (n i : ℕ) → 2 * i + 1 < n → n ≤ 2 * i + 2 → value n (2 * i + 1) + lift n i ≡ value n i
of_one n i first second = sym (
    total n i (lt-ltb _ _ first)
    ∙ ap (λ cs. sum_by (λ c. value n c) cs + lift n i) (one_child n i first second)
    ∙ ap (λ sum. sum + lift n i) (one_sum (λ c. value n c) (2 * i + 1))
    ∙ sums (value n (2 * i + 1)) (lift n i))
  where
    sums : (x l : ℕ) → x + 0 + l ≡ x + l
    sums x l = omega arith

pub of_none : (n i : ℕ) → n ≤ 2 * i + 1 → i ≡ value n i
of_none n i first = sym (leaf n n i (le-ltb _ _ first))

-- some child has children exactly where the first has
any_first : (h : ℕ → Bool) (s t : Bool) (a b : ℕ) → s ≡ true → h a ≡ true → list_any h (pick s t a b) ≡ true
any_first h true true a b some first = rw first refl
any_first h true false a b some first = rw first refl
any_first h false t a b some first = absurd (cc)

none_first : (h : ℕ → Bool) (s t : Bool) (a b : ℕ) → h a ≡ false → h b ≡ false → list_any h (pick s t a b) ≡ false
none_first h true true a b first second = rw first (rw second refl)
none_first h true false a b first second = rw first refl
none_first h false true a b first second = rw second refl
none_first h false false a b first second = refl

pub not_lifted : (n i : ℕ) → 4 * i + 3 < n → 0 ≡ lift n i
not_lifted n i less = sym (ap (λ b. if b then 0 else 1) (any_first (λ c. has_children n c) (nat_lt (2 * i + 1) n) (nat_lt (2 * i + 2) n) (2 * i + 1) (2 * i + 2) (lt-ltb _ _ (omega (arith, less))) (lt-ltb _ _ (omega (arith, less)))))

pub lifted : (n i : ℕ) → n ≤ 4 * i + 3 → 1 ≡ lift n i
lifted n i few = sym (ap (λ b. if b then 0 else 1) (none_first (λ c. has_children n c) (nat_lt (2 * i + 1) n) (nat_lt (2 * i + 2) n) (2 * i + 1) (2 * i + 2) (le-ltb _ _ (omega (arith, few))) (le-ltb _ _ (omega (arith, few)))))

-- the value of a node stands among those of the last ones
pub stands : (n i : ℕ) (last : List ℕ) → i < n → n ≤ i + length last → AreLastValues n last → get_or last (n - 1 - i) 0 ≡ value n i
stands n i last less listed are =
    let g : ℕ → ℕ = λ k. value n (n - 1 - k) in
    let at : n - 1 - (n - 1 - i) ≡ i = omega (arith, less) in
    ap (λ l. get_or l (n - 1 - i) 0) are
    ∙ get_or-map-range_with_len g 0 (length last) (n - 1 - i) (n - 1 - i) 0 (omega (arith, less, listed)) (omega arith)
    ∙ ap (λ j. value n j) at
