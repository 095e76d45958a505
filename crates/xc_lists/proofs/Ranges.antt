-- What is given first, and what is given at all, in ranges of numbers.
use Rattle.std.proofs.Common.{◌≡◌, ◌<◌, ◌≤◌, ◌+◌, ◌-◌, add-zero, zero-add, ℕ, zero, suc, [], ◌∷◌, ◌++◌, Option, Some, None, filter_map, false, is_some, true≢false, option_to_list, refl, sym, ap, ◌∙◌, arith}
use Rattle.std.specs.List.{range_with_len, cons_option}
use Rattle.std.specs.Option.{option_or}
use Rattle.std.proofs.lemmas.List.Elements.{filter_map-append}
use Rattle.xc_lists.specs.Places.{before, first_given}

-- a range begins with its first number
pub range_step : (k n : ℕ) → k < n → range_with_len k (n - k) ≡ k ∷ range_with_len (k + 1) (n - (k + 1))
range_step k n h =
    let longer : n - k ≡ suc (n - (k + 1)) = omega arith in
    ap (range_with_len k) longer

-- a range of no numbers
pub range_none : (k n : ℕ) → n ≤ k → range_with_len k (n - k) ≡ []
range_none k n h =
    let none : n - k ≡ 0 = omega arith in
    ap (range_with_len k) none

-- numbers that give nothing are passed over
skip : {X : Type 0} (given : ℕ → Option X) (m a b n : ℕ) → a + m ≡ b → ((k : ℕ) → a ≤ k → k < b → given k ≡ None) → b ≤ n → first_given given (range_with_len a (n - a)) ≡ first_given given (range_with_len b (n - b))
skip given zero a b n e none h = let same : a ≡ b = omega arith in ap (λ x. first_given given (range_with_len x (n - x))) same
skip given (suc m) a b n e none h =
    ap (first_given given) (range_step a n (omega arith))
    ∙ ap (λ o. option_or o (first_given given (range_with_len (a + 1) (n - (a + 1))))) (none a (omega arith) (omega arith))
    ∙ skip given m (a + 1) b n (omega arith) (λ k low high. none k (omega arith) high) h

pub first_skips : {X : Type 0} (given : ℕ → Option X) (a b n : ℕ) → a ≤ b → b ≤ n → ((k : ℕ) → a ≤ k → k < b → given k ≡ None) → first_given given (range_with_len a (n - a)) ≡ first_given given (range_with_len b (n - b))
first_skips given a b n less h none = skip given (b - a) a b n (omega arith) none h

-- where nothing is given, nothing is first
pub first_none : {X : Type 0} (given : ℕ → Option X) (a n : ℕ) → ((k : ℕ) → a ≤ k → k < n → given k ≡ None) → first_given given (range_with_len a (n - a)) ≡ None
first_none given a n none = by (n - a) a n refl none
  where
    by : (m a n : ℕ) → n - a ≡ m → ((k : ℕ) → a ≤ k → k < n → given k ≡ None) → first_given given (range_with_len a (n - a)) ≡ None
    by zero a n e none = ap (λ m. first_given given (range_with_len a m)) e
    by (suc m) a n e none =
        ap (first_given given) (range_step a n (omega arith))
        ∙ ap (λ o. option_or o (first_given given (range_with_len (a + 1) (n - (a + 1))))) (none a (omega arith) (omega arith))
        ∙ by m (a + 1) n (omega arith) (λ k low high. none k (omega arith) high)

-- the first of all is the first behind those that give nothing
pub first_after : {X : Type 0} (given : ℕ → Option X) (b n : ℕ) → b ≤ n → ((k : ℕ) → k < b → given k ≡ None) → first_given given (range_with_len b (n - b)) ≡ first_given given (range_with_len 0 n)
first_after given b n h none =
    let whole : n - 0 ≡ n = omega arith in
    sym (first_skips given 0 b n (omega arith) h (λ k low high. none k high)) ∙ ap (λ m. first_given given (range_with_len 0 m)) whole

-- a number that gives nothing is passed over
pub first_step : {X : Type 0} (given : ℕ → Option X) (k n : ℕ) → k < n → given k ≡ None → first_given given (range_with_len (k + 1) (n - (k + 1))) ≡ first_given given (range_with_len k (n - k))
first_step given k n h none = sym (ap (first_given given) (range_step k n h) ∙ ap (λ o. option_or o (first_given given (range_with_len (k + 1) (n - (k + 1))))) none)

-- what gives something is first
pub first_here : {X : Type 0} (given : ℕ → Option X) (k n : ℕ) (x : X) → k < n → given k ≡ Some x → first_given given (range_with_len k (n - k)) ≡ Some x
first_here given k n x h some = ap (first_given given) (range_step k n h) ∙ ap (λ o. option_or o (first_given given (range_with_len (k + 1) (n - (k + 1))))) some

-- what is not there
pub absent : {X : Type 0} (o : Option X) → is_some o ≡ false → o ≡ None
absent None e = refl
absent (Some x) e = absurd (true≢false e)

-- one more number
range_more : (a n : ℕ) → range_with_len a (n + 1) ≡ range_with_len a n ++ (a + n) ∷ []
range_more a zero = ap (λ k. k ∷ []) (sym (add-zero a))
range_more a (suc n) =
    let longer : suc n + 1 ≡ suc (n + 1) = omega arith in
    let same : a + 1 + n ≡ a + suc n = omega arith in
    ap (range_with_len a) longer ∙ ap (λ xs. a ∷ xs) (range_more (a + 1) n) ∙ ap (λ k. a ∷ range_with_len (a + 1) n ++ k ∷ []) same

pub before_more : (k : ℕ) → before (k + 1) ≡ before k ++ k ∷ []
before_more k = range_more 0 k ∙ ap (λ j. before k ++ j ∷ []) (zero-add k)

-- what is given of the numbers before one more
pub gathered_more : {X : Type 0} (given : ℕ → Option X) (k : ℕ) → filter_map given (before (k + 1)) ≡ filter_map given (before k) ++ option_to_list (given k)
gathered_more given k = ap (filter_map given) (before_more k) ∙ filter_map-append given (before k) (k ∷ []) ∙ ap (λ xs. filter_map given (before k) ++ xs) (listed (given k))
  where
    listed : {X : Type 0} (o : Option X) → cons_option o [] ≡ option_to_list o
    listed None = refl
    listed (Some x) = refl
