-- Texts that grow by those of one node after another, and picked children.
use Rattle.std.proofs.Common.{◌≡◌, ◌+◌, ◌*◌, ◌-◌, ◌<◌, ◌≤◌, ℕ, zero, suc, List, [], ◌∷◌, ◌++◌, Bool, true, false, length, map, nat_lt, if◌then◌else◌, sym, ap, ◌∙◌, arith, append_assoc, append-nil, add-zero, length-append}
use Rattle.std.proofs.lemmas.Bool.{lt-ltb, le-ltb}
use Rattle.std.proofs.lemmas.List.{flat_map_more}
use Rattle.std.proofs.lemmas.List.FromFn.{map-range_with_len_more}
use Rattle.std.specs.List.{filter, flat_map, range_with_len}
use Rattle.xc_sample.specs.Samples.{arc_line, arc_lines, children, value}
use Rattle.xc_sample.specs.Steps.Backwards.{AreLastValues}

-- a range with one more number
range_more : (a n : ℕ) → range_with_len a (n + 1) ≡ range_with_len a n ++ (a + n) ∷ []
range_more a zero = ap (λ k. k ∷ []) (sym (add-zero a))
range_more a (suc n) =
    let longer : suc n + 1 ≡ suc (n + 1) = omega arith in
    let same : a + 1 + n ≡ a + suc n = omega arith in
    ap (range_with_len a) longer ∙ ap (λ xs. a ∷ xs) (range_more (a + 1) n) ∙ ap (λ k. a ∷ range_with_len (a + 1) n ++ k ∷ []) same

-- a text grows by that of one more node
pub text_more : (f : ℕ → List ℕ) (o p q : List ℕ) (a k i : ℕ) → a + k ≡ i → p ≡ o ++ flat_map f (range_with_len a k) → q ≡ p ++ f i → q ≡ o ++ flat_map f (range_with_len a (k + 1))
text_more f o p q a k i e before next =
    next
    ∙ ap (λ t. t ++ f i) before
    ∙ flat_map_more f o (range_with_len a k) i
    ∙ ap (λ j. o ++ flat_map f (range_with_len a k ++ j ∷ [])) (sym e)
    ∙ ap (λ xs. o ++ flat_map f xs) (sym (range_more a k))

-- what is picked of two by a test
pub picked_both : (p : ℕ → Bool) (a b : ℕ) → p a ≡ true → p b ≡ true → filter p (a ∷ b ∷ []) ≡ a ∷ b ∷ []
picked_both p a b first second =
    ap (λ t. if t then a ∷ filter p (b ∷ []) else filter p (b ∷ [])) first ∙ ap (λ t. a ∷ (if t then b ∷ [] else [])) second

pub picked_first : (p : ℕ → Bool) (a b : ℕ) → p a ≡ true → p b ≡ false → filter p (a ∷ b ∷ []) ≡ a ∷ []
picked_first p a b first second =
    ap (λ t. if t then a ∷ filter p (b ∷ []) else filter p (b ∷ [])) first ∙ ap (λ t. a ∷ (if t then b ∷ [] else [])) second

pub picked_none : (p : ℕ → Bool) (a b : ℕ) → p a ≡ false → p b ≡ false → filter p (a ∷ b ∷ []) ≡ []
picked_none p a b first second =
    ap (λ t. if t then a ∷ filter p (b ∷ []) else filter p (b ∷ [])) first ∙ ap (λ t. if t then b ∷ [] else []) second

-- the children of a node, where it has two, one or none
pub two_children : (n i : ℕ) → 2 * i + 2 < n → children n i ≡ (2 * i + 1) ∷ (2 * i + 2) ∷ []
two_children n i second = picked_both (λ c. nat_lt c n) (2 * i + 1) (2 * i + 2) (lt-ltb _ _ (omega (arith, second))) (lt-ltb _ _ second)

pub one_child : (n i : ℕ) → 2 * i + 1 < n → n ≤ 2 * i + 2 → children n i ≡ (2 * i + 1) ∷ []
one_child n i first second = picked_first (λ c. nat_lt c n) (2 * i + 1) (2 * i + 2) (lt-ltb _ _ first) (le-ltb _ _ second)

pub no_child : (n i : ℕ) → n ≤ 2 * i + 1 → children n i ≡ []
no_child n i first = picked_none (λ c. nat_lt c n) (2 * i + 1) (2 * i + 2) (le-ltb _ _ first) (le-ltb _ _ (omega (arith, first)))

-- the arcs of a node, where it has two children, one or none
pub two_arcs : (n i : ℕ) (o p q : List ℕ) → 2 * i + 2 < n → p ≡ o ++ arc_line i (2 * i + 1) → q ≡ p ++ arc_line i (2 * i + 2) → q ≡ o ++ arc_lines n i
two_arcs n i o p q second one other =
    other
    ∙ ap (λ t. t ++ arc_line i (2 * i + 2)) one
    ∙ joined o (arc_line i (2 * i + 1)) (arc_line i (2 * i + 2))
    ∙ ap (λ cs. o ++ flat_map (λ c. arc_line i c) cs) (sym (two_children n i second))
  where
    joined : (o a b : List ℕ) → (o ++ a) ++ b ≡ o ++ (a ++ (b ++ []))
    joined o a b = append_assoc o a b ∙ ap (λ t. o ++ (a ++ t)) (sym (append-nil b))

pub one_arc : (n i : ℕ) (o q : List ℕ) → 2 * i + 1 < n → n ≤ 2 * i + 2 → q ≡ o ++ arc_line i (2 * i + 1) → q ≡ o ++ arc_lines n i
one_arc n i o q first second one =
    one
    ∙ ap (λ t. o ++ t) (sym (append-nil (arc_line i (2 * i + 1))))
    ∙ ap (λ cs. o ++ flat_map (λ c. arc_line i c) cs) (sym (one_child n i first second))

pub no_arc : (n i : ℕ) (o : List ℕ) → n ≤ 2 * i + 1 → o ≡ o ++ arc_lines n i
no_arc n i o first = sym (append-nil o) ∙ ap (λ cs. o ++ flat_map (λ c. arc_line i c) cs) (sym (no_child n i first))

-- the values of the last nodes grow by that of the one before them
pub last_more : (n : ℕ) (xs : List ℕ) (x : ℕ) → AreLastValues n xs → x ≡ value n (n - 1 - length xs) → AreLastValues n (xs ++ x ∷ [])
last_more n xs x before next =
    let g : ℕ → ℕ = λ k. value n (n - 1 - k) in
    let more : length (xs ++ x ∷ []) ≡ length xs + 1 = length-append xs (x ∷ []) in
    (λ i. before i ++ next i ∷ [])
    ∙ sym (map-range_with_len_more g 0 (length xs) (length xs) (omega arith))
    ∙ ap (λ m. map g (range_with_len 0 m)) (sym more)
