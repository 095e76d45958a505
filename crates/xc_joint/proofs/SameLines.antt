-- Lines in strict order are told by what stands among them.
use Rattle.std.proofs.Common.{◌≡◌, ℕ, ◌<◌, ◌≤◌, ◌||◌, Bool, true, false, List, [], ◌∷◌, map, inl, inr, IsPermutation, refl, sym, ap, ap₂, subst, arith}
use Rattle.std.proofs.lemmas.Bool.{false≢true}
use Rattle.std.proofs.lemmas.List.Elements.{All-from_recursion, recursion_from_All}
use Rattle.std.proofs.lemmas.List.Sorted.{All-permutation, IsPermutation-sym}
use Rattle.std.specs.List.{AllByRecursion, list_any}
use Rattle.std.specs.List.Sorted.{IsStrictlySortedBy}
use Rattle.std.specs.Ordering.{nat_cmp}
use Rattle.xc_joint.proofs.OneKind.{behind}
use Rattle.xc_lists.specs.Members.{IsIn}
use Rattle.xc_model.specs.Ratio.{Ratio}

-- ---- membership

pub among_all : {X : Type 0} (P : X → Type 0) (xs : List X) (x : X) → AllByRecursion P xs → IsIn x xs → P x
among_all P [] x a h = absurd h
among_all P (y ∷ ys) x a (inl e) = subst P (sym e) a.0
among_all P (y ∷ ys) x a (inr h) = among_all P ys x a.1 h

all_among : {X : Type 0} (xs : List X) → AllByRecursion (λ x. IsIn x xs) xs
all_among {X} xs = go xs (λ x i. i)
  where
    go : (ys : List X) → ((x : X) → IsIn x ys → IsIn x xs) → AllByRecursion (λ x. IsIn x xs) ys
    go [] f = tt
    go (y ∷ ys) f = (f y (inl refl), go ys (λ x i. f x (inr i)))

permuted_among : {X : Type 0} (xs ys : List X) (x : X) → IsPermutation xs ys → IsIn x ys → IsIn x xs
permuted_among xs ys x h i = among_all (λ y. IsIn y xs) ys x (recursion_from_All (λ y. IsIn y xs) ys (All-permutation (λ y. IsIn y xs) xs ys h (All-from_recursion (λ y. IsIn y xs) xs (all_among xs)))) i

-- what passes a test stands there
pub record Found {X : Type 0} (test : X → Bool) (xs : List X) : Type 0 where
  pub item : X
  pub there : IsIn item xs
  pub passes : test item ≡ true

pub found : {X : Type 0} (test : X → Bool) (xs : List X) → list_any test xs ≡ true → Found test xs
found test [] h = absurd (false≢true h)
found test (x ∷ xs) h = go (test x) refl (found test xs)
  where
    go : (b : Bool) → test x ≡ b → (list_any test xs ≡ true → Found test xs) → Found test (x ∷ xs)
    go true e rest = record { item = x; there = inl refl; passes = e }
    go false e rest = let r = rest (subst (λ (b : Bool). (b || list_any test xs) ≡ true) e h) in record { item = r.item; there = inr r.there; passes = r.passes }

-- ---- lines

abbrev pub Ascend : List (ℕ × Ratio) → Type 0
Ascend lines = IsStrictlySortedBy nat_cmp (map (λ (line : ℕ × Ratio). line.0) lines)

number_among : (lines : List (ℕ × Ratio)) (line : ℕ × Ratio) → IsIn line lines → IsIn line.0 (map (λ (l : ℕ × Ratio). l.0) lines)
number_among [] line h = absurd h
number_among (l ∷ ls) line (inl e) = inl (ap (λ (x : ℕ × Ratio). x.0) e)
number_among (l ∷ ls) line (inr h) = inr (number_among ls line h)

-- what stands behind the first line has a greater number
behind_line : (line other : ℕ × Ratio) (lines : List (ℕ × Ratio)) → Ascend (line ∷ lines) → IsIn other lines → line.0 < other.0
unfolding IsStrictlySortedBy
behind_line line other lines s h = behind line.0 other.0 (map (λ (l : ℕ × Ratio). l.0) lines) s.0 (number_among lines other h)

at_least : (line other : ℕ × Ratio) (lines : List (ℕ × Ratio)) → Ascend (line ∷ lines) → IsIn other (line ∷ lines) → line.0 ≤ other.0
at_least line other lines s (inl e) = omega (arith, ap (λ (x : ℕ × Ratio). x.0) e)
at_least line other lines s (inr h) = omega (arith, behind_line line other lines s h)

rest : (line : ℕ × Ratio) (lines : List (ℕ × Ratio)) → Ascend (line ∷ lines) → Ascend lines
unfolding IsStrictlySortedBy
rest line lines s = s.1

pub same_lines : (xs ys : List (ℕ × Ratio)) → Ascend xs → Ascend ys → ((x : ℕ × Ratio) → IsIn x xs → IsIn x ys) → ((y : ℕ × Ratio) → IsIn y ys → IsIn y xs) → xs ≡ ys
same_lines [] [] s t f g = refl
same_lines [] (y ∷ ys) s t f g = absurd (g y (inl refl))
same_lines (x ∷ xs) [] s t f g = absurd (f x (inl refl))
same_lines (x ∷ xs) (y ∷ ys) s t f g = ap₂ (λ (z : ℕ × Ratio) (zs : List (ℕ × Ratio)). z ∷ zs) same (same_lines xs ys (rest x xs s) (rest y ys t) there back)
  where
    numbers : x.0 ≡ y.0
    numbers = omega (arith, at_least x y xs s (g y (inl refl)), at_least y x ys t (f x (inl refl)))

    same : x ≡ y
    same = go (f x (inl refl))
      where
        go : IsIn x (y ∷ ys) → x ≡ y
        go (inl e) = e
        go (inr h) = absurd (omega (arith, numbers, behind_line y x ys t h))

    there : (z : ℕ × Ratio) → IsIn z xs → IsIn z ys
    there z h = go (f z (inr h))
      where
        go : IsIn z (y ∷ ys) → IsIn z ys
        go (inl e) = absurd (omega (arith, ap (λ (l : ℕ × Ratio). l.0) e, numbers, behind_line x z xs s h))
        go (inr k) = k

    back : (z : ℕ × Ratio) → IsIn z ys → IsIn z xs
    back z h = go (g z (inr h))
      where
        go : IsIn z (x ∷ xs) → IsIn z xs
        go (inl e) = absurd (omega (arith, ap (λ (l : ℕ × Ratio). l.0) e, numbers, behind_line y z ys t h))
        go (inr k) = k

-- two permutations in strict order are one
pub permuted_once : (lines xs ys : List (ℕ × Ratio)) → IsPermutation lines xs → IsPermutation lines ys → Ascend xs → Ascend ys → xs ≡ ys
permuted_once lines xs ys h k s t = same_lines xs ys s t
    (λ x i. permuted_among ys lines x (IsPermutation-sym lines ys k) (permuted_among lines xs x h i))
    (λ y i. permuted_among xs lines y (IsPermutation-sym lines xs h) (permuted_among lines ys y k i))
