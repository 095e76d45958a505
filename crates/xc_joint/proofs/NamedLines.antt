-- Lines with numbers in place of the places where these stand.
use Rattle.std.proofs.Common.{◌≡◌, ℕ, zero, suc, ◌+◌, ◌<◌, ◌≤◌, Bool, List, [], ◌∷◌, length, map, get_or, inl, inr, IsPermutation, refl, sym, ap, ap₂, subst, ◌||◌, arith}
use Rattle.std.proofs.lemmas.List.{get_or-map, length-map}
use Rattle.std.proofs.lemmas.List.Sorted.{IsPermutation-map}
use Rattle.std.proofs.lemmas.Map.Keys.{sorted_from_strictly_increasing}
use Rattle.std.specs.List.{AllByRecursion, list_any}
use Rattle.std.specs.List.Sorted.{IsNonDecreasingBy, IsStrictlySortedBy}
use Rattle.std.specs.Ordering.{nat_cmp}
use Rattle.xc_corners.specs.Answers.{sum_over_lines}
use Rattle.xc_joint.specs.CornerCauses.{line_with_number}
use Rattle.xc_joint.proofs.Ascending.{rises_once}
use Rattle.xc_joint.proofs.Searched.{rises}
use Rattle.xc_lists.specs.Members.{IsIn, IsOnce}
use Rattle.xc_model.specs.Fraction.{Fraction, sum_of, product_of}
use Rattle.xc_model.specs.Ratio.{Ratio, fraction_of}
use Rattle.xc_system.specs.Refutations.{total}

-- ---- sums over lines

module _ (numbers : List ℕ) where
  abbrev number_at : ℕ → ℕ
  number_at k = get_or numbers k 0

  pub named_total : (f g : ℕ → Fraction) (lines : List (ℕ × Ratio)) → AllByRecursion (λ line. f (get_or numbers line.0 0) ≡ g line.0) lines → total (map (line_with_number numbers) lines) f ≡ sum_over_lines lines g
  named_total f g [] h = refl
  named_total f g (line ∷ lines) h = ap₂ sum_of (ap (λ (y : Fraction). product_of (fraction_of line.1) y) h.0) (named_total f g lines h.1)

  pub named_any : (f g : ℕ → Bool) (lines : List (ℕ × Ratio)) → AllByRecursion (λ line. f (get_or numbers line.0 0) ≡ g line.0) lines → list_any (λ m. f m.0) (map (line_with_number numbers) lines) ≡ list_any (λ line. g line.0) lines
  named_any f g [] h = refl
  named_any f g (line ∷ lines) h = ap₂ (λ (a b : Bool). a || b) h.0 (named_any f g lines h.1)

  named_numbers : (lines : List (ℕ × Ratio)) → map (λ m. m.0) (map (line_with_number numbers) lines) ≡ map number_at (map (λ line. line.0) lines)
  named_numbers [] = refl
  named_numbers (line ∷ lines) = ap (λ (xs : List ℕ). get_or numbers line.0 0 ∷ xs) (named_numbers lines)

-- ---- order

record Comes (f : ℕ → ℕ) (xs : List ℕ) (y : ℕ) : Type 0 where
  from : ℕ
  there : IsIn from xs
  is : y ≡ f from

come : (f : ℕ → ℕ) (xs : List ℕ) (y : ℕ) → IsIn y (map f xs) → Comes f xs y
come f [] y h = absurd h
come f (x ∷ xs) y (inl e) = record { from = x; there = inl refl; is = e }
come f (x ∷ xs) y (inr h) = let c = come f xs y h in record { from = c.from; there = inr c.there; is = c.is }

within : (n : ℕ) (xs : List ℕ) (x : ℕ) → AllByRecursion (λ k. k < n) xs → IsIn x xs → x < n
within n [] x a h = absurd h
within n (y ∷ ys) x a (inl e) = subst (λ k. k < n) (sym e) a.0
within n (y ∷ ys) x a (inr h) = within n ys x a.1 h

map_once : (f : ℕ → ℕ) (n : ℕ) → ((i j : ℕ) → i < n → j < n → f i ≡ f j → i ≡ j) → (xs : List ℕ) → AllByRecursion (λ k. k < n) xs → IsOnce xs → IsOnce (map f xs)
map_once f n apart [] a o = tt
map_once f n apart (x ∷ xs) a o = (
  λ h. let c = come f xs (f x) h in o.0 (subst (λ k. IsIn k xs) (sym (apart x c.from a.0 (within n xs c.from a.1 c.there) c.is)) c.there),
  map_once f n apart xs a.1 o.1,
)

map_ascends : (f : ℕ → ℕ) (n : ℕ) → ((i j : ℕ) → i < j → j < n → f i < f j) → (xs : List ℕ) → AllByRecursion (λ k. k < n) xs → IsStrictlySortedBy nat_cmp xs → IsStrictlySortedBy nat_cmp (map f xs)
map_ascends f n up xs a h = sorted_from_strictly_increasing (map f xs) step
  where
    at : (n : ℕ) (xs : List ℕ) (k : ℕ) → AllByRecursion (λ j. j < n) xs → k < length xs → get_or xs k 0 < n
    at n [] k a l = absurd (omega (arith, l))
    at n (x ∷ xs) zero a l = a.0
    at n (x ∷ xs) (suc k) a l = at n xs k a.1 (omega (arith, l))

    step : (k : ℕ) → k + 1 < length (map f xs) → get_or (map f xs) k 0 < get_or (map f xs) (k + 1) 0
    step k l =
        let long = length-map xs f in
        let m : k + 1 < length xs = omega (arith, l, long) in
        let here : get_or (map f xs) k 0 ≡ f (get_or xs k 0) = get_or-map f xs k 0 0 (omega (arith, m)) in
        let next : get_or (map f xs) (k + 1) 0 ≡ f (get_or xs (k + 1) 0) = get_or-map f xs (k + 1) 0 0 m in
        let rise = up (get_or xs k 0) (get_or xs (k + 1) 0) (rises xs h k (k + 1) (omega arith) m) (at n xs (k + 1) a m) in
        omega (arith, here, next, rise)

line_places : (n : ℕ) (lines : List (ℕ × Ratio)) → AllByRecursion (λ line. line.0 < n) lines → AllByRecursion (λ k. k < n) (map (λ line. line.0) lines)
line_places n [] h = tt
line_places n (line ∷ lines) h = (h.0, line_places n lines h.1)

module _ (numbers : List ℕ) (lines : List (ℕ × Ratio)) (below : AllByRecursion (λ line. line.0 < length numbers) lines) where
  -- where the numbers ascend, and the places, the named lines do
  pub named_ascend : ((i j : ℕ) → i < j → j < length numbers → get_or numbers i 0 < get_or numbers j 0) → IsStrictlySortedBy nat_cmp (map (λ line. line.0) lines) → IsStrictlySortedBy nat_cmp (map (λ m. m.0) (map (line_with_number numbers) lines))
  named_ascend up places = subst (IsStrictlySortedBy nat_cmp) (sym (named_numbers numbers lines)) (map_ascends (λ k. get_or numbers k 0) (length numbers) up (map (λ line. line.0) lines) (line_places (length numbers) lines below) places)

  -- where no number stands twice, and no place, the named lines ascend once they are sorted
  pub sorted_ascend : ((i j : ℕ) → i < length numbers → j < length numbers → get_or numbers i 0 ≡ get_or numbers j 0 → i ≡ j) → IsOnce (map (λ line. line.0) lines) → (ms : List (ℕ × Ratio)) → IsPermutation (map (line_with_number numbers) lines) ms → IsNonDecreasingBy (λ m. m.0) ms → IsStrictlySortedBy nat_cmp (map (λ m. m.0) ms)
  sorted_ascend apart places ms moved sorted = rises_once (map (λ m. m.0) (map (line_with_number numbers) lines)) (map (λ m. m.0) ms)
      (subst IsOnce (sym (named_numbers numbers lines)) (map_once (λ k. get_or numbers k 0) (length numbers) apart (map (λ line. line.0) lines) (line_places (length numbers) lines below) places))
      (IsPermutation-map (λ (m : ℕ × Ratio). m.0) (map (line_with_number numbers) lines) ms moved)
      step
    where
      step : (k : ℕ) → k + 1 < length (map (λ m. m.0) ms) → get_or (map (λ m. m.0) ms) k 0 ≤ get_or (map (λ m. m.0) ms) (k + 1) 0
      step k l = fall ms sorted k (omega (arith, l, length-map ms (λ (m : ℕ × Ratio). m.0)))
        where
          fall : (ms : List (ℕ × Ratio)) → IsNonDecreasingBy (λ m. m.0) ms → (k : ℕ) → k + 1 < length ms → get_or (map (λ m. m.0) ms) k 0 ≤ get_or (map (λ m. m.0) ms) (k + 1) 0
          fall [] s k l = absurd (omega (arith, l))
          fall (x ∷ xs) s k l =
              let here : get_or (map (λ (m : ℕ × Ratio). m.0) (x ∷ xs)) k 0 ≡ (get_or (x ∷ xs) k x).0 = get_or-map (λ (m : ℕ × Ratio). m.0) (x ∷ xs) k x 0 (omega (arith, l)) in
              let next : get_or (map (λ (m : ℕ × Ratio). m.0) (x ∷ xs)) (k + 1) 0 ≡ (get_or (x ∷ xs) (k + 1) x).0 = get_or-map (λ (m : ℕ × Ratio). m.0) (x ∷ xs) (k + 1) x 0 l in
              let most = s k (k + 1) x (omega arith) l in
              omega (arith, here, next, most)
