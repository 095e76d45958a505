-- Sums over the listed lines of counts are sums over all numbers.
use Rattle.std.proofs.Common.{◌≡◌, ◌≢◌, ◌==◌, ℕ, zero, suc, ◌*◌, ◌<◌, Bool, true, false, cond, ◌||◌, ℤ, pos, negsuc, ◌+ℤ◌, ◌*ℤ◌, ◌<ℤ◌, List, [], ◌∷◌, map, ◌⊎◌, inl, inr, refl, sym, ap, ap₂, subst, ◌∙◌, arith, eqb}
use Rattle.std.proofs.lemmas.Int.{ints}
use Rattle.std.proofs.lemmas.Bool.{cases_eq, cases_Bool, eq-eqb, ne_eqb, false≢true, or_parts}
use Rattle.std.proofs.lemmas.Bool.Decides.{nat_tests}
use Rattle.std.proofs.lemmas.List.Elements.{recursion_from_All}
use Rattle.std.specs.List.{AllByRecursion, list_any}
use Rattle.std.specs.List.Sorted.{IsStrictlySortedBy}
use Rattle.std.specs.Ordering.{nat_cmp}
use Rattle.std.specs.declared.cmp.Ordering.TheVariants.{Less}
use Rattle.xc_model.specs.Fraction.{Fraction, IsNumberOver}
use Rattle.xc_model.specs.Ratio.{Ratio}
use Rattle.xc_corners.specs.Answers.{sum_over_lines}
use Rattle.xc_corners.specs.Conflicts.{IsNonzero, IsPositive, AreLinesOf}
use Rattle.xc_corners.specs.Pairs.{sum_below}
use Rattle.xc_corners.proofs.Sums.{sum_same, sum_at, sum_of_zeros, without}
use Rattle.xc_corners.proofs.Weighed.{line_total, IsLineOver, weighed_over}

abbrev pub is_listed : List (ℕ × Ratio) → ℕ → Bool
is_listed lines j = list_any (λ line. line.0 == j) lines

-- what ascends behind a number does not have it
above_it : (k n : ℕ) → nat_cmp k n ≡ Less → (n ≡ k → ⊥)
above_it k n h e = grind (arith, nat_tests, h, e)

not_listed : (k : ℕ) (lines : List (ℕ × Ratio)) → AllByRecursion (λ y. nat_cmp k y ≡ Less) (map (λ line. line.0) lines) → is_listed lines k ≡ false
not_listed k [] a = refl
not_listed k (line ∷ lines) a = rw (ne_eqb line.0 k (above_it k line.0 a.0)) (not_listed k lines a.1)

abbrev counted_at : List (ℕ × Ratio) → (ℕ → ℤ) → (ℕ → ℤ) → ℕ → ℤ
counted_at lines f h j = cond (is_listed lines j) (f j *ℤ h j) (pos 0)

line_sum : (n : ℕ) (f h : ℕ → ℤ) (lines : List (ℕ × Ratio)) → IsStrictlySortedBy nat_cmp (map (λ line. line.0) lines) → AllByRecursion (λ line. line.0 < n) lines
    → line_total (λ line. f line.0) h lines ≡ sum_below n (counted_at lines f h)
unfolding IsStrictlySortedBy
line_sum n f h [] s b = sym (sum_of_zeros n _ (λ j l. refl))
line_sum n f h (line ∷ lines) s b =
    ap (λ (v : ℤ). f line.0 *ℤ h line.0 +ℤ v) (line_sum n f h lines s.1 b.1)
    ∙ ap₂ ◌+ℤ◌ (sym at_it) (sum_same n _ _ (λ j l. sym (rest j (cases_eq j line.0))))
    ∙ sym (sum_at n line.0 (counted_at (line ∷ lines) f h) b.0)
  where
    at_it : counted_at (line ∷ lines) f h line.0 ≡ f line.0 *ℤ h line.0
    at_it = rw (eq-eqb line.0 line.0 refl)

    rest : (j : ℕ) → ((j ≡ line.0) ⊎ (j ≡ line.0 → ⊥)) → without line.0 (counted_at (line ∷ lines) f h) j ≡ counted_at lines f h j
    rest j (inl e) = rw (eq-eqb j line.0 e, e, not_listed line.0 lines s.0)
    rest j (inr e) = rw (ne_eqb j line.0 e, ne_eqb line.0 j (λ d. e (sym d)))

-- what is listed counts
listed_counts : (Counts : ℤ → Type 0) (count : ℕ → ℤ) (lines : List (ℕ × Ratio)) (j : ℕ) → AllByRecursion (λ line. Counts (count line.0)) lines → is_listed lines j ≡ true → Counts (count j)
listed_counts Counts count [] j a h = absurd (false≢true h)
listed_counts Counts count (line ∷ lines) j a h = go (cases_eq line.0 j) (λ k. listed_counts Counts count lines j a.1 k) h
  where
    go : ((line.0 ≡ j) ⊎ (line.0 ≡ j → ⊥)) → (is_listed lines j ≡ true → Counts (count j)) → (eqb line.0 j || is_listed lines j) ≡ true → Counts (count j)
    go (inl e) later h = subst (λ (k : ℕ). Counts (count k)) e a.0
    go (inr e) later h = later (rw (ne_eqb line.0 j e) at h)

-- what counts a test of a listed number says
pub none_so : (is_so : ℕ → Bool) (lines : List (ℕ × Ratio)) (j : ℕ) → list_any (λ line. is_so line.0) lines ≡ false → is_listed lines j ≡ true → is_so j ≡ false
none_so is_so [] j a h = absurd (false≢true h)
none_so is_so (line ∷ lines) j a h = go (cases_eq line.0 j) (or_parts (is_so line.0) (list_any (λ line. is_so line.0) lines) a) (λ a h. none_so is_so lines j a h) h
  where
    go : ((line.0 ≡ j) ⊎ (line.0 ≡ j → ⊥)) → ((is_so line.0 ≡ false) × (list_any (λ line. is_so line.0) lines ≡ false))
        → (list_any (λ line. is_so line.0) lines ≡ false → is_listed lines j ≡ true → is_so j ≡ false) → (eqb line.0 j || is_listed lines j) ≡ true → is_so j ≡ false
    go (inl e) both later h = ap is_so (sym e) ∙ both.0
    go (inr e) both later h = later both.1 (rw (ne_eqb line.0 j e) at h)

-- the positive part of a count
abbrev pub positive_part : ℤ → ℤ
positive_part (pos n) = pos n
positive_part (negsuc n) = pos 0

part_of_positive : (m : ℤ) → pos 0 <ℤ m → positive_part m ≡ m
part_of_positive (pos n) h = refl
part_of_positive (negsuc n) h = absurd (omega (arith, ints))

part_of_other : (m : ℤ) → (pos 0 <ℤ m → ⊥) → positive_part m ≡ pos 0
part_of_other (pos zero) h = refl
part_of_other (pos (suc n)) h = absurd (h (omega (arith, ints)))
part_of_other (negsuc n) h = refl

no_count : (v : ℤ) → pos 0 *ℤ v ≡ pos 0
no_count v = omega (arith, ints)

module _ (n d e : ℕ) (count : ℕ → ℤ) (Counts : ℤ → Type 0) (lines : List (ℕ × Ratio)) (are : AreLinesOf n count Counts d lines) (z : ℕ → Fraction) (h : ℕ → ℤ) (p : 0 < d) (q : 0 < e)
    (numbers : (j : ℕ) → j < n → IsNumberOver (z j) (h j) e) where
  counts : AllByRecursion (λ line. Counts (count line.0)) lines
  counts = recursion_from_All (λ (line : ℕ × Ratio). Counts (count line.0)) lines (λ i none l. (are.each i none l).0)

  all_over : AllByRecursion (IsLineOver (λ line. count line.0) d z h e) lines
  all_over = recursion_from_All (IsLineOver (λ line. count line.0) d z h e) lines (λ i none l. record { factor = (are.each i none l).1; number = numbers _ (are.listed.below i none l) })

  below : AllByRecursion (λ line. line.0 < n) lines
  below = recursion_from_All (λ (line : ℕ × Ratio). line.0 < n) lines are.listed.below

  counted_over : IsNumberOver (sum_over_lines lines z) (sum_below n (counted_at lines count h)) (d * e)
  counted_over = rw (← line_sum n count h lines are.listed.ascend below) (weighed_over (λ line. count line.0) d z h e lines p q all_over)

  pub sum_over : (f : ℕ → ℤ) → ((j : ℕ) → j < n → Counts (count j) → f j ≡ count j) → ((j : ℕ) → j < n → (Counts (count j) → ⊥) → f j ≡ pos 0) → IsNumberOver (sum_over_lines lines z) (sum_below n (λ j. f j *ℤ h j)) (d * e)
  sum_over f some none = rw (← sum_same n (counted_at lines count h) (λ j. f j *ℤ h j) (λ j l. go j l (cases_Bool (is_listed lines j)))) counted_over
    where
      go : (j : ℕ) → j < n → ((is_listed lines j ≡ true) ⊎ (is_listed lines j ≡ false)) → counted_at lines count h j ≡ f j *ℤ h j
      go j l (inl b) = rw (b, some j l (listed_counts Counts count lines j counts b)) refl
      go j l (inr b) = rw (b, none j l (λ c. false≢true (sym b ∙ are.all j l c))) (sym (no_count (h j)))

pub some_sum : (n d e : ℕ) (count : ℕ → ℤ) (lines : List (ℕ × Ratio)) → AreLinesOf n count IsNonzero d lines → (z : ℕ → Fraction) (h : ℕ → ℤ) → 0 < d → 0 < e → ((j : ℕ) → j < n → IsNumberOver (z j) (h j) e)
    → IsNumberOver (sum_over_lines lines z) (sum_below n (λ j. count j *ℤ h j)) (d * e)
some_sum n d e count lines are z h p q numbers = sum_over n d e count IsNonzero lines are z h p q numbers count (λ j l c. refl) (λ j l c. none (count j) c)
  where
    none : (m : ℤ) → (m ≢ pos 0 → ⊥) → m ≡ pos 0
    none (pos zero) c = refl
    none (pos (suc n)) c = absurd (c (λ e. absurd (omega (arith, ints, e))))
    none (negsuc n) c = absurd (c (λ e. absurd (omega (arith, ints, e))))

pub positive_sum : (n d e : ℕ) (count : ℕ → ℤ) (lines : List (ℕ × Ratio)) → AreLinesOf n count IsPositive d lines → (z : ℕ → Fraction) (h : ℕ → ℤ) → 0 < d → 0 < e → ((j : ℕ) → j < n → IsNumberOver (z j) (h j) e)
    → IsNumberOver (sum_over_lines lines z) (sum_below n (λ j. positive_part (count j) *ℤ h j)) (d * e)
positive_sum n d e count lines are z h p q numbers =
    sum_over n d e count IsPositive lines are z h p q numbers (λ j. positive_part (count j)) (λ j l c. part_of_positive (count j) c) (λ j l c. part_of_other (count j) c)
