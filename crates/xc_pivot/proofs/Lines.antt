-- Lines of counts, one number after another.
use Rattle.std.proofs.Common.{◌≡◌, ◌==◌, ℕ, ◌+◌, ◌<◌, ◌≤◌, ◌||◌, Bool, true, false, if◌then◌else◌, ℤ, List, [], ◌∷◌, ◌++◌, map, ◌⊎◌, inl, inr, refl, sym, ap, subst, ◌∙◌, arith, All}
use Rattle.std.specs.Prelude.{IsTrue}
use Rattle.std.proofs.lemmas.Bool.{cases_lt, eq-eqb, false≢true}
use Rattle.std.proofs.lemmas.List.Elements.{recursion_from_All, All-from_recursion}
use Rattle.std.proofs.lemmas.List.Folds.{list_any-append}
use Rattle.std.specs.List.{AllByRecursion, list_any}
use Rattle.std.specs.List.Sorted.{IsStrictlySortedBy}
use Rattle.std.specs.Ordering.{nat_cmp}
use Rattle.xc_corners.specs.Conflicts.{AreLinesOf}
use Rattle.xc_model.specs.Ratio.{Ratio, IsOver}
use Rattle.xc_pivot.proofs.Listed.{push_ascends, none_yet_ascends}

push_all : (P : (ℕ × Ratio) → Type 0) (xs : List (ℕ × Ratio)) (x : ℕ × Ratio) → AllByRecursion P xs → P x → AllByRecursion P (xs ++ x ∷ [])
push_all P [] x all h = (h, tt)
push_all P (y ∷ ys) x all h = (all.0, push_all P ys x all.1 h)

pub all_pushed : (P : (ℕ × Ratio) → Type 0) (xs : List (ℕ × Ratio)) (x : ℕ × Ratio) → All P xs → P x → All P (xs ++ x ∷ [])
all_pushed P xs x all h = All-from_recursion P (xs ++ x ∷ []) (push_all P xs x (recursion_from_All P xs all) h)

numbers_pushed : (xs : List (ℕ × Ratio)) (x : ℕ × Ratio) → map (λ line. line.0) (xs ++ x ∷ []) ≡ map (λ line. line.0) xs ++ x.0 ∷ []
numbers_pushed [] x = refl
numbers_pushed (y ∷ ys) x = ap (λ (ns : List ℕ). y.0 ∷ ns) (numbers_pushed ys x)

numbers_below : (xs : List (ℕ × Ratio)) (n : ℕ) → AllByRecursion (λ line. line.0 < n) xs → AllByRecursion (λ k. k < n) (map (λ line. line.0) xs)
numbers_below [] n all = tt
numbers_below (x ∷ xs) n all = (all.0, numbers_below xs n all.1)

or_end : (a b : Bool) → a ≡ true → (a || (b || false)) ≡ true
or_end true b h = refl
or_end false b h = absurd (false≢true h)

or_last : (a b : Bool) → b ≡ true → (a || (b || false)) ≡ true
or_last true b h = refl
or_last false true h = refl
or_last false false h = absurd (false≢true h)

still_listed : (xs : List (ℕ × Ratio)) (x : ℕ × Ratio) (j : ℕ) → list_any (λ line. line.0 == j) xs ≡ true → list_any (λ line. line.0 == j) (xs ++ x ∷ []) ≡ true
still_listed xs x j h = list_any-append (λ line. line.0 == j) xs (x ∷ []) ∙ or_end (list_any (λ line. line.0 == j) xs) (x.0 == j) h

now_listed : (xs : List (ℕ × Ratio)) (x : ℕ × Ratio) (j : ℕ) → x.0 ≡ j → list_any (λ line. line.0 == j) (xs ++ x ∷ []) ≡ true
now_listed xs x j h = list_any-append (λ line. line.0 == j) xs (x ∷ []) ∙ or_last (list_any (λ line. line.0 == j) xs) (x.0 == j) (eq-eqb x.0 j h)

pub no_lines : (count : ℕ → ℤ) (Counts : ℤ → Type 0) (d : ℕ) → AreLinesOf 0 count Counts d []
no_lines count Counts d = record {
  listed = record { ascend = none_yet_ascends; below = λ i none l. absurd (omega (arith, l)) };
  each = λ i none l. absurd (omega (arith, l));
  all = λ j l c. absurd (omega (arith, l));
}

module _ (k : ℕ) (count : ℕ → ℤ) (Counts : ℤ → Type 0) (d : ℕ) (lines : List (ℕ × Ratio)) (f : Ratio) (known : AreLinesOf k count Counts d lines) where
  pushed : IsOver f (count k) d → Counts (count k) → AreLinesOf (k + 1) count Counts d (lines ++ (k, f) ∷ [])
  pushed over counts = record {
    listed = record {
      ascend = subst (λ (ns : List ℕ). IsStrictlySortedBy nat_cmp ns) (sym (numbers_pushed lines (k, f)))
          (push_ascends (map (λ line. line.0) lines) k known.listed.ascend (All-from_recursion (λ (i : ℕ). i < k) (map (λ line. line.0) lines) (numbers_below lines k (recursion_from_All (λ (line : ℕ × Ratio). line.0 < k) lines known.listed.below))));
      below = all_pushed (λ (line : ℕ × Ratio). line.0 < k + 1) lines (k, f) (λ i none l. let h = known.listed.below i none l in omega (arith, h)) (omega arith);
    };
    each = all_pushed (λ (line : ℕ × Ratio). Counts (count line.0) × IsOver line.1 (count line.0) d) lines (k, f) known.each (counts, over);
    all = λ j l c. go j l c (cases_lt j k);
  }
    where
      go : (j : ℕ) → j < k + 1 → Counts (count j) → ((j < k) ⊎ (k ≤ j)) → IsTrue (list_any (λ line. line.0 == j) (lines ++ (k, f) ∷ []))
      go j l c (inl h) = still_listed lines (k, f) j (known.all j h c)
      go j l c (inr h) = now_listed lines (k, f) j (omega (arith, l, h))

  kept : ¬ Counts (count k) → AreLinesOf (k + 1) count Counts d lines
  kept none = record {
    listed = record { ascend = known.listed.ascend; below = λ i e l. let h = known.listed.below i e l in omega (arith, h) };
    each = known.each;
    all = λ j l c. go j l c (cases_lt j k);
  }
    where
      go : (j : ℕ) → j < k + 1 → Counts (count j) → ((j < k) ⊎ (k ≤ j)) → IsTrue (list_any (λ line. line.0 == j) lines)
      go j l c (inl h) = known.all j h c
      go j l c (inr h) = let same : j ≡ k = omega (arith, l, h) in absurd (none (subst (λ (i : ℕ). Counts (count i)) same c))

  -- one number more, listed where it counts
  pub one_line : IsOver f (count k) d → (b : Bool) → (IsTrue b → Counts (count k)) × (Counts (count k) → IsTrue b) → AreLinesOf (k + 1) count Counts d (if b then lines ++ (k, f) ∷ [] else lines)
  one_line over true h = pushed over (h.0 refl)
  one_line over false h = kept (λ c. false≢true (h.1 c))
