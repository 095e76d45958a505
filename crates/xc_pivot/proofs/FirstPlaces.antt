-- The places at the first corner tell it.
use Rattle.std.proofs.Common.{◌≡◌, ℕ, ◌+◌, ◌-◌, ◌<◌, ◌≤◌, Bool, true, false, ◌&&◌, List, [], ◌∷◌, ◌++◌, length, get_or, ◌⊎◌, inl, inr, refl, sym, ap, subst, ◌∙◌, arith, Some, None, slice_get}
use Rattle.std.specs.Prelude.{nat_lt, nat_le}
use Rattle.std.proofs.lemmas.Bool.{cases_lt, lt-ltb}
use borrow.Author.Tests.{ltb-true}
use Rattle.std.proofs.lemmas.List.{length_push}
use Rattle.std.proofs.Math.ListN.{get_or-append}
use Rattle.std.proofs.Math.Seq.{get_or-append_seam}
use Rattle.std.proofs.lemmas.Option.{slice_get_within, get_or_from_slice_get, slice_get_read, slice_get_cases}
use Rattle.xc_corners.specs.Choices.{first_corner}
use Rattle.xc_corners.specs.Corners.{variables}
use Rattle.xc_corners.specs.Laws.{FirstAreRows}
use Rattle.xc_corners.specs.Problems.{WholeProblem}
use Rattle.xc_pivot.specs.Firsts.{first_place, AreFirstPlaces}
use Rattle.xc_pivot.specs.States.{is_row, is_high, HasRow, HasColumn, IsInside, ArePlaces}
use Rattle.xc_pivot.specs.declared.types.Place.{Place}
use Rattle.xc_pivot.specs.declared.types.Place.TheVariants.{Row, Low, High}

-- one place more
pub pushed_first : (n : ℕ) (xs : List Place) (y : Place) → AreFirstPlaces n xs → y ≡ first_place n (length xs) → AreFirstPlaces n (xs ++ y ∷ [])
pushed_first n xs y all e j place h = go (cases_lt j (length xs))
  where
    within : j < length xs + 1
    within = omega (arith, slice_get_within (xs ++ y ∷ []) j place h, length_push xs y)

    read : get_or (xs ++ y ∷ []) j place ≡ place
    read = get_or_from_slice_get (xs ++ y ∷ []) j place place h

    go : ((j < length xs) ⊎ (length xs ≤ j)) → place ≡ first_place n j
    go (inl k) = all j place (slice_get_read xs (length xs) j place refl k (sym read ∙ get_or-append xs (y ∷ []) place j k))
    go (inr k) =
        let last : j ≡ length xs = omega (arith, within) in
        sym read ∙ ap (λ i. get_or (xs ++ y ∷ []) i place) last ∙ get_or-append_seam xs y [] place ∙ e ∙ ap (λ i. first_place n i) (sym last)

low_first : (n j : ℕ) → j < n → first_place n j ≡ Low j
low_first n j h = rw (lt-ltb j n h)

not_less : (a b : ℕ) (s : Bool) → b ≤ a → nat_lt a b ≡ s → nat_lt a b ≡ false
not_less a b false k e = e
not_less a b true k e = absurd (omega (arith, ltb-true a b e))

row_first : (n j : ℕ) → n ≤ j → first_place n j ≡ Row (j - n)
row_first n j h = rw (not_less j n (nat_lt j n) h refl)

no_row_low : (r c : ℕ) → Row r ≡ Low c → ⊥
no_row_low r c e = cc

no_row_high : (r c : ℕ) → Row r ≡ High c → ⊥
no_row_high r c e = cc

no_low_high : (c d : ℕ) → Low c ≡ High d → ⊥
no_low_high c d e = cc

row_same : (r s : ℕ) → Row r ≡ Row s → r ≡ s
row_same r s e = cc

low_same : (r s : ℕ) → Low r ≡ Low s → r ≡ s
low_same r s e = cc

module _ (n m : ℕ) (places : List Place) (all : AreFirstPlaces n places) (count : length places ≡ n + m) where
  -- the row of a variable, and its column
  pub row_is : (i r : ℕ) → HasRow places i r → i ≡ n + r
  row_is i r h = go (cases_lt i n)
    where
      go : ((i < n) ⊎ (n ≤ i)) → i ≡ n + r
      go (inl k) = absurd (no_row_low r i (all i (Row r) h ∙ low_first n i k))
      go (inr k) = omega (arith, row_same r (i - n) (all i (Row r) h ∙ row_first n i k))

  pub column_is : (j c : ℕ) → HasColumn places j c → j ≡ c
  column_is j c (inl h) = go (cases_lt j n)
    where
      go : ((j < n) ⊎ (n ≤ j)) → j ≡ c
      go (inl k) = sym (low_same c j (all j (Low c) h ∙ low_first n j k))
      go (inr k) = absurd (no_row_low (j - n) c (sym (all j (Low c) h ∙ row_first n j k)))
  column_is j c (inr h) = go (cases_lt j n)
    where
      go : ((j < n) ⊎ (n ≤ j)) → j ≡ c
      go (inl k) = absurd (no_low_high j c (sym (all j (High c) h ∙ low_first n j k)))
      go (inr k) = absurd (no_row_high (j - n) c (sym (all j (High c) h ∙ row_first n j k)))

  there : (j : ℕ) → j < length places → slice_get places j ≡ Some (first_place n j)
  there j h = go (slice_get_cases places j).1
    where
      go : (((p : Place) × (j < length places) × (slice_get places j ≡ Some p) × (get_or places j p ≡ p)) ⊎ ((length places ≤ j) × (slice_get places j ≡ None))) → slice_get places j ≡ Some (first_place n j)
      go (inl s) = s.2 ∙ ap (λ (p : Place). Some p) (all j s.0 s.2)
      go (inr s) = absurd (omega (arith, s.0))

  pub first_inside : (j : ℕ) (place : Place) → slice_get places j ≡ Some place → IsInside m n place
  first_inside j place e = go (cases_lt j n)
    where
      go : ((j < n) ⊎ (n ≤ j)) → IsInside m n place
      go (inl k) = subst (λ (p : Place). IsInside m n p) (sym (all j place e ∙ low_first n j k)) k
      go (inr k) = subst (λ (p : Place). IsInside m n p) (sym (all j place e ∙ row_first n j k)) (omega (arith, slice_get_within places j place e, count))

  module _ (law : FirstAreRows) (p : WholeProblem) (ranges : length p.ranges ≡ n) (vars : variables p ≡ n + m) where
    basic_first : (j : ℕ) (place : Place) → slice_get places j ≡ Some place → (first_corner p).basic j ≡ is_row place
    basic_first j place e = go (cases_lt j n)
      where
        go : ((j < n) ⊎ (n ≤ j)) → (first_corner p).basic j ≡ is_row place
        go (inl k) = (law p j).1 (omega (arith, ranges)) ∙ ap is_row (sym (all j place e ∙ low_first n j k))
        go (inr k) = (law p j).0 (omega (arith, ranges)) (omega (arith, vars, slice_get_within places j place e, count)) ∙ ap is_row (sym (all j place e ∙ row_first n j k))

    high_first : (j : ℕ) (place : Place) → slice_get places j ≡ Some place → (first_corner p).high j ≡ is_high place
    unfolding first_corner
    high_first j place e = go (cases_lt j n)
      where
        go : ((j < n) ⊎ (n ≤ j)) → false ≡ is_high place
        go (inl k) = ap is_high (sym (all j place e ∙ low_first n j k))
        go (inr k) = ap is_high (sym (all j place e ∙ row_first n j k))

    each_row : (r : ℕ) → r < m → (j : ℕ) × HasRow places j r
    each_row r h = (n + r, there (n + r) (omega arith) ∙ ap (λ (q : Place). Some q) (row_first n (n + r) (omega arith) ∙ ap (λ k. Row k) (let e : n + r - n ≡ r = omega arith in e)))

    each_column : (c : ℕ) → c < n → (j : ℕ) × HasColumn places j c
    each_column c h = (c, inl (there c (omega arith) ∙ ap (λ (q : Place). Some q) (low_first n c h)))

    none_after : (j : ℕ) → length places ≤ j → ((first_corner p).basic j ≡ false) × ((first_corner p).high j ≡ false)
    unfolding first_corner
    none_after j h = (go (nat_le (length p.ranges) j) (not_less j (variables p) (nat_lt j (variables p)) (omega (arith, vars, count)) refl), refl)
      where
        go : (s : Bool) → nat_lt j (variables p) ≡ false → (s && nat_lt j (variables p)) ≡ false
        go true e = e
        go false e = refl

    pub first_placed : ArePlaces m n (first_corner p) places
    first_placed = record {
      basic = basic_first;
      high = high_first;
      one_row = λ i j r h l. row_is i r h ∙ sym (row_is j r l);
      one_column = λ i j c h l. column_is i c h ∙ sym (column_is j c l);
      each_row = each_row;
      each_column = each_column;
      no_others = none_after;
    }
