-- The places after an exchange.
use Rattle.std.proofs.Common.{◌≡◌, ◌≢◌, ℕ, ◌<◌, ◌≤◌, Bool, true, false, List, length, ◌⊎◌, inl, inr, refl, sym, ap, subst, ◌∙◌, arith, Some, slice_get}
use Rattle.std.specs.Prelude.{slice_set}
use Rattle.std.proofs.lemmas.Bool.{cases_eq, eq-eqb, ne_eqb}
use Rattle.std.proofs.lemmas.List.{get_or-set_same, get_or-set_other, length-set}
use Rattle.std.proofs.lemmas.Option.{slice_get_read, slice_get_within, get_or_from_slice_get}
use Rattle.xc_corners.specs.Choices.{corner_after_exchange}
use Rattle.xc_corners.specs.Corners.{Corner}
use Rattle.xc_corners.specs.Laws.{ExchangeMovesTwo}
use Rattle.xc_corners.specs.WholeNumbers.{whole_problem}
use Rattle.xc_corners.specs.declared.problem.Problem.{Problem}
use Rattle.xc_pivot.specs.States.{is_row, is_high, HasRow, HasColumn, IsInside, ArePlaces}
use Rattle.xc_pivot.specs.Steps.{left_place, is_left_high, places_after_exchange}
use Rattle.xc_pivot.specs.declared.types.Choice.{Choice}
use Rattle.xc_pivot.specs.declared.types.Place.{Place}
use Rattle.xc_pivot.specs.declared.types.Place.TheVariants.{Row, Low, High}
use Rattle.xc_pivot.proofs.Placed.{written_at, unwritten_at, row_within, column_within}

pub some_one : {X : Type 0} (xs : List X) (j : ℕ) (a b : X) → slice_get xs j ≡ Some a → slice_get xs j ≡ Some b → a ≡ b
some_one xs j a b e f = sym (get_or_from_slice_get xs j a a e) ∙ get_or_from_slice_get xs j b a f

left_row : (s : Bool) (c : ℕ) → is_row (left_place s c) ≡ false
left_row true c = refl
left_row false c = refl

left_high_is : (s : Bool) (c : ℕ) → is_high (left_place s c) ≡ s
left_high_is true c = refl
left_high_is false c = refl

row_same : (r s : ℕ) → Row r ≡ Row s → r ≡ s
row_same r s e = cc

no_row_low : (r c : ℕ) → Row r ≡ Low c → ⊥
no_row_low r c e = cc

no_row_high : (r c : ℕ) → Row r ≡ High c → ⊥
no_row_high r c e = cc

no_low_high : (c d : ℕ) → Low c ≡ High d → ⊥
no_low_high c d e = cc

left_low : (s : Bool) (c d : ℕ) → left_place s c ≡ Low d → d ≡ c
left_low true c d e = absurd (no_low_high d c (sym e))
left_low false c d e = cc

left_high_same : (s : Bool) (c d : ℕ) → left_place s c ≡ High d → d ≡ c
left_high_same true c d e = cc
left_high_same false c d e = absurd (no_low_high c d e)

left_no_row : (s : Bool) (c r : ℕ) → left_place s c ≡ Row r → ⊥
left_no_row true c r e = no_row_high r c (sym e)
left_no_row false c r e = no_row_low r c (sym e)

pub apart_row_column : (places : List Place) (j r c : ℕ) → HasRow places j r → HasColumn places j c → ⊥
apart_row_column places j r c h (inl l) = no_row_low r c (some_one places j (Row r) (Low c) h l)
apart_row_column places j r c h (inr l) = no_row_high r c (some_one places j (Row r) (High c) h l)

pub row_one : (places : List Place) (j r s : ℕ) → HasRow places j r → HasRow places j s → r ≡ s
row_one places j r s h l = row_same r s (some_one places j (Row r) (Row s) h l)

pub column_one : (places : List Place) (j c d : ℕ) → HasColumn places j c → HasColumn places j d → c ≡ d
column_one places j c d (inl h) (inl l) = let e : Low c ≡ Low d = some_one places j (Low c) (Low d) h l in cc
column_one places j c d (inr h) (inr l) = let e : High c ≡ High d = some_one places j (High c) (High d) h l in cc
column_one places j c d (inl h) (inr l) = absurd (no_low_high c d (some_one places j (Low c) (High d) h l))
column_one places j c d (inr h) (inl l) = absurd (no_low_high d c (some_one places j (Low d) (High c) l h))

written_there : {X : Type 0} (xs : List X) (i : ℕ) (v : X) → i < length xs → slice_get (slice_set xs i v) i ≡ Some v
written_there xs i v h = slice_get_read (slice_set xs i v) (length xs) i v (sym (length-set xs i v)) h (sym (get_or-set_same xs i v v h))

unwritten_there : {X : Type 0} (xs : List X) (i j : ℕ) (v x : X) → j ≢ i → slice_get xs j ≡ Some x → slice_get (slice_set xs i v) j ≡ Some x
unwritten_there xs i j v x n e = slice_get_read (slice_set xs i v) (length xs) j x (sym (length-set xs i v)) (slice_get_within xs j x e) (sym (get_or-set_other xs i j v x n ∙ get_or_from_slice_get xs j x x e))

module _ (problem : Problem) (m n : ℕ) (x : Corner) (places : List Place) (choice : Choice) (a : ArePlaces m n x places) (hb : HasRow places choice.leaving.variable choice.leaving.row) (hq : HasColumn places choice.entering.variable choice.entering.column) where
  abbrev b : ℕ
  b = choice.leaving.variable

  abbrev q : ℕ
  q = choice.entering.variable

  abbrev left : Place
  left = left_place (is_left_high problem choice) choice.entering.column

  abbrev new : List Place
  new = places_after_exchange problem choice places

  pub apart : b ≢ q
  apart e = apart_row_column places q choice.leaving.row choice.entering.column (subst (λ j. HasRow places j choice.leaving.row) e hb) hq

  pub new_count : length new ≡ length places
  new_count = length-set (slice_set places b left) q (Row choice.leaving.row) ∙ length-set places b left

  q_inside : q < length (slice_set places b left)
  q_inside = omega (arith, column_within places q choice.entering.column hq, length-set places b left)

  at_q : slice_get new q ≡ Some (Row choice.leaving.row)
  at_q = written_there (slice_set places b left) q (Row choice.leaving.row) q_inside

  at_b : slice_get new b ≡ Some left
  at_b = unwritten_there (slice_set places b left) q b (Row choice.leaving.row) left apart (written_there places b left (row_within places b choice.leaving.row hb))

  at_other : (j : ℕ) (place : Place) → j ≢ b → j ≢ q → slice_get places j ≡ Some place → slice_get new j ≡ Some place
  at_other j place k l e = unwritten_there (slice_set places b left) q j (Row choice.leaving.row) place l (unwritten_there places b j left place k e)

  from_q : (place : Place) → slice_get new q ≡ Some place → place ≡ Row choice.leaving.row
  from_q place e = some_one new q place (Row choice.leaving.row) e at_q

  from_b : (place : Place) → slice_get new b ≡ Some place → place ≡ left
  from_b place e = some_one new b place left e at_b

  from_other : (j : ℕ) (place : Place) → j ≢ b → j ≢ q → slice_get new j ≡ Some place → slice_get places j ≡ Some place
  from_other j place k l e = unwritten_at places b j left place k (unwritten_at (slice_set places b left) q j (Row choice.leaving.row) place l e)

  -- a variable that has a row afterwards: the entering one, or another that had it
  pub row_cases : (i r : ℕ) → HasRow new i r → ((i ≡ q) × (r ≡ choice.leaving.row)) ⊎ ((i ≢ b) × (i ≢ q) × HasRow places i r)
  row_cases i r h = go (cases_eq i q) (cases_eq i b)
    where
      go : ((i ≡ q) ⊎ (i ≢ q)) → ((i ≡ b) ⊎ (i ≢ b)) → ((i ≡ q) × (r ≡ choice.leaving.row)) ⊎ ((i ≢ b) × (i ≢ q) × HasRow places i r)
      go (inl e) d = inl (e, row_same r choice.leaving.row (from_q (Row r) (subst (λ j. slice_get new j ≡ Some (Row r)) e h)))
      go (inr e) (inl d) = absurd (left_no_row (is_left_high problem choice) choice.entering.column r (sym (from_b (Row r) (subst (λ j. slice_get new j ≡ Some (Row r)) d h))))
      go (inr e) (inr d) = inr (d, e, from_other i (Row r) d e h)

  -- one that has a column: the leaving one, or another that had it
  pub column_cases : (i c : ℕ) → HasColumn new i c → ((i ≡ b) × (c ≡ choice.entering.column)) ⊎ ((i ≢ b) × (i ≢ q) × HasColumn places i c)
  column_cases i c h = go (cases_eq i q) (cases_eq i b) h
    where
      go : ((i ≡ q) ⊎ (i ≢ q)) → ((i ≡ b) ⊎ (i ≢ b)) → HasColumn new i c → ((i ≡ b) × (c ≡ choice.entering.column)) ⊎ ((i ≢ b) × (i ≢ q) × HasColumn places i c)
      go (inl e) d (inl h) = absurd (no_row_low choice.leaving.row c (sym (from_q (Low c) (subst (λ j. slice_get new j ≡ Some (Low c)) e h))))
      go (inl e) d (inr h) = absurd (no_row_high choice.leaving.row c (sym (from_q (High c) (subst (λ j. slice_get new j ≡ Some (High c)) e h))))
      go (inr e) (inl d) (inl h) = inl (d, left_low (is_left_high problem choice) choice.entering.column c (sym (from_b (Low c) (subst (λ j. slice_get new j ≡ Some (Low c)) d h))))
      go (inr e) (inl d) (inr h) = inl (d, left_high_same (is_left_high problem choice) choice.entering.column c (sym (from_b (High c) (subst (λ j. slice_get new j ≡ Some (High c)) d h))))
      go (inr e) (inr d) (inl h) = inr (d, e, inl (from_other i (Low c) d e h))
      go (inr e) (inr d) (inr h) = inr (d, e, inr (from_other i (High c) d e h))

  abbrev y : Corner
  y = corner_after_exchange (whole_problem problem) x choice.leaving.above b q

  entered_high : y.high q ≡ false
  unfolding corner_after_exchange
  entered_high = simp (eq-eqb q q refl)

  left_high : y.high b ≡ is_left_high problem choice
  unfolding corner_after_exchange
  left_high = simp (ne_eqb b q apart, eq-eqb b b refl)

  basic_told : ExchangeMovesTwo → (j : ℕ) (place : Place) → slice_get new j ≡ Some place → y.basic j ≡ is_row place
  basic_told law j place e = go (cases_eq j q) (cases_eq j b)
    where
      go : ((j ≡ q) ⊎ (j ≢ q)) → ((j ≡ b) ⊎ (j ≢ b)) → y.basic j ≡ is_row place
      go (inl f) d = ap y.basic f ∙ (law (whole_problem problem) x choice.leaving.above b q).entered ∙ ap is_row (sym (from_q place (subst (λ i. slice_get new i ≡ Some place) f e)))
      go (inr f) (inl d) = ap y.basic d ∙ (law (whole_problem problem) x choice.leaving.above b q).left apart ∙ sym (left_row (is_left_high problem choice) choice.entering.column) ∙ ap is_row (sym (from_b place (subst (λ i. slice_get new i ≡ Some place) d e)))
      go (inr f) (inr d) = (law (whole_problem problem) x choice.leaving.above b q).basic j d f ∙ a.basic j place (from_other j place d f e)

  high_told : ExchangeMovesTwo → (j : ℕ) (place : Place) → slice_get new j ≡ Some place → y.high j ≡ is_high place
  high_told law j place e = go (cases_eq j q) (cases_eq j b)
    where
      go : ((j ≡ q) ⊎ (j ≢ q)) → ((j ≡ b) ⊎ (j ≢ b)) → y.high j ≡ is_high place
      go (inl f) d = ap y.high f ∙ entered_high ∙ ap is_high (sym (from_q place (subst (λ i. slice_get new i ≡ Some place) f e)))
      go (inr f) (inl d) = ap y.high d ∙ left_high ∙ sym (left_high_is (is_left_high problem choice) choice.entering.column) ∙ ap is_high (sym (from_b place (subst (λ i. slice_get new i ≡ Some place) d e)))
      go (inr f) (inr d) = (law (whole_problem problem) x choice.leaving.above b q).high j d f ∙ a.high j place (from_other j place d f e)

  one_row : (i j r : ℕ) → HasRow new i r → HasRow new j r → i ≡ j
  one_row i j r h l = go (row_cases i r h) (row_cases j r l)
    where
      go : (((i ≡ q) × (r ≡ choice.leaving.row)) ⊎ ((i ≢ b) × (i ≢ q) × HasRow places i r)) → (((j ≡ q) × (r ≡ choice.leaving.row)) ⊎ ((j ≢ b) × (j ≢ q) × HasRow places j r)) → i ≡ j
      go (inl e) (inl f) = e.0 ∙ sym f.0
      go (inl e) (inr f) = absurd (f.0 (a.one_row j b r f.2 (subst (λ s. HasRow places b s) (sym e.1) hb)))
      go (inr e) (inl f) = absurd (e.0 (a.one_row i b r e.2 (subst (λ s. HasRow places b s) (sym f.1) hb)))
      go (inr e) (inr f) = a.one_row i j r e.2 f.2

  one_column : (i j c : ℕ) → HasColumn new i c → HasColumn new j c → i ≡ j
  one_column i j c h l = go (column_cases i c h) (column_cases j c l)
    where
      go : (((i ≡ b) × (c ≡ choice.entering.column)) ⊎ ((i ≢ b) × (i ≢ q) × HasColumn places i c)) → (((j ≡ b) × (c ≡ choice.entering.column)) ⊎ ((j ≢ b) × (j ≢ q) × HasColumn places j c)) → i ≡ j
      go (inl e) (inl f) = e.0 ∙ sym f.0
      go (inl e) (inr f) = absurd (f.1 (a.one_column j q c f.2 (subst (λ s. HasColumn places q s) (sym e.1) hq)))
      go (inr e) (inl f) = absurd (e.1 (a.one_column i q c e.2 (subst (λ s. HasColumn places q s) (sym f.1) hq)))
      go (inr e) (inr f) = a.one_column i j c e.2 f.2

  column_there : (i c : ℕ) → i ≢ b → i ≢ q → HasColumn places i c → HasColumn new i c
  column_there i c k l (inl h) = inl (at_other i (Low c) k l h)
  column_there i c k l (inr h) = inr (at_other i (High c) k l h)

  left_column : (s : Bool) → slice_get new b ≡ Some (left_place s choice.entering.column) → HasColumn new b choice.entering.column
  left_column true e = inr e
  left_column false e = inl e

  each_row : (r : ℕ) → r < m → (j : ℕ) × HasRow new j r
  each_row r h = go (cases_eq r choice.leaving.row) (a.each_row r h)
    where
      go : ((r ≡ choice.leaving.row) ⊎ (r ≢ choice.leaving.row)) → ((j : ℕ) × HasRow places j r) → (j : ℕ) × HasRow new j r
      go (inl e) k = (q, subst (λ s. HasRow new q s) (sym e) at_q)
      go (inr e) k = (k.0, at_other k.0 (Row r) (λ f. e (row_one places b r choice.leaving.row (subst (λ j. HasRow places j r) f k.1) hb)) (λ f. apart_row_column places q r choice.entering.column (subst (λ j. HasRow places j r) f k.1) hq) k.1)

  each_column : (c : ℕ) → c < n → (j : ℕ) × HasColumn new j c
  each_column c h = go (cases_eq c choice.entering.column) (a.each_column c h)
    where
      go : ((c ≡ choice.entering.column) ⊎ (c ≢ choice.entering.column)) → ((j : ℕ) × HasColumn places j c) → (j : ℕ) × HasColumn new j c
      go (inl e) k = (b, subst (λ s. HasColumn new b s) (sym e) (left_column (is_left_high problem choice) at_b))
      go (inr e) k = (k.0, column_there k.0 c (λ f. apart_row_column places b choice.leaving.row c hb (subst (λ j. HasColumn places j c) f k.1)) (λ f. e (column_one places q c choice.entering.column (subst (λ j. HasColumn places j c) f k.1) hq)) k.1)

  no_others : ExchangeMovesTwo → (j : ℕ) → length new ≤ j → (y.basic j ≡ false) × (y.high j ≡ false)
  no_others law j h =
      let k : j ≢ b = λ e. omega (arith, row_within places b choice.leaving.row hb, new_count, e) in
      let l : j ≢ q = λ e. omega (arith, column_within places q choice.entering.column hq, new_count, e) in
      let old = a.no_others j (omega (arith, new_count)) in
      ((law (whole_problem problem) x choice.leaving.above b q).basic j k l ∙ old.0, (law (whole_problem problem) x choice.leaving.above b q).high j k l ∙ old.1)

  pub places_next : ExchangeMovesTwo → ArePlaces m n y new
  places_next law = record { basic = basic_told law; high = high_told law; one_row = one_row; one_column = one_column; each_row = each_row; each_column = each_column; no_others = no_others law }

left_inside : (m n c : ℕ) (s : Bool) → c < n → IsInside m n (left_place s c)
left_inside m n c true h = h
left_inside m n c false h = h

-- the new places are inside the table
pub inside_next : (problem : Problem) (m n : ℕ) (places : List Place) (choice : Choice) → choice.leaving.variable < length places → choice.entering.variable < length places → choice.leaving.row < m → choice.entering.column < n
    → ((j : ℕ) (place : Place) → slice_get places j ≡ Some place → IsInside m n place) → (j : ℕ) (place : Place) → slice_get (places_after_exchange problem choice places) j ≡ Some place → IsInside m n place
inside_next problem m n places choice lb lq hr hc old j place e = go (cases_eq j choice.entering.variable) (cases_eq j choice.leaving.variable)
  where
    go : ((j ≡ choice.entering.variable) ⊎ (j ≢ choice.entering.variable)) → ((j ≡ choice.leaving.variable) ⊎ (j ≢ choice.leaving.variable)) → IsInside m n place
    go (inl f) d =
        let is = written_at (slice_set places choice.leaving.variable (left_place (is_left_high problem choice) choice.entering.column)) choice.entering.variable (Row choice.leaving.row) place (omega (arith, length-set places choice.leaving.variable (left_place (is_left_high problem choice) choice.entering.column))) (subst (λ i. slice_get (places_after_exchange problem choice places) i ≡ Some place) f e) in
        subst (λ (z : Place). IsInside m n z) (sym is) hr
    go (inr f) (inl d) =
        let there = unwritten_at (slice_set places choice.leaving.variable (left_place (is_left_high problem choice) choice.entering.column)) choice.entering.variable j (Row choice.leaving.row) place f e in
        let is = written_at places choice.leaving.variable (left_place (is_left_high problem choice) choice.entering.column) place lb (subst (λ i. slice_get (slice_set places choice.leaving.variable (left_place (is_left_high problem choice) choice.entering.column)) i ≡ Some place) d there) in
        subst (λ (z : Place). IsInside m n z) (sym is) (left_inside m n choice.entering.column (is_left_high problem choice) hc)
    go (inr f) (inr d) =
        let there = unwritten_at (slice_set places choice.leaving.variable (left_place (is_left_high problem choice) choice.entering.column)) choice.entering.variable j (Row choice.leaving.row) place f e in
        old j place (unwritten_at places choice.leaving.variable j (left_place (is_left_high problem choice) choice.entering.column) place d there)

pub replaced_count : (problem : Problem) (choice : Choice) (places : List Place) → length (places_after_exchange problem choice places) ≡ length places
replaced_count problem choice places = length-set (slice_set places choice.leaving.variable (left_place (is_left_high problem choice) choice.entering.column)) choice.entering.variable (Row choice.leaving.row) ∙ length-set places choice.leaving.variable (left_place (is_left_high problem choice) choice.entering.column)
