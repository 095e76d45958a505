-- The operations of an exchange in the table are those at the corner.
use Rattle.std.proofs.Common.{◌≡◌, ◌≢◌, ℕ, ◌+◌, ◌*◌, ◌<◌, ◌≤◌, true, false, List, length, get_or, ◌⊎◌, inl, inr, sym, subst, ◌∙◌, arith, Some, None, slice_get}
use Rattle.std.proofs.lemmas.Bool.{false≢true}
use Rattle.std.proofs.lemmas.Option.{slice_get_cases}
use Rattle.xc_model.proofs.Results.{over_one}
use Rattle.xc_lists.proofs.RowPlaces.{entry_there, place_below}
use Rattle.xc_corners.specs.Corners.{variables, Corner, Factors}
use Rattle.xc_corners.specs.Operations.{IsOwnFactor, IsOtherFactor, IsProductFactor, IsFactor, IsBasic, IsOther, StandsInExchange, own_divided, other_divided, own_times, other_times, other_added}
use Rattle.xc_corners.specs.Problems.{WholeProblem}
use Rattle.xc_corners.specs.WholeNumbers.{whole_problem}
use Rattle.xc_corners.specs.declared.problem.Problem.{Problem}
use Rattle.xc_frac.specs.declared.wide.Wide.{Wide}
use Rattle.xc_model.specs.Ratio.{Ratio}
use Rattle.xc_tableau.specs.Tables.{Table, Has, IsFilled}
use Rattle.xc_pivot.specs.States.{HasRow, HasColumn, ArePlaces, AreFactors, IsAt}
use Rattle.xc_pivot.specs.Steps.{AreBasicAt}
use Rattle.xc_pivot.specs.declared.types.Choice.{Choice}
use Rattle.xc_pivot.specs.declared.types.State.{State}
use Rattle.xc_pivot.specs.declared.types.Place.{Place}
use Rattle.xc_pivot.specs.declared.types.Place.TheVariants.{Row, Low, High}
use Rattle.xc_pivot.proofs.Placed.{row_basic, column_other, row_within, column_within}
use Rattle.xc_pivot.proofs.Replaced.{row_one, column_one}

-- each variable that is basic has a row, and each other one a column
module _ (m n : ℕ) (x : Corner) (places : List Place) (a : ArePlaces m n x places) where
  place_of : (j : ℕ) → j < length places → (place : Place) × (slice_get places j ≡ Some place)
  place_of j h = go (slice_get_cases places j).1
    where
      go : (((p : Place) × (j < length places) × (slice_get places j ≡ Some p) × (get_or places j p ≡ p)) ⊎ ((length places ≤ j) × (slice_get places j ≡ None))) → (place : Place) × (slice_get places j ≡ Some place)
      go (inl s) = (s.0, s.2)
      go (inr s) = absurd (omega (arith, s.0))

  pub row_of : (j : ℕ) → j < length places → x.basic j ≡ true → (r : ℕ) × HasRow places j r
  row_of j h basic = go (place_of j h).0 (place_of j h).1
    where
      go : (place : Place) → slice_get places j ≡ Some place → (r : ℕ) × HasRow places j r
      go (Row r) e = (r, e)
      go (Low c) e = absurd (false≢true (sym (a.basic j (Low c) e) ∙ basic))
      go (High c) e = absurd (false≢true (sym (a.basic j (High c) e) ∙ basic))

  pub column_of : (j : ℕ) → j < length places → x.basic j ≡ false → (c : ℕ) × HasColumn places j c
  column_of j h other = go (place_of j h).0 (place_of j h).1
    where
      go : (place : Place) → slice_get places j ≡ Some place → (c : ℕ) × HasColumn places j c
      go (Row r) e = absurd (false≢true (sym other ∙ a.basic j (Row r) e))
      go (Low c) e = (c, inl e)
      go (High c) e = (c, inr e)

module _ (p : WholeProblem) (m n : ℕ) (x : Corner) (t : Factors) (table : Table) (places : List Place) (a : ArePlaces m n x places) (f : AreFactors table places t) (filled : IsFilled table) (rows : table.rows ≡ m) (columns : table.columns ≡ n)
    (vars : length places ≡ variables p) (row_in : (j r : ℕ) → HasRow places j r → r < m) (column_in : (j c : ℕ) → HasColumn places j c → c < n) (b q row column : ℕ) (hb : HasRow places b row) (hq : HasColumn places q column) where
  in_row : (j r : ℕ) → HasRow places j r → r < table.rows
  in_row j r h = omega (arith, row_in j r h, rows)

  in_column : (j c : ℕ) → HasColumn places j c → c < table.columns
  in_column j c h = omega (arith, column_in j c h, columns)

  -- the fraction of a factor is the entry of the table
  has_factor : (k j r c : ℕ) (g : Ratio) → HasRow places k r → HasColumn places j c → IsFactor t k j g → Has table r c g
  has_factor k j r c g h l is =
      let entry = entry_there table.entries (r * table.columns + c) (omega (arith, filled, place_below r c table.rows table.columns (in_row k r h) (in_column j c l))) in
      subst (λ (u : Ratio). Has table r c u) (over_one entry.0 g (t.factor k j) t.over (f k j r c entry.0 h l entry.1) is) entry.1

  own_in : (u : Ratio) → IsOwnFactor (IsFactor t) b q u → IsOwnFactor (Has table) row column u
  own_in u o = record { one = o.one; is_one = o.is_one; pivot = o.pivot; is_pivot = has_factor b q row column o.pivot hb hq o.is_pivot; gives = o.gives }

  other_in : (j c : ℕ) (u : Ratio) → HasColumn places j c → IsOtherFactor (IsFactor t) b q j u → IsOtherFactor (Has table) row column c u
  other_in j c u h o = record { factor = o.factor; is_factor = has_factor b j row c o.factor hb h o.is_factor; negative = o.negative; is_negative = o.is_negative; pivot = o.pivot; is_pivot = has_factor b q row column o.pivot hb hq o.is_pivot; gives = o.gives }

  product_in : (k r j c : ℕ) (u : Ratio) → HasRow places k r → HasColumn places j c → IsProductFactor (IsFactor t) b q k j u → IsProductFactor (Has table) row column r c u
  product_in k r j c u h l o = record { factor = o.factor; is_factor = has_factor k q r column o.factor h hq o.is_factor; other = o.other; is_other = other_in j c o.other l o.is_other; gives = o.gives }

  row_apart : (k r : ℕ) → HasRow places k r → k ≢ b → r ≢ row
  row_apart k r h n e = n (a.one_row k b r h (subst (λ s. HasRow places b s) (sym e) hb))

  column_apart : (j c : ℕ) → HasColumn places j c → j ≢ q → c ≢ column
  column_apart j c h n e = n (a.one_column j q c h (subst (λ s. HasColumn places q s) (sym e) hq))

  basic_row : (k : ℕ) → IsBasic p x k → (r : ℕ) × HasRow places k r
  basic_row k h = row_of m n x places a k (let inside : k < length places = omega (arith, h.0, vars) in inside) h.1

  other_column : (j : ℕ) → IsOther p x j → (c : ℕ) × HasColumn places j c
  other_column j h = column_of m n x places a j (let inside : j < length places = omega (arith, h.0, vars) in inside) h.1

  pub into_table : (w : Wide) → StandsInExchange (IsBasic p x) (IsOther p x) (IsFactor t) b q w → StandsInExchange (λ k. k < table.rows) (λ j. j < table.columns) (Has table) row column w
  into_table w (own_divided one g is_one is_pivot e) = own_divided one g is_one (has_factor b q row column g hb hq is_pivot) e
  into_table w (other_divided j g u h is_other apart is_factor is_negative is_pivot e) =
      let c = other_column j is_other in
      other_divided c.0 g u h (in_column j c.0 c.1) (column_apart j c.0 c.1 apart) (has_factor b j row c.0 g hb c.1 is_factor) is_negative (has_factor b q row column h hb hq is_pivot) e
  into_table w (own_times k g u is_basic apart is_factor is_own e) =
      let r = basic_row k is_basic in
      own_times r.0 g u (in_row k r.0 r.1) (row_apart k r.0 r.1 apart) (has_factor k q r.0 column g r.1 hq is_factor) (own_in u is_own) e
  into_table w (other_times k j g u is_basic apart is_other aside is_factor is_product e) =
      let r = basic_row k is_basic in
      let c = other_column j is_other in
      other_times r.0 c.0 g u (in_row k r.0 r.1) (row_apart k r.0 r.1 apart) (in_column j c.0 c.1) (column_apart j c.0 c.1 aside) (has_factor k q r.0 column g r.1 hq is_factor) (other_in j c.0 u c.1 is_product) e
  into_table w (other_added k j g u is_basic apart is_other aside is_factor is_product e) =
      let r = basic_row k is_basic in
      let c = other_column j is_other in
      other_added r.0 c.0 g u (in_row k r.0 r.1) (row_apart k r.0 r.1 apart) (in_column j c.0 c.1) (column_apart j c.0 c.1 aside) (has_factor k j r.0 c.0 g r.1 c.1 is_factor) (product_in k r.0 j c.0 u r.1 c.1 is_product) e

  -- ---- and back

  own_out : (u : Ratio) → IsOwnFactor (Has table) row column u → IsOwnFactor (IsFactor t) b q u
  own_out u o = record { one = o.one; is_one = o.is_one; pivot = o.pivot; is_pivot = f b q row column o.pivot hb hq o.is_pivot; gives = o.gives }

  other_out : (j c : ℕ) (u : Ratio) → HasColumn places j c → IsOtherFactor (Has table) row column c u → IsOtherFactor (IsFactor t) b q j u
  other_out j c u h o = record { factor = o.factor; is_factor = f b j row c o.factor hb h o.is_factor; negative = o.negative; is_negative = o.is_negative; pivot = o.pivot; is_pivot = f b q row column o.pivot hb hq o.is_pivot; gives = o.gives }

  product_out : (k r j c : ℕ) (u : Ratio) → HasRow places k r → HasColumn places j c → IsProductFactor (Has table) row column r c u → IsProductFactor (IsFactor t) b q k j u
  product_out k r j c u h l o = record { factor = o.factor; is_factor = f k q r column o.factor h hq o.is_factor; other = o.other; is_other = other_out j c o.other l o.is_other; gives = o.gives }

  basic_at : (r : ℕ) → r < table.rows → r ≢ row → (k : ℕ) × HasRow places k r × IsBasic p x k × (k ≢ b)
  basic_at r h apart =
      let k = a.each_row r (let inside : r < m = omega (arith, rows) in inside) in
      (k.0, k.1, (omega (arith, row_within places k.0 r k.1, vars), row_basic m n x places k.0 r a k.1), (λ e. apart (row_one places b r row (subst (λ j. HasRow places j r) e k.1) hb)))

  other_at : (c : ℕ) → c < table.columns → c ≢ column → (j : ℕ) × HasColumn places j c × IsOther p x j × (j ≢ q)
  other_at c h aside =
      let j = a.each_column c (let inside : c < n = omega (arith, columns) in inside) in
      (j.0, j.1, (omega (arith, column_within places j.0 c j.1, vars), column_other m n x places j.0 c a j.1), (λ e. aside (column_one places q c column (subst (λ i. HasColumn places i c) e j.1) hq)))

  pub from_table : (w : Wide) → StandsInExchange (λ k. k < table.rows) (λ j. j < table.columns) (Has table) row column w → StandsInExchange (IsBasic p x) (IsOther p x) (IsFactor t) b q w
  from_table w (own_divided one g is_one is_pivot e) = own_divided one g is_one (f b q row column g hb hq is_pivot) e
  from_table w (other_divided c g u h inside aside is_factor is_negative is_pivot e) =
      let j = other_at c inside aside in
      other_divided j.0 g u h j.2 j.3 (f b j.0 row c g hb j.1 is_factor) is_negative (f b q row column h hb hq is_pivot) e
  from_table w (own_times r g u within apart is_factor is_own e) =
      let k = basic_at r within apart in
      own_times k.0 g u k.2 k.3 (f k.0 q r column g k.1 hq is_factor) (own_out u is_own) e
  from_table w (other_times r c g u within apart inside aside is_factor is_product e) =
      let k = basic_at r within apart in
      let j = other_at c inside aside in
      other_times k.0 j.0 g u k.2 k.3 j.2 j.3 (f k.0 q r column g k.1 hq is_factor) (other_out j.0 c u j.1 is_product) e
  from_table w (other_added r c g u within apart inside aside is_factor is_product e) =
      let k = basic_at r within apart in
      let j = other_at c inside aside in
      other_added k.0 j.0 g u k.2 k.3 j.2 j.3 (f k.0 j.0 r c g k.1 j.1 is_factor) (product_out k.0 r j.0 c u k.1 j.1 is_product) e

-- the values of the rows are those of the basic variables
pub basic_values : (problem : Problem) (s : State) (x : Corner) (t : Factors) (choice : Choice) → IsAt problem s x t → HasRow s.places.items choice.leaving.variable choice.leaving.row → HasColumn s.places.items choice.entering.variable choice.entering.column
    → length s.places.items ≡ variables (whole_problem problem) → AreBasicAt (whole_problem problem) x t choice s.table s.places.items s.values.items
basic_values problem s x t choice at hb hq vars k r d apart h e = record {
  basic = (omega (arith, row_within s.places.items k r h, vars), at.placed.basic k (Row r) h);
  apart = λ same. apart (row_one s.places.items choice.leaving.variable r choice.leaving.row (subst (λ j. HasRow s.places.items j r) same h) hb);
  factor = λ f has. at.factors k choice.entering.variable r choice.entering.column f h hq has;
  value = at.values k r d h e;
}
