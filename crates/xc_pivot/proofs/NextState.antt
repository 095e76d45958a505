-- The factors and values after an exchange are those of the next corner.
use Rattle.std.proofs.Common.{◌≡◌, ◌≢◌, ℕ, ◌*◌, ◌<◌, List, length, ◌⊎◌, inl, inr, refl, sym, subst, arith, Some, slice_get}
use Rattle.std.specs.Prelude.{slice_set}
use Rattle.std.proofs.lemmas.Option.{slice_get_within}
use Rattle.xc_corners.specs.Choices.{corner_after_exchange}
use Rattle.xc_corners.specs.Corners.{variables, Corner, Factors, value}
use Rattle.xc_corners.specs.Laws.{EnteringFactors, LeavingFactors, OtherFactors, EnteringValue, BasicValue, MayExchange, AtExchange}
use Rattle.xc_corners.specs.Operations.{IsOwnFactor, IsOtherFactor, IsProductFactor, IsFactor}
use Rattle.xc_corners.specs.Tables.{factors_after_exchange}
use Rattle.xc_corners.specs.WholeNumbers.{whole_problem}
use Rattle.xc_corners.specs.declared.problem.Problem.{Problem}
use Rattle.xc_frac.specs.declared.delta.Delta.{Delta}
use Rattle.xc_model.specs.Ratio.{Ratio}
use Rattle.xc_tableau.specs.Exchanges.{IsExchanged}
use Rattle.xc_tableau.specs.Tables.{Table, Has}
use Rattle.xc_pivot.specs.Deltas.{of_part, ArePartsOf}
use Rattle.xc_pivot.specs.States.{HasRow, HasColumn, ArePlaces, AreFactors, AreValues}
use Rattle.xc_pivot.specs.Steps.{IsEnteringMoved, AreMoved, places_after_exchange}
use Rattle.xc_pivot.specs.declared.types.Choice.{Choice}
use Rattle.xc_pivot.specs.declared.types.Place.{Place}
use Rattle.xc_pivot.proofs.Placed.{row_basic, row_within, written_at, unwritten_at}
use Rattle.xc_pivot.proofs.Replaced.{row_cases, column_cases}

module _ (problem : Problem) (m n : ℕ) (x : Corner) (t : Factors) (places : List Place) (choice : Choice) (a : ArePlaces m n x places) (hb : HasRow places choice.leaving.variable choice.leaving.row) (hq : HasColumn places choice.entering.variable choice.entering.column)
    (some : MayExchange t choice.leaving.variable choice.entering.variable) where
  abbrev b : ℕ
  b = choice.leaving.variable

  abbrev q : ℕ
  q = choice.entering.variable

  module _ (table : Table) (f : AreFactors table places t) where
    own : (u : Ratio) → IsOwnFactor (Has table) choice.leaving.row choice.entering.column u → IsOwnFactor (IsFactor t) b q u
    own u o = record { one = o.one; is_one = o.is_one; pivot = o.pivot; is_pivot = f b q choice.leaving.row choice.entering.column o.pivot hb hq o.is_pivot; gives = o.gives }

    other : (j c : ℕ) (u : Ratio) → HasColumn places j c → IsOtherFactor (Has table) choice.leaving.row choice.entering.column c u → IsOtherFactor (IsFactor t) b q j u
    other j c u h o = record { factor = o.factor; is_factor = f b j choice.leaving.row c o.factor hb h o.is_factor; negative = o.negative; is_negative = o.is_negative; pivot = o.pivot; is_pivot = f b q choice.leaving.row choice.entering.column o.pivot hb hq o.is_pivot; gives = o.gives }

    product : (k r j c : ℕ) (u : Ratio) → HasRow places k r → HasColumn places j c → IsProductFactor (Has table) choice.leaving.row choice.entering.column r c u → IsProductFactor (IsFactor t) b q k j u
    product k r j c u h l o = record { factor = o.factor; is_factor = f k q r choice.entering.column o.factor h hq o.is_factor; other = o.other; is_other = other j c o.other l o.is_other; gives = o.gives }

    module _ (rows : table.rows ≡ m) (columns : table.columns ≡ n) (row_in : (j r : ℕ) → HasRow places j r → r < m) (column_in : (j c : ℕ) → HasColumn places j c → c < n)
        (entering : EnteringFactors) (leaving : LeavingFactors) (others : OtherFactors) (made : Table) (e : IsExchanged table choice.leaving.row choice.entering.column made) where
      in_row : (j r : ℕ) → HasRow places j r → r < table.rows
      in_row j r h = omega (arith, row_in j r h, rows)

      in_column : (j c : ℕ) → HasColumn places j c → c < table.columns
      in_column j c h = omega (arith, column_in j c h, columns)

      pub factors_next : AreFactors made (places_after_exchange problem choice places) (factors_after_exchange t b q)
      factors_next i j r c u h l has = go (row_cases problem m n x places choice a hb hq i r h) (column_cases problem m n x places choice a hb hq j c l)
        where
          go : (((i ≡ q) × (r ≡ choice.leaving.row)) ⊎ ((i ≢ b) × (i ≢ q) × HasRow places i r)) → (((j ≡ b) × (c ≡ choice.entering.column)) ⊎ ((j ≢ b) × (j ≢ q) × HasColumn places j c)) → IsFactor (factors_after_exchange t b q) i j u
          go (inl d) (inl g) =
              let there : Has made choice.leaving.row choice.entering.column u = subst (λ s. Has made choice.leaving.row s u) g.1 (subst (λ s. Has made s c u) d.1 has) in
              let made_own = (e.entering choice.entering.column u (in_column q choice.entering.column hq) there).0 refl in
              subst (λ s. IsFactor (factors_after_exchange t b q) s j u) (sym d.0) (subst (λ s. IsFactor (factors_after_exchange t b q) q s u) (sym g.0) ((entering t b q b u some).0 (own u made_own)))
          go (inl d) (inr g) =
              let there : Has made choice.leaving.row c u = subst (λ s. Has made s c u) d.1 has in
              let apart : c ≢ choice.entering.column = λ z. g.1 (a.one_column j q c g.2 (subst (λ s. HasColumn places q s) (sym z) hq)) in
              let made_other = (e.entering c u (in_column j c g.2) there).1 apart in
              subst (λ s. IsFactor (factors_after_exchange t b q) s j u) (sym d.0) ((entering t b q j u some).1 g.0 (other j c u g.2 made_other))
          go (inr d) (inl g) =
              let there : Has made r choice.entering.column u = subst (λ s. Has made r s u) g.1 has in
              let apart : r ≢ choice.leaving.row = λ z. d.0 (a.one_row i b r d.2 (subst (λ s. HasRow places b s) (sym z) hb)) in
              let o = (e.others r choice.entering.column u (in_row i r d.2) apart (in_column q choice.entering.column hq) there).0 refl in
              subst (λ s. IsFactor (factors_after_exchange t b q) i s u) (sym g.0) (leaving t b q i o.factor o.own u some d.1 (f i q r choice.entering.column o.factor d.2 hq o.is_factor) (own o.own o.is_own) o.gives)
          go (inr d) (inr g) =
              let apart : r ≢ choice.leaving.row = λ z. d.0 (a.one_row i b r d.2 (subst (λ s. HasRow places b s) (sym z) hb)) in
              let aside : c ≢ choice.entering.column = λ z. g.1 (a.one_column j q c g.2 (subst (λ s. HasColumn places q s) (sym z) hq)) in
              let o = (e.others r c u (in_row i r d.2) apart (in_column j c g.2) has).1 aside in
              others t b q i j o.factor o.product u some d.1 g.0 (f i j r c o.factor d.2 g.2 o.is_factor) (product i r j c o.product d.2 g.2 o.is_product) o.gives

  module _ (at : AtExchange (whole_problem problem) x t b q) (entering : EnteringValue) (basic : BasicValue) (vars : length places ≡ variables (whole_problem problem)) (values : List (Delta Ratio)) (d : Delta Ratio) (row_there : choice.leaving.row < length values)
      (moved : IsEnteringMoved (whole_problem problem) x t choice d) (rest : AreMoved (whole_problem problem) x t choice places (length values) values) where
    pub values_next : AreValues (whole_problem problem) (slice_set values choice.leaving.row d) (places_after_exchange problem choice places) (corner_after_exchange (whole_problem problem) x choice.leaving.above b q) (factors_after_exchange t b q)
    values_next i r v h e = go (row_cases problem m n x places choice a hb hq i r h)
      where
        go : (((i ≡ q) × (r ≡ choice.leaving.row)) ⊎ ((i ≢ b) × (i ≢ q) × HasRow places i r)) → ArePartsOf ((factors_after_exchange t b q).over * (whole_problem problem).unit) (value (whole_problem problem) (corner_after_exchange (whole_problem problem) x choice.leaving.above b q) (factors_after_exchange t b q) i) v
        go (inl z) =
            let is : v ≡ d = written_at values choice.leaving.row d v row_there (subst (λ s. slice_get (slice_set values choice.leaving.row d) s ≡ Some v) z.1 e) in
            subst (λ s. ArePartsOf ((factors_after_exchange t b q).over * (whole_problem problem).unit) (value (whole_problem problem) (corner_after_exchange (whole_problem problem) x choice.leaving.above b q) (factors_after_exchange t b q) s) v) (sym z.0)
            (subst (λ (w : Delta Ratio). ArePartsOf ((factors_after_exchange t b q).over * (whole_problem problem).unit) (value (whole_problem problem) (corner_after_exchange (whole_problem problem) x choice.leaving.above b q) (factors_after_exchange t b q) q) w) (sym is)
            (λ c. entering (whole_problem problem) x t choice.leaving.above b q c (of_part moved.value c) (of_part moved.step c) (of_part d c) at (moved.is_value c) (moved.is_step c) (moved.gives c)))
        go (inr z) =
            let apart : r ≢ choice.leaving.row = λ s. z.0 (a.one_row i b r z.2 (subst (λ k. HasRow places b k) (sym s) hb)) in
            let there = unwritten_at values choice.leaving.row r d v apart e in
            let o = rest i r v (slice_get_within values r v there) apart z.2 there in
            λ c. basic (whole_problem problem) x t choice.leaving.above b q i c (of_part o.value c) (of_part o.move c) (of_part v c) at (omega (arith, row_within places i r z.2, vars)) (row_basic m n x places i r a z.2) (o.is_value c) (o.is_move c) (o.gives c)
