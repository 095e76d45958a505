-- Sums of weights, one after another.
use Rattle.std.proofs.Common.{◌≡◌, ◌≢◌, ℕ, zero, suc, ◌+◌, ◌*◌, ◌<◌, Bool, true, false, cond, eqb, List, [], ◌∷◌, ◌++◌, length, map, take, get_or, ⊎_elim, refl, sym, ap, subst, ◌∙◌, arith, Some, slice_get, pos}
use Rattle.std.specs.Prelude.{filter, slice_set}
use Rattle.std.proofs.lemmas.Bool.{cases_eq, eq-eqb, ne_eqb}
use Rattle.std.proofs.lemmas.List.{take_more, append-nil}
use Rattle.xc_model.proofs.Results.{over_one, product_one}
use Rattle.xc_lists.proofs.RowPlaces.{place_below, places_apart}
use Rattle.xc_corners.specs.Operations.{Gives, AddsUp, IsSumOf, IsZero, weights_of_range, IsLowProduct, IsLowSum}
use Rattle.xc_corners.specs.declared.problem.Problem.{Problem}
use Rattle.xc_frac.specs.Passes.{Passes}
use Rattle.xc_frac.specs.declared.wide.Op.TheVariants.{Add, Mul}
use Rattle.xc_model.specs.Ratio.{Ratio, IsOver}
use Rattle.xc_tableau.specs.Tables.{Table, IsFilled}
use Rattle.xc_frac.specs.declared.delta.Delta.{Delta}
use Rattle.xc_pivot.specs.Deltas.{of_part}
use Rattle.xc_pivot.specs.Firsts.{HasRowSums, EntriesStay, KeepsRows, LowStays, IsLowAdded}
use Rattle.xc_pivot.proofs.Operands.{sum_one}
use Rattle.xc_pivot.proofs.Placed.{read_at, written_at, unwritten_at}
use Rattle.xc_pivot.proofs.Replaced.{some_one}

weights_pushed : (es : List (ℕ × Ratio)) (e : ℕ × Ratio) (j : ℕ) → weights_of_range (es ++ e ∷ []) j ≡ weights_of_range es j ++ weights_of_range (e ∷ []) j
weights_pushed [] e j = refl
weights_pushed (x ∷ xs) e j = go (eqb x.0 j) (weights_pushed xs e j)
  where
    go : (b : Bool) → weights_of_range (xs ++ e ∷ []) j ≡ weights_of_range xs j ++ weights_of_range (e ∷ []) j
        → map (λ (y : ℕ × Ratio). y.1) (cond b (x ∷ filter (λ y. eqb y.0 j) (xs ++ e ∷ [])) (filter (λ y. eqb y.0 j) (xs ++ e ∷ []))) ≡ map (λ (y : ℕ × Ratio). y.1) (cond b (x ∷ filter (λ y. eqb y.0 j) xs) (filter (λ y. eqb y.0 j) xs)) ++ weights_of_range (e ∷ []) j
    go true h = ap (λ (ws : List Ratio). x.1 ∷ ws) h
    go false h = h

own_weight : (e : ℕ × Ratio) → weights_of_range (e ∷ []) e.0 ≡ e.1 ∷ []
own_weight e = rw (eq-eqb e.0 e.0 refl)

no_weight : (e : ℕ × Ratio) (j : ℕ) → j ≢ e.0 → weights_of_range (e ∷ []) j ≡ []
no_weight e j n = rw (ne_eqb e.0 j (λ z. n (sym z)))

adds_more : (fs : List Ratio) (g f r s : Ratio) → AddsUp fs f r → Gives Add r g s → AddsUp (fs ++ g ∷ []) f s
adds_more [] g f r s e h = (s, subst (λ (u : Ratio). Gives Add u g s) (sym e) h, refl)
adds_more (x ∷ xs) g f r s a h = (a.0, a.1, adds_more xs g a.0 r s a.2 h)

adds_one : (fs : List Ratio) (f r s : Ratio) → AddsUp fs f r → AddsUp fs f s → r ≡ s
adds_one [] f r s e h = sym e ∙ h
adds_one (x ∷ xs) f r s a b =
    let same = sum_one f x a.0 b.0 a.1 b.1 in
    adds_one xs b.0 r s (subst (λ (u : Ratio). AddsUp xs u r) same a.2) b.2

pub sum_of_one : (fs : List Ratio) (r s : Ratio) → IsSumOf fs r → IsSumOf fs s → r ≡ s
sum_of_one fs r s a b = adds_one fs b.zero r s (subst (λ (u : Ratio). AddsUp fs u r) (over_one a.zero b.zero (pos 0) 1 a.is_zero b.is_zero) a.adds_up) b.adds_up

pub low_product_one : (problem : Problem) (i : ℕ) (c : Bool) (j : ℕ) (m n : Ratio) → IsLowProduct problem i c j m → IsLowProduct problem i c j n → m ≡ n
low_product_one problem i c j m n a b =
    let factor = sum_of_one _ a.factor b.factor a.is_factor b.is_factor in
    let low = over_one a.low b.low _ _ a.is_low b.is_low in
    product_one b.factor b.low m n (subst (λ (u : Ratio). Gives Mul u b.low m) factor (subst (λ (u : Ratio). Gives Mul a.factor u m) low a.gives)) b.gives

pub low_sum_one : (problem : Problem) (i : ℕ) (c : Bool) (n : ℕ) (r s : Ratio) → IsLowSum problem i c n r → IsLowSum problem i c n s → r ≡ s
low_sum_one problem i c zero r s a b = over_one r s (pos 0) 1 a b
low_sum_one problem i c (suc n) r s (u, m, hu, hm, gu) (v, o, hv, ho, gv) =
    let sum = low_sum_one problem i c n u v hu hv in
    let product = low_product_one problem i c n m o hm ho in
    sum_one v o r s (subst (λ (z : Ratio). Gives Add z o r) sum (subst (λ (z : Ratio). Gives Add u z r) product gu)) gv

pub low_sum_more : (problem : Problem) (i : ℕ) (c : Bool) (n : ℕ) (r m s : Ratio) → IsLowSum problem i c n r → IsLowProduct problem i c n m → Gives Add r m s → IsLowSum problem i c (n + 1) s
low_sum_more problem i c n r m s h l g = subst (λ k. IsLowSum problem i c k s) (let e : suc n ≡ n + 1 = omega arith in e) (r, m, h, l, g)

module _ (entries : List (ℕ × Ratio)) (k : ℕ) (entry : ℕ × Ratio) (here : k < length entries) (is : entry ≡ get_or entries k entry) where
  taken : take (k + 1) entries ≡ take k entries ++ entry ∷ []
  taken = take_more entries k entry here ∙ ap (λ (e : ℕ × Ratio). take k entries ++ e ∷ []) (sym is)

  pub sum_more : (r s : Ratio) → IsSumOf (weights_of_range (take k entries) entry.0) r → Gives Add r entry.1 s → IsSumOf (weights_of_range (take (k + 1) entries) entry.0) s
  sum_more r s h g =
      let weights : weights_of_range (take (k + 1) entries) entry.0 ≡ weights_of_range (take k entries) entry.0 ++ entry.1 ∷ [] =
      ap (λ (es : List (ℕ × Ratio)). weights_of_range es entry.0) taken ∙ weights_pushed (take k entries) entry entry.0 ∙ ap (λ (ws : List Ratio). weights_of_range (take k entries) entry.0 ++ ws) (own_weight entry) in
      subst (λ (ws : List Ratio). IsSumOf ws s) (sym weights) (record { zero = h.zero; is_zero = h.is_zero; adds_up = adds_more (weights_of_range (take k entries) entry.0) entry.1 h.zero r s h.adds_up g })

  pub sum_same : (j : ℕ) (r : Ratio) → j ≢ entry.0 → IsSumOf (weights_of_range (take k entries) j) r → IsSumOf (weights_of_range (take (k + 1) entries) j) r
  sum_same j r n h =
      let weights : weights_of_range (take (k + 1) entries) j ≡ weights_of_range (take k entries) j =
      ap (λ (es : List (ℕ × Ratio)). weights_of_range es j) taken ∙ weights_pushed (take k entries) entry j ∙ ap (λ (ws : List Ratio). weights_of_range (take k entries) j ++ ws) (no_weight entry j n) ∙ append-nil (weights_of_range (take k entries) j) in
      subst (λ (ws : List Ratio). IsSumOf ws r) (sym weights) h

  -- the table with one weight more
  pub sums_next : (table new : Table) (i : ℕ) (v : Ratio) → i < table.rows → IsFilled table → entry.0 < table.columns → new.columns ≡ table.columns → new.entries ≡ slice_set table.entries (i * table.columns + entry.0) v
      → HasRowSums table i (take k entries) → IsSumOf (weights_of_range (take (k + 1) entries) entry.0) v → HasRowSums new i (take (k + 1) entries)
  sums_next table new i v row filled column columns written sums sum j f inside has = ⊎_elim
      (λ (e : j ≡ entry.0).
      let at_it : slice_get (slice_set table.entries (i * table.columns + entry.0) v) (i * table.columns + entry.0) ≡ Some f = subst (λ m. slice_get (slice_set table.entries (i * table.columns + entry.0) v) (i * table.columns + m) ≡ Some f) e there in
      let value : f ≡ v = written_at table.entries (i * table.columns + entry.0) v f (omega (arith, place_below i entry.0 table.rows table.columns row column)) at_it in
      subst (λ m. IsSumOf (weights_of_range (take (k + 1) entries) m) f) (sym e) (subst (λ (u : Ratio). IsSumOf (weights_of_range (take (k + 1) entries) entry.0) u) (sym value) sum))
      (λ (n : j ≢ entry.0). sum_same j f n (sums j f (omega (arith, columns)) (unwritten_at table.entries (i * table.columns + entry.0) (i * table.columns + j) v f (λ z. n (omega arith)) there)))
      (cases_eq j entry.0)
    where
      there : slice_get (slice_set table.entries (i * table.columns + entry.0) v) (i * table.columns + j) ≡ Some f
      there = subst (λ n. slice_get (slice_set table.entries (i * table.columns + entry.0) v) (i * n + j) ≡ Some f) columns (subst (λ (es : List Ratio). slice_get es (i * new.columns + j) ≡ Some f) written has)

  pub stays_next : (v : Ratio) → EntriesStay entries k → IsSumOf (weights_of_range (take k entries) entry.0) v → ¬ Passes Add v entry.1 → EntriesStay entries (k + 1)
  stays_next v stays sum fits n other s small there is_sum passes = ⊎_elim
      (λ (e : n ≡ k).
      let same : other ≡ entry = some_one entries k other entry (subst (λ m. slice_get entries m ≡ Some other) e there) (read_at entries entries k entry refl here is) in
      let here_sum : IsSumOf (weights_of_range (take k entries) entry.0) s = subst (λ (o : ℕ × Ratio). IsSumOf (weights_of_range (take k entries) o.0) s) same (subst (λ m. IsSumOf (weights_of_range (take m entries) other.0) s) e is_sum) in
      fits (subst (λ (u : Ratio). Passes Add u entry.1) (sum_of_one _ s v here_sum sum) (subst (λ (o : ℕ × Ratio). Passes Add s o.1) same passes)))
      (λ (d : n ≢ k). stays n other s (omega arith) there is_sum passes)
      (cases_eq n k)

pub kept_next : (old table new : Table) (i j : ℕ) (v : Ratio) → j < old.columns → table.columns ≡ old.columns → new.columns ≡ table.columns → new.entries ≡ slice_set table.entries (i * table.columns + j) v → KeepsRows old i table → KeepsRows old i new
kept_next old table new i j v column columns same written kept r h f other inside has =
    let there : slice_get (slice_set table.entries (i * table.columns + j) v) (r * table.columns + h) ≡ Some f = subst (λ n. slice_get (slice_set table.entries (i * table.columns + j) v) (r * n + h) ≡ Some f) same (subst (λ (es : List Ratio). slice_get es (r * new.columns + h) ≡ Some f) written has) in
    kept r h f other inside (unwritten_at table.entries (i * table.columns + j) (r * table.columns + h) v f (places_apart r i h j table.columns (omega (arith, columns)) (omega (arith, columns)) other) there)

pub zero_parts_are : (d : Delta Ratio) → IsOver d.real (pos 0) 1 → IsOver d.tiny (pos 0) 1 → (c : Bool) → IsZero (of_part d c)
zero_parts_are d h k false = h
zero_parts_are d h k true = k

pub low_none : (problem : Problem) (i : ℕ) → LowStays problem i 0
low_none problem i = record { products = λ j c h. absurd (omega arith); stays = λ j c s m h. absurd (omega arith) }

pub low_next : (problem : Problem) (i n : ℕ) (value more : Delta Ratio) → LowStays problem i n → ((c : Bool) → IsLowSum problem i c n (of_part value c)) → IsLowAdded problem i n value more → LowStays problem i (n + 1)
low_next problem i n value more stays is o = record {
  products = λ j c h. ⊎_elim
      (λ (e : j ≡ n). (of_part o.product c, subst (λ k. IsLowProduct problem i c k (of_part o.product c)) (sym e) (o.is_product c)))
      (λ (d : j ≢ n). stays.products j c (omega arith))
      (cases_eq j n);
  stays = λ j c s m h sum product passes. ⊎_elim
      (λ (e : j ≡ n).
      let s_is = low_sum_one problem i c n s (of_part value c) (subst (λ k. IsLowSum problem i c k s) e sum) (is c) in
      let m_is = low_product_one problem i c n m (of_part o.product c) (subst (λ k. IsLowProduct problem i c k m) e product) (o.is_product c) in
      o.stays c (subst (λ (u : Ratio). Passes Add u (of_part o.product c)) s_is (subst (λ (u : Ratio). Passes Add s u) m_is passes)))
      (λ (d : j ≢ n). stays.stays j c s m (omega arith) sum product passes)
      (cases_eq j n);
}
