-- The operations of an exchange: what they answer, and that each has one answer.
use Rattle.std.proofs.Common.{◌≡◌, ◌≢◌, ℕ, ◌+◌, ◌*◌, ◌<◌, List, length, get_or, Some, refl, sym, subst, ◌∙◌, arith, slice_get}
use Rattle.std.specs.Prelude.{slice_set}
use Rattle.std.proofs.lemmas.List.{get_or-set_same, get_or-set_other, length-set}
use Rattle.std.proofs.lemmas.Option.{slice_get_within, get_or_from_slice_get, slice_get_read}
use Rattle.xc_model.proofs.Results.{over_one, negative_one, product_one, quotient_one, product_stays, quotient_stays}
use Rattle.xc_lists.proofs.RowPlaces.{entry_there, place_below}
use Rattle.xc_corners.specs.Operations.{Gives, IsNegativeOf, IsOwnFactor, IsOtherFactor, IsProductFactor, StandsInExchange, own_divided, other_divided, own_times, other_times, other_added}
use Rattle.xc_frac.specs.Passes.{Passes}
use Rattle.xc_frac.specs.declared.wide.Op.TheVariants.{Add, Mul, Div}
use Rattle.xc_frac.specs.declared.wide.Wide.{Wide}
use Rattle.xc_model.specs.Ratio.{Ratio}
use Rattle.xc_tableau.specs.Exchanges.{PassesIn, IsLeaving, IsRest, IsExchanged}
use Rattle.xc_tableau.specs.Tables.{Table, Has}

-- ---- Entries.

pub has_same : (t : Table) (k j : ℕ) (f g : Ratio) → Has t k j f → Has t k j g → f ≡ g
has_same t k j f g h l = sym (get_or_from_slice_get t.entries (k * t.columns + j) f f h) ∙ get_or_from_slice_get t.entries (k * t.columns + j) g f l

pub has_some : (t : Table) (k j : ℕ) → length t.entries ≡ t.rows * t.columns → k < t.rows → j < t.columns → (f : Ratio) × Has t k j f
has_some t k j e h l = entry_there t.entries (k * t.columns + j) (omega (arith, e, place_below k j t.rows t.columns h l))

-- what is read at its place is an entry
pub has_read : (t : Table) (k j p : ℕ) (f : Ratio) → length t.entries ≡ t.rows * t.columns → p ≡ k * t.columns + j → k < t.rows → j < t.columns → f ≡ get_or t.entries p f → Has t k j f
has_read t k j p f e is h l r =
    subst (λ m. slice_get t.entries m ≡ Some f) is (slice_get_read t.entries (length t.entries) p f refl (let inside : p < length t.entries = omega (arith, is, place_below k j t.rows t.columns h l) in inside) r)

pub written_same : (xs : List Ratio) (p m : ℕ) (v r : Ratio) → p ≡ m → p < length xs → slice_get (slice_set xs p v) m ≡ Some r → r ≡ v
written_same xs p m v r e h g = sym (get_or_from_slice_get (slice_set xs p v) m r r g) ∙ subst (λ n. get_or (slice_set xs p v) n r ≡ v) e (get_or-set_same xs p v r h)

pub written_other : (xs : List Ratio) (p m : ℕ) (v r : Ratio) → m ≢ p → slice_get (slice_set xs p v) m ≡ Some r → slice_get xs m ≡ Some r
written_other xs p m v r n g =
    let inside : m < length xs = omega (arith, slice_get_within (slice_set xs p v) m r g, length-set xs p v) in
    slice_get_read xs (length xs) m r refl inside (sym (get_or_from_slice_get (slice_set xs p v) m r r g) ∙ get_or-set_other xs p m v r n)

module _ (t : Table) (b q : ℕ) where
  own_same : (u v : Ratio) → IsOwnFactor (Has t) b q u → IsOwnFactor (Has t) b q v → u ≡ v
  own_same u v h l =
      let one = over_one h.one l.one _ _ h.is_one l.is_one in
      let pivot = has_same t b q h.pivot l.pivot h.is_pivot l.is_pivot in
      quotient_one l.one l.pivot u v (subst (λ (f : Ratio). Gives Div f l.pivot u) one (subst (λ (f : Ratio). Gives Div h.one f u) pivot h.gives)) l.gives

  other_same : (j : ℕ) (u v : Ratio) → IsOtherFactor (Has t) b q j u → IsOtherFactor (Has t) b q j v → u ≡ v
  other_same j u v h l =
      let factor = has_same t b j h.factor l.factor h.is_factor l.is_factor in
      let negative = negative_one l.factor h.negative l.negative (subst (λ (f : Ratio). IsNegativeOf f h.negative) factor h.is_negative) l.is_negative in
      let pivot = has_same t b q h.pivot l.pivot h.is_pivot l.is_pivot in
      quotient_one l.negative l.pivot u v (subst (λ (f : Ratio). Gives Div f l.pivot u) negative (subst (λ (f : Ratio). Gives Div h.negative f u) pivot h.gives)) l.gives

  product_same : (k j : ℕ) (m n : Ratio) → IsProductFactor (Has t) b q k j m → IsProductFactor (Has t) b q k j n → m ≡ n
  product_same k j m n h l =
      let factor = has_same t k q h.factor l.factor h.is_factor l.is_factor in
      let other = other_same j h.other l.other h.is_other l.is_other in
      product_one l.factor l.other m n (subst (λ (f : Ratio). Gives Mul f l.other m) factor (subst (λ (f : Ratio). Gives Mul h.factor f m) other h.gives)) l.gives

  -- where the exchange is made, none of its operations passes
  module _ (new : Table) (filled : length new.entries ≡ new.rows * new.columns) (made : IsExchanged t b q new) (row : b < t.rows) (column : q < t.columns) where
    new_entry : (k j : ℕ) → k < t.rows → j < t.columns → (f : Ratio) × Has new k j f
    new_entry k j h l = has_some new k j filled (let inside : k < new.rows = omega (arith, made.rows) in inside) (let inside : j < new.columns = omega (arith, made.columns) in inside)

    own_made : (u : Ratio) × IsOwnFactor (Has t) b q u
    own_made = let u = new_entry b q row column in (u.0, (made.entering q u.0 column u.1).0 refl)

    other_made : (j : ℕ) → j < t.columns → j ≢ q → (u : Ratio) × IsOtherFactor (Has t) b q j u
    other_made j h n = let u = new_entry b j row h in (u.0, (made.entering j u.0 h u.1).1 n)

    leaving_made : (k : ℕ) → k < t.rows → k ≢ b → (r : Ratio) × IsLeaving t b q k r
    leaving_made k h n = let r = new_entry k q h column in (r.0, (made.others k q r.0 h n column r.1).0 refl)

    rest_made : (k j : ℕ) → k < t.rows → k ≢ b → j < t.columns → j ≢ q → (r : Ratio) × IsRest t b q k j r
    rest_made k j h n l m = let r = new_entry k j h l in (r.0, (made.others k j r.0 h n l r.1).1 m)

    pub none_passes : (w : Wide) → StandsInExchange (λ k. k < t.rows) (λ j. j < t.columns) (Has t) b q w → ¬ Passes w.op w.left w.right
    none_passes w (own_divided one f is_one is_pivot e) p =
        let o = own_made.1 in
        let passes : Passes Div one f = subst (λ (v : Wide). Passes v.op v.left v.right) e p in
        quotient_stays o.one o.pivot own_made.0 o.gives (subst (λ (g : Ratio). Passes Div g o.pivot) (over_one one o.one _ _ is_one o.is_one) (subst (λ (g : Ratio). Passes Div one g) (has_same t b q f o.pivot is_pivot o.is_pivot) passes))
    none_passes w (other_divided j f n g inside other is_factor is_negative is_pivot e) p =
        let o = (other_made j inside other).1 in
        let passes : Passes Div n g = subst (λ (v : Wide). Passes v.op v.left v.right) e p in
        let negative = negative_one o.factor n o.negative (subst (λ (h : Ratio). IsNegativeOf h n) (has_same t b j f o.factor is_factor o.is_factor) is_negative) o.is_negative in
        quotient_stays o.negative o.pivot (other_made j inside other).0 o.gives (subst (λ (h : Ratio). Passes Div h o.pivot) negative (subst (λ (h : Ratio). Passes Div n h) (has_same t b q g o.pivot is_pivot o.is_pivot) passes))
    none_passes w (own_times k f u inside other is_factor is_own e) p =
        let o = (leaving_made k inside other).1 in
        let passes : Passes Mul f u = subst (λ (v : Wide). Passes v.op v.left v.right) e p in
        product_stays o.factor o.own (leaving_made k inside other).0 o.gives (subst (λ (h : Ratio). Passes Mul h o.own) (has_same t k q f o.factor is_factor o.is_factor) (subst (λ (h : Ratio). Passes Mul f h) (own_same u o.own is_own o.is_own) passes))
    none_passes w (other_times k j f u inside other within apart is_factor is_other e) p =
        let o = (rest_made k j inside other within apart).1.is_product in
        let passes : Passes Mul f u = subst (λ (v : Wide). Passes v.op v.left v.right) e p in
        product_stays o.factor o.other (rest_made k j inside other within apart).1.product o.gives (subst (λ (h : Ratio). Passes Mul h o.other) (has_same t k q f o.factor is_factor o.is_factor) (subst (λ (h : Ratio). Passes Mul f h) (other_same j u o.other is_other o.is_other) passes))
    none_passes w (other_added k j f m inside other within apart is_factor is_product e) p =
        let o = (rest_made k j inside other within apart).1 in
        let passes : Passes Add f m = subst (λ (v : Wide). Passes v.op v.left v.right) e p in
        o.fits (subst (λ (h : Ratio). Passes Add h o.product) (has_same t k j f o.factor is_factor o.is_factor) (subst (λ (h : Ratio). Passes Add f h) (product_same k j m o.product is_product o.is_product) passes))

pub exchanged_same : (b q : ℕ) (s t m n : Table) → s ≡ t → m ≡ n → IsExchanged s b q m → IsExchanged t b q n
exchanged_same b q s t m n e f h = subst (λ v. IsExchanged v b q n) e (subst (λ v. IsExchanged s b q v) f h)

pub passes_same : (b q : ℕ) (s t : Table) (w : Wide) → s ≡ t → PassesIn t b q w → PassesIn s b q w
passes_same b q s t w e h = subst (λ v. PassesIn v b q w) (sym e) h
