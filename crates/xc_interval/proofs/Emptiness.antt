-- Where something lies in an interval, and where nothing does.
use Rattle.std.proofs.Common.{◌≡◌, Bool, true, false, pos, refl, sym, ap, subst, ◌∙◌, inl}
use Rattle.std.specs.Prelude.{◌↔◌, IsTrue}
use Rattle.xc_model.specs.Fraction.{Fraction, SameNumber, IsBelow, whole, sum_of, neg_of, product_of}
use Rattle.xc_model.proofs.Numbers.{same-refl}
use Rattle.xc_model.specs.Parts.{Parts, IsLess, SameParts, real_alone, zero_parts, sum_parts, neg_parts}
use Rattle.xc_model.proofs.Orders.{same_parts}
use Rattle.xc_interval.specs.Arithmetic.{IsSumOfPairs, IsSumOfNumbers, IsSumInterval, IsTurned, IsNegativeOfNumber, IsMultiple}
use Rattle.xc_interval.specs.Ends.{value_of, end_at}
use Rattle.xc_interval.specs.Intervals.{AreReal, pairs_of, reals_of, HasPair, HasNumber, HasNoPair, HasNoNumber, TellsNone}
use Rattle.xc_interval.specs.declared.ends.End.{End}
use Rattle.xc_interval.specs.declared.interval.Interval.{Interval}
use Rattle.xc_interval.proofs.Meeting.{ends_tell}
use Rattle.xc_interval.proofs.Multiples.{pair_negatives, number_negatives}
use Rattle.xc_interval.proofs.Numbers.{number_dense, pair_dense, number_group, pair_group}
use Rattle.xc_interval.proofs.Reals.{lies_alone, lies_real, crosses_real, sum_interval, turned_interval}
use Rattle.xc_interval.proofs.Sides.{value_at, not_crosses}
use Rattle.xc_interval.proofs.Sums.{has_sums}

false_true : false ≡ true → ⊥
false_true e = cc

pub pair_in : (i : Interval Parts) → ¬ HasNoPair i → (x : Parts) × HasPair i x
pair_in i = (ends_tell IsLess SameParts pair_dense i).1

pub no_pair_in : (i : Interval Parts) → HasNoPair i → (x : Parts) → ¬ HasPair i x
no_pair_in i = (ends_tell IsLess SameParts pair_dense i).0

pub number_in : (i : Interval Fraction) → ¬ HasNoNumber i → (x : Fraction) × HasNumber i x
number_in i = (ends_tell IsBelow SameNumber number_dense i).1

module _ {E : Type 0} (parts : E → Parts) where
  pub tells_pairs : (i : Interval E) (b : Bool) → (IsTrue b ↔ HasNoPair (pairs_of parts i)) → TellsNone b (HasPair (pairs_of parts i))
  tells_pairs i true h = no_pair_in (pairs_of parts i) (h.0 refl)
  tells_pairs i false h = pair_in (pairs_of parts i) (λ crosses. false_true (h.1 crosses))

  pub tells_numbers : AreReal parts → (i : Interval E) (b : Bool) → (IsTrue b ↔ HasNoPair (pairs_of parts i)) → TellsNone b (HasNumber (reals_of parts i))
  tells_numbers real i true h = λ x lies. no_pair_in (pairs_of parts i) (h.0 refl) (real_alone x) ((lies_alone parts real i x).1 lies)
  tells_numbers real i false h = number_in (reals_of parts i) (λ crosses. false_true (h.1 (crosses_real parts real i crosses)))

  -- what lies in an interval shows that it is not empty
  pub some_pair : (i : Interval E) (x : Parts) → HasPair (pairs_of parts i) x → ¬ HasNoPair (pairs_of parts i)
  some_pair i x lies crosses = no_pair_in (pairs_of parts i) crosses x lies

  pub some_number : AreReal parts → (i : Interval E) (x : Fraction) → HasNumber (reals_of parts i) x → ¬ HasNoPair (pairs_of parts i)
  some_number real i x lies = some_pair i (real_alone x) ((lies_alone parts real i x).1 lies)

  -- what is told of pairs is told of numbers
  pub contains_number : AreReal parts → (i : Interval E) (value : E) (b : Bool) → (IsTrue b ↔ HasPair (pairs_of parts i) (parts value)) → IsTrue b ↔ HasNumber (reals_of parts i) (parts value).real
  contains_number real i value b h =
      let same = lies_real parts real i (parts value) (real value) in
      (λ yes. same.0 (h.0 yes), λ lies. h.1 (same.1 lies))

  pub meet_numbers : AreReal parts → (i j m : Interval E) → ((x : Parts) → HasPair (pairs_of parts m) x ↔ (HasPair (pairs_of parts i) x × HasPair (pairs_of parts j) x))
      → (x : Fraction) → HasNumber (reals_of parts m) x ↔ (HasNumber (reals_of parts i) x × HasNumber (reals_of parts j) x)
  meet_numbers real i j m h x =
      let own = lies_alone parts real i x in
      let others = lies_alone parts real j x in
      let both = lies_alone parts real m x in (
        λ lies. let pair = (h (real_alone x)).0 (both.1 lies) in (own.0 pair.0, others.0 pair.1),
        λ pair. both.0 ((h (real_alone x)).1 (own.1 pair.0, others.1 pair.1)),
      )

  -- negatives
  pub negated_numbers : AreReal parts → (i m : Interval E) → IsTurned SameParts neg_parts (pairs_of parts i) (pairs_of parts m) → (x : Fraction) → HasNumber (reals_of parts m) x ↔ IsNegativeOfNumber (reals_of parts i) x
  negated_numbers real i m ends = number_negatives (reals_of parts i) (reals_of parts m) (turned_interval parts real i m ends)

  pub negated_some : (i m : Interval E) → IsTurned SameParts neg_parts (pairs_of parts i) (pairs_of parts m) → ¬ HasNoPair (pairs_of parts i) → ¬ HasNoPair (pairs_of parts m)
  negated_some i m ends some =
      let x = pair_in (pairs_of parts i) some in
      some_pair m (neg_parts x.0) ((pair_negatives (pairs_of parts i) (pairs_of parts m) ends (neg_parts x.0)).1 (record { from = x.0; lies = x.1; makes = same_parts.reflexive (neg_parts x.0) }))

  -- sums
  pub plus_pairs : (i j s : Interval E) → ¬ HasNoPair (pairs_of parts i) → ¬ HasNoPair (pairs_of parts j) → IsSumInterval SameParts sum_parts (pairs_of parts i) (pairs_of parts j) (pairs_of parts s)
      → (x : Parts) → HasPair (pairs_of parts s) x ↔ IsSumOfPairs (pairs_of parts i) (pairs_of parts j) x
  plus_pairs i j s own others ends = has_sums IsLess SameParts sum_parts neg_parts zero_parts pair_dense pair_group (pairs_of parts i) (pairs_of parts j) (pairs_of parts s) own others ends

  pub plus_numbers : AreReal parts → (i j s : Interval E) → ¬ HasNoPair (pairs_of parts i) → ¬ HasNoPair (pairs_of parts j) → IsSumInterval SameParts sum_parts (pairs_of parts i) (pairs_of parts j) (pairs_of parts s)
      → (x : Fraction) → HasNumber (reals_of parts s) x ↔ IsSumOfNumbers (reals_of parts i) (reals_of parts j) x
  plus_numbers real i j s own others ends =
      has_sums IsBelow SameNumber sum_of neg_of (whole (pos 0)) number_dense number_group (reals_of parts i) (reals_of parts j) (reals_of parts s)
      (λ crosses. own (crosses_real parts real i crosses)) (λ crosses. others (crosses_real parts real j crosses)) (sum_interval parts real i j s ends)

  pub plus_some : (i j s : Interval E) → ¬ HasNoPair (pairs_of parts i) → ¬ HasNoPair (pairs_of parts j) → IsSumInterval SameParts sum_parts (pairs_of parts i) (pairs_of parts j) (pairs_of parts s) → ¬ HasNoPair (pairs_of parts s)
  plus_some i j s own others ends =
      let x = pair_in (pairs_of parts i) own in
      let y = pair_in (pairs_of parts j) others in
      let sum = sum_parts x.0 y.0 in
      some_pair s sum ((plus_pairs i j s own others ends sum).1 (record { left = x.0; right = y.0; in_left = x.1; in_right = y.1; adds = same_parts.reflexive sum }))

  -- multiples, of numbers alone
  pub scaled_some : AreReal parts → (k : Fraction) (i m : Interval E) → ((x : Fraction) → HasNumber (reals_of parts m) x ↔ IsMultiple k (reals_of parts i) x) → ¬ HasNoPair (pairs_of parts i) → ¬ HasNoPair (pairs_of parts m)
  scaled_some real k i m multiples some =
      let x = number_in (reals_of parts i) (λ crosses. some (crosses_real parts real i crosses)) in
      let product = product_of x.0 k in
      let lies = (multiples product).1 (record { from = x.0; lies = x.1; makes = same-refl product }) in
      some_pair m (real_alone product) ((lies_alone parts real m product).1 lies)

  -- a low end below a high one does not cross it
  pub not_crossed : (low high : End E) (v w : E) → v ≡ value_of low → w ≡ value_of high → IsLess (parts v) (parts w) → ¬ HasNoPair (pairs_of parts (record { low = low; high = high }))
  not_crossed low high v w left right less =
      let ends : IsLess (value_of (end_at parts low)) (value_of (end_at parts high)) =
      subst (λ z. IsLess z (value_of (end_at parts high))) (ap parts left ∙ sym (value_at parts low)) (subst (λ z. IsLess (parts v) z) (ap parts right ∙ sym (value_at parts high)) less) in
      not_crosses IsLess SameParts pair_dense.order pair_dense.compare (pairs_of parts (record { low = low; high = high })) (inl ends)
