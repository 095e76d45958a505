-- The checker's sums of an equation whose values are whole numbers over one denominator: no operation passes.
use Rattle.std.proofs.Common.{◌≡◌, ℕ, ◌+◌, ◌<◌, ◌≤◌, ◌^◌, Bool, true, false, Option, Some, List, [], ◌∷◌, length, get_or, ◌+ℤ◌, refl, sym, ap, subst, ◌∙◌, arith}
use Rattle.std.proofs.lemmas.Int.{ints}
use Rattle.std.proofs.lemmas.List.{get_or-map}
use Rattle.std.specs.List.{cons_option}
use Rattle.std.specs.Option.{option_map}
use Rattle.std.specs.Prelude.{Ok, slice_get, sum_by, unsigned_abs}
use Rattle.xc_forest.specs.Forests.{points_of as row_points}
use Rattle.xc_joint.specs.Solved.{number_at, signed_number}
use Rattle.xc_joint.specs.Lists.{AreEach}
use Rattle.xc_joint.specs.Steps.OneForest.{IsSignedPlace}
use Rattle.xc_joint.proofs.Between.{same_over}
use Rattle.xc_joint.proofs.Disjoint.{more_sum}
use Rattle.xc_joint.proofs.PartValues.{signed_product}
use Rattle.xc_joint.proofs.Reduced.{reduced}
use Rattle.xc_joint.proofs.SumSizes.{IsSized, sized_neg}
use Rattle.xc_model.specs.Fraction.{Fraction, SameNumber, product_of, sum_of}
use Rattle.xc_model.specs.Ratio.{Ratio, fraction_of}
use Rattle.xc_model.specs.Width.{IsNarrow, ProductPasses, SumPasses}
use Rattle.xc_model.proofs.NumbersOver.{lowest_room, number_over-same, over_number, sum_number, sum_of_fits}
use Rattle.xc_system.specs.declared.types.Entry.{Entry}
use Rattle.xc_verify.specs.Feasible.{equation_terms}
use Rattle.xc_verify.specs.Sums.{zero_ratio, plus_product, IsSum}

sized_signed : (d size : ℕ) (b : Bool) (x : Fraction) → IsSized d size x → IsSized d size (signed_number b x)
sized_signed d size false x h = h
sized_signed d size true x h = sized_neg d size x h

-- a product of a unit that is a whole number over d
record IsProduct (d size : ℕ) (w x : Ratio) : Type 0 where
  pub result : Ratio
  pub sized : IsSized d size (fraction_of result)
  pub room : ¬ ProductPasses (fraction_of w) (fraction_of x)
  pub gives : SameNumber (fraction_of result) (product_of (fraction_of w) (fraction_of x))

product_made : (d size : ℕ) (w x : Ratio) → d < 2 ^ 127 → size < 2 ^ 127 → IsSized d size (product_of (fraction_of w) (fraction_of x)) → IsProduct d size w x
product_made d size w x small fits h =
    let s = h.small in
    let narrow : IsNarrow h.whole = omega (arith, s, fits) in
    let r = reduced h.whole d h.over.positive small narrow in
    let over = over_number r.0 h.whole d r.1 in
    record {
      result = r.0;
      sized = record { whole = h.whole; over = over; small = h.small };
      room = λ p. lowest_room p.lowest h.whole d (number_over-same (product_of (fraction_of w) (fraction_of x)) p.lowest h.whole d p.same h.over) narrow small p.wide;
      gives = same_over (fraction_of r.0) (product_of (fraction_of w) (fraction_of x)) h.whole h.whole d over h.over refl;
    }

-- a sum of two that are
record IsAdded (d size : ℕ) (x y : Ratio) : Type 0 where
  pub result : Ratio
  pub sized : IsSized d size (fraction_of result)
  pub room : ¬ SumPasses (fraction_of x) (fraction_of y)
  pub gives : SameNumber (fraction_of result) (sum_of (fraction_of x) (fraction_of y))

added : (d a b : ℕ) (x y : Ratio) → d < 2 ^ 127 → a + b < 2 ^ 127 → IsSized d a (fraction_of x) → IsSized d b (fraction_of y) → IsAdded d (a + b) x y
added d a b x y small fits h k =
    let s = h.small in
    let t = k.small in
    let sum : unsigned_abs (h.whole +ℤ k.whole) ≤ a + b = omega (arith, ints, s, t) in
    let narrow : IsNarrow (h.whole +ℤ k.whole) = omega (arith, sum, fits) in
    let r = reduced (h.whole +ℤ k.whole) d h.over.positive small narrow in
    let over = over_number r.0 (h.whole +ℤ k.whole) d r.1 in
    record {
      result = r.0;
      sized = record { whole = h.whole +ℤ k.whole; over = over; small = sum };
      room = sum_of_fits x y h.whole k.whole d h.over k.over (record { den = small; left = omega (arith, s, fits); right = omega (arith, t, fits); sum = narrow });
      gives = same_over (fraction_of r.0) (sum_of (fraction_of x) (fraction_of y)) _ _ d over (sum_number (fraction_of x) (fraction_of y) h.whole k.whole d h.over k.over) refl;
    }

module _ (d limit : ℕ) (small : d < 2 ^ 127) (fits : limit < 2 ^ 127) (points : List ℕ) (xs : List Ratio) (long : length xs ≡ length points) (size : ℕ → ℕ) (value : (j : ℕ) → j < length xs → IsSized d (size j) (number_at xs j)) (all : List Ratio) (among : (j : ℕ) → j < length points → slice_get all (get_or points j 0) ≡ Some (get_or xs j zero_ratio)) where
  pub chain : (entries : List Entry) (row : List (ℕ × Bool)) → AreEach (IsSignedPlace points) entries row → (acc : Ratio) (used : ℕ) → IsSized d used (fraction_of acc) → used + sum_by size (row_points row) ≤ limit → (x : Ratio) × IsSum (Ok acc) (equation_terms all entries) (Ok x)
  chain [] [] h acc used sized le = (acc, refl)
  chain [] (r ∷ row) h acc used sized le = absurd h
  chain (entry ∷ entries) [] h acc used sized le = absurd h
  chain (entry ∷ entries) (r ∷ row) h acc used sized le =
      let j = r.0 in
      let inside = h.0.inside in
      let within : j < length xs = omega (arith, inside, long) in
      let x = get_or xs j zero_ratio in
      let at : number_at xs j ≡ fraction_of x = get_or-map (λ f. fraction_of f) xs j zero_ratio _ within in
      let own : IsSized d (size j) (fraction_of x) = subst (IsSized d (size j)) at (value j within) in
      let signed : IsSized d (size j) (signed_number r.1 (fraction_of x)) = sized_signed d (size j) r.1 (fraction_of x) own in
      let least : unsigned_abs signed.whole ≤ size j = signed.small in
      let same = signed_product r.1 entry.weight (fraction_of x) h.0.sign in
      let product : IsSized d (size j) (product_of (fraction_of entry.weight) (fraction_of x)) = record { whole = signed.whole; over = number_over-same (signed_number r.1 (fraction_of x)) (product_of (fraction_of entry.weight) (fraction_of x)) signed.whole d same signed.over; small = least } in
      let step : sum_by size (row_points (r ∷ row)) ≡ size j + sum_by size (row_points row) = more_sum size j (row_points row) in
      let own_le : size j < 2 ^ 127 = omega (arith, le, fits, step) in
      let both_le : used + size j < 2 ^ 127 = omega (arith, le, fits, step) in
      let p = product_made d (size j) entry.weight x small own_le product in
      let a = added d used (size j) acc p.result small both_le sized p.sized in
      let rest = chain entries row h.1 a.result (used + size j) a.sized (omega (arith, le, step)) in
      let there : slice_get all entry.point ≡ Some x = ap (slice_get all) (sym h.0.there) ∙ among j inside in
      let terms : equation_terms all (entry ∷ entries) ≡ plus_product entry.weight x ∷ equation_terms all entries = ap (λ (o : Option Ratio). cons_option (option_map (plus_product entry.weight) o) (equation_terms all entries)) there in
      (rest.0, subst (λ ts. IsSum (Ok acc) ts (Ok rest.0)) (sym terms) (Ok a.result, (Ok p.result, (p.room, p.gives), (a.room, a.gives)), rest.1))
