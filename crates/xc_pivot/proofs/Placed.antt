-- What is read of the places, and what places tell of a corner.
use Rattle.std.proofs.Common.{◌≡◌, ◌≢◌, ℕ, ◌<◌, Bool, true, false, List, length, get_or, inl, inr, refl, sym, ap, subst, ◌∙◌, arith, Some, slice_get, pos, cond, ◌*◌}
use Rattle.std.specs.Prelude.{slice_set}
use Rattle.std.proofs.lemmas.List.{get_or-set_same, get_or-set_other, length-set}
use Rattle.std.proofs.lemmas.Option.{slice_get_read, slice_get_within, get_or_from_slice_get}
use Rattle.xc_corners.specs.Corners.{low_bound, high_bound, bound, Corner, Factors, IsOutside, value}
use Rattle.xc_corners.specs.Laws.{OtherIsAtBound}
use Rattle.xc_corners.specs.Pairs.{times}
use Rattle.xc_corners.specs.Problems.{WholeProblem}
use Rattle.xc_corners.specs.WholeNumbers.{whole_problem}
use Rattle.xc_corners.specs.declared.problem.Problem.{Problem}
use Rattle.xc_frac.specs.declared.delta.Delta.{Delta}
use Rattle.xc_model.specs.Parts.{WholeParts}
use Rattle.xc_model.specs.Ratio.{Ratio}
use Rattle.xc_pivot.specs.Deltas.{ArePartsOf}
use Rattle.xc_pivot.specs.States.{HasRow, HasColumn, ArePlaces, IsShaped, IsSideOf}
use Rattle.xc_pivot.specs.declared.types.Place.{Place}
use Rattle.xc_pivot.specs.declared.types.Place.TheVariants.{Row, Low, High}
use Rattle.xc_pivot.specs.declared.types.State.{State}
use Rattle.xc_pivot.proofs.Beside.{bound_times}

-- what is read at a place of a list stands there
pub read_at : {X : Type 0} (xs ys : List X) (j : ℕ) (x : X) → xs ≡ ys → j < length xs → x ≡ get_or xs j x → slice_get ys j ≡ Some x
read_at xs ys j x e h r = subst (λ zs. slice_get zs j ≡ Some x) e (slice_get_read xs (length xs) j x refl h r)

pub place_at : (places : List Place) (j : ℕ) (read place : Place) → j < length places → read ≡ get_or places j read → read ≡ place → slice_get places j ≡ Some place
place_at places j read place h r e = slice_get_read places (length places) j read refl h r ∙ ap (λ (p : Place). Some p) e

pub row_inside : (problem : Problem) (s : State) (j r : ℕ) → IsShaped problem s → HasRow s.places.items j r → r < length problem.rows
row_inside problem s j r shaped h = shaped.inside j (Row r) h

pub column_inside : (problem : Problem) (s : State) (j c : ℕ) → IsShaped problem s → HasColumn s.places.items j c → c < length problem.ranges
column_inside problem s j c shaped (inl h) = shaped.inside j (Low c) h
column_inside problem s j c shaped (inr h) = shaped.inside j (High c) h

pub row_basic : (m n : ℕ) (x : Corner) (places : List Place) (j r : ℕ) → ArePlaces m n x places → HasRow places j r → x.basic j ≡ true
row_basic m n x places j r a h = a.basic j (Row r) h

pub column_other : (m n : ℕ) (x : Corner) (places : List Place) (j c : ℕ) → ArePlaces m n x places → HasColumn places j c → x.basic j ≡ false
column_other m n x places j c a (inl h) = a.basic j (Low c) h
column_other m n x places j c a (inr h) = a.basic j (High c) h

pub outside_of : (problem : Problem) (x : Corner) (t : Factors) (j : ℕ) (above : Bool) → IsSideOf (Some above) problem j t.over (value (whole_problem problem) x t j) → IsOutside (whole_problem problem) x t above j
outside_of problem x t j false h = h
outside_of problem x t j true h = h

-- what is written stands there, and what is not stays
pub written_at : {X : Type 0} (xs : List X) (i : ℕ) (v x : X) → i < length xs → slice_get (slice_set xs i v) i ≡ Some x → x ≡ v
written_at xs i v x h e = sym (get_or_from_slice_get (slice_set xs i v) i x x e) ∙ get_or-set_same xs i v x h

pub unwritten_at : {X : Type 0} (xs : List X) (i j : ℕ) (v x : X) → j ≢ i → slice_get (slice_set xs i v) j ≡ Some x → slice_get xs j ≡ Some x
unwritten_at xs i j v x n e =
    let inside : j < length xs = omega (arith, slice_get_within (slice_set xs i v) j x e, length-set xs i v) in
    slice_get_read xs (length xs) j x refl inside (sym (get_or_from_slice_get (slice_set xs i v) j x x e) ∙ get_or-set_other xs i j v x n)

-- a column that is on no high side is on its low side
pub on_low : (places : List Place) (j c : ℕ) (read : Place) → slice_get places j ≡ Some read → ((y : ℕ) → read ≡ High y → ⊥) → HasColumn places j c → slice_get places j ≡ Some (Low c)
on_low places j c read e n (inl h) = h
on_low places j c read e n (inr h) = absurd (n c (sym (get_or_from_slice_get places j read read e) ∙ get_or_from_slice_get places j (High c) read h))

-- the value of a variable that is not basic is the bound of its side
pub other_value : OtherIsAtBound → (p : WholeProblem) (x : Corner) (t : Factors) (j : ℕ) (s : Bool) (d : Delta Ratio) → 0 < t.over → x.basic j ≡ false → x.high j ≡ s → ArePartsOf p.unit (cond s (high_bound p j) (low_bound p j)) d
    → ArePartsOf (t.over * p.unit) (value p x t j) d
unfolding bound
other_value law p x t j s d some other high h =
    let times_bound = bound_times d (cond s (high_bound p j) (low_bound p j)) p.unit t.over some h in
    let is : value p x t j ≡ times (pos t.over) (cond s (high_bound p j) (low_bound p j)) = law p x t j other ∙ ap (λ (b : Bool). times (pos t.over) (cond b (high_bound p j) (low_bound p j))) high in
    subst (λ (a : WholeParts). ArePartsOf (t.over * p.unit) a d) (sym is) times_bound

pub column_within : (places : List Place) (j c : ℕ) → HasColumn places j c → j < length places
column_within places j c (inl h) = slice_get_within places j (Low c) h
column_within places j c (inr h) = slice_get_within places j (High c) h

pub row_within : (places : List Place) (j r : ℕ) → HasRow places j r → j < length places
row_within places j r h = slice_get_within places j (Row r) h
