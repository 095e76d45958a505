-- The sums of a refutation with units have room.
use Rattle.std.proofs.Common.{◌≡◌, ◌⊎◌, ◌==◌, ℕ, suc, ◌+◌, ◌*◌, ◌<◌, ◌≤◌, ◌^◌, ℤ, pos, negsuc, neg_ℤ, ◌*ℤ◌, Bool, true, false, cond, List, [], ◌∷◌, ◌++◌, length, map, filter, get_or, Option, Some, None, All, IfSome, inl, inr, refl, sym, ap, subst, ◌∙◌, arith, lit<, lit≤, flat_map, sum_by}
use Rattle.std.specs.Prelude.{unsigned_abs, IsSomeAnd, slice_get}
use Rattle.std.specs.List.{cons_option}
use Rattle.std.specs.Option.{option_map, option_map_or}
use Rattle.std.proofs.lemmas.Bool.{eqb-true}
use Rattle.std.proofs.lemmas.Int.{ints, unsigned_abs-mul}
use Rattle.std.proofs.lemmas.List.{length-map, get_or-map, get_or_past}
use Rattle.std.proofs.lemmas.List.Elements.{All-head, All-tail}
use Rattle.std.proofs.lemmas.List.Sums.{sum_by-cons}
use Rattle.std.proofs.lemmas.Option.{slice_get_cases}
use Rattle.std.proofs.Math.Nat.{mul-le-mul_right}
use Rattle.xc_model.proofs.Integers.{lt_or_le, unsigned_abs-neg}
use Rattle.xc_lists.proofs.Members.{places_in}
use Rattle.xc_lists.proofs.Onces.{once_length}
use Rattle.xc_interval.specs.Ends.{value_of}
use Rattle.xc_interval.specs.Scales.{HasEndsOnScale, IsOnScale, greatest_end, size_of}
use Rattle.xc_interval.specs.declared.interval.Interval.{Interval}
use Rattle.xc_joint.specs.Steps.OneForest.{IsSign}
use Rattle.xc_joint.specs.Steps.UnitSums.{UnitRefutationsSum}
use Rattle.xc_joint.proofs.ReachSums.{ascending_once, flat_sum, in_flat, once_sum}
use Rattle.xc_joint.proofs.Rooms.{powers}
use Rattle.xc_joint.proofs.RunningSums.{minus_added, minus_product_added, plus_added, plus_product_added, summed, summed_append, summed_more, summed_none, summed_wider, whole_over, IsAdded, IsSummed, IsWhole}
use Rattle.xc_joint.proofs.Sizes.{number_over as fraction_over, place_of, size_is, times}
use Rattle.xc_model.specs.Ratio.{Ratio, IsOver, fraction_of}
use Rattle.xc_model.proofs.NumbersOver.{number_over}
use Rattle.xc_system.specs.Components.{IsComponent}
use Rattle.xc_system.specs.Forests.{IsNarrow, IsUnit, reach, total_reach}
use Rattle.xc_system.specs.Kept.{IsAscending}
use Rattle.xc_lists.specs.Members.{IsIn, IsOnce}
use Rattle.xc_system.specs.Refutations.{IsKnown, IsKnownIn}
use Rattle.xc_system.specs.Systems.{Constraints, equation_at, facts_of, point_at, points_of, range_at}
use Rattle.xc_system.specs.declared.types.Bound.{Bound}
use Rattle.xc_system.specs.declared.types.Component.{Component}
use Rattle.xc_system.specs.declared.types.Entry.{Entry}
use Rattle.xc_system.specs.declared.types.Equation.{Equation}
use Rattle.xc_system.specs.declared.types.Side.{Side}
use Rattle.xc_system.specs.declared.types.Side.TheVariants.{Low, High}
use Rattle.xc_verify.specs.Infeasible.{Line, binding_terms, coefficient_terms, constant_terms, end_term, end_terms, entry_terms, value_term, value_terms}
use Rattle.xc_verify.specs.Laws.{SumsGoOn}
use Rattle.xc_verify.specs.Sums.{Term, plus_product}

-- ---- units

-- 1 or -1
abbrev IsUnitWhole : Ratio → Type 0
IsUnitWhole f = (u : ℤ) × IsWhole f u × (unsigned_abs u ≤ 1)

unit_whole : (f : Ratio) → IsUnit f → IsUnitWhole f
unit_whole f (inl e, d) = (pos 1, record { num = e; den = d }, omega arith)
unit_whole f (inr e, d) = (negsuc 0, record { num = e; den = d }, omega (arith, ints))

one_whole : (f : Ratio) → IsSign false f → IsWhole f (pos 1)
one_whole f h = record { num = h.0; den = h.1 }

units_size : (u v : ℤ) → unsigned_abs u ≤ 1 → unsigned_abs v ≤ 1 → unsigned_abs (u *ℤ v) ≤ 1
units_size u v l m =
    let size : unsigned_abs (u *ℤ v) ≡ unsigned_abs u * unsigned_abs v = unsigned_abs-mul u v in
    let some : unsigned_abs u * unsigned_abs v ≤ 1 * unsigned_abs v = mul-le-mul_right (unsigned_abs v) l in
    omega (arith, size, some, m)

-- ---- the coefficient of a point

entries_none : (f : Ratio) (es : List Entry) (p : ℕ) → (IsIn p (map (λ e. e.point) es) → ⊥) → entry_terms f es p ≡ []
entries_none f [] p out = refl
entries_none f (e ∷ es) p out = go (e.point == p) refl (entries_none f es p (λ h. out (inr h)))
  where
    go : (b : Bool) → (e.point == p) ≡ b → entry_terms f es p ≡ [] → map (λ (e : Entry). plus_product f e.weight) (cond b (e ∷ filter (λ (e : Entry). e.point == p) es) (filter (λ (e : Entry). e.point == p) es)) ≡ []
    go true k rest = absurd (out (inl (sym (eqb-true e.point p k))))
    go false k rest = rest

entries_summed : (f : Ratio) (es : List Entry) (p : ℕ) → IsUnit f → All (λ e. IsUnit e.weight) es → IsOnce (map (λ e. e.point) es) → IsSummed 1 (entry_terms f es p) 1
entries_summed f [] p unit units once = summed_none 1 1
entries_summed f (e ∷ es) p unit units once = go (e.point == p) refl (entries_summed f es p unit (All-tail (λ e. IsUnit e.weight) e es units) once.1)
  where
    go : (b : Bool) → (e.point == p) ≡ b → IsSummed 1 (entry_terms f es p) 1 → IsSummed 1 (map (λ (e : Entry). plus_product f e.weight) (cond b (e ∷ filter (λ (e : Entry). e.point == p) es) (filter (λ (e : Entry). e.point == p) es))) 1
    go true k rest =
        let u = unit_whole f unit in
        let v = unit_whole e.weight (All-head (λ e. IsUnit e.weight) e es units) in
        let none : entry_terms f es p ≡ [] = entries_none f es p (λ h. once.0 (subst (λ (q : ℕ). IsIn q (map (λ (e : Entry). e.point) es)) (sym (eqb-true e.point p k)) h)) in
        subst (λ (ts : List Term). IsSummed 1 (plus_product f e.weight ∷ ts) 1) (sym none) (summed_more 1 (plus_product f e.weight) [] (u.0 *ℤ v.0) 1 0 (plus_product_added 1 f e.weight u.0 v.0 u.1 (whole_over e.weight v.0 v.1)) (units_size u.0 v.0 u.2 v.2) (summed_none 1 0))
    go false k rest = rest

-- a listed equation
record IsListed (equations : List Equation) (m : Line) : Type 0 where
  pub unit : IsUnit m.1
  pub units : All (λ entry. IsUnit entry.weight) (equation_at equations m.0).entries
  pub once : IsOnce (points_of (equation_at equations m.0))

bindings_summed : SumsGoOn → (equations : List Equation) (ms : List Line) (p : ℕ) → All (IsListed equations) ms → IsSummed 1 (binding_terms equations ms p) (length ms)
bindings_summed goes_on equations [] p h = summed_none 1 0
bindings_summed goes_on equations (m ∷ ms) p h =
    let one = All-head (IsListed equations) m ms h in
    summed_wider 1 (binding_terms equations (m ∷ ms) p) (1 + length ms) (suc (length ms)) (omega arith) (summed_append goes_on 1 (entry_terms m.1 (equation_at equations m.0).entries p) (binding_terms equations ms p) 1 (length ms) (entries_summed m.1 (equation_at equations m.0).entries p one.unit one.units one.once) (bindings_summed goes_on equations ms p (All-tail (IsListed equations) m ms h)))

end_added : (side : Side) (f : Ratio) → IsSign false f → (m : ℤ) × IsAdded 1 (end_term side f) m × (unsigned_abs m ≤ 1)
end_added Low f h = (pos 1, plus_added 1 f (pos 1) (whole_over f (pos 1) (one_whole f h)), omega arith)
end_added High f h = (neg_ℤ (pos 1), minus_added 1 f (pos 1) (whole_over f (pos 1) (one_whole f h)), omega (arith, ints))

ends_summed : (side : Side) (bounds : List Bound) (ms : List Line) (p : ℕ) → All (λ m. IsSign false m.1) ms → IsSummed 1 (end_terms side bounds ms p) (length ms)
ends_summed side bounds [] p h = summed_none 1 0
ends_summed side bounds (m ∷ ms) p h = go (point_at bounds m.0 == p) (ends_summed side bounds ms p (All-tail (λ (m : Line). IsSign false m.1) m ms h))
  where
    go : (b : Bool) → IsSummed 1 (end_terms side bounds ms p) (length ms) → IsSummed 1 (map (λ (m : Line). end_term side m.1) (cond b (m ∷ filter (λ (m : Line). point_at bounds m.0 == p) ms) (filter (λ (m : Line). point_at bounds m.0 == p) ms))) (suc (length ms))
    go true rest = let one = end_added side m.1 (All-head (λ (m : Line). IsSign false m.1) m ms h) in summed_wider 1 (end_term side m.1 ∷ end_terms side bounds ms p) (1 + length ms) (suc (length ms)) (omega arith) (summed_more 1 (end_term side m.1) (end_terms side bounds ms p) one.0 1 (length ms) one.1 one.2 rest)
    go false rest = summed_wider 1 (end_terms side bounds ms p) (length ms) (suc (length ms)) (omega arith) rest

-- ---- the constant

-- an end over the scale
end_over : (d : ℕ) (e : Ratio) → 0 < d → IsOnScale d e → (m : ℤ) × IsOver e m d × (unsigned_abs m ≡ size_of d e)
end_over d e some on = (times d (fraction_of e), number_over e (times d (fraction_of e)) d (fraction_over d (fraction_of e) some on), size_is d e)

one_times : (m : ℤ) → pos 1 *ℤ m ≡ m
one_times m = omega (arith, ints)

one_size : (m : ℤ) → unsigned_abs (pos 1 *ℤ m) ≡ unsigned_abs m
one_size m = ap unsigned_abs (one_times m)

neg_size : (m : ℤ) → unsigned_abs (neg_ℤ (pos 1 *ℤ m)) ≡ unsigned_abs m
neg_size m = unsigned_abs-neg (pos 1 *ℤ m) ∙ one_size m

value_added : (side : Side) (d : ℕ) (f : Ratio) (i : Interval Ratio) → 0 < d → IsSign false f → HasEndsOnScale d i → (m : ℤ) × IsAdded d (value_term side f i) m × (unsigned_abs m ≤ greatest_end d i)
value_added Low d f i some h on =
    let e = end_over d (value_of i.low) some on.0 in
    (neg_ℤ (pos 1 *ℤ e.0), minus_product_added d f (value_of i.low) (pos 1) e.0 (one_whole f h) e.1, omega (arith, neg_size e.0, e.2))
value_added High d f i some h on =
    let e = end_over d (value_of i.high) some on.1 in
    (pos 1 *ℤ e.0, plus_product_added d f (value_of i.high) (pos 1) e.0 (one_whole f h) e.1, omega (arith, one_size e.0, e.2))

-- a listed end
record IsListedEnd (s : Constraints) (d : ℕ) (m : Line) : Type 0 where
  pub one : IsSign false m.1
  pub on : IfSome (range_at s.bounds m.0) (HasEndsOnScale d)

values_summed : (side : Side) (s : Constraints) (c : Component) (d : ℕ) (ms : List Line) → 0 < d → All (IsListedEnd s d) ms → IsSummed d (value_terms side s.bounds ms) (sum_by (reach s c d) (map (λ m. m.0) ms))
values_summed side s c d [] some h = summed_none d 0
values_summed side s c d (m ∷ ms) some h =
    let first = All-head (IsListedEnd s d) m ms h in
    subst (λ n. IsSummed d (value_terms side s.bounds (m ∷ ms)) n) (sym (sum_by-cons (reach s c d) m.0 (map (λ (m : Line). m.0) ms)))
    (go (sum_by (reach s c d) (map (λ (m : Line). m.0) ms)) first.one (range_at s.bounds m.0) first.on (values_summed side s c d ms some (All-tail (IsListedEnd s d) m ms h)))
  where
    go : (all : ℕ) → IsSign false m.1 → (o : Option (Interval Ratio)) → IfSome o (HasEndsOnScale d) → IsSummed d (value_terms side s.bounds ms) all → IsSummed d (cons_option (option_map (value_term side m.1) o) (value_terms side s.bounds ms)) (option_map_or (greatest_end d) o 0 + all)
    go all one None on rest = summed_wider d (value_terms side s.bounds ms) all (0 + all) (omega arith) rest
    go all one (Some i) on rest = let added = value_added side d m.1 i some one on in summed_more d (value_term side m.1 i) (value_terms side s.bounds ms) added.0 (greatest_end d i) all added.1 added.2 rest

-- ---- what is listed

all_in : (P : ℕ → Type 0) (xs : List ℕ) (x : ℕ) → All P xs → IsIn x xs → P x
all_in P xs x all h = let r = place_of x xs h in subst P r.2 (all r.0 0 r.1)

in_lines : (P : ℕ → Type 0) (ms : List Line) → All (λ m. P m.0) ms → (q : ℕ) → IsIn q (map (λ m. m.0) ms) → P q
in_lines P [] all q h = absurd h
in_lines P (m ∷ ms) all q (inl e) = subst P (sym e) (All-head (λ (m : Line). P m.0) m ms all)
in_lines P (m ∷ ms) all q (inr h) = in_lines P ms (All-tail (λ (m : Line). P m.0) m ms all) q h

lines_few : (ms : List Line) (n : ℕ) → IsAscending ms → All (λ m. m.0 < n) ms → length ms ≤ n
lines_few ms n up below =
    let few = once_length (map (λ (m : Line). m.0) ms) n (ascending_once (map (λ (m : Line). m.0) ms) up) (in_lines (λ k. k < n) ms below) in
    let long = length-map ms (λ (m : Line). m.0) in
    omega (arith, few, long)

-- an equation of a component is there
equation_there : (s : Constraints) (c : Component) → IsComponent s c → (i : ℕ) → IsIn i c.equations → i < length s.equations
equation_there s c is i h = let owned = (is.equations i).0 h in go owned.0 owned.1 (lt_or_le i (length s.equations))
  where
    go : (p : ℕ) → IsIn p (points_of (equation_at s.equations i)) → (i < length s.equations) ⊎ (length s.equations ≤ i) → i < length s.equations
    go p owned (inl l) = l
    go p owned (inr l) = absurd (subst (λ (e : Equation). IsIn p (points_of e)) (get_or_past s.equations i (record { entries = [] }) l) owned)

-- a fact that is known is there
record IsThere (bounds : List Bound) (k : ℕ) : Type 0 where
  pub inside : k < length bounds
  pub owner : get_or (map (λ bound. bound.point) bounds) k 0 ≡ point_at bounds k

known_there : (s : Constraints) (k : ℕ) → IsKnown s k → IsThere s.bounds k
known_there s k known = go (slice_get_cases s.bounds k).1
  where
    go : ((b : Bound) × (k < length s.bounds) × (slice_get s.bounds k ≡ Some b) × (get_or s.bounds k b ≡ b)) ⊎ ((length s.bounds ≤ k) × (slice_get s.bounds k ≡ None)) → IsThere s.bounds k
    go (inl (b, l, found, at)) = record {
      inside = l;
      owner = get_or-map (λ (x : Bound). x.point) s.bounds k b 0 l ∙ ap (λ (x : Bound). x.point) at ∙ sym (ap (λ (o : Option Bound). option_map_or (λ bound. bound.point) o 0) found);
    }
    go (inr (past, none)) = absurd (subst (λ (o : Option Bound). IsSomeAnd (option_map_or (λ bound. bound.range) o None) (λ interval. Unit {0})) none known)

known_fact : (s : Constraints) (k : ℕ) → IsKnown s k → IsIn k (facts_of s.bounds (point_at s.bounds k))
known_fact s k known =
    let there = known_there s k known in
    let inside = there.inside in
    places_in (map (λ bound. bound.point) s.bounds) (point_at s.bounds k) k (let long = length-map s.bounds (λ (bound : Bound). bound.point) in omega (arith, long, inside)) there.owner

module _ (s : Constraints) (c : Component) (narrow : IsNarrow s c) where
  on_scale : (k : ℕ) → IsKnownIn s c k → IfSome (range_at s.bounds k) (HasEndsOnScale narrow.scale)
  on_scale k known =
      let facts = all_in (λ p. All (λ j. IfSome (range_at s.bounds j) (HasEndsOnScale narrow.scale)) (facts_of s.bounds p)) c.points (point_at s.bounds k) narrow.is_least.common known.1 in
      all_in (λ j. IfSome (range_at s.bounds j) (HasEndsOnScale narrow.scale)) (facts_of s.bounds (point_at s.bounds k)) k facts (known_fact s k known.0)

  reach_all : (ms : List Line) → IsAscending ms → All (λ m. IsKnownIn s c m.0) ms → sum_by (reach s c narrow.scale) (map (λ m. m.0) ms) ≤ total_reach s c narrow.scale
  reach_all ms up known =
      let all = flat_map (facts_of s.bounds) c.points in
      let few = once_sum (reach s c narrow.scale) (map (λ (m : Line). m.0) ms) all (ascending_once (map (λ (m : Line). m.0) ms) up) (in_lines (λ k. IsIn k all) ms (λ i d l. let m = get_or ms i d in let h = known i d l in in_flat (facts_of s.bounds) (point_at s.bounds m.0) m.0 c.points h.1 (known_fact s m.0 h.0))) in
      let flat = flat_sum (reach s c narrow.scale) (facts_of s.bounds) c.points in
      omega (arith, few, flat)

  side_summed : (side : Side) (ms : List Line) → IsAscending ms → All (λ m. IsKnownIn s c m.0) ms → All (λ m. IsSign false m.1) ms → IsSummed narrow.scale (value_terms side s.bounds ms) (total_reach s c narrow.scale)
  side_summed side ms up known ones =
      summed_wider narrow.scale (value_terms side s.bounds ms) (sum_by (reach s c narrow.scale) (map (λ m. m.0) ms)) (total_reach s c narrow.scale) (reach_all ms up known)
      (values_summed side s c narrow.scale ms narrow.is_least.positive (λ i d l. record { one = ones i d l; on = on_scale (get_or ms i d).0 (known i d l) }))

-- ---- the sums

lengths_room : (2 ^ 31) + ((2 ^ 31) + (2 ^ 31)) ≤ 2 ^ 127
lengths_room = lit≤ tt

pub unit_refutations_sum : SumsGoOn → UnitRefutationsSum
unit_refutations_sum goes_on s c r is_system small is_component forest against units =
    let narrow = forest.narrow in
    let d : ℕ = narrow.scale in
    let reached : ℕ = total_reach s c narrow.scale in
    let kept = against.kept in
    let equations : All (IsListed s.equations) r.bindings = λ i z l. let m = get_or r.bindings i z in let h = against.bindings i z l in record {
      unit = units.bindings i z l;
      units = all_in (λ j. All (λ entry. IsUnit entry.weight) (equation_at s.equations j).entries) c.equations m.0 forest.weights h;
      once = all_in (λ j. IsOnce (points_of (equation_at s.equations j))) c.equations m.0 forest.once h;
    } in
    let few_bindings = lines_few r.bindings (length s.equations) kept.bindings_ascend (λ i z l. equation_there s c is_component (get_or r.bindings i z).0 (against.bindings i z l)) in
    let few_lows = lines_few r.lows (length s.bounds) kept.lows_ascend (λ i z l. (known_there s (get_or r.lows i z).0 (against.lows i z l).0).inside) in
    let few_highs = lines_few r.highs (length s.bounds) kept.highs_ascend (λ i z l. (known_there s (get_or r.highs i z).0 (against.highs i z l).0).inside) in
    let four : 4 * (d + reached) ≤ (2 * length c.points + 4) * (d + reached) = mul-le-mul_right (d + reached) (omega arith) in
    let fits = narrow.fits in
    let positive = narrow.is_least.positive in
    let many_facts = small.bounds in
    let many_equations = small.equations in
    record {
      points = λ p l. summed 1 (coefficient_terms s r p) (length r.bindings + (length r.lows + length r.highs)) (omega arith) (lit< tt) (omega (arith, few_bindings, few_lows, few_highs, many_facts, many_equations, lengths_room))
          (summed_append goes_on 1 (binding_terms s.equations r.bindings p) (end_terms Low s.bounds r.lows p ++ end_terms High s.bounds r.highs p) (length r.bindings) (length r.lows + length r.highs) (bindings_summed goes_on s.equations r.bindings p equations)
          (summed_append goes_on 1 (end_terms Low s.bounds r.lows p) (end_terms High s.bounds r.highs p) (length r.lows) (length r.highs) (ends_summed Low s.bounds r.lows p units.lows) (ends_summed High s.bounds r.highs p units.highs)));
      constant = summed d (constant_terms s r) (reached + reached) positive (omega (arith, four, fits, powers, positive)) (omega (arith, four, fits, powers, positive))
          (summed_append goes_on d (value_terms Low s.bounds r.lows) (value_terms High s.bounds r.highs) reached reached (side_summed s c narrow Low r.lows kept.lows_ascend against.lows units.lows) (side_summed s c narrow High r.highs kept.highs_ascend against.highs units.highs));
    }
