-- Values of all points, from those of the components.
use Rattle.std.proofs.Common.{◌≡◌, ◌≢◌, ◌<◌, ◌≤◌, ◌+◌, ◌++◌, ◌==◌, ◌⊎◌, ℕ, zero, suc, Bool, true, false, cond, List, [], ◌∷◌, length, map, get_or, set, Option, Some, None, Ok, inl, inr, pos, refl, sym, ap, subst, ◌∙◌, arith}
use Rattle.std.proofs.lemmas.Bool.{eq-eqb, eqb-true}
use Rattle.std.proofs.lemmas.List.{get_or-set_same, get_or-set_other, length-set}
use Rattle.std.proofs.lemmas.Option.{same_Some, slice_get_cases, slice_get_past, slice_get_within, slice_get-get_or, get_or_from_slice_get}
use Rattle.std.specs.List.Sorted.{IsStrictlySortedBy}
use Rattle.std.specs.Option.{option_map_or}
use Rattle.std.specs.Ordering.{nat_cmp}
use Rattle.std.specs.Prelude.{slice_get}
use Rattle.xc_joint.proofs.OneKind.{behind, same_component, placed_at as placed_at_of}
use Rattle.xc_joint.specs.Answers.{AreValuesOf, HasNoCauses, IsPart, IsRefuted, assignment_at}
use Rattle.xc_joint.specs.Lists.{AreAmong}
use Rattle.xc_joint.specs.Steps.Settling.{AreFirstAmong, AreGathered, HaveCause, HaveSums, IsRefutedBy}
use Rattle.xc_joint.specs.Causes.{HasNoCause, IsCause}
use Rattle.xc_joint.specs.declared.types.Cause.{Cause}
use Rattle.xc_joint.specs.declared.types.Part.{Part}
use Rattle.xc_joint.specs.declared.types.Part.TheVariants.{Values, Wide}
use Rattle.xc_model.specs.Fraction.{whole}
use Rattle.xc_model.specs.Ratio.{Ratio, fraction_of}
use Rattle.xc_lists.proofs.Members.{is_in_at}
use Rattle.xc_system.specs.Components.{AreComponents, least_of}
use Rattle.xc_system.specs.Kept.{Multipliers}
use Rattle.xc_system.specs.Laws.{JoinedSolve, LinksAreEquivalences, PartContradicts}
use Rattle.xc_lists.specs.Members.{IsIn}
use Rattle.xc_system.specs.Solutions.{Assignment, Solves, SolvesPart}
use Rattle.xc_system.specs.Systems.{Constraints, IsSystem, equation_at}
use Rattle.xc_system.specs.declared.types.Certificate.TheVariants.{Feasible, Infeasible}
use Rattle.xc_system.specs.declared.types.Component.{Component}
use Rattle.xc_system.specs.declared.types.Entry.{Entry}
use Rattle.xc_verify.specs.Feasible.{assignment_of, equation_terms}
use Rattle.xc_verify.specs.Laws.{ContradictionsAreAccepted, SolutionsAreAccepted}
use Rattle.xc_verify.specs.Judgements.{IsJudgement, Proves}
use Rattle.xc_verify.specs.Sums.{IsSumOf, zero_ratio}
use Rattle.xc_verify.specs.declared.types.Judgement.TheVariants.{Accepted}

-- ---- lists

set_there : {X : Type 0} (xs : List X) (i : ℕ) (y : X) → i < length xs → slice_get (set xs i y) i ≡ Some y
set_there xs i y l = slice_get-get_or (set xs i y) i y (omega (arith, l, length-set xs i y)) ∙ ap (λ z. Some z) (get_or-set_same xs i y y l)

set_elsewhere : {X : Type 0} (xs : List X) (i j : ℕ) (y : X) → j ≢ i → slice_get (set xs i y) j ≡ slice_get xs j
set_elsewhere {X} xs i j y n = go (order j (length xs))
  where
    order : (a b : ℕ) → (a < b) ⊎ (b ≤ a)
    order a b = grind arith

    go : (j < length xs) ⊎ (length xs ≤ j) → slice_get (set xs i y) j ≡ slice_get xs j
    go (inl l) = slice_get-get_or (set xs i y) j y (omega (arith, l, length-set xs i y)) ∙ ap (λ z. Some z) (get_or-set_other xs i j y y n) ∙ sym (slice_get-get_or xs j y l)
    go (inr l) = slice_get_past (set xs i y) j (omega (arith, l, length-set xs i y)) ∙ sym (slice_get_past xs j l)

pushed : {X : Type 0} (xs : List X) (y : X) (k : ℕ) (x : X) → slice_get (xs ++ y ∷ []) k ≡ Some x → (slice_get xs k ≡ Some x) ⊎ ((k ≡ length xs) × (y ≡ x))
pushed [] y zero x e = inr (refl, same_Some y x e)
pushed [] y (suc k) x e = absurd (none e)
  where
    none : None ≡ Some x → ⊥
    none e = cc
pushed (z ∷ zs) y zero x e = inl e
pushed (z ∷ zs) y (suc k) x e = go (pushed zs y k x e)
  where
    go : (slice_get zs k ≡ Some x) ⊎ ((k ≡ length zs) × (y ≡ x)) → (slice_get zs k ≡ Some x) ⊎ ((suc k ≡ suc (length zs)) × (y ≡ x))
    go (inl h) = inl h
    go (inr (h, same)) = inr (ap (λ (n : ℕ). suc n) h, same)

kept_there : {X : Type 0} (xs : List X) (y : X) (k : ℕ) (x : X) → slice_get xs k ≡ Some x → slice_get (xs ++ y ∷ []) k ≡ Some x
kept_there [] y k x e = absurd (none e)
  where
    none : None ≡ Some x → ⊥
    none e = cc
kept_there (z ∷ zs) y zero x e = e
kept_there (z ∷ zs) y (suc k) x e = kept_there zs y k x e

last_there : {X : Type 0} (xs : List X) (y : X) → slice_get (xs ++ y ∷ []) (length xs) ≡ Some y
last_there [] y = refl
last_there (z ∷ zs) y = last_there zs y

-- numbers that ascend
ascending : (xs : List ℕ) → IsStrictlySortedBy nat_cmp xs → (i n : ℕ) → i < n → n < length xs → get_or xs i 0 < get_or xs n 0
unfolding IsStrictlySortedBy
ascending [] s i n l h = absurd (omega (arith, h))
ascending (x ∷ xs) s i zero l h = absurd (omega (arith, l))
ascending (x ∷ xs) s zero (suc n) l h = behind x (get_or xs n 0) xs s.0 (is_in_at xs n (omega (arith, h)))
ascending (x ∷ xs) s (suc i) (suc n) l h = ascending xs s.1 i n (omega (arith, l)) (omega (arith, h))

there_in : (xs : List ℕ) (i p : ℕ) → slice_get xs i ≡ Some p → IsIn p xs
there_in xs i p e = subst (λ (q : ℕ). IsIn q xs) (get_or_from_slice_get xs i p 0 e) (is_in_at xs i (slice_get_within xs i p e))

pub in_there : (xs : List ℕ) (p : ℕ) → IsIn p xs → (i : ℕ) × (slice_get xs i ≡ Some p)
in_there [] p h = absurd h
in_there (x ∷ xs) p (inl e) = (0, ap (λ (q : ℕ). Some q) (sym e))
in_there (x ∷ xs) p (inr h) = let r = in_there xs p h in (suc r.0, r.1)

-- ---- values that are written

module _ (points : List ℕ) (values all : List Ratio) (n : ℕ) (value : Ratio) where
  abbrev point : ℕ
  point = get_or points n 0

  pub placed_more : IsStrictlySortedBy nat_cmp points → n < length points → length values ≡ length points → value ≡ get_or values n value → point < length all → AreFirstAmong n points values all → AreFirstAmong (n + 1) points values (set all point value)
  placed_more ascend l each is inside before i p x h at of = go (order i n)
    where
      order : (a b : ℕ) → (a < b) ⊎ ((a ≡ b) ⊎ (b < a))
      order a b = grind arith

      p_is : get_or points i 0 ≡ p
      p_is = get_or_from_slice_get points i p 0 at

      go : (i < n) ⊎ ((i ≡ n) ⊎ (n < i)) → slice_get (set all point value) p ≡ Some x
      go (inl less) = set_elsewhere all point p value (λ e. omega (arith, ascending points ascend i n less l, p_is, e)) ∙ before i p x less at of
      go (inr (inl e)) =
          let q : point ≡ p = ap (λ (m : ℕ). get_or points m 0) (sym e) ∙ p_is in
          let v : value ≡ x = is ∙ ap (λ (m : ℕ). get_or values m value) (sym e) ∙ get_or_from_slice_get values i x value of in
          subst (λ (m : ℕ). slice_get (set all point value) m ≡ Some x) q (set_there all point value inside ∙ ap (λ (y : Ratio). Some y) v)
      go (inr (inr more)) = absurd (omega (arith, more, h))

  pub placed_kept : n < length points → (p : ℕ) → (IsIn p points → ⊥) → slice_get (set all point value) p ≡ slice_get all p
  placed_kept l p out = set_elsewhere all point p value (λ e. out (subst (λ (q : ℕ). IsIn q points) (sym e) (is_in_at points n l)))

pub placed_all : (points : List ℕ) (values all : List Ratio) (n : ℕ) → length points ≤ n → AreFirstAmong n points values all → AreAmong points values all
placed_all points values all n l h i p x at of = h i p x (omega (arith, l, slice_get_within points i p at)) at of

-- the value of a point is the one at its place
placed_at : (qs : List ℕ) (values : List Ratio) (i p : ℕ) (x : Ratio) → IsStrictlySortedBy nat_cmp qs → slice_get qs i ≡ Some p → slice_get values i ≡ Some x → assignment_at qs values p ≡ fraction_of x
unfolding IsStrictlySortedBy
placed_at [] values i p x s at of = absurd (none at)
  where
    none : None ≡ Some p → ⊥
    none e = cc
placed_at (q ∷ qs) [] i p x s at of = absurd (none of)
  where
    none : None ≡ Some x → ⊥
    none e = cc
placed_at (q ∷ qs) (v ∷ vs) zero p x s at of = ap (λ (b : Bool). cond b (fraction_of v) (assignment_at qs vs p)) (eq-eqb p q (sym (same_Some q p at))) ∙ ap (λ (y : Ratio). fraction_of y) (same_Some v x of)
placed_at (q ∷ qs) (v ∷ vs) (suc i) p x s at of = go (p == q) refl ∙ placed_at qs vs i p x s.1 at of
  where
    go : (b : Bool) → (p == q) ≡ b → cond b (fraction_of v) (assignment_at qs vs p) ≡ assignment_at qs vs p
    go true e = absurd (omega (arith, eqb-true p q e, behind q p qs s.0 (there_in qs i p at)))
    go false e = refl

-- ---- components

module _ (s : Constraints) (cs : List Component) (are : AreComponents s cs) where
  -- two of them have no point in common
  apart : LinksAreEquivalences → (j n : ℕ) (b c : Component) → j < n → slice_get cs j ≡ Some b → slice_get cs n ≡ Some c → (p : ℕ) → IsIn p b.points → IsIn p c.points → ⊥
  apart links j n b c l at there p in_b in_c =
      let ib = are.each j b at in
      let ic = are.each n c there in
      let linked = (links s.equations).transitive (least_of b) p (least_of c) ((ib.points p).0 in_b).1 ((links s.equations).symmetric (least_of c) p ((ic.points p).0 in_c).1) in
      let same : c ≡ b = same_component links s c b ic ib ((ib.points (least_of c)).1 (ic.least, linked)) in
      omega (arith, are.numbered j n b c at there l, ap least_of same)

  -- a part more
  module _ (n : ℕ) (c : Component) (there : slice_get cs n ≡ Some c) (parts : List Part) (each : length parts ≡ n) (all now : List Ratio) (part : Part) where
    pub gathered_more : LinksAreEquivalences → IsPart s c part → ((values : List Ratio) → part ≡ Values values → AreAmong c.points values now × HaveSums s c values) → ((p : ℕ) → (IsIn p c.points → ⊥) → slice_get now p ≡ slice_get all p) → AreGathered s cs parts all → AreGathered s cs (parts ++ part ∷ []) now
    gathered_more links is among kept before = record { part = parts_are; among = all_among }
      where
        own : (k : ℕ) (d : Component) → slice_get cs k ≡ Some d → k ≡ length parts → c ≡ d
        own k d at e = same_Some c d (sym there ∙ ap (λ (m : ℕ). slice_get cs m) (sym (e ∙ each)) ∙ at)

        parts_are : (k : ℕ) (d : Component) (x : Part) → slice_get cs k ≡ Some d → slice_get (parts ++ part ∷ []) k ≡ Some x → IsPart s d x
        parts_are k d x at got = go (pushed parts part k x got)
          where
            go : (slice_get parts k ≡ Some x) ⊎ ((k ≡ length parts) × (part ≡ x)) → IsPart s d x
            go (inl h) = before.part k d x at h
            go (inr (e, same)) = subst (λ (y : Part). IsPart s d y) same (subst (λ (y : Component). IsPart s y part) (own k d at e) is)

        all_among : (k : ℕ) (d : Component) (values : List Ratio) → slice_get cs k ≡ Some d → slice_get (parts ++ part ∷ []) k ≡ Some (Values values) → AreAmong d.points values now × HaveSums s d values
        all_among k d values at got = go (pushed parts part k (Values values) got)
          where
            go : (slice_get parts k ≡ Some (Values values)) ⊎ ((k ≡ length parts) × (part ≡ Values values)) → AreAmong d.points values now × HaveSums s d values
            go (inl h) =
                let b = before.among k d values at h in
                (λ i p x place value. kept p (λ in_c. apart links k n d c (omega (arith, each, slice_get_within parts k (Values values) h)) at there p (there_in d.points i p place) in_c) ∙ b.0 i p x place value, b.1)
            go (inr (e, same)) = subst (λ (y : Component). AreAmong y.points values now × HaveSums s y values) (own k d at e) (among values same)

  -- the number of components is at most that of points
  at_least : (k : ℕ) (c : Component) → slice_get cs k ≡ Some c → k ≤ least_of c
  at_least zero c at = omega arith
  at_least (suc k) c at =
      let before : slice_get cs k ≡ Some (get_or cs k c) = slice_get-get_or cs k c (omega (arith, slice_get_within cs (suc k) c at)) in
      omega (arith, at_least k (get_or cs k c) before, are.numbered k (suc k) (get_or cs k c) c before at (omega arith))

  pub few : (k : ℕ) (c : Component) → slice_get cs k ≡ Some c → k < s.points
  few k c at = let l = (are.each k c at).least in omega (arith, at_least k c at, l)

-- whether some part is a cause
pub cause_kept : (parts : List Part) (values : List Ratio) (b : Bool) → HaveCause parts b → HaveCause (parts ++ Values values ∷ []) b
cause_kept parts values true h = (h.0, h.1, kept_there parts (Values values) h.0 (Wide h.1) h.2)
cause_kept parts values false h = λ k part at. go k part (pushed parts (Values values) k part at)
  where
    go : (k : ℕ) (part : Part) → (slice_get parts k ≡ Some part) ⊎ ((k ≡ length parts) × (Values values ≡ part)) → (vs : List Ratio) × (part ≡ Values vs)
    go k part (inl e) = h k part e
    go k part (inr (e, same)) = (values, sym same)

pub cause_new : (parts : List Part) (cause : Cause) → HaveCause (parts ++ Wide cause ∷ []) true
cause_new parts cause = (length parts, cause, last_there parts (Wide cause))

length_more : {X : Type 0} (xs : List X) (y : X) → length (xs ++ y ∷ []) ≡ length xs + 1
length_more [] y = refl
length_more (x ∷ xs) y = omega (arith, length_more xs y)

-- ---- one component more

module _ (links : LinksAreEquivalences) (s : Constraints) (cs : List Component) (are : AreComponents s cs) (n : ℕ) (c : Component) (there : slice_get cs n ≡ Some c) (parts : List Part) (all : List Ratio) (count : length all ≡ s.points) (each : length parts ≡ n) (gathered : AreGathered s cs parts all) (b : Bool) (caused : HaveCause parts b) (parts_now : List Part) (all_now : List Ratio) (b_now : Bool) where
  -- what the loop keeps
  abbrev AreKept : Type 0
  AreKept = (length all_now ≡ s.points) × (length parts_now ≡ n + 1) × AreGathered s cs parts_now all_now × HaveCause parts_now b_now

  pub values_step : (values : List Ratio) (points : List ℕ) (lent old now : List Ratio) → AreValuesOf s c values × HaveSums s c values × HasNoCause s c → points ≡ c.points → lent ≡ values → old ≡ all
      → length now ≡ length old → AreAmong points lent now → ((p : ℕ) → ¬ IsIn p points → slice_get now p ≡ slice_get old p)
      → parts_now ≡ parts ++ Values values ∷ [] → all_now ≡ now → b_now ≡ b → AreKept
  values_step values points lent old now h own vs olds long among kept more same told = (
    ap length same ∙ long ∙ ap length olds ∙ count,
    ap length more ∙ length_more parts (Values values) ∙ ap (λ (k : ℕ). k + 1) each,
    subst (λ (ps : List Part). AreGathered s cs ps all_now) (sym more) (subst (λ (xs : List Ratio). AreGathered s cs (parts ++ Values values ∷ []) xs) (sym same)
        (gathered_more s cs are n c there parts each all now (Values values) links (h.0, h.2) given_own (λ p out. kept p (λ i. out (subst (λ (ps : List ℕ). IsIn p ps) own i)) ∙ ap (λ (xs : List Ratio). slice_get xs p) olds) gathered)),
    subst (λ (ps : List Part). HaveCause ps b_now) (sym more) (subst (λ (t : Bool). HaveCause (parts ++ Values values ∷ []) t) (sym told) (cause_kept parts values b caused)),
  )
    where
      same_values : (xs : List Ratio) → Values values ≡ Values xs → values ≡ xs
      same_values xs e = cc

      given_own : (xs : List Ratio) → Values values ≡ Values xs → AreAmong c.points xs now × HaveSums s c xs
      given_own xs e = subst (λ (ys : List Ratio). AreAmong c.points ys now × HaveSums s c ys) (same_values xs e)
          (subst (λ (ps : List ℕ). AreAmong ps values now) own (subst (λ (ys : List Ratio). AreAmong points ys now) vs among), h.1)

  pub wide_step : (cause : Cause) → IsCause s c cause → parts_now ≡ parts ++ Wide cause ∷ [] → all_now ≡ all → b_now ≡ true → AreKept
  wide_step cause is more same told = (
    ap length same ∙ count,
    ap length more ∙ length_more parts (Wide cause) ∙ ap (λ (k : ℕ). k + 1) each,
    subst (λ (ps : List Part). AreGathered s cs ps all_now) (sym more) (subst (λ (xs : List Ratio). AreGathered s cs (parts ++ Wide cause ∷ []) xs) (sym same)
        (gathered_more s cs are n c there parts each all all (Wide cause) links is (λ values e. absurd (other values e)) (λ p out. refl) gathered)),
    subst (λ (ps : List Part). HaveCause ps b_now) (sym more) (subst (λ (t : Bool). HaveCause (parts ++ Wide cause ∷ []) t) (sym told) (cause_new parts cause)),
  )
    where
      other : (values : List Ratio) → Wide cause ≡ Values values → ⊥
      other values e = cc

-- ---- the values of all points

-- what a part gives its component
abbrev given : Option Component → Option Part → Assignment
given (Some c) (Some (Values values)) = assignment_at c.points values
given (Some c) (Some (Wide cause)) = λ p. whole (pos 0)
given (Some c) None = λ p. whole (pos 0)
given None part = λ p. whole (pos 0)

module _ (accepted : SolutionsAreAccepted) (s : Constraints) (cs : List Component) (are : AreComponents s cs) (parts : List Part) (all : List Ratio) (each : length parts ≡ length cs) (count : length all ≡ s.points) (gathered : AreGathered s cs parts all) (valued : HaveCause parts false) where
  -- the values of a component
  values_at : (k : ℕ) (c : Component) → slice_get cs k ≡ Some c → (values : List Ratio) × (slice_get parts k ≡ Some (Values values))
  values_at k c at = go (slice_get_cases parts k).1
    where
      go : ((p : Part) × (k < length parts) × (slice_get parts k ≡ Some p) × (get_or parts k p ≡ p)) ⊎ ((length parts ≤ k) × (slice_get parts k ≡ None)) → (values : List Ratio) × (slice_get parts k ≡ Some (Values values))
      go (inl (p, l, there, same)) = let v = valued k p there in (v.0, there ∙ ap (λ (y : Part). Some y) v.1)
      go (inr (past, none)) = absurd (omega (arith, past, each, slice_get_within cs k c at))

  abbrev own : ℕ → Assignment
  own k = given (slice_get cs k) (slice_get parts k)

  own_is : (k : ℕ) (c : Component) (values : List Ratio) → slice_get cs k ≡ Some c → slice_get parts k ≡ Some (Values values) → own k ≡ assignment_at c.points values
  own_is k c values at there = ap (λ (o : Option Component). given o (slice_get parts k)) at ∙ ap (λ (o : Option Part). given (Some c) o) there

  joins : (k p : ℕ) (c : Component) → slice_get cs k ≡ Some c → IsIn p c.points → assignment_of all p ≡ own k p
  joins k p c at has =
      let v = values_at k c at in
      let are_of : AreValuesOf s c v.0 = (gathered.part k c (Values v.0) at v.1).0 in
      let place = in_there c.points p has in
      let x : slice_get v.0 place.0 ≡ Some (get_or v.0 place.0 zero_ratio) = slice_get-get_or v.0 place.0 zero_ratio (omega (arith, are_of.each, slice_get_within c.points place.0 p place.1)) in
      ap (λ (o : Option Ratio). option_map_or (λ value. fraction_of value) o (whole (pos 0))) ((gathered.among k c v.0 at v.1).0 place.0 p (get_or v.0 place.0 zero_ratio) place.1 x)
      ∙ sym (placed_at c.points v.0 place.0 p (get_or v.0 place.0 zero_ratio) (are.each k c at).points_ascend place.1 x)
      ∙ sym (ap (λ (z : Assignment). z p) (own_is k c v.0 at v.1))

  pub all_solve : JoinedSolve → IsSystem s → Solves s (assignment_of all)
  all_solve joined ok = joined s cs own (assignment_of all) ok are joins (λ k c at.
      let v = values_at k c at in
      subst (λ (z : Assignment). SolvesPart s c z) (sym (own_is k c v.0 at v.1)) (gathered.part k c (Values v.0) at v.1).0.solve)

  pub all_sums : IsSystem s → (i : ℕ) → i < length s.equations → (x : Ratio) × IsSumOf (equation_terms all (equation_at s.equations i).entries) (Ok x)
  all_sums ok i h = go (equation_at s.equations i).entries refl
    where
      go : (es : List Entry) → (equation_at s.equations i).entries ≡ es → (x : Ratio) × IsSumOf (equation_terms all (equation_at s.equations i).entries) (Ok x)
      go [] e = subst (λ (l : List Entry). (x : Ratio) × IsSumOf (equation_terms all l) (Ok x)) (sym e) (zero_ratio, refl)
      go (entry ∷ es) e =
          let within : entry.point < s.points = subst (λ (l : List Entry). (j : ℕ) (d : Entry) → j < length l → (get_or l j d).point < s.points) e (ok.equations i (record { entries = [] }) h) 0 entry (omega arith) in
          let held = are.all entry.point within in
          let k = held.0 in
          let c = held.1.component in
          let v = values_at k c held.1.there in
          let a = gathered.among k c v.0 held.1.there v.1 in
          a.1 all count a.0 i (((are.each k c held.1.there).equations i).1 (entry.point, subst (λ (l : List Entry). IsIn entry.point (map (λ x. x.point) l)) (sym e) (inl refl), held.1.has))

  none_caused : LinksAreEquivalences → HasNoCauses s
  none_caused links c is =
      let at = placed_at_of links s cs are c is in
      let v = values_at at.0 c at.1 in
      (gathered.part at.0 c (Values v.0) at.1 v.1).1

  pub all_answer : LinksAreEquivalences → JoinedSolve → IsSystem s → Proves s (Feasible all) × IsJudgement s (Feasible all) Accepted × HasNoCauses s
  all_answer links joined ok =
      let solves = all_solve joined ok in
      ((count, solves), accepted s all count solves (all_sums ok), none_caused links)

-- ---- a refutation

module _ (accepted : ContradictionsAreAccepted) (s : Constraints) (cs : List Component) (are : AreComponents s cs) (k : ℕ) (c : Component) (there : slice_get cs k ≡ Some c) (parts : List Part) (all : List Ratio) (each : length parts ≡ k) (gathered : AreGathered s cs parts all) where
  pub refuted_answer : PartContradicts → IsSystem s → (r : Multipliers) → IsRefutedBy s c r → IsRefuted s r × IsJudgement s (Infeasible r) Accepted
  refuted_answer joins ok r h = (
    record { components = cs; are = are; k = k; component = c; there = there; contradicts = h.contradicts; uncaused = h.uncaused; empty = h.empty; earlier = earlier },
    accepted s r (joins s c r ok (are.each k c there) h.contradicts) h.sums.points h.sums.constant,
  )
    where
      earlier : (j : ℕ) (d : Component) → j < k → slice_get cs j ≡ Some d → (part : Part) × IsPart s d part
      earlier j d l at = go (slice_get_cases parts j).1
        where
          go : ((p : Part) × (j < length parts) × (slice_get parts j ≡ Some p) × (get_or parts j p ≡ p)) ⊎ ((length parts ≤ j) × (slice_get parts j ≡ None)) → (part : Part) × IsPart s d part
          go (inl (p, h, here, same)) = (p, gathered.part j d p at here)
          go (inr (past, none)) = absurd (omega (arith, past, each, l))
