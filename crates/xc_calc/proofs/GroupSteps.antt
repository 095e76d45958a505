-- A group with one more arc behind the others, and the groups of all keys.
use Rattle.std.proofs.Common.{◌≡◌, ◌&&◌, ◌||◌, ◌++◌, ℕ, zero, suc, ℤ, List, [], ◌∷◌, Bool, true, false, cond, Option, Some, None, length, take, true≢false, refl, sym, ap, subst, ◌∙◌, arith}
use Rattle.std.proofs.lemmas.Bool.{and_from, and_left, and_parts, and_right, or_from}
use Rattle.std.proofs.lemmas.Cmp.{eq_by_cmp_equiv}
use Rattle.std.proofs.lemmas.Int.{ints}
use Rattle.std.proofs.lemmas.List.Folds.{list_any-append}
use Rattle.std.specs.BTreeMap.{BTreeMap, Updates, get}
use Rattle.std.specs.Cmp.{signed_Decides}
use Rattle.std.specs.List.{list_any, slice_get}
use Rattle.std.specs.Map.{lookup}
use Rattle.std.specs.Option.{option_map_or}
use Rattle.std.specs.Ordering.{int_eq, is_eq}
use Rattle.std.specs.Prelude.{int_lt}
use Rattle.xc_calc.proofs.Grouping.{common_total, same_common}
use Rattle.xc_calc.specs.Effective.{is_prohibited}
use Rattle.xc_calc.specs.Steps.Common.{by_common, has_common, IsCommonOf}
use Rattle.xc_calc.specs.Steps.Groups.{is_above, is_level, is_bar, IsGroup, IsGroupOf, AreGroups}
use Rattle.xc_calc.specs.declared.arc.ListedArc.{ListedArc}
use Rattle.xc_calc.specs.declared.common.Common.{Common}
use Rattle.xc_calc.specs.declared.groups.Group.{Group}

-- ---- lists with one more element

or_none : (b : Bool) → (b || false) ≡ b
or_none true = refl
or_none false = refl

module _ {X : Type 0} (p : X → Bool) where
  any_last : (xs : List X) (x : X) → list_any p (xs ++ x ∷ []) ≡ (list_any p xs || p x)
  any_last xs x = list_any-append p xs (x ∷ []) ∙ ap (λ b. list_any p xs || b) (or_none (p x))

  -- what stands somewhere stays there
  there_kept : (xs : List X) (x : X) (i : ℕ) → option_map_or p (slice_get xs i) false ≡ true → option_map_or p (slice_get (xs ++ x ∷ []) i) false ≡ true
  there_kept [] x i h = absurd (true≢false (sym h))
  there_kept (y ∷ xs) x zero h = h
  there_kept (y ∷ xs) x (suc i) h = there_kept xs x i h

  before_kept : (xs : List X) (x : X) (i : ℕ) → option_map_or p (slice_get xs i) false ≡ true → take i (xs ++ x ∷ []) ≡ take i xs
  before_kept [] x i h = absurd (true≢false (sym h))
  before_kept (y ∷ xs) x zero h = refl
  before_kept (y ∷ xs) x (suc i) h = ap (λ ys. y ∷ ys) (before_kept xs x i h)

  last_there : (xs : List X) (x : X) → option_map_or p (slice_get (xs ++ x ∷ []) (length xs)) false ≡ p x
  last_there [] x = refl
  last_there (y ∷ xs) x = last_there xs x

  -- a test that holds only where another does is passed by none where that one is
  none_within : (q : X → Bool) → ((x : X) → p x ≡ true → q x ≡ true) → (xs : List X) → list_any q xs ≡ false → list_any p xs ≡ false
  none_within q within [] h = refl
  none_within q within (x ∷ xs) h = by (p x) (q x) refl refl h (none_within q within xs)
    where
      by : (a b : Bool) → p x ≡ a → q x ≡ b → (b || list_any q xs) ≡ false → (list_any q xs ≡ false → list_any p xs ≡ false) → (p x || list_any p xs) ≡ false
      by a true e f h rest = absurd (true≢false h)
      by true false e f h rest = absurd (true≢false (sym (within x e) ∙ f))
      by false false e f h rest = ap (λ b. b || list_any p xs) e ∙ rest h

before_last : {X : Type 0} (xs : List X) (x : X) → take (length xs) (xs ++ x ∷ []) ≡ xs
before_last [] x = refl
before_last (y ∷ xs) x = ap (λ ys. y ∷ ys) (before_last xs x)

-- ---- priorities

not_below_itself : (p : ℤ) → int_lt p p ≡ false
not_below_itself p = grind (arith, ints)

further_below : (p r s : ℤ) → int_lt p r ≡ true → int_lt r s ≡ true → int_lt p s ≡ true
further_below p r s h g = grind (arith, ints)

-- ---- one group

module _ (test : ListedArc → Bool) (arcs : List ListedArc) (a : ListedArc) where
  -- an arc that has no arc of its priority or above before it has the highest priority alone
  alone : (at : ℕ) → at ≡ length arcs → test a ≡ true → list_any (is_above test a.priority) arcs ≡ false → list_any (is_level test a.priority) arcs ≡ false
      → IsGroup test (arcs ++ a ∷ []) (record { priority = a.priority; barred = is_prohibited a.usage; first = at })
  alone at last own above level =
      let same : int_eq a.priority a.priority ≡ true = (signed_Decides a.priority a.priority).1 refl in
      let here : is_level test a.priority a ≡ true = and_from (test a) (int_eq a.priority a.priority) own same in
      let bars = is_bar test a.priority in
      let none : list_any bars arcs ≡ false = none_within bars (is_level test a.priority) (λ b h. (and_parts (is_level test a.priority b) (is_prohibited b.usage) h).0) arcs level in
      record {
        highest = any_last (is_above test a.priority) arcs a ∙ or_from (list_any (is_above test a.priority) arcs) (is_above test a.priority a) above (and_right (test a) (int_lt a.priority a.priority) (not_below_itself a.priority));
        barred = any_last bars arcs a ∙ ap (λ b. b || bars a) none ∙ ap (λ b. b && is_prohibited a.usage) here;
        there = ap (λ k. option_map_or (is_level test a.priority) (slice_get (arcs ++ a ∷ []) k) false) last ∙ last_there (is_level test a.priority) arcs a ∙ here;
        none_before = ap (λ k. list_any (is_level test a.priority) (take k (arcs ++ a ∷ []))) last ∙ ap (list_any (is_level test a.priority)) (before_last arcs a) ∙ level;
      }

  -- the first arc of those for which the test holds
  pub first_group : (at : ℕ) → at ≡ length arcs → test a ≡ true → list_any test arcs ≡ false
      → IsGroup test (arcs ++ a ∷ []) (record { priority = a.priority; barred = is_prohibited a.usage; first = at })
  first_group at last own none =
      alone at last own
      (none_within (is_above test a.priority) test (λ b h. (and_parts (test b) (int_lt a.priority b.priority) h).0) arcs none)
      (none_within (is_level test a.priority) test (λ b h. (and_parts (test b) (int_eq a.priority b.priority) h).0) arcs none)

  -- an arc of a higher priority
  pub higher_group : (g : Group) (at : ℕ) → at ≡ length arcs → test a ≡ true → int_lt g.priority a.priority ≡ true → IsGroup test arcs g
      → IsGroup test (arcs ++ a ∷ []) (record { priority = a.priority; barred = is_prohibited a.usage; first = at })
  higher_group g at last own higher is =
      let p = g.priority in
      let r = a.priority in
      alone at last own
      (none_within (is_above test r) (is_above test p)
      (λ b h. let parts = and_parts (test b) (int_lt r b.priority) h in and_from (test b) (int_lt p b.priority) parts.0 (further_below p r b.priority higher parts.1)) arcs is.highest)
      (none_within (is_level test r) (is_above test p)
      (λ b h. let parts = and_parts (test b) (int_eq r b.priority) h in and_from (test b) (int_lt p b.priority) parts.0 (ap (int_lt p) (sym ((signed_Decides r b.priority).0 parts.1)) ∙ higher)) arcs is.highest)

  -- an arc that is not above the others, which leaves the group's priority and its place
  kept : (g : Group) (barred : Bool) → is_above test g.priority a ≡ false → barred ≡ (g.barred || is_bar test g.priority a) → IsGroup test arcs g
      → IsGroup test (arcs ++ a ∷ []) (record { priority = g.priority; barred = barred; first = g.first })
  kept g barred low bars is = record {
    highest = any_last (is_above test g.priority) arcs a ∙ or_from (list_any (is_above test g.priority) arcs) (is_above test g.priority a) is.highest low;
    barred = any_last (is_bar test g.priority) arcs a ∙ ap (λ b. b || is_bar test g.priority a) is.barred ∙ sym bars;
    there = there_kept (is_level test g.priority) arcs a g.first is.there;
    none_before = ap (list_any (is_level test g.priority)) (before_kept (is_level test g.priority) arcs a g.first is.there) ∙ is.none_before;
  }

  -- an arc of the same priority or of a lower one
  pub same_group : (g : Group) (barred : Bool) → test a ≡ true → int_lt g.priority a.priority ≡ false → barred ≡ (g.barred || (int_eq g.priority a.priority && is_prohibited a.usage)) → IsGroup test arcs g
      → IsGroup test (arcs ++ a ∷ []) (record { priority = g.priority; barred = barred; first = g.first })
  same_group g barred own low bars is =
      kept g barred (and_right (test a) (int_lt g.priority a.priority) low)
      (bars ∙ ap (λ b. g.barred || (b && int_eq g.priority a.priority && is_prohibited a.usage)) (sym own)) is

  -- an arc for which the test does not hold
  other_group : (o : Option Group) → test a ≡ false → IsGroupOf test arcs o → IsGroupOf test (arcs ++ a ∷ []) o
  other_group None other none = any_last test arcs a ∙ or_from (list_any test arcs) (test a) none other
  other_group (Some g) other is =
      let level : is_level test g.priority a ≡ false = and_left (test a) (int_eq g.priority a.priority) other in
      kept g g.barred (and_left (test a) (int_lt g.priority a.priority) other)
      (sym (ap (λ b. g.barred || b) (and_left (is_level test g.priority a) (is_prohibited a.usage) level) ∙ or_none g.barred)) is

-- ---- all groups

-- equal keys have one group
same_get : (groups : BTreeMap Common Group) (q key : Common) → is_eq (by_common q key) ≡ true → get by_common groups q ≡ get by_common groups key
same_get groups q key e = ap (λ (t : Common → Bool). lookup t groups.entries) (λ i z. (eq_by_cmp_equiv common_total).congr q key z e i)

-- the groups of all keys, where that of an arc's key was put in
pub put_in_groups : (old new : BTreeMap Common Group) (arcs : List ListedArc) (a : ListedArc) (key : Common) (g : Group) → IsCommonOf key a
    → Updates by_common old new key (Some g)
    → ((test : ListedArc → Bool) → test a ≡ true → IsGroupOf test arcs (get by_common old key) → IsGroup test (arcs ++ a ∷ []) g)
    → AreGroups old arcs → AreGroups new (arcs ++ a ∷ [])
put_in_groups old new arcs a key g is put step so_far q =
    let same : is_eq (by_common q key) ≡ has_common q a = same_common q key a is in
    by (has_common q a) refl same ((eq_by_cmp_equiv common_total).symm key q ∙ same)
  where
    by : (b : Bool) → has_common q a ≡ b → is_eq (by_common q key) ≡ has_common q a → is_eq (by_common key q) ≡ has_common q a → IsGroupOf (has_common q) (arcs ++ a ∷ []) (get by_common new q)
    by true own same turned =
        let now : get by_common new q ≡ Some g = put.0 q ∙ ap (λ b. cond b (Some g) (get by_common old q)) (turned ∙ own) in
        subst (IsGroupOf (has_common q) (arcs ++ a ∷ [])) (sym now) (step (has_common q) own (subst (IsGroupOf (has_common q) arcs) (same_get old q key (same ∙ own)) (so_far q)))
    by false other same turned =
        let now : get by_common new q ≡ get by_common old q = put.0 q ∙ ap (λ b. cond b (Some g) (get by_common old q)) (turned ∙ other) in
        subst (IsGroupOf (has_common q) (arcs ++ a ∷ [])) (sym now) (other_group (has_common q) arcs a (get by_common old q) other (so_far q))
