-- The order of dimensions, and what it says of keys.
use Rattle.std.proofs.Common.{◌≡◌, List, [], ◌∷◌, Bool, true, false, Option, Some, None, fold, refl, sym, ap, ap₂, subst, ◌∙◌}
use Rattle.std.specs.BTreeMap.{insert_entry}
use Rattle.std.specs.Cmp.{IsTotalOrder}
use Rattle.std.specs.List.{AllByRecursion}
use Rattle.std.specs.List.Sorted.{IsStrictlySortedBy}
use Rattle.std.specs.Map.{keys_of}
use Rattle.std.specs.Ordering.{ordering_then, ordering_reverse, match_ordering}
use Rattle.std.specs.declared.cmp.Ordering.{Ordering}
use Rattle.std.specs.declared.cmp.Ordering.TheVariants.{Less, Equal, Greater}
use Rattle.std.proofs.lemmas.Cmp.{nat_cmp_total, on_total, then_total, tied_itself}
use Rattle.std.proofs.lemmas.Map.Entries.{lookup_head, lookup_tail}
use Rattle.std.proofs.lemmas.Map.Lookups.{exact_unsigned}
use Rattle.xc_report.specs.Dimensions.{kind, taxonomy_number, dimension_cmp, is_same_dimension, IsAscending, in_order, value_at, HaveSameValues}
use Rattle.xc_report.specs.declared.dimensions.Dimension.{Dimension}
use Rattle.xc_report.specs.declared.dimensions.DimValue.{DimValue}
use Rattle.xc_report.specs.declared.dimensions.Key.{Key}
use Rattle.xc_report.proofs.KeysDecide.{same_dimension, dimension_decides}

pub dimension_total : IsTotalOrder dimension_cmp
dimension_total = then_total (on_total kind nat_cmp_total) (on_total taxonomy_number nat_cmp_total)

-- dimensions that tie are the same
then_equal : (a b : Ordering) → ordering_then a b ≡ Equal → (a ≡ Equal) × (b ≡ Equal)
then_equal Less b e = absurd (cc)
then_equal Equal b e = (refl, e)
then_equal Greater b e = absurd (cc)

pub exact : (a b : Dimension) → dimension_cmp a b ≡ Equal → a ≡ b
exact a b e =
    let both = then_equal _ _ e in
    same_dimension a b (exact_unsigned _ _ both.0) (exact_unsigned _ _ both.1)

-- what is above a dimension is above those below it
below_all : (a b : Dimension) (ds : List Dimension) → dimension_cmp a b ≡ Less → AllByRecursion (λ y. dimension_cmp b y ≡ Less) ds → AllByRecursion (λ y. dimension_cmp a y ≡ Less) ds
below_all a b [] less all = tt
below_all a b (d ∷ ds) less all = (dimension_total.trans a b d less all.0, below_all a b ds less all.1)

-- what is below all parts and a new one is below all with the new one
below_at : (k d : Dimension) (value : DimValue) (e : Dimension × DimValue) (es : List (Dimension × DimValue)) → dimension_cmp k d ≡ Less → AllByRecursion (λ y. dimension_cmp k y ≡ Less) (keys_of (e ∷ es))
    → AllByRecursion (λ y. dimension_cmp k y ≡ Less) (keys_of (insert_entry dimension_cmp es d value))
    → (o : Ordering) → AllByRecursion (λ y. dimension_cmp k y ≡ Less) (keys_of (match_ordering o ((d, value) ∷ e ∷ es) ((e.0, value) ∷ es) (e ∷ insert_entry dimension_cmp es d value)))
below_at k d value e es less all rest Less = (less, all)
below_at k d value e es less all rest Equal = all
below_at k d value e es less all rest Greater = (all.0, rest)

below_put : (k d : Dimension) (value : DimValue) (es : List (Dimension × DimValue)) → dimension_cmp k d ≡ Less → AllByRecursion (λ y. dimension_cmp k y ≡ Less) (keys_of es)
    → AllByRecursion (λ y. dimension_cmp k y ≡ Less) (keys_of (insert_entry dimension_cmp es d value))
below_put k d value [] less all = (less, tt)
below_put k d value (e ∷ es) less all = below_at k d value e es less all (below_put k d value es less all.1) (dimension_cmp d e.0)

put_at : (d : Dimension) (value : DimValue) (e : Dimension × DimValue) (es : List (Dimension × DimValue)) → IsAscending (e ∷ es) → IsAscending (insert_entry dimension_cmp es d value)
    → (o : Ordering) → dimension_cmp d e.0 ≡ o → IsAscending (match_ordering o ((d, value) ∷ e ∷ es) ((e.0, value) ∷ es) (e ∷ insert_entry dimension_cmp es d value))
unfolding IsStrictlySortedBy
put_at d value e es s rest Less h = ((h, below_all d e.0 (keys_of es) h s.0), s)
put_at d value e es s rest Equal h = s
put_at d value e es s rest Greater h = (below_put e.0 d value es (dimension_total.antisymm e.0 d ∙ ap ordering_reverse h) s.0, rest)

-- putting a part in its place keeps the order
put_ascends : (d : Dimension) (value : DimValue) (es : List (Dimension × DimValue)) → IsAscending es → IsAscending (insert_entry dimension_cmp es d value)
unfolding IsStrictlySortedBy
put_ascends d value [] s = (tt, tt)
put_ascends d value (e ∷ es) s = put_at d value e es s (put_ascends d value es s.1) (dimension_cmp d e.0) refl

fold_ascends : (parts ordered : List (Dimension × DimValue)) → IsAscending ordered → IsAscending (fold (λ (ordered : List (Dimension × DimValue)) (part : Dimension × DimValue). insert_entry dimension_cmp ordered part.0 part.1) ordered parts)
fold_ascends [] ordered s = s
fold_ascends (p ∷ ps) ordered s = fold_ascends ps (insert_entry dimension_cmp ordered p.0 p.1) (put_ascends p.0 p.1 ordered s)

none_ascends : IsAscending []
unfolding IsStrictlySortedBy
none_ascends = tt

pub in_order_ascends : (parts : List (Dimension × DimValue)) → IsAscending (in_order parts)
in_order_ascends parts = fold_ascends parts [] none_ascends

-- ---- keys that have the same values

abbrev value_or : DimValue → Option DimValue → DimValue
value_or other None = other
value_or other (Some value) = value

-- two dimensions of which one is below the other are not the same
pub apart : (a b : Dimension) → dimension_cmp a b ≡ Less → is_same_dimension a b ≡ false
apart a b less = by (is_same_dimension a b) refl
  where
    by : (same : Bool) → is_same_dimension a b ≡ same → same ≡ false
    by false h = refl
    by true h = absurd (let ties : Less ≡ Equal = sym less ∙ subst (λ c. dimension_cmp a c ≡ Equal) ((dimension_decides a b).0 h) (tied_itself dimension_total a) in cc)

-- a key whose dimensions are all above one does not have it
has_none : (d : Dimension) (key : Key) → AllByRecursion (λ y. dimension_cmp d y ≡ Less) (keys_of key) → value_at key d ≡ None
has_none d [] all = refl
has_none d (p ∷ ps) all = lookup_tail (is_same_dimension d) p ps (apart d p.0 all.0) ∙ has_none d ps all.1

has_first : (p : Dimension × DimValue) (ps : Key) → value_at (p ∷ ps) p.0 ≡ Some p.1
has_first p ps = lookup_head (is_same_dimension p.0) p ps ((dimension_decides p.0 p.0).1 refl)

differ : {P : Type 0} (value : DimValue) → Some value ≡ None → P
differ value e = absurd (cc)

-- the first dimensions are the same
firsts_same : (p q : Dimension × DimValue) (ps qs : Key) → IsAscending (p ∷ ps) → IsAscending (q ∷ qs) → HaveSameValues (p ∷ ps) (q ∷ qs)
    → (o : Ordering) → dimension_cmp p.0 q.0 ≡ o → p.0 ≡ q.0
unfolding IsStrictlySortedBy
firsts_same p q ps qs s t same Equal h = exact p.0 q.0 h
firsts_same p q ps qs s t same Less h = differ p.1 (sym (has_first p ps) ∙ same p.0 ∙ has_none p.0 (q ∷ qs) (h, below_all p.0 q.0 (keys_of qs) h t.0))
firsts_same p q ps qs s t same Greater h =
    let less = dimension_total.antisymm q.0 p.0 ∙ ap ordering_reverse h in
    differ q.1 (sym (has_first q qs) ∙ sym (same q.0) ∙ has_none q.0 (p ∷ ps) (less, below_all q.0 p.0 (keys_of ps) less s.0))

-- and the others have the same values
rest_same : (p q : Dimension × DimValue) (ps qs : Key) → IsAscending (p ∷ ps) → IsAscending (q ∷ qs) → p.0 ≡ q.0 → HaveSameValues (p ∷ ps) (q ∷ qs)
    → (d : Dimension) (is_first : Bool) → is_same_dimension d p.0 ≡ is_first → value_at ps d ≡ value_at qs d
unfolding IsStrictlySortedBy
rest_same p q ps qs s t first same d false h =
    sym (lookup_tail (is_same_dimension d) p ps h) ∙ same d ∙ lookup_tail (is_same_dimension d) q qs (subst (λ c. is_same_dimension d c ≡ false) first h)
rest_same p q ps qs s t first same d true h =
    let is : d ≡ p.0 = (dimension_decides d p.0).0 h in
    let here : value_at ps p.0 ≡ value_at qs p.0 = has_none p.0 ps s.0 ∙ sym (has_none p.0 qs (subst (λ c. AllByRecursion (λ y. dimension_cmp c y ≡ Less) (keys_of qs)) (sym first) t.0)) in
    subst (λ c. value_at ps c ≡ value_at qs c) (sym is) here

-- keys that ascend and have the same values are the same
pub same_from_values : (a b : Key) → IsAscending a → IsAscending b → HaveSameValues a b → a ≡ b
unfolding IsStrictlySortedBy
same_from_values [] [] s t same = refl
same_from_values [] (q ∷ qs) s t same = differ q.1 (sym (has_first q qs) ∙ sym (same q.0))
same_from_values (p ∷ ps) [] s t same = differ p.1 (sym (has_first p ps) ∙ same p.0)
same_from_values (p ∷ ps) (q ∷ qs) s t same =
    let first = firsts_same p q ps qs s t same _ refl in
    let rest = same_from_values ps qs s.1 t.1 (λ d. rest_same p q ps qs s t first same d _ refl) in
    let here : Some p.1 ≡ Some q.1 = sym (has_first p ps) ∙ same p.0 ∙ ap (value_at (q ∷ qs)) first ∙ has_first q qs in
    ap₂ (λ z zs. z ∷ zs) (ap₂ (λ z w. (z, w)) first (ap (value_or p.1) here)) rest
