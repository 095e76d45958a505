-- A key that is put in order has at each dimension the value that was stated last.
use Rattle.std.proofs.Common.{◌≡◌, [], ◌∷◌, Bool, true, false, Option, Some, None, fold, cond, refl, sym, ap, subst, ◌∙◌}
use Rattle.std.proofs.lemmas.Map.Entries.{lookup_tail}
use Rattle.std.specs.BTreeMap.{insert_entry}
use Rattle.std.specs.List.{AllByRecursion, IsDistinct}
use Rattle.std.specs.Map.{keys_of}
use Rattle.std.specs.Ordering.{ordering_reverse, match_ordering}
use Rattle.std.specs.declared.cmp.Ordering.{Ordering}
use Rattle.std.specs.declared.cmp.Ordering.TheVariants.{Less, Equal, Greater}
use Rattle.xc_report.specs.Dimensions.{dimension_cmp, is_same_dimension, in_order, value_at, HaveSameValues}
use Rattle.xc_report.specs.declared.dimensions.Dimension.{Dimension}
use Rattle.xc_report.specs.declared.dimensions.DimValue.{DimValue}
use Rattle.xc_report.specs.declared.dimensions.Key.{Key}
use Rattle.xc_report.proofs.KeyOrder.{dimension_total, exact, apart}
use Rattle.xc_report.proofs.KeysDecide.{dimension_decides}

-- what stands at a dimension once a part is put in
abbrev with_part : Dimension → DimValue → Key → Dimension → Option DimValue
with_part d value es q = cond (is_same_dimension q d) (Some value) (value_at es q)

at_first : (value other : DimValue) (rest : Option DimValue) (same : Bool) → cond same (Some value) rest ≡ cond same (Some value) (cond same (Some other) rest)
at_first value other rest true = refl
at_first value other rest false = refl

behind : (d q : Dimension) (value : DimValue) (e : Dimension × DimValue) (es : Key) (put : Option DimValue) → put ≡ with_part d value es q → dimension_cmp e.0 d ≡ Less
    → (same : Bool) → is_same_dimension q e.0 ≡ same → cond same (Some e.1) put ≡ cond (is_same_dimension q d) (Some value) (cond same (Some e.1) (value_at es q))
behind d q value e es put rest less true h =
    let is : q ≡ e.0 = (dimension_decides q e.0).0 h in
    let other : is_same_dimension q d ≡ false = subst (λ r. is_same_dimension r d ≡ false) (sym is) (apart e.0 d less) in
    ap (λ b. cond b (Some value) (Some e.1)) (sym other)
behind d q value e es put rest less false h = rest

put_at : (d : Dimension) (value : DimValue) (e : Dimension × DimValue) (es : Key) (q : Dimension) → value_at (insert_entry dimension_cmp es d value) q ≡ with_part d value es q
    → (o : Ordering) → dimension_cmp d e.0 ≡ o → value_at (match_ordering o ((d, value) ∷ e ∷ es) ((e.0, value) ∷ es) (e ∷ insert_entry dimension_cmp es d value)) q ≡ with_part d value (e ∷ es) q
put_at d value e es q rest Less h = refl
put_at d value e es q rest Equal h =
    at_first value e.1 (value_at es q) (is_same_dimension q e.0)
    ∙ ap (λ r. cond (is_same_dimension q r) (Some value) (value_at (e ∷ es) q)) (sym (exact d e.0 h))
put_at d value e es q rest Greater h = behind d q value e es _ rest (dimension_total.antisymm e.0 d ∙ ap ordering_reverse h) _ refl

put_value : (d : Dimension) (value : DimValue) (es : Key) (q : Dimension) → value_at (insert_entry dimension_cmp es d value) q ≡ with_part d value es q
put_value d value [] q = refl
put_value d value (e ∷ es) q = put_at d value e es q (put_value d value es q) (dimension_cmp d e.0) refl

-- the first of two, where there is one
abbrev pub first_some : Option DimValue → Option DimValue → Option DimValue
first_some None other = other
first_some (Some value) other = Some value

-- the value of a part, where it is one of this dimension
abbrev pub value_if : Bool → DimValue → Option DimValue
value_if same value = cond same (Some value) None

-- the value that is stated last of a dimension
abbrev pub last_at : Key → Dimension → Option DimValue
last_at [] q = None
last_at (p ∷ ps) q = first_some (last_at ps q) (value_if (is_same_dimension q p.0) p.1)

one_before : (last before : Option DimValue) (same : Bool) (value : DimValue) → first_some last (cond same (Some value) before) ≡ first_some (first_some last (value_if same value)) before
one_before None before true value = refl
one_before None before false value = refl
one_before (Some v) before same value = refl

fold_lasts : (ps before : Key) (q : Dimension)
    → value_at (fold (λ (ordered : Key) (part : Dimension × DimValue). insert_entry dimension_cmp ordered part.0 part.1) before ps) q ≡ first_some (last_at ps q) (value_at before q)
fold_lasts [] before q = refl
fold_lasts (p ∷ ps) before q =
    fold_lasts ps (insert_entry dimension_cmp before p.0 p.1) q
    ∙ ap (first_some (last_at ps q)) (put_value p.0 p.1 before q)
    ∙ one_before (last_at ps q) (value_at before q) (is_same_dimension q p.0) p.1

first_alone : (o : Option DimValue) → first_some o None ≡ o
first_alone None = refl
first_alone (Some value) = refl

pub in_order_lasts : (parts : Key) (q : Dimension) → value_at (in_order parts) q ≡ last_at parts q
in_order_lasts parts q = fold_lasts parts [] q ∙ first_alone (last_at parts q)

-- ---- which is the only one where no dimension stands twice

pub none_behind : (d : Dimension) (ps : Key) → AllByRecursion (λ y. is_same_dimension d y ≡ false) (keys_of ps) → value_at ps d ≡ None
none_behind d [] all = refl
none_behind d (p ∷ ps) all = lookup_tail (is_same_dimension d) p ps all.0 ∙ none_behind d ps all.1

only : (p : Dimension × DimValue) (ps : Key) (q : Dimension) → AllByRecursion (λ y. is_same_dimension p.0 y ≡ false) (keys_of ps)
    → (same : Bool) → is_same_dimension q p.0 ≡ same → first_some (value_at ps q) (value_if same p.1) ≡ cond same (Some p.1) (value_at ps q)
only p ps q others true h =
    let is : q ≡ p.0 = (dimension_decides q p.0).0 h in
    ap (λ o. first_some o (Some p.1)) (subst (λ r. value_at ps r ≡ None) (sym is) (none_behind p.0 ps others))
only p ps q others false h = first_alone (value_at ps q)

last_is_only : (ps : Key) (q : Dimension) → IsDistinct is_same_dimension (keys_of ps) → last_at ps q ≡ value_at ps q
unfolding IsDistinct
last_is_only [] q distinct = refl
last_is_only (p ∷ ps) q distinct = ap (λ last. first_some last (value_if (is_same_dimension q p.0) p.1)) (last_is_only ps q distinct.1) ∙ only p ps q distinct.0 _ refl

pub order_keeps_values : (parts : Key) → IsDistinct is_same_dimension (keys_of parts) → HaveSameValues (in_order parts) parts
order_keeps_values parts distinct = λ q. in_order_lasts parts q ∙ last_is_only parts q distinct
