-- The derived order and equality of dimensions, values and keys are those of the definitions.
use Rattle.std.proofs.Common.{◌≡◌, ◌==◌, ◌&&◌, ℕ, List, [], ◌∷◌, Bool, true, refl, ap, ◌∙◌, arith}
use Rattle.std.specs.BTreeMap.{insert_entry}
use Rattle.std.specs.Str.{bytes_eq}
use Rattle.std.proofs.lemmas.Bool.Decides.{nat_tests}
use Rattle.std.proofs.lemmas.Slice.Eq.{bytes_eq-Decides}
use Rattle.xc_names.specs.declared.expanded.NameId.{NameId}
use Rattle.xc_report.specs.contracts.dimensions.DimensionOrd.TheImpl as order
use Rattle.xc_report.specs.contracts.dimensions.DimensionPartialEq.TheImpl as dimensions
use Rattle.xc_report.specs.contracts.dimensions.DimValuePartialEq.TheImpl as values
use Rattle.xc_report.specs.contracts.dimensions.KeyPartialEq.TheImpl as keys
use Rattle.xc_report.specs.Dimensions.{kind, taxonomy_number, dimension_cmp, are_same_ids, is_same_dimension, is_same_value, is_same_key}
use Rattle.xc_report.specs.declared.dimensions.Dimension.{Dimension}
use Rattle.xc_report.specs.declared.dimensions.Dimension.TheVariants as d
use Rattle.xc_report.specs.declared.dimensions.DimValue.{DimValue}
use Rattle.xc_report.specs.declared.dimensions.DimValue.TheVariants as v
use Rattle.xc_report.specs.declared.dimensions.Key.{Key}

pub cmp_is : (a b : Dimension) → order.cmp-value.it a b ≡ dimension_cmp a b
cmp_is d.Entity d.Entity = refl
cmp_is d.Entity d.Period = refl
cmp_is d.Entity d.Unit = refl
cmp_is d.Entity d.Language = refl
cmp_is d.Entity d.NoteId = refl
cmp_is d.Entity (d.Taxonomy n) = refl
cmp_is d.Period d.Entity = refl
cmp_is d.Period d.Period = refl
cmp_is d.Period d.Unit = refl
cmp_is d.Period d.Language = refl
cmp_is d.Period d.NoteId = refl
cmp_is d.Period (d.Taxonomy n) = refl
cmp_is d.Unit d.Entity = refl
cmp_is d.Unit d.Period = refl
cmp_is d.Unit d.Unit = refl
cmp_is d.Unit d.Language = refl
cmp_is d.Unit d.NoteId = refl
cmp_is d.Unit (d.Taxonomy n) = refl
cmp_is d.Language d.Entity = refl
cmp_is d.Language d.Period = refl
cmp_is d.Language d.Unit = refl
cmp_is d.Language d.Language = refl
cmp_is d.Language d.NoteId = refl
cmp_is d.Language (d.Taxonomy n) = refl
cmp_is d.NoteId d.Entity = refl
cmp_is d.NoteId d.Period = refl
cmp_is d.NoteId d.Unit = refl
cmp_is d.NoteId d.Language = refl
cmp_is d.NoteId d.NoteId = refl
cmp_is d.NoteId (d.Taxonomy n) = refl
cmp_is (d.Taxonomy m) d.Entity = refl
cmp_is (d.Taxonomy m) d.Period = refl
cmp_is (d.Taxonomy m) d.Unit = refl
cmp_is (d.Taxonomy m) d.Language = refl
cmp_is (d.Taxonomy m) d.NoteId = refl
cmp_is (d.Taxonomy m) (d.Taxonomy n) = refl

-- putting a part in by the derived order
pub put_is : (parts : List (Dimension × DimValue)) (key : Dimension) (value : DimValue) → insert_entry order.cmp-value.it parts key value ≡ insert_entry dimension_cmp parts key value
put_is parts key value = ap (λ cmp. insert_entry cmp parts key value) (λ i a b. cmp_is a b i)

dimension_is : (a b : Dimension) → dimensions.eq-value.it a b ≡ is_same_dimension a b
dimension_is d.Entity d.Entity = refl
dimension_is d.Entity d.Period = refl
dimension_is d.Entity d.Unit = refl
dimension_is d.Entity d.Language = refl
dimension_is d.Entity d.NoteId = refl
dimension_is d.Entity (d.Taxonomy n) = refl
dimension_is d.Period d.Entity = refl
dimension_is d.Period d.Period = refl
dimension_is d.Period d.Unit = refl
dimension_is d.Period d.Language = refl
dimension_is d.Period d.NoteId = refl
dimension_is d.Period (d.Taxonomy n) = refl
dimension_is d.Unit d.Entity = refl
dimension_is d.Unit d.Period = refl
dimension_is d.Unit d.Unit = refl
dimension_is d.Unit d.Language = refl
dimension_is d.Unit d.NoteId = refl
dimension_is d.Unit (d.Taxonomy n) = refl
dimension_is d.Language d.Entity = refl
dimension_is d.Language d.Period = refl
dimension_is d.Language d.Unit = refl
dimension_is d.Language d.Language = refl
dimension_is d.Language d.NoteId = refl
dimension_is d.Language (d.Taxonomy n) = refl
dimension_is d.NoteId d.Entity = refl
dimension_is d.NoteId d.Period = refl
dimension_is d.NoteId d.Unit = refl
dimension_is d.NoteId d.Language = refl
dimension_is d.NoteId d.NoteId = refl
dimension_is d.NoteId (d.Taxonomy n) = refl
dimension_is (d.Taxonomy m) d.Entity = refl
dimension_is (d.Taxonomy m) d.Period = refl
dimension_is (d.Taxonomy m) d.Unit = refl
dimension_is (d.Taxonomy m) d.Language = refl
dimension_is (d.Taxonomy m) d.NoteId = refl
dimension_is (d.Taxonomy m) (d.Taxonomy n) = refl

value_is : (a b : DimValue) → values.eq-value.it a b ≡ is_same_value a b
value_is (v.Pair x0 x1) (v.Pair y0 y1) = refl
value_is (v.Pair x0 x1) (v.Text y0) = refl
value_is (v.Pair x0 x1) (v.Name y0) = refl
value_is (v.Pair x0 x1) v.Null = refl
value_is (v.Pair x0 x1) (v.Measures y0 y1) = refl
value_is (v.Text x0) (v.Pair y0 y1) = refl
value_is (v.Text x0) (v.Text y0) = refl
value_is (v.Text x0) (v.Name y0) = refl
value_is (v.Text x0) v.Null = refl
value_is (v.Text x0) (v.Measures y0 y1) = refl
value_is (v.Name x0) (v.Pair y0 y1) = refl
value_is (v.Name x0) (v.Text y0) = refl
value_is (v.Name x0) (v.Name y0) = refl
value_is (v.Name x0) v.Null = refl
value_is (v.Name x0) (v.Measures y0 y1) = refl
value_is v.Null (v.Pair y0 y1) = refl
value_is v.Null (v.Text y0) = refl
value_is v.Null (v.Name y0) = refl
value_is v.Null v.Null = refl
value_is v.Null (v.Measures y0 y1) = refl
value_is (v.Measures x0 x1) (v.Pair y0 y1) = refl
value_is (v.Measures x0 x1) (v.Text y0) = refl
value_is (v.Measures x0 x1) (v.Name y0) = refl
value_is (v.Measures x0 x1) v.Null = refl
value_is (v.Measures x0 x1) (v.Measures y0 y1) = refl

pub key_is : (a b : Key) → keys.eq-value.it a b ≡ is_same_key a b
key_is [] [] = refl
key_is [] (q ∷ qs) = refl
key_is (p ∷ ps) [] = refl
key_is (p ∷ ps) (q ∷ qs) = ap (λ b. b && values.eq-value.it p.1 q.1 && keys.eq-value.it ps qs) (dimension_is p.0 q.0) ∙ ap (λ b. is_same_dimension p.0 q.0 && b && keys.eq-value.it ps qs) (value_is p.1 q.1) ∙ ap (λ b. (is_same_dimension p.0 q.0 && is_same_value p.1 q.1) && b) (key_is ps qs)

same_number : (n : ℕ) → (n == n) ≡ true
same_number n = grind (arith, nat_tests)

both_true : (a b : Bool) → a ≡ true → b ≡ true → (a && b) ≡ true
both_true a b e f = rw (e, f) refl

same_bytes : (xs : List ℕ) → bytes_eq xs xs ≡ true
same_bytes xs = (bytes_eq-Decides xs xs).1 refl

same_ids : (ids : List NameId) → are_same_ids ids ids ≡ true
same_ids [] = refl
same_ids (x ∷ xs) = both_true _ _ (same_number x.0) (same_ids xs)

same_value : (v : DimValue) → is_same_value v v ≡ true
same_value (v.Pair x y) = both_true _ _ (same_bytes x) (same_bytes y)
same_value (v.Text x) = same_bytes x
same_value (v.Name x) = same_number x.0
same_value v.Null = refl
same_value (v.Measures x y) = both_true _ _ (same_ids x) (same_ids y)

-- a key is equal to itself
pub same_key : (k : Key) → is_same_key k k ≡ true
same_key [] = refl
same_key (p ∷ ps) = both_true _ _ (both_true _ _ (both_true _ _ (same_number (kind p.0)) (same_number (taxonomy_number p.0))) (same_value p.1)) (same_key ps)
