-- Whether keys are equal by the definition tells whether they are the same.
use Rattle.std.proofs.Common.{◌≡◌, ◌==◌, ◌&&◌, ℕ, List, [], ◌∷◌, Bool, false, zero, suc, refl, sym, ap, ap₂, ◌∙◌, true≢false}
use Rattle.std.proofs.lemmas.Bool.Decides.{Decides-eqb, Decides-and, Decides-like}
use Rattle.std.proofs.lemmas.Slice.Eq.{bytes_eq-Decides}
use Rattle.std.specs.Bool.{Decides}
use Rattle.std.specs.Cmp.Lexicographic.{pointwise}
use Rattle.std.specs.Str.{bytes_eq}
use Rattle.xc_names.specs.declared.expanded.NameId.{NameId}
use Rattle.xc_report.specs.Dimensions.{kind, taxonomy_number, is_same_dimension, is_same_value, is_same_key}
use Rattle.xc_report.specs.declared.dimensions.Dimension.{Dimension}
use Rattle.xc_report.specs.declared.dimensions.Dimension.TheVariants as d
use Rattle.xc_report.specs.declared.dimensions.DimValue.{DimValue}
use Rattle.xc_report.specs.declared.dimensions.DimValue.TheVariants as v
use Rattle.xc_report.specs.declared.dimensions.Key.{Key}

-- a test that fails, of what never holds
never : {P : Type 0} → ¬ P → Decides false P
never not_so = (λ h. absurd (true≢false (sym h)), λ so. absurd (not_so so))

-- the name of a number
abbrev id_at : ℕ → NameId
id_at number = record { 0 = number }

id_decides : (a b : NameId) → Decides (a.0 == b.0) (a ≡ b)
id_decides a b = Decides-like _ (λ e. ap id_at e) (λ e. ap (λ (id : NameId). id.0) e) (Decides-eqb a.0 b.0)

text_decides : (a b : List ℕ) → Decides (bytes_eq a b) (a ≡ b)
text_decides a b = bytes_eq-Decides a b

abbrev head_of : {X : Type 0} → X → List X → X
head_of x [] = x
head_of x (y ∷ ys) = y

abbrev tail_of : {X : Type 0} → List X → List X
tail_of [] = []
tail_of (y ∷ ys) = ys

lists_decide : {X : Type 0} {same : X → X → Bool} → ((a b : X) → Decides (same a b) (a ≡ b)) → (xs ys : List X) → Decides (pointwise same xs ys) (xs ≡ ys)
lists_decide each [] [] = (λ e. refl, λ e. refl)
lists_decide each [] (y ∷ ys) = never (λ e. cc)
lists_decide each (x ∷ xs) [] = never (λ e. cc)
lists_decide each (x ∷ xs) (y ∷ ys) = Decides-like _ (λ e. ap₂ (λ z zs. z ∷ zs) e.0 e.1) (λ e. (ap (head_of x) e, ap tail_of e)) (Decides-and _ _ (each x y) (lists_decide each xs ys))

-- a dimension of a kind
abbrev dimension_of : ℕ → ℕ → Dimension
dimension_of zero number = d.Entity
dimension_of (suc zero) number = d.Period
dimension_of (suc (suc zero)) number = d.Unit
dimension_of (suc (suc (suc zero))) number = d.Language
dimension_of (suc (suc (suc (suc zero)))) number = d.NoteId
dimension_of (suc (suc (suc (suc (suc n))))) number = d.Taxonomy (record { 0 = number })

dimension_back : (a : Dimension) → dimension_of (kind a) (taxonomy_number a) ≡ a
dimension_back d.Entity = refl
dimension_back d.Period = refl
dimension_back d.Unit = refl
dimension_back d.Language = refl
dimension_back d.NoteId = refl
dimension_back (d.Taxonomy id) = refl

-- dimensions of one kind with one number are the same
pub same_dimension : (a b : Dimension) → kind a ≡ kind b → taxonomy_number a ≡ taxonomy_number b → a ≡ b
same_dimension a b kinds numbers = sym (dimension_back a) ∙ ap₂ dimension_of kinds numbers ∙ dimension_back b

pub dimension_decides : (a b : Dimension) → Decides (is_same_dimension a b) (a ≡ b)
dimension_decides a b =
    Decides-like _ (λ e. same_dimension a b e.0 e.1) (λ e. (ap kind e, ap taxonomy_number e)) (Decides-and _ _ (Decides-eqb (kind a) (kind b)) (Decides-eqb (taxonomy_number a) (taxonomy_number b)))

abbrev first_text : DimValue → List ℕ
first_text (v.Pair s i) = s
first_text (v.Text s) = s
first_text _ = []

abbrev second_text : DimValue → List ℕ
second_text (v.Pair s i) = i
second_text _ = []

abbrev named : NameId → DimValue → NameId
named other (v.Name id) = id
named other _ = other

abbrev above : DimValue → List NameId
above (v.Measures a b) = a
above _ = []

abbrev below : DimValue → List NameId
below (v.Measures a b) = b
below _ = []

value_decides : (a b : DimValue) → Decides (is_same_value a b) (a ≡ b)
value_decides (v.Pair x0 x1) (v.Pair y0 y1) = Decides-like _ (λ e. ap₂ v.Pair e.0 e.1) (λ e. (ap first_text e, ap second_text e)) (Decides-and _ _ (text_decides x0 y0) (text_decides x1 y1))
value_decides (v.Pair x0 x1) (v.Text y0) = never (λ e. cc)
value_decides (v.Pair x0 x1) (v.Name y0) = never (λ e. cc)
value_decides (v.Pair x0 x1) v.Null = never (λ e. cc)
value_decides (v.Pair x0 x1) (v.Measures y0 y1) = never (λ e. cc)
value_decides (v.Text x0) (v.Pair y0 y1) = never (λ e. cc)
value_decides (v.Text x0) (v.Text y0) = Decides-like _ (λ e. ap v.Text e) (λ e. ap first_text e) (text_decides x0 y0)
value_decides (v.Text x0) (v.Name y0) = never (λ e. cc)
value_decides (v.Text x0) v.Null = never (λ e. cc)
value_decides (v.Text x0) (v.Measures y0 y1) = never (λ e. cc)
value_decides (v.Name x0) (v.Pair y0 y1) = never (λ e. cc)
value_decides (v.Name x0) (v.Text y0) = never (λ e. cc)
value_decides (v.Name x0) (v.Name y0) = Decides-like _ (λ e. ap v.Name e) (λ e. ap (named x0) e) (id_decides x0 y0)
value_decides (v.Name x0) v.Null = never (λ e. cc)
value_decides (v.Name x0) (v.Measures y0 y1) = never (λ e. cc)
value_decides v.Null (v.Pair y0 y1) = never (λ e. cc)
value_decides v.Null (v.Text y0) = never (λ e. cc)
value_decides v.Null (v.Name y0) = never (λ e. cc)
value_decides v.Null v.Null = (λ e. refl, λ e. refl)
value_decides v.Null (v.Measures y0 y1) = never (λ e. cc)
value_decides (v.Measures x0 x1) (v.Pair y0 y1) = never (λ e. cc)
value_decides (v.Measures x0 x1) (v.Text y0) = never (λ e. cc)
value_decides (v.Measures x0 x1) (v.Name y0) = never (λ e. cc)
value_decides (v.Measures x0 x1) v.Null = never (λ e. cc)
value_decides (v.Measures x0 x1) (v.Measures y0 y1) = Decides-like _ (λ e. ap₂ v.Measures e.0 e.1) (λ e. (ap above e, ap below e)) (Decides-and _ _ (lists_decide id_decides x0 y0) (lists_decide id_decides x1 y1))

part_decides : (p q : Dimension × DimValue) → Decides (is_same_dimension p.0 q.0 && is_same_value p.1 q.1) (p ≡ q)
part_decides p q = Decides-like _ (λ e. ap₂ (λ z w. (z, w)) e.0 e.1) (λ e. (ap (λ r. r.0) e, ap (λ r. r.1) e)) (Decides-and _ _ (dimension_decides p.0 q.0) (value_decides p.1 q.1))

pub key_decides : (a b : Key) → Decides (is_same_key a b) (a ≡ b)
key_decides a b = lists_decide part_decides a b
