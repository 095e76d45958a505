-- Keys by two numberings: whether two keys are equal does not depend on the numbers of names.
use Rattle.std.proofs.Common.{◌≡◌, ◌⊎◌, ℕ, List, [], ◌∷◌, Bool, true, false, Option, Some, None, option_map, inl, inr, refl, sym, ap, ap₂, subst, ◌∙◌, arith}
use Rattle.std.proofs.lemmas.Bool.Decides.{same_from_decides, Decides-like}
use Rattle.xc_names.specs.Laws.{NumbersTellNames}
use Rattle.xc_names.specs.declared.expanded.Expanded.{Expanded}
use Rattle.xc_names.specs.declared.expanded.NameId.{NameId}
use Rattle.xc_report.specs.Dimensions.{kind, taxonomy_number, is_same_dimension, is_same_key, IsAscending, value_at}
use Rattle.xc_report.specs.Laws.{KeysTellValues, KeysAreOfNames}
use Rattle.xc_report.specs.Numbered.{id_of, dimension_in, IsValue, AreParts, IsKey}
use Rattle.xc_report.specs.declared.dimensions.Dimension.{Dimension}
use Rattle.xc_report.specs.declared.dimensions.Dimension.TheVariants as numbered
use Rattle.xc_report.specs.declared.dimensions.DimValue.{DimValue}
use Rattle.xc_report.specs.declared.dimensions.DimValue.TheVariants as value
use Rattle.xc_report.specs.declared.dimensions.Key.{Key}
use Rattle.xc_report.specs.declared.stated.DimensionName.{DimensionName}
use Rattle.xc_report.specs.declared.stated.DimensionName.TheVariants as named
use Rattle.xc_report.specs.declared.stated.StatedValue.{StatedValue}
use Rattle.xc_report.specs.declared.stated.StatedValue.TheVariants as stated
use Rattle.xc_report.specs.declared.stated.StatedPart.{StatedPart}
use Rattle.xc_report.proofs.KeyOrder.{in_order_ascends}
use Rattle.xc_report.proofs.KeyValues.{first_some, value_if, last_at, in_order_lasts}
use Rattle.xc_report.proofs.KeysDecide.{dimension_decides}
use Rattle.xc_report.proofs.SaidMeasures.{in_some, mapped, id_at, one_name, measures_carried}

-- ---- dimensions

-- the place of a kind of dimension among those that are listed
abbrev pub name_kind : DimensionName → ℕ
name_kind named.Entity = 0
name_kind named.Period = 1
name_kind named.Unit = 2
name_kind named.Language = 3
name_kind named.NoteId = 4
name_kind (named.Taxonomy name) = 5

-- a dimension of a taxonomy has the number of its name
pub taxonomy_is : (names : List Expanded) (name : Expanded) (by : Dimension) → dimension_in names (named.Taxonomy name) ≡ Some by → (id : NameId) × (id_of names name ≡ Some id) × (by ≡ numbered.Taxonomy id)
taxonomy_is names name by h = mapped (λ id. numbered.Taxonomy id) (id_of names name) by h

-- by any numbering a dimension is of the kind of its name
pub same_kind : (names : List Expanded) (name : DimensionName) (by : Dimension) → dimension_in names name ≡ Some by → kind by ≡ name_kind name
same_kind names named.Entity by h = ap kind (sym (in_some _ _ h))
same_kind names named.Period by h = ap kind (sym (in_some _ _ h))
same_kind names named.Unit by h = ap kind (sym (in_some _ _ h))
same_kind names named.Language by h = ap kind (sym (in_some _ _ h))
same_kind names named.NoteId by h = ap kind (sym (in_some _ _ h))
same_kind names (named.Taxonomy name) by h = ap kind (taxonomy_is names name by h).2

-- ---- values

-- the place of a kind of value among those that are listed
abbrev value_kind : DimValue → ℕ
value_kind (value.Pair space local) = 0
value_kind (value.Text text) = 1
value_kind (value.Name id) = 2
value_kind value.Null = 3
value_kind (value.Measures above below) = 4

abbrev stated_kind : StatedValue → ℕ
stated_kind (stated.Pair space local) = 0
stated_kind (stated.Text text) = 1
stated_kind (stated.Name name) = 2
stated_kind stated.Null = 3
stated_kind (stated.Measures above below) = 4

-- a value that is a name has the number of the name
name_is : (names : List Expanded) (name : Expanded) (by : DimValue) → IsValue names (stated.Name name) by → (id : NameId) × (id_of names name ≡ Some id) × (by ≡ value.Name id)
name_is names name by h = mapped (λ id. value.Name id) (id_of names name) by h

-- by any numbering a value is of the kind that is stated
same_value_kind : (names : List Expanded) (said : StatedValue) (by : DimValue) → IsValue names said by → value_kind by ≡ stated_kind said
same_value_kind names (stated.Pair space local) by h = ap value_kind h
same_value_kind names (stated.Text text) by h = ap value_kind h
same_value_kind names (stated.Name name) by h = ap value_kind (name_is names name by h).2
same_value_kind names stated.Null by h = ap value_kind h
same_value_kind names (stated.Measures above below) by h = ap value_kind h.2.2

-- the number of a value that is a name
abbrev value_number : DimValue → ℕ
value_number (value.Name id) = id.0
value_number _ = 0

abbrev above_of : DimValue → List NameId
above_of (value.Measures above below) = above
above_of _ = []

abbrev below_of : DimValue → List NameId
below_of (value.Measures above below) = below
below_of _ = []

-- ---- what is equal by one numbering is equal by another

module _ (tell : NumbersTellNames) where
  -- names of dimensions that are the same by number are the same
  one_dimension_of : (names : List Expanded) (by : Dimension) (one other : DimensionName) → name_kind one ≡ name_kind other → dimension_in names one ≡ Some by → dimension_in names other ≡ Some by → one ≡ other
  one_dimension_of names by named.Entity named.Entity e h k = refl
  one_dimension_of names by named.Period named.Period e h k = refl
  one_dimension_of names by named.Unit named.Unit e h k = refl
  one_dimension_of names by named.Language named.Language e h k = refl
  one_dimension_of names by named.NoteId named.NoteId e h k = refl
  one_dimension_of names by (named.Taxonomy a) (named.Taxonomy b) e h k =
      let first = taxonomy_is names a by h in
      let second = taxonomy_is names b by k in
      let numbers : first.0 ≡ second.0 = ap (λ x. id_at (taxonomy_number x)) (sym first.2 ∙ second.2) in
      ap named.Taxonomy (one_name tell names a b second.0 (first.1 ∙ ap (λ id. Some id) numbers) second.1)
  one_dimension_of names by _ _ e h k = absurd (omega arith)

  one_dimension : (names : List Expanded) (by : Dimension) (one other : DimensionName) → dimension_in names one ≡ Some by → dimension_in names other ≡ Some by → one ≡ other
  one_dimension names by one other h k = one_dimension_of names by one other (sym (same_kind names one by h) ∙ same_kind names other by k) h k

  dimension_carried : (names others : List Expanded) (one other : DimensionName) (a b c d : Dimension)
      → dimension_in names one ≡ Some a → dimension_in names other ≡ Some b → dimension_in others one ≡ Some c → dimension_in others other ≡ Some d → a ≡ b → c ≡ d
  dimension_carried names others one other a b c d h k i j e =
      in_some c d (sym i ∙ ap (dimension_in others) (one_dimension names b one other (h ∙ ap (λ x. Some x) e) k) ∙ j)

  -- whether dimensions are the same does not depend on the numbers
  dimension_alike : (names others : List Expanded) (one other : DimensionName) (a b c d : Dimension)
      → dimension_in names one ≡ Some a → dimension_in names other ≡ Some b → dimension_in others one ≡ Some c → dimension_in others other ≡ Some d → is_same_dimension a b ≡ is_same_dimension c d
  dimension_alike names others one other a b c d h k i j =
      same_from_decides (is_same_dimension a b) (is_same_dimension c d)
      (Decides-like (is_same_dimension a b) (dimension_carried names others one other a b c d h k i j) (dimension_carried others names one other c d a b i j h k) (dimension_decides a b))
      (dimension_decides c d)

  value_carried_of : (names others : List Expanded) (one other : StatedValue) (a b c d : DimValue) → stated_kind one ≡ stated_kind other
      → IsValue names one a → IsValue names other b → IsValue others one c → IsValue others other d → a ≡ b → c ≡ d
  value_carried_of names others (stated.Pair s t) (stated.Pair u v) a b c d same h k i j e = i ∙ sym h ∙ e ∙ k ∙ sym j
  value_carried_of names others (stated.Text s) (stated.Text t) a b c d same h k i j e = i ∙ sym h ∙ e ∙ k ∙ sym j
  value_carried_of names others (stated.Name m) (stated.Name n) a b c d same h k i j e =
      let first = name_is names m a h in
      let second = name_is names n b k in
      let numbers : first.0 ≡ second.0 = ap (λ x. id_at (value_number x)) (sym first.2 ∙ e ∙ second.2) in
      let name : m ≡ n = one_name tell names m n second.0 (first.1 ∙ ap (λ id. Some id) numbers) second.1 in
      in_some c d (sym i ∙ ap (λ x. option_map (λ id. value.Name id) (id_of others x)) name ∙ j)
  value_carried_of names others stated.Null stated.Null a b c d same h k i j e = i ∙ sym j
  value_carried_of names others (stated.Measures m n) (stated.Measures p q) a b c d same h k i j e =
      let measures : value.Measures h.0 h.1 ≡ value.Measures k.0 k.1 = sym h.2.2 ∙ e ∙ k.2.2 in
      let above : i.0 ≡ j.0 = measures_carried tell names others m p h.0 k.0 i.0 j.0 h.2.0 k.2.0 i.2.0 j.2.0 (ap above_of measures) in
      let below : i.1 ≡ j.1 = measures_carried tell names others n q h.1 k.1 i.1 j.1 h.2.1 k.2.1 i.2.1 j.2.1 (ap below_of measures) in
      i.2.2 ∙ ap₂ value.Measures above below ∙ sym j.2.2
  value_carried_of names others _ _ a b c d same h k i j e = absurd (omega arith)

  pub value_carried : (names others : List Expanded) (one other : StatedValue) (a b c d : DimValue)
      → IsValue names one a → IsValue names other b → IsValue others one c → IsValue others other d → a ≡ b → c ≡ d
  value_carried names others one other a b c d h k i j e =
      value_carried_of names others one other a b c d (sym (same_value_kind names one a h) ∙ ap value_kind e ∙ same_value_kind names other b k) h k i j e

-- ---- the last value of a dimension

-- one stated value by two numberings, where there is one
abbrev AreValues : List Expanded → List Expanded → Option DimValue → Option DimValue → Type 0
AreValues names others None None = Unit {0}
AreValues names others None (Some b) = ⊥
AreValues names others (Some a) None = ⊥
AreValues names others (Some a) (Some b) = (said : StatedValue) × IsValue names said a × IsValue others said b

-- a name has this dimension by one numbering, and some dimension by another
abbrev IsNamed : List Expanded → List Expanded → Dimension → Type 0
IsNamed names others by = (name : DimensionName) × (first : Dimension) × (dimension_in names name ≡ Some first) × (dimension_in others name ≡ Some by)

value_step : (names others : List Expanded) (said : StatedValue) (a b : DimValue) → IsValue names said a → IsValue others said b
    → (last more : Option DimValue) → AreValues names others last more → (same : Bool) → AreValues names others (first_some last (value_if same a)) (first_some more (value_if same b))
value_step names others said a b h k None None are true = (said, h, k)
value_step names others said a b h k None None are false = tt
value_step names others said a b h k None (Some y) are same = absurd are
value_step names others said a b h k (Some x) None are same = absurd are
value_step names others said a b h k (Some x) (Some y) are same = are

-- a dimension that is stated has a name, and one that is not has no value
named_or_none : (names others : List Expanded) (by : Dimension) (parts : List StatedPart) (ps qs : Key) → AreParts names parts ps → AreParts others parts qs → IsNamed names others by ⊎ (last_at qs by ≡ None)
named_or_none names others by [] [] [] h k = inr refl
named_or_none names others by [] [] (q ∷ qs) h k = absurd k
named_or_none names others by [] (p ∷ ps) qs h k = absurd h
named_or_none names others by (part ∷ parts) [] qs h k = absurd h
named_or_none names others by (part ∷ parts) (p ∷ ps) [] h k = absurd k
named_or_none names others by (part ∷ parts) (p ∷ ps) (q ∷ qs) h k = go (named_or_none names others by parts ps qs h.1 k.1) (is_same_dimension by q.0) refl
  where
    go : IsNamed names others by ⊎ (last_at qs by ≡ None) → (same : Bool) → is_same_dimension by q.0 ≡ same → IsNamed names others by ⊎ (last_at (q ∷ qs) by ≡ None)
    go rest true e = inl (part.dimension, p.0, h.0.dimension, k.0.dimension ∙ ap (λ x. Some x) (sym ((dimension_decides by q.0).0 e)))
    go (inl is_named) false e = inl is_named
    go (inr none) false e = inr (ap₂ (λ last same. first_some last (value_if same q.1)) none e)

module _ (tell : NumbersTellNames) where
  lasts_are : (names others : List Expanded) (name : DimensionName) (a b : Dimension) → dimension_in names name ≡ Some a → dimension_in others name ≡ Some b
      → (parts : List StatedPart) (ps qs : Key) → AreParts names parts ps → AreParts others parts qs → AreValues names others (last_at ps a) (last_at qs b)
  lasts_are names others name a b s t [] [] [] h k = tt
  lasts_are names others name a b s t [] [] (q ∷ qs) h k = absurd k
  lasts_are names others name a b s t [] (p ∷ ps) qs h k = absurd h
  lasts_are names others name a b s t (part ∷ parts) [] qs h k = absurd h
  lasts_are names others name a b s t (part ∷ parts) (p ∷ ps) [] h k = absurd k
  lasts_are names others name a b s t (part ∷ parts) (p ∷ ps) (q ∷ qs) h k =
      let rest : AreValues names others (last_at ps a) (last_at qs b) = lasts_are names others name a b s t parts ps qs h.1 k.1 in
      let same : is_same_dimension a p.0 ≡ is_same_dimension b q.0 = dimension_alike tell names others name part.dimension a p.0 b q.0 s h.0.dimension t k.0.dimension in
      subst (λ is. AreValues names others (first_some (last_at ps a) (value_if (is_same_dimension a p.0) p.1)) (first_some (last_at qs b) (value_if is q.1))) same
      (value_step names others part.value p.1 q.1 h.0.value k.0.value (last_at ps a) (last_at qs b) rest (is_same_dimension a p.0))

  values_carried : (names others : List Expanded) (a b c d : Option DimValue) → AreValues names others a c → AreValues names others b d → a ≡ b → c ≡ d
  values_carried names others None None None None h k e = refl
  values_carried names others None None None (Some z) h k e = absurd k
  values_carried names others None None (Some y) d h k e = absurd h
  values_carried names others None (Some x) c d h k e = absurd (cc)
  values_carried names others (Some w) None c d h k e = absurd (cc)
  values_carried names others (Some w) (Some x) None d h k e = absurd h
  values_carried names others (Some w) (Some x) (Some y) None h k e = absurd k
  values_carried names others (Some w) (Some x) (Some y) (Some z) h k e = ap (λ v. Some v) (value_carried tell names others h.0 k.0 w x y z h.1 k.1 h.2 k.2 (in_some w x e))

  -- parts that have the same last values by one numbering have the same by another
  lasts_carried : (names others : List Expanded) (one other : List StatedPart) (a b c d : Key) → AreParts names one a → AreParts names other b → AreParts others one c → AreParts others other d
      → ((by : Dimension) → last_at a by ≡ last_at b by) → (by : Dimension) → last_at c by ≡ last_at d by
  lasts_carried names others one other a b c d h k i j same by = go (named_or_none names others by one a c h i) (named_or_none names others by other b d k j)
    where
      known : IsNamed names others by → last_at c by ≡ last_at d by
      known n = values_carried names others (last_at a n.1) (last_at b n.1) (last_at c by) (last_at d by)
          (lasts_are names others n.0 n.1 by n.2 n.3 one a c h i) (lasts_are names others n.0 n.1 by n.2 n.3 other b d k j) (same n.1)

      go : IsNamed names others by ⊎ (last_at c by ≡ None) → IsNamed names others by ⊎ (last_at d by ≡ None) → last_at c by ≡ last_at d by
      go (inl n) second = known n
      go (inr none) (inl n) = known n
      go (inr none) (inr neither) = none ∙ sym neither

-- ---- keys

key_ascends : (names : List Expanded) (parts : List StatedPart) (key : Key) → IsKey names parts key → IsAscending key
key_ascends names parts key is = subst IsAscending (sym is.ordered) (in_order_ascends is.numbers)

key_lasts : (names : List Expanded) (parts : List StatedPart) (key : Key) → (is : IsKey names parts key) → (by : Dimension) → value_at key by ≡ last_at is.numbers by
key_lasts names parts key is by = ap (λ k. value_at k by) is.ordered ∙ in_order_lasts is.numbers by

same_tests : (a b : Bool) → (a ≡ true → b ≡ true) → (b ≡ true → a ≡ true) → a ≡ b
same_tests true true h k = refl
same_tests true false h k = sym (h refl)
same_tests false true h k = k refl
same_tests false false h k = refl

module _ (values : KeysTellValues) (tell : NumbersTellNames) where
  -- keys that are equal by one numbering are equal by another
  key_carried : (names others : List Expanded) (one other : List StatedPart) (a b c d : Key)
      → IsKey names one a → IsKey names other b → IsKey others one c → IsKey others other d → is_same_key a b ≡ true → is_same_key c d ≡ true
  key_carried names others one other a b c d h k i j e =
      let same = (values a b (key_ascends names one a h) (key_ascends names other b k)).0 e in
      let lasts : (by : Dimension) → last_at h.numbers by ≡ last_at k.numbers by = λ by. sym (key_lasts names one a h by) ∙ same by ∙ key_lasts names other b k by in
      (values c d (key_ascends others one c i) (key_ascends others other d j)).1
      (λ by. key_lasts others one c i by ∙ lasts_carried tell names others one other h.numbers k.numbers i.numbers j.numbers h.each k.each i.each j.each lasts by ∙ sym (key_lasts others other d j by))

  -- so whether keys are equal does not depend on the numbers of names
  pub keys_alike : KeysAreOfNames
  keys_alike = λ names others a b c d s t.
      same_tests (is_same_key a c) (is_same_key b d) (key_carried names others s.0 t.0 a c b d s.1 t.1 s.2 t.2) (key_carried others names s.0 t.0 b d a c s.2 t.2 s.1 t.1)
