-- A fact that was read states no dimension twice, so that its key says what it states.
use Rattle.std.proofs.Common.{◌≡◌, ◌≢◌, inl, inr, ℕ, zero, suc, List, [], ◌∷◌, true, false, codes, Option, Some, None, refl, sym, ap, subst, ◌∙◌, arith}
use Rattle.std.specs.Prelude.{All}
use Rattle.std.specs.Cmp.Lexicographic.{slice_cmp, nat_list_cmp_total}
use Rattle.std.specs.List.{AllByRecursion, IsDistinct, list_any, cons_option}
use Rattle.std.specs.Map.{keys_of}
use Rattle.std.specs.Ordering.{nat_cmp}
use Rattle.std.specs.declared.cmp.Ordering.TheVariants.{Less, Equal}
use Rattle.std.proofs.lemmas.Bool.{and_from, or_parts, false_from_ne_true, true≢false}
use Rattle.std.proofs.lemmas.Cmp.{tied_itself}
use Rattle.std.proofs.lemmas.Option.{none-some}
use Rattle.std.proofs.lemmas.Slice.Eq.{bytes_eq-Decides}
use Rattle.serde_json.specs.Data.{Data}
use Rattle.xc_names.specs.Laws.{NumbersTellNames}
use Rattle.xc_names.specs.declared.expanded.Expanded.{Expanded}
use Rattle.xc_names.specs.declared.expanded.NameId.{NameId}
use Rattle.xc_report.specs.Dimensions.{kind, taxonomy_number, is_same_dimension}
use Rattle.xc_report.specs.Json.{member_list}
use Rattle.xc_report.specs.Laws.{SaysWhatIsStated, KeysSayWhatIsStated}
use Rattle.xc_report.specs.Numbered.{id_of, dimension_in, IsPart, AreParts, IsKey}
use Rattle.xc_report.specs.Rules.{States, StatesConcept, StatesEntity, StatesPeriod, StatesPure, StatesUnit, StatesLanguage, StatesNote, StatesTaxonomy, AllState, HasDimensions, AllSay}
use Rattle.xc_report.specs.Stated.{is_same_name, has_twice}
use Rattle.xc_report.specs.Wanted.{Known}
use Rattle.xc_report.specs.declared.dimensions.Dimension.{Dimension}
use Rattle.xc_report.specs.declared.dimensions.DimValue.{DimValue}
use Rattle.xc_report.specs.declared.dimensions.Key.{Key}
use Rattle.xc_report.specs.declared.stated.DimensionName.{DimensionName}
use Rattle.xc_report.specs.declared.stated.DimensionName.TheVariants as named
use Rattle.xc_report.specs.declared.stated.StatedFact.{StatedFact}
use Rattle.xc_report.specs.declared.stated.StatedPart.{StatedPart}
use Rattle.xc_report.proofs.JsonOrder.{IsOrdered, IsBelowAll, NamesAscend, EachOrdered, get_ordered, names_ascend, each_ordered, opened_ordered}
use Rattle.xc_report.proofs.KeysDecide.{dimension_decides}
use Rattle.xc_report.proofs.KeysExact.{key_exact}
use Rattle.xc_report.proofs.RuleFacts.{facts_said}
use Rattle.xc_report.proofs.SaidKeys.{name_kind, same_kind, taxonomy_is}
use Rattle.xc_report.proofs.SaidMeasures.{one_name}

-- ---- the dimension of a member

-- the name of a kind of dimension that xBRL-JSON itself names
abbrev word : ℕ → List ℕ
word zero = codes "entity"
word (suc zero) = codes "period"
word (suc (suc zero)) = codes "unit"
word (suc (suc (suc zero))) = codes "language"
word (suc (suc (suc (suc k)))) = codes "noteId"

part_is : (p : StatedPart) (d : DimensionName) (k : ℕ) → p.dimension ≡ d → name_kind d ≡ k → name_kind p.dimension ≡ k
part_is p d k e h = ap name_kind e ∙ h

-- the dimension of a member is of a kind that xBRL-JSON names, under this name, or one of a taxonomy
data Stems (name : List ℕ) (p : StatedPart) : Type 0 where
  FromCore : name ≡ word (name_kind p.dimension) → name_kind p.dimension ≢ 5 → Stems name p
  FromTaxonomy : (axis : Expanded) → p.dimension ≡ named.Taxonomy axis → Stems name p

-- the dimension of what stands in an option
abbrev dimension_of : DimensionName → Option StatedPart → DimensionName
dimension_of other None = other
dimension_of other (Some p) = p.dimension

core : (name : List ℕ) (p : StatedPart) (d : DimensionName) → p.dimension ≡ d → name ≡ word (name_kind d) → name_kind d ≢ 5 → Stems name p
core name p d e n k = FromCore (n ∙ ap (λ x. word (name_kind x)) (sym e)) (λ five. k (ap name_kind (sym e) ∙ five))

stems : (known : Known) (name : List ℕ) (d : Data) (p : StatedPart) → States known name d (Some p) → Stems name p
stems known name d p (StatesConcept n e) = absurd (none-some p (sym e))
stems known name d p (StatesEntity text scheme identifier n t h e) = core name p named.Entity (ap (dimension_of named.Entity) e) n (omega arith)
stems known name d p (StatesPeriod text period n t h e) = core name p named.Period (ap (dimension_of named.Entity) e) n (omega arith)
stems known name d p (StatesPure text n t u e) = absurd (none-some p (sym e))
stems known name d p (StatesUnit text above below n t u h e) = core name p named.Unit (ap (dimension_of named.Entity) e) n (omega arith)
stems known name d p (StatesLanguage text n t e) = core name p named.Language (ap (dimension_of named.Entity) e) n (omega arith)
stems known name d p (StatesNote text n t e) = core name p named.NoteId (ap (dimension_of named.Entity) e) n (omega arith)
stems known name d p (StatesTaxonomy axis v n h m e) = FromTaxonomy axis (ap (dimension_of named.Entity) e)

-- ---- two members

differ : (n m : List ℕ) → slice_cmp nat_cmp n m ≡ Less → n ≢ m
differ n m less same = absurd (let ties : Less ≡ Equal = sym less ∙ subst (λ x. slice_cmp nat_cmp n x ≡ Equal) same (tied_itself nat_list_cmp_total n) in cc)

module _ (tell : NumbersTellNames) (known : Known) (names : List Expanded) where
  same_axis : (p q : StatedPart) (a b : Dimension) (x y : Expanded) → p.dimension ≡ named.Taxonomy x → q.dimension ≡ named.Taxonomy y → dimension_in names p.dimension ≡ Some a → dimension_in names q.dimension ≡ Some b → a ≡ b
      → is_same_name p.dimension q.dimension ≡ true
  same_axis p q a b x y pe qe ha hb same =
      let first = taxonomy_is names x a (subst (λ d. dimension_in names d ≡ Some a) pe ha) in
      let second = taxonomy_is names y b (subst (λ d. dimension_in names d ≡ Some b) qe hb) in
      let number : first.0.0 ≡ second.0.0 = ap taxonomy_number (sym first.2 ∙ same ∙ second.2) in
      let id : first.0 ≡ second.0 = ap (λ n. record { 0 = n }) number in
      let one : x ≡ y = one_name tell names x y second.0 (subst (λ (i : NameId). id_of names x ≡ Some i) id first.1) second.1 in
      let itself : is_same_name (named.Taxonomy x) (named.Taxonomy x) ≡ true = and_from _ _ ((bytes_eq-Decides x.space x.space).1 refl) ((bytes_eq-Decides x.local x.local).1 refl) in
      ap (λ d. is_same_name d q.dimension) pe ∙ ap (λ d. is_same_name (named.Taxonomy x) d) (qe ∙ ap named.Taxonomy (sym one)) ∙ itself

  never_same : (n m : List ℕ) (p q : StatedPart) (a b : Dimension × DimValue) → n ≢ m → Stems n p → Stems m q → is_same_name p.dimension q.dimension ≡ false → IsPart names p a → IsPart names q b → a.0 ≢ b.0
  never_same n m p q a b other (FromCore ne nk) (FromCore me mk) apart pa qb same =
      let kinds : name_kind p.dimension ≡ name_kind q.dimension = sym (same_kind names p.dimension a.0 pa.dimension) ∙ ap kind same ∙ same_kind names q.dimension b.0 qb.dimension in
      other (ne ∙ ap word kinds ∙ sym me)
  never_same n m p q a b other (FromCore ne nk) (FromTaxonomy y qe) apart pa qb same =
      nk (sym (same_kind names p.dimension a.0 pa.dimension) ∙ ap kind same ∙ same_kind names q.dimension b.0 qb.dimension ∙ ap name_kind qe)
  never_same n m p q a b other (FromTaxonomy x pe) (FromCore me mk) apart pa qb same =
      mk (sym (same_kind names q.dimension b.0 qb.dimension) ∙ ap kind (sym same) ∙ same_kind names p.dimension a.0 pa.dimension ∙ ap name_kind pe)
  never_same n m p q a b other (FromTaxonomy x pe) (FromTaxonomy y qe) apart pa qb same =
      true≢false (sym (same_axis p q a.0 b.0 x y pe qe pa.dimension qb.dimension same) ∙ apart)

  two_apart : (n m : List ℕ) (d e : Data) (p q : StatedPart) (a b : Dimension × DimValue) → slice_cmp nat_cmp n m ≡ Less → States known n d (Some p) → States known m e (Some q)
      → is_same_name p.dimension q.dimension ≡ false → IsPart names p a → IsPart names q b → is_same_dimension a.0 b.0 ≡ false
  two_apart n m d e p q a b less sp sq apart pa qb =
      false_from_ne_true (is_same_dimension a.0 b.0) (λ same. never_same n m p q a b (differ n m less) (stems known n d p sp) (stems known m e q sq) apart pa qb ((dimension_decides a.0 b.0).0 same))

  -- ---- a member and those behind it

  module _ (n : List ℕ) (d : Data) (p : StatedPart) (a : Dimension × DimValue) (sp : States known n d (Some p)) (pa : IsPart names p a) where
    nothing_left : (numbers : List (Dimension × DimValue)) → AreParts names [] numbers → AllByRecursion (λ y. is_same_dimension a.0 y ≡ false) (keys_of numbers)
    nothing_left [] are = tt
    nothing_left (b ∷ bs) are = absurd are

    -- with one member more in front of these, whose numbers are apart
    one_more : (m : List ℕ × Data) (rest : List StatedPart) → slice_cmp nat_cmp n m.0 ≡ Less
        → ((numbers : List (Dimension × DimValue)) → list_any (λ q. is_same_name p.dimension q.dimension) rest ≡ false → AreParts names rest numbers → AllByRecursion (λ y. is_same_dimension a.0 y ≡ false) (keys_of numbers))
        → (o : Option StatedPart) → States known m.0 m.1 o → list_any (λ q. is_same_name p.dimension q.dimension) (cons_option o rest) ≡ false
        → (numbers : List (Dimension × DimValue)) → AreParts names (cons_option o rest) numbers → AllByRecursion (λ y. is_same_dimension a.0 y ≡ false) (keys_of numbers)
    one_more m rest less later None states none numbers are = later numbers none are
    one_more m rest less later (Some q) states none [] are = absurd are
    one_more m rest less later (Some q) states none (b ∷ bs) are =
        let both = or_parts (is_same_name p.dimension q.dimension) (list_any (λ r. is_same_name p.dimension r.dimension) rest) none in
        (two_apart n m.0 d m.1 p q a b less sp states both.0 pa are.0, later bs both.1 are.1)

    rest_apart : (ms : List (List ℕ × Data)) (parts : List StatedPart) (numbers : List (Dimension × DimValue)) → IsBelowAll n ms → AllState known ms parts
        → list_any (λ q. is_same_name p.dimension q.dimension) parts ≡ false → AreParts names parts numbers → AllByRecursion (λ y. is_same_dimension a.0 y ≡ false) (keys_of numbers)
    rest_apart [] parts numbers below e none are = nothing_left numbers (subst (λ ps. AreParts names ps numbers) e are)
    rest_apart (m ∷ ms) parts numbers below (o, rest, states, all, is) none are =
        one_more m rest below.0 (λ others no some. rest_apart ms rest others below.1 all no some) o states
        (subst (λ ps. list_any (λ q. is_same_name p.dimension q.dimension) ps ≡ false) is none) numbers (subst (λ ps. AreParts names ps numbers) is are)

  -- ---- all members

  none_distinct : (numbers : List (Dimension × DimValue)) → AreParts names [] numbers → IsDistinct is_same_dimension (keys_of numbers)
  unfolding IsDistinct
  none_distinct [] are = tt
  none_distinct (b ∷ bs) are = absurd are

  -- with one member more in front of these, which are distinct
  first_distinct : (m : List ℕ × Data) (ms : List (List ℕ × Data)) (rest : List StatedPart) → IsBelowAll m.0 ms → AllState known ms rest
      → ((numbers : List (Dimension × DimValue)) → has_twice rest ≡ false → AreParts names rest numbers → IsDistinct is_same_dimension (keys_of numbers))
      → (o : Option StatedPart) → States known m.0 m.1 o → has_twice (cons_option o rest) ≡ false
      → (numbers : List (Dimension × DimValue)) → AreParts names (cons_option o rest) numbers → IsDistinct is_same_dimension (keys_of numbers)
  unfolding IsDistinct
  first_distinct m ms rest below all later None states once numbers are = later numbers once are
  first_distinct m ms rest below all later (Some q) states once [] are = absurd are
  first_distinct m ms rest below all later (Some q) states once (b ∷ bs) are =
      let both = or_parts (list_any (λ r. is_same_name q.dimension r.dimension) rest) (has_twice rest) once in
      (rest_apart m.0 m.1 q b states are.0 ms rest bs below all both.0 are.1, later bs both.1 are.1)

  all_distinct : (ms : List (List ℕ × Data)) (parts : List StatedPart) (numbers : List (Dimension × DimValue)) → NamesAscend ms → AllState known ms parts → has_twice parts ≡ false → AreParts names parts numbers
      → IsDistinct is_same_dimension (keys_of numbers)
  all_distinct [] parts numbers ascend e once are = none_distinct numbers (subst (λ ps. AreParts names ps numbers) e are)
  all_distinct (m ∷ ms) parts numbers ascend (o, rest, states, all, is) once are =
      first_distinct m ms rest ascend.0 all (λ others no some. all_distinct ms rest others ascend.1 all no some) o states
      (subst (λ ps. has_twice ps ≡ false) is once) numbers (subst (λ ps. AreParts names ps numbers) is are)

  -- the key of a fact whose members ascend says what it states
  fact_said : (fact : Data) (parts : List StatedPart) (key : Key) → IsOrdered fact → HasDimensions known fact parts → IsKey names parts key → SaysWhatIsStated names parts key
  fact_said fact parts key ordered has is =
      let members = get_ordered (codes "dimensions") fact _ ordered has.held in
      let distinct = all_distinct (member_list has.members) parts is.numbers (names_ascend has.members members) has.state has.once is.each in
      key_exact tell names parts key is distinct

-- ---- all facts

module _ (tell : NumbersTellNames) (known : Known) where
  abbrev IsSaid : StatedFact → Type 0
  IsSaid fact = (all : List Expanded) (key : Key) → IsKey all fact.parts key → SaysWhatIsStated all fact.parts key

  each_said : (ms : List (List ℕ × Data)) (facts : List StatedFact) → EachOrdered ms → AllSay known ms facts → AllByRecursion IsSaid facts
  each_said [] facts ordered e = subst (AllByRecursion IsSaid) (sym e) tt
  each_said (m ∷ ms) facts ordered (inl (out, rest)) = each_said ms facts ordered.1 rest
  each_said (m ∷ ms) facts ordered (inr (fact, others, readable, rest, is)) =
      subst (AllByRecursion IsSaid) (sym is) ((λ all key k. fact_said tell known all m.1 fact.parts key ordered.0 readable.dimensions k), each_said ms others ordered.1 rest)

all_from : {X : Type 0} (P : X → Type 0) (xs : List X) → AllByRecursion P xs → All P xs
all_from P [] all k d less = absurd (omega arith)
all_from P (x ∷ xs) all zero d less = all.0
all_from P (x ∷ xs) all (suc k) d less = all_from P xs all.1 k d (omega arith)

pub keys_said : NumbersTellNames → KeysSayWhatIsStated
keys_said tell bytes report e known facts h =
    all_from (IsSaid tell known) facts (each_said tell known (member_list report.facts) facts (each_ordered report.facts (opened_ordered bytes report e)) ((facts_said known report.facts facts).0 h))
