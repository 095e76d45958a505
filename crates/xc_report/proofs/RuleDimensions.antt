-- What a member of `dimensions` states by the rules is what is read of it.
use Rattle.std.proofs.Common.{◌≡◌, ◌≢◌, ◌&&◌, ℕ, List, [], ◌∷◌, Bool, true, false, not, codes, Option, Some, None, option_map, option_and_then, is_some, if◌then◌else◌, refl, sym, ap, subst, ◌∙◌}
use Rattle.std.specs.List.{list_all, filter_map, cons_option}
use Rattle.std.specs.Str.{bytes_eq}
use Rattle.std.proofs.lemmas.Bool.{and_parts, and_from, false_from_ne_true, true≢false}
use Rattle.std.proofs.lemmas.Option.{none-some, same_Some, option_and_then_some, cond_some}
use Rattle.std.proofs.lemmas.Slice.Eq.{bytes_eq-Decides}
use Rattle.serde_json.specs.Data.{Data, null, boolean, number, string, array, object, Num, Members}
use Rattle.serde_json.specs.Find.{get, as_str, as_number, as_object}
use Rattle.xc_names.specs.declared.expanded.Expanded.{Expanded}
use Rattle.xc_report.specs.Json.{member_list}
use Rattle.xc_report.specs.Prefixed.{expanded_name, expanded_loosely}
use Rattle.xc_report.specs.Periods.{normal_period}
use Rattle.xc_report.specs.Rules.{IsNoCoreName, IsMember, NoMember, TypedMember, ExplicitMember, OtherMember, States, StatesConcept, StatesEntity, StatesPeriod, StatesPure, StatesUnit, StatesLanguage, StatesNote, StatesTaxonomy, AllState, HasDimensions}
use Rattle.xc_report.specs.Rules.Units.{pure_measure}
use Rattle.xc_report.specs.Stated.{part, entity_pair, entity_value, period_value, text_value, measures_value, named_value, member_value, taxonomy_value, part_with, unit_kept, unit_part, taxonomy_part, part_of, has_twice, are_parts, given, given_parts, parts_of}
use Rattle.xc_report.specs.Units.{unit, is_pure_alone}
use Rattle.xc_report.specs.Wanted.{Known, is_typed}
use Rattle.xc_report.specs.declared.stated.DimensionName.{DimensionName}
use Rattle.xc_report.specs.declared.stated.DimensionName.TheVariants as dimension
use Rattle.xc_report.specs.declared.stated.StatedPart.{StatedPart}
use Rattle.xc_report.specs.declared.stated.StatedValue.{StatedValue}
use Rattle.xc_report.specs.declared.stated.StatedValue.TheVariants as value
use Rattle.xc_report.proofs.RuleNames.{name_read, reads_name, name_told, entity_read, reads_entity}
use Rattle.xc_report.proofs.RulePeriods.{period_read, reads_period}
use Rattle.xc_report.proofs.RuleUnits.{unit_read, reads_unit, pure_alone, pure_is, not_pure, other_than_pure}
use Rattle.xc_report.proofs.Told.{mapped}

-- ---- JSON values of one kind

pub is_text : (d : Data) (text : List ℕ) → as_str d ≡ Some text → d ≡ string text
is_text null text e = absurd (none-some text e)
is_text (boolean b) text e = absurd (none-some text e)
is_text (number n) text e = absurd (none-some text e)
is_text (string s) text e = ap string (same_Some s text e)
is_text (array ds) text e = absurd (none-some text e)
is_text (object ms) text e = absurd (none-some text e)

pub is_object : (d : Data) (members : Members) → as_object d ≡ Some members → d ≡ object members
is_object null members e = absurd (none-some members e)
is_object (boolean b) members e = absurd (none-some members e)
is_object (number n) members e = absurd (none-some members e)
is_object (string s) members e = absurd (none-some members e)
is_object (array ds) members e = absurd (none-some members e)
is_object (object ms) members e = ap object (same_Some ms members e)

pub is_number : (d : Data) (n : Num) → as_number d ≡ Some n → d ≡ number n
is_number null n e = absurd (none-some n e)
is_number (boolean b) n e = absurd (none-some n e)
is_number (number m) n e = ap number (same_Some m n e)
is_number (string s) n e = absurd (none-some n e)
is_number (array ds) n e = absurd (none-some n e)
is_number (object ms) n e = absurd (none-some n e)

not_from : (b : Bool) → not b ≡ true → b ≡ false
not_from true e = absurd (true≢false (sym e))
not_from false e = refl

-- ---- a member

module _ (known : Known) where
  -- the value of a dimension of a taxonomy
  text_member : (axis : Expanded) (text : List ℕ) (v : StatedValue) (typed : Bool) → is_typed known axis ≡ typed → (o : Option Expanded) → expanded_name known.prefixes text ≡ o
      → (if typed then value.Text text else named_value text o) ≡ v → IsMember known axis (string text) v
  text_member axis text v true t o h e = TypedMember text refl t (sym e)
  text_member axis text v false t None h e = OtherMember text refl t ((name_told known.prefixes text).none.0 h) (sym e)
  text_member axis text v false t (Some member) h e = ExplicitMember text member refl t (name_read known.prefixes text member h) (sym e)

  pub member_read : (axis : Expanded) (d : Data) (v : StatedValue) → taxonomy_value known.prefixes (is_typed known axis) d ≡ Some v → IsMember known axis d v
  member_read axis null v e = NoMember refl (sym (same_Some value.Null v e))
  member_read axis (boolean b) v e = absurd (none-some v e)
  member_read axis (number n) v e = absurd (none-some v e)
  member_read axis (string text) v e = text_member axis text v (is_typed known axis) refl (expanded_name known.prefixes text) refl (same_Some (member_value known.prefixes (is_typed known axis) text) v e)
  member_read axis (array ds) v e = absurd (none-some v e)
  member_read axis (object ms) v e = absurd (none-some v e)

  pub reads_member : (axis : Expanded) (d : Data) (v : StatedValue) → IsMember known axis d v → taxonomy_value known.prefixes (is_typed known axis) d ≡ Some v
  reads_member axis d v (NoMember is e) = ap (taxonomy_value known.prefixes (is_typed known axis)) is ∙ ap Some (sym e)
  reads_member axis d v (TypedMember text is typed e) =
      ap (taxonomy_value known.prefixes (is_typed known axis)) is ∙ ap (λ b. Some (member_value known.prefixes b text)) typed ∙ ap Some (sym e)
  reads_member axis d v (ExplicitMember text member is typed h e) =
      ap (taxonomy_value known.prefixes (is_typed known axis)) is ∙ ap (λ b. Some (member_value known.prefixes b text)) typed ∙ ap (λ o. Some (named_value text o)) (reads_name known.prefixes text member h) ∙ ap Some (sym e)
  reads_member axis d v (OtherMember text is typed h e) =
      ap (taxonomy_value known.prefixes (is_typed known axis)) is ∙ ap (λ b. Some (member_value known.prefixes b text)) typed
      ∙ ap (λ o. Some (named_value text o)) ((name_told known.prefixes text).none.1 h) ∙ ap Some (sym e)

  -- the texts by which the core dimensions are told apart
  chosen : {A : Type 0} (b : Bool) (x y : A) → b ≡ true → (if b then x else y) ≡ x
  chosen true x y e = refl
  chosen false x y e = absurd (true≢false (sym e))

  other : {A : Type 0} (b : Bool) (x y : A) → b ≡ false → (if b then x else y) ≡ y
  other true x y e = absurd (true≢false e)
  other false x y e = refl

  same : (name word : List ℕ) → bytes_eq name word ≡ true → name ≡ word
  same name word = (bytes_eq-Decides name word).0

  apart : (name word : List ℕ) → bytes_eq name word ≡ false → name ≢ word
  apart name word e is = absurd (true≢false (sym ((bytes_eq-Decides name word).1 is) ∙ e))

  differs : (name word : List ℕ) → name ≢ word → bytes_eq name word ≡ false
  differs name word is_other = false_from_ne_true (bytes_eq name word) (λ e. is_other (same name word e))

  -- a text under the name of a core dimension
  kept_text : (name : List ℕ) (d : Data) (p : Option StatedPart) (k : DimensionName) (f : List ℕ → StatedValue) → part_with k (option_map f (as_str d)) ≡ Some p
      → ((text : List ℕ) → d ≡ string text → p ≡ Some (part k (f text)) → States known name d p) → States known name d p
  kept_text name d p k f e states =
      mapped (λ v. Some (part k v)) (option_map f (as_str d)) p e (λ v h is.
      mapped f (as_str d) v h (λ text g value_is. states text (is_text d text g) (sym is ∙ ap (λ w. Some (part k w)) (sym value_is))))

  read_entity : (name : List ℕ) (d : Data) (p : Option StatedPart) → name ≡ codes "entity" → part_with dimension.Entity (entity_value known.prefixes d) ≡ Some p → States known name d p
  read_entity name d p n e =
      mapped (λ v. Some (part dimension.Entity v)) (entity_value known.prefixes d) p e (λ v h is.
      mapped entity_pair (option_and_then (expanded_loosely known.prefixes) (as_str d)) v h (λ entity g pair_is.
      option_and_then_some (expanded_loosely known.prefixes) (as_str d) entity g (λ text t named.
      StatesEntity text entity.space entity.local n (is_text d text t) (entity_read known.prefixes text entity named) (sym is ∙ ap (λ w. Some (part dimension.Entity w)) (sym pair_is)))))

  of_unit : (name text : List ℕ) (d : Data) (p : Option StatedPart) (measures : List Expanded × List Expanded) → name ≡ codes "unit" → d ≡ string text → unit known.prefixes text ≡ Some measures
      → (pure : Bool) → is_pure_alone measures ≡ pure → (if pure then None else Some (part dimension.Unit (measures_value measures))) ≡ p → States known name d p
  of_unit name text d p measures n t u true h e =
      StatesPure text n t (unit_read known.prefixes text (pure_measure ∷ [], []) (u ∙ ap (λ m. Some m) (pure_alone measures h))) (sym e)
  of_unit name text d p measures n t u false h e = StatesUnit text measures.0 measures.1 n t (unit_read known.prefixes text measures u) (other_than_pure measures.0 measures.1 h) (sym e)

  read_unit : (name : List ℕ) (d : Data) (p : Option StatedPart) → name ≡ codes "unit" → unit_part known.prefixes d ≡ Some p → States known name d p
  read_unit name d p n e =
      mapped unit_kept (option_and_then (unit known.prefixes) (as_str d)) p e (λ measures h is.
      option_and_then_some (unit known.prefixes) (as_str d) measures h (λ text t u.
      of_unit name text d p measures n (is_text d text t) u (is_pure_alone measures) refl is))

  read_taxonomy : (name : List ℕ) (d : Data) (p : Option StatedPart) → IsNoCoreName name → (o : Option Expanded) → expanded_name known.prefixes name ≡ o → taxonomy_part known d o ≡ Some p → States known name d p
  read_taxonomy name d p n None h e = absurd (none-some p e)
  read_taxonomy name d p n (Some axis) h e =
      mapped (λ v. Some (part (dimension.Taxonomy axis) v)) (taxonomy_value known.prefixes (is_typed known axis) d) p e (λ v g is.
      StatesTaxonomy axis v n (name_read known.prefixes name axis h) (member_read axis d v g) (sym is))

  module _ (name : List ℕ) (d : Data) (p : Option StatedPart) where
    not_note : (concept : name ≢ codes "concept") (entity : name ≢ codes "entity") (period : name ≢ codes "period") (unit : name ≢ codes "unit") (language : name ≢ codes "language")
        → (b : Bool) → bytes_eq name (codes "noteId") ≡ b
        → (if b then part_with dimension.NoteId (text_value d) else taxonomy_part known d (expanded_name known.prefixes name)) ≡ Some p → States known name d p
    not_note concept entity period unit language true h e = kept_text name d p dimension.NoteId (λ text. value.Text text) e (λ text t is. StatesNote text (same name (codes "noteId") h) t is)
    not_note concept entity period unit language false h e =
        read_taxonomy name d p (record { concept = concept; entity = entity; period = period; unit = unit; language = language; note = apart name (codes "noteId") h }) (expanded_name known.prefixes name) refl e

    not_language : (concept : name ≢ codes "concept") (entity : name ≢ codes "entity") (period : name ≢ codes "period") (unit : name ≢ codes "unit")
        → (b : Bool) → bytes_eq name (codes "language") ≡ b
        → (if b then part_with dimension.Language (text_value d) else (if bytes_eq name (codes "noteId") then part_with dimension.NoteId (text_value d) else taxonomy_part known d (expanded_name known.prefixes name))) ≡ Some p
        → States known name d p
    not_language concept entity period unit true h e = kept_text name d p dimension.Language (λ text. value.Text text) e (λ text t is. StatesLanguage text (same name (codes "language") h) t is)
    not_language concept entity period unit false h e = not_note concept entity period unit (apart name (codes "language") h) (bytes_eq name (codes "noteId")) refl e

    not_unit : (concept : name ≢ codes "concept") (entity : name ≢ codes "entity") (period : name ≢ codes "period") → (b : Bool) → bytes_eq name (codes "unit") ≡ b
        → (if b then unit_part known.prefixes d else (if bytes_eq name (codes "language") then part_with dimension.Language (text_value d) else (if bytes_eq name (codes "noteId") then part_with dimension.NoteId (text_value d) else taxonomy_part known d (expanded_name known.prefixes name)))) ≡ Some p
        → States known name d p
    not_unit concept entity period true h e = read_unit name d p (same name (codes "unit") h) e
    not_unit concept entity period false h e = not_language concept entity period (apart name (codes "unit") h) (bytes_eq name (codes "language")) refl e

    not_period : (concept : name ≢ codes "concept") (entity : name ≢ codes "entity") → (b : Bool) → bytes_eq name (codes "period") ≡ b
        → (if b then part_with dimension.Period (period_value d) else (if bytes_eq name (codes "unit") then unit_part known.prefixes d else (if bytes_eq name (codes "language") then part_with dimension.Language (text_value d) else (if bytes_eq name (codes "noteId") then part_with dimension.NoteId (text_value d) else taxonomy_part known d (expanded_name known.prefixes name))))) ≡ Some p
        → States known name d p
    not_period concept entity true h e = kept_text name d p dimension.Period (λ text. value.Text (normal_period text)) e (λ text t is. StatesPeriod text (normal_period text) (same name (codes "period") h) t (period_read text) is)
    not_period concept entity false h e = not_unit concept entity (apart name (codes "period") h) (bytes_eq name (codes "unit")) refl e

    not_entity : (concept : name ≢ codes "concept") → (b : Bool) → bytes_eq name (codes "entity") ≡ b
        → (if b then part_with dimension.Entity (entity_value known.prefixes d) else (if bytes_eq name (codes "period") then part_with dimension.Period (period_value d) else (if bytes_eq name (codes "unit") then unit_part known.prefixes d else (if bytes_eq name (codes "language") then part_with dimension.Language (text_value d) else (if bytes_eq name (codes "noteId") then part_with dimension.NoteId (text_value d) else taxonomy_part known d (expanded_name known.prefixes name)))))) ≡ Some p
        → States known name d p
    not_entity concept true h e = read_entity name d p (same name (codes "entity") h) e
    not_entity concept false h e = not_period concept (apart name (codes "entity") h) (bytes_eq name (codes "period")) refl e

    not_concept : (b : Bool) → bytes_eq name (codes "concept") ≡ b
        → (if b then Some None else (if bytes_eq name (codes "entity") then part_with dimension.Entity (entity_value known.prefixes d) else (if bytes_eq name (codes "period") then part_with dimension.Period (period_value d) else (if bytes_eq name (codes "unit") then unit_part known.prefixes d else (if bytes_eq name (codes "language") then part_with dimension.Language (text_value d) else (if bytes_eq name (codes "noteId") then part_with dimension.NoteId (text_value d) else taxonomy_part known d (expanded_name known.prefixes name))))))) ≡ Some p
        → States known name d p
    not_concept true h e = StatesConcept (same name (codes "concept") h) (sym (same_Some None p e))
    not_concept false h e = not_entity (apart name (codes "concept") h) (bytes_eq name (codes "entity")) refl e

    -- what is read of a member is what it states
    pub part_read : part_of known (name, d) ≡ Some p → States known name d p
    part_read e = not_concept (bytes_eq name (codes "concept")) refl e

    -- and what it states is read
    pub reads_part : States known name d p → part_of known (name, d) ≡ Some p
    reads_part (StatesConcept n e) = ap (λ w. part_of known (w, d)) n ∙ ap Some (sym e)
    reads_part (StatesEntity text scheme identifier n t h e) =
        ap (λ w. part_of known (w, d)) n ∙ ap (λ x. part_of known (codes "entity", x)) t
        ∙ ap (λ o. part_with dimension.Entity (option_map entity_pair o)) (reads_entity known.prefixes text scheme identifier h) ∙ ap Some (sym e)
    reads_part (StatesPeriod text period n t h e) =
        ap (λ w. part_of known (w, d)) n ∙ ap (λ x. part_of known (codes "period", x)) t
        ∙ ap (λ w. Some (Some (part dimension.Period (value.Text w)))) (reads_period text period h) ∙ ap Some (sym e)
    reads_part (StatesPure text n t u e) =
        ap (λ w. part_of known (w, d)) n ∙ ap (λ x. part_of known (codes "unit", x)) t ∙ ap (λ o. option_map unit_kept o) (reads_unit known.prefixes text (pure_measure ∷ []) [] u)
        ∙ ap Some (chosen (is_pure_alone (pure_measure ∷ [], [])) None (Some (part dimension.Unit (measures_value (pure_measure ∷ [], [])))) pure_is) ∙ ap Some (sym e)
    reads_part (StatesUnit text above below n t u h e) =
        ap (λ w. part_of known (w, d)) n ∙ ap (λ x. part_of known (codes "unit", x)) t ∙ ap (λ o. option_map unit_kept o) (reads_unit known.prefixes text above below u)
        ∙ ap Some (other (is_pure_alone (above, below)) None (Some (part dimension.Unit (measures_value (above, below)))) (not_pure above below h)) ∙ ap Some (sym e)
    reads_part (StatesLanguage text n t e) = ap (λ w. part_of known (w, d)) n ∙ ap (λ x. part_of known (codes "language", x)) t ∙ ap Some (sym e)
    reads_part (StatesNote text n t e) = ap (λ w. part_of known (w, d)) n ∙ ap (λ x. part_of known (codes "noteId", x)) t ∙ ap Some (sym e)
    reads_part (StatesTaxonomy axis v n h m e) =
        other _ _ _ (differs name (codes "concept") n.concept) ∙ other _ _ _ (differs name (codes "entity") n.entity) ∙ other _ _ _ (differs name (codes "period") n.period)
        ∙ other _ _ _ (differs name (codes "unit") n.unit) ∙ other _ _ _ (differs name (codes "language") n.language) ∙ other _ _ _ (differs name (codes "noteId") n.note)
        ∙ ap (taxonomy_part known d) (reads_name known.prefixes name axis h) ∙ ap (part_with (dimension.Taxonomy axis)) (reads_member axis d v m) ∙ ap Some (sym e)

  -- ---- all members

  step : (m : List ℕ × Data) (ms : List (List ℕ × Data)) → AllState known ms (filter_map (given known) ms) → (o : Option (Option StatedPart)) → part_of known m ≡ o → is_some o ≡ true
      → AllState known (m ∷ ms) (filter_map (given known) (m ∷ ms))
  step m ms all None e some = absurd (true≢false (sym some))
  step m ms all (Some p) e some =
      let gives : given known m ≡ p = ap (option_and_then (λ q. q)) e in
      (p, filter_map (given known) ms, part_read m.0 m.1 p e, all, ap (λ q. cons_option q (filter_map (given known) ms)) gives)

  pub all_read : (ms : List (List ℕ × Data)) → list_all (λ m. is_some (part_of known m)) ms ≡ true → AllState known ms (filter_map (given known) ms)
  all_read [] e = refl
  all_read (m ∷ ms) e =
      let both = and_parts (is_some (part_of known m)) (list_all (λ n. is_some (part_of known n)) ms) e in
      step m ms (all_read ms both.1) (part_of known m) refl both.0

  pub reads_all : (ms : List (List ℕ × Data)) (parts : List StatedPart) → AllState known ms parts → (list_all (λ m. is_some (part_of known m)) ms ≡ true) × (filter_map (given known) ms ≡ parts)
  reads_all [] parts e = (refl, sym e)
  reads_all (m ∷ ms) parts (p, rest, states, all, is) =
      let reads = reads_part m.0 m.1 p states in
      let others = reads_all ms rest all in (
        and_from (is_some (part_of known m)) (list_all (λ n. is_some (part_of known n)) ms) (ap is_some reads) others.0,
        ap (λ q. cons_option q (filter_map (given known) ms)) (ap (option_and_then (λ q. q)) reads) ∙ ap (cons_option p) others.1 ∙ sym is,
      )

  -- ---- the dimensions of a fact

  dimensions_from : (fact d : Data) (members : Members) (parts : List StatedPart) → get (codes "dimensions") fact ≡ Some d → d ≡ object members → parts_of known members ≡ Some parts → HasDimensions known fact parts
  dimensions_from fact d members parts held is e =
      let found = cond_some (are_parts known members && not (has_twice (given_parts known members))) (given_parts known members) parts e in
      let both = and_parts (are_parts known members) (not (has_twice (given_parts known members))) found.0 in
      record {
        members = members;
        held = held ∙ ap Some is;
        state = subst (λ ps. AllState known (member_list members) ps) found.1 (all_read (member_list members) both.0);
        once = subst (λ ps. has_twice ps ≡ false) found.1 (not_from (has_twice (given_parts known members)) both.1);
      }

  pub dimensions_read : (fact : Data) (parts : List StatedPart) → option_and_then (parts_of known) (option_and_then as_object (get (codes "dimensions") fact)) ≡ Some parts → HasDimensions known fact parts
  dimensions_read fact parts e =
      option_and_then_some (parts_of known) (option_and_then as_object (get (codes "dimensions") fact)) parts e (λ members h is.
      option_and_then_some as_object (get (codes "dimensions") fact) members h (λ d held o. dimensions_from fact d members parts held (is_object d members o) is))

  pub reads_dimensions : (fact : Data) (parts : List StatedPart) → HasDimensions known fact parts → option_and_then (parts_of known) (option_and_then as_object (get (codes "dimensions") fact)) ≡ Some parts
  reads_dimensions fact parts h =
      let all = reads_all (member_list h.members) parts h.state in
      let once : not (has_twice (given_parts known h.members)) ≡ true = ap (λ ps. not (has_twice ps)) all.1 ∙ ap not h.once in
      ap (λ o. option_and_then (parts_of known) (option_and_then as_object o)) h.held
      ∙ chosen _ _ _ (and_from (are_parts known h.members) (not (has_twice (given_parts known h.members))) all.0 once) ∙ ap Some all.1
