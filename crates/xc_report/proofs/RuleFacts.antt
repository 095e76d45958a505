-- What a member of `facts` says by the rules, and the fault of one that breaks them, is what is read of it.
use Rattle.std.proofs.Common.{◌≡◌, ◌⊎◌, inl, inr, ℕ, ℤ, List, [], ◌∷◌, codes, Option, Some, None, Result, Ok, Err, option_map, option_and_then, refl, sym, ap, subst, ◌∙◌}
use Rattle.std.specs.List.{filter_map, cons_option}
use Rattle.std.proofs.lemmas.Option.{none-some, same_Some, option_and_then_some}
use Rattle.serde_json.specs.Data.{Data, null, boolean, number, string, array, object, Members}
use Rattle.serde_json.specs.Find.{get, as_str, as_number, as_i64}
use Rattle.xc_chars.specs.Trimmed.{trimmed}
use Rattle.xc_decimal.specs.Numbers.{reading}
use Rattle.xc_decimal.specs.Shortest.{Shortest}
use Rattle.xc_decimal.specs.declared.decimal.DecimalFault.{DecimalFault}
use Rattle.xc_decimal.specs.declared.decimal.DecimalFault.TheVariants as unread
use Rattle.xc_names.specs.Prefixes.{Bindings}
use Rattle.xc_names.specs.declared.expanded.Expanded.{Expanded}
use Rattle.xc_names.specs.declared.expanded.NameId.{NameId}
use Rattle.xc_report.specs.Json.{member_list, text_at}
use Rattle.xc_report.specs.Prefixed.{expanded_name}
use Rattle.xc_report.specs.Rules.{HasDimensions, IsAbout, IsOfNode, IsNil, HasText, Says, SaysNumber, SaysWide, HasDecimals, NoDecimals, WholeDecimals, IsLeftOut, OfNoNode, Nil, IsReadable, Breaks, NoConcept, NoValue, NoDimensions, NoNumber, BadDecimals, AllSay, FirstBreaks}
use Rattle.xc_report.specs.StatedFacts.{dimensions_of, concept_text, concept_of, null_or_text, value_of, fact_parts, read_of, value_read, whole_or_none, decimals_of, with_decimals, with_reading, with_parts, with_value, with_node, with_concept, stated_fact, fact_in, fault_in, first, facts_of, facts_unless, stated_facts}
use Rattle.xc_report.specs.Wanted.{Known, node_of}
use Rattle.xc_report.specs.declared.reports.Reading.{Reading}
use Rattle.xc_report.specs.declared.reports.Reading.TheVariants as read
use Rattle.xc_report.specs.declared.reports.ReportFault.{ReportFault}
use Rattle.xc_report.specs.declared.reports.ReportFault.TheVariants as fault
use Rattle.xc_report.specs.declared.stated.StatedFact.{StatedFact}
use Rattle.xc_report.specs.declared.stated.StatedPart.{StatedPart}
use Rattle.xc_report.proofs.RuleDimensions.{is_text, is_number, dimensions_read, reads_dimensions}
use Rattle.xc_report.proofs.RuleNames.{name_read, reads_name}
use Rattle.xc_report.proofs.Told.{mapped, missing}

-- ---- the parts of a fact

about_read : (p : Bindings) (fact : Data) (name : Expanded) → concept_of p fact ≡ Some name → IsAbout p fact name
about_read p fact name e =
    option_and_then_some (expanded_name p) (concept_text fact) name e (λ text h named.
    option_and_then_some (text_at (codes "concept")) (dimensions_of fact) text h (λ d held s.
    option_and_then_some as_str (get (codes "concept") d) text s (λ v got t.
    record { dimensions = d; held = held; text = text; stated = got ∙ ap Some (is_text v text t); named = name_read p text name named })))

reads_about : (p : Bindings) (fact : Data) (name : Expanded) → IsAbout p fact name → concept_of p fact ≡ Some name
reads_about p fact name a =
    ap (λ o. option_and_then (expanded_name p) (option_and_then (text_at (codes "concept")) o)) a.held
    ∙ ap (λ o. option_and_then (expanded_name p) (option_and_then as_str o)) a.stated ∙ reads_name p a.text name a.named

null_is : (d : Data) → null_or_text d ≡ Some None → d ≡ null
null_is null e = refl
null_is (boolean b) e = absurd (none-some None e)
null_is (number n) e = absurd (none-some None e)
null_is (string s) e = absurd (none-some s (sym (same_Some (Some s) None e)))
null_is (array ds) e = absurd (none-some None e)
null_is (object ms) e = absurd (none-some None e)

text_is : (d : Data) (text : List ℕ) → null_or_text d ≡ Some (Some text) → d ≡ string text
text_is null text e = absurd (none-some text (same_Some None (Some text) e))
text_is (boolean b) text e = absurd (none-some (Some text) e)
text_is (number n) text e = absurd (none-some (Some text) e)
text_is (string s) text e = ap string (same_Some s text (same_Some (Some s) (Some text) e))
text_is (array ds) text e = absurd (none-some (Some text) e)
text_is (object ms) text e = absurd (none-some (Some text) e)

nil_read : (fact : Data) → value_of fact ≡ Some None → IsNil fact
nil_read fact e = option_and_then_some null_or_text (get (codes "value") fact) None e (λ d got h. got ∙ ap Some (null_is d h))

reads_nil : (fact : Data) → IsNil fact → value_of fact ≡ Some None
reads_nil fact e = ap (option_and_then null_or_text) e

text_read : (fact : Data) (text : List ℕ) → value_of fact ≡ Some (Some text) → HasText fact text
text_read fact text e = option_and_then_some null_or_text (get (codes "value") fact) (Some text) e (λ d got h. got ∙ ap Some (text_is d text h))

reads_text : (fact : Data) (text : List ℕ) → HasText fact text → value_of fact ≡ Some (Some text)
reads_text fact text e = ap (option_and_then null_or_text) e

says : (text : List ℕ) (r : Reading) (o : Result Shortest DecimalFault) → reading (trimmed text) ≡ o → read_of o ≡ Some r → Says text r
says text r (Ok decimal) h e = SaysNumber decimal h (sym (same_Some (read.Number decimal) r e))
says text r (Err unread.Wide) h e = SaysWide h (sym (same_Some read.Wide r e))
says text r (Err unread.NotDecimal) h e = absurd (none-some r e)

says_read : (text : List ℕ) (r : Reading) → value_read text ≡ Some r → Says text r
says_read text r e = says text r (reading (trimmed text)) refl e

reads_says : (text : List ℕ) (r : Reading) → Says text r → value_read text ≡ Some r
reads_says text r (SaysNumber decimal h e) = ap read_of h ∙ ap Some (sym e)
reads_says text r (SaysWide h e) = ap read_of h ∙ ap Some (sym e)

decimals_from : (fact : Data) (decimals : Option ℤ) (o : Option Data) → get (codes "decimals") fact ≡ o → whole_or_none o ≡ Some decimals → HasDecimals fact decimals
decimals_from fact decimals None h e = NoDecimals h (sym (same_Some None decimals e))
decimals_from fact decimals (Some d) h e =
    mapped Some (option_and_then as_i64 (as_number d)) decimals e (λ whole g is.
    option_and_then_some as_i64 (as_number d) whole g (λ n t w. WholeDecimals n whole (h ∙ ap Some (is_number d n t)) w (sym is)))

decimals_read : (fact : Data) (decimals : Option ℤ) → decimals_of fact ≡ Some decimals → HasDecimals fact decimals
decimals_read fact decimals e = decimals_from fact decimals (get (codes "decimals") fact) refl e

reads_decimals : (fact : Data) (decimals : Option ℤ) → HasDecimals fact decimals → decimals_of fact ≡ Some decimals
reads_decimals fact decimals (NoDecimals h e) = ap whole_or_none h ∙ ap Some (sym e)
reads_decimals fact decimals (WholeDecimals n whole h w e) = ap whole_or_none h ∙ ap (option_map Some) w ∙ ap Some (sym e)

-- ---- a member

module _ (known : Known) (id : List ℕ) (fact : Data) where
  node_read : (concept : NameId) → IsOfNode known fact concept → stated_fact known (id, fact) ≡ with_value known id fact concept (value_of fact)
  node_read concept n = ap (with_concept known id fact) (reads_about known.prefixes fact n.name n.about) ∙ ap (with_node known id fact) n.node

  text_stated : (concept : NameId) (text : List ℕ) → IsOfNode known fact concept → HasText fact text → stated_fact known (id, fact) ≡ with_parts id fact concept text (fact_parts known fact)
  text_stated concept text n h = node_read concept n ∙ ap (with_value known id fact concept) (reads_text fact text h)

  parts_stated : (concept : NameId) (text : List ℕ) (parts : List StatedPart) → IsOfNode known fact concept → HasText fact text → HasDimensions known fact parts
      → stated_fact known (id, fact) ≡ with_reading id fact concept parts (value_read text)
  parts_stated concept text parts n h d = text_stated concept text n h ∙ ap (with_parts id fact concept text) (reads_dimensions known fact parts d)

  number_stated : (concept : NameId) (text : List ℕ) (parts : List StatedPart) (r : Reading) → IsOfNode known fact concept → HasText fact text → HasDimensions known fact parts → Says text r
      → stated_fact known (id, fact) ≡ with_decimals id concept parts r (decimals_of fact)
  number_stated concept text parts r n h d s = parts_stated concept text parts n h d ∙ ap (with_reading id fact concept parts) (reads_says text r s)

  pub out_stated : IsLeftOut known fact → stated_fact known (id, fact) ≡ Ok None
  out_stated (OfNoNode name about none) = ap (with_concept known id fact) (reads_about known.prefixes fact name about) ∙ ap (with_node known id fact) none
  out_stated (Nil concept n nil) = node_read concept n ∙ ap (with_value known id fact concept) (reads_nil fact nil)

  pub fact_stated : (f : StatedFact) → IsReadable known id fact f → stated_fact known (id, fact) ≡ Ok (Some f)
  fact_stated f r =
      number_stated f.concept r.text f.parts f.value r.of_node r.has_text r.dimensions r.says
      ∙ ap (with_decimals id f.concept f.parts f.value) (reads_decimals fact f.decimals r.decimals)
      ∙ ap (λ (i : List ℕ). Ok (Some (record { id = i; concept = f.concept; parts = f.parts; value = f.value; decimals = f.decimals }))) (sym r.same_id)

  no_value : (o : Option (Option (List ℕ))) → value_of fact ≡ o → ¬ (IsNil fact) → ((text : List ℕ) → ¬ (HasText fact text)) → o ≡ None
  no_value None h nil text = refl
  no_value (Some None) h nil text = absurd (nil (nil_read fact h))
  no_value (Some (Some t)) h nil text = absurd (text t (text_read fact t h))

  pub fault_stated : (f : ReportFault) → Breaks known id fact f → stated_fact known (id, fact) ≡ Err f
  fault_stated f (NoConcept never e) = ap (with_concept known id fact) (missing (concept_of known.prefixes fact) (λ name h. never name (about_read known.prefixes fact name h))) ∙ ap Err (sym e)
  fault_stated f (NoValue concept n nil text e) = node_read concept n ∙ ap (with_value known id fact concept) (no_value (value_of fact) refl nil text) ∙ ap Err (sym e)
  fault_stated f (NoDimensions concept text n h never e) =
      text_stated concept text n h ∙ ap (with_parts id fact concept text) (missing (fact_parts known fact) (λ parts d. never parts (dimensions_read known fact parts d))) ∙ ap Err (sym e)
  fault_stated f (NoNumber concept text parts n h d never e) =
      parts_stated concept text parts n h d ∙ ap (with_reading id fact concept parts) (missing (value_read text) (λ r s. never r (says_read text r s))) ∙ ap Err (sym e)
  fault_stated f (BadDecimals concept text parts r n h d s never e) =
      number_stated concept text parts r n h d s ∙ ap (with_decimals id concept parts r) (missing (decimals_of fact) (λ ds g. never ds (decimals_read fact ds g))) ∙ ap Err (sym e)

  -- ---- one of the three holds of each member

  pub data Said : Type 0 where
    Left : IsLeftOut known fact → Said
    Read : (f : StatedFact) → IsReadable known id fact f → Said
    Broken : (f : ReportFault) → Breaks known id fact f → Said

  by_decimals : (concept : NameId) (text : List ℕ) (parts : List StatedPart) (r : Reading) → IsOfNode known fact concept → HasText fact text → HasDimensions known fact parts → Says text r
      → (o : Option (Option ℤ)) → decimals_of fact ≡ o → Said
  by_decimals concept text parts r n h d s None e = Broken (fault.BadDecimals id) (BadDecimals concept text parts r n h d s (λ ds has. none-some ds (sym e ∙ reads_decimals fact ds has)) refl)
  by_decimals concept text parts r n h d s (Some decimals) e =
      Read (record { id = id; concept = concept; parts = parts; value = r; decimals = decimals })
      (record { same_id = refl; of_node = n; text = text; has_text = h; dimensions = d; says = s; decimals = decimals_read fact decimals e })

  by_number : (concept : NameId) (text : List ℕ) (parts : List StatedPart) → IsOfNode known fact concept → HasText fact text → HasDimensions known fact parts → (o : Option Reading) → value_read text ≡ o → Said
  by_number concept text parts n h d None e = Broken (fault.BadValue id) (NoNumber concept text parts n h d (λ r s. none-some r (sym e ∙ reads_says text r s)) refl)
  by_number concept text parts n h d (Some r) e = by_decimals concept text parts r n h d (says_read text r e) (decimals_of fact) refl

  by_parts : (concept : NameId) (text : List ℕ) → IsOfNode known fact concept → HasText fact text → (o : Option (List StatedPart)) → fact_parts known fact ≡ o → Said
  by_parts concept text n h None e = Broken (fault.BadName id) (NoDimensions concept text n h (λ parts d. none-some parts (sym e ∙ reads_dimensions known fact parts d)) refl)
  by_parts concept text n h (Some parts) e = by_number concept text parts n h (dimensions_read known fact parts e) (value_read text) refl

  by_value : (concept : NameId) → IsOfNode known fact concept → (o : Option (Option (List ℕ))) → value_of fact ≡ o → Said
  by_value concept n None e =
      Broken (fault.BadValue id) (NoValue concept n (λ nil. none-some None (sym e ∙ reads_nil fact nil)) (λ text h. none-some (Some text) (sym e ∙ reads_text fact text h)) refl)
  by_value concept n (Some None) e = Left (Nil concept n (nil_read fact e))
  by_value concept n (Some (Some text)) e = by_parts concept text n (text_read fact text e) (fact_parts known fact) refl

  by_node : (name : Expanded) → IsAbout known.prefixes fact name → (o : Option NameId) → node_of known name ≡ o → Said
  by_node name about None e = Left (OfNoNode name about e)
  by_node name about (Some concept) e = by_value concept (record { name = name; about = about; node = e }) (value_of fact) refl

  by_concept : (o : Option Expanded) → concept_of known.prefixes fact ≡ o → Said
  by_concept None e = Broken (fault.BadName id) (NoConcept (λ name about. none-some name (sym e ∙ reads_about known.prefixes fact name about)) refl)
  by_concept (Some name) e = by_node name (about_read known.prefixes fact name e) (node_of known name) refl

  pub said : Said
  said = by_concept (concept_of known.prefixes fact) refl

-- ---- all members

module _ (known : Known) where
  all_stated : (ms : List (List ℕ × Data)) (fs : List StatedFact) → AllSay known ms fs
      → (filter_map (λ m. fault_in (stated_fact known m)) ms ≡ []) × (filter_map (λ m. fact_in (stated_fact known m)) ms ≡ fs)
  all_stated [] fs e = (refl, sym e)
  all_stated (m ∷ ms) fs (inl (out, all)) =
      let e = out_stated known m.0 m.1 out in
      let rest = all_stated ms fs all in (
        ap (λ r. cons_option (fault_in r) (filter_map (λ n. fault_in (stated_fact known n)) ms)) e ∙ rest.0,
        ap (λ r. cons_option (fact_in r) (filter_map (λ n. fact_in (stated_fact known n)) ms)) e ∙ rest.1,
      )
  all_stated (m ∷ ms) fs (inr (f, others, readable, all, is)) =
      let e = fact_stated known m.0 m.1 f readable in
      let rest = all_stated ms others all in (
        ap (λ r. cons_option (fault_in r) (filter_map (λ n. fault_in (stated_fact known n)) ms)) e ∙ rest.0,
        ap (λ r. cons_option (fact_in r) (filter_map (λ n. fact_in (stated_fact known n)) ms)) e ∙ ap (λ xs. f ∷ xs) rest.1 ∙ sym is,
      )

  first_stated : (ms : List (List ℕ × Data)) (f : ReportFault) → FirstBreaks known ms f → first (filter_map (λ m. fault_in (stated_fact known m)) ms) ≡ Some f
  first_stated [] f never = absurd never
  first_stated (m ∷ ms) f (inl broken) = ap (λ r. first (cons_option (fault_in r) (filter_map (λ n. fault_in (stated_fact known n)) ms))) (fault_stated known m.0 m.1 f broken)
  first_stated (m ∷ ms) f (inr (inl out, later)) = ap (λ r. first (cons_option (fault_in r) (filter_map (λ n. fault_in (stated_fact known n)) ms))) (out_stated known m.0 m.1 out) ∙ first_stated ms f later
  first_stated (m ∷ ms) f (inr (inr (g, readable), later)) =
      ap (λ r. first (cons_option (fault_in r) (filter_map (λ n. fault_in (stated_fact known n)) ms))) (fact_stated known m.0 m.1 g readable) ∙ first_stated ms f later

  one_of : (ms : List (List ℕ × Data)) → ((fs : List StatedFact) × AllSay known ms fs) ⊎ ((f : ReportFault) × FirstBreaks known ms f)
  one_of [] = inl ([], refl)
  one_of (m ∷ ms) = by_first (said known m.0 m.1) (one_of ms)
    where
      by_first : Said known m.0 m.1 → (((fs : List StatedFact) × AllSay known ms fs) ⊎ ((f : ReportFault) × FirstBreaks known ms f))
          → ((fs : List StatedFact) × AllSay known (m ∷ ms) fs) ⊎ ((f : ReportFault) × FirstBreaks known (m ∷ ms) f)
      by_first (Broken f broken) rest = inr (f, inl broken)
      by_first (Left out) (inl (fs, all)) = inl (fs, inl (out, all))
      by_first (Left out) (inr (f, later)) = inr (f, inr (inl out, later))
      by_first (Read g readable) (inl (fs, all)) = inl (g ∷ fs, inr (g, fs, readable, all, refl))
      by_first (Read g readable) (inr (f, later)) = inr (f, inr (inr (g, readable), later))

  module _ (members : Members) where
    all_answered : (fs : List StatedFact) → AllSay known (member_list members) fs → stated_facts known members ≡ Ok fs
    all_answered fs all =
        let e = all_stated (member_list members) fs all in
        ap (λ o. facts_unless (facts_of known members) (first o)) e.0 ∙ ap Ok e.1

    first_answered : (f : ReportFault) → FirstBreaks known (member_list members) f → stated_facts known members ≡ Err f
    first_answered f breaks = ap (facts_unless (facts_of known members)) (first_stated (member_list members) f breaks)

    -- ---- what is answered is one of the two

    abbrev IsOkWith : List StatedFact → Result (List StatedFact) ReportFault → Type 0
    IsOkWith fs (Ok gs) = gs ≡ fs
    IsOkWith fs (Err f) = ⊥

    abbrev IsErrWith : ReportFault → Result (List StatedFact) ReportFault → Type 0
    IsErrWith f (Ok gs) = ⊥
    IsErrWith f (Err g) = g ≡ f

    facts_from : (fs : List StatedFact) → stated_facts known members ≡ Ok fs → (((gs : List StatedFact) × AllSay known (member_list members) gs) ⊎ ((f : ReportFault) × FirstBreaks known (member_list members) f))
        → AllSay known (member_list members) fs
    facts_from fs e (inl (gs, all)) = subst (λ xs. AllSay known (member_list members) xs) (sym (subst (IsOkWith gs) (sym (all_answered gs all) ∙ e) refl)) all
    facts_from fs e (inr (f, breaks)) = absurd (subst (IsErrWith f) (sym (first_answered f breaks) ∙ e) refl)

    fault_from : (f : ReportFault) → stated_facts known members ≡ Err f → (((gs : List StatedFact) × AllSay known (member_list members) gs) ⊎ ((g : ReportFault) × FirstBreaks known (member_list members) g))
        → FirstBreaks known (member_list members) f
    fault_from f e (inl (gs, all)) = absurd (subst (IsOkWith gs) (sym (all_answered gs all) ∙ e) refl)
    fault_from f e (inr (g, breaks)) = subst (λ (x : ReportFault). FirstBreaks known (member_list members) x) (sym (subst (IsErrWith g) (sym (first_answered g breaks) ∙ e) refl)) breaks

    pub facts_said : (fs : List StatedFact) → (stated_facts known members ≡ Ok fs → AllSay known (member_list members) fs) × (AllSay known (member_list members) fs → stated_facts known members ≡ Ok fs)
    facts_said fs = ((λ e. facts_from fs e (one_of (member_list members))), all_answered fs)

    pub fault_first : (f : ReportFault) → (stated_facts known members ≡ Err f → FirstBreaks known (member_list members) f) × (FirstBreaks known (member_list members) f → stated_facts known members ≡ Err f)
    fault_first f = ((λ e. fault_from f e (one_of (member_list members))), first_answered f)
