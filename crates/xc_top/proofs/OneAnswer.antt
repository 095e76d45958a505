-- Words and files have one answer.
use Rattle.std.proofs.Common.{◌≡◌, ℕ, List, [], ◌∷◌, map, Option, Some, None, Result, Ok, Err, inl, inr, refl, sym, ap, subst, ◌∙◌}
use Rattle.std.specs.List.{zip}
use Rattle.xc_calc.specs.Laws as calc
use Rattle.xc_calc.specs.declared.arc.ArcKind.{ArcKind}
use Rattle.xc_calc.specs.declared.arc.Network.{Network}
use Rattle.xc_lists.specs.Places.{first_given}
use Rattle.xc_elements.specs.DocumentTrees.{OneTree, TreeOrFault, OneFirstFault}
use Rattle.xc_io.specs.Shelf.{Files}
use Rattle.xc_names.specs.Laws.{NumbersTellNames, NamesStandAtNumbers}
use Rattle.xc_names.specs.declared.expanded.Expanded.{Expanded}
use Rattle.xc_names.specs.declared.wanted.Wanted.{Wanted}
use Rattle.xc_report.specs.Laws.{StatedIsRenamed, ReportIsRenamed}
use Rattle.xc_report.specs.Opened.{Opened, opened}
use Rattle.xc_report.specs.StatedFacts.{stated_facts}
use Rattle.xc_report.specs.Wanted.{known_of}
use Rattle.xc_report.specs.declared.reports.ReportFault.{ReportFault}
use Rattle.xc_report.specs.declared.stated.StatedFact.{StatedFact}
use Rattle.xc_report.specs.Renamed.{renamed_stated, renamed_fact, renamed_read}
use Rattle.xc_top.proofs.Chain.{same_bytes, to_steps}
use Rattle.xc_top.proofs.Renaming.{IsRenamed, renamed_network}
use Rattle.xc_top.proofs.RenamedLines.{Judges, one_counted}
use Rattle.xc_top.proofs.RenamedSums.{one_sum}
use Rattle.xc_top.proofs.RenamedTaxonomies.{one_taxonomy, one_refusal, refused_or_read}
use Rattle.xc_top.specs.Answer.{IsAnswer, IsCommandAnswer}
use Rattle.xc_top.specs.Answers.{report_refusal}
use Rattle.xc_top.specs.Documents.{first_unfetched, IsContentOf, IsDocumentOf, AreDocumentsOf}
use Rattle.xc_top.specs.Steps.Chain.{over_asked, IsOpenedAnswer, IsDocumentsAnswer, IsOverFiles, IsVerifyAnswer, sum_asked, IsNumberedAnswer, IsReportAnswer, IsSumAnswer, IsHeldStep, Asked, Sought, FindingsAndJoint, JudgementOf, sample_sought, IsJoint, IsCounted, IsStated, IsRead, IsFactsAnswer}
use Rattle.xc_top.specs.Run.{IsJudged}
use Rattle.xc_top.specs.Laws.{AreOneIf, DocumentsAreOne, IsCheck}
use Rattle.xc_top.specs.Samples.{files_read, sample_check}
use Rattle.xc_top.specs.Sums.{sum_network, named_words, unbound}
use Rattle.xc_top.specs.Words.{CommandWords, SumWords, CheckWords, VerifyWords, SumOf, CheckOf, VerifyOf, SampleOf, file_words}
use Rattle.xc_top.specs.declared.documents.Content.{Content}
use Rattle.xc_top.specs.declared.documents.Content.TheVariants.{Elements, Broken}
use Rattle.xc_top.specs.declared.documents.Document.{Document}
use Rattle.xc_top.specs.declared.status.Answer.{Answer}

-- ---- documents

module _ (tree : OneTree) (fault : OneFirstFault) (either : TreeOrFault) where
  one_content : (bytes : List ℕ) (one other : Content) → IsContentOf bytes one → IsContentOf bytes other → one ≡ other
  one_content bytes (Elements a) (Elements b) h k = ap Elements (tree bytes a b h k)
  one_content bytes (Elements a) (Broken f) h k = absurd (either bytes a f h k)
  one_content bytes (Broken f) (Elements b) h k = absurd (either bytes b f k h)
  one_content bytes (Broken f) (Broken g) h k = ap Broken (fault bytes f g h k)

  one_document : (files : Files) (word : List ℕ) (one other : Document) → IsDocumentOf files word one → IsDocumentOf files word other → one ≡ other
  one_document files word one other h k =
      let bytes : Some h.bytes ≡ Some k.bytes = sym h.held ∙ k.held in
      let same : h.bytes ≡ k.bytes = cc in
      let content : one.content ≡ other.content = one_content k.bytes one.content other.content (subst (λ bs. IsContentOf bs one.content) same h.content) k.content in
      let word : one.word ≡ other.word = h.named ∙ sym k.named in
      λ i. record { word = word i; content = content i }

  pub one_documents : (files : Files) (words : List (List ℕ)) (one other : List Document) → AreDocumentsOf files words one → AreDocumentsOf files words other → one ≡ other
  one_documents files [] [] [] h k = refl
  one_documents files [] [] (e ∷ es) h k = absurd k
  one_documents files [] (d ∷ ds) other h k = absurd h
  one_documents files (word ∷ words) [] other h k = absurd h
  one_documents files (word ∷ words) (d ∷ ds) [] h k = absurd k
  one_documents files (word ∷ words) (d ∷ ds) (e ∷ es) h k = ap (λ x. x ∷ ds) (one_document files word d e h.0 k.0) ∙ ap (λ xs. e ∷ xs) (one_documents files words ds es h.1 k.1)

-- ---- options

some_none : (a : Answer) (o : Option Answer) → o ≡ Some a → o ≡ None → ⊥
some_none a o e n = let wrong : Some a ≡ None = sym e ∙ n in cc

same_some : (a b : Answer) (o : Option Answer) → o ≡ Some a → o ≡ Some b → a ≡ b
same_some a b o e f = let same : Some a ≡ Some b = sym e ∙ f in cc

-- ---- answers

-- the laws of the crates below
pub record Below : Type 0 where
  pub tell : NumbersTellNames
  pub stand : NamesStandAtNumbers
  pub networks : calc.HasOneAnswer
  pub stated : StatedIsRenamed
  pub facts : ReportIsRenamed
  pub judges : Judges

module _ (below : Below) (documents_are_one : DocumentsAreOne) where
  module _ (asked : Asked) (names other_names : List Expanded) (networks other_networks : List Network) (wanted other_wanted : Wanted)
      (renamed : IsRenamed names networks wanted other_names other_networks other_wanted) where
    -- facts that are stated alike have one answer
    one_stated : (facts : List StatedFact) (one other : Answer)
        → IsStated asked names networks facts one → IsStated asked other_names other_networks (map (renamed_stated renamed.by) facts) other → AreOneIf (IsJoint asked.sought × IsJudged one.status) one other
    one_stated facts one other h k =
        let same : k.report.facts ≡ map (renamed_fact renamed.by) h.report.facts =
        below.facts renamed.by h.after k.after facts h.report k.report h.numbered k.numbered in
        one_counted below.judges renamed.by renamed.injective asked networks h.report.facts one other h.counted
        (subst (λ fs. IsCounted asked (map (renamed_network renamed.by) networks) fs other) same
        (subst (λ ns. IsCounted asked ns k.report.facts other) renamed.networks_are k.counted))

    one_read : (stated : Result (List StatedFact) ReportFault) (one other : Answer)
        → IsRead asked names networks stated one → IsRead asked other_names other_networks (renamed_read renamed.by stated) other → AreOneIf (IsJoint asked.sought × IsJudged one.status) one other
    one_read (Ok facts) one other h k = one_stated facts one other h k
    one_read (Err fault) one other h k = inl (same_some one other (report_refusal asked.word fault) h k)

    one_facts : (report : Opened) (one other : Answer) → IsFactsAnswer asked names networks wanted report one → IsFactsAnswer asked other_names other_networks other_wanted report other → AreOneIf (IsJoint asked.sought × IsJudged one.status) one other
    one_facts report one other h k =
        let known = known_of report.prefixes names wanted in
        let same : stated_facts (known_of report.prefixes other_names other_wanted) report.facts ≡ renamed_read renamed.by (stated_facts known report.facts) =
        below.stated renamed.by known (known_of report.prefixes other_names other_wanted) (renamed.known report.prefixes) report.facts in
        one_read (stated_facts known report.facts) one other h
        (subst (λ stated. IsRead asked other_names other_networks stated other) same k)

  -- ---- over the documents of a taxonomy

  module _ (asked : Asked) where
    one_opened : (names other_names : List Expanded) (networks other_networks : List Network) (wanted other_wanted : Wanted)
        → IsRenamed names networks wanted other_names other_networks other_wanted → (report : Result Opened ReportFault) (one other : Answer)
        → IsOpenedAnswer asked names networks wanted report one → IsOpenedAnswer asked other_names other_networks other_wanted report other → AreOneIf (IsJoint asked.sought × IsJudged one.status) one other
    one_opened names other_names networks other_networks wanted other_wanted renamed (Ok report) one other h k =
        one_facts asked names other_names networks other_networks wanted other_wanted renamed report one other h k
    one_opened names other_names networks other_networks wanted other_wanted renamed (Err fault) one other h k = inl (same_some one other (report_refusal asked.word fault) h k)

    one_over : (kind : ArcKind) (report : List ℕ) (documents : List Document) (one other : Answer) → IsDocumentsAnswer kind asked report documents one → IsDocumentsAnswer kind asked report documents other → AreOneIf (IsJoint asked.sought × IsJudged one.status) one other
    one_over kind report documents one other (inl h) (inl k) = inl (one_refusal below.tell below.stand kind documents one other h k)
    one_over kind report documents one other (inl h) (inr k) = absurd (refused_or_read below.tell below.stand kind documents one k.names k.networks k.wanted h k.taxonomy)
    one_over kind report documents one other (inr h) (inl k) = absurd (refused_or_read below.tell below.stand kind documents other h.names h.networks h.wanted k h.taxonomy)
    one_over kind report documents one other (inr h) (inr k) =
        one_opened h.names k.names h.networks k.networks h.wanted k.wanted
        (one_taxonomy below.tell below.stand below.networks kind documents h.names h.networks h.wanted k.names k.networks k.wanted h.taxonomy k.taxonomy)
        (opened report) one other h.answered k.answered

  one_over_files : (check : CheckWords) (sought : Sought) (files : Files) (one other : Answer) → IsOverFiles check sought files one → IsOverFiles check sought files other → AreOneIf (IsJoint sought × IsJudged one.status) one other
  one_over_files check sought files one other h k =
      let bytes : h.bytes ≡ k.bytes = same_bytes h.bytes k.bytes (files check.report) h.held k.held in
      let documents : h.documents ≡ k.documents = documents_are_one files check.documents h.documents k.documents h.read k.read in
      let asked = over_asked check sought in
      one_over asked check.kind k.bytes k.documents one other
      (subst (λ ds. IsDocumentsAnswer check.kind asked k.bytes ds one) documents (subst (λ bs. IsDocumentsAnswer check.kind asked bs h.documents one) bytes h.answered)) k.answered

  one_verified : (verify : VerifyWords) (files : Files) (one other : Answer) → IsVerifyAnswer verify files one → IsVerifyAnswer verify files other → AreOneIf (⊥ × IsJudged one.status) one other
  one_verified verify files one other h k =
      let bytes : h.0 ≡ k.0 = same_bytes h.0 k.0 (files verify.certificate) h.1 k.1 in
      one_over_files verify.over (JudgementOf verify.certificate k.0) files one other
      (subst (λ bs. IsOverFiles verify.over (JudgementOf verify.certificate bs) files one) bytes h.2) k.2

  -- ---- `sum`

  one_numbered : (sum : SumWords) (report : Opened) (one other : Answer) → IsNumberedAnswer sum report one → IsNumberedAnswer sum report other → AreOneIf (⊥ × IsJudged one.status) one other
  one_numbered sum report one other h k =
      one_facts (sum_asked sum) h.names k.names (sum_network h.total (zip sum.terms h.terms) ∷ []) (sum_network k.total (zip sum.terms k.terms) ∷ []) h.wanted k.wanted
      (one_sum below.tell below.stand report.prefixes h.names k.names sum h.total k.total h.terms k.terms h.wanted k.wanted h.numbers k.numbers)
      report one other h.answered k.answered

  one_report : (sum : SumWords) (report : Result Opened ReportFault) (one other : Answer) → IsReportAnswer sum report one → IsReportAnswer sum report other → AreOneIf (⊥ × IsJudged one.status) one other
  one_report sum (Ok report) one other (inl h) (inl k) = inl (same_some one other (first_given (unbound report.prefixes sum.report) (named_words sum)) h k)
  one_report sum (Ok report) one other (inl h) (inr k) = absurd (some_none one (first_given (unbound report.prefixes sum.report) (named_words sum)) h k.bound)
  one_report sum (Ok report) one other (inr h) (inl k) = absurd (some_none other (first_given (unbound report.prefixes sum.report) (named_words sum)) k h.bound)
  one_report sum (Ok report) one other (inr h) (inr k) = one_numbered sum report one other h k
  one_report sum (Err fault) one other h k = inl (same_some one other (report_refusal sum.report fault) h k)

  one_summed : (sum : SumWords) (files : Files) (one other : Answer) → IsSumAnswer sum files one → IsSumAnswer sum files other → AreOneIf (⊥ × IsJudged one.status) one other
  one_summed sum files one other h k =
      let bytes : h.bytes ≡ k.bytes = same_bytes h.bytes k.bytes (files sum.report) h.held k.held in
      one_report sum (opened k.bytes) one other (subst (λ bs. IsReportAnswer sum (opened bs) one) bytes h.answered) k.answered

  -- ---- commands

  one_held : (command : CommandWords) (files : Files) (one other : Answer) → IsHeldStep command files one → IsHeldStep command files other → AreOneIf (IsCheck (Some command) × IsJudged one.status) one other
  one_held (SumOf sum) files one other h k = one_summed sum files one other h k
  one_held (CheckOf check) files one other h k = one_over_files check FindingsAndJoint files one other h k
  one_held (VerifyOf verify) files one other h k = one_verified verify files one other h k
  one_held (SampleOf n) files one other h k = one_over_files sample_check (sample_sought n) files one other h k

  one_command : (command : CommandWords) (files : Files) (one other : Answer) → IsCommandAnswer command files one → IsCommandAnswer command files other → AreOneIf (IsCheck (Some command) × IsJudged one.status) one other
  one_command command files one other (inl h) (inl k) = inl (same_some one other (first_unfetched files (file_words command)) h k)
  one_command command files one other (inl h) (inr k) = absurd (some_none one (first_unfetched files (file_words command)) h k.fetched)
  one_command command files one other (inr h) (inl k) = absurd (some_none other (first_unfetched files (file_words command)) k h.fetched)
  one_command command files one other (inr h) (inr k) = one_held command (files_read command files) one other (to_steps command files one h).answered (to_steps command files other k).answered

  pub one_answer : (words : Option CommandWords) (files : Files) (one other : Answer) → IsAnswer words files one → IsAnswer words files other → AreOneIf (IsCheck words × IsJudged one.status) one other
  one_answer None files one other h k = inl (h ∙ sym k)
  one_answer (Some command) files one other h k = one_command command files one other h k
