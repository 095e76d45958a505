-- What is answered step by step is the refusal of the first fault, or what the command makes of the content; and back.
use Rattle.std.proofs.Common.{◌≡◌, ◌⊎◌, ◌∙◌, ℕ, List, [], ◌∷◌, length, Bool, true, false, Option, Some, None, Result, Ok, Err, MatchBool, codes, inl, inr, refl, sym, subst}
use Rattle.std.specs.List.{zip}
use Rattle.std.specs.Option.{option_or}
use Rattle.xc_calc.specs.declared.arc.Network.{Network}
use Rattle.xc_io.specs.Shelf.{Files}
use Rattle.xc_names.specs.declared.expanded.Expanded.{Expanded}
use Rattle.xc_names.specs.declared.wanted.Wanted.{Wanted}
use Rattle.xc_report.specs.Opened.{Opened, opened}
use Rattle.xc_report.specs.StatedFacts.{stated_facts}
use Rattle.xc_report.specs.Wanted.{known_of}
use Rattle.xc_report.specs.declared.reports.Report.{Report}
use Rattle.xc_report.specs.declared.reports.ReportFault.{ReportFault}
use Rattle.xc_report.specs.declared.stated.StatedFact.{StatedFact}
use Rattle.xc_sample.specs.Samples.{report_text}
use Rattle.xc_top.specs.Answer.{IsMade, IsHeldAnswer, IsFetchedAnswer, IsCommandAnswer}
use Rattle.xc_top.specs.Answers.{refused, report_refusal}
use Rattle.xc_top.specs.Certified.{IsJudgementIn, IsNoCertificate}
use Rattle.xc_top.specs.Contents.{IsOpen, IsSaid, IsSaidByDocuments, IsReadOver, IsReadFrom, HasContent, are_too_many, report_word}
use Rattle.xc_top.specs.Documents.{unfetched, unfetched_of, first_unfetched}
use Rattle.xc_top.specs.FirstFaults.{IsNotSaid, AreRefused, IsNotOpenOver, AreUnread, IsUncertified}
use Rattle.xc_top.specs.Steps.Chain.{IsCertified, Asked, Sought, FindingsAndJoint, JudgementOf, sample_sought, IsSought, IsCounted, IsRead, IsFactsAnswer, IsOpenedAnswer, IsDocumentsAnswer, IsOverFiles, over_asked, sum_asked, IsNumberedAnswer, IsReportAnswer, IsSumAnswer, IsHeldStep, IsFetchedStep, IsCommandStep}
use Rattle.xc_top.specs.Samples.{files_read, sample_check, sample_files}
use Rattle.xc_top.specs.Sums.{sum_network}
use Rattle.xc_top.specs.Words.{SumWords, CheckWords, VerifyWords, CommandWords, SumOf, CheckOf, VerifyOf, SampleOf, file_words}
use Rattle.xc_top.specs.declared.status.Answer.{Answer}

-- ---- from the steps

module _ (command : CommandWords) (files : Files) (asked : Asked) (word : asked.word ≡ report_word command) (a : Answer)
    (ends : (networks : List Network) (report : Report) → HasContent command files networks report → IsSought asked.mode asked.sought networks report.facts a → IsUncertified command files a ⊎ IsMade command files networks report.facts a) where
  from_counted : (networks : List Network) (report : Report) → IsReadFrom command files networks report → IsCounted asked networks report.facts a → IsHeldAnswer command files a
  from_counted networks report read h = by (are_too_many (length report.facts) (length networks)) refl h
    where
      made : (content : HasContent command files networks report) → IsUncertified command files a ⊎ IsMade command files networks report.facts a → IsHeldAnswer command files a
      made content (inl none) = inl (inr (inr (inr none)))
      made content (inr is) = inr (record { networks = networks; report = report; content = content; made = is })

      by : (b : Bool) → are_too_many (length report.facts) (length networks) ≡ b → MatchBool b (a ≡ refused asked.word (codes "xc:tooMany")) (IsSought asked.mode asked.sought networks report.facts a)
          → IsHeldAnswer command files a
      by true many e = inl (inr (inr (inl (record {
        networks = networks;
        report = report;
        read = read;
        many = many;
        is = subst (λ w. a ≡ refused w (codes "xc:tooMany")) word e;
      }))))
      by false few h = let content : HasContent command files networks report = record { read = read; few = few } in made content (ends networks report content h)

  from_read : (parts : Opened) (names : List Expanded) (networks : List Network) (wanted : Wanted) → IsReadOver command files parts names networks wanted
      → (r : Result (List StatedFact) ReportFault) → stated_facts (known_of parts.prefixes names wanted) parts.facts ≡ r → IsRead asked names networks r a → IsHeldAnswer command files a
  from_read parts names networks wanted over (Ok stated) states h =
      from_counted networks h.report (record {
        names = names;
        wanted = wanted;
        parts = parts;
        over = over;
        stated = stated;
        states = states;
        after = h.after;
        kept = h.kept;
        numbered = h.numbered;
      }) h.counted
  from_read parts names networks wanted over (Err fault) fails h = inl (inr (inl (record {
    parts = parts;
    names = names;
    networks = networks;
    wanted = wanted;
    over = over;
    fault = fault;
    fails = fails;
    refused = subst (λ w. report_refusal w fault ≡ Some a) word h;
  })))

  pub from_facts : (parts : Opened) (names : List Expanded) (networks : List Network) (wanted : Wanted) → IsReadOver command files parts names networks wanted
      → IsFactsAnswer asked names networks wanted parts a → IsHeldAnswer command files a
  from_facts parts names networks wanted over h = from_read parts names networks wanted over (stated_facts (known_of parts.prefixes names wanted) parts.facts) refl h

-- a command over the documents of a taxonomy
module _ (command : CommandWords) (files : Files) (check : CheckWords) (sought : Sought) (word : check.report ≡ report_word command) (a : Answer)
    (said : (parts : Opened) (names : List Expanded) (networks : List Network) (wanted : Wanted) → IsSaidByDocuments check files names networks wanted → IsSaid command files parts names networks wanted)
    (not_said : AreRefused check files a ⊎ IsNotOpenOver check files a → IsNotSaid command files a)
    (ends : (networks : List Network) (report : Report) → HasContent command files networks report → IsSought check.mode sought networks report.facts a → IsUncertified command files a ⊎ IsMade command files networks report.facts a) where
  from_opened : (names : List Expanded) (networks : List Network) (wanted : Wanted) → IsSaidByDocuments check files names networks wanted
      → (bytes : List ℕ) → files check.report ≡ Some bytes → (r : Result Opened ReportFault) → opened bytes ≡ r → IsOpenedAnswer (over_asked check sought) names networks wanted r a → IsHeldAnswer command files a
  from_opened names networks wanted says bytes held (Ok parts) opens h =
      let open_parts : IsOpen check.report files parts = record { bytes = bytes; held = held; opens = opens } in
      from_facts command files (over_asked check sought) word a ends parts names networks wanted
      (record { opened_as = subst (λ w. IsOpen w files parts) word open_parts; said = said parts names networks wanted says }) h
  from_opened names networks wanted says bytes held (Err fault) fails h = inl (inl (not_said (inr (record {
    names = names;
    networks = networks;
    wanted = wanted;
    said = says;
    closed = record { bytes = bytes; held = held; fault = fault; fails = fails; refused = h };
  }))))

  pub from_files : IsOverFiles check sought files a → IsHeldAnswer command files a
  from_files h = by h.answered
    where
      by : IsDocumentsAnswer check.kind (over_asked check sought) h.bytes h.documents a → IsHeldAnswer command files a
      by (inl refusal) = inl (inl (not_said (inl (record { documents = h.documents; read = h.read; refused = refusal }))))
      by (inr t) = from_opened t.names t.networks t.wanted (record { documents = h.documents; read = h.read; taxonomy = t.taxonomy }) h.bytes h.held (opened h.bytes) refl t.answered

from_report : (sum : SumWords) (files : Files) (a : Answer) (bytes : List ℕ) → files sum.report ≡ Some bytes → (r : Result Opened ReportFault) → opened bytes ≡ r → IsReportAnswer sum r a → IsHeldAnswer (SumOf sum) files a
from_report sum files a bytes held (Ok parts) opens (inl lacks) = inl (inl (inr (record { parts = parts; opened_as = record { bytes = bytes; held = held; opens = opens }; lacks = lacks })))
from_report sum files a bytes held (Ok parts) opens (inr h) =
    from_facts (SumOf sum) files (sum_asked sum) refl a (λ networks report content is. inr is) parts h.names (sum_network h.total (zip sum.terms h.terms) ∷ []) h.wanted (record {
      opened_as = record { bytes = bytes; held = held; opens = opens };
      said = record { bound = h.bound; total = h.total; terms = h.terms; numbers = h.numbers; network = refl };
    }) h.answered
from_report sum files a bytes held (Err fault) fails h = inl (inl (inl (record { bytes = bytes; held = held; fault = fault; fails = fails; refused = h })))

from_certified : (verify : VerifyWords) (files : Files) (a : Answer) (bytes : List ℕ) → files verify.certificate ≡ Some bytes → (networks : List Network) (report : Report)
    → HasContent (VerifyOf verify) files networks report → IsCertified verify.over.mode verify.certificate bytes networks report.facts a
    → IsUncertified (VerifyOf verify) files a ⊎ IsMade (VerifyOf verify) files networks report.facts a
from_certified verify files a bytes held networks report content (inl none) = inl (record { networks = networks; report = report; content = content; bytes = bytes; held = held; lacks = none })
from_certified verify files a bytes held networks report content (inr judged) = inr (record { bytes = bytes; held = held; judged = judged })

from_held : (command : CommandWords) (files : Files) (a : Answer) → IsHeldStep command files a → IsHeldAnswer command files a
from_held (SumOf sum) files a h = from_report sum files a h.bytes h.held (opened h.bytes) refl h.answered
from_held (CheckOf check) files a h =
    from_files (CheckOf check) files check FindingsAndJoint refl a (λ parts names networks wanted says. says) (λ none. none) (λ networks report content is. inr is) h
from_held (VerifyOf verify) files a h =
    from_files (VerifyOf verify) files verify.over (JudgementOf verify.certificate h.0) refl a (λ parts names networks wanted says. says) (λ none. none)
    (λ networks report content is. from_certified verify files a h.0 h.1 networks report content is) h.2
from_held (SampleOf n) files a h =
    from_files (SampleOf n) files sample_check (sample_sought n) refl a (λ parts names networks wanted says. says) (λ none. none) (λ networks report content is. inr is) h

-- what a command answers step by step is its answer
pub from_steps : (command : CommandWords) (files : Files) (a : Answer) → IsCommandStep command files a → IsCommandAnswer command files a
from_steps command files a (inl first) = inl first
from_steps command files a (inr h) = inr (record { fetched = h.fetched; answered = from_held command (files_read command files) a h.answered })

-- ---- back to the steps

-- what is fetched is held
held_word : (word : List ℕ) (held : Option (List ℕ)) (rest : Option Answer) → option_or (unfetched_of word held) rest ≡ None → (bytes : List ℕ) × (held ≡ Some bytes)
held_word word None rest e = absurd (cc)
held_word word (Some bytes) rest e = (bytes, refl)

later_none : (o rest : Option Answer) → option_or o rest ≡ None → rest ≡ None
later_none None rest e = e
later_none (Some a) rest e = absurd (cc)

first_held : (files : Files) (word : List ℕ) (words : List (List ℕ)) → first_unfetched files (word ∷ words) ≡ None → (bytes : List ℕ) × (files word ≡ Some bytes)
first_held files word words e = held_word word (files word) (first_unfetched files words) e

later_fetched : (files : Files) (word : List ℕ) (words : List (List ℕ)) → first_unfetched files (word ∷ words) ≡ None → first_unfetched files words ≡ None
later_fetched files word words e = later_none (unfetched files word) (first_unfetched files words) e

pub same_bytes : (a b : List ℕ) (o : Option (List ℕ)) → o ≡ Some a → o ≡ Some b → a ≡ b
same_bytes a b o e f = let same : Some a ≡ Some b = sym e ∙ f in cc

module _ (command : CommandWords) (files : Files) (asked : Asked) (word : asked.word ≡ report_word command) (a : Answer) where
  few_counted : (networks : List Network) (report : Report) → are_too_many (length report.facts) (length networks) ≡ false → IsSought asked.mode asked.sought networks report.facts a → IsCounted asked networks report.facts a
  few_counted networks report few h = subst (λ b. MatchBool b (a ≡ refused asked.word (codes "xc:tooMany")) (IsSought asked.mode asked.sought networks report.facts a)) (sym few) h

  many_counted : (networks : List Network) (report : Report) → are_too_many (length report.facts) (length networks) ≡ true → a ≡ refused (report_word command) (codes "xc:tooMany") → IsCounted asked networks report.facts a
  many_counted networks report many e =
      subst (λ b. MatchBool b (a ≡ refused asked.word (codes "xc:tooMany")) (IsSought asked.mode asked.sought networks report.facts a)) (sym many)
      (subst (λ w. a ≡ refused w (codes "xc:tooMany")) (sym word) e)

  to_facts : (networks : List Network) (report : Report) → (read : IsReadFrom command files networks report) → IsCounted asked networks report.facts a → IsFactsAnswer asked read.names networks read.wanted read.parts a
  to_facts networks report read counted =
      let stated : IsRead asked read.names networks (Ok read.stated) a = record { after = read.after; kept = read.kept; report = report; numbered = read.numbered; counted = counted } in
      subst (λ r. IsRead asked read.names networks r a) (sym read.states) stated

  to_unread : (unread : AreUnread command files a) → IsFactsAnswer asked unread.names unread.networks unread.wanted unread.parts a
  to_unread unread =
      let refused : report_refusal asked.word unread.fault ≡ Some a = subst (λ w. report_refusal w unread.fault ≡ Some a) (sym word) unread.refused in
      subst (λ r. IsRead asked unread.names unread.networks r a) (sym unread.fails) refused

  -- where nothing is at fault before the facts, what is answered of these is answered over what was read
  module _ (Goal : Type 0) (over : (parts : Opened) (names : List Expanded) (networks : List Network) (wanted : Wanted) → IsReadOver command files parts names networks wanted → IsFactsAnswer asked names networks wanted parts a → Goal) where
    pub to_goal : (IsNotSaid command files a → Goal) → (IsUncertified command files a → Goal) → ((networks : List Network) (report : Report) → HasContent command files networks report → IsMade command files networks report.facts a → IsSought asked.mode asked.sought networks report.facts a)
        → IsHeldAnswer command files a → Goal
    to_goal not_said uncertified sought (inl (inl none)) = not_said none
    to_goal not_said uncertified sought (inl (inr (inl unread))) = over unread.parts unread.names unread.networks unread.wanted unread.over (to_unread unread)
    to_goal not_said uncertified sought (inl (inr (inr (inl many)))) =
        over many.read.parts many.read.names many.networks many.read.wanted many.read.over
        (to_facts many.networks many.report many.read (many_counted many.networks many.report many.many many.is))
    to_goal not_said uncertified sought (inl (inr (inr (inr none)))) = uncertified none
    to_goal not_said uncertified sought (inr h) =
        over h.content.read.parts h.content.read.names h.networks h.content.read.wanted h.content.read.over
        (to_facts h.networks h.report h.content.read (few_counted h.networks h.report h.content.few (sought h.networks h.report h.content h.made)))

-- over the documents of a taxonomy
module _ (files : Files) (check : CheckWords) (sought : Sought) (a : Answer) where
  pub to_over : (parts : Opened) (names : List Expanded) (networks : List Network) (wanted : Wanted) → IsOpen check.report files parts → IsSaidByDocuments check files names networks wanted
      → IsFactsAnswer (over_asked check sought) names networks wanted parts a → IsOverFiles check sought files a
  to_over parts names networks wanted report says facts = record {
    bytes = report.bytes;
    held = report.held;
    documents = says.documents;
    read = says.read;
    answered = inr (record {
      names = names;
      networks = networks;
      wanted = wanted;
      taxonomy = says.taxonomy;
      answered = subst (λ r. IsOpenedAnswer (over_asked check sought) names networks wanted r a) (sym report.opens) facts;
    });
  }

  pub to_not_said : (bytes : List ℕ) → files check.report ≡ Some bytes → AreRefused check files a ⊎ IsNotOpenOver check files a → IsOverFiles check sought files a
  to_not_said bytes held (inl refused) = record { bytes = bytes; held = held; documents = refused.documents; read = refused.read; answered = inl refused.refused }
  to_not_said bytes held (inr h) = record {
    bytes = h.closed.bytes;
    held = h.closed.held;
    documents = h.said.documents;
    read = h.said.read;
    answered = inr (record {
      names = h.names;
      networks = h.networks;
      wanted = h.wanted;
      taxonomy = h.said.taxonomy;
      answered = subst (λ r. IsOpenedAnswer (over_asked check sought) h.names h.networks h.wanted r a) (sym h.closed.fails) h.closed.refused;
    });
  }

-- `sum`
module _ (sum : SumWords) (files : Files) (a : Answer) where
  to_numbered : (parts : Opened) (names : List Expanded) (networks : List Network) (wanted : Wanted) → IsReadOver (SumOf sum) files parts names networks wanted
      → IsFactsAnswer (sum_asked sum) names networks wanted parts a → IsSumAnswer sum files a
  to_numbered parts names networks wanted over facts =
      let numbered : IsNumberedAnswer sum parts a = record {
        bound = over.said.bound;
        names = names;
        total = over.said.total;
        terms = over.said.terms;
        wanted = wanted;
        numbers = over.said.numbers;
        answered = subst (λ ns. IsFactsAnswer (sum_asked sum) names ns wanted parts a) over.said.network facts;
      } in
      let report : IsReportAnswer sum (Ok parts) a = inr numbered in
      record { bytes = over.opened_as.bytes; held = over.opened_as.held; answered = subst (λ r. IsReportAnswer sum r a) (sym over.opened_as.opens) report }

  to_unnumbered : IsNotSaid (SumOf sum) files a → IsSumAnswer sum files a
  to_unnumbered (inl closed) = record { bytes = closed.bytes; held = closed.held; answered = subst (λ r. IsReportAnswer sum r a) (sym closed.fails) closed.refused }
  to_unnumbered (inr h) =
      let report : IsReportAnswer sum (Ok h.parts) a = inl h.lacks in
      record { bytes = h.opened_as.bytes; held = h.opened_as.held; answered = subst (λ r. IsReportAnswer sum r a) (sym h.opened_as.opens) report }

-- `verify`, by the bytes of the certificate
module _ (verify : VerifyWords) (files : Files) (a : Answer) (bytes : List ℕ) (held : files verify.certificate ≡ Some bytes) where
  abbrev sought_of : Sought
  sought_of = JudgementOf verify.certificate bytes

  to_certified : (networks : List Network) (report : Report) → HasContent (VerifyOf verify) files networks report → IsMade (VerifyOf verify) files networks report.facts a → IsSought verify.over.mode sought_of networks report.facts a
  to_certified networks report content h =
      inr (subst (λ bs. IsJudgementIn verify.over.mode bs networks report.facts a) (same_bytes h.bytes bytes (files verify.certificate) h.held held) h.judged)

  to_uncertified : IsUncertified (VerifyOf verify) files a → IsOverFiles verify.over sought_of files a
  to_uncertified h =
      let none : IsNoCertificate verify.certificate bytes a = subst (λ bs. IsNoCertificate verify.certificate bs a) (same_bytes h.bytes bytes (files verify.certificate) h.held held) h.lacks in
      let read = h.content.read in
      to_over files verify.over sought_of a read.parts read.names h.networks read.wanted read.over.opened_as read.over.said
      (to_facts (VerifyOf verify) files (over_asked verify.over sought_of) refl a h.networks h.report read
      (few_counted (VerifyOf verify) files (over_asked verify.over sought_of) refl a h.networks h.report h.content.few (inl none)))

-- the report of a sample is among its texts
pub sample_report : (n : ℕ) → sample_files n sample_check.report ≡ Some (report_text n)
sample_report n = refl

to_held : (command : CommandWords) (files : Files) (a : Answer) → first_unfetched files (file_words command) ≡ None → IsHeldAnswer command (files_read command files) a → IsHeldStep command (files_read command files) a
to_held (SumOf sum) files a fetched h =
    to_goal (SumOf sum) files (sum_asked sum) refl a (IsSumAnswer sum files a) (to_numbered sum files a) (to_unnumbered sum files a) (λ none. absurd none) (λ networks report content is. is) h
to_held (CheckOf check) files a fetched h =
    let report = first_held files check.report check.documents fetched in
    to_goal (CheckOf check) files (over_asked check FindingsAndJoint) refl a (IsOverFiles check FindingsAndJoint files a)
    (λ parts names networks wanted over facts. to_over files check FindingsAndJoint a parts names networks wanted over.opened_as over.said facts)
    (to_not_said files check FindingsAndJoint a report.0 report.1) (λ none. absurd none) (λ networks report content is. is) h
to_held (VerifyOf verify) files a fetched h =
    let certificate = first_held files verify.certificate (verify.over.report ∷ verify.over.documents) fetched in
    let report = first_held files verify.over.report verify.over.documents (later_fetched files verify.certificate (verify.over.report ∷ verify.over.documents) fetched) in
    let sought = JudgementOf verify.certificate certificate.0 in (
      certificate.0,
      certificate.1,
      to_goal (VerifyOf verify) files (over_asked verify.over sought) refl a (IsOverFiles verify.over sought files a)
          (λ parts names networks wanted over facts. to_over files verify.over sought a parts names networks wanted over.opened_as over.said facts)
          (to_not_said files verify.over sought a report.0 report.1) (to_uncertified verify files a certificate.0 certificate.1) (to_certified verify files a certificate.0 certificate.1) h,
    )
to_held (SampleOf n) files a fetched h =
    let texts = sample_files n in
    let sought = sample_sought n in
    to_goal (SampleOf n) texts (over_asked sample_check sought) refl a (IsOverFiles sample_check sought texts a)
    (λ parts names networks wanted over facts. to_over texts sample_check sought a parts names networks wanted over.opened_as over.said facts)
    (to_not_said texts sample_check sought a (report_text n) (sample_report n)) (λ none. absurd none) (λ networks report content is. is) h

-- a command's answer is what it answers step by step
pub to_steps : (command : CommandWords) (files : Files) (a : Answer) → IsFetchedAnswer command files a → IsFetchedStep command files a
to_steps command files a h = record { fetched = h.fetched; answered = to_held command files a h.fetched h.answered }
