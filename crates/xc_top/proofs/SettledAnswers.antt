-- What `check` wrote with a settled joint part, `verify` accepts; and narrow forests are settled.
use Rattle.std.proofs.Common.{◌≡◌, ℕ, List, [], ◌∷◌, Option, Some, None, inl, inr, refl, sym, ap, subst, ◌∙◌}
use Rattle.std.specs.List.{AllByRecursion}
use Rattle.std.specs.Option.{option_or}
use Rattle.xc_io.specs.Shelf.{Files}
use Rattle.xc_joint.specs.Answers.{IsAnswer as IsJointAnswer}
use Rattle.xc_joint.specs.Settling.{NarrowForestsAreSettled}
use Rattle.xc_lines.specs.JointPart.{IsClaim}
use Rattle.xc_top.proofs.Leaving.{short_fetched}
use Rattle.xc_top.proofs.Reading.{content_later, reached}
use Rattle.xc_top.proofs.SettledParts.{Says, claimed, claims, holds, settled_proves, system_in, wide_verdict}
use Rattle.xc_top.proofs.Unjudged.{IsUnjudged, given_has, unfetched_unjudged}
use Rattle.xc_top.specs.Answer.{IsAnswer, IsAnswerOf, IsCommandAnswer, IsFetchedAnswer}
use Rattle.xc_top.specs.Documents.{unfetched, unfetched_of, first_unfetched}
use Rattle.xc_top.specs.Laws.{AnswersAreOne, AreOneIf, IsCheck}
use Rattle.xc_top.specs.Run.{IsJudged}
use Rattle.xc_top.specs.Settled.{ForestsAreSettled, HoldsCertificate, IsSettledAs, SettledIsAccepted, acceptance}
use Rattle.xc_top.specs.Words.{CheckWords, CommandWords, VerifyWords, CheckOf, VerifyOf, file_words, words_of}
use Rattle.xc_top.specs.declared.status.Answer.{Answer}
use Rattle.xc_verify.specs.Laws.{AcceptanceProves}
use Rattle.xc_verify.specs.declared.types.Judgement.TheVariants.{Accepted}

-- a judgement of `check` is answered over files that are all fetched
fetched : (check : CheckWords) (files : Files) (a : Answer) → IsJudged a.status → IsCommandAnswer (CheckOf check) files a → IsFetchedAnswer (CheckOf check) files a
fetched check files a judged (inl first) = absurd (given_has IsUnjudged (unfetched files) (unfetched_unjudged files) (file_words (CheckOf check)) a first judged)
fetched check files a judged (inr h) = h

-- an answer to words, by what they ask for
asked_for : (words : Option CommandWords) (command : CommandWords) (files : Files) (a : Answer) → words ≡ Some command → IsAnswer words files a → IsCommandAnswer command files a
asked_for words command files a is h = subst (λ w. IsAnswer w files a) is h

-- ---- the later files

option_none : (o later : Option Answer) → option_or o later ≡ None → (o ≡ None) × (later ≡ None)
option_none None later e = (refl, e)
option_none (Some a) later e = absurd (cc)

both_none : (o later : Option Answer) → o ≡ None → later ≡ None → option_or o later ≡ None
both_none o later e f = ap (λ o. option_or o later) e ∙ f

same_fetched : (files later : Files) (words : List (List ℕ)) → AllByRecursion (λ word. later word ≡ files word) words → first_unfetched files words ≡ None → first_unfetched later words ≡ None
same_fetched files later [] same e = refl
same_fetched files later (word ∷ words) same e =
    let parts = option_none (unfetched files word) (first_unfetched files words) e in
    both_none (unfetched later word) (first_unfetched later words) (ap (unfetched_of word) same.0 ∙ parts.0) (same_fetched files later words same.1 parts.1)

-- with the certificate all are fetched
all_fetched : (verify : VerifyWords) (text : List ℕ) (files later : Files) → HoldsCertificate verify text files later → first_unfetched files (file_words (CheckOf verify.over)) ≡ None → first_unfetched later (file_words (VerifyOf verify)) ≡ None
all_fetched verify text files later holds e =
    both_none (unfetched later verify.certificate) (first_unfetched later (file_words (CheckOf verify.over))) (short_fetched later verify.certificate text holds.certificate holds.fits)
    (same_fetched files later (verify.over.report ∷ verify.over.documents) (holds.report, holds.documents) e)

-- ---- what is accepted

module _ (laws : Says) (proves : AcceptanceProves) where
  -- that the certificate is accepted is answered over the later files
  is_accepted : (verify : VerifyWords) (files later : Files) (written : Answer) (word : List ℕ) → IsFetchedAnswer (CheckOf verify.over) files written → IsClaim word → IsSettledAs word written
      → HoldsCertificate verify written.text files later → IsCommandAnswer (VerifyOf verify) later (acceptance word)
  is_accepted verify files later written word h is_claim settled holding =
      let check = verify.over in
      let r = reached files written (CheckOf check) settled.judged h.answered in
      let j = r.made in
      let c = claimed laws check.mode r.networks r.report.facts written j word is_claim settled.claims in
      let is = settled_proves proves j.system c.certificate j.kept (subst (λ joint. IsJointAnswer j.system joint) c.settled j.joint_is) in
      let text = holds laws check.mode r.networks r.report.facts written j c.certificate c.settled is.0 in
      inr (record {
        fetched = all_fetched verify written.text files later holding h.fetched;
        answered = inr (record {
          networks = r.networks;
          report = r.report;
          content = content_later verify files later r.networks r.report r.content holding.report holding.documents;
          made = record {
            bytes = written.text;
            held = holding.certificate;
            judged = record {
              certificate = c.certificate;
              text = text;
              system = j.system;
              system_is = system_in laws check.mode r.networks r.report.facts written j;
              judged = record { kept = j.kept; judgement = Accepted; judgement_is = is.1; is = ap acceptance (sym c.claims) };
            };
          };
        });
      })

  module _ (one : AnswersAreOne) where
    pub settled_is_accepted : SettledIsAccepted
    settled_is_accepted words others verify is others_are files later written word h is_claim settled holding answer k =
        let first = fetched verify.over files written settled.judged (asked_for (words_of words) (CheckOf verify.over) files written is h) in
        let accepted : IsAnswerOf others later (acceptance word) =
        subst (λ w. IsAnswer w later (acceptance word)) (sym others_are) (is_accepted verify files later written word first is_claim settled holding) in
        same (subst (λ w. AreOneIf (IsCheck w × IsJudged answer.status) answer (acceptance word)) others_are (one others later answer (acceptance word) k accepted))
      where
        same : AreOneIf (⊥ × IsJudged answer.status) answer (acceptance word) → answer ≡ acceptance word
        same (inl e) = e
        same (inr none) = absurd none.0.0

  -- ---- narrow forests

  pub forests_are_settled : NarrowForestsAreSettled → ForestsAreSettled
  forests_are_settled narrow words check is files forests answer h judged =
      let first = fetched check files answer judged (asked_for (words_of words) (CheckOf check) files answer is h) in
      let r = reached files answer (CheckOf check) judged first.answered in
      let j = r.made in
      let system_is = system_in laws check.mode r.networks r.report.facts answer j in
      let c = narrow j.system j.joint (forests r.networks r.report j.system r.content system_is) j.joint_is in
      let proof = settled_proves proves j.system c.0 j.kept (subst (λ joint. IsJointAnswer j.system joint) c.1 j.joint_is) in
      record {
        networks = r.networks;
        report = r.report;
        content = r.content;
        found = j;
        certificate = c.0;
        joint = c.1;
        settled = record { judged = judged; claims = claims laws check.mode r.networks r.report.facts answer j c.0 c.1 };
        text = holds laws check.mode r.networks r.report.facts answer j c.0 c.1 proof.0;
        proves = proof.0;
        wide = wide_verdict check.mode r.networks r.report.facts answer j c.0 c.1;
      }
