-- What an accepted certificate proves of the files that are held.
use Rattle.std.proofs.Common.{◌≡◌, ◌∙◌, ℕ, List, Option, Some, None, inl, inr, refl, sym, ap, subst}
use Rattle.xc_calc.specs.declared.arc.Network.{Network}
use Rattle.xc_cert.specs.Certificates.{IsCertificate}
use Rattle.xc_interval.specs.declared.mode.Mode.{Mode}
use Rattle.xc_io.specs.Shelf.{Files}
use Rattle.xc_report.specs.declared.reports.Fact.{Fact}
use Rattle.xc_system.specs.declared.types.Certificate.{Certificate}
use Rattle.xc_system.specs.declared.types.Certificate.TheVariants.{Feasible, Infeasible}
use Rattle.xc_top.proofs.Reading.{reached}
use Rattle.xc_top.proofs.Unjudged.{IsUnjudged, given_has, unfetched_unjudged}
use Rattle.xc_top.specs.Answer.{IsCommandAnswer, IsHeldAnswer}
use Rattle.xc_top.specs.Certified.{IsJudgementIn, judged_status}
use Rattle.xc_top.specs.Documents.{unfetched}
use Rattle.xc_top.specs.Proven.{IsProven}
use Rattle.xc_top.specs.Words.{CommandWords, VerifyWords, VerifyOf, file_words}
use Rattle.xc_top.specs.declared.status.Answer.{Answer}
use Rattle.xc_top.specs.declared.status.Status.TheVariants.{Sound, ReadFault, WriteFault}
use Rattle.xc_verify.specs.Judgements.{IsJudgement, Proves}
use Rattle.xc_verify.specs.Laws.{AcceptanceProves, IsKept}
use Rattle.xc_verify.specs.declared.types.Judgement.{Judgement}
use Rattle.xc_verify.specs.declared.types.Judgement.TheVariants.{Accepted, Misses, WideFact, TooWide}

accepted : (judgement : Judgement) → judged_status judgement ≡ Sound → judgement ≡ Accepted
accepted Accepted e = refl
accepted (Misses what) e = absurd (cc)
accepted (WideFact fact) e = absurd (cc)
accepted (TooWide what wide) e = absurd (cc)

pub kept : (c : Certificate) → IsCertificate c → IsKept c
kept (Feasible values) h = tt
kept (Infeasible r) h = h.0

-- a judgement that is sound is an acceptance, which proves the claim
judged_proves : AcceptanceProves → (mode : Mode) (bytes : List ℕ) (networks : List Network) (facts : List Fact) (a : Answer) → a.status ≡ Sound → (h : IsJudgementIn mode bytes networks facts a) → Proves h.system h.certificate
judged_proves proves mode bytes networks facts a sound h =
    let status : judged_status h.judged.judgement ≡ Sound = sym (ap (λ x. x.status) h.judged.is) ∙ sound in
    let judgement : IsJudgement h.system h.certificate Accepted = subst (λ j. IsJudgement h.system h.certificate j) (accepted h.judged.judgement status) h.judged.judgement_is in
    proves h.system h.certificate h.judged.kept (kept h.certificate h.text.sound) judgement

over_files : AcceptanceProves → (verify : VerifyWords) (files : Files) (a : Answer) → a.status ≡ Sound → IsHeldAnswer (VerifyOf verify) files a → IsProven verify files
over_files proves verify files a sound h =
    let r = reached files a (VerifyOf verify) (inl sound) h in
    let j = r.made.judged in
    record {
      networks = r.networks;
      report = r.report;
      content = r.content;
      system = j.system;
      system_is = j.system_is;
      bytes = r.made.bytes;
      held = r.made.held;
      certificate = j.certificate;
      text = j.text;
      proves = judged_proves proves verify.over.mode r.made.bytes r.networks r.report.facts a sound j;
    }

-- a run of `verify` that is sound has accepted, and so proved
pub accepted_proven : AcceptanceProves → (verify : VerifyWords) (files : Files) (a : Answer) → a.status ≡ Sound → IsCommandAnswer (VerifyOf verify) files a → IsProven verify files
accepted_proven proves verify files a sound (inl first) = absurd (given_has IsUnjudged (unfetched files) (unfetched_unjudged files) (file_words (VerifyOf verify)) a first (inl sound))
accepted_proven proves verify files a sound (inr h) = over_files proves verify files a sound h.answered

-- the same of words that were read
pub run_proven : AcceptanceProves → (words : Option CommandWords) (command : CommandWords) (verify : VerifyWords) (files : Files) (a : Answer) → Some command ≡ words → words ≡ Some (VerifyOf verify) → a.status ≡ Sound → IsCommandAnswer command files a → IsProven verify files
run_proven proves words command verify files a read is sound h = accepted_proven proves verify files a sound (subst (λ c. IsCommandAnswer c files a) (same (read ∙ is)) h)
  where
    same : Some command ≡ Some (VerifyOf verify) → command ≡ VerifyOf verify
    same e = cc

pub none_proven : (words : Option CommandWords) (verify : VerifyWords) (files : Files) → None ≡ words → words ≡ Some (VerifyOf verify) → IsProven verify files
none_proven words verify files none is = absurd (wrong (none ∙ is))
  where
    wrong : None ≡ Some (VerifyOf verify) → ⊥
    wrong e = cc

-- soundness is no fault
pub sound_written : Sound ≡ WriteFault → ⊥
sound_written e = cc

pub sound_unread : Sound ≡ ReadFault → ⊥
sound_unread e = cc
