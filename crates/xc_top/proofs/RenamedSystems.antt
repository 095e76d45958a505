-- Facts and networks with other numbers for their concepts have the same system, and a certificate one answer over it.
use Rattle.std.proofs.Common.{◌≡◌, ◌++◌, ◌∙◌, ℕ, codes, decimal, List, [], ◌∷◌, map, length, Option, Some, None, option_map, slice_get, inl, inr, refl, sym, ap, subst}
use Rattle.std.proofs.Math.ListN.{length-map}
use Rattle.std.proofs.lemmas.Option.{slice_get-map}
use Rattle.std.specs.Option.{option_map_or}
use Rattle.xc_bind.specs.Bindings.{bindings_of}
use Rattle.xc_bind.specs.Laws.{HasOneSystem}
use Rattle.xc_bind.specs.Systems.{IsBoundOf, IsSystemOf}
use Rattle.xc_bind.specs.declared.types.Binding.{Binding}
use Rattle.xc_calc.specs.declared.arc.Network.{Network}
use Rattle.xc_cert.specs.Laws.{OneCertificate, OneFault, TextOrFault}
use Rattle.xc_cert.specs.declared.fault.CertFault.TheVariants.{NotCertificate}
use Rattle.xc_interval.specs.declared.mode.Mode.{Mode}
use Rattle.xc_lines.specs.Judgements.{fact_id, judgement_line}
use Rattle.xc_lines.specs.Lines.{printed_text}
use Rattle.xc_points.specs.Gathered.{AreEnds}
use Rattle.xc_points.specs.Kept.{Gathered, HasFact}
use Rattle.xc_points.specs.Laws.{HasOneEnds, HasOneRange}
use Rattle.xc_points.specs.declared.types.Point.{Point}
use Rattle.xc_report.specs.Renamed.{renamed_fact}
use Rattle.xc_report.specs.declared.reports.Fact.{Fact}
use Rattle.xc_system.specs.Systems.{Constraints}
use Rattle.xc_system.specs.declared.types.Bound.{Bound}
use Rattle.xc_system.specs.declared.types.Certificate.{Certificate}
use Rattle.xc_top.proofs.RenamedBindings.{bindings_renamed}
use Rattle.xc_top.proofs.RenamedPoints.{points_renamed}
use Rattle.xc_top.proofs.Renaming.{IsInjective, renamed_network, renamed_point}
use Rattle.xc_top.specs.Answers.{certificate_refusal, make_answer}
use Rattle.xc_top.specs.Certified.{IsJudgementIn, IsSystemIn, judged_status}
use Rattle.xc_top.specs.Steps.Chain.{IsCertified}
use Rattle.xc_top.specs.declared.status.Answer.{Answer}
use Rattle.xc_verify.specs.Judgements.{IsJudgement}
use Rattle.xc_verify.specs.Laws.{HasOneJudgement}
use Rattle.xc_verify.specs.declared.types.Judgement.{Judgement}
use Rattle.xc_verify.specs.declared.types.Judgement.TheVariants.{Accepted, Misses, WideFact, TooWide}

-- ---- systems

module _ (f : ℕ → ℕ) where
  -- intervals do not depend on concepts
  ends_back : (mode : Mode) (facts : List Fact) (ends : List _) → AreEnds mode (map (renamed_fact f) facts) ends → AreEnds mode facts ends
  ends_back mode [] [] h = h
  ends_back mode [] (e ∷ es) h = h
  ends_back mode (fact ∷ facts) [] h = h
  ends_back mode (fact ∷ facts) (e ∷ es) h = (h.0, ends_back mode facts es h.1)

  module _ (gathered other : Gathered) (points : other.points ≡ map (renamed_point f) gathered.points) (ends : other.ends ≡ gathered.ends) where
    -- the point of a bound is the renamed one
    point_back : (k n : ℕ) (renamed : Point) → slice_get other.points k ≡ Some renamed → HasFact renamed n → (point : Point) × (slice_get gathered.points k ≡ Some point) × HasFact point n
    point_back k n renamed there has = by (slice_get gathered.points k) refl
      where
        is : option_map (renamed_point f) (slice_get gathered.points k) ≡ Some renamed
        is = sym (slice_get-map (renamed_point f) gathered.points k) ∙ ap (λ ps. slice_get ps k) (sym points) ∙ there

        by : (o : Option Point) → slice_get gathered.points k ≡ o → (point : Point) × (slice_get gathered.points k ≡ Some point) × HasFact point n
        by None e = absurd (none (sym (ap (option_map (renamed_point f)) e) ∙ is))
          where
            none : None ≡ Some renamed → ⊥
            none h = cc
        by (Some point) e = (point, e, subst (λ (p : Point). HasFact p n) (sym (same (sym (ap (option_map (renamed_point f)) e) ∙ is))) has)
          where
            same : Some (renamed_point f point) ≡ Some renamed → renamed_point f point ≡ renamed
            same h = cc

    bound_back : (n : ℕ) (bound : Bound) → IsBoundOf other n bound → IsBoundOf gathered n bound
    bound_back n bound h =
        let point = point_back bound.point n h.point h.there h.has in
        record { range = subst (λ es. slice_get es n ≡ Some bound.range) ends h.range; point = point.0; there = point.1; has = point.2 }

    system_back : (bindings : List Binding) (s : Constraints) → IsSystemOf other bindings s → IsSystemOf gathered bindings s
    system_back bindings s h = record {
      points = h.points ∙ ap length points ∙ length-map gathered.points (renamed_point f);
      facts = h.facts ∙ ap length ends;
      bounds = λ n bound at. bound_back n bound (h.bounds n bound at);
      equations = h.equations;
    }

  module _ (range : HasOneRange) (ends : HasOneEnds) (system : HasOneSystem) (injective : IsInjective f) where
    -- the systems of renamed networks and facts are the same
    pub one_system_in : (mode : Mode) (networks : List Network) (facts : List Fact) (s t : Constraints)
        → IsSystemIn mode networks facts s → IsSystemIn mode (map (renamed_network f) networks) (map (renamed_fact f) facts) t → s ≡ t
    one_system_in mode networks facts s t h k =
        let points : k.points.points ≡ map (renamed_point f) h.points.points = points_renamed range f injective mode facts h.points k.points h.points_are k.points_are in
        let same_ends : k.points.ends ≡ h.points.ends = ends mode facts k.points.ends h.points.ends (ends_back mode facts k.points.ends k.points_are.ends) h.points_are.ends in
        let bindings = ap (λ ps. bindings_of (map (renamed_network f) networks) ps) points ∙ bindings_renamed f injective networks h.points.points in
        let other : IsSystemOf k.points (bindings_of networks h.points.points) t = subst (λ bs. IsSystemOf k.points bs t) bindings k.system_is in
        system mode facts h.points (bindings_of networks h.points.points) s t h.points_are h.system_is
        (system_back h.points k.points points same_ends (bindings_of networks h.points.points) t other)

-- ---- lines

module _ (f : ℕ → ℕ) (facts : List Fact) where
  pub fact_id_renamed : (n : ℕ) → fact_id (map (renamed_fact f) facts) n ≡ fact_id facts n
  fact_id_renamed n = ap (λ o. option_map_or (λ (fact : Fact). fact.id) o []) (slice_get-map (renamed_fact f) facts n) ∙ by (slice_get facts n)
    where
      by : (o : Option Fact) → option_map_or (λ fact. fact.id) (option_map (renamed_fact f) o) [] ≡ option_map_or (λ fact. fact.id) o []
      by None = refl
      by (Some fact) = refl

  judgement_renamed : (certificate : Certificate) (judgement : Judgement) → judgement_line (map (renamed_fact f) facts) certificate judgement ≡ judgement_line facts certificate judgement
  judgement_renamed certificate Accepted = refl
  judgement_renamed certificate (Misses what) = refl
  judgement_renamed certificate (WideFact k) = ap (λ id. codes "too-wide fact " ++ decimal k ++ codes " " ++ printed_text id ++ codes "\n") (fact_id_renamed k)
  judgement_renamed certificate (TooWide what wide) = refl

-- ---- answers

-- the laws by which a certificate has one answer
pub record Certifies : Type 0 where
  pub range : HasOneRange
  pub ends : HasOneEnds
  pub system : HasOneSystem
  pub certificate : OneCertificate
  pub either : TextOrFault
  pub fault : OneFault
  pub judgement : HasOneJudgement

same_some : (a b : Answer) (o : Option Answer) → o ≡ Some a → o ≡ Some b → a ≡ b
same_some a b o e f = let same : Some a ≡ Some b = sym e ∙ f in cc

module _ (laws : Certifies) (f : ℕ → ℕ) (injective : IsInjective f) (mode : Mode) (word bytes : List ℕ) (networks : List Network) (facts : List Fact) where
  same_judged : (one other : Answer) → IsJudgementIn mode bytes networks facts one → IsJudgementIn mode bytes (map (renamed_network f) networks) (map (renamed_fact f) facts) other → one ≡ other
  same_judged one other h k =
      let certificate : k.certificate ≡ h.certificate = laws.certificate bytes k.certificate h.certificate k.text h.text in
      let system : k.system ≡ h.system = sym (one_system_in f laws.range laws.ends laws.system injective mode networks facts h.system k.system h.system_is k.system_is) in
      let there : IsJudgement h.system h.certificate k.judged.judgement = subst (λ s. IsJudgement s h.certificate k.judged.judgement) system (subst (λ c. IsJudgement k.system c k.judged.judgement) certificate k.judged.judgement_is) in
      let judgement : k.judged.judgement ≡ h.judged.judgement = laws.judgement h.system h.certificate k.judged.judgement h.judged.judgement there h.judged.judgement_is in
      let line : judgement_line (map (renamed_fact f) facts) k.certificate k.judged.judgement ≡ judgement_line facts h.certificate h.judged.judgement =
      (λ i. judgement_line (map (renamed_fact f) facts) (certificate i) (judgement i)) ∙ judgement_renamed f facts h.certificate h.judged.judgement in
      h.judged.is ∙ sym (k.judged.is ∙ (λ i. make_answer (judged_status (judgement i)) (line i)))

  -- a certificate has one answer, whatever the numbers of names
  pub same_certified : (one other : Answer) → IsCertified mode word bytes networks facts one → IsCertified mode word bytes (map (renamed_network f) networks) (map (renamed_fact f) facts) other → one ≡ other
  same_certified one other (inl h) (inl k) =
      let n : h.0 ≡ k.0 = laws.fault bytes h.0 k.0 h.1 k.1 in
      same_some one other (certificate_refusal word (NotCertificate h.0)) h.2 (ap (λ n. certificate_refusal word (NotCertificate n)) n ∙ k.2)
  same_certified one other (inl h) (inr k) = absurd (laws.either bytes k.certificate h.0 k.text h.1)
  same_certified one other (inr h) (inl k) = absurd (laws.either bytes h.certificate k.0 h.text k.1)
  same_certified one other (inr h) (inr k) = same_judged one other h k
