-- Facts, networks and points with other numbers for their concepts have the same lines, and facts one answer.
use Rattle.std.proofs.Common.{inl, inr, append_assoc, ◌≡◌, ◌++◌, ◌||◌, ℕ, codes, List, [], map, length, filter, Bool, true, false, cond, Option, Some, None, MatchBool, option_map, option_and_then, slice_get, flat_map, zip, if◌then◌else◌, refl, sym, ap, ap₂, subst, ◌∙◌}
use Rattle.std.proofs.Math.ListN.{length-map}
use Rattle.std.proofs.lemmas.List.Folds.{flat_map-map}
use Rattle.std.proofs.lemmas.Option.{slice_get-map}
use Rattle.std.specs.List.{enumerate_from, list_any}
use Rattle.std.specs.Option.{option_map_or}
use Rattle.xc_bind.specs.Bindings.{bindings_of}
use Rattle.xc_bind.specs.declared.types.Binding.{Binding}
use Rattle.xc_bind.specs.declared.types.Verdict.{Verdict}
use Rattle.xc_calc.specs.declared.arc.Network.{Network}
use Rattle.xc_interval.specs.declared.mode.Mode.{Mode}
use Rattle.xc_calc.specs.Networks.{role_of}
use Rattle.xc_cert.specs.Certificates.{certificate_text}
use Rattle.xc_interval.specs.Ranges.{is_empty_range}
use Rattle.xc_joint.specs.Answers.{IsAnswer as IsJointAnswer}
use Rattle.xc_joint.specs.Kinds.{Kind, HasOneKind, kind_of}
use Rattle.xc_joint.specs.declared.types.Joint.{Joint}
use Rattle.xc_joint.specs.declared.types.Joint.TheVariants.{Settled, TooWide as Caused}
use Rattle.xc_lines.specs.Joints.{joint_lines, part_lines}
use Rattle.xc_lines.specs.Summary.{kind_line, summary}
use Rattle.xc_lines.specs.Settled.{because_lines}
use Rattle.xc_lines.specs.Findings.{first_id, first_id_at, counts_line, binding_line, empty_point_line, line_of, binding_lines, empty_point_lines, findings}
use Rattle.xc_points.specs.Gathered.{ArePoints}
use Rattle.xc_points.specs.Kept.{Gathered}
use Rattle.xc_points.specs.declared.types.Point.{Point}
use Rattle.xc_report.specs.declared.reports.Fact.{Fact}
use Rattle.xc_system.specs.declared.types.Certificate.TheVariants.{Feasible, Infeasible}
use Rattle.xc_lists.proofs.ListsOfImages.{any_changed, filter-map, behind_number, enumerate_from-map}
use Rattle.xc_top.proofs.RenamedBindings.{bindings_renamed}
use Rattle.xc_top.proofs.RenamedPoints.{points_renamed}
use Rattle.xc_top.proofs.RenamedSystems.{Certifies, fact_id_renamed, one_system_in, same_certified}
use Rattle.xc_top.proofs.RenamedVerdicts.{one_verdicts}
use Rattle.xc_report.specs.Renamed.{renamed_fact}
use Rattle.xc_top.proofs.Renaming.{IsInjective, renamed_network, renamed_point}
use Rattle.xc_top.specs.Answers.{make_answer, refused}
use Rattle.xc_top.specs.Findings.{has_finding, is_inconsistent, is_too_wide, is_empty_point, is_contradicted, is_caused, status_of, joint_status, AreVerdicts, IsFindings, IsJudgedJointly, IsJointFindings, IsSummary, findings_of}
use Rattle.xc_top.specs.Contents.{are_too_many}
use Rattle.xc_top.specs.Steps.Chain.{Asked, Sought, FindingsAlone, FindingsAndJoint, JudgementOf, SummaryOf, IsJoint, IsSought, IsCounted}
use Rattle.xc_top.specs.Run.{IsJudged}
use Rattle.xc_top.specs.Laws.{AreOfOneKind, AreOneIf}
use Rattle.xc_top.specs.declared.status.Answer.{Answer}
use Rattle.xc_top.specs.declared.status.Status.TheVariants.{Sound, Findings, TooWide}
use Rattle.xc_verdict.specs.Laws.{HasOneVerdict}

abbrev is_empty_numbered : ℕ × Point → Bool
is_empty_numbered numbered = is_empty_range numbered.1.range

abbrev empty_line : List Fact → ℕ × Point → List ℕ
empty_line facts numbered = empty_point_line numbered.0 (first_id facts numbered.1)

module _ (f : ℕ → ℕ) where
  role_renamed : (networks : List Network) (n : ℕ) → role_of (map (renamed_network f) networks) n ≡ role_of networks n
  role_renamed networks n = ap (λ o. option_map_or (λ (network : Network). network.role) o []) (slice_get-map (renamed_network f) networks n) ∙ by (slice_get networks n)
    where
      by : (o : Option Network) → option_map_or (λ network. network.role) (option_map (renamed_network f) o) [] ≡ option_map_or (λ network. network.role) o []
      by None = refl
      by (Some network) = refl

  module _ (facts : List Fact) where
    first_id_renamed : (point : Point) → first_id (map (renamed_fact f) facts) (renamed_point f point) ≡ first_id facts point
    first_id_renamed point = by (slice_get point.facts 0)
      where
        by : (o : Option ℕ) → option_map_or (λ (fact : Fact). fact.id) (option_and_then (λ n. slice_get (map (renamed_fact f) facts) n) o) [] ≡ option_map_or (λ (fact : Fact). fact.id) (option_and_then (λ n. slice_get facts n) o) []
        by None = refl
        by (Some n) = fact_id_renamed f facts n

    first_id_at_renamed : (points : List Point) (k : ℕ) → first_id_at (map (renamed_fact f) facts) (map (renamed_point f) points) k ≡ first_id_at facts points k
    first_id_at_renamed points k = ap (λ o. option_map_or (λ point. first_id (map (renamed_fact f) facts) point) o []) (slice_get-map (renamed_point f) points k) ∙ by (slice_get points k)
      where
        by : (o : Option Point) → option_map_or (λ point. first_id (map (renamed_fact f) facts) point) (option_map (renamed_point f) o) [] ≡ option_map_or (λ point. first_id facts point) o []
        by None = refl
        by (Some point) = first_id_renamed point

    -- the lines of bindings
    module _ (mode : Mode) (networks : List Network) (points : List Point) where
      line_renamed : (number : ℕ) (judged : Binding × Verdict)
          → line_of mode (map (renamed_fact f) facts) (map (renamed_network f) networks) (map (renamed_point f) points) number judged ≡ line_of mode facts networks points number judged
      line_renamed number judged = ap₂ (λ role id. binding_line mode number role id judged.1) (role_renamed networks judged.0.network) (first_id_at_renamed points judged.0.total)

      binding_lines_renamed : (judged : List (ℕ × (Binding × Verdict)))
          → binding_lines mode (map (renamed_fact f) facts) (map (renamed_network f) networks) (map (renamed_point f) points) judged ≡ binding_lines mode facts networks points judged
      binding_lines_renamed judged = λ i. flat_map (λ numbered. line_renamed numbered.0 numbered.1 i) judged

    -- the lines of empty points
    empty_lines_renamed : (numbered : List (ℕ × Point)) → empty_point_lines (map (renamed_fact f) facts) (map (behind_number (renamed_point f)) numbered) ≡ empty_point_lines facts numbered
    empty_lines_renamed numbered =
        ap (λ xs. flat_map (empty_line (map (renamed_fact f) facts)) xs) (filter-map (behind_number (renamed_point f)) is_empty_numbered numbered)
        ∙ flat_map-map (empty_line (map (renamed_fact f) facts)) (behind_number (renamed_point f)) (filter is_empty_numbered numbered)
        ∙ (λ i. flat_map (λ one. empty_point_line one.0 (first_id_renamed one.1 i)) (filter is_empty_numbered numbered))

  -- the findings do not depend on the numbers of concepts
  pub findings_renamed : (mode : Mode) (facts : List Fact) (networks : List Network) (points : List Point) (bindings : List Binding) (verdicts : List Verdict)
      → findings mode (map (renamed_fact f) facts) (map (renamed_network f) networks) (map (renamed_point f) points) bindings verdicts ≡ findings mode facts networks points bindings verdicts
  findings_renamed mode facts networks points bindings verdicts =
      let count : length (map (renamed_point f) points) ≡ length points = length-map points (renamed_point f) in
      let lines = binding_lines_renamed facts mode networks points (enumerate_from 0 (zip bindings verdicts)) in
      let empty : empty_point_lines (map (renamed_fact f) facts) (enumerate_from 0 (map (renamed_point f) points)) ≡ empty_point_lines facts (enumerate_from 0 points) =
      ap (λ numbered. empty_point_lines (map (renamed_fact f) facts) numbered) (enumerate_from-map (renamed_point f) 0 points) ∙ empty_lines_renamed facts (enumerate_from 0 points) in
      λ i. counts_line (length bindings) (count i) ++ lines i ++ empty i

  -- nor does the status
  pub status_renamed : (points : List Point) (verdicts : List Verdict) → status_of (map (renamed_point f) points) verdicts ≡ status_of points verdicts
  status_renamed points verdicts =
      ap (λ (empty : Bool). if list_any is_inconsistent verdicts || empty then Findings else if list_any is_too_wide verdicts then TooWide else Sound)
      (any_changed (renamed_point f) is_empty_point is_empty_point (λ point. refl) points)

  -- nor does it with the joint part
  joint_status_renamed : (points : List Point) (verdicts : List Verdict) (kind : Kind) → joint_status (map (renamed_point f) points) verdicts kind ≡ joint_status points verdicts kind
  joint_status_renamed points verdicts kind =
      ap (λ (empty : Bool). if (list_any is_inconsistent verdicts || empty) || is_contradicted kind then Findings else if list_any is_too_wide verdicts || is_caused kind then TooWide else Sound)
      (any_changed (renamed_point f) is_empty_point is_empty_point (λ point. refl) points)

-- ---- joint parts

-- a joint part begins with the line of its kind
begins : (facts : List Fact) (joint : Joint) → (rest : List ℕ) × (joint_lines facts joint ≡ kind_line (kind_of joint) ++ rest)
begins facts (Settled (Feasible values)) = (certificate_text (Feasible values), refl)
begins facts (Settled (Infeasible r)) =
    (because_lines r (enumerate_from 0 facts) ++ certificate_text (Infeasible r), append_assoc (codes "joint infeasible\n") (because_lines r (enumerate_from 0 facts)) (certificate_text (Infeasible r)))
begins facts (Caused parts) = (part_lines facts (enumerate_from 0 parts), refl)

-- ---- one answer

-- the laws by which facts have one answer
pub record Judges : Type 0 where
  pub verdict : HasOneVerdict
  pub kind : HasOneKind
  pub certifies : Certifies

-- what is found of renamed facts is what is found of the facts
record AreFound (mode : Mode) (f : ℕ → ℕ) (networks : List Network) (facts : List Fact) (points others : List Point) (verdicts other_verdicts : List Verdict) : Type 0 where
  pub points_are : others ≡ map (renamed_point f) points
  pub bindings_are : bindings_of (map (renamed_network f) networks) others ≡ bindings_of networks points
  pub verdicts_are : verdicts ≡ other_verdicts
  pub lines : findings_of mode (map (renamed_network f) networks) (map (renamed_fact f) facts) others other_verdicts ≡ findings_of mode networks facts points verdicts

module _ (laws : Judges) (f : ℕ → ℕ) (injective : IsInjective f) (mode : Mode) (networks : List Network) (facts : List Fact) where
  are_found : (gathered other : Gathered) (verdicts other_verdicts : List Verdict) → ArePoints mode facts gathered → ArePoints mode (map (renamed_fact f) facts) other
      → AreVerdicts mode facts gathered.points (bindings_of networks gathered.points) verdicts
      → AreVerdicts mode (map (renamed_fact f) facts) other.points (bindings_of (map (renamed_network f) networks) other.points) other_verdicts
      → AreFound mode f networks facts gathered.points other.points verdicts other_verdicts
  are_found gathered other verdicts other_verdicts points_are other_points_are h k =
      let points = points_renamed laws.certifies.range f injective mode facts gathered other points_are other_points_are in
      let bindings = ap (λ ps. bindings_of (map (renamed_network f) networks) ps) points ∙ bindings_renamed f injective networks gathered.points in
      let verdicts_are : AreVerdicts mode (map (renamed_fact f) facts) (map (renamed_point f) gathered.points) (bindings_of networks gathered.points) other_verdicts =
      subst (λ bs. AreVerdicts mode (map (renamed_fact f) facts) (map (renamed_point f) gathered.points) bs other_verdicts) bindings
      (subst (λ ps. AreVerdicts mode (map (renamed_fact f) facts) ps (bindings_of (map (renamed_network f) networks) other.points) other_verdicts) points k) in
      let same = one_verdicts laws.verdict f mode facts gathered.points (bindings_of networks gathered.points) verdicts other_verdicts h verdicts_are in
      record {
        points_are = points;
        bindings_are = bindings;
        verdicts_are = same;
        lines = (λ i. findings mode (map (renamed_fact f) facts) (map (renamed_network f) networks) (points i) (bindings i) (sym same i))
            ∙ findings_renamed f mode facts networks gathered.points (bindings_of networks gathered.points) verdicts;
      }

  same_findings : (one other : Answer) → IsFindings mode networks facts one → IsFindings mode (map (renamed_network f) networks) (map (renamed_fact f) facts) other → one ≡ other
  same_findings one other h k =
      let found = are_found h.points k.points h.verdicts k.verdicts h.points_are k.points_are h.verdicts_are k.verdicts_are in
      let status : status_of k.points.points k.verdicts ≡ status_of h.points.points h.verdicts =
      (λ i. status_of (found.points_are i) (sym found.verdicts_are i)) ∙ status_renamed f h.points.points h.verdicts in
      h.is ∙ sym (k.is ∙ ap₂ (λ status lines. make_answer status lines) status found.lines)

  -- what is said of the system is of one kind, and so is the status
  module _ (lines : List Point → List Verdict → Joint → List ℕ) (other_lines : List Point → List Verdict → Joint → List ℕ) (one other : Answer)
      (h : IsJudgedJointly lines mode networks facts one) (k : IsJudgedJointly other_lines mode (map (renamed_network f) networks) (map (renamed_fact f) facts) other) where
    found_of : AreFound mode f networks facts h.points.points k.points.points h.verdicts k.verdicts
    found_of = are_found h.points k.points h.verdicts k.verdicts h.points_are k.points_are h.verdicts_are k.verdicts_are

    same_kind : kind_of h.joint ≡ kind_of k.joint
    same_kind =
        let system : h.system ≡ k.system = one_system_in f laws.certifies.range laws.certifies.ends laws.certifies.system injective mode networks facts h.system k.system
        (record { points = h.points; points_are = h.points_are; system_is = h.system_is }) (record { points = k.points; points_are = k.points_are; system_is = k.system_is }) in
        laws.kind h.system h.joint k.joint h.kept h.joint_is (subst (λ s. IsJointAnswer s k.joint) (sym system) k.joint_is)

    same_status : joint_status k.points.points k.verdicts (kind_of k.joint) ≡ joint_status h.points.points h.verdicts (kind_of h.joint)
    same_status = (λ i. joint_status (found_of.points_are i) (sym found_of.verdicts_are i) (sym same_kind i)) ∙ joint_status_renamed f h.points.points h.verdicts (kind_of h.joint)

  -- the findings are the same, and the joint parts are of one kind
  same_joint : (one other : Answer) → IsJointFindings mode networks facts one → IsJointFindings mode (map (renamed_network f) networks) (map (renamed_fact f) facts) other → AreOfOneKind one other
  same_joint one other h k =
      let found = are_found h.points k.points h.verdicts k.verdicts h.points_are k.points_are h.verdicts_are k.verdicts_are in
      let kind : kind_of h.joint ≡ kind_of k.joint = same_kind _ _ one other h k in
      let first = begins facts h.joint in
      let second = begins (map (renamed_fact f) facts) k.joint in
      record {
        status = ap (λ a. a.status) h.is ∙ sym (ap (λ a. a.status) k.is ∙ same_status _ _ one other h k);
        findings = findings_of mode networks facts h.points.points h.verdicts;
        kind = kind_of h.joint;
        rest = first.0;
        other_rest = second.0;
        one_is = ap (λ a. a.text) h.is ∙ ap (λ lines. findings_of mode networks facts h.points.points h.verdicts ++ lines) first.1;
        other_is = ap (λ a. a.text) k.is ∙ ap₂ (λ found lines. found ++ lines) found.lines (second.1 ∙ ap (λ kind. kind_line kind ++ second.0) (sym kind));
      }

  -- the summary is the same
  same_summary : (n root : ℕ) (one other : Answer) → IsSummary n root mode networks facts one → IsSummary n root mode (map (renamed_network f) networks) (map (renamed_fact f) facts) other → one ≡ other
  same_summary n root one other h k =
      let found = are_found h.points k.points h.verdicts k.verdicts h.points_are k.points_are h.verdicts_are k.verdicts_are in
      let points : length k.points.points ≡ length h.points.points = ap length found.points_are ∙ length-map h.points.points (renamed_point f) in
      let kind : kind_of h.joint ≡ kind_of k.joint = same_kind _ _ one other h k in
      h.is ∙ sym (k.is ∙ (λ i. make_answer (same_status _ _ one other h k i) (summary n (length (found.bindings_are i)) (points i) (sym found.verdicts_are i) root (sym kind i))))

  -- where the joint part is asked the bindings are judged
  judged_joint : (one : Answer) → IsJointFindings mode networks facts one → IsJudged one.status
  judged_joint one h =
      subst (λ a. IsJudged a.status) (sym h.is)
      (by (has_finding h.points.points h.verdicts || is_contradicted (kind_of h.joint)) (list_any is_too_wide h.verdicts || is_caused (kind_of h.joint)))
    where
      by : (found wide : Bool) → IsJudged (cond found Findings (cond wide TooWide Sound))
      by true wide = inr (inl refl)
      by false true = inr (inr refl)
      by false false = inl refl

  same_sought : (sought : Sought) (one other : Answer) → IsSought mode sought networks facts one → IsSought mode sought (map (renamed_network f) networks) (map (renamed_fact f) facts) other → AreOneIf (IsJoint sought × IsJudged one.status) one other
  same_sought FindingsAlone one other h k = inl (same_findings one other h k)
  same_sought FindingsAndJoint one other h k = inr ((tt, judged_joint one h), same_joint one other h k)
  same_sought (JudgementOf word bytes) one other h k = inl (same_certified laws.certifies f injective mode word bytes networks facts one other h k)
  same_sought (SummaryOf n root) one other h k = inl (same_summary n root one other h k)

-- facts have one answer, whatever the numbers of names
pub one_counted : Judges → (f : ℕ → ℕ) → IsInjective f → (asked : Asked) (networks : List Network) (facts : List Fact) (one other : Answer)
    → IsCounted asked networks facts one → IsCounted asked (map (renamed_network f) networks) (map (renamed_fact f) facts) other → AreOneIf (IsJoint asked.sought × IsJudged one.status) one other
one_counted laws f injective asked networks facts one other h k =
    by (are_too_many (length facts) (length networks)) h
    (subst (λ many. MatchBool many (other ≡ refused asked.word (codes "xc:tooMany")) (IsSought asked.mode asked.sought (map (renamed_network f) networks) (map (renamed_fact f) facts) other)) many k)
  where
    many : are_too_many (length (map (renamed_fact f) facts)) (length (map (renamed_network f) networks)) ≡ are_too_many (length facts) (length networks)
    many = ap₂ (λ m n. are_too_many m n) (length-map facts (renamed_fact f)) (length-map networks (renamed_network f))

    by : (b : Bool) → MatchBool b (one ≡ refused asked.word (codes "xc:tooMany")) (IsSought asked.mode asked.sought networks facts one)
        → MatchBool b (other ≡ refused asked.word (codes "xc:tooMany")) (IsSought asked.mode asked.sought (map (renamed_network f) networks) (map (renamed_fact f) facts) other) → AreOneIf (IsJoint asked.sought × IsJudged one.status) one other
    by true h k = inl (h ∙ sym k)
    by false h k = same_sought laws f injective asked.mode networks facts asked.sought one other h k
