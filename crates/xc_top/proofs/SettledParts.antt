-- Findings with a joint part that makes a claim hold a certificate of it, which can be written and read back.
use Rattle.std.proofs.Common.{◌≡◌, ℕ, zero, suc, ◌^◌, ◌<◌, Bool, true, false, cond, List, [], ◌∷◌, ◌++◌, length, get_or, inl, inr, refl, sym, ap, subst, ◌∙◌, arith, append_assoc}
use Rattle.std.specs.Prelude.{◌||◌, All, IsSomeAnd, IsTrue, codes}
use Rattle.std.specs.List.{enumerate_from, list_any}
use Rattle.std.proofs.lemmas.List.Elements.{All-weaker, recursion_from_All}
use Rattle.std.proofs.lemmas.Slice.Zip.{AllZip-long}
use Rattle.xc_bind.specs.Bindings.{bindings_of}
use Rattle.xc_bind.specs.Systems.{IsEquationOf}
use Rattle.xc_calc.specs.declared.arc.Network.{Network}
use Rattle.xc_cert.specs.Certificates.{AreNumbers, IsCertificate, IsTextOf, certificate_text}
use Rattle.xc_interval.specs.declared.mode.Mode.{Mode}
use Rattle.xc_joint.specs.Answers.{IsAnswer}
use Rattle.xc_joint.specs.Kinds.{kind_of}
use Rattle.xc_joint.specs.declared.types.Joint.{Joint}
use Rattle.xc_joint.specs.declared.types.Joint.TheVariants.{Settled, TooWide as Caused}
use Rattle.xc_lines.specs.JointPart.{BeginsJoint, Claims, IsClaim, IsJointPart}
use Rattle.xc_lines.specs.Joints.{joint_lines}
use Rattle.xc_lines.specs.Judgements.{claim}
use Rattle.xc_lines.specs.Laws.{FindingsArePassed, FindingsArePlain, HasOneJointPart, SettledIsText}
use Rattle.xc_lines.specs.Settled.{because_lines, settled_lines}
use Rattle.xc_model.specs.Ratio.{Ratio}
use Rattle.xc_report.specs.declared.reports.Fact.{Fact}
use Rattle.xc_system.specs.Refutations.{IsKnown}
use Rattle.xc_system.specs.Systems.{Constraints, IsSmall, IsSystem, range_at}
use Rattle.xc_system.specs.declared.types.Bound.{Bound}
use Rattle.xc_system.specs.declared.types.Certificate.{Certificate}
use Rattle.xc_system.specs.declared.types.Certificate.TheVariants.{Feasible, Infeasible}
use Rattle.xc_top.proofs.Few.{ends_length}
use Rattle.xc_top.specs.Certified.{IsSystemIn}
use Rattle.xc_top.specs.Findings.{IsJointFindings, findings_of, has_finding, is_too_wide, joint_status}
use Rattle.xc_top.specs.declared.status.Answer.{Answer}
use Rattle.xc_top.specs.declared.status.Status.TheVariants.{Sound, Findings, TooWide}
use Rattle.xc_verify.specs.Judgements.{IsJudgement, Proves}
use Rattle.xc_verify.specs.Laws.{AcceptanceProves}
use Rattle.xc_verify.specs.declared.types.Judgement.TheVariants.{Accepted}

-- ---- a certificate that proves its claim can be written

-- a fact that is known is one of the system's
known_within : (bounds : List Bound) (k : ℕ) → IsSomeAnd (range_at bounds k) (λ interval. Unit {0}) → k < length bounds
known_within [] k h = absurd h
known_within (b ∷ bs) zero h = omega arith
known_within (b ∷ bs) (suc k) h = let within = known_within bs k h in omega (arith, within)

numbers : (P : ℕ → Type 0) (n : ℕ) → ((k : ℕ) → P k → k < n) → n < 2 ^ 31 → (listed : List (ℕ × Ratio)) → All (λ m. P m.0) listed → AreNumbers listed
numbers P n within small listed all =
    recursion_from_All (λ m. m.0 < 2 ^ 32) listed (All-weaker (λ m. P m.0) (λ m. m.0 < 2 ^ 32) (λ m p. let below = within m.0 p in omega (arith, below, small)) listed all)

writable : (s : Constraints) (c : Certificate) → IsSmall s → Proves s c → IsCertificate c
writable s (Feasible values) small proves = let each = proves.0 in let few = small.points in omega (arith, each, few)
writable s (Infeasible r) small proves = (
  proves.0.kept,
  record {
    bindings = numbers (λ i. i < length s.equations) (length s.equations) (λ k within. within) small.equations r.bindings proves.0.bindings;
    lows = numbers (IsKnown s) (length s.bounds) (known_within s.bounds) small.bounds r.lows proves.0.lows;
    highs = numbers (IsKnown s) (length s.bounds) (known_within s.bounds) small.bounds r.highs proves.0.highs;
  },
)

module _ (acceptance : AcceptanceProves) where
  -- what is settled is proved, and accepted
  pub settled_proves : (s : Constraints) (c : Certificate) → IsSystem s → IsAnswer s (Settled c) → Proves s c × IsJudgement s c Accepted
  settled_proves s (Feasible values) kept h = (h.0, h.1)
  settled_proves s (Infeasible r) kept h = (acceptance s (Infeasible r) kept h.0.contradicts.kept h.1, h.1)

-- ---- the claim of a joint part

-- a certificate that makes the claim was settled on
pub record IsClaimedBy (joint : Joint) (word : List ℕ) : Type 0 where
  pub certificate : Certificate
  pub settled : joint ≡ Settled certificate
  pub claims : claim certificate ≡ word

-- the letter that tells one joint part from another
abbrev letter : List ℕ → ℕ
letter part = get_or part 6 0

module _ (facts : List Fact) (rest : List ℕ) where
  feasible : (joint : Joint) → joint_lines facts joint ≡ codes "joint feasible\n" ++ rest → IsClaimedBy joint (codes "feasible")
  feasible (Settled (Feasible values)) e = record { certificate = Feasible values; settled = refl; claims = refl }
  feasible (Settled (Infeasible r)) e = let wrong : 105 ≡ 102 = ap letter e in absurd (omega (arith, wrong))
  feasible (Caused parts) e = let wrong : 116 ≡ 102 = ap letter e in absurd (omega (arith, wrong))

  infeasible : (joint : Joint) → joint_lines facts joint ≡ codes "joint infeasible\n" ++ rest → IsClaimedBy joint (codes "infeasible")
  infeasible (Settled (Feasible values)) e = let wrong : 102 ≡ 105 = ap letter e in absurd (omega (arith, wrong))
  infeasible (Settled (Infeasible r)) e = record { certificate = Infeasible r; settled = refl; claims = refl }
  infeasible (Caused parts) e = let wrong : 116 ≡ 105 = ap letter e in absurd (omega (arith, wrong))

  certified : (joint : Joint) (word : List ℕ) → IsClaim word → joint_lines facts joint ≡ codes "joint " ++ word ++ codes "\n" ++ rest → IsClaimedBy joint word
  certified joint word (inl is) e = subst (λ w. IsClaimedBy joint w) (sym is) (feasible joint (e ∙ ap (λ w. codes "joint " ++ w ++ codes "\n" ++ rest) is))
  certified joint word (inr is) e = subst (λ w. IsClaimedBy joint w) (sym is) (infeasible joint (e ∙ ap (λ w. codes "joint " ++ w ++ codes "\n" ++ rest) is))

begins_joint : (facts : List Fact) (joint : Joint) → BeginsJoint (joint_lines facts joint)
begins_joint facts (Settled (Feasible values)) = refl
begins_joint facts (Settled (Infeasible r)) = refl
begins_joint facts (Caused parts) = refl

-- what is written of a certificate, behind its claim
said_of : (facts : List Fact) (c : Certificate) → (rest : List ℕ) × (settled_lines facts c ≡ codes "joint " ++ claim c ++ codes "\n" ++ rest)
said_of facts (Feasible values) = (certificate_text (Feasible values), refl)
said_of facts (Infeasible r) =
    (because_lines r (enumerate_from 0 facts) ++ certificate_text (Infeasible r), append_assoc (codes "joint infeasible\n") (because_lines r (enumerate_from 0 facts)) (certificate_text (Infeasible r)))

-- ---- findings with their joint part

-- the laws by which a joint part tells its certificate
pub record Says : Type 0 where
  pub passed : FindingsArePassed
  pub plain : FindingsArePlain
  pub part : HasOneJointPart
  pub text : SettledIsText

-- an answer with a certificate is too wide only where a verdict is
pub wide_verdict : (mode : Mode) (networks : List Network) (facts : List Fact) (answer : Answer) (h : IsJointFindings mode networks facts answer) (c : Certificate) → h.joint ≡ Settled c
    → answer.status ≡ TooWide → IsTrue (list_any is_too_wide h.verdicts)
wide_verdict mode networks facts answer h c settled wide = of_kind c (sym (ap (λ a. a.status) h.is ∙ ap (λ joint. joint_status h.points.points h.verdicts (kind_of joint)) settled) ∙ wide)
  where
    by : (finding wide : Bool) → cond finding Findings (cond (wide || false) TooWide Sound) ≡ TooWide → IsTrue wide
    by true wide e = absurd (cc)
    by false true e = refl
    by false false e = absurd (cc)

    of_kind : (c : Certificate) → joint_status h.points.points h.verdicts (kind_of (Settled c)) ≡ TooWide → IsTrue (list_any is_too_wide h.verdicts)
    of_kind (Feasible values) e = by (has_finding h.points.points h.verdicts || false) (list_any is_too_wide h.verdicts) e
    of_kind (Infeasible r) e = by (has_finding h.points.points h.verdicts || true) (list_any is_too_wide h.verdicts) e

module _ (laws : Says) (mode : Mode) (networks : List Network) (facts : List Fact) (answer : Answer) (h : IsJointFindings mode networks facts answer) where
  few_points : length h.points.points < 2 ^ 64
  few_points = let small = h.small.points in let same = h.system_is.points in omega (arith, small, same)

  few_bindings : length (bindings_of networks h.points.points) < 2 ^ 64
  few_bindings =
      let small = h.small.equations in
      let same = AllZip-long IsEquationOf (bindings_of networks h.points.points) h.system.equations h.system_is.equations in
      omega (arith, small, same)

  few_facts : length facts < 2 ^ 64
  few_facts =
      let small = h.small.bounds in
      let same = h.system_is.facts in
      let ends = ends_length mode facts h.points.ends h.points_are.ends in
      omega (arith, small, same, ends)

  abbrev front : List ℕ
  front = findings_of mode networks facts h.points.points h.verdicts

  written : answer.text ≡ front ++ joint_lines facts h.joint
  written = ap (λ a. a.text) h.is

  -- the joint part is what is said of the system
  joint_part : IsJointPart answer.text (joint_lines facts h.joint)
  joint_part = record {
    before = front;
    plain = laws.plain mode facts networks h.points.points (bindings_of networks h.points.points) h.verdicts few_bindings few_points;
    begins = begins_joint facts h.joint;
    is = written;
  }

  -- where it makes a claim, a certificate of that was settled on
  pub claimed : (word : List ℕ) → IsClaim word → Claims answer.text word → IsClaimedBy h.joint word
  claimed word is_claim c = certified facts c.rest h.joint word is_claim (laws.part answer.text (joint_lines facts h.joint) c.part joint_part c.joint ∙ c.is)

  -- and where a certificate was settled on, it makes its claim, and the text is one of the certificate
  pub claims : (c : Certificate) → h.joint ≡ Settled c → Claims answer.text (claim c)
  claims c settled =
      let said = said_of facts c in
      record { part = joint_lines facts h.joint; joint = joint_part; rest = said.0; is = ap (λ joint. joint_lines facts joint) settled ∙ said.1 }

  pub holds : (c : Certificate) → h.joint ≡ Settled c → Proves h.system c → IsTextOf answer.text c
  holds c settled proves =
      let passed = laws.passed mode facts networks h.points.points (bindings_of networks h.points.points) h.verdicts few_bindings few_points in
      let same : front ++ settled_lines facts c ≡ answer.text = sym (written ∙ ap (λ joint. front ++ joint_lines facts joint) settled) in
      subst (λ text. IsTextOf text c) same (laws.text front facts c passed few_facts (writable h.system c h.small proves))

  pub system_in : IsSystemIn mode networks facts h.system
  system_in = record { points = h.points; points_are = h.points_are; system_is = h.system_is }
