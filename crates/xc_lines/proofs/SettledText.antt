-- What is written where the joint question is settled is a text of its certificate.
use Rattle.std.proofs.Common.{◌≢◌, ℕ, ◌<◌, ◌^◌, List, ◌++◌, refl, subst, arith, append_assoc}
use Rattle.std.specs.Prelude.{codes, decimal}
use Rattle.std.specs.List.{enumerate_from}
use Rattle.xc_lists.proofs.Lacking.{lacks_append, lacks_by}
use Rattle.xc_cert.specs.Certificates.{IsCertificate, IsPassedText, IsTextOf, certificate_text, opening}
use Rattle.xc_cert.specs.Laws.{PassedTextsJoin, WrittenIsText}
use Rattle.xc_lines.specs.Laws.{SettledIsText}
use Rattle.xc_lines.specs.Lines.{printed_text}
use Rattle.xc_lines.specs.Settled.{is_named, because_line, because_lines}
use Rattle.xc_lines.proofs.FindingLines.{AreSuch, apart, number_lacks, numbered, one_line, printed_lacks}
use Rattle.xc_system.specs.declared.types.Certificate.{Certificate}
use Rattle.xc_system.specs.declared.types.Certificate.TheVariants.{Feasible, Infeasible}

-- lines other than `certificate 1`
abbrev ArePassed : List ℕ → Type 0
ArePassed bytes = AreSuch (λ line. line ≢ opening) bytes

passed : (bytes : List ℕ) → ArePassed bytes → IsPassedText bytes
passed bytes h = record { lines = h.lines; are_passed = h.such; is = h.is }

because_pass : (n : ℕ) (id : List ℕ) → n < 2 ^ 64 → ArePassed (because_line n id)
because_pass n id small =
    let word = lacks_by 10 (codes "because fact ") refl in
    let space = lacks_by 10 (codes " ") refl in
    let first : List ℕ = codes "because fact " ++ decimal n in
    let second : List ℕ = first ++ codes " " in
    let line : List ℕ = second ++ printed_text id in
    one_line (λ line. line ≢ opening) line (lacks_append 10 second (printed_text id) (lacks_append 10 first (codes " ") (lacks_append 10 (codes "because fact ") (decimal n) word (number_lacks n small)) space) (printed_lacks id)) (apart line 98 refl (λ e. omega arith))

feasible_pass : IsPassedText (codes "joint feasible\n")
feasible_pass = passed (codes "joint feasible\n") (one_line (λ line. line ≢ opening) (codes "joint feasible") (lacks_by 10 (codes "joint feasible") refl) (apart (codes "joint feasible") 106 refl (λ e. omega arith)))

infeasible_pass : IsPassedText (codes "joint infeasible\n")
infeasible_pass = passed (codes "joint infeasible\n") (one_line (λ line. line ≢ opening) (codes "joint infeasible") (lacks_by 10 (codes "joint infeasible") refl) (apart (codes "joint infeasible") 106 refl (λ e. omega arith)))

module _ (join : PassedTextsJoin) (written : WrittenIsText) where
  -- a certificate behind two texts that are passed over
  behind : (front head : List ℕ) (c : Certificate) → IsPassedText front → IsPassedText head → IsCertificate c → IsTextOf (front ++ (head ++ certificate_text c)) c
  behind front head c p q sound = subst (λ t. IsTextOf t c) (append_assoc front head (certificate_text c)) (written (front ++ head) c (join front head p q) sound)

  pub settled_is_text : SettledIsText
  settled_is_text front facts (Feasible values) p few sound = behind front (codes "joint feasible\n") (Feasible values) p feasible_pass sound
  settled_is_text front facts (Infeasible r) p few sound =
      let because = numbered (λ line. line ≢ opening) (λ numbered. is_named r numbered.0) (λ numbered. because_line numbered.0 numbered.1.id) (λ n fact small. because_pass n fact.id small) 0 facts (omega (arith, few)) in
      let head = join (codes "joint infeasible\n") (because_lines r (enumerate_from 0 facts)) infeasible_pass (passed (because_lines r (enumerate_from 0 facts)) because) in
      behind front (codes "joint infeasible\n" ++ because_lines r (enumerate_from 0 facts)) (Infeasible r) p head sound
