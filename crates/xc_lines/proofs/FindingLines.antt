-- The lines of findings, each of which begins with `b` or `p`: they are passed over before a certificate, and stand before a joint part.
use Rattle.std.proofs.Common.{◌≡◌, ◌≢◌, ℕ, ◌+◌, ◌<◌, ◌≤◌, ◌^◌, Bool, true, false, cond, List, [], ◌∷◌, ◌++◌, length, get_or, take, refl, sym, ap, ◌∙◌, arith, lit<, append-nil, append_assoc, subst}
use Rattle.std.specs.Prelude.{codes, decimal, filter}
use Rattle.std.specs.List.{AllByRecursion, enumerate_from, flat_map, zip}
use Rattle.std.proofs.lemmas.List.Elements.{All-weaker, recursion_from_All}
use Rattle.std.proofs.lemmas.Slice.Zip.{length-zip}
use Rattle.xc_bind.specs.declared.types.Binding.{Binding}
use Rattle.xc_bind.specs.declared.types.Verdict.{Verdict}
use Rattle.xc_bind.specs.declared.types.Verdict.TheVariants.{Consistent, Inconsistent, Unjudged, TooWide}
use Rattle.xc_calc.specs.declared.arc.Network.{Network}
use Rattle.xc_lists.proofs.Cutting.{text_of-append}
use Rattle.xc_lists.proofs.Lacking.{all_append, decimal_lacks, lacks_append, lacks_by}
use Rattle.xc_cert.specs.Certificates.{opening}
use Rattle.xc_lists.specs.TextLines.{IsLine, text_of}
use Rattle.xc_lists.specs.Members.{Lacks}
use Rattle.xc_interval.specs.Ranges.{is_empty_range}
use Rattle.xc_interval.specs.declared.mode.Mode.{Mode}
use Rattle.xc_interval.specs.declared.mode.Mode.TheVariants.{Rounding, Truncation}
use Rattle.xc_lines.specs.Findings.{counts_line, binding_line, binding_lines, empty_point_line, empty_point_lines, findings, first_id, line_of, mode_code, verdict_code, verdict_word}
use Rattle.xc_lines.specs.JointPart.{BeginsJoint}
use Rattle.xc_lines.specs.Laws.{FindingsArePassed, FindingsArePlain, IsOfWord}
use Rattle.xc_lines.specs.Lines.{printed_text}
use Rattle.xc_lines.proofs.Words.{of_words}
use Rattle.xc_points.specs.declared.types.Point.{Point}
use Rattle.xc_report.specs.declared.reports.Fact.{Fact}

-- ---- bytes that are no line feed

low : 10 < 45
low = lit< tt

pub number_lacks : (n : ℕ) → n < 2 ^ 64 → Lacks 10 (decimal n)
number_lacks n small = let more : 2 ^ 64 < 10 ^ 64 = lit< tt in decimal_lacks 10 low n (omega (arith, small, more))

pub printed_lacks : (text : List ℕ) → Lacks 10 (printed_text text)
printed_lacks text = recursion_from_All (λ b. b ≢ 10) (printed_text text) (All-weaker IsOfWord (λ b. b ≢ 10) (λ b h e. omega (arith, h.0, e)) (printed_text text) (of_words text))

word_lacks : (v : Verdict) → Lacks 10 (verdict_word v)
word_lacks Consistent = lacks_by 10 (codes " consistent ") refl
word_lacks Inconsistent = lacks_by 10 (codes " inconsistent ") refl
word_lacks Unjudged = lacks_by 10 (codes " unjudged ") refl
word_lacks TooWide = lacks_by 10 (codes " too-wide ") refl

mode_lacks : (mode : Mode) → Lacks 10 (mode_code mode)
mode_lacks Rounding = lacks_by 10 (codes " calc11e:inconsistentCalculationUsingRounding") refl
mode_lacks Truncation = lacks_by 10 (codes " calc11e:inconsistentCalculationUsingTruncation") refl

code_lacks : (mode : Mode) (v : Verdict) → Lacks 10 (verdict_code mode v)
code_lacks mode Consistent = tt
code_lacks mode Inconsistent = mode_lacks mode
code_lacks mode Unjudged = tt
code_lacks mode TooWide = tt

-- ---- lines

-- a line that begins with another letter is not `certificate 1`
pub apart : (line : List ℕ) (c : ℕ) → get_or line 0 0 ≡ c → c ≢ 99 → line ≢ opening
apart line c first other e = other (sym first ∙ ap (λ xs. get_or xs 0 0) e)

-- nor does one that begins with a letter other than `j` begin a joint part
first_of_joint : (line : List ℕ) → BeginsJoint line → get_or line 0 0 ≡ 106
first_of_joint [] e = absurd (cc)
first_of_joint (x ∷ xs) e = ap (λ xs. get_or xs 0 0) e

not_joint : (line : List ℕ) (c : ℕ) → get_or line 0 0 ≡ c → c ≢ 106 → ¬ BeginsJoint line
not_joint line c first other e = other (sym first ∙ first_of_joint line e)

-- ---- texts of lines that have a property

pub record AreSuch (P : List ℕ → Type 0) (bytes : List ℕ) : Type 0 where
  pub lines : List (List ℕ)
  pub such : AllByRecursion (λ line. IsLine line × P line) lines
  pub is : bytes ≡ text_of lines

module _ (P : List ℕ → Type 0) where
  no_lines : AreSuch P []
  no_lines = record { lines = []; such = tt; is = refl }

  pub one_line : (line : List ℕ) → IsLine line → P line → AreSuch P (line ++ codes "\n")
  one_line line p q = record { lines = line ∷ []; such = ((p, q), tt); is = sym (append-nil (line ++ codes "\n")) }

  pub join : (one other : List ℕ) → AreSuch P one → AreSuch P other → AreSuch P (one ++ other)
  join one other p q = record { lines = p.lines ++ q.lines; such = all_append (λ line. IsLine line × P line) p.lines q.lines p.such q.such; is = (λ i. p.is i ++ q.is i) ∙ sym (text_of-append p.lines q.lines) }

  -- the texts of numbered things
  pub numbered : {X : Type 0} (keeps : ℕ × X → Bool) (text : ℕ × X → List ℕ) → ((n : ℕ) (x : X) → n < 2 ^ 64 → AreSuch P (text (n, x))) → (k : ℕ) (xs : List X) → k + length xs ≤ 2 ^ 64 → AreSuch P (flat_map text (filter keeps (enumerate_from k xs)))
  numbered keeps text each k [] small = no_lines
  numbered keeps text each k (x ∷ xs) small =
      let rest = numbered keeps text each (k + 1) xs (omega (arith, small)) in
      by (keeps (k, x)) rest
    where
      by : (b : Bool) → AreSuch P (flat_map text (filter keeps (enumerate_from (k + 1) xs))) → AreSuch P (flat_map text (cond b ((k, x) ∷ filter keeps (enumerate_from (k + 1) xs)) (filter keeps (enumerate_from (k + 1) xs))))
      by true rest = join (text (k, x)) (flat_map text (filter keeps (enumerate_from (k + 1) xs))) (each k x (omega (arith, small))) rest
      by false rest = rest

  every : {X : Type 0} (text : ℕ × X → List ℕ) → ((n : ℕ) (x : X) → n < 2 ^ 64 → AreSuch P (text (n, x))) → (k : ℕ) (xs : List X) → k + length xs ≤ 2 ^ 64 → AreSuch P (flat_map text (enumerate_from k xs))
  every text each k [] small = no_lines
  every text each k (x ∷ xs) small = join (text (k, x)) (flat_map text (enumerate_from (k + 1) xs)) (each k x (omega (arith, small))) (every text each (k + 1) xs (omega (arith, small)))

  -- ---- findings, where lines that begin with `b` or `p` have the property

  module _ (at_b : (line : List ℕ) → get_or line 0 0 ≡ 98 → P line) (at_p : (line : List ℕ) → get_or line 0 0 ≡ 112 → P line) where
    counts_such : (b p : ℕ) → b < 2 ^ 64 → p < 2 ^ 64 → AreSuch P (counts_line b p)
    counts_such b p small_b small_p =
        let words = lacks_by 10 (codes "bindings ") refl in
        let points = lacks_by 10 (codes " points ") refl in
        let line : List ℕ = codes "bindings " ++ decimal b ++ codes " points " ++ decimal p in
        one_line line
        (lacks_append 10 (codes "bindings " ++ decimal b ++ codes " points ") (decimal p) (lacks_append 10 (codes "bindings " ++ decimal b) (codes " points ") (lacks_append 10 (codes "bindings ") (decimal b) words (number_lacks b small_b)) points) (number_lacks p small_p))
        (at_b line refl)

    binding_such : (mode : Mode) (n : ℕ) (role id : List ℕ) (v : Verdict) → n < 2 ^ 64 → AreSuch P (binding_line mode n role id v)
    binding_such mode n role id v small =
        let word = lacks_by 10 (codes "binding ") refl in
        let space = lacks_by 10 (codes " ") refl in
        let first : List ℕ = codes "binding " ++ decimal n in
        let second : List ℕ = first ++ verdict_word v in
        let third : List ℕ = second ++ printed_text role in
        let fourth : List ℕ = third ++ codes " " in
        let fifth : List ℕ = fourth ++ printed_text id in
        let line : List ℕ = fifth ++ verdict_code mode v in
        one_line line
        (lacks_append 10 fifth (verdict_code mode v) (lacks_append 10 fourth (printed_text id) (lacks_append 10 third (codes " ") (lacks_append 10 second (printed_text role) (lacks_append 10 first (verdict_word v) (lacks_append 10 (codes "binding ") (decimal n) word (number_lacks n small)) (word_lacks v)) (printed_lacks role)) space) (printed_lacks id)) (code_lacks mode v))
        (at_b line refl)

    point_such : (n : ℕ) (id : List ℕ) → n < 2 ^ 64 → AreSuch P (empty_point_line n id)
    point_such n id small =
        let word = lacks_by 10 (codes "point ") refl in
        let empty = lacks_by 10 (codes " empty ") refl in
        let code = lacks_by 10 (codes " xc:emptyDataPoint") refl in
        let first : List ℕ = codes "point " ++ decimal n in
        let second : List ℕ = first ++ codes " empty " in
        let third : List ℕ = second ++ printed_text id in
        let line : List ℕ = third ++ codes " xc:emptyDataPoint" in
        let is : third ++ codes " xc:emptyDataPoint\n" ≡ line ++ codes "\n" = sym (append_assoc third (codes " xc:emptyDataPoint") (codes "\n")) in
        subst (λ bytes. AreSuch P bytes) (sym is) (one_line line (lacks_append 10 third (codes " xc:emptyDataPoint") (lacks_append 10 second (printed_text id) (lacks_append 10 first (codes " empty ") (lacks_append 10 (codes "point ") (decimal n) word (number_lacks n small)) empty) (printed_lacks id)) code) (at_p line refl))

    findings_such : (mode : Mode) (facts : List Fact) (networks : List Network) (points : List Point) (bindings : List Binding) (verdicts : List Verdict)
        → length bindings < 2 ^ 64 → length points < 2 ^ 64 → AreSuch P (findings mode facts networks points bindings verdicts)
    findings_such mode facts networks points bindings verdicts few_bindings few_points =
        let pairs = length-zip bindings verdicts in
        let counts = counts_such (length bindings) (length points) few_bindings few_points in
        let lines = every (λ numbered. line_of mode facts networks points numbered.0 numbered.1) (λ n judged small. binding_such mode n _ _ judged.1 small) 0 (zip bindings verdicts) (omega (arith, pairs, few_bindings)) in
        let empty = numbered (λ numbered. is_empty_range numbered.1.range) (λ numbered. empty_point_line numbered.0 (first_id facts numbered.1)) (λ n point small. point_such n _ small) 0 points (omega (arith, few_points)) in
        join (counts_line (length bindings) (length points) ++ binding_lines mode facts networks points (enumerate_from 0 (zip bindings verdicts))) (empty_point_lines facts (enumerate_from 0 points)) (join (counts_line (length bindings) (length points)) (binding_lines mode facts networks points (enumerate_from 0 (zip bindings verdicts))) counts lines) empty

pub findings_are_passed : FindingsArePassed
findings_are_passed mode facts networks points bindings verdicts few_bindings few_points =
    let lines = findings_such (λ line. line ≢ opening) (λ line first. apart line 98 first (λ e. omega arith)) (λ line first. apart line 112 first (λ e. omega arith)) mode facts networks points bindings verdicts few_bindings few_points in
    record { lines = lines.lines; are_passed = lines.such; is = lines.is }

pub findings_are_plain : FindingsArePlain
findings_are_plain mode facts networks points bindings verdicts few_bindings few_points =
    let lines = findings_such (λ line. ¬ BeginsJoint line) (λ line first. not_joint line 98 first (λ e. omega arith)) (λ line first. not_joint line 112 first (λ e. omega arith)) mode facts networks points bindings verdicts few_bindings few_points in
    record { lines = lines.lines; plain = lines.such; is = lines.is }
