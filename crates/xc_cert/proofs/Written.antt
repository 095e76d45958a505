-- A text that is written line after line.
use Rattle.std.proofs.Common.{◌≡◌, ℕ, List, ◌++◌, sym, ap, ◌∙◌, append_assoc}
use Rattle.std.specs.Prelude.{codes}
use Rattle.xc_cert.specs.Certificates.{body_lines, numbered_lines}
use Rattle.xc_lists.specs.TextLines.{text_of}
use Rattle.xc_lists.proofs.Cutting.{text_of-append}
use Rattle.xc_model.specs.Ratio.{Ratio}
use Rattle.xc_system.specs.Kept.{Multipliers}
use Rattle.xc_system.specs.declared.types.Certificate.TheVariants.{Infeasible}

-- the lines of a refutation, one list of multipliers after the other
pub refutation_text : (start one two three : List ℕ) (r : Multipliers) (bs ls hs : List (ℕ × Ratio)) → one ≡ start ++ codes "infeasible\n" → two ≡ one ++ text_of (numbered_lines (codes "binding") bs) → three ≡ two ++ text_of (numbered_lines (codes "low") ls) → bs ≡ r.bindings → ls ≡ r.lows → hs ≡ r.highs
    → three ++ text_of (numbered_lines (codes "high") hs) ≡ start ++ text_of (body_lines (Infeasible r))
refutation_text start one two three r bs ls hs first second third is_bs is_ls is_hs =
    let b = numbered_lines (codes "binding") r.bindings in
    let l = numbered_lines (codes "low") r.lows in
    let h = numbered_lines (codes "high") r.highs in
    let grown : three ++ text_of (numbered_lines (codes "high") hs) ≡ (((start ++ codes "infeasible\n") ++ text_of b) ++ text_of l) ++ text_of h =
    (λ i. (third ∙ (λ j. (second ∙ (λ k. first k ++ text_of (numbered_lines (codes "binding") (is_bs k)))) j ++ text_of (numbered_lines (codes "low") (is_ls j)))) i ++ text_of (numbered_lines (codes "high") (is_hs i))) in
    grown
    ∙ append_assoc ((start ++ codes "infeasible\n") ++ text_of b) (text_of l) (text_of h)
    ∙ append_assoc (start ++ codes "infeasible\n") (text_of b) (text_of l ++ text_of h)
    ∙ append_assoc start (codes "infeasible\n") (text_of b ++ (text_of l ++ text_of h))
    ∙ ap (λ t. start ++ (codes "infeasible\n" ++ t)) (ap (λ t. text_of b ++ t) (sym (text_of-append l h)) ∙ sym (text_of-append b (l ++ h)))
