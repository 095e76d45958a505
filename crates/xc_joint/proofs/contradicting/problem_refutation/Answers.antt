use Rattle.std.proofs.Common.{◌≡◌, ◌<◌, ℕ, List, length, map, IsPermutation, ap, ap₂, sym, subst, ◌∙◌}
use Rattle.std.specs.Prelude.{All}
use Rattle.xc_joint.specs.CornerCauses.{line_with_number}
use Rattle.xc_joint.proofs.ProblemContradicts.{highs_listed, is_kept, lows_listed, problem_contradicts, rows_listed}
use Rattle.xc_model.specs.Ratio.{Ratio}
use Rattle.xc_system.specs.Refutations.{IsContradictionOf}
use Rattle.xc_joint.proofs.contradicting.problem_refutation.Goals as goal

-- the same of other lists
within : (numbers numbers' : List ℕ) (lines lines' : List (ℕ × Ratio)) → numbers ≡ numbers' → lines ≡ lines' → All (λ line. line.0 < length numbers) lines → All (λ line. line.0 < length numbers') lines'
within numbers numbers' lines lines' e f h = subst (λ (ns : List ℕ). All (λ line. line.0 < length ns) lines') e (subst (λ (ls : List (ℕ × Ratio)). All (λ line. line.0 < length numbers) ls) f h)

moved : (numbers numbers' : List ℕ) (lines lines' made ms : List (ℕ × Ratio)) → numbers ≡ numbers' → lines ≡ lines' → made ≡ map (line_with_number numbers) lines → IsPermutation made ms → IsPermutation (map (line_with_number numbers') lines') ms
moved numbers numbers' lines lines' made ms e f is h = subst (λ (ls : List (ℕ × Ratio)). IsPermutation ls ms) (is ∙ ap (λ (ns : List ℕ). map (line_with_number ns) lines) e ∙ ap (map (line_with_number numbers')) f) h

pub lines_with_numbers-requires : goal.lines_with_numbers-requires
lines_with_numbers-requires c = within _ _ _ _ (sym c.as_slice.ensures) (sym c.as_slice-2.ensures) (rows_listed c.args.system.now c.args.component.now c.requires.component c.args.spans.now c.args.problem.now c.requires.problem c.args.multipliers.now c.requires.contradicts).below

pub lines_with_numbers-requires-2 : goal.lines_with_numbers-requires-2
lines_with_numbers-requires-2 c = within _ _ _ _ (sym c.in_ok-low_facts.ensures ∙ sym c.as_slice-3.ensures.value) (sym c.as_slice-4.ensures) (lows_listed c.args.system.now c.args.component.now c.requires.component c.args.spans.now c.args.problem.now c.requires.problem c.args.multipliers.now c.requires.contradicts).below

pub lines_with_numbers-requires-3 : goal.lines_with_numbers-requires-3
lines_with_numbers-requires-3 c = within _ _ _ _ (sym c.in_ok-high_facts.ensures ∙ sym c.as_slice-5.ensures.value) (sym c.as_slice-6.ensures) (highs_listed c.args.system.now c.args.component.now c.requires.component c.args.spans.now c.args.problem.now c.requires.problem c.args.multipliers.now c.requires.contradicts).below

pub of-requires : goal.of-requires
of-requires c = is_kept c.args.system.now c.args.component.now c.requires.component c.args.spans.now c.args.problem.now c.requires.problem c.args.multipliers.now c.requires.contradicts _ (record {
  bindings = c.in_ok-bindings.ensures ∙ ap₂ (λ (ns : List ℕ) (ls : List (ℕ × Ratio)). map (line_with_number ns) ls) c.as_slice.ensures c.as_slice-2.ensures;
  lows = moved _ _ _ _ _ _ (c.as_slice-3.ensures.value ∙ c.in_ok-low_facts.ensures) c.as_slice-4.ensures c.in_ok-lows.ensures c.lines_in_order.ensures.lists;
  highs = moved _ _ _ _ _ _ (c.as_slice-5.ensures.value ∙ c.in_ok-high_facts.ensures) c.as_slice-6.ensures c.in_ok-highs.ensures c.lines_in_order-2.ensures.lists;
}) c.lines_in_order.ensures.ascend c.lines_in_order-2.ensures.ascend

pub returns-clause-contradicts : goal.returns-clause-contradicts
returns-clause-contradicts c = subst (IsContradictionOf c.args.system.now c.args.component.now) (sym c.of.ensures) (problem_contradicts c.args.system.now c.args.component.now c.requires.component c.args.spans.now c.args.problem.now c.requires.problem c.args.multipliers.now c.requires.contradicts _ (record {
  bindings = c.in_ok-bindings.ensures ∙ ap₂ (λ (ns : List ℕ) (ls : List (ℕ × Ratio)). map (line_with_number ns) ls) c.as_slice.ensures c.as_slice-2.ensures;
  lows = moved _ _ _ _ _ _ (c.as_slice-3.ensures.value ∙ c.in_ok-low_facts.ensures) c.as_slice-4.ensures c.in_ok-lows.ensures c.lines_in_order.ensures.lists;
  highs = moved _ _ _ _ _ _ (c.as_slice-5.ensures.value ∙ c.in_ok-high_facts.ensures) c.as_slice-6.ensures c.in_ok-highs.ensures c.lines_in_order-2.ensures.lists;
}) c.lines_in_order.ensures.ascend c.lines_in_order-2.ensures.ascend)
