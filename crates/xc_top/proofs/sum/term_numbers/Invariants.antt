use Rattle.std.proofs.Common.{◌≡◌, ◌++◌, List, drop, map, Some}
use Rattle.xc_lists.specs.Places.{first_given}
use Rattle.xc_names.specs.Names.{KeepsNumbers}
use Rattle.xc_names.specs.declared.expanded.Expanded.{Expanded}
use Rattle.xc_top.specs.Sums.{unbound, number_in}
use Rattle.xc_top.specs.Words.{texts, name_of}
use Rattle.xc_top.proofs.sum.term_numbers.Given as goal

-- the numbers so far, for all later names, and what is left has the same first refusal
abbrev pub invariant-loop-term : goal.invariant-loop-term
invariant-loop-term l = record {
  numbers : (after : List Expanded) → KeepsNumbers l.names after →
      map (λ term. number_in l.prefixes after (name_of term)) (texts l.terms) ≡ map (λ id. Some id.0) l.ids.items ++ map (λ term. number_in l.prefixes after (name_of term)) (texts (drop l.term-index l.terms));
  first : first_given (unbound l.prefixes l.report) (map (λ term. (term, name_of term)) (texts (drop l.term-index l.terms))) ≡ first_given (unbound l.prefixes l.report) (map (λ term. (term, name_of term)) (texts l.terms));
  kept : KeepsNumbers l.fn.names l.names;
}
