use Rattle.std.proofs.Common.{◌≡◌, ◌∷◌, ◌++◌, ◌+◌, [], map, Some, None, drop, string_bytes, sym, ap, subst, ◌∙◌, arith, rules}
use Rattle.std.proofs.lemmas.Grind.{common_steps}
use Rattle.std.proofs.lemmas.List.{drop_more}
use Rattle.xc_top.specs.Sums.{unbound, number_in}
use Rattle.xc_top.specs.Words.{texts, name_of}
use Rattle.xc_top.proofs.Numbering.{kept_twice, number_kept, number_of_term, some_number, numbers_more, numbers_all, bound_more}
use Rattle.xc_top.proofs.sum.term_numbers.Goals as goal

pub loop-term-preserved : goal.loop-term-preserved
loop-term-preserved c =
    let terms = c.args.terms.now in
    let i = c.loop-term.term-index in
    let term = string_bytes c.term-item.result in
    let id = c.in_ok-term_number.field-0 in
    let rest = texts (drop (i + 1) terms) in
    let next : texts (drop i terms) ≡ term ∷ rest = ap texts (drop_more terms i c.term-item.result c.loop-term-test.true) ∙ ap (λ t. string_bytes t ∷ rest) (sym c.term-item.is) in
    let same : c.as_str.result.now ≡ term = search rules in
    let number = subst (λ t. number_in c.args.prefixes.now c.term_number.new.names (name_of t) ≡ Some id.0) same c.in_ok-term_number.ensures.number in
    let bound = subst (λ t. unbound c.args.prefixes.now c.args.report.now (t, name_of t) ≡ None) same c.in_ok-term_number.ensures.bound in
    let grown : c.push.new.self.items ≡ c.loop-term.ids.items ++ id ∷ [] = search rules in
    record {
      numbers = λ after keeps.
          subst (λ ids. map (number_of_term c.args.prefixes.now after) (texts terms) ≡ map some_number ids ++ map (number_of_term c.args.prefixes.now after) rest) (sym grown)
          (numbers_more c.args.prefixes.now after (texts terms) (texts (drop i terms)) rest term c.loop-term.ids.items id next
          (number_kept c.args.prefixes.now c.term_number.new.names after (name_of term) id.0 keeps number)
          (c.loop-term.invariant.numbers after (kept_twice _ _ after c.in_ok-term_number.ensures.kept keeps)));
      first = bound_more c.args.prefixes.now c.args.report.now (texts terms) (texts (drop i terms)) rest term next bound c.loop-term.invariant.first;
      kept = kept_twice _ _ _ c.loop-term.invariant.kept c.in_ok-term_number.ensures.kept;
    }

pub returns-clause-numbers : goal.returns-clause-numbers
returns-clause-numbers c =
    let all : drop c.loop-term.term-index c.args.terms.now ≡ [] = grind (arith, common_steps) in
    numbers_all c.args.prefixes.now c.loop-term.names (texts c.args.terms.now) (texts (drop c.loop-term.term-index c.args.terms.now)) c.loop-term.ids.items (ap texts all)
    (c.loop-term.invariant.numbers c.loop-term.names (λ space local number e. e))
