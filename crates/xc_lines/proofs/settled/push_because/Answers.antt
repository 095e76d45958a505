use Rattle.std.proofs.Common.{◌≡◌, ◌+◌, ◌++◌, ◌||◌, [], drop, cond, string_bytes, rules, sym, ap, subst, ◌∙◌}
use Rattle.std.specs.List.{enumerate_from}
use Rattle.xc_lines.specs.Settled.{is_named, because_line, because_lines}
use Rattle.xc_lines.specs.Steps.Named.{IsLeft}
use Rattle.xc_lines.proofs.Appended.{one_more}
use Rattle.xc_lines.proofs.Naming.{because_more, next_of, turns}
use Rattle.xc_lines.proofs.settled.push_because.Goals as goal

pub loop-number-preserved : goal.loop-number-preserved
loop-number-preserved c =
    let lows = turns c.args.refutation.now.lows c.loop-number.lows.now c.loop-number.number c.loop-number.invariant.lows in
    let highs = turns c.args.refutation.now.highs c.loop-number.highs.now c.loop-number.number c.loop-number.invariant.highs in
    let named : c.either.result ≡ is_named c.args.refutation.now c.loop-number.number = c.either.ensures ∙ (λ i. (c.take_number-is_low.ensures.named ∙ lows.named) i || (c.take_number-is_high.ensures.named ∙ highs.named) i) in
    let grown : string_bytes c.push_if_named.new.out ≡ string_bytes c.loop-number.out ++ cond c.either.result (because_line c.loop-number.number c.index-facts-number.result.id) [] = search rules in
    let piece : string_bytes c.push_if_named.new.out ≡ string_bytes c.loop-number.out ++ cond (is_named c.args.refutation.now c.loop-number.number) (because_line c.loop-number.number c.index-facts-number.result.id) [] =
    grown ∙ ap (λ b. string_bytes c.loop-number.out ++ cond b (because_line c.loop-number.number c.index-facts-number.result.id) []) named in
    let next = next_of c.args.facts.now c.loop-number.number c.index-facts-number.result c.loop-number-test.true c.index-facts-number.is in
    let cut = ap (λ facts. because_lines c.args.refutation.now (enumerate_from c.loop-number.number facts)) next ∙ because_more c.args.refutation.now c.loop-number.number c.index-facts-number.result (drop (c.loop-number.number + 1) c.args.facts.now) in
    record {
      text = one_more _ _ _ _ _ _ piece cut c.loop-number.invariant.text;
      lows = subst (λ left. IsLeft c.args.refutation.now.lows left (c.loop-number.number + 1)) (sym c.take_number-is_low.ensures.left) lows.rest;
      highs = subst (λ left. IsLeft c.args.refutation.now.highs left (c.loop-number.number + 1)) (sym c.take_number-is_high.ensures.left) highs.rest;
    }
