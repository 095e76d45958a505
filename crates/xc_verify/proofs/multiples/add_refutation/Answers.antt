use Rattle.std.proofs.Common.{◌≡◌, ◌++◌, ◌<◌, List, Result, Ok, length, sym, subst}
use Rattle.std.specs.Prelude.{All}
use Rattle.xc_frac.specs.declared.wide.Wide.{Wide}
use Rattle.xc_model.specs.Ratio.{Ratio}
use Rattle.xc_system.specs.declared.types.Side.TheVariants.{Low, High}
use Rattle.xc_verify.proofs.Known.{bindings_there, lows_there, highs_there}
use Rattle.xc_verify.proofs.Results.{sum_append}
use Rattle.xc_verify.specs.Infeasible.{Line, binding_terms, end_terms}
use Rattle.xc_verify.specs.Steps.Running.{sum_at}
use Rattle.xc_verify.specs.Sums.{IsSum, zero_ratio}
use Rattle.xc_verify.proofs.multiples.add_refutation.Goals as goal

pub add_bindings-requires-clause-known : goal.add_bindings-requires-clause-known
add_bindings-requires-clause-known c = subst (λ (ms : List Line). All (λ m. m.0 < length c.args.system.now.equations) ms) (sym c.bindings.ensures.is) (bindings_there c.args.system.now c.args.refutation.now c.requires.known)

pub add_ends-requires-clause-known : goal.add_ends-requires-clause-known
add_ends-requires-clause-known c = subst (λ (ms : List Line). All (λ m. m.0 < length c.args.system.now.bounds) ms) (sym c.lows.ensures.is) (lows_there c.args.system.now c.args.refutation.now c.requires.known)

pub add_ends-requires-2-clause-known : goal.add_ends-requires-2-clause-known
add_ends-requires-2-clause-known c = subst (λ (ms : List Line). All (λ m. m.0 < length c.args.system.now.bounds) ms) (sym c.highs.ensures.is) (highs_there c.args.system.now c.args.refutation.now c.requires.known)

pub returns : goal.returns
returns c p h =
    let s = c.args.system.now in
    let r = c.args.refutation.now in
    let cleared = sum_at c.clear.new.sums c.clear.new.stops p in
    let bound = sum_at c.add_bindings.new.sums c.add_bindings.new.stops p in
    let low = sum_at c.add_ends.new.sums c.add_ends.new.stops p in
    let high = sum_at c.add_ends-2.new.sums c.add_ends-2.new.stops p in
    let zero : cleared ≡ Ok zero_ratio = c.clear.ensures p (subst (λ n. p < n) (sym c.points.ensures.is) h) in
    let bindings : IsSum cleared (binding_terms s.equations r.bindings p) bound = subst (λ (ms : List Line). IsSum cleared (binding_terms s.equations ms p) bound) c.bindings.ensures.is (c.add_bindings.ensures p) in
    let lows : IsSum bound (end_terms Low s.bounds r.lows p) low = subst (λ (ms : List Line). IsSum bound (end_terms Low s.bounds ms p) low) c.lows.ensures.is (c.add_ends.ensures p) in
    let highs : IsSum low (end_terms High s.bounds r.highs p) high = subst (λ (ms : List Line). IsSum low (end_terms High s.bounds ms p) high) c.highs.ensures.is (c.add_ends-2.ensures p) in
    sum_append (Ok zero_ratio) bound high (binding_terms s.equations r.bindings p) (end_terms Low s.bounds r.lows p ++ end_terms High s.bounds r.highs p)
    (subst (λ (x : Result Ratio Wide). IsSum x (binding_terms s.equations r.bindings p) bound) zero bindings)
    (sum_append bound low high (end_terms Low s.bounds r.lows p) (end_terms High s.bounds r.highs p) lows highs)
