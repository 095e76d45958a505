use Rattle.std.proofs.Common.{◌<◌, ◌≤◌, ◌≡◌, ◌+◌, ℕ, List, All, length, get_or, take, rules, subst}
use Rattle.std.proofs.lemmas.List.{take_all}
use Rattle.std.proofs.lemmas.List.Elements.{All-more}
use Rattle.xc_bind.specs.declared.types.Binding.{Binding}
use Rattle.xc_lines.proofs.tests.are_named.Goals as goal

named_more : (P : Binding → Type 0) (bindings : List Binding) (i : ℕ) (b : Binding) → i < length bindings → b ≡ get_or bindings i b → P b → All P (take i bindings) → All P (take (i + 1) bindings)
named_more P bindings i b within is named so_far = All-more P bindings i b within so_far (subst P is named)

named_all : (P : Binding → Type 0) (bindings : List Binding) (i : ℕ) → length bindings ≤ i → All P (take i bindings) → All P bindings
named_all P bindings i end so_far = subst (λ bs. All P bs) (take_all i bindings end) so_far

pub loop-binding-preserved : goal.loop-binding-preserved
loop-binding-preserved c =
    let bindings = c.args.bindings.now in
    let i = c.loop-binding.binding-index in
    let b = c.binding-item.result in
    let network : b.network < c.args.networks = search rules in
    let point : b.total < c.args.points = search rules in
    (named_more (λ b. b.network < c.args.networks) bindings i b c.loop-binding-test.true c.binding-item.is network c.loop-binding.invariant.0, named_more (λ b. b.total < c.args.points) bindings i b c.loop-binding-test.true c.binding-item.is point c.loop-binding.invariant.1)

pub returns-clause-networks : goal.returns-clause-networks
returns-clause-networks c = named_all (λ b. b.network < c.args.networks) c.args.bindings.now c.loop-binding.binding-index c.loop-binding-test.false c.loop-binding.invariant.0

pub returns-clause-points : goal.returns-clause-points
returns-clause-points c = named_all (λ b. b.total < c.args.points) c.args.bindings.now c.loop-binding.binding-index c.loop-binding-test.false c.loop-binding.invariant.1
