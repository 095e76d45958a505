use Rattle.std.proofs.Common.{◌≡◌, ◌<◌, List, ℕ, length, sym, ◌∙◌, subst, arith}
use Rattle.std.specs.Prelude.{All}
use Rattle.xc_system.proofs.FactLists.{index_length, index_at, facts_known, facts_some}
use Rattle.xc_system.specs.Systems.{facts_of}
use Rattle.xc_system.proofs.systems.System.facts_of.Goals as goal

pub index-requires : goal.index-requires
index-requires c =
    let i = c.self.inside in
    let h : c.args.point < i.points = rw (← c.self.view_is) at c.requires in
    omega (arith, index_length i.facts.items i.points i.bounds.items c.self.invariant.index)

pub returns-clause-is : goal.returns-clause-is
returns-clause-is c =
    let i = c.self.inside in
    let h : c.args.point < i.points = rw (← c.self.view_is) at c.requires in
    rw (← c.self.view_is) (c.as_slice.ensures ∙ c.index.ensures ∙ index_at i.facts.items i.points c.args.point i.bounds.items _ c.self.invariant.index h)

pub returns-clause-known : goal.returns-clause-known
returns-clause-known c =
    let i = c.self.inside in
    let h : c.args.point < i.points = rw (← c.self.view_is) at c.requires in
    let is : c.as_slice.result.now ≡ facts_of i.bounds.items c.args.point = c.as_slice.ensures ∙ c.index.ensures ∙ index_at i.facts.items i.points c.args.point i.bounds.items _ c.self.invariant.index h in
    rw (← c.self.view_is) (subst (λ (xs : List ℕ). All (λ k. k < length i.bounds.items) xs) (sym is) (facts_known i.bounds.items c.args.point))

pub returns-clause-some : goal.returns-clause-some
returns-clause-some c none =
    let i = c.self.inside in
    let h : c.args.point < i.points = rw (← c.self.view_is) at c.requires in
    let is : c.as_slice.result.now ≡ facts_of i.bounds.items c.args.point = c.as_slice.ensures ∙ c.index.ensures ∙ index_at i.facts.items i.points c.args.point i.bounds.items _ c.self.invariant.index h in
    facts_some i.bounds.items c.args.point (c.self.invariant.system.bounded c.args.point h) (sym is ∙ none)
