use Rattle.std.proofs.Common.{rules, ◌≡◌, ◌<◌, ◌++◌, ap, sym, subst, length, ◌∙◌, All, ℕ, filter_map}
use Rattle.xc_bind.proofs.TotalPoints.{all_inside, all_within, bindings_of_totals, few_networks, inside_first, inside_rest, told_some, told_none}
use Rattle.xc_bind.specs.Bindings.{bindings_in}
use Rattle.xc_bind.specs.Steps.Totals.{binding_at, is_total}
use Rattle.xc_names.specs.NameSets.{is_among}
use Rattle.xc_bind.proofs.bound.add_network.Goals as goal

pub loop-number-init : goal.loop-number-init
loop-number-init c =
    let points = c.args.points.now in
    let network = c.args.network.now in
    let totals = c.in_ok-totals.totals.keys in
    let is = c.into_iter-number-iterator.ensures.into_iter_gives in
    let exactly : (k : ℕ) → is_among totals k ≡ is_total points network.arcs k = λ k. c.in_ok-totals.ensures k ∙ ap (λ arcs. is_total points arcs k) c.as_slice-2.ensures in
    record {
      told = ap (λ ks. c.args.list.now.items ++ filter_map (binding_at points c.args.at network.arcs) ks) is.0 ∙ ap (λ bs. c.args.list.now.items ++ bs) (bindings_of_totals points c.args.at network totals is.4 exactly);
      inside = subst (λ ks. All (λ k. k < length points) ks) (sym is.0) (all_inside (length points) totals (all_within points network.arcs totals exactly));
    }

pub overflow_cast-at : goal.overflow_cast-at
overflow_cast-at c =
    let points = length c.args.points.now in
    let inside = inside_first points c.in-Some.number.now c.loop-number.number-iterator c.next.new.self c.in-Some.ensures.steps c.loop-number.invariant.inside in
    let small : c.args.at < 4294967296 = few_networks c.args.at points c.in-Some.number.now c.requires.few inside in
    search rules

pub binding_at-requires-clause-inside : goal.binding_at-requires-clause-inside
binding_at-requires-clause-inside c = inside_first (length c.args.points.now) c.in-Some.number.now c.loop-number.number-iterator c.next.new.self c.in-Some.ensures.steps c.loop-number.invariant.inside

pub loop-number-preserved-in-Continue-branch-5 : goal.loop-number-preserved-in-Continue-branch-5
loop-number-preserved-in-Continue-branch-5 c =
    let points = c.args.points.now in
    let k = c.in-Some.number.now in
    let arcs = c.in_ok-arcs.ensures ∙ c.as_slice.ensures in
    record {
      told = told_some (binding_at points c.args.at c.args.network.now.arcs) k c.loop-number.list.items (c.args.list.now.items ++ bindings_in points (c.args.at, c.args.network.now)) c.loop-number.number-iterator c.next.new.self
          c.in-Some.ensures.steps c.loop-number.invariant.told c.in-Some-2.binding c.push.new.self.items
          (ap (λ a. binding_at points c.args.at a k) (sym arcs) ∙ sym c.in_ok-binding.ensures ∙ c.in-Some-2.is)
          c.in_ok-push.ensures.items;
      inside = inside_rest (length points) k c.loop-number.number-iterator c.next.new.self c.in-Some.ensures.steps c.loop-number.invariant.inside;
    }

pub loop-number-preserved : goal.loop-number-preserved
loop-number-preserved c =
    let points = c.args.points.now in
    let k = c.in-Some.number.now in
    let arcs = c.in_ok-arcs.ensures ∙ c.as_slice.ensures in
    record {
      told = told_none (binding_at points c.args.at c.args.network.now.arcs) k c.loop-number.list.items (c.args.list.now.items ++ bindings_in points (c.args.at, c.args.network.now)) c.loop-number.number-iterator c.next.new.self
          c.in-Some.ensures.steps c.loop-number.invariant.told
          (ap (λ a. binding_at points c.args.at a k) (sym arcs) ∙ sym c.in_ok-binding.ensures ∙ c.in_default.is);
      inside = inside_rest (length points) k c.loop-number.number-iterator c.next.new.self c.in-Some.ensures.steps c.loop-number.invariant.inside;
    }
