use Rattle.std.proofs.Common.{◌≡◌, ℕ, ◌+◌, ◌≤◌, length, ap, ◌∙◌, arith, [], ◌∷◌, ◌++◌, subst, List}
use Rattle.std.proofs.lemmas.List.{length_push}
use Rattle.xc_forest.specs.declared.tallies.Tally.{Tally}
use Rattle.xc_forest.specs.Steps.Edges.{IsPeeling, edges_from}
use Rattle.xc_forest.specs.Steps.Links.{AreLinksOf, IsLinkAt, IsListing}
use Rattle.xc_forest.proofs.Listings.{lent, peeled_first, no_links, one_more_link, order_length, listing}
use Rattle.xc_forest.proofs.links.links.Goals as goal

pub loop-k-init : goal.loop-k-init
loop-k-init c = record {
  peeled = peeled_first c.args.points c.args.rows.now _ _ c.requires.rows c.in_ok-tallies.ensures.tallies (subst (λ (ts : List Tally). Rattle.xc_forest.specs.Steps.Links.AreLeaves ts (length ts) c.in_ok-order.order.items) c.as_slice.ensures.value c.in_ok-order.ensures);
  each = c.in_ok-tallies.ensures.each;
  so_far = ap length c.new-links.ensures.items;
  links = rw c.new-links.ensures.items (no_links (edges_from c.args.points c.args.rows.now) c.in_ok-order.order.items);
}

pub loop-k-smaller : goal.loop-k-smaller
loop-k-smaller c =
    let p = c.loop-k.invariant.peeled in
    let few : length c.loop-k.order.items ≤ length c.loop-k.tallies.items = order_length _ _ _ _ p.left p.peeling in
    omega (arith, c.loop-k.invariant.each, c.len.ensures)

pub loop-k-preserved : goal.loop-k-preserved
loop-k-preserved c =
    let e = lent c.loop-k.tallies.len c.peel_vertex.new.tallies c.loop-k.tallies.items (c.peel_vertex.ensures.each ∙ ap length c.as_mut_slice.ensures.value) c.loop-k.tallies.ok.0 in
    let k : length c.loop-k.links.items ≡ c.loop-k.k = c.loop-k.invariant.so_far in
    let pushed : c.push.new.self.items ≡ c.loop-k.links.items ++ c.in_ok-link.link ∷ [] = c.in_ok-push.ensures.items in
    let link : IsLinkAt (edges_from c.args.points c.args.rows.now) c.loop-k.order.items (length c.loop-k.links.items) c.in_ok-link.link = rw k c.in_ok-link.ensures.link in
    record {
      peeled = rw e c.in_ok-link.ensures.peeled;
      each = rw e (c.peel_vertex.ensures.each ∙ ap length c.as_mut_slice.ensures.value ∙ c.loop-k.invariant.each);
      so_far = ap length pushed ∙ length_push c.loop-k.links.items c.in_ok-link.link ∙ ap (λ (n : ℕ). n + 1) k;
      links = rw pushed (one_more_link _ c.loop-k.order.items _ c.loop-k.links.items c.in_ok-link.link c.loop-k.invariant.links (omega (arith, c.len.ensures, c.loop-k.order.ok.0)) link (record { same = c.in_ok-link.ensures.same; longer = c.in_ok-link.ensures.longer }));
    }

pub returns : goal.returns
returns c =
    let p = c.loop-k.invariant.peeled in
    let few = c.loop-k.invariant.links.few in
    let full : c.loop-k.k ≡ length c.loop-k.order.items = omega (arith, c.len.ensures, c.loop-k.order.ok.0, c.loop-k.invariant.so_far) in
    let done : IsPeeling (edges_from c.args.points c.args.rows.now) (c.args.points + length c.args.rows.now) c.loop-k.order.items (length c.loop-k.order.items) p.left = rw (← c.loop-k.invariant.each, ← full) p.peeling in
    listing c.args.points c.args.rows.now c.requires.rows c.requires.no_cycle c.loop-k.order.items p.left done c.loop-k.links.items c.loop-k.invariant.links (c.loop-k.invariant.so_far ∙ full)
