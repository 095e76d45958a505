use Rattle.std.proofs.Common.{◌≡◌, ◌<◌, ◌+◌, ◌∷◌, length, drop, sym, ap, ◌∙◌, arith}
use Rattle.std.specs.BTreeMap.{is_at}
use Rattle.std.specs.BTreeSet.{contains}
use Rattle.std.specs.List.{list_any}
use Rattle.std.specs.Ordering.{is_eq}
use Rattle.std.proofs.lemmas.List.{drop_more}
use Rattle.xc_lists.proofs.EqualPairs.{has_same_or_seen, none_seen, seen_more, not_seen}
use Rattle.xc_lists.proofs.doubles.has_equal.Goals as goal

pub loop-key-init : goal.loop-key-init
loop-key-init g c = none_seen (λ x y. is_eq (g.K.Ord.cmp x y)) (contains g.K.Ord.cmp c.new-seen.result) c.args.keys.now (λ q. ap (λ ks. list_any (is_at (g.K.Ord.cmp q)) ks) c.new-seen.ensures.empty)

pub loop-key-preserved : goal.loop-key-preserved
loop-key-preserved g c =
    let keys = c.args.keys.now in
    let at = c.loop-key.key-index in
    let key = c.key-item.result in
    let within : at < length keys = omega arith in
    let next : drop at keys ≡ key ∷ drop (at + 1) keys = drop_more keys at key within ∙ ap (λ k. k ∷ drop (at + 1) keys) (sym c.key-item.is) in
    c.loop-key.invariant
    ∙ ap (λ ks. has_same_or_seen (λ x y. is_eq (g.K.Ord.cmp x y)) (contains g.K.Ord.cmp c.loop-key.seen) ks) next
    ∙ seen_more (λ x y. is_eq (g.K.Ord.cmp x y)) (contains g.K.Ord.cmp c.loop-key.seen) (contains g.K.Ord.cmp c.insert.new.self) key (drop (at + 1) keys) c.in_ok-insert.ensures.updates.0 (not_seen (contains g.K.Ord.cmp c.loop-key.seen key) (sym c.if-not-branch.false ∙ c.in_ok-insert.ensures.added))
