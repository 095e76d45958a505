use Rattle.std.proofs.Common.{rules, ◌≡◌, ◌<◌, ℕ, List, length, map, get_or, sym, ap, ◌∙◌, arith, subst}
use Rattle.std.proofs.lemmas.List.{get_or-map, length-map}
use Rattle.std.specs.Prelude.{All}
use Rattle.xc_system.proofs.Joins.{partly_next, partly_end}
use Rattle.xc_system.specs.declared.types.Entry.{Entry}
use Rattle.xc_system.proofs.roots.join_equation.Goals as goal

point_is : (entries : List Entry) (j : ℕ) (e : Entry) → j < length entries → e ≡ get_or entries j e → get_or (map (λ x. x.point) entries) j 0 ≡ e.point
point_is entries j e h is = get_or-map (λ x. x.point) entries j e 0 h ∙ ap (λ (x : Entry). x.point) (sym is)

point_below : (entries listed : List Entry) (n j : ℕ) (e : Entry) → listed ≡ entries → All (λ x. x.point < n) listed → j < length entries → e ≡ get_or entries j e → e.point < n
point_below entries listed n j e same all h is = subst (λ (x : Entry). x.point < n) (sym is) (subst (λ (xs : List Entry). All (λ x. x.point < n) xs) same all j e h)

pub loop-entry-preserved : goal.loop-entry-preserved
loop-entry-preserved c =
    let i = c.loop-entry.invariant in
    let entries = c.as_slice-entries.result.now in
    let n = c.loop-entry.entry-index in
    let here : n < length entries = c.loop-entry-test.true in
    let some : 0 < length entries = omega arith in
    let s : length c.loop-entry.up ≡ length c.args.up.now = c.loop-entry.auto.up in
    let first : (get_or entries 0 c.index-entries-0.result).point < length c.args.up.now = subst (λ (xs : List Entry). All (λ x. x.point < length c.args.up.now) xs) i.entries c.requires.named 0 c.index-entries-0.result some in
    let next : c.entry-item.result.point < length c.args.up.now = point_below entries _ (length c.args.up.now) n c.entry-item.result i.entries c.requires.named here c.entry-item.is in
    record {
      entries = i.entries;
      partly = partly_next c.args.equations.now c.args.i (map (λ x. x.point) entries) n c.loop-entry.up c.join.new.up (get_or entries 0 c.index-entries-0.result).point c.entry-item.result.point
          (get_or-map (λ x. x.point) entries 0 c.index-entries-0.result 0 some)
          (point_is entries n c.entry-item.result here c.entry-item.is)
          (ap (λ (xs : List Entry). map (λ x. x.point) xs) i.entries)
          (subst (λ (m : ℕ). n < m) (sym (length-map entries (λ x. x.point))) here)
          (omega arith) (omega arith) (omega arith) c.join.ensures.descends c.join.ensures.roots i.partly;
    }

pub returns : goal.returns
returns c =
    let entries = c.as_slice-entries.result.now in
    let i = c.loop-entry.invariant in
    partly_end c.args.equations.now c.args.i (map (λ x. x.point) entries) c.loop-entry.entry-index c.loop-entry.up
    (ap (λ (xs : List Entry). map (λ x. x.point) xs) i.entries)
    (omega (arith, length-map entries (λ x. x.point), c.loop-entry-test.false)) i.partly
