use Rattle.std.proofs.Common.{◌≡◌, ◌<◌, ◌+◌, ◌++◌, ◌∷◌, [], ℕ, List, length, take, drop, map, get_or, unwrap_or, arith, rules, ap, sym, ◌∙◌, append_assoc}
use Rattle.std.proofs.lemmas.List.{take_more, drop_more, length-take}
use Rattle.xc_lists.specs.Firsts.{first_equal, first_or_len, first_places}
use Rattle.xc_lists.proofs.FirstPlaces.{first_by_earlier}
use Rattle.xc_lists.proofs.firsts.Firsts.of.Goals as goal

-- one more value of a list that is made of another
one_more : {X : Type 0} (f : X → ℕ) (done : List ℕ) (items : List X) (at : ℕ) (item : X) (value : ℕ) (all : List ℕ) → at < length items → item ≡ get_or items at item → value ≡ f item
    → done ++ map f (drop at items) ≡ all → (done ++ value ∷ []) ++ map f (drop (at + 1) items) ≡ all
one_more f done items at item value all within is known so_far =
    let next : drop at items ≡ item ∷ drop (at + 1) items = drop_more items at item within ∙ ap (λ x. x ∷ drop (at + 1) items) (sym is) in
    append_assoc done (value ∷ []) (map f (drop (at + 1) items))
    ∙ ap (λ v. done ++ v ∷ map f (drop (at + 1) items)) known
    ∙ ap (λ rest. done ++ map f rest) (sym next)
    ∙ so_far

pub loop-at-preserved : goal.loop-at-preserved
loop-at-preserved g c =
    let items = c.deref-item-items.result.now in
    let at = c.loop-at.at in
    let item = c.item-item.result in
    let value = c.in_ok-note_first.field-0 in
    let within : at < length items = omega arith in
    let grown : take (at + 1) items ≡ take at items ++ item ∷ [] = take_more items at item within ∙ ap (λ x. take at items ++ x ∷ []) (sym c.item-item.is) in
    let known : value ≡ first_or_len g.K.Ord.cmp item items = c.in_ok-note_first.ensures.first ∙ ap (λ o. unwrap_or o at) (c.loop-at.invariant.index item) ∙ first_by_earlier g.met.K.Ord.total items at item within c.item-item.is in
    let pushed : c.push.new.self.items ≡ c.loop-at.firsts.items ++ value ∷ [] = search rules in
    record {
      index = λ q. c.in_ok-note_first.ensures.index (take at items) (omega (arith, length-take at items)) c.loop-at.invariant.index q ∙ ap (λ items. first_equal g.K.Ord.cmp q items) (sym grown);
      firsts = ap (λ done. done ++ map (λ item. first_or_len g.K.Ord.cmp item items) (drop (at + 1) items)) pushed
          ∙ one_more (λ item. first_or_len g.K.Ord.cmp item items) c.loop-at.firsts.items items at item value (first_places g.K.Ord.cmp items) within c.item-item.is known c.loop-at.invariant.firsts;
    }
