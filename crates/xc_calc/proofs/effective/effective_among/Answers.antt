use Rattle.std.proofs.Common.{◌≡◌, ◌++◌, ◌∷◌, [], Some, None, ap, sym, ◌∙◌, map, filter_map, option_and_then, option_to_list, if◌then◌else◌, append-nil}
use Rattle.std.proofs.lemmas.List.{map-append}
use Rattle.std.proofs.lemmas.Option.{slice_get-get_or}
use Rattle.std.specs.List.{slice_get}
use Rattle.xc_calc.specs.Effective.{effective_at, is_effective}
use Rattle.xc_lists.proofs.Ranges.{gathered_more}
use Rattle.xc_lists.specs.Places.{before}
use Rattle.xc_calc.proofs.effective.effective_among.Goals.{then-is_effective+in_ok-push, else-is_effective}
use Rattle.xc_calc.proofs.effective.effective_among.Goals as goal

pub loop-at-preserved : goal.loop-at-preserved
loop-at-preserved c =
    let arcs = c.args.arcs.now in
    let at = c.loop-at.at in
    let item = c.index-arcs-at.result in
    let given = effective_at arcs in
    let so_far = filter_map given (before at) in
    let there : slice_get arcs at ≡ Some item = slice_get-get_or arcs at item c.loop-at-test.true ∙ ap Some (sym c.index-arcs-at.is) in
    let here : given at ≡ (if is_effective arcs at item then Some item else None) = ap (option_and_then (λ a. if is_effective arcs at a then Some a else None)) there in
    let kept = c.is_effective.ensures arcs c.in_ok-groups.ensures there in
    elim c.if-is_effective.branch [
      | then-is_effective+in_ok-push w ↦
          ap (λ v. map (λ a. a.now) v.items) w.effective-is
          ∙ ap (map (λ a. a.now)) w.in_ok-push.ensures.items
          ∙ map-append (λ a. a.now) c.loop-at.effective.items _
          ∙ ap (λ x. map (λ a. a.now) c.loop-at.effective.items ++ x ∷ []) w.arc.ensures
          ∙ ap (λ xs. xs ++ item ∷ []) c.loop-at.invariant
          ∙ ap (λ o. so_far ++ option_to_list o) (sym (here ∙ ap (λ b. if b then Some item else None) (sym kept ∙ w.if-is_effective.true)))
          ∙ sym (gathered_more given at)
      | else-is_effective w ↦
          ap (λ v. map (λ a. a.now) v.items) w.effective-is
          ∙ c.loop-at.invariant
          ∙ sym (append-nil so_far)
          ∙ ap (λ o. so_far ++ option_to_list o) (sym (here ∙ ap (λ b. if b then Some item else None) (sym kept ∙ w.if-is_effective.false)))
          ∙ sym (gathered_more given at)
    ]
