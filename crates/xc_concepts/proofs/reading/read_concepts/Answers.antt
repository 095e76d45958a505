use Rattle.std.proofs.Common.{ap, sym, subst, ◌∙◌, ◌++◌, map, filter_map, All, option_to_list}
use Rattle.std.proofs.lemmas.List.{map-append}
use Rattle.std.proofs.lemmas.List.Elements.{All-append}
use Rattle.xc_concepts.proofs.Gathered.{all_listed, map_listed}
use Rattle.xc_lists.proofs.Ranges.{gathered_more}
use Rattle.xc_concepts.specs.Declarations.{declared_at}
use Rattle.xc_concepts.specs.Held.{IsHeld}
use Rattle.xc_lists.specs.Places.{before}
use Rattle.xc_concepts.proofs.reading.read_concepts.Goals as goal

pub loop-at-preserved : goal.loop-at-preserved
loop-at-preserved c =
    let concepts = c.loop-at.concepts.items in
    let found = c.in_ok-concept_at.field-0 in
    let names = c.concept_at.new.names in
    record {
      declared =
          ap (map (λ x. x.declared)) c.in_ok-push_some.ensures
          ∙ map-append (λ x. x.declared) concepts (option_to_list found)
          ∙ (λ i. c.loop-at.invariant.declared i ++ map_listed (λ x. x.declared) found i)
          ∙ ap (λ o. filter_map (declared_at c.args.tree.now) (before c.loop-at.at) ++ option_to_list o) c.in_ok-concept_at.ensures.declared
          ∙ sym (gathered_more (declared_at c.args.tree.now) c.loop-at.at);
      held = subst (All (IsHeld names)) (sym c.in_ok-push_some.ensures)
          (All-append (IsHeld names) concepts (option_to_list found)
          (λ k d h. c.in_ok-concept_at.ensures.kept _ _ _ (c.loop-at.invariant.held k d h))
          (all_listed (IsHeld names) found c.in_ok-concept_at.ensures.held));
      kept = λ s l n e. c.in_ok-concept_at.ensures.kept s l n (c.loop-at.invariant.kept s l n e);
    }
