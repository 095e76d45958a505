use Rattle.std.proofs.Common.{[], ◌∷◌, ◌++◌, ◌≡◌, ap, sym, subst, ◌∙◌, Some, None, cond, length, option_map}
use Rattle.xc_names.specs.Names.{is_named, name_of, number_of, AreNumbered}
use Rattle.xc_names.proofs.Found.{number_within}
use Rattle.xc_names.proofs.Numbered.{number_after, number_of_new, numbered_after, pushed_keeps}
use Rattle.xc_names.proofs.names.Names.number.Goals as goal

-- the name was not there
none : (c : goal.After-push_reserved) → number_of c.args.space.now c.args.local.now c.self.inside.names.items ≡ None
none c = ap (number_of c.args.space.now c.args.local.now) c.self.view_is ∙ sym c.find.ensures.number ∙ ap (option_map (λ id. id.0)) c.in_default.is

-- it goes last
grown : (c : goal.After-push_reserved) → c.push_reserved.new.self.items ≡ c.self.inside.names.items ++ name_of c.args.space.now c.args.local.now ∷ []
grown c =
    c.push_reserved.ensures.items
    ∙ ap (λ names. names ++ c.in_ok-name.name ∷ []) c.in_ok-reserve.ensures.items
    ∙ ap (λ name. c.self.inside.names.items ++ name ∷ []) c.in_ok-name.ensures

pub invariant_of-self-2 : goal.invariant_of-self-2
invariant_of-self-2 c =
    let names = c.self.inside.names.items in (
      λ s l.
          c.in_ok-note.ensures.ok s l
          ∙ ap (cond (is_named s l (name_of c.args.space.now c.args.local.now)) (Some (length c.as_slice.result.now))) (c.self.invariant.0 s l)
          ∙ ap (λ n. cond (is_named s l (name_of c.args.space.now c.args.local.now)) (Some n) (number_of s l names)) (ap length c.as_slice.ensures.value)
          ∙ sym (number_after names c.args.space.now c.args.local.now (none c) s l)
          ∙ ap (number_of s l) (sym (grown c)),
      subst AreNumbered (sym (grown c)) (numbered_after names c.args.space.now c.args.local.now (none c) c.self.invariant.1),
    )

pub returns-clause-number : goal.returns-clause-number
returns-clause-number c =
    ap (number_of c.args.space.now c.args.local.now) (grown c)
    ∙ number_of_new c.self.inside.names.items c.args.space.now c.args.local.now (none c)
    ∙ ap Some (sym (ap length c.as_slice.ensures.value))

pub returns-clause-kept : goal.returns-clause-kept
returns-clause-kept c = λ s l n e.
    ap (number_of s l) (grown c)
    ∙ pushed_keeps c.self.inside.names.items (name_of c.args.space.now c.args.local.now) s l n (ap (number_of s l) c.self.view_is ∙ e)

pub returns-clause-within : goal.returns-clause-within
returns-clause-within c = number_within _ c.args.space.now c.args.local.now _ (returns-clause-number c)
