use Rattle.std.proofs.Common.{◌≡◌, ◌++◌, ◌+◌, sym, ap, subst, ◌∙◌, IfOk, length}
use Rattle.xc_names.specs.Names.{number_of, KeepsNumbers}
use Rattle.xc_report.specs.Steps.Gained.{all_names}
use Rattle.xc_report.proofs.Behind.{grown_by, number_before, number_behind, number_told}
use Rattle.xc_report.proofs.gained.Gained.number.Goals as goal

pub invariant_of-self-in-None : goal.invariant_of-self-in-None
invariant_of-self-in-None c =
    let grown = grown_by c.self.inside.there.now c.self.inside.gained c.number.new.self c.args.space.now c.args.local.now (sym c.in-None.ensures.number) c.number.result c.number.ensures.names c.number.ensures.err in
    (c.self.invariant.0, grown.numbered c.self.invariant.1)

pub returns-in-Some-clause-number : goal.returns-in-Some-clause-number
returns-in-Some-clause-number c =
    ap (λ names. number_of c.args.space.now c.args.local.now (all_names names)) (sym c.self.view_is) ∙ number_before c.self.inside.there.now c.self.inside.gained c.args.space.now c.args.local.now c.in-Some.id.0 (sym c.in-Some.ensures.number)

pub returns-in_ok-id-in-None-clause-number : goal.returns-in_ok-id-in-None-clause-number
returns-in_ok-id-in-None-clause-number c =
    number_told (c.self.inside.there.now ++ c.number.new.self) c.args.space.now c.args.local.now (length c.self.inside.there.now + c.in_ok-id-in-None.id.0)
    (number_behind c.self.inside.there.now c.number.new.self c.args.space.now c.args.local.now c.in_ok-id-in-None.id.0 (sym c.in-None.ensures.number) c.in_ok-id-in-None.ensures.number)
    c.behind.result (subst (λ n. IfOk c.behind.result (λ id. id.0 ≡ n + c.in_ok-id-in-None.id.0)) c.self.invariant.0 c.behind.ensures)

pub returns-in_ok-id-in-None-clause-names : goal.returns-in_ok-id-in-None-clause-names
returns-in_ok-id-in-None-clause-names c =
    let grown = grown_by c.self.inside.there.now c.self.inside.gained c.number.new.self c.args.space.now c.args.local.now (sym c.in-None.ensures.number) c.number.result c.number.ensures.names c.number.ensures.err in
    record {
      there = ap (λ names. names.there) c.self.view_is;
      kept = subst (λ names. KeepsNumbers (all_names names) (c.self.inside.there.now ++ c.number.new.self)) c.self.view_is grown.kept;
    }
