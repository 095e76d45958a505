use Rattle.std.proofs.Common.{◌≡◌, sym, ◌∙◌, ap}
use Rattle.xc_report.specs.Dimensions.{key_number, with_key}
use Rattle.xc_report.proofs.KeyPlaces.{place_is, put_key_is}
use Rattle.xc_report.proofs.key_lists.Keys.place.Goals as goal

pub returns-clause-number : goal.returns-clause-number
returns-clause-number c =
    let old = c.self.inside.keys.keys in
    let put : c.insert_full.new.self.keys ≡ with_key old c.args.key = c.in_ok-place.ensures.keys ∙ put_key_is old c.args.key in
    c.in_ok-place.ensures.index ∙ place_is old c.args.key ∙ ap (λ ks. key_number ks c.args.key) (sym put)

pub returns-clause-keys : goal.returns-clause-keys
returns-clause-keys c =
    let old = c.self.inside.keys.keys in
    c.in_ok-place.ensures.keys ∙ put_key_is old c.args.key ∙ ap (λ ks. with_key ks c.args.key) c.self.view_is
