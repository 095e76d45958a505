use Rattle.std.proofs.Common.{◌==◌, ◌||◌, ap, ◌∙◌}
use Rattle.xc_names.proofs.NameSets.{put_in}
use Rattle.xc_names.specs.NameSets.{is_among}
use Rattle.xc_names.proofs.name_set.NameSet.insert.Goals as goal

pub returns-clause-more : goal.returns-clause-more
returns-clause-more c = λ n.
    let id = c.args.id.0 in
    ap (λ ks. is_among ks n) c.in_ok-insert.ensures.keys
    ∙ put_in c.self.inside.numbers.keys id n
    ∙ ap (λ ks. is_among ks n || (id == n)) c.self.view_is
