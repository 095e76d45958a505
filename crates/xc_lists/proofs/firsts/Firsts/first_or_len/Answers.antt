use Rattle.std.proofs.Common.{◌∙◌, ap, unwrap_or, length}
use Rattle.xc_lists.specs.Firsts.{first_equal}
use Rattle.xc_lists.proofs.FirstPlaces.{first_or_len-first}
use Rattle.xc_lists.proofs.firsts.Firsts.first_or_len.Goals as goal

pub returns : goal.returns
returns g c =
    let item = c.args.item.now in
    let items = c.args.self.now in
    c.unwrap_or.ensures
    ∙ ap (λ first. unwrap_or first (length c.as_slice.result.now)) c.first.ensures
    ∙ ap (λ n. unwrap_or (first_equal g.K.Ord.cmp item items) n) (ap length c.as_slice.ensures)
    ∙ first_or_len-first g.K.Ord.cmp item items
