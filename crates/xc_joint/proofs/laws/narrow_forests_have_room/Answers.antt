use Rattle.xc_joint.proofs.Sizes.{are_sized, narrow_size}
use Rattle.xc_joint.proofs.laws.narrow_forests_have_room.Goals as goal

pub returns : goal.returns
returns g c s k ranges narrow h = c.narrow_ranges_have_room.ensures ranges narrow.scale _ _ (are_sized s k ranges narrow h) (narrow_size s k ranges narrow h)
