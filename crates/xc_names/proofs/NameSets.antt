-- Numbers that are put into an ordered set.
use Rattle.std.proofs.Common.{◌≡◌, ◌==◌, ◌||◌, ℕ, List, sym, ap}
use Rattle.std.specs.BTreeSet.{insert_key}
use Rattle.std.specs.Cmp.{ranked}
use Rattle.std.specs.Ordering.{nat_cmp}
use Rattle.std.specs.declared.cmp.Ordering.TheVariants.{Equal}
use Rattle.xc_lists.proofs.Anys.{any_put_in}
use Rattle.xc_names.specs.NameSets.{is_among}

-- a number that is put in is one more
pub put_in : (ks : List ℕ) (k n : ℕ) → is_among (insert_key nat_cmp ks k) n ≡ (is_among ks n || (k == n))
put_in ks k n = any_put_in nat_cmp (λ x. x == n) (λ k x e. ap (λ m. m == n) (ranked k x Equal (sym e))) ks k
