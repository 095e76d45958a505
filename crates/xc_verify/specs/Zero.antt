-- 0 in lowest terms.
use Rattle.std.proofs.Common.{pos, arith, lit<}
use Rattle.std.proofs.Math.Nat.{eq-one_of_dvd-one}
use Rattle.std.proofs.lemmas.Int.{ints}
use Rattle.xc_model.specs.Ratio.{IsLowest}

-- 0 over 1 is in lowest terms
pub zero_lowest : IsLowest (pos 0) (pos 1)
zero_lowest = record {
  positive = omega (arith, ints);
  num_narrow = lit< tt;
  den_narrow = lit< tt;
  coprime = λ k a b. eq-one_of_dvd-one b;
}
