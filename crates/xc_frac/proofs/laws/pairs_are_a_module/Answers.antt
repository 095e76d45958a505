use Rattle.xc_model.proofs.Arithmetic.{product-assoc, product-sum, sum-product}
use Rattle.xc_model.proofs.Numbers.{same-product}
use Rattle.xc_frac.proofs.laws.pairs_are_a_module.Goals as goal

pub returns-clause-alike : goal.returns-clause-alike
returns-clause-alike c x y k l h i = record { real = same-product x.real k y.real l h.real i; tiny = same-product x.tiny k y.tiny l h.tiny i }

pub returns-clause-pairs : goal.returns-clause-pairs
returns-clause-pairs c x y k = record { real = sum-product x.real y.real k; tiny = sum-product x.tiny y.tiny k }

pub returns-clause-factors : goal.returns-clause-factors
returns-clause-factors c x k l = record { real = product-sum x.real k l; tiny = product-sum x.tiny k l }

pub returns-clause-products : goal.returns-clause-products
returns-clause-products c x k l = record { real = product-assoc x.real k l; tiny = product-assoc x.tiny k l }
