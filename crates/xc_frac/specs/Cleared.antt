-- Common factors taken out.
use Rattle.std.specs.Prelude.{◌≡◌, ℤ, pos, ◌*ℤ◌, ◌<ℤ◌, unsigned_abs}
use Rattle.xc_model.specs.Divisors.{IsCoprime}

-- p and q are n and d without their common factor, which has the sign of d
pub record IsCleared (n d p q : ℤ) : Type 0 where
  pub factor : ℤ
  pub left : p *ℤ factor ≡ n
  pub right : q *ℤ factor ≡ d
  pub positive : pos 0 <ℤ q
  pub coprime : IsCoprime (unsigned_abs p) (unsigned_abs q)
