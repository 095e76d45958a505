-- A row whose factor of the pivot's column is 0 stays as it is.
use Rattle.std.proofs.Common.{◌≡◌, ℕ, lit<, arith, ℤ, pos, refl, sym, ◌∙◌, ap, subst}
use Rattle.std.specs.Prelude.{◌+ℤ◌, ◌*ℤ◌, unsigned_abs}
use Rattle.std.proofs.lemmas.Int.{ints}
use Rattle.xc_corners.specs.Operations.{Gives}
use Rattle.xc_frac.specs.Passes.{Passes}
use Rattle.xc_frac.specs.declared.wide.Op.TheVariants.{Add, Mul}
use Rattle.xc_model.specs.Fraction.{Fraction, IsNumberOver, product_of, sum_of}
use Rattle.xc_model.specs.Ratio.{Ratio, fraction_of}
use Rattle.xc_model.specs.Width.{IsNarrow}
use Rattle.xc_model.proofs.Numbers.{same-sym, same-trans}
use Rattle.xc_model.proofs.NumbersOver.{number_same, sum_number, zero_over, sum_of_fits}
use Rattle.xc_model.proofs.Over.{ratio}
use Rattle.xc_tableau.specs.Exchanges.{IsEntering, IsOtherEntry}
use Rattle.xc_tableau.specs.Tables.{Table, Has}
use Rattle.xc_tableau.proofs.Exchanging.{has_same}

zero_cross : (n m d e : ℤ) → n ≡ pos 0 → n *ℤ d ≡ (n *ℤ m) *ℤ e
zero_cross n m d e none =
    let times : (z : ℤ) → pos 0 *ℤ z ≡ pos 0 = (λ z. omega (arith, ints)) in
    ap (λ z. z *ℤ d) none ∙ times d ∙ sym (ap (λ z. z *ℤ e) (ap (λ z. z *ℤ m) none ∙ times m) ∙ times e)

-- 0 times a number is 0
pub zero_times : (f u : Ratio) → f.num ≡ pos 0 → Gives Mul f u f
zero_times f u none = record { cross = zero_cross f.num u.num (pos (product_of (fraction_of f) (fraction_of u)).den) (pos (fraction_of f).den) none }

module _ (e f : Ratio) (none : f.num ≡ pos 0) where
  first : IsNumberOver (fraction_of e) e.num (unsigned_abs e.den)
  first = record { positive = (fraction_of e).positive; cross = refl }

  zero : IsNumberOver (fraction_of f) (pos 0) (unsigned_abs e.den)
  zero = zero_over (fraction_of f) (unsigned_abs e.den) (fraction_of e).positive (record { cross = omega (arith, ints, none) })

  sum : IsNumberOver (sum_of (fraction_of e) (fraction_of f)) e.num (unsigned_abs e.den)
  sum =
      let same : e.num +ℤ pos 0 ≡ e.num = omega (arith, ints) in
      subst (λ z. IsNumberOver (sum_of (fraction_of e) (fraction_of f)) z (unsigned_abs e.den)) same (sum_number (fraction_of e) (fraction_of f) e.num (pos 0) (unsigned_abs e.den) first zero)

  -- a number and 0 have that number as their sum
  pub plus_zero : Gives Add e f e
  plus_zero =
      let over : Fraction = ratio e.num (unsigned_abs e.den) first.positive in
      same-trans (fraction_of e) over (sum_of (fraction_of e) (fraction_of f)) (number_same (fraction_of e) e.num (unsigned_abs e.den) first)
      (same-sym (sum_of (fraction_of e) (fraction_of f)) over (record { cross = sum.cross }))

  -- and it fits
  pub plus_zero_fits : ¬ (Passes Add e f)
  plus_zero_fits =
      let same : e.num ≡ e.num +ℤ pos 0 = omega (arith, ints) in
      sum_of_fits e f e.num (pos 0) (unsigned_abs e.den) first zero
      (record { den = e.lowest.den_narrow; left = e.lowest.num_narrow; right = lit< tt; sum = subst IsNarrow same e.lowest.num_narrow })

-- where the factor is 0, each entry of the row is what stands there afterwards
pub stays : (t : Table) (b q k j : ℕ) (f e u : Ratio) → f.num ≡ pos 0 → Has t k q f → Has t k j e → IsEntering t b q j u → IsOtherEntry t b q k j e
stays t b q k j f e u none factor entry entering = (
  (λ same.
      let is : e ≡ f = has_same t k q e f (subst (λ m. Has t k m e) same entry) factor in
      record { factor = f; is_factor = factor; own = u; is_own = entering.0 same; gives = subst (λ (r : Ratio). Gives Mul f u r) (sym is) (zero_times f u none) }),
  (λ other. record {
    factor = e;
    is_factor = entry;
    product = f;
    is_product = record { factor = f; is_factor = factor; other = u; is_other = entering.1 other; gives = zero_times f u none };
    gives = plus_zero e f none;
    fits = plus_zero_fits e f none;
  }),
)
