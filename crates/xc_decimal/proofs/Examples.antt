-- The definitions on worked texts.
use Rattle.std.proofs.Common.{◌≡◌, pos, negsuc, Some, None, refl}
use Rattle.std.specs.Prelude.{codes}
use Rattle.xc_decimal.specs.Reading.{digits_of}

trailing_zero : digits_of (codes "-0.50") ≡ Some (negsuc 4, 1)
trailing_zero = refl

leading_zeros : digits_of (codes "000.1000") ≡ Some (pos 1, 1)
leading_zeros = refl

point_at_the_end : digits_of (codes "5.") ≡ Some (pos 5, 0)
point_at_the_end = refl

minus_zero : digits_of (codes "-0") ≡ Some (pos 0, 0)
minus_zero = refl

nothing : digits_of (codes "") ≡ None
nothing = refl

point_alone : digits_of (codes ".") ≡ None
point_alone = refl

exponent : digits_of (codes "1e3") ≡ None
exponent = refl
