-- Fractions in lowest terms that are whole numbers.
use Rattle.std.proofs.Common.{◌≡◌, ℕ, ◌<◌, Bool, true, false, ℤ, pos, ap, subst}
use Rattle.std.specs.Prelude.{unsigned_abs, if◌then◌else◌}
use Rattle.std.proofs.Props.{props}
use Rattle.std.proofs.Math.Nat.{one-dvd, dvd_antisymm}
use Rattle.xc_model.specs.Divisors.{IsCoprime}
use Rattle.xc_model.specs.Fraction.{Fraction, SameNumber, whole, one_positive}
use Rattle.xc_model.specs.Ratio.{Ratio, fraction_of}
use Rattle.xc_model.proofs.Lowest.{lowest_unique}

positive_prop : (d : ℕ) → IsProp (0 < d)
positive_prop d = hlevel props

abbrev fraction : (n : ℤ) (d : ℕ) → 0 < d → Fraction
fraction n d p = record { num = n; den = d; positive = p }

-- it does not matter why a denominator is positive
same_fraction : (n : ℤ) (d : ℕ) (n' : ℤ) (d' : ℕ) → n ≡ n' → d ≡ d' → (p : 0 < d) (q : 0 < d') → fraction n d p ≡ fraction n' d' q
same_fraction n d n' d' e f p =
    let same_terms : (q : 0 < d) → fraction n d p ≡ fraction n d q = λ q. ap (λ k. fraction n d k) (positive_prop d p q) in
    let same_num : (q : 0 < d') → fraction n d p ≡ fraction n d' q = subst (λ z. (q : 0 < z) → fraction n d p ≡ fraction n z q) f same_terms in
    subst (λ z. (q : 0 < d') → fraction n d p ≡ fraction z d' q) e same_num

one_coprime : (m : ℕ) → IsCoprime m 1
one_coprime m k left right = dvd_antisymm right (one-dvd k)

pub exact_whole : (f : Ratio) (z : ℤ) → SameNumber (fraction_of f) (whole z) → fraction_of f ≡ whole z
exact_whole f z h =
    let same = lowest_unique (fraction_of f) (whole z) h f.lowest.coprime (one_coprime (unsigned_abs z)) in
    same_fraction f.num (unsigned_abs f.den) z 1 same.num same.den (fraction_of f).positive one_positive

pub exact_tiny : (b : Bool) (f : Ratio) (z : ℤ) → SameNumber (fraction_of f) (if b then whole z else whole (pos 0)) → fraction_of f ≡ (if b then whole z else whole (pos 0))
exact_tiny false f z h = exact_whole f (pos 0) h
exact_tiny true f z h = exact_whole f z h
