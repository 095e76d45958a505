use Rattle.std.proofs.Common.{◌≡◌, ◌^◌, ◌==◌, ◌*ℤ◌, pos, true, refl, sym, subst}
use Rattle.std.proofs.lemmas.Bool.{and_from, and_parts, eqb-true}
use Rattle.std.proofs.lemmas.Bool.Decides.{Decides-eqb}
use Rattle.std.specs.Cmp.{signed_Decides}
use Rattle.std.specs.Ordering.{int_eq}
use Rattle.xc_calc.specs.Effective.{is_same_number}
use Rattle.xc_decimal.specs.Shortest.{Shortest, decimal_number}
use Rattle.xc_model.specs.Fraction.{SameNumber}
use Rattle.xc_calc.proofs.laws.numbers_agree.Goals as goal

same_number : (d e : Shortest) → is_same_number d e ≡ true → SameNumber (decimal_number d) (decimal_number e)
same_number d e h =
    let parts = and_parts (int_eq d.digits e.digits) (d.places == e.places) h in
    let digits = (signed_Decides d.digits e.digits).0 parts.0 in
    let places : d.places ≡ e.places = eqb-true d.places e.places parts.1 in
    record { cross = λ i. digits i *ℤ pos (10 ^ sym places i) }

itself : (d : Shortest) → is_same_number d d ≡ true
itself d = and_from _ _ ((signed_Decides d.digits d.digits).1 refl) ((Decides-eqb d.places d.places).1 refl)

pub returns : goal.returns
returns c = λ d e. (same_number d e, λ same. subst (λ f. is_same_number d f ≡ true) ((c.one_shortest.ensures d e).0 same) (itself d))
