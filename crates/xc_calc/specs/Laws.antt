-- What follows from the definitions for all numbers and arcs.
use Rattle.std.specs.Prelude.{◌≡◌, ◌↔◌, IsTrue, List}
use Rattle.xc_calc.specs.Effective.{is_same_number}
use Rattle.xc_calc.specs.Networks.{AreNetworks}
use Rattle.xc_calc.specs.declared.arc.ListedArc.{ListedArc}
use Rattle.xc_calc.specs.declared.arc.Network.{Network}
use Rattle.xc_decimal.specs.Shortest.{Shortest, decimal_number}
use Rattle.xc_model.specs.Fraction.{SameNumber}

-- weights and orders compare as the same exactly where they are the same number
abbrev pub NumbersAgree : Type 0
NumbersAgree = (d e : Shortest) → IsTrue (is_same_number d e) ↔ SameNumber (decimal_number d) (decimal_number e)

-- arcs have one list of networks
abbrev pub HasOneAnswer : Type 0
HasOneAnswer = (arcs : List ListedArc) (one other : List Network) → AreNetworks arcs one → AreNetworks arcs other → one ≡ other
