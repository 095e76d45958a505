-- The measures that a unit text states (xBRL-JSON 1.0, the string representation of units).
use Rattle.std.specs.Prelude.{◌≡◌, ◌++◌, ℕ, List, [], ◌∷◌, codes}
use Rattle.xc_lists.specs.Members.{Lacks}
use Rattle.xc_names.specs.Names.{name_of}
use Rattle.xc_names.specs.Prefixes.{Bindings}
use Rattle.xc_names.specs.declared.expanded.Expanded.{Expanded}
use Rattle.xc_report.specs.Rules.Cuts.{slash, asterisk, closing, IsCut, AreJoined}
use Rattle.xc_report.specs.Rules.Names.{StandsFor}

-- texts stand for these names, one by one
abbrev pub EachStandsFor : Bindings → List (List ℕ) → List Expanded → Type 0
EachStandsFor prefixes [] [] = Unit {0}
EachStandsFor prefixes [] (name ∷ names) = ⊥
EachStandsFor prefixes (text ∷ texts) [] = ⊥
EachStandsFor prefixes (text ∷ texts) (name ∷ names) = StandsFor prefixes text name × EachStandsFor prefixes texts names

-- a text is the product of these measures: texts that stand for them, one or more, joined by `*`
pub record IsProduct (prefixes : Bindings) (text : List ℕ) (measures : List Expanded) : Type 0 where
  pub texts : List (List ℕ)
  pub joined : AreJoined asterisk texts text
  pub each : EachStandsFor prefixes texts measures

-- a text is a side of a quotient: one measure, or a product in parentheses
pub data IsSide (prefixes : Bindings) (text : List ℕ) (measures : List Expanded) : Type 0 where
  OneMeasure : (name : Expanded) → StandsFor prefixes text name → measures ≡ name ∷ [] → IsSide prefixes text measures
  InParentheses : (inside : List ℕ) → text ≡ codes "(" ++ inside ++ codes ")" → Lacks closing inside → IsProduct prefixes inside measures → IsSide prefixes text measures

-- a text is the unit of these measures above the line and below it: a product, with none below, or two sides with a `/` between
pub data IsUnit (prefixes : Bindings) (text : List ℕ) (above below : List Expanded) : Type 0 where
  Product : Lacks slash text → IsProduct prefixes text above → below ≡ [] → IsUnit prefixes text above below
  Quotient : (numerator denominator : List ℕ) → IsCut slash text numerator denominator → IsSide prefixes numerator above → IsSide prefixes denominator below → IsUnit prefixes text above below

-- the measure `pure` of XBRL 2.1, section 4.8.2
abbrev pub pure_measure : Expanded
pure_measure = name_of (codes "http://www.xbrl.org/2003/instance") (codes "pure")

-- that measure alone, which says the same as no unit
pub record IsPure (above below : List Expanded) : Type 0 where
  pub above_is : above ≡ pure_measure ∷ []
  pub below_is : below ≡ []
