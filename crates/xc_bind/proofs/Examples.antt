-- Bindings of small networks and points.
use Rattle.std.proofs.Common.{◌≡◌, ℕ, List, [], ◌∷◌, codes, refl}
use Rattle.xc_bind.specs.Bindings.{bindings_of}
use Rattle.xc_bind.specs.declared.types.Binding.{Binding}
use Rattle.xc_bind.specs.declared.types.Term.{Term}
use Rattle.xc_calc.specs.declared.arc.Arc.{Arc}
use Rattle.xc_calc.specs.declared.arc.Network.{Network}
use Rattle.xc_decimal.specs.Shortest.{Shortest}
use Rattle.xc_interval.specs.declared.range.Range.TheVariants.{Empty}
use Rattle.xc_names.specs.declared.expanded.NameId.{NameId}
use Rattle.xc_points.specs.declared.types.Point.{Point}

abbrev concept : ℕ → NameId
concept number = record { 0 = number }

abbrev network : List ℕ → List Arc → Network
network role arcs = record { role = role; arcs = arcs }

-- the point of a concept with a key
abbrev point : ℕ → ℕ → Point
point number key = record { concept = concept number; key = key; facts = 0 ∷ []; range = Empty }

abbrev binding : ℕ → ℕ → List Term → Binding
binding network total terms = record { network = network; total = total; terms = terms }

-- three totals, and three contributors
abbrev t : ℕ
t = 0

abbrev u : ℕ
u = 1

abbrev s : ℕ
s = 2

abbrev a : ℕ
a = 3

abbrev b : ℕ
b = 4

abbrev c : ℕ
c = 5

-- the weights are any two
module _ (one other : Shortest) where
  abbrev arc : ℕ → ℕ → Shortest → Arc
  arc from to weight = record { from = concept from; to = concept to; weight = weight }

  abbrev term : ℕ → Shortest → Term
  term point weight = record { point = point; weight = weight }

  -- two totals with the same contributors, each in a network of its own
  two_totals : bindings_of (network (codes "r1") (arc t a one ∷ arc t b one ∷ []) ∷ network (codes "r2") (arc u a one ∷ arc u b one ∷ []) ∷ [])
      (point a 0 ∷ point b 0 ∷ point t 0 ∷ point u 0 ∷ [])
      ≡ binding 0 2 (term 0 one ∷ term 1 one ∷ []) ∷ binding 1 3 (term 0 one ∷ term 1 one ∷ []) ∷ []
  two_totals = refl

  -- one total in two networks
  two_networks : bindings_of (network (codes "r1") (arc t a one ∷ []) ∷ network (codes "r2") (arc t b one ∷ []) ∷ []) (point a 0 ∷ point b 0 ∷ point t 0 ∷ [])
      ≡ binding 0 2 (term 0 one ∷ []) ∷ binding 1 2 (term 1 one ∷ []) ∷ []
  two_networks = refl

  -- two totals of one network, by their numbers
  by_number : bindings_of (network (codes "r1") (arc t a one ∷ arc s t one ∷ []) ∷ []) (point a 0 ∷ point s 0 ∷ point t 0 ∷ [])
      ≡ binding 0 1 (term 2 one ∷ []) ∷ binding 0 2 (term 0 one ∷ []) ∷ []
  by_number = refl

  -- the terms go by arc, and not by point
  reading_order : bindings_of (network (codes "r1") (arc t b one ∷ arc t a other ∷ []) ∷ []) (point a 0 ∷ point b 0 ∷ point t 0 ∷ [])
      ≡ binding 0 2 (term 1 one ∷ term 0 other ∷ []) ∷ []
  reading_order = refl

  -- two arcs to one contributor are two terms
  two_arcs : bindings_of (network (codes "r1") (arc t a one ∷ arc t a other ∷ []) ∷ []) (point a 0 ∷ point t 0 ∷ [])
      ≡ binding 0 1 (term 0 one ∷ term 0 other ∷ []) ∷ []
  two_arcs = refl

  -- a total that is its own contributor
  own_contributor : bindings_of (network (codes "r1") (arc t t one ∷ []) ∷ []) (point t 0 ∷ [])
      ≡ binding 0 0 (term 0 one ∷ []) ∷ []
  own_contributor = refl

  -- a contributor that is nowhere reported is left out
  one_missing : bindings_of (network (codes "r1") (arc t a one ∷ arc t c one ∷ []) ∷ []) (point a 0 ∷ point t 0 ∷ [])
      ≡ binding 0 1 (term 0 one ∷ []) ∷ []
  one_missing = refl

  -- a total without reported contributors is not judged
  all_missing : bindings_of (network (codes "r1") (arc t a one ∷ arc t b one ∷ []) ∷ []) (point t 0 ∷ []) ≡ []
  all_missing = refl

  -- nor is one whose contributors are reported with other keys
  other_key : bindings_of (network (codes "r1") (arc t a one ∷ []) ∷ []) (point a 0 ∷ point t 1 ∷ []) ≡ []
  other_key = refl

  -- a contributor reported in one of three periods
  one_of_three : bindings_of (network (codes "r1") (arc t a one ∷ arc t b one ∷ []) ∷ [])
      (point t 0 ∷ point t 1 ∷ point t 2 ∷ point a 0 ∷ point a 1 ∷ point a 2 ∷ point b 1 ∷ [])
      ≡ binding 0 0 (term 3 one ∷ []) ∷ binding 0 1 (term 4 one ∷ term 6 one ∷ []) ∷ binding 0 2 (term 5 one ∷ []) ∷ []
  one_of_three = refl

  -- a balance sheet of three periods, in the last of which a contributor is missing
  three_periods : bindings_of (network (codes "r1") (arc t u one ∷ arc t s one ∷ arc t a one ∷ []) ∷ [])
      (point t 0 ∷ point u 0 ∷ point s 0 ∷ point a 0 ∷ point t 1 ∷ point u 1 ∷ point s 1 ∷ point a 1 ∷ point t 2 ∷ point u 2 ∷ point s 2 ∷ [])
      ≡ binding 0 0 (term 1 one ∷ term 2 one ∷ term 3 one ∷ []) ∷ binding 0 4 (term 5 one ∷ term 6 one ∷ term 7 one ∷ []) ∷ binding 0 8 (term 9 one ∷ term 10 one ∷ []) ∷ []
  three_periods = refl
