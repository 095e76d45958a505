-- Other numbers for the same names: what is read of documents, with each number exchanged.
use Rattle.std.proofs.Common.{◌≡◌, ◌==◌, ℕ, List, map, Some, ap}
use Rattle.std.proofs.lemmas.Bool.Decides.{Decides-eqb, Decides-like, same_from_decides}
use Rattle.xc_calc.specs.declared.arc.Arc.{Arc}
use Rattle.xc_calc.specs.declared.arc.ListedArc.{ListedArc}
use Rattle.xc_calc.specs.declared.arc.Network.{Network}
use Rattle.xc_concepts.specs.declared.schema.Concept.{Concept}
use Rattle.xc_concepts.specs.declared.schema.Schema.{Schema}
use Rattle.xc_names.specs.Names.{number_of}
use Rattle.xc_names.specs.Prefixes.{Bindings}
use Rattle.xc_names.specs.declared.expanded.Expanded.{Expanded}
use Rattle.xc_names.specs.declared.wanted.Wanted.{Wanted}
use Rattle.xc_points.specs.declared.types.Point.{Point}
use Rattle.xc_report.specs.Renamed.{renamed_id, IsKnownAs}
use Rattle.xc_report.specs.Wanted.{known_of}

-- different numbers stay different
abbrev pub IsInjective : (ℕ → ℕ) → Type 0
IsInjective f = (a b : ℕ) → f a ≡ f b → a ≡ b

-- numbers are equal exactly where those in their place are
pub same_number : (f : ℕ → ℕ) → IsInjective f → (a b : ℕ) → (f a == f b) ≡ (a == b)
same_number f injective a b = same_from_decides (f a == f b) (a == b) (Decides-like (f a == f b) (injective a b) (λ e. ap f e) (Decides-eqb (f a) (f b))) (Decides-eqb a b)

-- names with one number in the one list have one number, or none, in the other
abbrev pub AreOneElsewhere : List Expanded → List Expanded → Type 0
AreOneElsewhere one other = (space local other_space other_local : List ℕ) (a : ℕ) → number_of space local one ≡ Some a → number_of other_space other_local one ≡ Some a → number_of space local other ≡ number_of other_space other_local other

-- a name that has a number in both lists has the second where its first was
pub record IsRenaming (one other : List Expanded) (f : ℕ → ℕ) : Type 0 where
  pub injective : IsInjective f
  pub carries : (space local : List ℕ) (a b : ℕ) → number_of space local one ≡ Some a → number_of space local other ≡ Some b → f a ≡ b
  pub there : AreOneElsewhere one other
  pub back : AreOneElsewhere other one

module _ (f : ℕ → ℕ) where
  abbrev pub renamed_concept : Concept → Concept
  renamed_concept c = record { number = renamed_id f c.number; declared = c.declared }

  abbrev pub renamed_schema : Schema → Schema
  renamed_schema s = record { file = s.file; concepts = map renamed_concept s.concepts; types = s.types }

  abbrev pub renamed_arc : Arc → Arc
  renamed_arc a = record { from = renamed_id f a.from; to = renamed_id f a.to; weight = a.weight }

  abbrev pub renamed_listed : ListedArc → ListedArc
  renamed_listed a = record { role = a.role; arc = renamed_arc a.arc; order = a.order; others = a.others; priority = a.priority; usage = a.usage }

  abbrev pub renamed_network : Network → Network
  renamed_network n = record { role = n.role; arcs = map renamed_arc n.arcs }

  abbrev pub renamed_point : Point → Point
  renamed_point p = record { concept = renamed_id f p.concept; key = p.key; facts = p.facts; range = p.range }

-- two numberings of what one taxonomy says, or of what the words of `sum` name
pub record IsRenamed (names : List Expanded) (networks : List Network) (wanted : Wanted) (other_names : List Expanded) (other_networks : List Network) (other_wanted : Wanted) : Type 0 where
  pub by : ℕ → ℕ
  pub injective : IsInjective by
  pub networks_are : other_networks ≡ map (renamed_network by) networks
  pub known : (prefixes : Bindings) → IsKnownAs by (known_of prefixes names wanted) (known_of prefixes other_names other_wanted)
