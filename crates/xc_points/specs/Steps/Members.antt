-- Steps of the code: which facts belong together, by the place of the first fact of each one's point.
use Rattle.std.specs.Prelude.{ℕ, ◌+◌, ◌==◌, List, [], ◌∷◌, map, length, Option, None, option_map, slice_get, if◌then◌else◌}
use Rattle.std.specs.List.{position_or_len, range_with_len}
use Rattle.xc_names.specs.declared.expanded.NameId.{NameId}
use Rattle.xc_points.specs.Gathered.{is_together}
use Rattle.xc_points.specs.declared.types.Place.{Place}
use Rattle.xc_report.specs.declared.reports.Fact.{Fact}

-- the concept and the key of a fact
abbrev pub fact_place : Fact → Place
fact_place fact = record { concept = fact.concept; key = fact.key }

-- for each fact the number of the first fact of its point
abbrev pub firsts_of : List Fact → List ℕ
firsts_of facts = map (λ fact. position_or_len (is_together fact) facts) facts

-- of the facts from number `from` on, the numbers of those whose first is fact number f
abbrev pub members_from : (f from : ℕ) → (firsts : List ℕ) → List ℕ
members_from f from [] = []
members_from f from (first ∷ firsts) = if first == f then from ∷ members_from f (from + 1) firsts else members_from f (from + 1) firsts

-- for each fact the numbers of those whose first it is
abbrev pub members_by : List ℕ → List (List ℕ)
members_by firsts = map (λ f. members_from f 0 firsts) (range_with_len 0 (length firsts))

-- the concept, the key and the numbers of facts that belong together, if there are any
abbrev pub group_at : List Fact → List ℕ → Option (NameId × ℕ × List ℕ)
group_at facts [] = None
group_at facts (f ∷ fs) = option_map (λ fact. (fact.concept, fact.key, f ∷ fs)) (slice_get facts f)
