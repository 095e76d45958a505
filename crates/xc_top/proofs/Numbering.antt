-- Names keep their numbers while others are numbered.
use Rattle.std.proofs.Common.{◌≡◌, ℕ, List, [], ◌∷◌, ◌++◌, map, Option, Some, None, option_and_then, sym, ap, subst, ◌∙◌, append_assoc, append-nil}
use Rattle.std.proofs.lemmas.List.{map-append}
use Rattle.std.specs.FinMap.{get}
use Rattle.std.specs.List.{zip}
use Rattle.std.specs.Option.{option_or}
use Rattle.xc_calc.specs.declared.arc.Network.{Network}
use Rattle.xc_lists.specs.Places.{first_given}
use Rattle.xc_names.specs.Names.{number_of, KeepsNumbers}
use Rattle.xc_chars.specs.PlainNames.{split}
use Rattle.xc_names.specs.Prefixes.{Bindings}
use Rattle.xc_names.specs.declared.expanded.Expanded.{Expanded}
use Rattle.xc_names.specs.declared.expanded.NameId.{NameId}
use Rattle.xc_names.specs.declared.wanted.Wanted.{Wanted}
use Rattle.xc_report.specs.Opened.{Opened}
use Rattle.xc_top.specs.Steps.Chain.{Asked, IsFactsAnswer, IsNumberedAnswer, sum_asked}
use Rattle.xc_top.specs.Sums.{named_words, unbound, number_in, sum_network, AreNodesOf}
use Rattle.xc_top.specs.Words.{SumWords, name_of}
use Rattle.xc_top.specs.declared.status.Answer.{Answer}

pub kept_twice : (one two three : List Expanded) → KeepsNumbers one two → KeepsNumbers two three → KeepsNumbers one three
kept_twice one two three h k = λ space local number e. k space local number (h space local number e)

-- the number of a text stays
pub number_kept : (prefixes : Bindings) (names after : List Expanded) (name : List ℕ) (number : ℕ) → KeepsNumbers names after → number_in prefixes names name ≡ Some number → number_in prefixes after name ≡ Some number
number_kept prefixes names after name number keeps = by (split name)
  where
    bound : (local : List ℕ) (space : Option (List ℕ)) → option_and_then (λ s. number_of s local names) space ≡ Some number → option_and_then (λ s. number_of s local after) space ≡ Some number
    bound local None e = absurd (cc)
    bound local (Some s) e = keeps s local number e

    by : (parts : Option (List ℕ × List ℕ)) → option_and_then (λ p. option_and_then (λ s. number_of s p.1 names) (get prefixes p.0)) parts ≡ Some number → option_and_then (λ p. option_and_then (λ s. number_of s p.1 after) (get prefixes p.0)) parts ≡ Some number
    by None e = absurd (cc)
    by (Some p) e = bound p.1 (get prefixes p.0) e

-- ---- the contributors of `sum`

-- the number of a contributor's name
abbrev pub number_of_term : Bindings → List Expanded → List ℕ → Option ℕ
number_of_term prefixes names term = number_in prefixes names (name_of term)

abbrev pub some_number : NameId → Option ℕ
some_number id = Some id.0

-- a contributor with the name in it
abbrev pub with_name : List ℕ → List ℕ × List ℕ
with_name term = (term, name_of term)

-- one more is numbered
pub numbers_more : (prefixes : Bindings) (after : List Expanded) (all left rest : List (List ℕ)) (term : List ℕ) (ids : List NameId) (id : NameId)
    → left ≡ term ∷ rest → number_of_term prefixes after term ≡ some_number id
    → map (number_of_term prefixes after) all ≡ map some_number ids ++ map (number_of_term prefixes after) left
    → map (number_of_term prefixes after) all ≡ map some_number (ids ++ id ∷ []) ++ map (number_of_term prefixes after) rest
numbers_more prefixes after all left rest term ids id e number h =
    h
    ∙ ap (λ ts. map some_number ids ++ map (number_of_term prefixes after) ts) e
    ∙ ap (λ o. map some_number ids ++ o ∷ map (number_of_term prefixes after) rest) number
    ∙ sym (ap (λ xs. xs ++ map (number_of_term prefixes after) rest) (map-append some_number ids (id ∷ []))
    ∙ append_assoc (map some_number ids) (some_number id ∷ []) (map (number_of_term prefixes after) rest))

-- all are numbered
pub numbers_all : (prefixes : Bindings) (after : List Expanded) (all left : List (List ℕ)) (ids : List NameId)
    → left ≡ []
    → map (number_of_term prefixes after) all ≡ map some_number ids ++ map (number_of_term prefixes after) left
    → map (number_of_term prefixes after) all ≡ map some_number ids
numbers_all prefixes after all left ids e h = h ∙ ap (λ ts. map some_number ids ++ map (number_of_term prefixes after) ts) e ∙ append-nil (map some_number ids)

-- one whose prefix is declared is passed over
pub bound_more : (prefixes : Bindings) (report : List ℕ) (all left rest : List (List ℕ)) (term : List ℕ)
    → left ≡ term ∷ rest → unbound prefixes report (with_name term) ≡ None
    → first_given (unbound prefixes report) (map with_name left) ≡ first_given (unbound prefixes report) (map with_name all)
    → first_given (unbound prefixes report) (map with_name rest) ≡ first_given (unbound prefixes report) (map with_name all)
bound_more prefixes report all left rest term e none h =
    sym (ap (λ o. option_or o (first_given (unbound prefixes report) (map with_name rest))) none)
    ∙ sym (ap (λ ts. first_given (unbound prefixes report) (map with_name ts)) e)
    ∙ h

-- what is answered of the facts is answered of the words
pub numbered_answer : (sum : SumWords) (opened : Opened) (prefixes : Bindings) (names : List Expanded) (total : NameId) (terms : List NameId) (wanted : Wanted) (networks : List Network) (asked : Asked) (answer : Answer)
    → prefixes ≡ opened.prefixes → first_given (unbound prefixes sum.report) (named_words sum) ≡ None
    → number_in prefixes names sum.total ≡ Some total.0
    → map (λ term. number_in prefixes names (name_of term)) sum.terms ≡ map (λ id. Some id.0) terms
    → networks ≡ sum_network total (zip sum.terms terms) ∷ []
    → AreNodesOf (total ∷ terms) (map (λ id. id.0) wanted.nodes) → wanted.typed ≡ []
    → asked ≡ sum_asked sum → IsFactsAnswer asked names networks wanted opened answer
    → IsNumberedAnswer sum opened answer
numbered_answer sum opened prefixes names total terms wanted networks asked answer e bound total_is terms_are same nodes typed ask is = record {
  bound = subst (λ p. first_given (unbound p sum.report) (named_words sum) ≡ None) e bound;
  names = names;
  total = total;
  terms = terms;
  wanted = wanted;
  numbers = record {
    total_is = subst (λ p. number_in p names sum.total ≡ Some total.0) e total_is;
    terms_are = subst (λ p. map (λ term. number_in p names (name_of term)) sum.terms ≡ map (λ id. Some id.0) terms) e terms_are;
    nodes = nodes;
    typed = typed;
  };
  answered = subst (λ n. IsFactsAnswer (sum_asked sum) names n wanted opened answer) same (subst (λ a. IsFactsAnswer a names networks wanted opened answer) ask is);
}
