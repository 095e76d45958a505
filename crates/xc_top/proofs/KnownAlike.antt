-- What is known of names does not depend on their numbers, where the same names are nodes and typed dimensions.
use Rattle.std.proofs.Common.{◌≡◌, ◌==◌, ◌||◌, ℕ, List, [], ◌∷◌, Bool, true, false, if◌then◌else◌, map, Option, Some, None, option_map, is_some, refl, sym, ap, ◌∙◌}
use Rattle.std.proofs.lemmas.Bool.{false_from_ne_true}
use Rattle.std.proofs.lemmas.Bool.Decides.{Decides-eqb, same_from_decides}
use Rattle.std.proofs.lemmas.Option.{none-some}
use Rattle.xc_calc.specs.Ends.{name_id}
use Rattle.xc_names.specs.NameSets.{is_among}
use Rattle.xc_names.specs.Names.{number_of}
use Rattle.xc_names.specs.Prefixes.{Bindings}
use Rattle.xc_names.specs.declared.expanded.Expanded.{Expanded}
use Rattle.xc_names.specs.declared.expanded.NameId.{NameId}
use Rattle.xc_names.specs.declared.wanted.Wanted.{Wanted}
use Rattle.xc_report.specs.Wanted.{known_of, is_listed, number_if_listed}
use Rattle.xc_top.proofs.RenamedNames.{IsOneName}
use Rattle.xc_report.specs.Renamed.{renamed_id, IsKnownAs}
use Rattle.xc_top.proofs.Renaming.{IsRenaming}

swapped : (a b : ℕ) → (a == b) ≡ (b == a)
swapped a b = same_from_decides {P = a ≡ b} (a == b) (b == a) (Decides-eqb a b) (λ e. sym ((Decides-eqb b a).0 e), λ e. (Decides-eqb b a).1 (sym e))

-- a number is listed where it is among the numbers of the ids
pub listed_among : (ids : List NameId) (number : ℕ) → is_listed ids number ≡ is_among (map (λ id. id.0) ids) number
listed_among [] number = refl
listed_among (id ∷ ids) number = λ i. swapped number id.0 i || listed_among ids number i

-- the ids of two lists are those of the same names, each of which both lists of names have
pub record AreAlike (f : ℕ → ℕ) (one other : List Expanded) (ids others : List NameId) : Type 0 where
  pub same : (number : ℕ) → is_listed others (f number) ≡ is_listed ids number
  pub shared : (number : ℕ) → is_listed ids number ≡ true → (b : ℕ) × IsOneName one other number b
  pub shared_back : (number : ℕ) → is_listed others number ≡ true → (a : ℕ) × IsOneName one other a number

not_listed : (ids : List NameId) (number : ℕ) → (is_listed ids number ≡ true → ⊥) → number_if_listed ids (Some number) ≡ None
not_listed ids number no_one = ap (λ t. if t then Some (name_id number) else None) (false_from_ne_true (is_listed ids number) no_one)

is_some_renamed : (f : ℕ → ℕ) (o : Option NameId) → is_some (option_map (renamed_id f) o) ≡ is_some o
is_some_renamed f None = refl
is_some_renamed f (Some id) = refl

module _ (f : ℕ → ℕ) (one other : List Expanded) (is : IsRenaming one other f) where
  module _ (ids others : List NameId) (alike : AreAlike f one other ids others) where
    -- a name without a number in the other list is not listed
    not_shared : (space local : List ℕ) (a : ℕ) → number_of space local one ≡ Some a → number_of space local other ≡ None → is_listed ids a ≡ true → ⊥
    not_shared space local a e none h =
        let found = alike.shared a h in
        let name = found.1 in
        none-some found.0 (sym none ∙ is.there space local name.space name.local a e name.first ∙ name.second)

    not_shared_back : (space local : List ℕ) (b : ℕ) → number_of space local one ≡ None → number_of space local other ≡ Some b → is_listed others b ≡ true → ⊥
    not_shared_back space local b none e h =
        let found = alike.shared_back b h in
        let name = found.1 in
        none-some found.0 (sym none ∙ is.back space local name.space name.local b e name.second ∙ name.first)

    chosen : (a : ℕ) (t : Bool) → (if t then Some (name_id (f a)) else None) ≡ option_map (renamed_id f) (if t then Some (name_id a) else None)
    chosen a true = refl
    chosen a false = refl

    same_id : (a : ℕ) → number_if_listed others (Some (f a)) ≡ option_map (renamed_id f) (number_if_listed ids (Some a))
    same_id a = ap (λ t. if t then Some (name_id (f a)) else None) (alike.same a) ∙ chosen a (is_listed ids a)

    by_numbers : (space local : List ℕ) (o : Option ℕ) → number_of space local one ≡ o → (p : Option ℕ) → number_of space local other ≡ p → number_if_listed others p ≡ option_map (renamed_id f) (number_if_listed ids o)
    by_numbers space local None e None g = refl
    by_numbers space local (Some a) e None g = sym (ap (option_map (renamed_id f)) (not_listed ids a (not_shared space local a e g)))
    by_numbers space local None e (Some b) g = not_listed others b (not_shared_back space local b e g)
    by_numbers space local (Some a) e (Some b) g = ap (λ n. number_if_listed others (Some n)) (sym (is.carries space local a b e g)) ∙ same_id a

    -- a name is listed alike
    pub listed_alike : (space local : List ℕ) → number_if_listed others (number_of space local other) ≡ option_map (renamed_id f) (number_if_listed ids (number_of space local one))
    listed_alike space local = by_numbers space local (number_of space local one) refl (number_of space local other) refl

  -- what is known is the same but for numbers
  pub known_alike : (wanted other_wanted : Wanted) → AreAlike f one other wanted.nodes other_wanted.nodes → AreAlike f one other wanted.typed other_wanted.typed → (prefixes : Bindings) → IsKnownAs f (known_of prefixes one wanted) (known_of prefixes other other_wanted)
  known_alike wanted other_wanted nodes typed prefixes = record {
    prefixes = refl;
    nodes = λ name. listed_alike wanted.nodes other_wanted.nodes nodes name.space name.local;
    typed = λ name. ap is_some (listed_alike wanted.typed other_wanted.typed typed name.space name.local) ∙ is_some_renamed f (number_if_listed wanted.typed (number_of name.space name.local one));
  }
