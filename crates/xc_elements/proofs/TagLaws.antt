-- Loops over the attributes of a tag.
use Rattle.std.proofs.Common.{◌≡◌, ℕ, Bool, true, false, ◌<◌, List, [], ◌∷◌, ◌++◌, length, Option, Some, None, refl, sym, ap, ◌∙◌}
use Rattle.std.specs.Prelude.{map, reverse, ◌||◌, IsSome, option_map}
use Rattle.std.specs.List.{filter_map, cons_option, list_any}
use Rattle.std.proofs.lemmas.List.Elements.{filter_map-append}
use Rattle.std.proofs.lemmas.List.Folds.{list_any-append}
use Rattle.std.proofs.lemmas.List.{map-append, reverse-append}
use Rattle.xc_elements.specs.Fronts.{More, Last}
use Rattle.xc_elements.specs.Items.{Pair, attribute_or_end, tag_rest}
use Rattle.xc_elements.specs.Steps.Views.{attributes_at}
use Rattle.xc_elements.specs.Namespaces.{Binding, given_of, binding_of, declaration_of, expand, lacks_space}
use Rattle.xc_elements.specs.declared.nodes.Attribute.{Attribute}
use Rattle.xc_elements.specs.declared.nodes.NamespaceDeclaration.{NamespaceDeclaration}
use Rattle.xc_elements.proofs.FrontLaws.{found}
use Rattle.xc_elements.proofs.SequenceLaws.{turns_from_ends}
use Rattle.xc_elements.proofs.ItemLaws.{attribute_or_end_ends}
use Rattle.xc_elements.proofs.LoopLaws.{more_shorter}
use Rattle.xc_elements.proofs.GatherLaws.{Gathers, gathers_none, gathers_more, gathers_last, gathers_nowhere}

-- where the attributes end, they are those that have been gathered
pub all_gathered : (text rest after : List ℕ) (so_far : List Pair) (b : Bool) → found (Last b) after ≡ attribute_or_end rest → Gathers attribute_or_end text rest so_far → attributes_at text ≡ so_far
unfolding tag_rest
all_gathered text rest after so_far b is g = rw (gathers_last attribute_or_end text rest after so_far b (turns_from_ends attribute_or_end_ends) is g) refl

pub more_gathered : (text rest after : List ℕ) (so_far : List Pair) (a : Pair) → found (More a) after ≡ attribute_or_end rest → Gathers attribute_or_end text rest so_far → Gathers attribute_or_end text after (so_far ++ a ∷ [])
more_gathered text rest after so_far a is g = gathers_more attribute_or_end text rest after so_far a (turns_from_ends attribute_or_end_ends) is g

pub never_endless : (text rest : List ℕ) (so_far : List Pair) → IsSome (tag_rest text) → None ≡ attribute_or_end rest → Gathers attribute_or_end text rest so_far → ⊥
unfolding tag_rest
never_endless text rest so_far some is g = let wrong = rw (gathers_nowhere attribute_or_end text rest so_far is g) at some in absurd cc

-- ---- declarations

-- what the attributes that have been passed declare is in scope, and has been gathered
pub record Declares (text rest : List ℕ) (old new : List Binding) (declared : List NamespaceDeclaration) : Type 0 where
  pub so_far : List Pair
  pub gathers : Gathers attribute_or_end text rest so_far
  pub scope : new ≡ reverse (filter_map binding_of (map given_of so_far)) ++ old
  pub are : declared ≡ map declaration_of (reverse (filter_map binding_of (map given_of so_far)))

pub declares_none : (text : List ℕ) (old : List Binding) (declared : List NamespaceDeclaration) → declared ≡ [] → Declares text text old old declared
declares_none text old declared e = record { so_far = []; gathers = gathers_none attribute_or_end text; scope = refl; are = e }

first_of : (o : Option Binding) (bs : List Binding) → reverse (cons_option o []) ++ bs ≡ cons_option o bs
first_of None bs = refl
first_of (Some b) bs = refl

-- what one more attribute declares is first in scope
declared_more : (so_far : List Pair) (a : Pair) (o : Option Binding) → binding_of (given_of a) ≡ o → reverse (filter_map binding_of (map given_of (so_far ++ a ∷ []))) ≡ cons_option o (reverse (filter_map binding_of (map given_of so_far)))
declared_more so_far a o e =
    ap (λ gs. reverse (filter_map binding_of gs)) (map-append given_of so_far (a ∷ []))
    ∙ ap reverse (filter_map-append binding_of (map given_of so_far) (given_of a ∷ []))
    ∙ reverse-append (filter_map binding_of (map given_of so_far)) (filter_map binding_of (given_of a ∷ []))
    ∙ ap (λ q. reverse (cons_option q []) ++ reverse (filter_map binding_of (map given_of so_far))) e
    ∙ first_of o (reverse (filter_map binding_of (map given_of so_far)))

past_first : (o : Option Binding) (bs cs : List Binding) → cons_option o (bs ++ cs) ≡ cons_option o bs ++ cs
past_first None bs cs = refl
past_first (Some b) bs cs = refl

map_first : (o : Option Binding) (bs : List Binding) → cons_option (option_map declaration_of o) (map declaration_of bs) ≡ map declaration_of (cons_option o bs)
map_first None bs = refl
map_first (Some b) bs = refl

pub declares_more : (text rest after : List ℕ) (old new later : List Binding) (declared more : List NamespaceDeclaration) (a : Pair) → found (More a) after ≡ attribute_or_end rest →
    later ≡ cons_option (binding_of (given_of a)) new → more ≡ cons_option (option_map declaration_of (binding_of (given_of a))) declared →
    Declares text rest old new declared → Declares text after old later more
declares_more text rest after old new later declared more a is bound made d = let o = binding_of (given_of a) in record {
  so_far = d.so_far ++ a ∷ [];
  gathers = more_gathered text rest after d.so_far a is d.gathers;
  scope = bound
      ∙ ap (λ bs. cons_option o bs) d.scope
      ∙ past_first o (reverse (filter_map binding_of (map given_of d.so_far))) old
      ∙ ap (λ (bs : List Binding). bs ++ old) (sym (declared_more d.so_far a o refl));
  are = made
      ∙ ap (λ ds. cons_option (option_map declaration_of o) ds) d.are
      ∙ map_first o (reverse (filter_map binding_of (map given_of d.so_far)))
      ∙ ap (map declaration_of) (sym (declared_more d.so_far a o refl));
}

pub declares_all : (text rest after : List ℕ) (old new : List Binding) (declared : List NamespaceDeclaration) (b : Bool) → found (Last b) after ≡ attribute_or_end rest → Declares text rest old new declared → new ≡ reverse (filter_map binding_of (map given_of (attributes_at text))) ++ old
declares_all text rest after old new declared b is d =
    d.scope ∙ ap (λ pairs. reverse (filter_map binding_of (map given_of pairs)) ++ old) (sym (all_gathered text rest after d.so_far b is d.gathers))

pub declared_all : (text rest after : List ℕ) (old new : List Binding) (declared : List NamespaceDeclaration) (b : Bool) → found (Last b) after ≡ attribute_or_end rest → Declares text rest old new declared → declared ≡ map declaration_of (reverse (filter_map binding_of (map given_of (attributes_at text))))
declared_all text rest after old new declared b is d =
    d.are ∙ ap (λ pairs. map declaration_of (reverse (filter_map binding_of (map given_of pairs)))) (sym (all_gathered text rest after d.so_far b is d.gathers))

-- ---- expanded names

-- the attributes that have been passed are expanded
pub record Expands (text rest : List ℕ) (scope : List Binding) (attributes : List Attribute) (lacks : Bool) : Type 0 where
  pub so_far : List Pair
  pub gathers : Gathers attribute_or_end text rest so_far
  pub are : attributes ≡ map (expand scope) (map given_of so_far)
  pub lack : lacks ≡ list_any (lacks_space scope) (map given_of so_far)

pub expands_none : (text : List ℕ) (scope : List Binding) → Expands text text scope [] false
expands_none text scope = record { so_far = []; gathers = gathers_none attribute_or_end text; are = refl; lack = refl }

or-false : (b : Bool) → (b || false) ≡ b
or-false true = refl
or-false false = refl

pub expands_more : (text rest after : List ℕ) (scope : List Binding) (attributes : List Attribute) (lacks here : Bool) (a : Pair) → found (More a) after ≡ attribute_or_end rest → here ≡ lacks_space scope (given_of a) → Expands text rest scope attributes lacks → Expands text after scope (attributes ++ expand scope (given_of a) ∷ []) (lacks || here)
expands_more text rest after scope attributes lacks here a is e x = record {
  so_far = x.so_far ++ a ∷ [];
  gathers = more_gathered text rest after x.so_far a is x.gathers;
  are = ap (λ (made : List Attribute). made ++ expand scope (given_of a) ∷ []) x.are
      ∙ sym (map-append (expand scope) (map given_of x.so_far) (given_of a ∷ []))
      ∙ ap (map (expand scope)) (sym (map-append given_of x.so_far (a ∷ [])));
  lack = ap (λ t. t || here) x.lack
      ∙ ap (λ t. list_any (lacks_space scope) (map given_of x.so_far) || t) (e ∙ sym (or-false (lacks_space scope (given_of a))))
      ∙ sym (list_any-append (lacks_space scope) (map given_of x.so_far) (given_of a ∷ []))
      ∙ ap (λ gs. list_any (lacks_space scope) gs) (sym (map-append given_of x.so_far (a ∷ [])));
}

pub expands_all : (text rest after : List ℕ) (scope : List Binding) (attributes : List Attribute) (lacks : Bool) (b : Bool) → found (Last b) after ≡ attribute_or_end rest → Expands text rest scope attributes lacks → (attributes ≡ map (expand scope) (map given_of (attributes_at text))) × (lacks ≡ list_any (lacks_space scope) (map given_of (attributes_at text)))
expands_all text rest after scope attributes lacks b is x =
    let all = all_gathered text rest after x.so_far b is x.gathers in
    (x.are ∙ ap (λ pairs. map (expand scope) (map given_of pairs)) (sym all), x.lack ∙ ap (λ pairs. list_any (lacks_space scope) (map given_of pairs)) (sym all))

-- an attribute is at least a character
pub attribute_shorter : (rest after : List ℕ) (a : Pair) → found (More a) after ≡ attribute_or_end rest → length after < length rest
attribute_shorter rest after a is = more_shorter attribute_or_end rest after a (turns_from_ends attribute_or_end_ends) is
