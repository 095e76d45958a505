-- The networks of arcs, the nodes and the typed dimensions, with other numbers.
use Rattle.std.proofs.Common.{◌≡◌, ◌&&◌, ◌||◌, ℕ, List, [], ◌∷◌, Bool, true, false, not, if◌then◌else◌, map, filter, filter_map, take, Option, Some, None, option_map, option_and_then, slice_get, refl, sym, ap, subst, ◌∙◌}
use Rattle.std.proofs.lemmas.List.{length-map, take-map}
use Rattle.std.proofs.lemmas.Option.{slice_get-map}
use Rattle.std.proofs.lemmas.Simd.{map-map}
use Rattle.std.specs.Cmp.Lexicographic.{slice_cmp}
use Rattle.std.specs.List.{list_any, range_with_len}
use Rattle.std.specs.List.Sorted.{IsStrictlySortedBy}
use Rattle.std.specs.Ordering.{nat_cmp, int_eq}
use Rattle.std.specs.Prelude.{int_lt}
use Rattle.std.specs.Str.{bytes_eq}
use Rattle.xc_calc.specs.Effective.{is_same_number, are_same, is_equivalent, is_prohibited, is_higher, is_rival, is_barred_by, is_effective, effective_at, effective_arcs}
use Rattle.xc_calc.specs.Networks.{has_role, some_role, arcs_of, AreNetworks}
use Rattle.xc_calc.specs.Wanted.{is_end, is_node, AreNodes}
use Rattle.xc_calc.specs.declared.arc.ListedArc.{ListedArc}
use Rattle.xc_calc.specs.declared.arc.Network.{Network}
use Rattle.xc_concepts.specs.Declarations.{concepts_in}
use Rattle.xc_concepts.specs.Held.{is_typed_as, is_typed, AreTyped}
use Rattle.xc_names.specs.NameSets.{is_among}
use Rattle.xc_lists.specs.Places.{places}
use Rattle.xc_concepts.specs.declared.schema.Schema.{Schema}
use Rattle.xc_lists.proofs.ListsOfImages.{any_changed, filter_map_changed}
use Rattle.xc_top.proofs.RenamedSchemas.{concepts_renamed}
use Rattle.xc_top.proofs.Renaming.{IsInjective, same_number, renamed_concept, renamed_schema, renamed_arc, renamed_listed, renamed_network}

module _ (f : ℕ → ℕ) (injective : IsInjective f) where
  -- ---- effective arcs

  equivalent_alike : (a b : ListedArc) → is_equivalent (renamed_listed f a) (renamed_listed f b) ≡ is_equivalent a b
  equivalent_alike a b = λ i.
      same_number f injective a.arc.from.0 b.arc.from.0 i && same_number f injective a.arc.to.0 b.arc.to.0 i && bytes_eq a.role b.role
      && is_same_number a.arc.weight b.arc.weight && is_same_number a.order b.order && are_same a.others b.others

  higher_alike : (a : ListedArc) (arcs : List ListedArc) → list_any (is_higher (renamed_listed f a)) (map (renamed_listed f) arcs) ≡ list_any (is_higher a) arcs
  higher_alike a arcs = any_changed (renamed_listed f) (is_higher (renamed_listed f a)) (is_higher a) (λ b. ap (λ t. t && int_lt a.priority b.priority) (equivalent_alike a b)) arcs

  barred_alike : (a : ListedArc) (arcs : List ListedArc) → list_any (is_barred_by (renamed_listed f a)) (map (renamed_listed f) arcs) ≡ list_any (is_barred_by a) arcs
  barred_alike a arcs = any_changed (renamed_listed f) (is_barred_by (renamed_listed f a)) (is_barred_by a) (λ b. ap (λ t. (t && int_eq a.priority b.priority) && is_prohibited b.usage) (equivalent_alike a b)) arcs

  rivals_alike : (a : ListedArc) (arcs : List ListedArc) → list_any (is_rival (renamed_listed f a)) (map (renamed_listed f) arcs) ≡ list_any (is_rival a) arcs
  rivals_alike a arcs = any_changed (renamed_listed f) (is_rival (renamed_listed f a)) (is_rival a) (λ b. ap (λ t. t && int_eq a.priority b.priority) (equivalent_alike a b)) arcs

  earlier_alike : (arcs : List ListedArc) (at : ℕ) (a : ListedArc) → list_any (is_rival (renamed_listed f a)) (take at (map (renamed_listed f) arcs)) ≡ list_any (is_rival a) (take at arcs)
  earlier_alike arcs at a = ap (list_any (is_rival (renamed_listed f a))) (take-map (renamed_listed f) at arcs) ∙ rivals_alike a (take at arcs)

  effective_alike : (arcs : List ListedArc) (at : ℕ) (a : ListedArc) → is_effective (map (renamed_listed f) arcs) at (renamed_listed f a) ≡ is_effective arcs at a
  effective_alike arcs at a = λ i.
      not (is_prohibited a.usage)
      && not (higher_alike a arcs i)
      && not (barred_alike a arcs i)
      && not (earlier_alike arcs at a i)

  chosen : (t : Bool) (a : ListedArc) → (if t then Some (renamed_listed f a) else None) ≡ option_map (renamed_listed f) (if t then Some a else None)
  chosen true a = refl
  chosen false a = refl

  effective_found : (arcs : List ListedArc) (at : ℕ) (o : Option ListedArc)
      → option_and_then (λ a. if is_effective (map (renamed_listed f) arcs) at a then Some a else None) (option_map (renamed_listed f) o)
      ≡ option_map (renamed_listed f) (option_and_then (λ a. if is_effective arcs at a then Some a else None) o)
  effective_found arcs at None = refl
  effective_found arcs at (Some a) = ap (λ t. if t then Some (renamed_listed f a) else None) (effective_alike arcs at a) ∙ chosen (is_effective arcs at a) a

  effective_at_alike : (arcs : List ListedArc) (at : ℕ) → effective_at (map (renamed_listed f) arcs) at ≡ option_map (renamed_listed f) (effective_at arcs at)
  effective_at_alike arcs at =
      ap (option_and_then (λ a. if is_effective (map (renamed_listed f) arcs) at a then Some a else None)) (slice_get-map (renamed_listed f) arcs at)
      ∙ effective_found arcs at (slice_get arcs at)

  -- the same arcs are effective
  pub effective_renamed : (arcs : List ListedArc) → effective_arcs (map (renamed_listed f) arcs) ≡ map (renamed_listed f) (effective_arcs arcs)
  effective_renamed arcs =
      ap (λ n. filter_map (effective_at (map (renamed_listed f) arcs)) (range_with_len 0 n)) (length-map arcs (renamed_listed f))
      ∙ filter_map_changed (renamed_listed f) (effective_at arcs) (effective_at (map (renamed_listed f) arcs)) (effective_at_alike arcs) (places arcs)

  -- ---- networks

  kept : (role : List ℕ) (t : Bool) (a : ListedArc) (rest : List ListedArc)
      → map (λ (x : ListedArc). x.arc) (if t then renamed_listed f a ∷ filter (has_role role) (map (renamed_listed f) rest) else filter (has_role role) (map (renamed_listed f) rest))
      ≡ (if t then renamed_arc f a.arc ∷ arcs_of (map (renamed_listed f) rest) role else arcs_of (map (renamed_listed f) rest) role)
  kept role true a rest = refl
  kept role false a rest = refl

  kept_before : (role : List ℕ) (t : Bool) (a : ListedArc) (rest : List ListedArc)
      → (if t then renamed_arc f a.arc ∷ map (renamed_arc f) (arcs_of rest role) else map (renamed_arc f) (arcs_of rest role))
      ≡ map (renamed_arc f) (map (λ (x : ListedArc). x.arc) (if t then a ∷ filter (has_role role) rest else filter (has_role role) rest))
  kept_before role true a rest = refl
  kept_before role false a rest = refl

  -- the arcs of a role are the same
  role_renamed : (arcs : List ListedArc) (role : List ℕ) → arcs_of (map (renamed_listed f) arcs) role ≡ map (renamed_arc f) (arcs_of arcs role)
  role_renamed [] role = refl
  role_renamed (a ∷ arcs) role =
      kept role (bytes_eq role a.role) a arcs
      ∙ ap (λ xs. if bytes_eq role a.role then renamed_arc f a.arc ∷ xs else xs) (role_renamed arcs role)
      ∙ kept_before role (bytes_eq role a.role) a arcs

  network_renamed : (arcs : List ListedArc) (role : List ℕ) → map (renamed_arc f) (arcs_of (effective_arcs arcs) role) ≡ arcs_of (effective_arcs (map (renamed_listed f) arcs)) role
  network_renamed arcs role = sym (ap (λ xs. arcs_of xs role) (effective_renamed arcs) ∙ role_renamed (effective_arcs arcs) role)

  some_role_alike : (arcs : List ListedArc) (role : List ℕ) → some_role (effective_arcs (map (renamed_listed f) arcs)) role ≡ some_role (effective_arcs arcs) role
  some_role_alike arcs role =
      ap (λ xs. some_role xs role) (effective_renamed arcs)
      ∙ any_changed (renamed_listed f) (has_role role) (has_role role) (λ a. refl) (effective_arcs arcs)

  roles_stay : (networks : List Network) → map (λ (n : Network). n.role) (map (renamed_network f) networks) ≡ map (λ (n : Network). n.role) networks
  roles_stay networks = map-map (λ (n : Network). n.role) (renamed_network f) networks

  pub networks_renamed : (arcs : List ListedArc) (networks : List Network) → AreNetworks arcs networks → AreNetworks (map (renamed_listed f) arcs) (map (renamed_network f) networks)
  networks_renamed arcs networks are = record {
    ascending = subst (IsStrictlySortedBy (slice_cmp nat_cmp)) (sym (roles_stay networks)) are.ascending;
    arcs_are =
        map-map (λ (n : Network). n.arcs) (renamed_network f) networks
        ∙ sym (map-map (map (renamed_arc f)) (λ (n : Network). n.arcs) networks)
        ∙ ap (map (map (renamed_arc f))) are.arcs_are
        ∙ map-map (map (renamed_arc f)) (λ (n : Network). arcs_of (effective_arcs arcs) n.role) networks
        ∙ ap (λ own. map own networks) (λ i (n : Network). network_renamed arcs n.role i)
        ∙ sym (map-map (λ (n : Network). arcs_of (effective_arcs (map (renamed_listed f) arcs)) n.role) (renamed_network f) networks);
    roles = λ role. ap (list_any (bytes_eq role)) (roles_stay networks) ∙ are.roles role ∙ sym (some_role_alike arcs role);
  }

  -- ---- nodes and typed dimensions

  end_alike : (number : ℕ) (a : ListedArc) → is_end (f number) (renamed_arc f a.arc) ≡ is_end number a.arc
  end_alike number a = λ i. same_number f injective a.arc.from.0 number i || same_number f injective a.arc.to.0 number i

  pub node_alike : (arcs : List ListedArc) (number : ℕ) → is_node (map (renamed_listed f) arcs) (f number) ≡ is_node arcs number
  node_alike arcs number = any_changed (renamed_listed f) (λ (a : ListedArc). is_end (f number) a.arc) (λ (a : ListedArc). is_end number a.arc) (end_alike number) arcs

  -- the same names are nodes
  pub nodes_renamed : (arcs : List ListedArc) (numbers others : List ℕ) → AreNodes arcs numbers → AreNodes (map (renamed_listed f) arcs) others → (number : ℕ) → is_among others (f number) ≡ is_among numbers number
  nodes_renamed arcs numbers others one other number = other.nodes (f number) ∙ node_alike arcs number ∙ sym (one.nodes number)

  pub typed_alike : (schemas : List Schema) (number : ℕ) → is_typed (map (renamed_schema f) schemas) (f number) ≡ is_typed schemas number
  typed_alike schemas number =
      ap (list_any (is_typed_as (f number))) (concepts_renamed f schemas)
      ∙ any_changed (renamed_concept f) (is_typed_as (f number)) (is_typed_as number) (λ c. ap (λ t. t && c.declared.typed) (same_number f injective c.number.0 number)) (concepts_in schemas)

  -- the same names are those of typed dimensions
  pub typed_renamed : (schemas : List Schema) (numbers others : List ℕ) → AreTyped schemas numbers → AreTyped (map (renamed_schema f) schemas) others → (number : ℕ) → is_among others (f number) ≡ is_among numbers number
  typed_renamed schemas numbers others one other number = other.typed (f number) ∙ typed_alike schemas number ∙ sym (one.typed number)
