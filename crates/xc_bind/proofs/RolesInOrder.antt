-- Bindings by role, where the networks go by role.
use Rattle.std.proofs.Common.{◌≡◌, ◌<◌, ℕ, List, [], map, Some, slice_get, option_map, refl, sym, ap, ◌∙◌}
use Rattle.std.proofs.lemmas.Cmp.{nat_list_cmp_total, tied_itself}
use Rattle.std.proofs.lemmas.Map.Keys.{Less-from_sorted}
use Rattle.std.proofs.lemmas.Option.{slice_get-map, slice_get_within, get_or_from_slice_get}
use Rattle.std.specs.Cmp.{ranked}
use Rattle.std.specs.Cmp.Lexicographic.{slice_cmp}
use Rattle.std.specs.List.Sorted.{IsStrictlySortedBy}
use Rattle.std.specs.Option.{option_map_or}
use Rattle.std.specs.Ordering.{nat_cmp, ordering_then}
use Rattle.std.specs.declared.cmp.Ordering.{Ordering}
use Rattle.std.specs.declared.cmp.Ordering.TheVariants.{Less, Equal, Greater}
use Rattle.xc_bind.proofs.InOrder.{ascend_so}
use Rattle.xc_bind.proofs.Judging.{ComesFrom, comes_from, bindings_ascend}
use Rattle.xc_bind.specs.Bindings.{bindings_of}
use Rattle.xc_bind.specs.Judged.{by_place, by_role}
use Rattle.xc_calc.specs.Networks.{role_of}
use Rattle.xc_bind.specs.declared.types.Binding.{Binding}
use Rattle.xc_calc.specs.declared.arc.Network.{Network}
use Rattle.xc_points.specs.declared.types.Point.{Point}

abbrev roles : List Network → List (List ℕ)
roles networks = map (λ network. network.role) networks

role_at : (networks : List Network) (n : ℕ) (network : Network) → slice_get networks n ≡ Some network → slice_get (roles networks) n ≡ Some network.role
role_at networks n network e = slice_get-map (λ network. network.role) networks n ∙ ap (option_map (λ network. network.role)) e

role_below : (networks : List Network) → IsStrictlySortedBy (slice_cmp nat_cmp) (roles networks) → (m n : ℕ) (a b : Network) → slice_get networks m ≡ Some a → slice_get networks n ≡ Some b → m < n → slice_cmp nat_cmp a.role b.role ≡ Less
role_below networks ascending m n a b is_a is_b h =
    let first = get_or_from_slice_get (roles networks) m a.role [] (role_at networks m a is_a) in
    let second = get_or_from_slice_get (roles networks) n b.role [] (role_at networks n b is_b) in
    let within = slice_get_within (roles networks) n b.role (role_at networks n b is_b) in
    let below = Less-from_sorted (slice_cmp nat_cmp) (roles networks) m n [] ascending h within in
    (λ i. slice_cmp nat_cmp (sym first i) (sym second i)) ∙ below

role_is : (networks : List Network) (points : List Point) (binding : Binding) (from : ComesFrom networks points binding) → role_of networks binding.network ≡ from.network.role
role_is networks points binding from = ap (λ o. option_map_or (λ (network : Network). network.role) o []) from.has_network

agrees : (networks : List Network) (points : List Point) → IsStrictlySortedBy (slice_cmp nat_cmp) (roles networks) → (a b : Binding) → ComesFrom networks points a → ComesFrom networks points b → by_place a b ≡ Less → by_role networks a b ≡ Less
agrees networks points ascending a b from_a from_b e = by (nat_cmp a.network b.network) refl e
  where
    by : (o : Ordering) → nat_cmp a.network b.network ≡ o → ordering_then o (nat_cmp a.total b.total) ≡ Less → by_role networks a b ≡ Less
    by Less is rest =
        let below = role_below networks ascending a.network b.network from_a.network from_b.network from_a.has_network from_b.has_network (ranked a.network b.network Less (sym is)) in
        let roles_less : slice_cmp nat_cmp (role_of networks a.network) (role_of networks b.network) ≡ Less = (λ i. slice_cmp nat_cmp (role_is networks points a from_a i) (role_is networks points b from_b i)) ∙ below in
        ap (λ o. ordering_then o (nat_cmp a.total b.total)) roles_less
    by Equal is rest =
        let same : a.network ≡ b.network = ranked a.network b.network Equal (sym is) in
        let one : role_of networks a.network ≡ role_of networks b.network = ap (λ n. option_map_or (λ (network : Network). network.role) (slice_get networks n) []) same in
        let roles_equal : slice_cmp nat_cmp (role_of networks a.network) (role_of networks b.network) ≡ Equal = ap (λ r. slice_cmp nat_cmp r (role_of networks b.network)) one ∙ tied_itself nat_list_cmp_total (role_of networks b.network) in
        ap (λ o. ordering_then o (nat_cmp a.total b.total)) roles_equal ∙ rest
    by Greater is rest = absurd (cc)

pub roles_in_order : (networks : List Network) (points : List Point) → IsStrictlySortedBy (slice_cmp nat_cmp) (roles networks) → IsStrictlySortedBy (by_role networks) (bindings_of networks points)
roles_in_order networks points ascending =
    ascend_so by_place (by_role networks) (bindings_of networks points)
    (λ a b one other. agrees networks points ascending a b (comes_from networks points a one) (comes_from networks points b other))
    (bindings_ascend networks points)
