use Rattle.std.proofs.Common.{◌≡◌, ◌<◌, List, Vec, Global, ℕ, length, subst, ap, ◌∙◌, map, slice_index}
use Rattle.std.proofs.lemmas.Result.{IfOk-weaker}
use Rattle.xc_lists.specs.Places.{before}
use Rattle.xc_system.proofs.Found.{found}
use Rattle.xc_lists.specs.Members.{places_with}
use Rattle.xc_system.specs.Steps.Owned.{owner_of}
use Rattle.xc_system.specs.Steps.Roots.{IsRoots, rank}
use Rattle.xc_system.specs.declared.types.Component.{Component}
use Rattle.xc_system.proofs.linking.components_of.Goals as goal

pub returns : goal.returns
returns c s points equations =
    let up = c.in_ok-up.up.items in
    let ns = c.in_ok-numbers.numbers.items in
    let count = c.in_ok-numbers.count in
    let one : c.as_slice.result.now ≡ up = c.as_slice.ensures.value in
    let numbers : (root : ℕ → ℕ) → IsRoots up root → (q : ℕ) → q < length up → slice_index ns q ≡ rank up (root q) =
    subst (λ (u : List ℕ). (root : ℕ → ℕ) → IsRoots u root → (q : ℕ) → q < length u → slice_index ns q ≡ rank u (root q)) one c.in_ok-numbers.ensures.numbers in
    IfOk-weaker _ _ _
    (λ (cs : Vec Component Global) is. found s c.args.equations.now up ns c.in_ok-owners.owners.items c.in_ok-points.points.items c.in_ok-equations.equations.items cs.items c.args.points count points equations
    c.in_ok-up.ensures.length c.in_ok-up.ensures.joined
    (c.in_ok-numbers.ensures.length ∙ ap length one)
    (c.in_ok-numbers.ensures.count ∙ ap (λ (u : List ℕ). rank u (length u)) one)
    numbers c.requires.named
    (c.in_ok-owners.ensures ∙ ap (λ (l : List ℕ). map (owner_of l count) c.args.equations.now) c.as_slice-2.ensures.value)
    (c.in_ok-points.ensures ∙ ap (λ (l : List ℕ). map (places_with l) (before count)) c.as_slice-3.ensures.value)
    (c.in_ok-equations.ensures ∙ ap (λ (l : List ℕ). map (places_with l) (before count)) c.as_slice-4.ensures.value)
    is)
    c.pair_with_equations.ensures
