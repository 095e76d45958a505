-- Roles that are noted in an ordered set, and the networks of them.
use Rattle.std.proofs.Common.{◌≡◌, ◌<◌, ◌+◌, ◌++◌, ◌||◌, ℕ, List, [], ◌∷◌, Bool, true, false, drop, filter, if◌then◌else◌, refl, get_or, length, map, Result, Ok, Err, IfOk, sym, ap, subst, ◌∙◌}
use Rattle.std.proofs.lemmas.List.{map-append}
use Rattle.std.proofs.lemmas.List.Elements.{filter-append}
use Rattle.std.proofs.lemmas.Map.Text.{is_eq-slice_cmp}
use Rattle.std.specs.BTreeSet.{insert_key}
use Rattle.std.specs.Borrow.{Bor}
use Rattle.std.specs.Cmp.Lexicographic.{slice_cmp}
use Rattle.std.specs.FinMap.{nat_cmp-IsAntisymmetric, slice_cmp-IsAntisymmetric}
use Rattle.std.specs.List.{AllByRecursion, list_any}
use Rattle.std.specs.List.Sorted.{IsStrictlySortedBy}
use Rattle.std.specs.Ordering.{nat_cmp, is_eq}
use Rattle.std.specs.Str.{bytes_eq}
use Rattle.std.specs.declared.cmp.Ordering.TheVariants.{Less}
use Rattle.xc_calc.specs.Effective.{effective_arcs}
use Rattle.xc_calc.specs.Networks.{has_role, some_role, arcs_of, AreNetworks}
use Rattle.xc_calc.specs.Steps.{by_bytes}
use Rattle.xc_calc.specs.declared.arc.Arc.{Arc}
use Rattle.xc_calc.specs.declared.arc.ListedArc.{ListedArc}
use Rattle.xc_calc.specs.declared.arc.Network.{Network}
use Rattle.xc_lists.proofs.Anys.{any_map, any_put_in, any_step}

-- one of these texts is the role
abbrev pub has_text : List (Bor (List ℕ)) → List ℕ → Bool
has_text texts role = list_any (λ r. bytes_eq role r.now) texts

-- a role that is noted is one more
pub role_noted : (ks : List (Bor (List ℕ))) (k : Bor (List ℕ)) (role : List ℕ) → has_text (insert_key by_bytes ks k) role ≡ (has_text ks role || bytes_eq role k.now)
role_noted ks k role = any_put_in by_bytes (λ r. bytes_eq role r.now) (λ k x e. ap (bytes_eq role) (slice_cmp-IsAntisymmetric nat_cmp-IsAntisymmetric k.now x.now e)) ks k

-- what is left has the next in front
pub role_step : (arcs : List (Bor ListedArc)) (i : ℕ) (d : Bor ListedArc) → i < length arcs → d ≡ get_or arcs i d → (role : List ℕ)
    → some_role (map (λ a. a.now) (drop i arcs)) role ≡ (bytes_eq role d.now.role || some_role (map (λ a. a.now) (drop (i + 1) arcs)) role)
role_step arcs i d h is role =
    sym (any_map (has_role role) (λ a. a.now) (drop i arcs))
    ∙ any_step (λ a. has_role role a.now) arcs i d h is
    ∙ ap (λ b. bytes_eq role d.now.role || b) (any_map (has_role role) (λ a. a.now) (drop (i + 1) arcs))

-- an arc that is put last has its role's list one longer, and no other
pub put_in_role : (arcs : List ListedArc) (a : ListedArc) (role key : Bor (List ℕ)) (old new : List Arc) → key.now ≡ a.role
    → old ≡ arcs_of arcs role.now
    → new ≡ old ++ (if is_eq (by_bytes role key) then a.arc ∷ [] else [])
    → new ≡ arcs_of (arcs ++ a ∷ []) role.now
put_in_role arcs a role key old new same so_far put =
    put
    ∙ ap (λ xs. xs ++ (if is_eq (by_bytes role key) then a.arc ∷ [] else [])) so_far
    ∙ ap (λ b. arcs_of arcs role.now ++ (if b then a.arc ∷ [] else [])) (is_eq-slice_cmp role.now key.now ∙ ap (bytes_eq role.now) same)
    ∙ ap (λ xs. arcs_of arcs role.now ++ xs) (chosen (bytes_eq role.now a.role))
    ∙ sym (map-append (λ a. a.arc) (filter (has_role role.now) arcs) (filter (has_role role.now) (a ∷ [])))
    ∙ ap (map (λ a. a.arc)) (sym (filter-append (has_role role.now) arcs (a ∷ [])))
  where
    chosen : (b : Bool) → (if b then a.arc ∷ [] else []) ≡ map (λ a. a.arc) (if b then a ∷ [] else [])
    chosen true = refl
    chosen false = refl

-- ---- in order

below_all : (x : Bor (List ℕ)) (xs : List (Bor (List ℕ))) → AllByRecursion (λ y. by_bytes x y ≡ Less) xs → AllByRecursion (λ y. slice_cmp nat_cmp x.now y ≡ Less) (map (λ r. r.now) xs)
below_all x [] h = tt
below_all x (y ∷ ys) h = (h.0, below_all x ys h.1)

pub texts_ascend : (xs : List (Bor (List ℕ))) → IsStrictlySortedBy by_bytes xs → IsStrictlySortedBy (slice_cmp nat_cmp) (map (λ r. r.now) xs)
unfolding IsStrictlySortedBy
texts_ascend [] h = tt
texts_ascend (x ∷ xs) h = (below_all x xs h.0, texts_ascend xs h.1)

-- networks with the roles that were noted, each with the arcs of its role
pub are_networks : (arcs : List ListedArc) (effective : List ListedArc) (roles : List (Bor (List ℕ))) (networks : List Network)
    → effective ≡ effective_arcs arcs
    → ((role : List ℕ) → has_text roles role ≡ some_role effective role)
    → IsStrictlySortedBy by_bytes roles
    → map (λ n. n.role) networks ≡ map (λ r. r.now) roles
    → map (λ n. n.arcs) networks ≡ map (λ n. arcs_of effective n.role) networks
    → AreNetworks arcs networks
are_networks arcs effective roles networks is noted ascending same own = record {
  ascending = subst (IsStrictlySortedBy (slice_cmp nat_cmp)) (sym same) (texts_ascend roles ascending);
  arcs_are = own ∙ ap (λ e. map (λ n. arcs_of e n.role) networks) is;
  roles = λ role.
      ap (list_any (bytes_eq role)) same ∙ sym (any_map (bytes_eq role) (λ r. r.now) roles) ∙ noted role ∙ ap (λ e. some_role e role) is;
}

-- the same of what a call answers
pub answer_networks : {V E : Type 0} (items : V → List Network) (arcs : List ListedArc) (effective : List ListedArc) (roles : List (Bor (List ℕ))) (r : Result V E)
    → effective ≡ effective_arcs arcs
    → ((role : List ℕ) → has_text roles role ≡ some_role effective role)
    → IfOk r (λ n. IsStrictlySortedBy by_bytes roles)
    → IfOk r (λ n. map (λ n. n.role) (items n) ≡ map (λ r. r.now) roles)
    → IfOk r (λ n. map (λ n. n.arcs) (items n) ≡ map (λ n. arcs_of effective n.role) (items n))
    → IfOk r (λ n. AreNetworks arcs (items n))
answer_networks items arcs effective roles (Ok v) is noted ascending same own = are_networks arcs effective roles (items v) is noted ascending same own
answer_networks items arcs effective roles (Err e) is noted ascending same own = tt
