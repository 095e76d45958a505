use Rattle.std.proofs.Common.{◌≡◌, ◌||◌, ℕ, List, drop, map}
use Rattle.std.specs.List.{list_any}
use Rattle.std.specs.Str.{bytes_eq}
use Rattle.xc_calc.specs.Networks.{some_role}
use Rattle.xc_calc.proofs.networks.roles_of.Given as goal

-- the roles so far and those of the arcs that are left are all
abbrev pub invariant-loop-arc : goal.invariant-loop-arc
invariant-loop-arc l = (role : List ℕ) → (list_any (λ r. bytes_eq role r.now) l.roles.keys || some_role (map (λ a. a.now) (drop l.arc-index l.arcs)) role) ≡ some_role (map (λ a. a.now) l.arcs) role
