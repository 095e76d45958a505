use Rattle.std.proofs.Common.{◌≡◌, ◌++◌, map}
use Rattle.xc_calc.specs.Networks.{arcs_of}
use Rattle.xc_calc.proofs.networks.networks_of.Given as goal

-- the roles so far and those that are left are all, and each network so far has the arcs of its role
abbrev pub invariant-loop-role : goal.invariant-loop-role
invariant-loop-role l = record {
  roles : map (λ n. n.role) l.networks.items ++ map (λ r. r.now) l.role-iterator ≡ map (λ r. r.now) l.roles.keys;
  arcs : map (λ n. n.arcs) l.networks.items ≡ map (λ n. arcs_of (map (λ a. a.now) l.arcs) n.role) l.networks.items;
}
