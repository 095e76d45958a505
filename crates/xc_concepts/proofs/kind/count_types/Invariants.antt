use Rattle.std.proofs.Common.{◌≡◌, ◌≤◌, ◌+◌, ◌*◌, ◌^◌, length, drop}
use Rattle.xc_concepts.specs.Declarations.{types_in}
use Rattle.xc_concepts.proofs.kind.count_types.Given as goal

-- the types so far and those that are left are all
abbrev pub invariant-loop-schema : goal.invariant-loop-schema
invariant-loop-schema l = record {
  counted : l.count + length (types_in (drop l.schema-index l.schemas)) ≡ length (types_in l.schemas);
  small : l.count ≤ l.schema-index * 2 ^ 64;
}
