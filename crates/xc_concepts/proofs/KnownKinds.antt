-- Kinds that are known along chains of type names.
use Rattle.indexmap.specs.IndexMap.{IndexMap, get}
use Rattle.std.proofs.Common.{◌≡◌, ◌+◌, ℕ, zero, suc, Bool, true, false, List, [], Some, IfSome, cond, length, refl, sym, ap, subst, ◌∙◌, arith}
use Rattle.xc_concepts.proofs.OneChain.{by_one_chain}
use Rattle.xc_concepts.proofs.Walks.{Reaches, same_is}
use Rattle.xc_concepts.proofs.Within.{computes}
use Rattle.xc_concepts.specs.Chains.{IsKindBy, base_name, kind_from}
use Rattle.xc_concepts.specs.Steps.Kinds.{AreKinds}
use Rattle.xc_concepts.specs.Steps.Links.{as_name, is_same_type}
use Rattle.xc_concepts.specs.declared.kind.Kind.{Kind}
use Rattle.xc_concepts.specs.declared.links.TypeName.{TypeName}
use Rattle.xc_concepts.specs.declared.schema.NamedType.{NamedType}
use Rattle.xc_names.specs.declared.expanded.Expanded.{Expanded}

module _ (types : List NamedType) where
  -- the kind that computes is the one by the chain
  pub computed : (first : Expanded) → IsKindBy types first (kind_from types first)
  computed first = computes types (length types) 0 first first refl (omega arith)

  -- and there is no other
  pub is_computed : (first : Expanded) (kind : Kind) → IsKindBy types first kind → kind ≡ kind_from types first
  is_computed first kind k = by_one_chain types first kind (kind_from types first) k (computed first)

  -- a name has the kind of its base
  pub kind_of_base : (name next : Expanded) → base_name types name ≡ Some next → kind_from types next ≡ kind_from types name
  kind_of_base name next e = is_computed name (kind_from types next) (computes types (length types) 1 name next (name, refl, e) (omega arith))

  along : (n : ℕ) (first name : Expanded) → Reaches types n first name → kind_from types name ≡ kind_from types first
  along zero first name r = ap (kind_from types) (sym r)
  along (suc n) first name r = kind_of_base r.0 name r.2 ∙ along n first r.0 r.1

  -- a name has the kind of those that it reaches
  pub kind_of_known : (n : ℕ) (first name : Expanded) (kind : Kind) → Reaches types n first name → kind ≡ kind_from types name → IsKindBy types first kind
  kind_of_known n first name kind r is = subst (IsKindBy types first) (sym (is ∙ along n first name r)) (computed first)

  -- one step more
  pub is_reached : (n : ℕ) (first name next : Expanded) → Reaches types n first name → base_name types name ≡ Some next → Reaches types (n + 1) first next
  is_reached n first name next r e =
      let one : suc n ≡ n + 1 = omega arith in
      subst (λ m. Reaches types m first next) one (name, r, e)

  module _ {S : Type 0} where
    -- no kinds are known
    pub none_known : (kinds : IndexMap TypeName Kind S) → kinds.entries ≡ [] → AreKinds types kinds
    none_known kinds e = λ name. rw e tt

    -- what is known of a name
    pub known : (kinds : IndexMap TypeName Kind S) (name : TypeName) (kind : Kind) → AreKinds types kinds → get is_same_type kinds name ≡ Some kind → kind ≡ kind_from types (as_name name)
    known kinds name kind are e = subst (λ o. IfSome o (λ k. k ≡ kind_from types (as_name name))) e (are name)

    -- one more is known
    pub more_known : (old new : IndexMap TypeName Kind S) (name : TypeName) (kind : Kind) → AreKinds types old → kind ≡ kind_from types (as_name name)
        → ((q : TypeName) → get is_same_type new q ≡ cond (is_same_type name q) (Some kind) (get is_same_type old q)) → AreKinds types new
    more_known old new name kind are is updates = λ q. subst (λ o. IfSome o (λ k. k ≡ kind_from types (as_name q))) (sym (updates q)) (by q (is_same_type name q) refl)
      where
        by : (q : TypeName) (b : Bool) → is_same_type name q ≡ b → IfSome (cond b (Some kind) (get is_same_type old q)) (λ k. k ≡ kind_from types (as_name q))
        by q true e = is ∙ ap (kind_from types) (same_is (as_name name) (as_name q) e)
        by q false e = are q
