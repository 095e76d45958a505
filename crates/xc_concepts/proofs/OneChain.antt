-- A name begins one chain, so it has one kind.
use Rattle.std.proofs.Common.{◌≡◌, ◌++◌, List, [], ◌∷◌, Option, Some, None, MatchOption, refl, sym, ap, subst, ◌∙◌}
use Rattle.xc_concepts.specs.Chains.{IsChain, kind_by_last, IsKindBy, concept_numbered}
use Rattle.xc_concepts.specs.Declarations.{types_in}
use Rattle.xc_concepts.specs.Laws.{OneKind}
use Rattle.xc_concepts.specs.declared.kind.Kind.{Kind}
use Rattle.xc_concepts.specs.declared.kind.Kind.TheVariants.{Unknown, Other}
use Rattle.xc_concepts.specs.declared.schema.Concept.{Concept}
use Rattle.xc_concepts.specs.declared.schema.NamedType.{NamedType}
use Rattle.xc_names.specs.declared.expanded.Expanded.{Expanded}

-- two chains that begin with one name behind the same names are one
one_chain : (types : List NamedType) (earlier : List Expanded) (name : Expanded) (xs ys : List Expanded) → IsChain types earlier (name ∷ xs) → IsChain types earlier (name ∷ ys) → xs ≡ ys
one_chain types earlier name [] [] c d = refl
one_chain types earlier name [] (y ∷ ys) c d = absurd (let h : Some y ≡ None = sym d.0 ∙ c in cc)
one_chain types earlier name (x ∷ xs) [] c d = absurd (let h : Some x ≡ None = sym c.0 ∙ d in cc)
one_chain types earlier name (x ∷ xs) (y ∷ ys) c d =
    let some : Some x ≡ Some y = sym c.0 ∙ d.0 in
    let same : x ≡ y = cc in
    let rest = one_chain types (name ∷ earlier) y xs ys (subst (λ z. IsChain types (name ∷ earlier) (z ∷ xs)) same c.1) d.1 in
    λ i. same i ∷ rest i

-- lists with a last item that are equal have one front and one last item
parted : (front other : List Expanded) (last final : Expanded) → front ++ last ∷ [] ≡ other ++ final ∷ [] → (front ≡ other) × (last ≡ final)
parted [] [] last final e = (refl, cc)
parted [] (y ∷ []) last final e = absurd (cc)
parted [] (y ∷ z ∷ ys) last final e = absurd (cc)
parted (x ∷ []) [] last final e = absurd (cc)
parted (x ∷ z ∷ xs) [] last final e = absurd (cc)
parted (x ∷ xs) (y ∷ ys) last final e =
    let head : x ≡ y = cc in
    let tail : xs ++ last ∷ [] ≡ ys ++ final ∷ [] = cc in
    let rest = parted xs ys last final tail in
    ((λ i. head i ∷ rest.0 i), rest.1)

-- the kinds by a chain are one
pub by_one_chain : (types : List NamedType) (first : Expanded) (kind other : Kind) → IsKindBy types first kind → IsKindBy types first other → kind ≡ other
by_one_chain types first kind other k l =
    let tails = one_chain types [] first k.begins.0 l.begins.0 (subst (λ xs. IsChain types [] xs) k.begins.1 k.chain) (subst (λ xs. IsChain types [] xs) l.begins.1 l.chain) in
    let parts = parted k.earlier l.earlier k.last l.last (k.begins.1 ∙ ap (λ xs. first ∷ xs) tails ∙ sym l.begins.1) in
    k.decides ∙ (λ i. kind_by_last types (parts.0 i) (parts.1 i)) ∙ sym l.decides

of_type : (types : List NamedType) (first : Option Expanded) (kind other : Kind)
    → MatchOption first (kind ≡ Other) (λ f. IsKindBy types f kind) → MatchOption first (other ≡ Other) (λ f. IsKindBy types f other) → kind ≡ other
of_type types None kind other k l = k ∙ sym l
of_type types (Some first) kind other k l = by_one_chain types first kind other k l

of_concept : (types : List NamedType) (concept : Option Concept) (kind other : Kind)
    → MatchOption concept (kind ≡ Unknown) (λ c. MatchOption c.declared.first_type (kind ≡ Other) (λ f. IsKindBy types f kind))
    → MatchOption concept (other ≡ Unknown) (λ c. MatchOption c.declared.first_type (other ≡ Other) (λ f. IsKindBy types f other)) → kind ≡ other
of_concept types None kind other k l = k ∙ sym l
of_concept types (Some c) kind other k l = of_type types c.declared.first_type kind other k l

pub one_kind : OneKind
one_kind schemas number kind other k l = of_concept (types_in schemas) (concept_numbered schemas number) kind other k l
