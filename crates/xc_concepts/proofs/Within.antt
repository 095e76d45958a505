-- Kinds as they compute, step by step.
use Rattle.std.proofs.Common.{◌≡◌, ◌≢◌, ◌-◌, ◌+◌, ◌≤◌, ℕ, zero, suc, List, [], Option, Some, None, length, refl, sym, ap, subst, ◌∙◌, arith}
use Rattle.std.specs.Option.{option_map_or}
use Rattle.xc_concepts.proofs.Walks.{Reaches, kind_of_end, kind_of_circle}
use Rattle.xc_concepts.specs.Chains.{IsKindBy, base_name, kind_by_last, kind_within}
use Rattle.xc_concepts.specs.declared.kind.Kind.TheVariants.{Unknown}
use Rattle.xc_concepts.specs.declared.schema.NamedType.{NamedType}
use Rattle.xc_names.specs.declared.expanded.Expanded.{Expanded}

module _ (types : List NamedType) where
  -- a name that is followed by none
  pub within_last : (n : ℕ) (name : Expanded) → base_name types name ≡ None → kind_within types n name ≡ kind_by_last types [] name
  within_last zero name e = ap (λ o. option_map_or (λ next. Unknown) o (kind_by_last types [] name)) e
  within_last (suc n) name e = ap (λ o. option_map_or (kind_within types n) o (kind_by_last types [] name)) e

  -- one that is followed by another, where more may follow
  pub within_next : (n : ℕ) (name next : Expanded) → n ≢ 0 → base_name types name ≡ Some next → kind_within types (n - 1) next ≡ kind_within types n name
  within_next zero name next some e = absurd (some refl)
  within_next (suc n) name next some e =
      let less : suc n - 1 ≡ n = omega arith in
      ap (λ m. kind_within types m next) less ∙ sym (ap (λ o. option_map_or (kind_within types n) o (kind_by_last types [] name)) e)

  -- one that is followed by another, where none may follow
  pub within_none : (n : ℕ) (name next : Expanded) → n ≡ 0 → base_name types name ≡ Some next → kind_within types n name ≡ Unknown
  within_none n name next none e = ap (λ m. kind_within types m name) none ∙ ap (λ o. option_map_or (λ next. Unknown) o (kind_by_last types [] name)) e

  -- what computes is the kind by the chain
  pub computes : (left n : ℕ) (first name : Expanded) → Reaches types n first name → length types ≤ n + left → IsKindBy types first (kind_within types left name)
  computes zero n first name r long = by (base_name types name) refl
    where
      by : (o : Option Expanded) → base_name types name ≡ o → IsKindBy types first (kind_within types zero name)
      by None e = subst (IsKindBy types first) (sym (within_last zero name e)) (kind_of_end types n first name (kind_by_last types [] name) r e refl)
      by (Some next) e = subst (IsKindBy types first) (sym (within_none zero name next refl e)) (kind_of_circle types n first name next r e (omega (arith, long)))
  computes (suc left) n first name r long = by (base_name types name) refl (computes left (suc n) first)
    where
      by : (o : Option Expanded) → base_name types name ≡ o → ((next : Expanded) → Reaches types (suc n) first next → length types ≤ suc n + left → IsKindBy types first (kind_within types left next)) → IsKindBy types first (kind_within types (suc left) name)
      by None e rest = subst (IsKindBy types first) (sym (within_last (suc left) name e)) (kind_of_end types n first name (kind_by_last types [] name) r e refl)
      by (Some next) e rest =
          subst (IsKindBy types first) (sym (ap (λ o. option_map_or (kind_within types left) o (kind_by_last types [] name)) e)) (rest next (name, r, e) (omega (arith, long)))
