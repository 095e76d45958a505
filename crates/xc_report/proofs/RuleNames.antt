-- What a text with a prefix stands for by the rules is what is read of it.
use Rattle.std.proofs.Common.{◌≡◌, ◌&&◌, ℕ, List, true, Some, None, option_map, option_and_then, ap, subst, ◌∙◌, if◌then◌else◌}
use Rattle.std.proofs.lemmas.Bool.{and_parts, and_from}
use Rattle.std.proofs.lemmas.Option.{option_and_then_some, cond_some}
use Rattle.std.specs.FinMap.{get}
use Rattle.xc_chars.specs.Parts.{is_colon, around}
use Rattle.xc_chars.specs.PlainNames.{is_plain_name, both_plain, split}
use Rattle.xc_names.specs.Names.{name_of}
use Rattle.xc_names.specs.Prefixes.{Bindings}
use Rattle.xc_names.specs.declared.expanded.Expanded.{Expanded}
use Rattle.xc_report.specs.Laws.{IsTold}
use Rattle.xc_report.specs.Prefixed.{bound_name, expanded_name, expanded_loosely}
use Rattle.xc_report.specs.Rules.Cuts.{colon, IsCut}
use Rattle.xc_report.specs.Rules.Names.{StandsFor, IsEntity}
use Rattle.xc_report.proofs.RuleCuts.{cut_read, reads_cut}
use Rattle.xc_report.proofs.Told.{mapped, told}

-- what a prefix is declared for
bound : (P : Expanded → Type 0) (prefixes : Bindings) (parts : List ℕ × List ℕ) (name : Expanded) → bound_name prefixes parts ≡ Some name
    → ((uri : List ℕ) → get prefixes parts.0 ≡ Some uri → P (name_of uri parts.1)) → P name
bound P prefixes parts name e k = mapped (λ uri. name_of uri parts.1) (get prefixes parts.0) name e (λ uri g is. subst P is (k uri g))

module _ (prefixes : Bindings) (text : List ℕ) where
  name_from : (name : Expanded) (parts cut : List ℕ × List ℕ) → bound_name prefixes parts ≡ Some name → around is_colon text ≡ Some cut → both_plain cut ≡ Some parts → StandsFor prefixes text name
  name_from name parts cut b h e =
      let found = cond_some (is_plain_name cut.0 && is_plain_name cut.1) cut parts e in
      let plain = and_parts (is_plain_name cut.0) (is_plain_name cut.1) found.0 in
      bound (StandsFor prefixes text) prefixes parts name b (λ uri g. record {
        prefix = parts.0;
        cut = subst (λ (q : List ℕ × List ℕ). IsCut colon text q.0 q.1) found.1 (cut_read colon text cut h);
        prefix_plain = subst (λ (q : List ℕ × List ℕ). is_plain_name q.0 ≡ true) found.1 plain.0;
        local_plain = subst (λ (q : List ℕ × List ℕ). is_plain_name q.1 ≡ true) found.1 plain.1;
        declared = g;
      })

  pub name_read : (name : Expanded) → expanded_name prefixes text ≡ Some name → StandsFor prefixes text name
  name_read name e =
      option_and_then_some (bound_name prefixes) (split text) name e (λ parts h b.
      option_and_then_some both_plain (around is_colon text) parts h (λ cut g plain. name_from name parts cut b g plain))

  pub reads_name : (name : Expanded) → StandsFor prefixes text name → expanded_name prefixes text ≡ Some name
  reads_name name s =
      ap (λ o. option_and_then (bound_name prefixes) (option_and_then both_plain o)) (reads_cut colon text s.prefix name.local s.cut)
      ∙ ap (λ b. option_and_then (bound_name prefixes) (if b then Some (s.prefix, name.local) else None)) (and_from (is_plain_name s.prefix) (is_plain_name name.local) s.prefix_plain s.local_plain)
      ∙ ap (option_map (λ uri. name_of uri name.local)) s.declared

  pub name_told : IsTold (StandsFor prefixes text) (expanded_name prefixes text)
  name_told = told (StandsFor prefixes text) (expanded_name prefixes text) name_read reads_name

  pub entity_read : (name : Expanded) → expanded_loosely prefixes text ≡ Some name → IsEntity prefixes text name.space name.local
  entity_read name e =
      option_and_then_some (bound_name prefixes) (around is_colon text) name e (λ parts h b.
      bound (λ (n : Expanded). IsEntity prefixes text n.space n.local) prefixes parts name b (λ uri g. record { prefix = parts.0; cut = cut_read colon text parts h; declared = g }))

  pub reads_entity : (scheme identifier : List ℕ) → IsEntity prefixes text scheme identifier → expanded_loosely prefixes text ≡ Some (name_of scheme identifier)
  reads_entity scheme identifier is =
      ap (option_and_then (bound_name prefixes)) (reads_cut colon text is.prefix identifier is.cut) ∙ ap (option_map (λ uri. name_of uri identifier)) is.declared

  pub entity_told : IsTold (λ name. IsEntity prefixes text name.space name.local) (expanded_loosely prefixes text)
  entity_told = told (λ name. IsEntity prefixes text name.space name.local) (expanded_loosely prefixes text) entity_read (λ name. reads_entity name.space name.local)
