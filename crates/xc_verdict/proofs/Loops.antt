-- Loops over the terms of a binding, by the terms that are left.
use Rattle.std.proofs.Common.{◌≡◌, ℕ, ◌+◌, ◌<◌, List, ◌∷◌, length, drop, get_or, sym, ap, ◌∙◌}
use Rattle.std.proofs.lemmas.List.{drop_more}
use Rattle.xc_bind.specs.declared.types.Term.{Term}

-- the next of the terms that are left
pub next_term : (terms : List Term) (i : ℕ) (term : Term) → i < length terms → term ≡ get_or terms i term → drop i terms ≡ term ∷ drop (i + 1) terms
next_term terms i term h e = drop_more terms i term h ∙ ap (λ t. t ∷ drop (i + 1) terms) (sym e)
