-- What passes a test among the places before one more.
use Rattle.std.proofs.Common.{◌≡◌, ◌+◌, ◌++◌, ℕ, [], ◌∷◌, Bool, if◌then◌else◌, filter, ap, ◌∙◌}
use Rattle.std.proofs.lemmas.List.Elements.{filter-append}
use Rattle.xc_lists.proofs.Ranges.{before_more}
use Rattle.xc_lists.specs.Places.{before}

pub filtered_by : (p : ℕ → Bool) (k : ℕ) (b : Bool) → p k ≡ b → filter p (before (k + 1)) ≡ filter p (before k) ++ (if b then k ∷ [] else [])
filtered_by p k b e = ap (filter p) (before_more k) ∙ filter-append p (before k) (k ∷ []) ∙ ap (λ b. filter p (before k) ++ (if b then k ∷ [] else [])) e
