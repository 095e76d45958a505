-- Schemas that are judged one after another are judged each beside those at the places before it.
use Rattle.std.proofs.Common.{◌≡◌, ℕ, zero, suc, ◌+◌, List, [], ◌∷◌, ◌++◌, length, take, Option, option_and_then, refl, sym, ap, ◌∙◌, arith, append_assoc, append-nil}
use Rattle.std.specs.List.{range_with_len}
use Rattle.std.specs.Option.{option_or}
use Rattle.std.specs.Prelude.{slice_get}
use Rattle.xc_concepts.specs.declared.schema.Schema.{Schema}
use Rattle.xc_lists.specs.Places.{first_given, places}
use Rattle.xc_top.specs.Steps.Added.{first_broken_beside}
use Rattle.xc_top.specs.Taxonomies.{Part, AreSchemasOf, schema_broken, first_schema_broken}
use Rattle.xc_top.specs.declared.status.Answer.{Answer}

next : (k : ℕ) → k + 1 ≡ suc k
next k = omega arith

-- what is given at the next places is what is given first where each gives what the next gives
given_next : {X : Type 0} (f g : ℕ → Option X) → ((k : ℕ) → f (suc k) ≡ g k) → (a n : ℕ) → first_given f (range_with_len (a + 1) n) ≡ first_given g (range_with_len a n)
given_next f g same a zero = refl
given_next f g same a (suc n) =
    let here : f (a + 1) ≡ g a = ap f (next a) ∙ same a in
    λ i. option_or (here i) (given_next f g same (a + 1) n i)

-- what is answered of schema k of those that are left, beside the earlier ones and the k before it
abbrev broken_behind : List Schema → List Part → List Schema → ℕ → Option Answer
broken_behind earlier parts schemas k = option_and_then (schema_broken (earlier ++ take k schemas)) (slice_get parts k)

behind_more : (earlier : List Schema) (part : Part) (parts : List Part) (schema : Schema) (schemas : List Schema) (k : ℕ)
    → broken_behind earlier (part ∷ parts) (schema ∷ schemas) (suc k) ≡ broken_behind (earlier ++ schema ∷ []) parts schemas k
behind_more earlier part parts schema schemas k = ap (λ before. option_and_then (schema_broken before) (slice_get parts k)) (sym (append_assoc earlier (schema ∷ []) (take k schemas)))

first_behind : (earlier : List Schema) (parts : List Part) (schemas : List Schema) → AreSchemasOf parts schemas → first_broken_beside earlier parts schemas ≡ first_given (broken_behind earlier parts schemas) (places parts)
first_behind earlier [] [] are = refl
first_behind earlier [] (schema ∷ schemas) are = absurd are
first_behind earlier (part ∷ parts) [] are = absurd are
first_behind earlier (part ∷ parts) (schema ∷ schemas) are =
    let here : schema_broken earlier part ≡ broken_behind earlier (part ∷ parts) (schema ∷ schemas) 0 = ap (λ before. schema_broken before part) (sym (append-nil earlier)) in
    let later : first_broken_beside (earlier ++ schema ∷ []) parts schemas ≡ first_given (broken_behind earlier (part ∷ parts) (schema ∷ schemas)) (range_with_len (0 + 1) (length parts)) =
    first_behind (earlier ++ schema ∷ []) parts schemas are.1
    ∙ sym (given_next (broken_behind earlier (part ∷ parts) (schema ∷ schemas)) (broken_behind (earlier ++ schema ∷ []) parts schemas) (behind_more earlier part parts schema schemas) 0 (length parts)) in
    λ i. option_or (here i) (later i)

-- one after another or by places, the same is answered
pub by_places : (parts : List Part) (schemas : List Schema) → AreSchemasOf parts schemas → first_broken_beside [] parts schemas ≡ first_schema_broken parts schemas
by_places parts schemas are = first_behind [] parts schemas are
