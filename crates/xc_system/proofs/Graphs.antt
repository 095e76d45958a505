-- Graphs by how often each vertex has each other one: `has r p` is how often vertex r has vertex p.
use Rattle.std.specs.Prelude.{◌≡◌, ℕ, ◌+◌, ◌≤◌, ◌<◌, List, [], ◌∷◌}
use Rattle.xc_lists.specs.Members.{IsIn, IsOnce}

abbrev pub sum_on : List ℕ → (ℕ → ℕ) → ℕ
sum_on [] f = 0
sum_on (v ∷ vs) f = f v + sum_on vs f

-- how often u and v are joined
abbrev pub joins : (ℕ → ℕ → ℕ) → ℕ → ℕ → ℕ
joins has u v = has u v + has v u

-- each stands next to at most one later one
abbrev pub IsThinBy : (ℕ → ℕ → ℕ) → List ℕ → Type 0
IsThinBy has [] = Unit {0}
IsThinBy has (v ∷ vs) = ((u w : ℕ) → IsIn u vs → IsIn w vs → 0 < joins has v u → 0 < joins has v w → u ≡ w) × IsThinBy has vs

-- how many edges the vertices have among them
abbrev pub edges : (ℕ → ℕ → ℕ) → List ℕ → ℕ
edges has vs = sum_on vs (λ r. sum_on vs (has r))

-- the vertices, each once; no vertex has itself; and from any set of them with some but not all, an edge leads out
pub record IsConnected (has : ℕ → ℕ → ℕ) (vs : List ℕ) : Type 0 where
  pub distinct : IsOnce vs
  pub loopless : (v : ℕ) → has v v ≡ 0
  pub first : ℕ
  pub first_in : IsIn first vs
  pub out : (ws : List ℕ) → IsIn first ws → (v : ℕ) → IsIn v vs → (IsIn v ws → ⊥) → (x : ℕ) × (y : ℕ) × IsIn x vs × (IsIn x ws → ⊥) × IsIn y ws × (0 < joins has x y)

-- ws lists the same vertices, each once
pub record IsListingOf (vs ws : List ℕ) : Type 0 where
  pub distinct : IsOnce ws
  pub listed : (v : ℕ) → IsIn v vs → IsIn v ws
  pub known : (v : ℕ) → IsIn v ws → IsIn v vs

-- no vertex has another twice
abbrev pub IsSimple : (ℕ → ℕ → ℕ) → List ℕ → Type 0
IsSimple has vs = (u v : ℕ) → IsIn u vs → IsIn v vs → joins has u v ≤ 1
