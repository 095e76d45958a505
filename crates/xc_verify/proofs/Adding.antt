-- Adding terms at points, one after another.
use Rattle.std.proofs.Common.{◌≡◌, ◌≢◌, ◌==◌, ◌<◌, ◌+◌, ℕ, Bool, true, false, cond, List, [], ◌∷◌, ◌++◌, length, get_or, drop, map, filter, ◌⊎◌, inl, inr, Option, Result, refl, sym, ap, subst, ◌∙◌}
use Rattle.std.proofs.lemmas.Bool.{cases_eq, eq-eqb, ne_eqb}
use Rattle.std.proofs.lemmas.List.{drop_more, get_or_default}
use Rattle.std.proofs.lemmas.Option.{slice_get-get_or}
use Rattle.std.specs.Option.{option_map_or}
use Rattle.xc_frac.specs.declared.wide.Wide.{Wide}
use Rattle.xc_model.specs.Ratio.{Ratio}
use Rattle.xc_system.specs.Systems.{equation_at, point_at}
use Rattle.xc_system.specs.declared.types.Bound.{Bound}
use Rattle.xc_system.specs.declared.types.Entry.{Entry}
use Rattle.xc_system.specs.declared.types.Equation.{Equation}
use Rattle.xc_system.specs.declared.types.Side.{Side}
use Rattle.xc_verify.proofs.Results.{sum_append, sum_one}
use Rattle.xc_verify.specs.Infeasible.{Line, entry_terms, binding_terms, end_term, end_terms}
use Rattle.xc_verify.specs.Steps.Running.{Adds, at_point}
use Rattle.xc_verify.specs.Sums.{Term, plus_product, IsNext, IsSum}

-- the sum of a point
abbrev pub Running : Type 0
Running = ℕ → Result Ratio Wide

-- the sums now, with the terms that are left, end as the sums at the start with all terms do
abbrev pub Continues : (all left : ℕ → List Term) → (start now : Running) → Type 0
Continues all left start now = (p : ℕ) (end : Result Ratio Wide) → IsSum (now p) (left p) end → IsSum (start p) (all p) end

-- one term for one point
adds_one : (q : ℕ) (t : Term) (old new : Running) → IsNext (old q) t (new q) → ((p : ℕ) → p ≢ q → new p ≡ old p) → Adds (at_point q t) old new
adds_one q t old new h others p = go (cases_eq q p)
  where
    go : (q ≡ p) ⊎ (q ≡ p → ⊥) → IsSum (old p) (at_point q t p) (new p)
    go (inl e) = subst (λ (b : Bool). IsSum (old p) (cond b (t ∷ []) []) (new p)) (sym (eq-eqb q p e)) (subst (λ (k : ℕ). IsSum (old k) (t ∷ []) (new k)) e (sum_one (old q) (new q) t h))
    go (inr n) = subst (λ (b : Bool). IsSum (old p) (cond b (t ∷ []) []) (new p)) (sym (ne_eqb q p n)) (sym (others p (λ e. n (sym e))))

-- the sum of one point is written, with one term more
pub adds_put : (q : ℕ) (t : Term) (old new : Running) (before after : Result Ratio Wide) → before ≡ old q → IsNext before t after → new q ≡ after → ((p : ℕ) → p ≢ q → new p ≡ old p) → Adds (at_point q t) old new
adds_put q t old new before after is next here others = adds_one q t old new (subst (λ (r : Result Ratio Wide). IsNext (old q) t r) (sym here) (subst (λ (r : Result Ratio Wide). IsNext r t after) is next)) others

-- a step
pub continues_more : (all left rest one : ℕ → List Term) (start now next : Running) → ((p : ℕ) → left p ≡ one p ++ rest p) → Adds one now next → Continues all left start now → Continues all rest start next
continues_more all left rest one start now next split adds so_far p end h =
    so_far p end (subst (λ (ts : List Term). IsSum (now p) ts end) (sym (split p)) (sum_append (now p) (next p) end (one p) (rest p) (adds p) h))

-- the end
pub continues_end : (all left : ℕ → List Term) (start now : Running) → ((p : ℕ) → left p ≡ []) → Continues all left start now → Adds all start now
continues_end all left start now none so_far p = so_far p (now p) (subst (λ (ts : List Term). IsSum (now p) ts (now p)) (sym (none p)) refl)

-- the entries of an equation that is looked up
pub entries_at : (equations list : List Equation) (n : ℕ) (x : Equation) (es : List Entry) → list ≡ equations → n < length equations → es ≡ (get_or list n x).entries → es ≡ (equation_at equations n).entries
entries_at equations list n x es is h e = e ∙ ap (λ (l : List Equation). (get_or l n x).entries) is ∙ ap (λ (q : Equation). q.entries) (get_or_default equations n x (record { entries = [] }) h)

-- the point of a bound that is looked up
pub point_of : (bounds list : List Bound) (k : ℕ) (x : Bound) → list ≡ bounds → k < length bounds → (get_or list k x).point ≡ point_at bounds k
point_of bounds list k x is h = ap (λ (l : List Bound). (get_or l k x).point) is ∙ ap (λ (o : Option Bound). option_map_or (λ bound. bound.point) o 0) (sym (slice_get-get_or bounds k x h))

-- what is added by what is left, beginning with the next
pub entry_split : (f : Ratio) (es : List Entry) (i : ℕ) (e : Entry) (p : ℕ) → i < length es → e ≡ get_or es i e → entry_terms f (drop i es) p ≡ at_point e.point (plus_product f e.weight) p ++ entry_terms f (drop (i + 1) es) p
entry_split f es i e p h is = ap (λ (l : List Entry). entry_terms f l p) (drop_more es i e h ∙ ap (λ (x : Entry). x ∷ drop (i + 1) es) (sym is)) ∙ go (e.point == p)
  where
    go : (b : Bool) → map (λ entry. plus_product f entry.weight) (cond b (e ∷ filter (λ entry. entry.point == p) (drop (i + 1) es)) (filter (λ entry. entry.point == p) (drop (i + 1) es))) ≡ cond b (plus_product f e.weight ∷ []) [] ++ entry_terms f (drop (i + 1) es) p
    go true = refl
    go false = refl

pub binding_split : (equations : List Equation) (ms : List Line) (i : ℕ) (m : Line) (p : ℕ) → i < length ms → m ≡ get_or ms i m
    → binding_terms equations (drop i ms) p ≡ entry_terms m.1 (equation_at equations m.0).entries p ++ binding_terms equations (drop (i + 1) ms) p
binding_split equations ms i m p h is = ap (λ (l : List Line). binding_terms equations l p) (drop_more ms i m h ∙ ap (λ (x : Line). x ∷ drop (i + 1) ms) (sym is))

pub end_split : (side : Side) (bounds : List Bound) (ms : List Line) (i : ℕ) (m : Line) (p : ℕ) → i < length ms → m ≡ get_or ms i m
    → end_terms side bounds (drop i ms) p ≡ at_point (point_at bounds m.0) (end_term side m.1) p ++ end_terms side bounds (drop (i + 1) ms) p
end_split side bounds ms i m p h is = ap (λ (l : List Line). end_terms side bounds l p) (drop_more ms i m h ∙ ap (λ (x : Line). x ∷ drop (i + 1) ms) (sym is)) ∙ go (point_at bounds m.0 == p)
  where
    go : (b : Bool) → map (λ m. end_term side m.1) (cond b (m ∷ filter (λ m. point_at bounds m.0 == p) (drop (i + 1) ms)) (filter (λ m. point_at bounds m.0 == p) (drop (i + 1) ms))) ≡ cond b (end_term side m.1 ∷ []) [] ++ end_terms side bounds (drop (i + 1) ms) p
    go true = refl
    go false = refl
