-- The term of an arc is that of the one point that has its contributor and the total's key.
use Rattle.std.proofs.Common.{◌≡◌, ◌==◌, ◌+◌, ℕ, zero, suc, List, [], ◌∷◌, Bool, true, false, Option, Some, None, cond, filter_map, option_map, if◌then◌else◌, slice_get, true≢false, refl, sym, ap, ◌∙◌, arith}
use Rattle.std.proofs.lemmas.Bool.{and_from, and_parts, eqb-true}
use Rattle.std.proofs.lemmas.Bool.Decides.{Decides-eqb}
use Rattle.std.specs.List.{position_from, cons_option}
use Rattle.xc_bind.specs.Bindings.{is_point_of, number_of, leads_from, arcs_from, term_with, term_of, terms_of}
use Rattle.xc_bind.specs.Judged.{IsTerm, AreTerms}
use Rattle.xc_bind.specs.declared.types.Term.{Term}
use Rattle.xc_calc.specs.declared.arc.Arc.{Arc}
use Rattle.xc_names.specs.declared.expanded.NameId.{NameId}
use Rattle.xc_points.specs.Kept.{AreDistinct}
use Rattle.xc_points.specs.declared.types.Point.{Point}

same_id : (a b : NameId) → a.0 == b.0 ≡ true → a ≡ b
same_id a b e = let same : a.0 ≡ b.0 = eqb-true a.0 b.0 e in λ i. record { 0 = same i }

is_itself : (n : ℕ) → n == n ≡ true
is_itself n = (Decides-eqb n n).1 refl

module _ {X : Type 0} (t : X → Bool) where
  -- what is found passes
  pub found_at : (n : ℕ) (xs : List X) (k : ℕ) → position_from t n xs ≡ Some k → (j : ℕ) × (x : X) × (k ≡ n + j) × (slice_get xs j ≡ Some x) × (t x ≡ true)
  found_at n [] k e = absurd (cc)
  found_at n (x ∷ xs) k e = by (t x) refl e (found_at (n + 1) xs k)
    where
      by : (b : Bool) → t x ≡ b → cond b (Some n) (position_from t (n + 1) xs) ≡ Some k
          → (position_from t (n + 1) xs ≡ Some k → (j : ℕ) × (y : X) × (k ≡ n + 1 + j) × (slice_get xs j ≡ Some y) × (t y ≡ true))
          → (j : ℕ) × (y : X) × (k ≡ n + j) × (slice_get (x ∷ xs) j ≡ Some y) × (t y ≡ true)
      by true passes e later = let same : n ≡ k = cc in (0, x, omega (arith, same), refl, passes)
      by false fails e later =
          let more = later e in
          (suc more.0, more.1, omega (arith, more.2), more.3, more.4)

  -- where nothing is found, nothing passes
  pub none_passes : (n : ℕ) (xs : List X) (j : ℕ) (x : X) → position_from t n xs ≡ None → slice_get xs j ≡ Some x → t x ≡ true → ⊥
  none_passes n [] j x e there passes = absurd (cc)
  none_passes n (y ∷ ys) zero x e there passes =
      let same : y ≡ x = cc in
      by (t y) (ap t same ∙ passes) e
    where
      by : (b : Bool) → b ≡ true → cond b (Some n) (position_from t (n + 1) ys) ≡ None → ⊥
      by true p e = absurd (cc)
      by false p e = true≢false (sym p)
  none_passes n (y ∷ ys) (suc j) x e there passes = by (t y) e (λ none. none_passes (n + 1) ys j x none there passes)
    where
      by : (b : Bool) → cond b (Some n) (position_from t (n + 1) ys) ≡ None → (position_from t (n + 1) ys ≡ None → ⊥) → ⊥
      by true e later = absurd (cc)
      by false e later = later e

  -- the only one that passes is found
  pub found_only : (xs : List X) (k : ℕ) (x : X) → slice_get xs k ≡ Some x → t x ≡ true → ((j : ℕ) (y : X) → slice_get xs j ≡ Some y → t y ≡ true → j ≡ k) → position_from t 0 xs ≡ Some k
  found_only xs k x there passes only = by (position_from t 0 xs) refl
    where
      by : (o : Option ℕ) → position_from t 0 xs ≡ o → o ≡ Some k
      by None e = absurd (none_passes 0 xs k x e there passes)
      by (Some j) e =
          let found = found_at 0 xs j e in
          let same : found.0 ≡ k = only found.0 found.1 found.3 found.4 in
          let here : j ≡ k = omega (arith, same, found.2) in
          ap (λ n. Some n) here

-- the number of a point by its concept and key
pub number_at : (points : List Point) → AreDistinct points → (concept : NameId) (key number : ℕ) (point : Point) → slice_get points number ≡ Some point → concept ≡ point.concept → point.key ≡ key → number_of points concept key ≡ Some number
number_at points distinct concept key number point there same_concept same_key =
    let passes : is_point_of concept key point ≡ true = and_from (concept.0 == point.concept.0) (key == point.key) (ap (λ c. c.0 == point.concept.0) same_concept ∙ is_itself point.concept.0) (ap (λ k. k == point.key) (sym same_key) ∙ is_itself point.key) in
    found_only (is_point_of concept key) points number point there passes (λ j other is_there other_passes.
    let parts = and_parts (concept.0 == other.concept.0) (key == other.key) other_passes in
    let one : other.concept ≡ point.concept = sym (same_id concept other.concept parts.0) ∙ same_concept in
    let two : other.key ≡ point.key = sym (eqb-true key other.key parts.1) ∙ sym same_key in
    distinct j number other point is_there there one two)

-- the term of an arc beside a total
abbrev pub term_beside : List Point → Point → Arc → Option Term
term_beside points total arc = if leads_from total.concept arc then term_of points total.key arc else None

-- the terms are those of all arcs
pub terms_beside : (points : List Point) (total : Point) (arcs : List Arc) → terms_of points arcs total ≡ filter_map (term_beside points total) arcs
terms_beside points total [] = refl
terms_beside points total (arc ∷ arcs) = by (leads_from total.concept arc) (terms_beside points total arcs)
  where
    by : (b : Bool) → terms_of points arcs total ≡ filter_map (term_beside points total) arcs → filter_map (term_of points total.key) (cond b (arc ∷ arcs_from arcs total.concept) (arcs_from arcs total.concept)) ≡ cons_option (if b then term_of points total.key arc else None) (filter_map (term_beside points total) arcs)
    by true rest = ap (cons_option (term_of points total.key arc)) rest
    by false rest = rest

-- a term that is there is the arc's
pub term_is : (points : List Point) (total : Point) (arc : Arc) (term : Term) → term_beside points total arc ≡ Some term → IsTerm points total arc term
term_is points total arc term e = by (leads_from total.concept arc) refl e
  where
    of_number : (o : Option ℕ) → number_of points arc.to total.key ≡ o → option_map (term_with arc.weight) o ≡ Some term → leads_from total.concept arc ≡ true → IsTerm points total arc term
    of_number None found e leads = absurd (cc)
    of_number (Some k) found e leads =
        let there = found_at (is_point_of arc.to total.key) 0 points k found in
        let point = there.1 in
        let parts = and_parts (arc.to.0 == point.concept.0) (total.key == point.key) there.4 in
        let is : term_with arc.weight k ≡ term = cc in
        let here : there.0 ≡ k = omega (arith, there.2) in
        record {
          point = point;
          there = ap (λ n. slice_get points n) (sym (ap (λ t. t.point) is) ∙ sym here) ∙ there.3;
          from = sym (same_id total.concept arc.from leads);
          to = same_id arc.to point.concept parts.0;
          key = sym (eqb-true total.key point.key parts.1);
          weight = sym (ap (λ t. t.weight) is);
        }

    by : (b : Bool) → leads_from total.concept arc ≡ b → (if b then term_of points total.key arc else None) ≡ Some term → IsTerm points total arc term
    by true leads e = of_number (number_of points arc.to total.key) refl e leads
    by false leads e = absurd (cc)

-- the arc's term is there
pub is_term : (points : List Point) → AreDistinct points → (total : Point) (arc : Arc) (term : Term) → IsTerm points total arc term → term_beside points total arc ≡ Some term
is_term points distinct total arc term h =
    let leads : leads_from total.concept arc ≡ true = ap (λ c. total.concept.0 == c.0) h.from ∙ is_itself total.concept.0 in
    let found : number_of points arc.to total.key ≡ Some term.point = number_at points distinct arc.to total.key term.point h.point h.there h.to h.key in
    ap (λ b. if b then term_of points total.key arc else None) leads
    ∙ ap (option_map (term_with arc.weight)) found
    ∙ (λ i. Some (record { point = term.point; weight = sym h.weight i }))

pub are_terms : (points : List Point) → AreDistinct points → (total : Point) (arcs : List Arc) → AreTerms points total arcs (terms_of points arcs total)
are_terms points distinct total arcs = record {
  given = term_beside points total;
  exactly = λ arc term. (term_is points total arc term, is_term points distinct total arc term);
  terms_are = terms_beside points total arcs;
}
