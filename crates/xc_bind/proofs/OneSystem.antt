-- Points and bindings have one system.
use Rattle.std.proofs.Common.{◌≡◌, ◌∙◌, ℕ, suc, List, [], ◌∷◌, length, Option, Some, slice_get, arith, refl, sym, ap}
use Rattle.std.specs.List.{AllZip}
use Rattle.xc_bind.specs.Laws.{HasOneSystem}
use Rattle.xc_bind.specs.Systems.{AreEntries, IsBoundOf, IsEntry, IsEquationOf, IsTermEntry}
use Rattle.xc_bind.specs.declared.types.Binding.{Binding}
use Rattle.xc_bind.specs.declared.types.Term.{Term}
use Rattle.xc_interval.specs.declared.mode.Mode.{Mode}
use Rattle.xc_model.proofs.Numbers.{same-sym, same-trans}
use Rattle.xc_model.specs.Fraction.{Fraction}
use Rattle.xc_model.specs.Laws.{HasOneLowest}
use Rattle.xc_model.specs.Ratio.{fraction_of}
use Rattle.xc_points.specs.Gathered.{ArePoints}
use Rattle.xc_points.specs.Kept.{Gathered, HasFact}
use Rattle.xc_points.specs.Laws.{HasOwnFacts, HasDistinct}
use Rattle.xc_points.specs.declared.types.Point.{Point}
use Rattle.xc_report.specs.declared.reports.Fact.{Fact}
use Rattle.xc_system.specs.declared.types.Bound.{Bound}
use Rattle.xc_system.specs.declared.types.Entry.{Entry}
use Rattle.xc_system.specs.declared.types.Equation.{Equation}

-- lists of one length with the same at each place are the same
same_list : {X : Type 0} (xs ys : List X) → length xs ≡ length ys → ((k : ℕ) (x y : X) → slice_get xs k ≡ Some x → slice_get ys k ≡ Some y → x ≡ y) → xs ≡ ys
same_list [] [] e same = refl
same_list [] (y ∷ ys) e same = absurd (omega arith)
same_list (x ∷ xs) [] e same = absurd (omega arith)
same_list (x ∷ xs) (y ∷ ys) e same =
    let first = same 0 x y refl refl in
    let rest = same_list xs ys (omega arith) (λ k. same (suc k)) in
    λ i. first i ∷ rest i

same_some : {X : Type 0} (x y : X) (o : Option X) → o ≡ Some x → o ≡ Some y → x ≡ y
same_some x y o e f = let same : Some x ≡ Some y = sym e ∙ f in cc

module _ (lowest : HasOneLowest) where
  one_entry : (point : ℕ) (weight : Fraction) (d e : Entry) → IsEntry point weight d → IsEntry point weight e → d ≡ e
  one_entry point weight d e h k =
      let at : d.point ≡ e.point = h.at ∙ sym k.at in
      let weighs : d.weight ≡ e.weight = lowest d.weight e.weight (same-trans (fraction_of d.weight) weight (fraction_of e.weight) h.weighs (same-sym (fraction_of e.weight) weight k.weighs)) in
      λ i. record { point = at i; weight = weighs i }

  one_terms : (terms : List Term) (ds es : List Entry) → AllZip IsTermEntry terms ds → AllZip IsTermEntry terms es → ds ≡ es
  one_terms [] [] [] h k = refl
  one_terms [] [] (e ∷ es) h k = absurd k
  one_terms [] (d ∷ ds) es h k = absurd h
  one_terms (t ∷ ts) [] es h k = absurd h
  one_terms (t ∷ ts) (d ∷ ds) [] h k = absurd k
  one_terms (t ∷ ts) (d ∷ ds) (e ∷ es) h k =
      let first = one_entry _ _ d e h.0 k.0 in
      let rest = one_terms ts ds es h.1 k.1 in
      λ i. first i ∷ rest i

  one_entries : (binding : Binding) (ds es : List Entry) → AreEntries binding ds → AreEntries binding es → ds ≡ es
  one_entries binding [] es h k = absurd h
  one_entries binding (d ∷ ds) [] h k = absurd k
  one_entries binding (d ∷ ds) (e ∷ es) h k =
      let first = one_entry _ _ d e h.0 k.0 in
      let rest = one_terms binding.terms ds es h.1 k.1 in
      λ i. first i ∷ rest i

  one_equations : (bindings : List Binding) (ds es : List Equation) → AllZip IsEquationOf bindings ds → AllZip IsEquationOf bindings es → ds ≡ es
  one_equations [] [] [] h k = refl
  one_equations [] [] (e ∷ es) h k = absurd k
  one_equations [] (d ∷ ds) es h k = absurd h
  one_equations (b ∷ bs) [] es h k = absurd h
  one_equations (b ∷ bs) (d ∷ ds) [] h k = absurd k
  one_equations (b ∷ bs) (d ∷ ds) (e ∷ es) h k =
      let first = one_entries b d.entries e.entries h.0 k.0 in
      let rest = one_equations bs ds es h.1 k.1 in
      λ i. (record { entries = first i }) ∷ rest i

module _ (own : HasOwnFacts) (distinct : HasDistinct) (mode : Mode) (facts : List Fact) (gathered : Gathered) (are : ArePoints mode facts gathered) where
  -- a fact is one of one point
  one_point : (j k : ℕ) (p q : Point) (f : ℕ) → slice_get gathered.points j ≡ Some p → slice_get gathered.points k ≡ Some q → HasFact p f → HasFact q f → j ≡ k
  one_point j k p q f at_j at_k has_p has_q =
      let fact = own mode facts gathered are j p at_j f has_p in
      let other = own mode facts gathered are k q at_k f has_q in
      let same : fact.0 ≡ other.0 = same_some fact.0 other.0 (slice_get facts f) fact.1 other.1 in
      let concept = fact.2.concept ∙ ap (λ (x : Fact). x.concept) same ∙ sym other.2.concept in
      let key = fact.2.key ∙ ap (λ (x : Fact). x.key) same ∙ sym other.2.key in
      distinct mode facts gathered are j k p q at_j at_k concept key

  one_bound : (f : ℕ) (b c : Bound) → IsBoundOf gathered f b → IsBoundOf gathered f c → b ≡ c
  one_bound f b c h k =
      let at : b.point ≡ c.point = one_point b.point c.point h.point k.point f h.there k.there h.has k.has in
      let range : b.range ≡ c.range = same_some b.range c.range (slice_get gathered.ends f) h.range k.range in
      λ i. record { point = at i; range = range i }

pub one_system : HasOneLowest → HasOwnFacts → HasDistinct → HasOneSystem
one_system lowest own distinct mode facts gathered bindings s t are h k =
    let points : s.points ≡ t.points = h.points ∙ sym k.points in
    let bounds : s.bounds ≡ t.bounds = same_list s.bounds t.bounds (h.facts ∙ sym k.facts) (λ f b c at other. one_bound own distinct mode facts gathered are f b c (h.bounds f b at) (k.bounds f c other)) in
    let equations : s.equations ≡ t.equations = one_equations lowest bindings s.equations t.equations h.equations k.equations in
    λ i. record { points = points i; bounds = bounds i; equations = equations i }
