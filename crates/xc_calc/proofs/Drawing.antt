-- The arcs of arc elements, and the rules that these break, put together from their parts.
use Rattle.std.proofs.Common.{◌≡◌, ◌<◌, ◌+◌, ◌++◌, ℕ, zero, suc, List, [], ◌∷◌, Bool, true, false, All, Option, Some, None, length, filter, flat_map, if◌then◌else◌, refl, ap, ◌∙◌, arith, append-nil}
use Rattle.std.proofs.lemmas.Grind.{flat_map-append}
use Rattle.std.proofs.lemmas.List.Elements.{All-nil, All-cons}
use Rattle.std.specs.List.{range_with_len}
use Rattle.std.specs.Option.{option_or, option_map_or}
use Rattle.xc_calc.specs.Ends.{end_of_link, end_at, sources, targets}
use Rattle.xc_calc.specs.Linkbases.{is_locator, xlink_at}
use Rattle.xc_calc.specs.Rules.{attribute_fault, ends_fault, locator_fault, arc_fault}
use Rattle.xc_lists.proofs.Ranges.{before_more}
use Rattle.xc_lists.specs.Places.{before, first_given}
use Rattle.xc_concepts.specs.declared.schema.Schema.{Schema}
use Rattle.xc_calc.specs.declared.fault.LinkFault.{LinkFault}
use Rattle.xc_elements.specs.Trees.{parent_of}
use Rattle.xc_elements.specs.declared.nodes.Node.{Node}

-- ---- places

-- what passes a test in a range lies in it
passed_within : (p : ℕ → Bool) (a m n : ℕ) → a + m ≡ n → All (λ k. k < n) (filter p (range_with_len a m))
passed_within p a zero n e = All-nil (λ k. k < n)
passed_within p a (suc m) n e = by (p a) (passed_within p (a + 1) m n (omega (arith, e)))
  where
    by : (b : Bool) → All (λ k. k < n) (filter p (range_with_len (a + 1) m)) → All (λ k. k < n) (if b then a ∷ filter p (range_with_len (a + 1) m) else filter p (range_with_len (a + 1) m))
    by true rest = All-cons (λ k. k < n) a (filter p (range_with_len (a + 1) m)) (omega (arith, e)) rest
    by false rest = rest

-- the locators at an end are nodes of the document
pub end_within : (nodes : List Node) (at : ℕ) (local : List ℕ) → All (λ k. k < length nodes) (end_at nodes at local)
end_within nodes at local = by (parent_of nodes at) (xlink_at nodes at local)
  where
    none : All (λ k. k < length nodes) []
    none = All-nil (λ k. k < length nodes)

    by : (o : Option ℕ) (label : Option (List ℕ)) → All (λ k. k < length nodes) (option_map_or (end_of_link nodes label) o [])
    by None label = none
    by (Some link) None = none
    by (Some link) (Some label) = let whole : 0 + length nodes ≡ length nodes = omega arith in passed_within (is_locator nodes link label) 0 (length nodes) (length nodes) whole

-- ---- rules

first_both : {X : Type 0} (f : ℕ → Option X) (xs ys : List ℕ) → first_given f (xs ++ ys) ≡ option_or (first_given f xs) (first_given f ys)
first_both f [] ys = refl
first_both f (x ∷ xs) ys = by (f x) (first_both f xs ys)
  where
    by : (o : Option _) → first_given f (xs ++ ys) ≡ option_or (first_given f xs) (first_given f ys) → option_or o (first_given f (xs ++ ys)) ≡ option_or (option_or o (first_given f xs)) (first_given f ys)
    by None rest = rest
    by (Some y) rest = refl

module _ (schemas : List Schema) (nodes : List Node) (at : ℕ) (good : attribute_fault nodes at ≡ None) where
  -- by the ends, where the attributes are good
  pub fault_by_ends : (e : LinkFault) → ends_fault nodes at ≡ Some e → arc_fault schemas nodes at ≡ Some e
  fault_by_ends e h =
      let rest = first_given (locator_fault schemas nodes) (sources nodes at ++ targets nodes at) in
      ap (λ o. option_or o (option_or (ends_fault nodes at) rest)) good ∙ ap (λ o. option_or o rest) h

  module _ (both : ends_fault nodes at ≡ None) where
    fault_by_locators : arc_fault schemas nodes at ≡ option_or (first_given (locator_fault schemas nodes) (sources nodes at)) (first_given (locator_fault schemas nodes) (targets nodes at))
    fault_by_locators =
        let rest = first_given (locator_fault schemas nodes) (sources nodes at ++ targets nodes at) in
        ap (λ o. option_or o (option_or (ends_fault nodes at) rest)) good ∙ ap (λ o. option_or o rest) both ∙ first_both (locator_fault schemas nodes) (sources nodes at) (targets nodes at)

    -- by a source, where there are both ends
    pub fault_by_source : (e : LinkFault) → first_given (locator_fault schemas nodes) (sources nodes at) ≡ Some e → arc_fault schemas nodes at ≡ Some e
    fault_by_source e h = fault_by_locators ∙ ap (λ o. option_or o (first_given (locator_fault schemas nodes) (targets nodes at))) h

    -- by what the targets break, where no source breaks a rule
    pub fault_by_target : (o : Option LinkFault) → first_given (locator_fault schemas nodes) (sources nodes at) ≡ None → first_given (locator_fault schemas nodes) (targets nodes at) ≡ o → arc_fault schemas nodes at ≡ o
    fault_by_target o h g = fault_by_locators ∙ ap (λ p. option_or p (first_given (locator_fault schemas nodes) (targets nodes at))) h ∙ g

-- ---- the arcs of one more node

pub gathered_all : {X : Type 0} (f : ℕ → List X) (k : ℕ) → flat_map f (before (k + 1)) ≡ flat_map f (before k) ++ f k
gathered_all f k = ap (flat_map f) (before_more k) ∙ flat_map-append f (before k) (k ∷ []) ∙ ap (λ xs. flat_map f (before k) ++ xs) (append-nil (f k))
