-- A key has each value that is stated and no other, where no dimension stands twice.
use Rattle.std.proofs.Common.{◌≡◌, ◌<◌, ◌⊎◌, inl, inr, ℕ, suc, zero, List, [], ◌∷◌, Bool, true, false, Some, Contains, length, get_or, refl, sym, ap, ap₂, subst, ◌∙◌, arith}
use Rattle.std.proofs.lemmas.Bool.{false_from_ne_true}
use Rattle.std.proofs.lemmas.Map.Entries.{lookup_head, lookup_tail}
use Rattle.std.proofs.lemmas.Option.{none-some, same_Some}
use Rattle.std.specs.List.{IsDistinct}
use Rattle.std.specs.Map.{keys_of}
use Rattle.xc_names.specs.Laws.{NumbersTellNames}
use Rattle.xc_names.specs.declared.expanded.Expanded.{Expanded}
use Rattle.xc_report.specs.Dimensions.{is_same_dimension, value_at}
use Rattle.xc_report.specs.Laws.{SaysWhatIsStated}
use Rattle.xc_report.specs.Numbered.{IsPart, AreParts, IsKey}
use Rattle.xc_report.specs.declared.dimensions.Dimension.{Dimension}
use Rattle.xc_report.specs.declared.dimensions.DimValue.{DimValue}
use Rattle.xc_report.specs.declared.dimensions.Key.{Key}
use Rattle.xc_report.specs.declared.stated.StatedPart.{StatedPart}
use Rattle.xc_report.proofs.KeyValues.{none_behind, order_keeps_values}
use Rattle.xc_report.proofs.KeysDecide.{dimension_decides}
use Rattle.xc_report.proofs.SaidKeys.{value_carried}

here : {X : Type 0} (x : X) (xs : List X) → Contains (x ∷ xs) x
here x xs = (0, omega arith, refl)

behind : {X : Type 0} (y x : X) (xs : List X) → Contains xs x → Contains (y ∷ xs) x
behind y x xs (k, within, is) = (suc k, omega (arith, within), is)

first_or_behind : {X : Type 0} (y x : X) (xs : List X) (k : ℕ) → k < length (y ∷ xs) → get_or (y ∷ xs) k x ≡ x → (y ≡ x) ⊎ Contains xs x
first_or_behind y x xs zero within is = inl is
first_or_behind y x xs (suc k) within is = inr (k, omega (arith, within), is)

module _ (tell : NumbersTellNames) (names : List Expanded) where
  -- the part that states this value of this dimension
  abbrev IsStated : List StatedPart → Dimension → DimValue → Type 0
  IsStated ps by v = (part : StatedPart) × Contains ps part × IsPart names part (by, v)

  is_stated : (by : Dimension) (v : DimValue) (ps : List StatedPart) (qs : Key) → AreParts names ps qs → value_at qs by ≡ Some v → IsStated ps by v
  is_stated by v [] [] are e = absurd (none-some v e)
  is_stated by v [] (q ∷ qs) are e = absurd are
  is_stated by v (p ∷ ps) [] are e = absurd are
  is_stated by v (p ∷ ps) (q ∷ qs) are e = go (is_same_dimension by q.0) refl (is_stated by v ps qs are.1)
    where
      go : (same : Bool) → is_same_dimension by q.0 ≡ same → (value_at qs by ≡ Some v → IsStated ps by v) → IsStated (p ∷ ps) by v
      go true h more =
          let value : q.1 ≡ v = same_Some q.1 v (sym (lookup_head (is_same_dimension by) q qs h) ∙ e) in
          let part : (q.0, q.1) ≡ (by, v) = ap₂ (λ d w. (d, w)) (sym ((dimension_decides by q.0).0 h)) value in
          (p, here p ps, subst (IsPart names p) part are.0)
      go false h more =
          let found = more (sym (lookup_tail (is_same_dimension by) q qs h) ∙ e) in
          (found.0, behind p found.0 ps found.1, found.2)

  stands_there : (by : Dimension) (v : DimValue) (ps : List StatedPart) (qs : Key) → AreParts names ps qs → IsDistinct is_same_dimension (keys_of qs) → IsStated ps by v → value_at qs by ≡ Some v
  unfolding IsDistinct
  stands_there by v [] qs are apart (part, (k, within, at), is) = absurd (omega (arith, within))
  stands_there by v (p ∷ ps) [] are apart stated = absurd are
  stands_there by v (p ∷ ps) (q ∷ qs) are apart (part, (k, within, at), is) = go (first_or_behind p part ps k within at) (λ there. stands_there by v ps qs are.1 apart.1 (part, there, is))
    where
      go : (p ≡ part) ⊎ Contains ps part → (Contains ps part → value_at qs by ≡ Some v) → value_at (q ∷ qs) by ≡ Some v
      go (inl same) more =
          let first : IsPart names p (by, v) = subst (λ x. IsPart names x (by, v)) (sym same) is in
          let place : by ≡ q.0 = same_Some by q.0 (sym first.dimension ∙ are.0.dimension) in
          let value : q.1 ≡ v = value_carried tell names names p.value p.value q.1 q.1 q.1 v are.0.value are.0.value are.0.value first.value refl in
          lookup_head (is_same_dimension by) q qs ((dimension_decides by q.0).1 place) ∙ ap (λ w. Some w) value
      go (inr there) more =
          let later = more there in
          lookup_tail (is_same_dimension by) q qs (false_from_ne_true (is_same_dimension by q.0) (λ same.
          none-some v (sym (none_behind q.0 qs apart.0) ∙ ap (value_at qs) (sym ((dimension_decides by q.0).0 same)) ∙ later)))
          ∙ later

  -- the key says what is stated
  pub key_exact : (parts : List StatedPart) (key : Key) → (is : IsKey names parts key) → IsDistinct is_same_dimension (keys_of is.numbers) → SaysWhatIsStated names parts key
  key_exact parts key is apart by v =
      let value : value_at key by ≡ value_at is.numbers by = ap (λ (k : Key). value_at k by) is.ordered ∙ order_keeps_values is.numbers apart by in
      ((λ e. is_stated by v parts is.numbers is.each (sym value ∙ e)), (λ stated. value ∙ stands_there by v parts is.numbers is.each apart stated))
