-- The first places in a list that grows by an item.
use Rattle.std.proofs.Common.{◌≡◌, ◌+◌, ◌<◌, arith, take, drop, get_or, ℕ, List, [], ◌∷◌, ◌++◌, Bool, true, false, Option, Some, None, length, cond, refl, sym, ap, ◌∙◌, zero-add, true≢false, is_some, unwrap_or}
use Rattle.std.proofs.lemmas.List.{drop_more, length-take-le, take-append-drop}
use Rattle.std.specs.List.{position_from, position_or_len}
use Rattle.std.specs.Ordering.{is_eq, eq_by_cmp}
use Rattle.std.specs.BTreeMap.{is_at}
use Rattle.std.specs.Cmp.{IsTotalOrder, eq_by_cmp_equiv}
use Rattle.std.specs.declared.cmp.Ordering.{Ordering}
use Rattle.xc_lists.proofs.Positions.{position_from-stays, position_from-push, position_from_congr, position_or_len-before, place_or_len}
use Rattle.xc_lists.specs.Firsts.{first_equal, first_or_len}
use Rattle.xc_lists.specs.Steps.Indexed.{IsIndex}

-- a first place, or else the length
pub first_or_len-first : {K : Type 0} (cmp : K → K → Ordering) (item : K) (items : List K) → unwrap_or (first_equal cmp item items) (length items) ≡ first_or_len cmp item items
first_or_len-first {K} cmp item items =
    let t : K → Bool = λ other. is_eq (cmp item other) in
    ap (λ n. unwrap_or (position_from t 0 items) n) (sym (zero-add (length items))) ∙ place_or_len t 0 items ∙ zero-add (position_or_len t items)

module _ {K : Type 0} {cmp : K → K → Ordering} (order : IsTotalOrder cmp) where
  -- equal items have one first place
  pub first_equal_congr : (x y : K) (items : List K) → is_eq (cmp x y) ≡ true → first_equal cmp x items ≡ first_equal cmp y items
  first_equal_congr x y items e = position_from_congr (eq_by_cmp cmp x) (eq_by_cmp cmp y) 0 items (λ z. (eq_by_cmp_equiv order).congr x y z e)

  settled : (items : List K) (item q : K) (o : Option ℕ) (b : Bool) → is_some (first_equal cmp item items) ≡ true → first_equal cmp q items ≡ o → is_eq (cmp q item) ≡ b → first_equal cmp q (items ++ item ∷ []) ≡ o
  settled items item q (Some j) b found e t = position_from-stays _ 0 j items item e
  settled items item q None true found e t = absurd (true≢false (sym found ∙ ap is_some (sym (first_equal_congr q item items t) ∙ e)))
  settled items item q None false found e t = position_from-push _ 0 items item e ∙ ap (λ b. cond b (Some (0 + length items)) None) t

  -- an item with an earlier equal changes no first place
  pub index_stays : (look : K → Option ℕ) (items : List K) (item : K) → IsIndex cmp look items → is_some (look item) ≡ true → IsIndex cmp look (items ++ item ∷ [])
  index_stays look items item index found = λ q. index q ∙ sym (settled items item q _ _ (sym (ap is_some (index item)) ∙ found) refl refl)

  grown : (items : List K) (item q : K) (o : Option ℕ) (b : Bool) → is_some (first_equal cmp item items) ≡ false → first_equal cmp q items ≡ o → is_eq (cmp q item) ≡ b → first_equal cmp q (items ++ item ∷ []) ≡ cond b (Some (length items)) o
  grown items item q (Some j) true none e t = absurd (true≢false (sym (ap is_some (sym (first_equal_congr q item items t) ∙ e)) ∙ none))
  grown items item q (Some j) false none e t = position_from-stays _ 0 j items item e
  grown items item q None b none e t = position_from-push _ 0 items item e ∙ ap (λ b. cond b (Some (0 + length items)) None) t ∙ ap (λ n. cond b (Some n) None) (zero-add (length items))

  -- an item with no earlier equal is the first of its kind
  pub index_grows : (look later : K → Option ℕ) (items : List K) (item : K) → IsIndex cmp look items → is_some (look item) ≡ false → ((q : K) → later q ≡ cond (is_at (cmp item) q) (Some (length items)) (look q)) → IsIndex cmp later (items ++ item ∷ [])
  index_grows look later items item index none updates = λ q.
      updates q
      ∙ ap (λ b. cond b (Some (length items)) (look q)) ((eq_by_cmp_equiv order).symm item q)
      ∙ ap (λ o. cond (is_eq (cmp q item)) (Some (length items)) o) (index q)
      ∙ sym (grown items item q _ _ (sym (ap is_some (index item)) ∙ none) refl refl)

  -- the first place of an item by those before it
  pub first_by_earlier : (items : List K) (at : ℕ) (item : K) → at < length items → item ≡ get_or items at item → unwrap_or (first_equal cmp item (take at items)) at ≡ first_or_len cmp item items
  first_by_earlier items at item within is =
      let t : K → Bool = λ other. is_eq (cmp item other) in
      let whole : take at items ++ item ∷ drop (at + 1) items ≡ items = ap (λ x. take at items ++ x ∷ drop (at + 1) items) is ∙ ap (λ rest. take at items ++ rest) (sym (drop_more items at item within)) ∙ take-append-drop at items in
      let here : length (take at items) ≡ at = length-take-le at items (omega arith) in
      ap (λ n. unwrap_or (first_equal cmp item (take at items)) n) (sym here)
      ∙ first_or_len-first cmp item (take at items)
      ∙ sym (position_or_len-before t (take at items) item (drop (at + 1) items) ((eq_by_cmp_equiv order).refl item))
      ∙ ap (λ items. first_or_len cmp item items) whole
