-- The index of the scope, by bindings with the nearest first.
use Rattle.std.proofs.Common.{◌≡◌, ℕ, suc, ◌<◌, ◌≤◌, ◌-◌, arith, Bool, true, false, cond, List, [], ◌∷◌, ◌++◌, length, get_or, drop, Some, None, IsSome, is_some, unwrap_or, true≢false, refl, sym, ap, subst, ◌∙◌}
use Rattle.std.specs.Prelude.{map, reverse, encode_utf8_all}
use Rattle.std.specs.BTreeMap.{BTreeMap}
use Rattle.std.specs.Borrow.{Bor}
use Rattle.std.specs.Str.{bytes_eq, chars}
use Rattle.std.proofs.lemmas.List.{map-append, reverse-append, reverse-reverse, length-reverse, get_or_push, get_or_append_left}
use Rattle.std.proofs.lemmas.Slice.Eq.{bytes_eq-Decides}
use Rattle.xc_elements.specs.Namespaces.{Binding, nearest}
use Rattle.xc_elements.specs.Steps.Bindings.{binding_view, place_of, place_in, AreLinked, IsIndexed}
use Rattle.xc_elements.specs.Steps.Views.{lent_text}
use Rattle.xc_elements.specs.declared.scope.BoundPrefix.{BoundPrefix}

-- ---- texts that are the UTF-8 of their characters

same_bytes : (p q : List ℕ) → encode_utf8_all (chars p) ≡ p → encode_utf8_all (chars q) ≡ q → chars p ≡ chars q → p ≡ q
same_bytes p q u v e = sym u ∙ ap (λ (cs : List ℕ). encode_utf8_all cs) e ∙ v

-- they are equal by bytes as by characters
pub equal_by_chars : (p q : List ℕ) → encode_utf8_all (chars p) ≡ p → encode_utf8_all (chars q) ≡ q → bytes_eq p q ≡ bytes_eq (chars p) (chars q)
equal_by_chars p q u v = by (bytes_eq (chars p) (chars q)) refl
  where
    apart : (b : Bool) → bytes_eq (chars p) (chars q) ≡ false → bytes_eq p q ≡ b → b ≡ false
    apart false e t = refl
    apart true e t = absurd (true≢false (sym ((bytes_eq-Decides (chars p) (chars q)).1 (ap chars ((bytes_eq-Decides p q).0 t))) ∙ e))

    by : (b : Bool) → bytes_eq (chars p) (chars q) ≡ b → bytes_eq p q ≡ b
    by true e = (bytes_eq-Decides p q).1 (same_bytes p q u v ((bytes_eq-Decides (chars p) (chars q)).0 e))
    by false e = apart (bytes_eq p q) e refl

-- ---- the place of a prefix

-- the nearest declaration of a prefix stands at its place
pub record IsAt (bound : List BoundPrefix) (prefix : List ℕ) (place : ℕ) : Type 0 where
  pub within : place < length bound
  pub is : (d : BoundPrefix) → nearest (map binding_view bound) (chars prefix) ≡ Some (get_or (reverse bound) place d).space

pub by_first : (b : Binding) (bs : List Binding) (prefix : List ℕ) (t : Bool) → bytes_eq b.prefix prefix ≡ t → nearest (b ∷ bs) prefix ≡ cond t (Some b.space) (nearest bs prefix)
by_first b bs prefix true e = rw e refl
by_first b bs prefix false e = rw e refl

-- the bindings that are kept, the nearest first, are seen one by one
pub meanings_backward : (items : List BoundPrefix) → map binding_view (reverse items) ≡ reverse (map binding_view items)
meanings_backward [] = refl
meanings_backward (b ∷ items) =
    ap (map binding_view) (reverse-append (b ∷ []) items)
    ∙ map-append binding_view (reverse items) (b ∷ [])
    ∙ ap (λ bs. bs ++ binding_view b ∷ []) (meanings_backward items)
    ∙ sym (reverse-append (binding_view b ∷ []) (map binding_view items))

found_here : (b : BoundPrefix) (outer : List BoundPrefix) (prefix : List ℕ) (place : ℕ) → bytes_eq (lent_text b.prefix) (chars prefix) ≡ true → length outer ≡ place → IsAt (b ∷ outer) prefix place
found_here b outer prefix place e here = record {
  within = omega (arith, here);
  is = λ d. by_first (binding_view b) (map binding_view outer) (chars prefix) true e
      ∙ ap (λ x. Some x.space) (sym (ap (λ bs. get_or bs place d) (reverse-append (b ∷ []) outer) ∙ get_or_push (reverse outer) b d place (length-reverse outer ∙ here)));
}

found_further : (b : BoundPrefix) (outer : List BoundPrefix) (prefix : List ℕ) (place : ℕ) → bytes_eq (lent_text b.prefix) (chars prefix) ≡ false → IsAt outer prefix place → IsAt (b ∷ outer) prefix place
found_further b outer prefix place e further =
    let within : place < length (reverse outer) = omega (arith, length-reverse outer, further.within) in
    record {
      within = omega (arith, further.within);
      is = λ d. by_first (binding_view b) (map binding_view outer) (chars prefix) false e
          ∙ further.is d
          ∙ ap (λ x. Some x.space) (sym (ap (λ bs. get_or bs place d) (reverse-append (b ∷ []) outer) ∙ get_or_append_left (reverse outer) (b ∷ []) d place within));
    }

found_at : (bound : List BoundPrefix) (prefix : List ℕ) (place : ℕ) → encode_utf8_all (chars prefix) ≡ prefix → AreLinked bound → place_of prefix bound ≡ Some place → IsAt bound prefix place
found_at [] prefix place utf8 linked found = absurd (true≢false (sym (ap is_some found)))
found_at (b ∷ outer) prefix place utf8 linked found = by (found_at outer prefix place utf8 linked.2) (bytes_eq b.prefix.now prefix) refl
  where
    by : (place_of prefix outer ≡ Some place → IsAt outer prefix place) → (t : Bool) → bytes_eq b.prefix.now prefix ≡ t → IsAt (b ∷ outer) prefix place
    by further true e = found_here b outer prefix place (sym (equal_by_chars b.prefix.now prefix linked.0 utf8) ∙ e)
        (ap (λ o. unwrap_or o 0) (sym (ap (λ t. cond t (Some (length outer)) (place_of prefix outer)) e) ∙ found))
    by further false e = found_further b outer prefix place (sym (equal_by_chars b.prefix.now prefix linked.0 utf8) ∙ e)
        (further (sym (ap (λ t. cond t (Some (length outer)) (place_of prefix outer)) e) ∙ found))

found_nowhere : (bound : List BoundPrefix) (prefix : List ℕ) → encode_utf8_all (chars prefix) ≡ prefix → AreLinked bound → place_of prefix bound ≡ None → nearest (map binding_view bound) (chars prefix) ≡ None
found_nowhere [] prefix utf8 linked none = refl
found_nowhere (b ∷ outer) prefix utf8 linked none = by (found_nowhere outer prefix utf8 linked.2) (bytes_eq b.prefix.now prefix) refl
  where
    by : (place_of prefix outer ≡ None → nearest (map binding_view outer) (chars prefix) ≡ None) → (t : Bool) → bytes_eq b.prefix.now prefix ≡ t → nearest (map binding_view (b ∷ outer)) (chars prefix) ≡ None
    by further true e = absurd (true≢false (ap is_some (sym (ap (λ t. cond t (Some (length outer)) (place_of prefix outer)) e) ∙ none)))
    by further false e = by_first (binding_view b) (map binding_view outer) (chars prefix) false (sym (equal_by_chars b.prefix.now prefix linked.0 utf8) ∙ e)
        ∙ further (sym (ap (λ t. cond t (Some (length outer)) (place_of prefix outer)) e) ∙ none)

-- ---- look-ups

module _ (places : BTreeMap (Bor (List ℕ)) ℕ) (items : List BoundPrefix) (index : IsIndexed places items) (prefix : List ℕ) (utf8 : encode_utf8_all (chars prefix) ≡ prefix) where
  pub place_within : (place : ℕ) → Some place ≡ place_in places prefix → place < length items
  place_within place found = omega (arith, length-reverse items, (found_at (reverse items) prefix place utf8 index.1 (sym (index.0 prefix) ∙ sym found)).within)

  pub nearest_at : (place : ℕ) (bound : BoundPrefix) → Some place ≡ place_in places prefix → bound ≡ get_or items place bound → Some bound.space ≡ nearest (reverse (map binding_view items)) (chars prefix)
  nearest_at place bound found is =
      ap (λ b. Some b.space) (is ∙ ap (λ bs. get_or bs place bound) (sym (reverse-reverse items)))
      ∙ sym ((found_at (reverse items) prefix place utf8 index.1 (sym (index.0 prefix) ∙ sym found)).is bound)
      ∙ ap (λ bs. nearest bs (chars prefix)) (meanings_backward items)

  pub nearest_nowhere : None ≡ place_in places prefix → None ≡ nearest (reverse (map binding_view items)) (chars prefix)
  nearest_nowhere none =
      sym (found_nowhere (reverse items) prefix utf8 index.1 (sym (index.0 prefix) ∙ sym none))
      ∙ ap (λ bs. nearest bs (chars prefix)) (meanings_backward items)

-- ---- one binding more, or less

-- a binding that keeps the place that its prefix had, and takes the next
pub index_more : (places later : BTreeMap (Bor (List ℕ)) ℕ) (items kept more : List BoundPrefix) (bound : BoundPrefix) (place : ℕ)
    → more ≡ kept ++ bound ∷ [] → kept ≡ items → place ≡ length kept
    → encode_utf8_all (lent_text bound.prefix) ≡ bound.prefix.now → bound.shadowed ≡ place_in places bound.prefix.now
    → ((prefix : List ℕ) → place_in later prefix ≡ cond (bytes_eq bound.prefix.now prefix) (Some place) (place_in places prefix))
    → IsIndexed places items → IsIndexed later more
index_more places later items kept more bound place grown same here utf8 shadowed updates index =
    let back : reverse more ≡ bound ∷ reverse items = ap reverse (grown ∙ ap (λ bs. bs ++ bound ∷ []) same) ∙ reverse-append items (bound ∷ []) in
    let place_is : place ≡ length (reverse items) = here ∙ ap length same ∙ sym (length-reverse items) in (
      λ prefix. updates prefix
          ∙ ap (λ o. cond (bytes_eq bound.prefix.now prefix) (Some place) o) (index.0 prefix)
          ∙ ap (λ n. cond (bytes_eq bound.prefix.now prefix) (Some n) (place_of prefix (reverse items))) place_is
          ∙ ap (place_of prefix) (sym back),
      subst AreLinked (sym back) (utf8, shadowed ∙ index.0 bound.prefix.now, index.1),
    )

module _ (places : BTreeMap (Bor (List ℕ)) ℕ) (items fewer : List BoundPrefix) (bound : BoundPrefix) (grown : items ≡ fewer ++ bound ∷ []) (index : IsIndexed places items) where
  back : reverse items ≡ bound ∷ reverse fewer
  back = ap reverse grown ∙ reverse-append fewer (bound ∷ [])

  -- the nearest binding is of a prefix that has a place
  pub is_placed : IsSome (place_in places bound.prefix.now)
  is_placed =
      ap is_some (index.0 bound.prefix.now ∙ ap (place_of bound.prefix.now) back
      ∙ ap (λ t. cond t (Some (length (reverse fewer))) (place_of bound.prefix.now (reverse fewer))) ((bytes_eq-Decides bound.prefix.now bound.prefix.now).1 refl))

  -- without it the prefix has the place that it keeps
  pub index_less : (later : BTreeMap (Bor (List ℕ)) ℕ) → ((prefix : List ℕ) → place_in later prefix ≡ cond (bytes_eq bound.prefix.now prefix) bound.shadowed (place_in places prefix)) → IsIndexed later fewer
  index_less later updates =
      let linked : AreLinked (bound ∷ reverse fewer) = subst AreLinked back index.1 in
      (λ prefix. updates prefix ∙ by prefix linked.1 (bytes_eq bound.prefix.now prefix) refl, linked.2)
    where
      by : (prefix : List ℕ) → bound.shadowed ≡ place_of bound.prefix.now (reverse fewer) → (t : Bool) → bytes_eq bound.prefix.now prefix ≡ t → cond (bytes_eq bound.prefix.now prefix) bound.shadowed (place_in places prefix) ≡ place_of prefix (reverse fewer)
      by prefix shadowed true e = ap (λ t. cond t bound.shadowed (place_in places prefix)) e ∙ shadowed ∙ ap (λ p. place_of p (reverse fewer)) ((bytes_eq-Decides bound.prefix.now prefix).0 e)
      by prefix shadowed false e = ap (λ t. cond t bound.shadowed (place_in places prefix)) e ∙ index.0 prefix ∙ ap (place_of prefix) back ∙ ap (λ t. cond t (Some (length (reverse fewer))) (place_of prefix (reverse fewer))) e

-- ---- leaving

-- one binding less, of more than so many, leaves the same first so many
pub leave_more : {A : Type 0} (xs ys : List A) (n : ℕ) → n < length xs → ys ≡ drop 1 xs → drop (length ys - n) ys ≡ drop (length xs - n) xs
leave_more [] ys n h e = absurd (omega arith)
leave_more (x ∷ xs) ys n h e =
    let one_more : suc (length xs - n) ≡ suc (length xs) - n = omega arith in
    ap (λ zs. drop (length zs - n) zs) e ∙ ap (λ k. drop k (x ∷ xs)) one_more

-- of no more than so many, all are left
pub leave_none : {A : Type 0} (xs : List A) (n : ℕ) → length xs ≤ n → drop (length xs - n) xs ≡ xs
leave_none xs n h =
    let none : length xs - n ≡ 0 = omega arith in
    ap (λ k. drop k xs) none
