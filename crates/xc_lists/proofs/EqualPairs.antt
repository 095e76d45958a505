-- Two that are equal, found by a set of those that have been seen.
use Rattle.std.proofs.Common.{◌≡◌, Bool, true, false, not, cond, ◌||◌, List, [], ◌∷◌, map, refl, sym, ap, ◌∙◌}
use Rattle.std.specs.List.{list_any}
use Rattle.std.specs.Ordering.{nat_cmp, is_eq, ordering_then}
use Rattle.std.specs.Cmp.Lexicographic.{slice_cmp}
use Rattle.std.specs.declared.cmp.Ordering.{Ordering}
use Rattle.std.proofs.lemmas.Map.Text.{is_eq-slice_cmp}
use Rattle.xc_lists.specs.Doubles.{has_same, has_equal, lent_texts, are_same_texts}
use Rattle.xc_lists.specs.declared.doubles.TextPair.{TextPair}
use Rattle.xc_lists.proofs.Orderings.{is_eq-then}
use Rattle.xc_lists.proofs.Anys.{no_one}
use Rattle.xc_lists.proofs.ListsOfImages.{any_changed}

-- one of those that are left has been seen, or two of them are the same
abbrev pub has_same_or_seen : {A : Type 0} → (A → A → Bool) → (A → Bool) → List A → Bool
has_same_or_seen same seen xs = list_any seen xs || has_same same xs

pub none_seen : {A : Type 0} (same : A → A → Bool) (seen : A → Bool) (xs : List A) → ((x : A) → seen x ≡ false) → has_same same xs ≡ has_same_or_seen same seen xs
none_seen same seen xs h = ap (λ t. t || has_same same xs) (sym (no_one seen xs h))

regroup : (a b c : Bool) → ((a || b) || c) ≡ (b || (a || c))
regroup true true c = refl
regroup true false c = refl
regroup false true c = refl
regroup false false c = refl

mixed : (a b c d : Bool) → (cond a true b || (c || d)) ≡ ((a || c) || (b || d))
mixed true b c d = refl
mixed false true true d = refl
mixed false true false d = refl
mixed false false true d = refl
mixed false false false d = refl

-- one more has been seen
any_more : {A : Type 0} (same : A → Bool) (seen new : A → Bool) (xs : List A) → ((q : A) → new q ≡ cond (same q) true (seen q)) → list_any new xs ≡ (list_any same xs || list_any seen xs)
any_more same seen new [] h = refl
any_more same seen new (x ∷ xs) h = ap (λ t. t || list_any new xs) (h x) ∙ ap (λ t. cond (same x) true (seen x) || t) (any_more same seen new xs h) ∙ mixed (same x) (seen x) (list_any same xs) (list_any seen xs)

pub seen_more : {A : Type 0} (same : A → A → Bool) (seen new : A → Bool) (x : A) (xs : List A) → ((q : A) → new q ≡ cond (same x q) true (seen q)) → seen x ≡ false → has_same_or_seen same seen (x ∷ xs) ≡ has_same_or_seen same new xs
seen_more same seen new x xs h e =
    ap (λ t. (t || list_any seen xs) || (list_any (same x) xs || has_same same xs)) e
    ∙ sym (regroup (list_any (same x) xs) (list_any seen xs) (has_same same xs))
    ∙ ap (λ t. t || has_same same xs) (sym (any_more (same x) seen new xs h))

pub not_seen : (b : Bool) → true ≡ not b → b ≡ false
not_seen true e = absurd cc
not_seen false e = refl

-- ---- by parts

same_map : {A B : Type 0} (t : A → A → Bool) (u : B → B → Bool) (v : A → B) (xs : List A) → ((x y : A) → t x y ≡ u (v x) (v y)) → has_same t xs ≡ has_same u (map v xs)
same_map t u v [] h = refl
same_map t u v (x ∷ xs) h =
    ap (λ b. b || has_same t xs) (sym (any_changed v (u (v x)) (t x) (λ y. sym (h x y)) xs))
    ∙ ap (λ b. list_any (u (v x)) (map v xs) || b) (same_map t u v xs h)

-- by the first texts, and then by the second
abbrev pair_cmp : TextPair → TextPair → Ordering
pair_cmp a b = ordering_then (slice_cmp nat_cmp a.first.now b.first.now) (slice_cmp nat_cmp a.second.now b.second.now)

is_eq-pair_cmp : (a b : TextPair) → is_eq (pair_cmp a b) ≡ are_same_texts (lent_texts a) (lent_texts b)
is_eq-pair_cmp a b = rw (is_eq-then (slice_cmp nat_cmp a.first.now b.first.now) (slice_cmp nat_cmp a.second.now b.second.now), is_eq-slice_cmp a.first.now b.first.now, is_eq-slice_cmp a.second.now b.second.now) refl

-- pairs are equal in their order where their texts are the same
pub equal_pairs : (pairs : List TextPair) → has_equal pair_cmp pairs ≡ has_same are_same_texts (map lent_texts pairs)
equal_pairs pairs = same_map (λ x y. is_eq (pair_cmp x y)) are_same_texts lent_texts pairs is_eq-pair_cmp
