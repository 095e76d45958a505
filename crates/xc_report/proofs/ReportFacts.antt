-- What follows from the definition of a report: its ids, its keys and their numbers.
use Rattle.std.proofs.Common.{◌≡◌, ◌+◌, ◌++◌, ◌<◌, ◌||◌, List, [], ◌∷◌, Bool, true, false, length, map, fold, cond, not, refl, sym, ap, ap₂, subst, ◌∙◌, arith, true≢false, if◌then◌else◌}
use Rattle.std.specs.Cmp.{IsEquivalence}
use Rattle.std.specs.List.{AllByRecursion, IsDistinct, list_any, position_or_len}
use Rattle.std.proofs.lemmas.List.Elements.{All-from_recursion}
use Rattle.std.proofs.lemmas.Map.Keys.{IsDistinct-push}
use Rattle.std.proofs.lemmas.Map.Made.{AllPairs-from_IsDistinct}
use Rattle.xc_names.specs.declared.expanded.Expanded.{Expanded}
use Rattle.xc_report.specs.Dimensions.{IsAscending, is_same_key, with_key, distinct}
use Rattle.xc_report.specs.Numbered.{AreKeyed, IsReport, keys_of, numbered_in}
use Rattle.xc_report.specs.Reports.{TextsAscend, StatedIdsAscend, IdsAscend, StandOnce, KeysAscend, HaveKeys}
use Rattle.xc_report.specs.declared.dimensions.Key.{Key}
use Rattle.xc_report.specs.declared.numbered.KeyedFact.{KeyedFact}
use Rattle.xc_report.specs.declared.reports.Fact.{Fact}
use Rattle.xc_report.specs.declared.reports.Report.{Report}
use Rattle.xc_report.specs.declared.stated.StatedFact.{StatedFact}
use Rattle.xc_report.proofs.KeyOrder.{in_order_ascends}
use Rattle.xc_report.proofs.KeyPlaces.{key_there, still_there}
use Rattle.xc_report.proofs.KeysDecide.{key_decides}

-- ---- ids

ids_numbered : (keys : List Key) (facts : List KeyedFact) → map (λ (fact : Fact). fact.id) (map (numbered_in keys) facts) ≡ map (λ (fact : KeyedFact). fact.id) facts
ids_numbered keys [] = refl
ids_numbered keys (f ∷ fs) = ap (λ ids. f.id ∷ ids) (ids_numbered keys fs)

ids_keyed : (names : List Expanded) (facts : List StatedFact) (keyed : List KeyedFact) → AreKeyed names facts keyed → map (λ (fact : KeyedFact). fact.id) keyed ≡ map (λ (fact : StatedFact). fact.id) facts
ids_keyed names [] [] are = refl
ids_keyed names [] (k ∷ ks) are = absurd are
ids_keyed names (f ∷ fs) [] are = absurd are
ids_keyed names (f ∷ fs) (k ∷ ks) are = ap₂ (λ id ids. id ∷ ids) are.0.id (ids_keyed names fs ks are.1)

-- the ids of a report ascend where those of what it states do
pub ids_ascend : (names : List Expanded) (facts : List StatedFact) (report : Report) → IsReport names facts report → StatedIdsAscend facts → IdsAscend report.facts
ids_ascend names facts report is ascend =
    subst TextsAscend (sym (ap (λ (fs : List Fact). map (λ (fact : Fact). fact.id) fs) is.facts_are ∙ ids_numbered (distinct (keys_of is.keyed)) is.keyed ∙ ids_keyed names facts is.keyed is.each)) ascend

-- ---- no two keys are equal

same_turned : (a b : Key) (c : Bool) → is_same_key b a ≡ c → is_same_key a b ≡ c
same_turned a b true h = (key_decides a b).1 (sym ((key_decides b a).0 h))
same_turned a b false h = by (is_same_key a b) refl
  where
    by : (c : Bool) → is_same_key a b ≡ c → c ≡ false
    by true e = absurd (true≢false (sym ((key_decides b a).1 (sym ((key_decides a b).0 e))) ∙ h))
    by false e = refl

pub same_key_laws : IsEquivalence is_same_key
same_key_laws = record {
  refl = λ a. (key_decides a a).1 refl;
  symm = λ a b. same_turned a b (is_same_key b a) refl;
  congr = λ a b c same. ap (λ k. is_same_key k c) ((key_decides a b).0 same);
}

put_distinct : (ks : List Key) (k : Key) (there : Bool) → list_any (is_same_key k) ks ≡ there → IsDistinct is_same_key ks → IsDistinct is_same_key (if there then ks else ks ++ k ∷ [])
put_distinct ks k true e apart = apart
put_distinct ks k false e apart = IsDistinct-push same_key_laws ks k apart e

all_distinct : (ks others : List Key) → IsDistinct is_same_key ks → IsDistinct is_same_key (fold with_key ks others)
all_distinct ks [] apart = apart
all_distinct ks (o ∷ os) apart = all_distinct (with_key ks o) os (put_distinct ks o _ refl apart)

none_distinct : IsDistinct is_same_key []
unfolding IsDistinct
none_distinct = tt

pub keys_stand_once : (names : List Expanded) (facts : List StatedFact) (report : Report) → IsReport names facts report → StandOnce report.keys
keys_stand_once names facts report is = subst StandOnce (sym is.keys) (AllPairs-from_IsDistinct key_decides (distinct (keys_of is.keyed)) (all_distinct [] (keys_of is.keyed) none_distinct))

-- ---- each key ascends

put_last : {X : Type 0} (P : X → Type 0) (xs : List X) (x : X) → AllByRecursion P xs → P x → AllByRecursion P (xs ++ x ∷ [])
put_last P [] x all p = (p, tt)
put_last P (y ∷ ys) x all p = (all.0, put_last P ys x all.1 p)

put_each : (P : Key → Type 0) (ks : List Key) (k : Key) (there : Bool) → AllByRecursion P ks → P k → AllByRecursion P (if there then ks else ks ++ k ∷ [])
put_each P ks k true all p = all
put_each P ks k false all p = put_last P ks k all p

each_distinct : (P : Key → Type 0) (ks others : List Key) → AllByRecursion P ks → AllByRecursion P others → AllByRecursion P (fold with_key ks others)
each_distinct P ks [] all rest = all
each_distinct P ks (o ∷ os) all rest = each_distinct P (with_key ks o) os (put_each P ks o _ all rest.0) rest.1

keyed_ascend : (names : List Expanded) (facts : List StatedFact) (keyed : List KeyedFact) → AreKeyed names facts keyed → AllByRecursion IsAscending (keys_of keyed)
keyed_ascend names [] [] are = tt
keyed_ascend names [] (k ∷ ks) are = absurd are
keyed_ascend names (f ∷ fs) [] are = absurd are
keyed_ascend names (f ∷ fs) (k ∷ ks) are = (subst IsAscending (sym are.0.key.ordered) (in_order_ascends are.0.key.numbers), keyed_ascend names fs ks are.1)

pub keys_ascend : (names : List Expanded) (facts : List StatedFact) (report : Report) → IsReport names facts report → KeysAscend report.keys
keys_ascend names facts report is = subst KeysAscend (sym is.keys) (All-from_recursion IsAscending (distinct (keys_of is.keyed)) (each_distinct IsAscending [] (keys_of is.keyed) tt (keyed_ascend names facts is.keyed is.each)))

-- ---- each fact has the number of a key

place_at : {X : Type 0} (p : X → Bool) (x : X) (xs : List X) (passes : Bool) → (list_any p xs ≡ true → position_or_len p xs < length xs) → (passes || list_any p xs) ≡ true → cond (not passes) (1 + position_or_len p xs) 0 < length (x ∷ xs)
place_at p x xs true rest e = omega arith
place_at p x xs false rest e = let further = rest e in omega arith

pub place_within : {X : Type 0} (p : X → Bool) (xs : List X) → list_any p xs ≡ true → position_or_len p xs < length xs
place_within p [] h = absurd (true≢false (sym h))
place_within p (x ∷ xs) h = place_at p x xs (p x) (place_within p xs) h

pub all_there : (ks others : List Key) → AllByRecursion (λ k. list_any (is_same_key k) (fold with_key ks others) ≡ true) others
all_there ks [] = tt
all_there ks (o ∷ os) = (still_there (with_key ks o) os o (key_there ks o), all_there (with_key ks o) os)

numbers_within : (keys : List Key) (facts : List KeyedFact) → AllByRecursion (λ k. list_any (is_same_key k) keys ≡ true) (keys_of facts) → AllByRecursion (λ (fact : Fact). fact.key < length keys) (map (numbered_in keys) facts)
numbers_within keys [] all = tt
numbers_within keys (f ∷ fs) all = (place_within (is_same_key f.key) keys all.0, numbers_within keys fs all.1)

pub facts_have_keys : (names : List Expanded) (facts : List StatedFact) (report : Report) → IsReport names facts report → HaveKeys report.keys report.facts
facts_have_keys names facts report is =
    let keys = distinct (keys_of is.keyed) in
    let numbered = map (numbered_in keys) is.keyed in
    let within : HaveKeys keys numbered = All-from_recursion (λ (fact : Fact). fact.key < length keys) numbered (numbers_within keys is.keyed (all_there [] (keys_of is.keyed))) in
    subst (λ ks. HaveKeys ks report.facts) (sym is.keys) (subst (HaveKeys keys) (sym is.facts_are) within)
