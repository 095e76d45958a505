-- Equality of keys is that of their dimensions with their values, and a key has one number.
use Rattle.std.proofs.Common.{◌≡◌, ◌↔◌, List, true, Contains, sym, ap, ◌∙◌}
use Rattle.std.proofs.Math.ListN.{get_or}
use Rattle.std.proofs.lemmas.Bool.Decides.{Decides-at}
use Rattle.std.proofs.lemmas.List.Sums.{passes_at_first}
use Rattle.std.proofs.lemmas.Map.Made.{AllPairs-from_IsDistinct}
use Rattle.std.proofs.lemmas.Map.Views.{list_any-from_Contains}
use Rattle.std.specs.List.{IsDistinct}
use Rattle.xc_report.specs.Dimensions.{IsAscending, HaveSameValues, is_same_key, key_number, value_at}
use Rattle.xc_report.specs.Reports.{StandOnce}
use Rattle.xc_report.specs.contracts.dimensions.KeyPartialEq.TheImpl as comparison
use Rattle.xc_report.specs.declared.dimensions.Key.{Key}
use Rattle.xc_report.proofs.KeyOrder.{same_from_values}
use Rattle.xc_report.proofs.KeysDecide.{key_decides}
use Rattle.xc_report.proofs.ReportFacts.{same_key_laws, place_within}
use Rattle.xc_report.proofs.SameKeys.{key_is}

pub keys_tell_values : (a b : Key) → IsAscending a → IsAscending b → (is_same_key a b ≡ true) ↔ HaveSameValues a b
keys_tell_values a b s t = (λ e. λ d. ap (λ key. value_at key d) ((key_decides a b).0 e), λ same. (key_decides a b).1 (same_from_values a b s t same))

pub comparison_tells_values : (a b : Key) → IsAscending a → IsAscending b → (comparison.eq-value.it a b ≡ true) ↔ HaveSameValues a b
comparison_tells_values a b s t =
    let by = keys_tell_values a b s t in
    (λ e. by.0 (sym (key_is a b) ∙ e), λ same. key_is a b ∙ by.1 same)

-- the number of a key of the list is the place of that key
key_there : (keys : List Key) (a d : Key) → Contains keys a → a ≡ get_or keys (key_number keys a) d
key_there keys a d here = (key_decides a _).0 (passes_at_first (is_same_key a) keys d (place_within (is_same_key a) keys (list_any-from_Contains same_key_laws a keys here)))

pub same_from_number : (keys : List Key) (a b : Key) → Contains keys a → Contains keys b → key_number keys a ≡ key_number keys b → a ≡ b
same_from_number keys a b here there e = key_there keys a a here ∙ ap (λ n. get_or keys n a) e ∙ sym (key_there keys b a there)

-- keys that `==` tells apart are not equal
pub once_from_distinct : (keys : List Key) → IsDistinct comparison.eq-value.it keys → StandOnce keys
once_from_distinct keys apart = AllPairs-from_IsDistinct (λ a b. Decides-at _ _ (key_is a b) (key_decides a b)) keys apart
