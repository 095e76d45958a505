-- Lists of multipliers whose numbers ascend.
use Rattle.std.proofs.Common.{◌≡◌, ◌⊎◌, ℕ, ◌+◌, ◌-◌, ◌<◌, ◌≤◌, true, List, [], ◌∷◌, ◌++◌, length, get_or, map, Some, None, sym, ap, ◌∙◌, subst, arith, inl, inr, length-append}
use Rattle.std.specs.Prelude.{nat_lt, slice_get}
use Rattle.std.specs.List.Sorted.{IsStrictlySortedBy, IsStrictlyIncreasing}
use Rattle.std.specs.Option.{option_map_or}
use Rattle.std.specs.Ordering.{nat_cmp}
use Rattle.std.proofs.lemmas.Bool.{ltb-true, lt-ltb, cases_lt}
use Rattle.std.proofs.lemmas.List.{map-append, length-map, get_or-map, get_or_push, get_or_at, get_or_append_left}
use Rattle.std.proofs.lemmas.Map.Keys.{sorted_from_strictly_increasing, IsStrictlyIncreasing-from_sorted}
use Rattle.std.proofs.lemmas.Option.{slice_get_cases}
use Rattle.xc_cert.specs.Steps.Reading.{is_behind}
use Rattle.xc_model.specs.Ratio.{Ratio}
use Rattle.xc_system.specs.Kept.{IsAscending}

numbers : List (ℕ × Ratio) → List ℕ
numbers listed = map (λ m. m.0) listed

-- the last of the list is below the number, where there is one
IsBelow : List (ℕ × Ratio) → ℕ → Type 0
IsBelow listed n = 0 < length listed → get_or (numbers listed) (length listed - 1) 0 < n

last_is : (listed : List (ℕ × Ratio)) (k : ℕ) (x : ℕ × Ratio) → k < length listed → get_or listed k x ≡ x → get_or (numbers listed) k 0 ≡ x.0
unfolding numbers
last_is listed k x within is = get_or-map (λ m. m.0) listed k x 0 within ∙ ap (λ m. m.0) is

below_of : (listed : List (ℕ × Ratio)) (n : ℕ) → is_behind listed n ≡ true → IsBelow listed n
unfolding IsBelow
below_of listed n e = λ some. by some (slice_get_cases listed (length listed - 1)).1
  where
    by : 0 < length listed → ((x : ℕ × Ratio) × (length listed - 1 < length listed) × (slice_get listed (length listed - 1) ≡ Some x) × (get_or listed (length listed - 1) x ≡ x)) ⊎ ((length listed ≤ length listed - 1) × (slice_get listed (length listed - 1) ≡ None)) → get_or (numbers listed) (length listed - 1) 0 < n
    by some (inl h) = let less = ltb-true h.0.0 n (sym (ap (λ o. option_map_or (λ m. nat_lt m.0 n) o true) h.2) ∙ e) in omega (arith, less, last_is listed (length listed - 1) h.0 h.1 h.3)
    by some (inr h) = absurd (omega (arith, some, h.0))

behind_of : (listed : List (ℕ × Ratio)) (n : ℕ) → IsBelow listed n → is_behind listed n ≡ true
unfolding IsBelow
behind_of listed n below = by (slice_get_cases listed (length listed - 1)).1
  where
    by : ((x : ℕ × Ratio) × (length listed - 1 < length listed) × (slice_get listed (length listed - 1) ≡ Some x) × (get_or listed (length listed - 1) x ≡ x)) ⊎ ((length listed ≤ length listed - 1) × (slice_get listed (length listed - 1) ≡ None)) → is_behind listed n ≡ true
    by (inl h) =
        let less = below (omega (arith, h.1)) in
        ap (λ o. option_map_or (λ m. nat_lt m.0 n) o true) h.2 ∙ lt-ltb h.0.0 n (omega (arith, less, last_is listed (length listed - 1) h.0 h.1 h.3))
    by (inr h) = ap (λ o. option_map_or (λ m. nat_lt m.0 n) o true) h.1

increasing_more : (ks : List ℕ) (n : ℕ) → IsStrictlyIncreasing ks → (0 < length ks → get_or ks (length ks - 1) 0 < n) → IsStrictlyIncreasing (ks ++ n ∷ [])
increasing_more ks n up below k within =
    let longer = length-append ks (n ∷ []) in
    elim (cases_lt (k + 1) (length ks)) [
      | inl inside ↦
          let first = get_or_append_left ks (n ∷ []) 0 k (omega arith) in
          let second = get_or_append_left ks (n ∷ []) 0 (k + 1) inside in
          omega (arith, first, second, up k inside)
      | inr outside ↦
          let at : k + 1 ≡ length ks = omega (arith, longer, within, outside) in
          let first = get_or_append_left ks (n ∷ []) 0 k (omega (arith, at)) in
          let second = get_or_push ks n 0 (k + 1) (sym at) in
          let place : length ks - 1 ≡ k = omega (arith, at) in
          let last : get_or ks k 0 < n = subst (λ j. get_or ks j 0 < n) place (below (omega (arith, at))) in
          omega (arith, first, second, last)
    ]

-- a list that ascends, with a number behind its last
pub ascends_more : (listed : List (ℕ × Ratio)) (n : ℕ) (f : Ratio) → IsAscending listed → is_behind listed n ≡ true → IsAscending (listed ++ (n, f) ∷ [])
unfolding IsBelow numbers
ascends_more listed n f up e =
    let keys : List ℕ = map (λ m. m.0) listed in
    let long = length-map listed (λ m. m.0) in
    let below = below_of listed n e in
    let more = increasing_more keys n (IsStrictlyIncreasing-from_sorted keys up) (λ some. subst (λ j. get_or keys (j - 1) 0 < n) (sym long) (below (omega (arith, some, long)))) in
    subst (IsStrictlySortedBy nat_cmp) (sym (map-append (λ m. m.0) listed ((n, f) ∷ []))) (sorted_from_strictly_increasing (keys ++ n ∷ []) more)

-- in one that ascends, each number is behind those before it
pub behind_of_ascending : (listed : List (ℕ × Ratio)) (m : ℕ × Ratio) (more : List (ℕ × Ratio)) → IsAscending (listed ++ m ∷ more) → is_behind listed m.0 ≡ true
unfolding IsBelow numbers
behind_of_ascending listed m more up =
    let keys : List ℕ = map (λ m. m.0) listed in
    let rest : List ℕ = map (λ m. m.0) more in
    let long = length-map listed (λ m. m.0) in
    let all = IsStrictlyIncreasing-from_sorted (keys ++ m.0 ∷ rest) (subst (IsStrictlySortedBy nat_cmp) (map-append (λ m. m.0) listed (m ∷ more)) up) in
    behind_of listed m.0 (λ some.
    let k : ℕ = length listed - 1 in
    let inside : k < length keys = omega (arith, some, long) in
    let next : length keys ≡ k + 1 = omega (arith, some, long) in
    let longer = length-append keys (m.0 ∷ rest) in
    let first = get_or_append_left keys (m.0 ∷ rest) 0 k inside in
    let second = get_or_at keys m.0 rest 0 (k + 1) next in
    omega (arith, first, second, all k (omega (arith, longer, next))))
