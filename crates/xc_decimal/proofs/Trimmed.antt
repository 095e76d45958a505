-- Zeros at the end of digits.
use Rattle.std.proofs.Common.{◌≡◌, ◌≢◌, ℕ, zero, suc, ◌+◌, List, [], ◌∷◌, ◌++◌, false, arith, refl, sym, ◌∙◌, ap, reverse, replicate, inl, inr}
use Rattle.std.proofs.Math.Dec.{eqb}
use Rattle.std.proofs.lemmas.Bool.{cases_Bool, cond-true, cond-false, eqb-true, eqb-false}
use Rattle.std.proofs.lemmas.List.{reverse-append, reverse-reverse, replicate_more}
use Rattle.xc_decimal.specs.Reading.{without_zeros, trimmed}

-- zeros, and a rest
record ZerosFirst (digits rest : List ℕ) : Type 0 where
  count : ℕ
  is : digits ≡ replicate count 48 ++ rest

pub record ZerosLast (digits kept : List ℕ) : Type 0 where
  pub count : ℕ
  pub is : digits ≡ kept ++ replicate count 48

zeros_first : (digits : List ℕ) → ZerosFirst digits (without_zeros digits)
zeros_first [] = record { count = 0; is = refl }
zeros_first (c ∷ cs) =
    elim (cases_Bool (eqb c 48)) [
      | inl e ↦ let rest = zeros_first cs in record {
        count = suc rest.count;
        is = ap (λ x. x ∷ cs) (eqb-true c 48 e) ∙ ap (λ xs. 48 ∷ xs) rest.is ∙ ap (λ xs. 48 ∷ (replicate rest.count 48 ++ xs)) (sym (cond-true (eqb c 48) (without_zeros cs) (c ∷ cs) e));
      }
      | inr e ↦ record { count = 0; is = sym (cond-false (eqb c 48) (without_zeros cs) (c ∷ cs) e) }
    ]

reverse-cons : (c : ℕ) (cs : List ℕ) → reverse (c ∷ cs) ≡ reverse cs ++ (c ∷ [])
reverse-cons c cs = reverse-append (c ∷ []) cs

reverse-zeros : (n : ℕ) → reverse {A = ℕ} (replicate n 48) ≡ replicate n 48
reverse-zeros zero = refl
reverse-zeros (suc n) =
    let one : n + 1 ≡ suc n = omega arith in
    reverse-cons 48 (replicate n 48) ∙ ap (λ (xs : List ℕ). xs ++ (48 ∷ [])) (reverse-zeros n) ∙ replicate_more n 48 ∙ ap (λ k. replicate {A = ℕ} k 48) one

-- digits are those that are left, and zeros
pub zeros_last : (digits : List ℕ) → ZerosLast digits (trimmed digits)
zeros_last digits =
    let z = zeros_first (reverse digits) in
    record {
      count = z.count;
      is =
          sym (reverse-reverse digits) ∙ ap reverse z.is ∙ reverse-append (replicate z.count 48) (without_zeros (reverse digits))
          ∙ ap (λ xs. trimmed digits ++ xs) (reverse-zeros z.count);
    }

first_not : (c : ℕ) (cs rest : List ℕ) → eqb c 48 ≡ false → c ∷ cs ≡ 48 ∷ rest → ⊥
first_not c cs rest not same = let is : c ≡ 48 = cc in eqb-false c 48 not is

not_zero_first : (digits rest : List ℕ) → without_zeros digits ≢ 48 ∷ rest
not_zero_first [] rest e = cc
not_zero_first (c ∷ cs) rest e =
    elim (cases_Bool (eqb c 48)) [
      | inl is ↦ not_zero_first cs rest (sym (cond-true (eqb c 48) (without_zeros cs) (c ∷ cs) is) ∙ e)
      | inr not ↦ first_not c cs rest not (sym (cond-false (eqb c 48) (without_zeros cs) (c ∷ cs) not) ∙ e)
    ]

-- what is left does not end in 0
pub not_zero_last : (digits front : List ℕ) → trimmed digits ≢ front ++ (48 ∷ [])
not_zero_last digits front e =
    not_zero_first (reverse digits) (reverse front)
    (sym (reverse-reverse (without_zeros (reverse digits))) ∙ ap reverse e ∙ reverse-append front (48 ∷ []))

zeros_dropped : (n : ℕ) (rest : List ℕ) → without_zeros (replicate n 48 ++ rest) ≡ without_zeros rest
zeros_dropped zero rest = refl
zeros_dropped (suc n) rest = zeros_dropped n rest

none_dropped : (digits : List ℕ) → ((rest : List ℕ) → digits ≢ 48 ∷ rest) → without_zeros digits ≡ digits
none_dropped [] some = refl
none_dropped (c ∷ cs) some =
    elim (cases_Bool (eqb c 48)) [
      | inl e ↦ absurd (some cs (ap (λ x. x ∷ cs) (eqb-true c 48 e)))
      | inr e ↦ cond-false (eqb c 48) (without_zeros cs) (c ∷ cs) e
    ]

-- digits that do not end in 0, with zeros behind them, are what is left
pub kept_trimmed : (kept : List ℕ) (n : ℕ) → ((front : List ℕ) → kept ≢ front ++ (48 ∷ [])) → trimmed (kept ++ replicate n 48) ≡ kept
kept_trimmed kept n last =
    let turned : reverse (kept ++ replicate n 48) ≡ replicate n 48 ++ reverse kept = reverse-append kept (replicate n 48) ∙ ap (λ xs. xs ++ reverse kept) (reverse-zeros n) in
    let first : (rest : List ℕ) → reverse kept ≢ 48 ∷ rest = λ rest e. last (reverse rest) (sym (reverse-reverse kept) ∙ ap reverse e ∙ reverse-cons 48 rest) in
    ap (λ xs. reverse (without_zeros xs)) turned ∙ ap reverse (zeros_dropped n (reverse kept) ∙ none_dropped (reverse kept) first) ∙ reverse-reverse kept
