-- Facts that a refutation names, found as facts are gone through in order.
use Rattle.std.proofs.Common.{◌≡◌, ℕ, ◌+◌, ◌<◌, ◌≤◌, Bool, true, false, cond, eqb, List, [], ◌∷◌, ◌++◌, length, get_or, drop, suc, add-one, map, refl, sym, ap, ◌∙◌, arith}
use Rattle.std.specs.Prelude.{◌==◌, ◌||◌, nat_lt, codes}
use Rattle.std.specs.List.{AllByRecursion, enumerate_from, flat_map, filter}
use Rattle.std.specs.List.Sorted.{IsStrictlySortedBy}
use Rattle.std.specs.Ordering.{nat_cmp}
use Rattle.std.specs.declared.cmp.Ordering.TheVariants.{Less, Equal, Greater}
use Rattle.std.proofs.Math.Seq.{drop-cons}
use Rattle.std.proofs.lemmas.Bool.{eqb-true, eqb-false, ne_eqb, ltb-true}
use Rattle.xc_cert.specs.Certificates.{certificate_text}
use Rattle.xc_lines.specs.Settled.{is_listed, is_named, because_line, because_lines, settled_lines}
use Rattle.xc_lines.specs.Steps.Named.{take_number, IsLeft}
use Rattle.xc_model.specs.Ratio.{Ratio}
use Rattle.xc_report.specs.declared.reports.Fact.{Fact}
use Rattle.xc_system.specs.Kept.{Multipliers, IsAscending}
use Rattle.xc_system.specs.declared.types.Certificate.{Certificate}
use Rattle.xc_system.specs.declared.types.Certificate.TheVariants.{Infeasible}

less_by : (a b : Bool) → cond a Less (cond b Equal Greater) ≡ Less → a ≡ true
less_by true b e = refl
less_by false true e = absurd cc
less_by false false e = absurd cc

less_of : (m n : ℕ) → nat_cmp m n ≡ Less → m < n
less_of m n e = ltb-true m n (less_by (nat_lt m n) (m == n) e)

-- those behind the first of a list that ascends are greater
above : (n : ℕ) (ms : List (ℕ × Ratio)) → AllByRecursion (λ k. nat_cmp n k ≡ Less) (map (λ m. m.0) ms) → AllByRecursion (λ m. n < m.0) ms
above n [] all = tt
above n (m ∷ ms) all = (less_of n m.0 all.0, above n ms all.1)

-- a list that ascends has its first, and those behind it ascend and are greater
record HasFirst (m : ℕ × Ratio) (ms : List (ℕ × Ratio)) : Type 0 where
  greater : AllByRecursion (λ k. m.0 < k.0) ms
  ascends : IsAscending ms

has_first : (m : ℕ × Ratio) (ms : List (ℕ × Ratio)) → IsAscending (m ∷ ms) → HasFirst m ms
unfolding IsStrictlySortedBy
has_first m ms up = record { greater = above m.0 ms up.0; ascends = up.1 }

at_least : (n k : ℕ) (ms : List (ℕ × Ratio)) → n ≤ k → AllByRecursion (λ m. k < m.0) ms → AllByRecursion (λ m. n + 1 ≤ m.0) ms
at_least n k [] le all = tt
at_least n k (m ∷ ms) le all = (omega (arith, le, all.0), at_least n k ms le all.1)

-- what is greater than a number has no end of it
not_listed : (n : ℕ) (ms : List (ℕ × Ratio)) → AllByRecursion (λ m. n + 1 ≤ m.0) ms → is_listed ms n ≡ false
not_listed n [] all = refl
not_listed n (m ∷ ms) all = ap (λ b. b || is_listed ms n) (ne_eqb m.0 n (λ e. omega (arith, e, all.0))) ∙ not_listed n ms all.1

-- whether the fact is named, and what is left for those behind it
pub record Turns (listed : List (ℕ × Ratio)) (n : ℕ) (answer : Bool × List (ℕ × Ratio)) : Type 0 where
  pub named : answer.0 ≡ is_listed listed n
  pub rest : IsLeft listed answer.1 (n + 1)

turns_by : (listed : List (ℕ × Ratio)) (m : ℕ × Ratio) (ms : List (ℕ × Ratio)) (n : ℕ) (b : Bool) → eqb m.0 n ≡ b → IsLeft listed (m ∷ ms) n → Turns listed n (cond b (true, ms) (false, m ∷ ms))
turns_by listed m ms n true e left =
    let first = has_first m ms left.ascends in
    let here : m.0 ≡ n = eqb-true m.0 n e in
    record {
      named = sym (sym (left.same n (omega arith)) ∙ ap (λ c. c || is_listed ms n) e);
      rest = record {
        ascends = first.ascends;
        from = at_least n m.0 ms (omega (arith, here)) first.greater;
        same = λ k h. ap (λ c. c || is_listed ms k) (sym (ne_eqb m.0 k (λ is. omega (arith, h, here, is)))) ∙ left.same k (omega (arith, h));
      };
    }
turns_by listed m ms n false e left =
    let first = has_first m ms left.ascends in
    let other = eqb-false m.0 n e in
    let later : n + 1 ≤ m.0 = omega (arith, left.from.0, other) in
    let all : AllByRecursion (λ k. n + 1 ≤ k.0) (m ∷ ms) = (later, at_least n m.0 ms (omega (arith, later)) first.greater) in
    record {
      named = sym (sym (left.same n (omega arith)) ∙ not_listed n (m ∷ ms) all);
      rest = record { ascends = left.ascends; from = all; same = λ k h. left.same k (omega (arith, h)) };
    }

pub turns : (listed left : List (ℕ × Ratio)) (n : ℕ) → IsLeft listed left n → Turns listed n (take_number left n)
turns listed [] n l = record { named = l.same n (omega arith); rest = record { ascends = l.ascends; from = tt; same = λ k h. l.same k (omega (arith, h)) } }
turns listed (m ∷ ms) n l = turns_by listed m ms n (eqb m.0 n) refl l

all_from_zero : (ms : List (ℕ × Ratio)) → AllByRecursion (λ m. 0 ≤ m.0) ms
all_from_zero [] = tt
all_from_zero (m ∷ ms) = (omega arith, all_from_zero ms)

pub left_all : (listed : List (ℕ × Ratio)) → IsAscending listed → IsLeft listed listed 0
left_all listed up = record { ascends = up; from = all_from_zero listed; same = λ k h. refl }

-- the next of a list, and those behind it
pub next_of : {X : Type 0} (xs : List X) (n : ℕ) (x : X) → n < length xs → x ≡ get_or xs n x → drop n xs ≡ x ∷ drop (n + 1) xs
next_of xs n x within is =
    let next : suc n ≡ n + 1 = sym (add-one n) in
    drop-cons xs n x within ∙ (λ i. sym is i ∷ drop (next i) xs)

-- the line of the next fact, where it is named, and those of the facts behind it
pub because_more : (r : Multipliers) (n : ℕ) (fact : Fact) (facts : List Fact) → because_lines r (enumerate_from n (fact ∷ facts)) ≡ cond (is_named r n) (because_line n fact.id) [] ++ because_lines r (enumerate_from (n + 1) facts)
because_more r n fact facts = by (is_named r n)
  where
    by : (b : Bool) → flat_map (λ numbered. because_line numbered.0 numbered.1.id) (cond b ((n, fact) ∷ filter (λ numbered. is_named r numbered.0) (enumerate_from (n + 1) facts)) (filter (λ numbered. is_named r numbered.0) (enumerate_from (n + 1) facts))) ≡ cond b (because_line n fact.id) [] ++ because_lines r (enumerate_from (n + 1) facts)
    by true = refl
    by false = refl

-- the lines before the certificate of a refutation, and the certificate
pub refuted_head : (facts : List Fact) (c : Certificate) (r : Multipliers) (head : List ℕ) → c ≡ Infeasible r → head ≡ codes "joint infeasible\n" ++ because_lines r (enumerate_from 0 facts) → settled_lines facts c ≡ head ++ certificate_text c
refuted_head facts c r head is e = ap (settled_lines facts) is ∙ (λ i. sym e i ++ certificate_text (sym is i))
