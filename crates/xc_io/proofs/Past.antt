-- Calls in memory, one after another.
use Rattle.std.proofs.Common.{◌≡◌, ℕ, ◌≤◌, List, [], ◌∷◌, Bool, true, false, nat_eq, nat_lt, Option, Some, None, Result, Ok, Err, refl, subst, sym, arith}
use Rattle.std.specs.Prelude.{IsErrOf, IsNone, IsTrue, is_none}
use Rattle.std.specs.List.{list_any, list_all}
use Rattle.std.proofs.lemmas.Bool.Decides.{nat_tests}
use Rattle.std.specs.declared.alloc.Global.{Global}
use Rattle.std.specs.declared.vec.Vec.{Vec}
use Rattle.xc_io.specs.Faults.{Rose, next_count}
use Rattle.xc_io.specs.Calls.{CallState, fails_next, is_past, after_call}
use Rattle.xc_io.specs.declared.shelf.ShelfFault.{ShelfFault}
use Rattle.xc_io.specs.declared.shelf.ShelfFault.TheVariants.{Failed, TooLong, Memory}

-- a count never falls
pub next_count_later : (count : ℕ) → count ≤ next_count count
next_count_later count = grind (arith, nat_tests)

-- the next count has risen, or stands at its last value
pub rose_next : (count : ℕ) → Rose count (next_count count)
rose_next count = grind (arith, nat_tests)

-- a count that only a fault raises never falls
pub later_if : (result : Result (Vec ℕ Global) ShelfFault) (before now : ℕ) → (IsErrOf result Failed → now ≡ next_count before) → (¬ IsErrOf result Failed → now ≡ before) → before ≤ now
later_if (Ok bytes) before now failed worked = let same : now ≡ before = worked (λ e. cc) in omega arith
later_if (Err Failed) before now failed worked = let next : now ≡ next_count before = failed refl in subst (λ n. before ≤ n) (sym next) (next_count_later before)
later_if (Err TooLong) before now failed worked = let same : now ≡ before = worked (λ e. cc) in omega arith
later_if (Err Memory) before now failed worked = let same : now ≡ before = worked (λ e. cc) in omega arith

-- what is below a number is below a later one
all_past_later : (xs : List ℕ) (a b : ℕ) → a ≤ b → list_all (λ call. nat_lt call a) xs ≡ true → list_all (λ call. nat_lt call b) xs ≡ true
all_past_later [] a b le h = refl
all_past_later (x ∷ xs) a b le h = grind (arith, nat_tests, all_past_later xs a b le)

-- what is below a number is not that number
all_past_next : (xs : List ℕ) (n : ℕ) → list_all (λ call. nat_lt call n) xs ≡ true → list_any (λ call. nat_eq call n) xs ≡ false
all_past_next [] n h = refl
all_past_next (x ∷ xs) n h = grind (arith, nat_tests, all_past_next xs n)

-- calls that have been made stay made
pub past_stays : (calls : CallState) (is_fault : Bool) → is_past calls ≡ true → is_past (after_call calls is_fault) ≡ true
past_stays calls is_fault past = all_past_later calls.failing calls.made (next_count calls.made) (next_count_later calls.made) past

-- the next call is none of them
pub past_next : (calls : CallState) → is_past calls ≡ true → fails_next calls ≡ false
past_next calls past = all_past_next calls.failing calls.made past

-- no call takes back a fault
pub faults_later : (calls : CallState) (is_fault : Bool) → calls.faults ≤ (after_call calls is_fault).faults
faults_later calls true = next_count_later calls.faults
faults_later calls false = omega arith

-- a call that is none leaves the count of faults
pub faults_kept : (calls : CallState) (is_fault : Bool) → (IsTrue is_fault → ⊥) → (after_call calls is_fault).faults ≡ calls.faults
faults_kept calls true works = absurd (works refl)
faults_kept calls false works = refl

-- something is found, or nothing is
pub something : {A : Type 0} (found : Option A) → (IsNone found → ⊥) → IsTrue (is_none found) → ⊥
something (Some a) works none = absurd (cc)
something None works none = works refl
