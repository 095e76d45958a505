-- What is counted fits where facts and networks are not too many.
use Rattle.std.proofs.Common.{◌≡◌, ◌∙◌, ℕ, zero, suc, ◌+◌, ◌*◌, ◌^◌, ◌<◌, ◌≤◌, List, [], ◌∷◌, length, Option, false, not, nat_lt, refl, sym, ap, subst, arith}
use Rattle.std.proofs.lemmas.Bool.Decides.{nat_tests}
use Rattle.xc_calc.specs.declared.arc.Network.{Network}
use Rattle.xc_interval.specs.declared.interval.Interval.{Interval}
use Rattle.xc_interval.specs.declared.mode.Mode.{Mode}
use Rattle.xc_model.specs.Ratio.{Ratio}
use Rattle.xc_points.specs.Gathered.{AreEnds}
use Rattle.xc_report.specs.declared.reports.Fact.{Fact}
use Rattle.xc_system.specs.Systems.{Constraints}
use Rattle.xc_top.specs.Certified.{IsSystemIn}
use Rattle.xc_top.specs.Contents.{are_too_many}

-- where facts are not too many, their number fits
few : (n : ℕ) → not (nat_lt n (2 ^ 31)) ≡ false → n < 2 ^ 31
few n h = grind (arith, nat_tests)

pub few_facts : (facts networks : ℕ) → are_too_many facts networks ≡ false → facts < 2 ^ 31
few_facts facts networks h =
    let all : facts * (networks + 1) < 2 ^ 31 = few (facts * (networks + 1)) h in
    omega arith

-- there are as many intervals as facts
pub ends_length : (mode : Mode) (facts : List Fact) (ends : List (Option (Interval Ratio))) → AreEnds mode facts ends → length ends ≡ length facts
ends_length mode [] [] h = refl
ends_length mode [] (e ∷ es) h = absurd h
ends_length mode (fact ∷ facts) [] h = absurd h
ends_length mode (fact ∷ facts) (e ∷ es) h = ap suc (ends_length mode facts es h.1)

-- and as many bounds in their system
pub bounds_length : (mode : Mode) (networks : List Network) (facts : List Fact) (system : Constraints) → IsSystemIn mode networks facts system → length system.bounds ≡ length facts
bounds_length mode networks facts system h = h.system_is.facts ∙ ends_length mode facts h.points.ends h.points_are.ends

pub few_ends : (mode : Mode) (facts : List Fact) (ends : List (Option (Interval Ratio))) (networks : ℕ) → AreEnds mode facts ends → are_too_many (length facts) networks ≡ false → length ends < 2 ^ 31
few_ends mode facts ends networks are few = subst (λ n. n < 2 ^ 31) (sym (ends_length mode facts ends are)) (few_facts (length facts) networks few)

pub few_of : (facts networks points : ℕ) → are_too_many facts networks ≡ false → points ≤ facts → points < 2 ^ 31
few_of facts networks points few less =
    let all : facts < 2 ^ 31 = few_facts facts networks few in
    omega arith

-- and the number of networks times that of points
pub few_pairs : (facts networks points : ℕ) → are_too_many facts networks ≡ false → points ≤ facts → networks * points < 2 ^ 31
few_pairs facts networks points h less =
    let all : facts * (networks + 1) < 2 ^ 31 = few (facts * (networks + 1)) h in
    let product : networks * points ≤ networks * facts = mul_below networks points facts less in
    omega arith
  where
    mul_below : (n p f : ℕ) → p ≤ f → n * p ≤ n * f
    mul_below zero p f h = omega arith
    mul_below (suc n) p f h =
        let rest : n * p ≤ n * f = mul_below n p f h in
        omega arith
