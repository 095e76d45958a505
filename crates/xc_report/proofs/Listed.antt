-- A number has a first place among others exactly where it is listed.
use Rattle.std.proofs.Common.{◌≡◌, ◌+◌, ◌==◌, ◌||◌, ℕ, List, [], ◌∷◌, Bool, true, false, cond, Some, None, is_some, refl, ap, ◌∙◌}
use Rattle.std.specs.List.{position_from}
use Rattle.std.specs.Ordering.{nat_cmp, is_eq}
use Rattle.xc_lists.proofs.Orderings.{is_eq-nat_cmp}
use Rattle.xc_names.specs.declared.expanded.NameId.{NameId}
use Rattle.xc_report.specs.Wanted.{is_listed, number_if_listed}

placed : (id : NameId) (from : ℕ) (ids : List NameId) → is_some (position_from (λ (other : NameId). is_eq (nat_cmp id.0 other.0)) from ids) ≡ is_listed ids id.0
placed id from [] = refl
placed id from (x ∷ xs) = ap (λ b. is_some (cond b (Some from) (position_from (λ (other : NameId). is_eq (nat_cmp id.0 other.0)) (from + 1) xs))) (is_eq-nat_cmp id.0 x.0) ∙ by (id.0 == x.0) (placed id (from + 1) xs)
  where
    by : (b : Bool) → is_some (position_from (λ (other : NameId). is_eq (nat_cmp id.0 other.0)) (from + 1) xs) ≡ is_listed xs id.0 → is_some (cond b (Some from) (position_from (λ (other : NameId). is_eq (nat_cmp id.0 other.0)) (from + 1) xs)) ≡ (b || is_listed xs id.0)
    by true rest = refl
    by false rest = rest

-- the look-up by the order of numbers
pub found_listed : (id : NameId) (ids : List NameId) → is_some (position_from (λ (other : NameId). is_eq (nat_cmp id.0 other.0)) 0 ids) ≡ is_listed ids id.0
found_listed id ids = placed id 0 ids

pub listed_there : (ids : List NameId) (id : NameId) → is_listed ids id.0 ≡ true → Some id ≡ number_if_listed ids (Some id.0)
listed_there ids id e = rw e refl

pub listed_nowhere : (ids : List NameId) (id : NameId) → is_listed ids id.0 ≡ false → None ≡ number_if_listed ids (Some id.0)
listed_nowhere ids id e = rw e refl
