-- One turn of a loop over a list.
use Rattle.std.proofs.Common.{◌≡◌, ℕ, suc, ◌+◌, ◌<◌, List, [], ◌∷◌, ◌++◌, length, get_or, drop, add-one, sym, ◌∙◌}
use Rattle.std.specs.List.{AllByRecursion}
use Rattle.std.proofs.Math.Seq.{drop-cons}

-- the next of a list, and those behind it
pub next_of : {X : Type 0} (xs : List X) (n : ℕ) (x : X) → n < length xs → x ≡ get_or xs n x → drop n xs ≡ x ∷ drop (n + 1) xs
next_of xs n x within is =
    let next : suc n ≡ n + 1 = sym (add-one n) in
    drop-cons xs n x within ∙ (λ i. sym is i ∷ drop (next i) xs)

pub push_all : {X : Type 0} (P : X → Type 0) (xs : List X) (x : X) → AllByRecursion P xs → P x → AllByRecursion P (xs ++ x ∷ [])
push_all P [] x all here = (here, tt)
push_all P (y ∷ ys) x all here = (all.0, push_all P ys x all.1 here)
