-- Lists of which what stands at one place is related.
use Rattle.std.proofs.Common.{◌≡◌, ℕ, zero, suc, ◌+◌, ◌<◌, ◌≤◌, List, [], ◌∷◌, ◌++◌, length, get_or, drop, refl, sym, ap, subst, ◌∙◌, arith, append-nil, append_assoc}
use Rattle.std.proofs.Math.ListN.{drop_of_length-le}
use Rattle.xc_joint.specs.Lists.{AreEach}
use Rattle.xc_joint.proofs.Turns.{next_of}

-- what is made so far, with what is made of those that are left, is what is made of all
abbrev pub EachSoFar : {X Y : Type 0} → (X → Y → Type 0) → List X → ℕ → List Y → Type 0
EachSoFar {X} {Y} R xs n ys = (rest : List Y) → AreEach R (drop n xs) rest → AreEach R xs (ys ++ rest)

pub each_next : {X Y : Type 0} (R : X → Y → Type 0) (xs : List X) (n : ℕ) (x : X) (ys : List Y) (y : Y) (now : List Y) → EachSoFar R xs n ys → n < length xs → x ≡ get_or xs n x → now ≡ ys ++ y ∷ [] → R x y → EachSoFar R xs (n + 1) now
each_next R xs n x ys y now so_far within is grown here rest h =
    let all = so_far (y ∷ rest) (subst (λ l. AreEach R l (y ∷ rest)) (sym (next_of xs n x within is)) (here, h)) in
    subst (AreEach R xs) (sym (append_assoc ys (y ∷ []) rest) ∙ ap (λ l. l ++ rest) (sym grown)) all

-- what is read does not depend on what stands for none
pub other_default : {X : Type 0} (xs : List X) (n : ℕ) (d e : X) → n < length xs → get_or xs n d ≡ get_or xs n e
other_default [] n d e l = absurd (omega (arith, l))
other_default (x ∷ xs) zero d e l = refl
other_default (x ∷ xs) (suc n) d e l = other_default xs n d e (omega (arith, l))

pub each_next_at : {X Y : Type 0} (R : X → Y → Type 0) (xs : List X) (n : ℕ) (d : X) (ys : List Y) (y : Y) (now : List Y) → EachSoFar R xs n ys → n < length xs → now ≡ ys ++ y ∷ [] → R (get_or xs n d) y → EachSoFar R xs (n + 1) now
each_next_at R xs n d ys y now so_far within = each_next R xs n (get_or xs n d) ys y now so_far within (other_default xs n d (get_or xs n d) within)

pub each_end : {X Y : Type 0} (R : X → Y → Type 0) (xs : List X) (n : ℕ) (ys : List Y) → EachSoFar R xs n ys → length xs ≤ n → AreEach R xs ys
each_end R xs n ys so_far out = subst (AreEach R xs) (append-nil ys) (so_far [] (subst (λ l. AreEach R l []) (sym (drop_of_length-le xs out)) tt))

pub each_length : {X Y : Type 0} (R : X → Y → Type 0) (xs : List X) (ys : List Y) → AreEach R xs ys → length ys ≡ length xs
each_length R [] [] h = refl
each_length R [] (y ∷ ys) h = absurd h
each_length R (x ∷ xs) [] h = absurd h
each_length R (x ∷ xs) (y ∷ ys) h = ap suc (each_length R xs ys h.1)

-- at one place
pub each_at : {X Y : Type 0} (R : X → Y → Type 0) (xs : List X) (ys : List Y) (n : ℕ) (d : X) (e : Y) → AreEach R xs ys → n < length xs → R (get_or xs n d) (get_or ys n e)
each_at R [] ys n d e h l = absurd (omega (arith, l))
each_at R (x ∷ xs) [] n d e h l = absurd h
each_at R (x ∷ xs) (y ∷ ys) zero d e h l = h.0
each_at R (x ∷ xs) (y ∷ ys) (suc n) d e h l = each_at R xs ys n d e h.1 (omega (arith, l))
