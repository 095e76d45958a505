-- What schemas have together, one schema after another.
use Rattle.std.proofs.Common.{◌≡◌, ◌<◌, ◌+◌, ◌++◌, ℕ, suc, List, drop, get_or, length, flat_map, add-one, sym, ap, ◌∙◌}
use Rattle.std.proofs.Math.Seq.{drop-cons}

-- what is left has what the next gives in front
pub flat_step : {X Y : Type 0} (f : X → List Y) (xs : List X) (i : ℕ) (d : X) → i < length xs → d ≡ get_or xs i d → flat_map f (drop i xs) ≡ f d ++ flat_map f (drop (i + 1) xs)
flat_step f xs i d h is =
    ap (flat_map f) (drop-cons xs i d h)
    ∙ ap (λ x. f x ++ flat_map f (drop (suc i) xs)) (sym is)
    ∙ ap (λ k. f d ++ flat_map f (drop k xs)) (sym (add-one i))
