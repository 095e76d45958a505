-- What is made of those whose multiplier passes a test, one after another.
use Rattle.std.proofs.Common.{◌≡◌, ℕ, ◌+◌, ◌<◌, Bool, true, false, ℤ, List, [], ◌∷◌, ◌++◌, length, get_or, drop, if◌then◌else◌, sym, ap, ap₂, ◌∙◌, arith, append_assoc}
use Rattle.xc_joint.specs.Steps.Multiplied.{map_where}
use Rattle.xc_joint.proofs.Each.{other_default}
use Rattle.xc_joint.proofs.Turns.{next_of}

module _ {X Y : Type 0} (test : ℤ → Bool) (made : X → ℤ → Y) (xs : List X) (es : List ℤ) where
  next : (n : ℕ) (d : X) (e : ℤ) → n < length xs → length es ≡ length xs → map_where test made (drop n xs) (drop n es) ≡ (if test (get_or es n e) then made (get_or xs n d) (get_or es n e) ∷ map_where test made (drop (n + 1) xs) (drop (n + 1) es) else map_where test made (drop (n + 1) xs) (drop (n + 1) es))
  next n d e l same =
      ap₂ (map_where test made)
      (next_of xs n (get_or xs n d) l (other_default xs n d (get_or xs n d) l))
      (next_of es n (get_or es n e) (omega (arith, l, same)) (other_default es n e (get_or es n e) (omega (arith, l, same))))

  pub taken : (n : ℕ) (d : X) (e : ℤ) (so_far now : List Y) → n < length xs → length es ≡ length xs → test (get_or es n e) ≡ true → so_far ++ map_where test made (drop n xs) (drop n es) ≡ map_where test made xs es → now ≡ so_far ++ made (get_or xs n d) (get_or es n e) ∷ [] → now ++ map_where test made (drop (n + 1) xs) (drop (n + 1) es) ≡ map_where test made xs es
  taken n d e so_far now l same picks all grown =
      let rest = map_where test made (drop (n + 1) xs) (drop (n + 1) es) in
      let step : map_where test made (drop n xs) (drop n es) ≡ made (get_or xs n d) (get_or es n e) ∷ map_where test made (drop (n + 1) xs) (drop (n + 1) es) = next n d e l same ∙ ap (λ b. if b then made (get_or xs n d) (get_or es n e) ∷ map_where test made (drop (n + 1) xs) (drop (n + 1) es) else map_where test made (drop (n + 1) xs) (drop (n + 1) es)) picks in
      ap (λ k. k ++ map_where test made (drop (n + 1) xs) (drop (n + 1) es)) grown ∙ append_assoc so_far (made (get_or xs n d) (get_or es n e) ∷ []) (map_where test made (drop (n + 1) xs) (drop (n + 1) es)) ∙ ap (λ k. so_far ++ k) (sym step) ∙ all

  pub left_out : (n : ℕ) (d : X) (e : ℤ) (so_far now : List Y) → n < length xs → length es ≡ length xs → test (get_or es n e) ≡ false → so_far ++ map_where test made (drop n xs) (drop n es) ≡ map_where test made xs es → now ≡ so_far → now ++ map_where test made (drop (n + 1) xs) (drop (n + 1) es) ≡ map_where test made xs es
  left_out n d e so_far now l same skips all grown =
      let step : map_where test made (drop n xs) (drop n es) ≡ map_where test made (drop (n + 1) xs) (drop (n + 1) es) = next n d e l same ∙ ap (λ b. if b then made (get_or xs n d) (get_or es n e) ∷ map_where test made (drop (n + 1) xs) (drop (n + 1) es) else map_where test made (drop (n + 1) xs) (drop (n + 1) es)) skips in
      ap (λ k. k ++ map_where test made (drop (n + 1) xs) (drop (n + 1) es)) grown ∙ ap (λ k. so_far ++ k) (sym step) ∙ all
