-- Keys of two lists that are equal in the same places have the same numbers.
use Rattle.std.proofs.Common.{◌≡◌, ◌+◌, ◌++◌, ◌||◌, ℕ, List, [], ◌∷◌, Bool, true, false, cond, not, fold, refl, ap₂, subst, if◌then◌else◌}
use Rattle.std.specs.List.{list_any}
use Rattle.xc_report.specs.Dimensions.{is_same_key, with_key, key_number, distinct}
use Rattle.xc_report.specs.declared.dimensions.Key.{Key}

-- the keys of two lists belong together, one by one
abbrev pub AreTogether : (Key → Key → Type 0) → List Key → List Key → Type 0
AreTogether P [] [] = Unit {0}
AreTogether P [] (l ∷ ls) = ⊥
AreTogether P (k ∷ ks) [] = ⊥
AreTogether P (k ∷ ks) (l ∷ ls) = P k l × AreTogether P ks ls

-- keys are equal where those that belong to them are
abbrev pub AreEqualAlike : (Key → Key → Type 0) → Type 0
AreEqualAlike P = (a b c d : Key) → P a b → P c d → is_same_key a c ≡ is_same_key b d

module _ (P : Key → Key → Type 0) (alike : AreEqualAlike P) where
  any_alike : (a b : Key) (ks ls : List Key) → P a b → AreTogether P ks ls → list_any (is_same_key a) ks ≡ list_any (is_same_key b) ls
  any_alike a b [] [] p all = refl
  any_alike a b [] (l ∷ ls) p all = absurd all
  any_alike a b (k ∷ ks) [] p all = absurd all
  any_alike a b (k ∷ ks) (l ∷ ls) p all = ap₂ (λ same rest. same || rest) (alike a b k l p all.0) (any_alike a b ks ls p all.1)

  -- keys that belong together have one number among keys that do
  pub number_alike : (a b : Key) (ks ls : List Key) → P a b → AreTogether P ks ls → key_number ks a ≡ key_number ls b
  number_alike a b [] [] p all = refl
  number_alike a b [] (l ∷ ls) p all = absurd all
  number_alike a b (k ∷ ks) [] p all = absurd all
  number_alike a b (k ∷ ks) (l ∷ ls) p all = ap₂ (λ (same : Bool) (rest : ℕ). cond (not same) (1 + rest) 0) (alike a b k l p all.0) (number_alike a b ks ls p all.1)

  last_together : (a b : Key) (ks ls : List Key) → P a b → AreTogether P ks ls → AreTogether P (ks ++ a ∷ []) (ls ++ b ∷ [])
  last_together a b [] [] p all = (p, tt)
  last_together a b [] (l ∷ ls) p all = absurd all
  last_together a b (k ∷ ks) [] p all = absurd all
  last_together a b (k ∷ ks) (l ∷ ls) p all = (all.0, last_together a b ks ls p all.1)

  put_if : (a b : Key) (ks ls : List Key) (there : Bool) → P a b → AreTogether P ks ls → AreTogether P (if there then ks else ks ++ a ∷ []) (if there then ls else ls ++ b ∷ [])
  put_if a b ks ls true p all = all
  put_if a b ks ls false p all = last_together a b ks ls p all

  put_together : (a b : Key) (ks ls : List Key) → P a b → AreTogether P ks ls → AreTogether P (with_key ks a) (with_key ls b)
  put_together a b ks ls p all =
      subst (λ there. AreTogether P (with_key ks a) (if there then ls else ls ++ b ∷ [])) (any_alike a b ks ls p all) (put_if a b ks ls (list_any (is_same_key a) ks) p all)

  all_together : (ks ls others more : List Key) → AreTogether P ks ls → AreTogether P others more → AreTogether P (fold with_key ks others) (fold with_key ls more)
  all_together ks ls [] [] all rest = all
  all_together ks ls [] (m ∷ ms) all rest = absurd rest
  all_together ks ls (o ∷ os) [] all rest = absurd rest
  all_together ks ls (o ∷ os) (m ∷ ms) all rest = all_together (with_key ks o) (with_key ls m) os ms (put_together o m ks ls rest.0 all) rest.1

  -- keys without those that are equal to an earlier one belong together where all do
  pub distinct_together : (ks ls : List Key) → AreTogether P ks ls → AreTogether P (distinct ks) (distinct ls)
  distinct_together ks ls all = all_together [] [] ks ls tt all
