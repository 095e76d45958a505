-- What operations give, and sums that are taken on.
use Rattle.std.proofs.Common.{◌≡◌, ◌<◌, ◌+◌, ℕ, List, [], ◌∷◌, ◌++◌, length, get_or, drop, Option, Some, None, filter_map, Result, refl, sym, ap, subst, ◌∙◌, option_to_list}
use Rattle.std.proofs.lemmas.List.{drop_more}
use Rattle.std.specs.List.{cons_option}
use Rattle.xc_frac.specs.declared.wide.Wide.{Wide}
use Rattle.xc_model.specs.Ratio.{Ratio}
use Rattle.xc_verify.specs.Sums.{Term, IsNext, IsSum}

-- one term
pub sum_one : (a b : Result Ratio Wide) (t : Term) → IsNext a t b → IsSum a (t ∷ []) b
sum_one a b t h = (b, h, refl)

-- some terms, and then more
pub sum_append : (a b e : Result Ratio Wide) (xs ys : List Term) → IsSum a xs b → IsSum b ys e → IsSum a (xs ++ ys) e
sum_append a b e [] ys h k = subst (λ r. IsSum r ys e) (sym h) k
sum_append a b e (t ∷ ts) ys h k = (h.0, h.1, sum_append h.0 b e ts ys h.2 k)

-- one step of a sum, of which the terms that are left begin with these
pub sum_more : (start now next end : Result Ratio Wide) (all left one rest : List Term) → left ≡ one ++ rest → IsSum now one next → ((e : Result Ratio Wide) → IsSum now left e → IsSum start all e) → IsSum next rest end → IsSum start all end
sum_more start now next end all left one rest split step so_far h = so_far end (subst (λ (ts : List Term). IsSum now ts end) (sym split) (sum_append now next end one rest step h))

-- what is given of the items that are left, beginning with the next
pub given_split : {X Y : Type 0} (f : X → Option Y) (xs : List X) (i : ℕ) (x : X) → i < length xs → x ≡ get_or xs i x → filter_map f (drop i xs) ≡ option_to_list (f x) ++ filter_map f (drop (i + 1) xs)
given_split {X} {Y} f xs i x h is = ap (λ (l : List X). filter_map f l) (drop_more xs i x h ∙ ap (λ (y : X). y ∷ drop (i + 1) xs) (sym is)) ∙ go (f x)
  where
    go : (o : Option Y) → cons_option o (filter_map f (drop (i + 1) xs)) ≡ option_to_list o ++ filter_map f (drop (i + 1) xs)
    go None = refl
    go (Some y) = refl
