-- A text is cut at a byte, and into lines, in one way.
use Rattle.std.proofs.Common.{◌≡◌, ◌⊎◌, ℕ, List, [], ◌∷◌, ◌++◌, refl, sym, ap, ◌∙◌, append_assoc, append-nil, inl, inr}
use Rattle.std.specs.Prelude.{codes}
use Rattle.std.proofs.lemmas.List.Concat.{flat_map-append}
use Rattle.xc_lists.specs.Members.{Lacks}
use Rattle.xc_lists.specs.TextLines.{IsLine, AreLines, text_of}

head_same : {X : Type 0} (x y : X) (xs ys : List X) → x ∷ xs ≡ y ∷ ys → x ≡ y
head_same x y xs ys e = cc

tail_same : {X : Type 0} (x y : X) (xs ys : List X) → x ∷ xs ≡ y ∷ ys → xs ≡ ys
tail_same x y xs ys e = cc

-- what stands around the first such byte
pub cut_same : (byte : ℕ) (xs ys xs' ys' : List ℕ) → Lacks byte xs → Lacks byte xs' → xs ++ byte ∷ ys ≡ xs' ++ byte ∷ ys' → (xs ≡ xs') × (ys ≡ ys')
cut_same byte [] ys [] ys' a b e = (refl, tail_same byte byte ys ys' e)
cut_same byte [] ys (x ∷ xs') ys' a b e = absurd (b.0 (sym (head_same byte x ys (xs' ++ byte ∷ ys') e)))
cut_same byte (x ∷ xs) ys [] ys' a b e = absurd (a.0 (head_same x byte (xs ++ byte ∷ ys) ys' e))
cut_same byte (x ∷ xs) ys (y ∷ xs') ys' a b e =
    let rest = cut_same byte xs ys xs' ys' a.1 b.1 (tail_same x y (xs ++ byte ∷ ys) (xs' ++ byte ∷ ys') e) in
    let first : x ≡ y = head_same x y (xs ++ byte ∷ ys) (xs' ++ byte ∷ ys') e in
    ((λ i. first i ∷ rest.0 i), rest.1)

-- a byte that does not stand in a text is not found there
pub not_there : (byte : ℕ) (xs ys zs : List ℕ) → Lacks byte zs → zs ≡ xs ++ byte ∷ ys → ⊥
not_there byte [] ys [] a e = cc
not_there byte [] ys (z ∷ zs) a e = a.0 (head_same z byte zs ys e)
not_there byte (x ∷ xs) ys [] a e = cc
not_there byte (x ∷ xs) ys (z ∷ zs) a e = not_there byte xs ys zs a.1 (tail_same z x zs (xs ++ byte ∷ ys) e)

pub text_of-append : (xs ys : List (List ℕ)) → text_of (xs ++ ys) ≡ text_of xs ++ text_of ys
text_of-append xs ys = flat_map-append (λ line. line ++ codes "\n") xs ys

-- the first line of a text, its line feed, and what follows
pub first_line : (x rest more : List ℕ) → x ++ codes "\n" ++ rest ++ more ≡ x ++ 10 ∷ (rest ++ more)
first_line x rest more = append_assoc (x ++ codes "\n") rest more ∙ append_assoc x (codes "\n") (rest ++ more)

-- of two texts that are the same, one begins with the lines of the other
pub record Continues (xs ys : List (List ℕ)) (r s : List ℕ) : Type 0 where
  pub more : List (List ℕ)
  pub lines : ys ≡ xs ++ more
  pub rest : r ≡ text_of more ++ s

pub lines_meet : (xs ys : List (List ℕ)) (r s : List ℕ) → AreLines xs → AreLines ys → text_of xs ++ r ≡ text_of ys ++ s → Continues xs ys r s ⊎ Continues ys xs s r
lines_meet [] ys r s a b e = inl (record { more = ys; lines = refl; rest = e })
lines_meet (x ∷ xs) [] r s a b e = inr (record { more = x ∷ xs; lines = refl; rest = sym e })
lines_meet (x ∷ xs) (y ∷ ys) r s a b e =
    let flat : x ++ 10 ∷ (text_of xs ++ r) ≡ y ++ 10 ∷ (text_of ys ++ s) = sym (first_line x (text_of xs) r) ∙ e ∙ first_line y (text_of ys) s in
    let c = cut_same 10 x (text_of xs ++ r) y (text_of ys ++ s) a.0 b.0 flat in
    further x y xs ys r s c.0 (lines_meet xs ys r s a.1 b.1 c.1)
  where
    further : (x y : List ℕ) (xs ys : List (List ℕ)) (r s : List ℕ) → x ≡ y → Continues xs ys r s ⊎ Continues ys xs s r → Continues (x ∷ xs) (y ∷ ys) r s ⊎ Continues (y ∷ ys) (x ∷ xs) s r
    further x y xs ys r s e (inl m) = inl (record { more = m.more; lines = λ i. sym e i ∷ m.lines i; rest = m.rest })
    further x y xs ys r s e (inr m) = inr (record { more = m.more; lines = λ i. e i ∷ m.lines i; rest = m.rest })

-- a text with a line has a line feed
no_lines : (zs : List (List ℕ)) (r s : List ℕ) → IsLine s → s ≡ text_of zs ++ r → zs ≡ []
no_lines [] r s a e = refl
no_lines (z ∷ zs) r s a e = absurd (not_there 10 z (text_of zs ++ r) s a (e ∙ first_line z (text_of zs) r))

-- where what follows the one lines has no line feed, and nothing follows the others, they begin with the one lines
pub lines_within : (xs ys : List (List ℕ)) (r : List ℕ) → AreLines xs → AreLines ys → text_of xs ++ r ≡ text_of ys → Continues xs ys r []
lines_within xs ys r a b e =
    elim (lines_meet xs ys r [] a b (e ∙ sym (append-nil (text_of ys)))) [
      | inl m ↦ m
      | inr m ↦ same m (no_lines m.more r [] tt m.rest)
    ]
  where
    same : (m : Continues ys xs [] r) → m.more ≡ [] → Continues xs ys r []
    same m none = record { more = []; lines = sym (m.lines ∙ ap (λ zs. ys ++ zs) none ∙ append-nil ys) ∙ sym (append-nil xs); rest = sym (m.rest ∙ ap (λ zs. text_of zs ++ r) none) }

-- and where it has none either, they are the same lines
pub lines_whole : (xs ys : List (List ℕ)) (r : List ℕ) → AreLines xs → AreLines ys → IsLine r → text_of xs ++ r ≡ text_of ys → (ys ≡ xs) × (r ≡ [])
lines_whole xs ys r a b last e =
    let m = lines_within xs ys r a b e in
    let none = no_lines m.more [] r last m.rest in
    (m.lines ∙ ap (λ zs. xs ++ zs) none ∙ append-nil xs, m.rest ∙ ap (λ zs. text_of zs ++ []) none)
