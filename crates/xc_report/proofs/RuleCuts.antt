-- A text is cut at the first place of a mark, and into pieces at each, in the words of the rules.
use Rattle.std.proofs.Common.{◌≡◌, ◌≢◌, ◌+◌, ◌++◌, ℕ, suc, List, [], ◌∷◌, Bool, true, false, not, cond, nat_lt, length, take, drop, Option, Some, None, option_map, refl, sym, ap, subst, ◌∙◌, arith}
use Rattle.std.specs.List.{AllByRecursion, position_or_len, join_with_byte, slice_split, onto_first}
use Rattle.std.proofs.lemmas.Bool.{eqb-true, eqb-false, eq-eqb, false_from_ne_true}
use Rattle.std.proofs.lemmas.Bool.Decides.{nat_tests}
use Rattle.std.proofs.lemmas.Option.{none-some, same_Some}
use Rattle.xc_chars.specs.Parts.{is_byte, around}
use Rattle.xc_lists.specs.Members.{Lacks}
use Rattle.xc_report.specs.Rules.Cuts.{IsCut, AreJoined}
use Rattle.xc_report.proofs.Pieces.{one_less, take_one, drop_one, pieces_around, no_pieces}
use Rattle.xc_report.proofs.Told.{mapped}

-- ---- the first byte of a text that is cut

-- a text cut at a place
abbrev cut_at : ℕ → List ℕ → Option (List ℕ × List ℕ)
cut_at n text = cond (nat_lt n (length text)) (Some (take n text, drop (n + 1) text)) None

-- one more byte in front of what is cut
abbrev in_front : ℕ → List ℕ × List ℕ → List ℕ × List ℕ
in_front x parts = (x ∷ parts.0, parts.1)

first_below : (n : ℕ) → nat_lt 0 (suc n) ≡ true
first_below n = grind (arith, nat_tests)

none_below : nat_lt 0 0 ≡ false
none_below = grind (arith, nat_tests)

cut_here : (x : ℕ) (xs : List ℕ) → cut_at 0 (x ∷ xs) ≡ Some ([], xs)
cut_here x xs = ap (λ b. cond {A = Option (List ℕ × List ℕ)} b (Some ([], xs)) None) (first_below (length xs))

cut_nowhere : cut_at 0 [] ≡ None
cut_nowhere = ap (λ b. cond {A = Option (List ℕ × List ℕ)} b (Some ([], [])) None) none_below

cut_further : (x n : ℕ) (xs : List ℕ) → cut_at (1 + n) (x ∷ xs) ≡ option_map (in_front x) (cut_at n xs)
cut_further x n xs =
    let front : take (1 + n) (x ∷ xs) ≡ x ∷ take n xs = take_one x xs (1 + n) n (omega arith) in
    let back : drop (1 + n + 1) (x ∷ xs) ≡ drop (n + 1) xs = drop_one x xs (1 + n + 1) (n + 1) (omega arith) in
    ap (λ b. cond {A = Option (List ℕ × List ℕ)} b (Some (take (1 + n) (x ∷ xs), drop (1 + n + 1) (x ∷ xs))) None) (one_less n (length xs))
    ∙ ap (λ f. cond {A = Option (List ℕ × List ℕ)} (nat_lt n (length xs)) (Some (f, drop (1 + n + 1) (x ∷ xs))) None) front
    ∙ ap (λ b. cond {A = Option (List ℕ × List ℕ)} (nat_lt n (length xs)) (Some (x ∷ take n xs, b)) None) back
    ∙ by (nat_lt n (length xs))
  where
    by : (b : Bool) → cond {A = Option (List ℕ × List ℕ)} b (Some (x ∷ take n xs, drop (n + 1) xs)) None ≡ option_map (in_front x) (cond {A = Option (List ℕ × List ℕ)} b (Some (take n xs, drop (n + 1) xs)) None)
    by true = refl
    by false = refl

around_here : (p : ℕ → Bool) (x : ℕ) (xs : List ℕ) → p x ≡ true → around p (x ∷ xs) ≡ Some ([], xs)
around_here p x xs e = ap (λ b. cut_at (cond (not b) (1 + position_or_len p xs) 0) (x ∷ xs)) e ∙ cut_here x xs

around_further : (p : ℕ → Bool) (x : ℕ) (xs : List ℕ) → p x ≡ false → around p (x ∷ xs) ≡ option_map (in_front x) (around p xs)
around_further p x xs e = ap (λ b. cut_at (cond (not b) (1 + position_or_len p xs) 0) (x ∷ xs)) e ∙ cut_further x (position_or_len p xs) xs

none_mapped : {A B : Type 0} (f : A → B) (o : Option A) → option_map f o ≡ None → o ≡ None
none_mapped f None e = refl
none_mapped f (Some x) e = absurd (none-some (f x) (sym e))

-- ---- a cut at a mark

module _ (mark : ℕ) where
  other : (x : ℕ) → x ≢ mark → is_byte mark x ≡ false
  other x e = false_from_ne_true (is_byte mark x) (λ t. e (eqb-true x mark t))

  -- what is so joined is cut so
  pub around_cut : (before after : List ℕ) → Lacks mark before → around (is_byte mark) (before ++ mark ∷ after) ≡ Some (before, after)
  around_cut [] after lacks = around_here (is_byte mark) mark after (eq-eqb mark mark refl)
  around_cut (x ∷ xs) after lacks = around_further (is_byte mark) x (xs ++ mark ∷ after) (other x lacks.0) ∙ ap (option_map (in_front x)) (around_cut xs after lacks.1)

  pub reads_cut : (text before after : List ℕ) → IsCut mark text before after → around (is_byte mark) text ≡ Some (before, after)
  reads_cut text before after cut = ap (around (is_byte mark)) cut.joined ∙ around_cut before after cut.first

  -- and a text without the mark is not cut
  pub around_none : (text : List ℕ) → Lacks mark text → around (is_byte mark) text ≡ None
  around_none [] lacks = cut_nowhere
  around_none (x ∷ xs) lacks = around_further (is_byte mark) x xs (other x lacks.0) ∙ ap (option_map (in_front x)) (around_none xs lacks.1)

  pub lacks_mark : (text : List ℕ) → around (is_byte mark) text ≡ None → Lacks mark text
  lacks_mark [] e = tt
  lacks_mark (x ∷ xs) e = by (is_byte mark x) refl (lacks_mark xs)
    where
      by : (b : Bool) → is_byte mark x ≡ b → (around (is_byte mark) xs ≡ None → Lacks mark xs) → Lacks mark (x ∷ xs)
      by true h rest = absurd (none-some ([], xs) (sym e ∙ around_here (is_byte mark) x xs h))
      by false h rest = (eqb-false x mark h, rest (none_mapped (in_front x) (around (is_byte mark) xs) (sym (around_further (is_byte mark) x xs h) ∙ e)))

  -- what is cut is joined so
  pub cut_read : (text : List ℕ) (parts : List ℕ × List ℕ) → around (is_byte mark) text ≡ Some parts → IsCut mark text parts.0 parts.1
  cut_read [] parts e = absurd (none-some parts (sym cut_nowhere ∙ e))
  cut_read (x ∷ xs) parts e = by (is_byte mark x) refl (cut_read xs)
    where
      by : (b : Bool) → is_byte mark x ≡ b → ((rest : List ℕ × List ℕ) → around (is_byte mark) xs ≡ Some rest → IsCut mark xs rest.0 rest.1) → IsCut mark (x ∷ xs) parts.0 parts.1
      by true h rest =
          subst (λ (q : List ℕ × List ℕ). IsCut mark (x ∷ xs) q.0 q.1) (same_Some ([], xs) parts (sym (around_here (is_byte mark) x xs h) ∙ e))
          (record { joined = ap (λ y. y ∷ xs) (eqb-true x mark h); first = tt })
      by false h rest =
          mapped (in_front x) (around (is_byte mark) xs) parts (sym (around_further (is_byte mark) x xs h) ∙ e) (λ q g is.
          let cut = rest q g in
          subst (λ (r : List ℕ × List ℕ). IsCut mark (x ∷ xs) r.0 r.1) is (record { joined = ap (λ t. x ∷ t) cut.joined; first = (eqb-false x mark h, cut.first) }))

  -- ---- pieces

  -- pieces that are joined are cut again where they were
  split_joined : (pieces : List (List ℕ)) → pieces ≢ [] → AllByRecursion (Lacks mark) pieces → slice_split (is_byte mark) (join_with_byte mark pieces) ≡ pieces
  split_joined [] some lacks = absurd (some refl)
  split_joined (x ∷ []) some lacks = no_pieces (is_byte mark) x (around_none x lacks.0)
  split_joined (x ∷ y ∷ ys) some lacks =
      pieces_around (is_byte mark) (x ++ mark ∷ join_with_byte mark (y ∷ ys)) (x, join_with_byte mark (y ∷ ys)) (around_cut x (join_with_byte mark (y ∷ ys)) lacks.0)
      ∙ ap (λ ps. x ∷ ps) (split_joined (y ∷ ys) (λ e. cc) lacks.1)

  pub reads_pieces : (text : List ℕ) (pieces : List (List ℕ)) → AreJoined mark pieces text → slice_split (is_byte mark) text ≡ pieces
  reads_pieces text pieces are = ap (slice_split (is_byte mark)) are.joined ∙ split_joined pieces are.some are.without

  piece_empty : (x : ℕ) (xs : List ℕ) (pieces : List (List ℕ)) → x ≡ mark → AreJoined mark pieces xs → AreJoined mark ([] ∷ pieces) (x ∷ xs)
  piece_empty x xs [] e are = absurd (are.some refl)
  piece_empty x xs (p ∷ ps) e are = record { some = λ h. cc; joined = ap (λ y. y ∷ xs) e ∙ ap (λ t. mark ∷ t) are.joined; without = (tt, are.without) }

  piece_longer : (x : ℕ) (xs : List ℕ) (pieces : List (List ℕ)) → x ≢ mark → AreJoined mark pieces xs → AreJoined mark (onto_first x pieces) (x ∷ xs)
  piece_longer x xs [] e are = absurd (are.some refl)
  piece_longer x xs (p ∷ []) e are = record { some = λ h. cc; joined = ap (λ t. x ∷ t) are.joined; without = ((e, are.without.0), tt) }
  piece_longer x xs (p ∷ q ∷ ps) e are = record { some = λ h. cc; joined = ap (λ t. x ∷ t) are.joined; without = ((e, are.without.0), are.without.1) }

  -- the pieces of a text are joined to it
  pub pieces_joined : (text : List ℕ) → AreJoined mark (slice_split (is_byte mark) text) text
  pieces_joined [] = record { some = λ h. cc; joined = refl; without = (tt, tt) }
  pieces_joined (x ∷ xs) = by (is_byte mark x) refl (pieces_joined xs)
    where
      by : (b : Bool) → is_byte mark x ≡ b → AreJoined mark (slice_split (is_byte mark) xs) xs
          → AreJoined mark (cond b ([] ∷ slice_split (is_byte mark) xs) (onto_first x (slice_split (is_byte mark) xs))) (x ∷ xs)
      by true h are = piece_empty x xs (slice_split (is_byte mark) xs) (eqb-true x mark h) are
      by false h are = piece_longer x xs (slice_split (is_byte mark) xs) (eqb-false x mark h) are
