-- A text is a word exactly where it spells it.
use Rattle.std.proofs.Common.{◌≡◌, ◌≢◌, ℕ, Bool, true, false, List, [], ◌∷◌, ◌++◌, Option, Some, None, refl, sym, ap, ◌∙◌, append-nil}
use Rattle.std.proofs.lemmas.Bool.{false_from_ne_true}
use Rattle.xc_elements.specs.Fronts.{exactly}
use Rattle.xc_elements.specs.Items.{is_nil, is_whole, spells}
use Rattle.xc_elements.specs.Grammar.Words.{Each}
use Rattle.xc_elements.proofs.FrontLaws.{exactly_whole, exactly_again}

nothing_left : (rest : List ℕ) → is_nil rest ≡ true → rest ≡ []
nothing_left [] e = refl
nothing_left (c ∷ cs) e = absurd cc

whole_word : (text word : List ℕ) (o : Option (Unit {0} × List ℕ)) → exactly word text ≡ o → is_whole o ≡ true → text ≡ word
whole_word text word None e h = absurd cc
whole_word text word (Some x) e h = exactly_whole word text x.0 x.1 e ∙ ap (λ (z : List ℕ). word ++ z) (nothing_left x.1 h) ∙ append-nil word

pub spelled_is : (text word : List ℕ) → spells text word ≡ true → text ≡ word
spelled_is text word h = whole_word text word (exactly word text) refl h

word_whole : (word : List ℕ) → exactly word word ≡ Some (tt, [])
word_whole word = ap (exactly word) (sym (append-nil word)) ∙ exactly_again word []

pub spells_word : (text word : List ℕ) → text ≡ word → spells text word ≡ true
spells_word text word e = ap (λ (z : List ℕ). spells z word) e ∙ ap is_whole (word_whole word)

pub spells_other : (text word : List ℕ) → text ≢ word → spells text word ≡ false
spells_other text word differs = false_from_ne_true (spells text word) (λ on. differs (spelled_is text word on))

-- what each character passes, the one at a place does
pub each_at : (test : ℕ → Bool) (text front : List ℕ) (c : ℕ) (cs : List ℕ) → Each test text → text ≡ front ++ (c ∷ cs) → test c ≡ true
each_at test [] [] c cs h e = absurd cc
each_at test [] (f ∷ front) c cs h e = absurd cc
each_at test (d ∷ ds) [] c cs h e = let same : d ≡ c = cc in ap test (sym same) ∙ h.0
each_at test (d ∷ ds) (f ∷ front) c cs h e = each_at test ds front c cs h.1 (let tails : ds ≡ front ++ (c ∷ cs) = cc in tails)
