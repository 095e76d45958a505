-- A line says one thing.
use Rattle.std.proofs.Common.{◌≡◌, ◌≢◌, ℕ, ◌<◌, ◌^◌, List, ◌∷◌, ◌++◌, Option, Some, None, refl, sym, ◌∙◌, arith, append_assoc, lit<}
use Rattle.std.specs.Prelude.{◌↔◌, codes, decimal}
use Rattle.std.proofs.lemmas.Fmt.{decimal_injective}
use Rattle.xc_cert.specs.Certificates.{opening, numbered_line}
use Rattle.xc_cert.specs.Steps.Lines.{IsCut, IsWord, IsNumber, IsNumbered, HasNumber, Says, word_text}
use Rattle.xc_lists.specs.Members.{Lacks}
use Rattle.xc_cert.specs.declared.line.Line.{Line}
use Rattle.xc_cert.specs.declared.line.Line.TheVariants.{Opening, Feasible, Infeasible, End, Numbered, Other}
use Rattle.xc_cert.specs.declared.line.Word.{Word}
use Rattle.xc_cert.specs.declared.line.Word.TheVariants.{Value, Binding, Low, High}
use Rattle.xc_lists.proofs.Cutting.{cut_same, not_there}
use Rattle.xc_lists.proofs.Lacking.{lacks_by, decimal_lacks}
use Rattle.xc_decimal.specs.Laws.{HasOneSpelling}
use Rattle.xc_decimal.specs.Spelling.{spelling}
use Rattle.xc_model.specs.Ratio.{Ratio}

-- ---- a line with a number

pub word_lacks : (word : Word) → Lacks 32 (word_text word)
word_lacks Value = lacks_by 32 (codes "value") refl
word_lacks Binding = lacks_by 32 (codes "binding") refl
word_lacks Low = lacks_by 32 (codes "low") refl
word_lacks High = lacks_by 32 (codes "high") refl

word_same : (v w : Word) → word_text v ≡ word_text w → v ≡ w
word_same Value Value e = refl
word_same Value Binding e = absurd cc
word_same Value Low e = absurd cc
word_same Value High e = absurd cc
word_same Binding Value e = absurd cc
word_same Binding Binding e = refl
word_same Binding Low e = absurd cc
word_same Binding High e = absurd cc
word_same Low Value e = absurd cc
word_same Low Binding e = absurd cc
word_same Low Low e = refl
word_same Low High e = absurd cc
word_same High Value e = absurd cc
word_same High Binding e = absurd cc
word_same High Low e = absurd cc
word_same High High e = refl

small : (n : ℕ) → n < 2 ^ 32 → n < 2 ^ 64
small n h = let more : 2 ^ 32 < 2 ^ 64 = lit< tt in omega (arith, h, more)

pub few : (n : ℕ) → n < 2 ^ 32 → n < 10 ^ 64
few n h = let more : 2 ^ 32 < 10 ^ 64 = lit< tt in omega (arith, h, more)

-- its word, and what follows the first space; its number, and what follows the second
pub parts_of : (word : List ℕ) (n : ℕ) (f : Ratio) → numbered_line word (n, f) ≡ word ++ 32 ∷ (decimal n ++ 32 ∷ spelling f)
parts_of word n f =
    append_assoc (word ++ codes " " ++ decimal n) (codes " ") (spelling f) ∙ append_assoc (word ++ codes " ") (decimal n) (32 ∷ spelling f) ∙ append_assoc word (codes " ") (decimal n ++ 32 ∷ spelling f)

-- two lines with a number say the same
record Alike (v w : Word) (m n : ℕ) (f g : Ratio) : Type 0 where
  words : v ≡ w
  numbers : m ≡ n
  fractions : f ≡ g

numbered_same : HasOneSpelling → (text : List ℕ) (v w : Word) (m n : ℕ) (f g : Ratio) → HasNumber text v m f → HasNumber text w n g → Alike v w m n f g
numbered_same one text v w m n f g a b =
    let whole : word_text v ++ 32 ∷ (decimal m ++ 32 ∷ spelling f) ≡ word_text w ++ 32 ∷ (decimal n ++ 32 ∷ spelling g) =
    sym (parts_of (word_text v) m f) ∙ sym a.1 ∙ b.1 ∙ parts_of (word_text w) n g in
    let first = cut_same 32 (word_text v) (decimal m ++ 32 ∷ spelling f) (word_text w) (decimal n ++ 32 ∷ spelling g) (word_lacks v) (word_lacks w) whole in
    let low : 32 < 45 = lit< tt in
    let second = cut_same 32 (decimal m) (spelling f) (decimal n) (spelling g) (decimal_lacks 32 low m (few m a.0)) (decimal_lacks 32 low n (few n b.0)) first.1 in
    record { words = word_same v w first.0; numbers = decimal_injective m n (small m a.0) (small n b.0) second.0; fractions = one f g second.1 }

-- ---- lines without a number

-- the first letter of a line with a number
letter : Word → ℕ
letter Value = 118
letter Binding = 98
letter Low = 108
letter High = 104

-- it is none of those with which other lines begin
record IsApart (c : ℕ) : Type 0 where
  opening_ : c ≢ 99
  feasible : c ≢ 102
  infeasible : c ≢ 105
  end : c ≢ 101

letter_apart : (word : Word) → IsApart (letter word)
unfolding letter
letter_apart Value = record { opening_ = λ e. omega arith; feasible = λ e. omega arith; infeasible = λ e. omega arith; end = λ e. omega arith }
letter_apart Binding = record { opening_ = λ e. omega arith; feasible = λ e. omega arith; infeasible = λ e. omega arith; end = λ e. omega arith }
letter_apart Low = record { opening_ = λ e. omega arith; feasible = λ e. omega arith; infeasible = λ e. omega arith; end = λ e. omega arith }
letter_apart High = record { opening_ = λ e. omega arith; feasible = λ e. omega arith; infeasible = λ e. omega arith; end = λ e. omega arith }

begins : (word : Word) (rest : List ℕ) → (more : List ℕ) × (word_text word ++ rest ≡ letter word ∷ more)
unfolding letter
begins Value rest = (_, refl)
begins Binding rest = (_, refl)
begins Low rest = (_, refl)
begins High rest = (_, refl)

-- a line that begins with another letter has no number
no_number : (text : List ℕ) (c : ℕ) (cs : List ℕ) (word : Word) (n : ℕ) (f : Ratio) → text ≡ c ∷ cs → letter word ≢ c → HasNumber text word n f → ⊥
no_number text c cs word n f e other h =
    let b = begins word (32 ∷ (decimal n ++ 32 ∷ spelling f)) in
    let whole : letter word ∷ b.0 ≡ c ∷ cs = sym b.1 ∙ sym (parts_of (word_text word) n f) ∙ sym h.1 ∙ e in
    other cc

module _ (one : HasOneSpelling) where
  -- a line says one thing
  pub says_same : (text : List ℕ) (k l : Line) → Says text k → Says text l → k ≡ l
  says_same text Opening Opening a b = refl
  says_same text Opening Feasible a b = absurd (let e : opening ≡ codes "feasible" = sym a ∙ b in cc)
  says_same text Opening Infeasible a b = absurd (let e : opening ≡ codes "infeasible" = sym a ∙ b in cc)
  says_same text Opening End a b = absurd (let e : opening ≡ codes "end" = sym a ∙ b in cc)
  says_same text Opening (Numbered w n f) a b = absurd (no_number text 99 _ w n f a (letter_apart w).opening_ b)
  says_same text Opening Other a b = absurd (b.opening_ a)
  says_same text Feasible Opening a b = absurd (let e : opening ≡ codes "feasible" = sym b ∙ a in cc)
  says_same text Feasible Feasible a b = refl
  says_same text Feasible Infeasible a b = absurd (let e : codes "feasible" ≡ codes "infeasible" = sym a ∙ b in cc)
  says_same text Feasible End a b = absurd (let e : codes "feasible" ≡ codes "end" = sym a ∙ b in cc)
  says_same text Feasible (Numbered w n f) a b = absurd (no_number text 102 _ w n f a (letter_apart w).feasible b)
  says_same text Feasible Other a b = absurd (b.feasible a)
  says_same text Infeasible Opening a b = absurd (let e : opening ≡ codes "infeasible" = sym b ∙ a in cc)
  says_same text Infeasible Feasible a b = absurd (let e : codes "feasible" ≡ codes "infeasible" = sym b ∙ a in cc)
  says_same text Infeasible Infeasible a b = refl
  says_same text Infeasible End a b = absurd (let e : codes "infeasible" ≡ codes "end" = sym a ∙ b in cc)
  says_same text Infeasible (Numbered w n f) a b = absurd (no_number text 105 _ w n f a (letter_apart w).infeasible b)
  says_same text Infeasible Other a b = absurd (b.infeasible a)
  says_same text End Opening a b = absurd (let e : opening ≡ codes "end" = sym b ∙ a in cc)
  says_same text End Feasible a b = absurd (let e : codes "feasible" ≡ codes "end" = sym b ∙ a in cc)
  says_same text End Infeasible a b = absurd (let e : codes "infeasible" ≡ codes "end" = sym b ∙ a in cc)
  says_same text End End a b = refl
  says_same text End (Numbered w n f) a b = absurd (no_number text 101 _ w n f a (letter_apart w).end b)
  says_same text End Other a b = absurd (b.end a)
  says_same text (Numbered w n f) Opening a b = absurd (no_number text 99 _ w n f b (letter_apart w).opening_ a)
  says_same text (Numbered w n f) Feasible a b = absurd (no_number text 102 _ w n f b (letter_apart w).feasible a)
  says_same text (Numbered w n f) Infeasible a b = absurd (no_number text 105 _ w n f b (letter_apart w).infeasible a)
  says_same text (Numbered w n f) End a b = absurd (no_number text 101 _ w n f b (letter_apart w).end a)
  says_same text (Numbered v m f) (Numbered w n g) a b = let h = numbered_same one text v w m n f g a b in λ i. Numbered (h.words i) (h.numbers i) (h.fractions i)
  says_same text (Numbered w n f) Other a b = absurd (b.numbered w n f a)
  says_same text Other Opening a b = absurd (a.opening_ b)
  says_same text Other Feasible a b = absurd (a.feasible b)
  says_same text Other Infeasible a b = absurd (a.infeasible b)
  says_same text Other End a b = absurd (a.end b)
  says_same text Other (Numbered w n f) a b = absurd (a.numbered w n f b)
  says_same text Other Other a b = refl

-- ---- how a line is read

-- a line without a space, or with one alone, has no number
pub no_space : (text : List ℕ) → Lacks 32 text → IsNumbered text None
no_space text none word n f h = not_there 32 (word_text word) (decimal n ++ 32 ∷ spelling f) text none (h.1 ∙ parts_of (word_text word) n f)

-- a text of which no fraction is read is spelled by none
pub no_spelling : (text : List ℕ) → ((f : Ratio) → (◌≡◌ {A = Option Ratio} None (Some f)) ↔ (text ≡ spelling f)) → (f : Ratio) → text ≡ spelling f → ⊥
no_spelling text reads f e = let k = (reads f).1 e in cc

-- what stands around the first space of a line with a number
record IsAround (front rest : List ℕ) (word : Word) (n : ℕ) (f : Ratio) : Type 0 where
  word_ : front ≡ word_text word
  rest_ : rest ≡ decimal n ++ 32 ∷ spelling f

around : (text front rest : List ℕ) → IsCut 32 text (Some (front, rest)) → (word : Word) (n : ℕ) (f : Ratio) → HasNumber text word n f → IsAround front rest word n f
around text front rest cut word n f h =
    let same = cut_same 32 front rest (word_text word) (decimal n ++ 32 ∷ spelling f) cut.0 (word_lacks word) (sym cut.1 ∙ h.1 ∙ parts_of (word_text word) n f) in
    record { word_ = same.0; rest_ = same.1 }

pub one_space : (text front rest : List ℕ) → IsCut 32 text (Some (front, rest)) → Lacks 32 rest → IsNumbered text None
one_space text front rest cut none word n f h = not_there 32 (decimal n) (spelling f) rest none (around text front rest cut word n f h).rest_

pub no_word : (text front rest : List ℕ) → IsCut 32 text (Some (front, rest)) → IsWord front None → IsNumbered text None
no_word text front rest cut none word n f h = none word (around text front rest cut word n f h).word_

module _ (text front rest number fraction : List ℕ) (cut : IsCut 32 text (Some (front, rest))) (again : IsCut 32 rest (Some (number, fraction))) where
  behind : (word : Word) (n : ℕ) (f : Ratio) → HasNumber text word n f → (number ≡ decimal n) × (fraction ≡ spelling f)
  behind word n f h =
      let low : 32 < 45 = lit< tt in
      cut_same 32 number fraction (decimal n) (spelling f) again.0 (decimal_lacks 32 low n (few n h.0)) (sym again.1 ∙ (around text front rest cut word n f h).rest_)

  pub no_number_there : IsNumber number None → IsNumbered text None
  no_number_there none word n f h = none n h.0 (behind word n f h).0

  pub no_fraction : ((f : Ratio) → fraction ≡ spelling f → ⊥) → IsNumbered text None
  no_fraction none word n f h = none f (behind word n f h).1

  pub all_there : (word : Word) (n : ℕ) (f : Ratio) → IsWord front (Some word) → IsNumber number (Some n) → fraction ≡ spelling f → HasNumber text word n f
  all_there word n f is_word is_number is_fraction =
      (is_number.0, cut.1 ∙ (λ i. is_word i ++ 32 ∷ again.1 i) ∙ (λ i. word_text word ++ 32 ∷ (is_number.1 i ++ 32 ∷ is_fraction i)) ∙ sym (parts_of (word_text word) n f))
