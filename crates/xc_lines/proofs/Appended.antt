-- A text that grows by one piece after the other.
use Rattle.std.proofs.Common.{◌≡◌, ℕ, List, ◌++◌, ap, sym, ◌∙◌, append_assoc}

-- with the next of the pieces that are left, what is written and what is left are the whole as before
pub one_more : (out out' piece rest rest' whole : List ℕ) → out' ≡ out ++ piece → rest ≡ piece ++ rest' → out ++ rest ≡ whole → out' ++ rest' ≡ whole
one_more out out' piece rest rest' whole grown cut so_far =
    ap (λ o. o ++ rest') grown ∙ append_assoc out piece rest' ∙ ap (λ r. out ++ r) (sym cut) ∙ so_far

-- one piece more, behind those that were written
pub behind : (start pieces piece text text' : List ℕ) → text ≡ start ++ pieces → text' ≡ text ++ piece → text' ≡ start ++ (pieces ++ piece)
behind start pieces piece text text' so_far more = more ∙ ap (λ t. t ++ piece) so_far ∙ append_assoc start pieces piece

-- five pieces, one behind the other
pub five : (start a b c d e one two three four all : List ℕ) → one ≡ start ++ a → two ≡ one ++ b → three ≡ two ++ c → four ≡ three ++ d → all ≡ four ++ e → all ≡ start ++ (a ++ b ++ c ++ d ++ e)
five start a b c d e one two three four all first second third fourth last =
    behind start (a ++ b ++ c ++ d) e four all (behind start (a ++ b ++ c) d three four (behind start (a ++ b) c two three (behind start a b one two first second) third) fourth) last
