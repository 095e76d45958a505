-- Pairs of whole numbers, told apart by their parts.
use Rattle.std.proofs.Common.{◌≡◌, ◌≢◌, true, false, ◌⊎◌, inl, inr, sym, ap, ◌∙◌}
use Rattle.std.proofs.lemmas.Bool.{cases_Bool, false≢true}
use Rattle.std.proofs.lemmas.Bool.Decides.{Decides-int_eq}
use Rattle.std.specs.Ordering.{int_eq}
use Rattle.xc_model.specs.Parts.{WholeParts}

pub same_pairs : (a b : WholeParts) → a.real ≡ b.real → a.tiny ≡ b.tiny → a ≡ b
same_pairs a b e f = λ i. record { real = e i; tiny = f i }

pub pair_cases : (a b : WholeParts) → (a ≡ b) ⊎ (a ≢ b)
pair_cases a b = go (cases_Bool (int_eq a.real b.real)) (cases_Bool (int_eq a.tiny b.tiny))
  where
    go : ((int_eq a.real b.real ≡ true) ⊎ (int_eq a.real b.real ≡ false)) → ((int_eq a.tiny b.tiny ≡ true) ⊎ (int_eq a.tiny b.tiny ≡ false)) → (a ≡ b) ⊎ (a ≢ b)
    go (inl e) (inl f) = inl (same_pairs a b ((Decides-int_eq a.real b.real).0 e) ((Decides-int_eq a.tiny b.tiny).0 f))
    go (inr e) f = inr (λ k. false≢true (sym e ∙ (Decides-int_eq a.real b.real).1 (ap (λ (c : WholeParts). c.real) k)))
    go (inl e) (inr f) = inr (λ k. false≢true (sym f ∙ (Decides-int_eq a.tiny b.tiny).1 (ap (λ (c : WholeParts). c.tiny) k)))
