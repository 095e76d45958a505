-- What stands around the first place of a byte.
use Rattle.std.proofs.Common.{◌≡◌, ◌≢◌, ℕ, suc, ◌+◌, ◌-◌, ◌<◌, ◌≤◌, Bool, true, false, cond, List, ◌∷◌, ◌++◌, length, get_or, take, drop, Some, None, refl, sym, ap, ◌∙◌, arith, add-one, length-take}
use Rattle.std.specs.Prelude.{◌==◌, position, nat_lt}
use Rattle.std.specs.List.{position_or_len}
use Rattle.std.proofs.Math.Seq.{drop-cons}
use Rattle.std.proofs.lemmas.Bool.{eqb-true, eqb-false, ltb-false}
use Rattle.std.proofs.lemmas.List.{take-append-drop, take_rest, get_or-take}
use Rattle.std.proofs.lemmas.List.Elements.{All-from_get_or, recursion_from_All}
use Rattle.std.proofs.lemmas.List.Quantifiers.{position-Some}
use Rattle.std.proofs.lemmas.List.Sums.{fails_before_first}
use Rattle.xc_cert.specs.Steps.Lines.{IsCut}
use Rattle.xc_lists.specs.Members.{Lacks}

module _ (byte : ℕ) (text : List ℕ) where
  -- none of the first n is the byte
  lacks_before : (n : ℕ) → ((k : ℕ) → k < n → (get_or text k 0 == byte) ≡ false) → Lacks byte (take n text)
  lacks_before n fails =
      recursion_from_All (λ b. b ≢ byte) (take n text) (All-from_get_or (λ b. b ≢ byte) (take n text) 0 (λ k within.
      let size = length-take n text in
      let inside : k < n = omega (arith, within, size) in
      λ is. eqb-false (get_or text k 0) byte (fails k inside) (sym (get_or-take n text k 0 inside) ∙ is)))

  pub cut_there : (at : ℕ) → position (λ b. b == byte) text ≡ Some at → IsCut byte text (Some (take at text, take (length text - (at + 1)) (drop (at + 1) text)))
  cut_there at e =
      let here = position-Some (λ b. b == byte) text at 0 e in
      let is : get_or text at 0 ≡ byte = eqb-true (get_or text at 0) byte here.1 in
      let next : suc at ≡ at + 1 = sym (add-one at) in
      let rest : drop at text ≡ byte ∷ take (length text - (at + 1)) (drop (at + 1) text) =
      drop-cons text at 0 here.0 ∙ (λ i. is i ∷ drop (next i) text) ∙ ap (λ xs. byte ∷ xs) (sym (take_rest text (at + 1))) in
      (lacks_before at here.2, sym (take-append-drop at text) ∙ ap (λ xs. take at text ++ xs) rest)

  no_place : (b : Bool) (n : ℕ) → cond b (Some n) None ≡ None → b ≡ false
  no_place true n e = cc
  no_place false n e = refl

  pub cut_nowhere : position (λ b. b == byte) text ≡ None → IsCut byte text None
  cut_nowhere e =
      let far : length text ≤ position_or_len (λ b. b == byte) text = ltb-false _ _ (no_place (nat_lt (position_or_len (λ b. b == byte) text) (length text)) _ e) in
      recursion_from_All (λ b. b ≢ byte) text (All-from_get_or (λ b. b ≢ byte) text 0 (λ k within is.
      eqb-false (get_or text k 0) byte (fails_before_first (λ b. b == byte) text k 0 (omega (arith, within, far))) is))
