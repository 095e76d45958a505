-- What is told of a result, from what a call tells of it.
use Rattle.std.proofs.Common.{◌≡◌, Ok, Err, sym, subst}
use Rattle.std.specs.Prelude.{Result, IfOk, IfErr, OnOk, OnErr}

module _ {X E : Type 0} (o : Result X E) where
  pub if_ok : (P Q : X → Type 0) → IfOk o P → ((x : X) → P x → Q x) → IfOk o Q
  if_ok P Q h k = by_cases o h
    where
      by_cases : (o : Result X E) → IfOk o P → IfOk o Q
      by_cases (Ok x) h = k x h
      by_cases (Err e) h = tt

  -- an answer, and a fact beside it
  pub if_both : (P Q : X → Type 0) (R : Type 0) → IfOk o P → OnOk o R → ((x : X) → P x → R → Q x) → IfOk o Q
  if_both P Q R h r k = by_cases o h r
    where
      by_cases : (o : Result X E) → IfOk o P → OnOk o R → IfOk o Q
      by_cases (Ok x) h r = k x h r
      by_cases (Err e) h r = tt

  -- two facts beside an answer
  pub if_done : (P Q R : Type 0) → OnOk o P → OnOk o Q → (P → Q → R) → OnOk o R
  if_done P Q R p q k = by_cases o p q
    where
      by_cases : (o : Result X E) → OnOk o P → OnOk o Q → OnOk o R
      by_cases (Ok x) p q = k p q
      by_cases (Err e) p q = tt

  -- a refusal that is named, and a fact beside it
  pub if_named : (P : E → Type 0) (e : E) (R : Type 0) → IfErr o (λ f. f ≡ e) → OnErr o R → (R → P e) → IfErr o P
  if_named P e R h r k = by_cases o h r
    where
      by_cases : (o : Result X E) → IfErr o (λ f. f ≡ e) → OnErr o R → IfErr o P
      by_cases (Ok x) h r = tt
      by_cases (Err f) h r = subst P (sym h) (k r)
