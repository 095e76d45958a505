-- Answers that are there or not, told by a relation.
use Rattle.std.proofs.Common.{◌≡◌, Option, Some, None, option_map, refl, sym, ◌∙◌}
use Rattle.std.proofs.lemmas.Option.{none-some, same_Some}
use Rattle.xc_report.specs.Laws.{IsTold}

-- an answer that is mapped comes from one that is there
pub mapped : {A B P : Type 0} (f : A → B) (o : Option A) (y : B) → option_map f o ≡ Some y → ((x : A) → o ≡ Some x → f x ≡ y → P) → P
mapped f None y e k = absurd (none-some y e)
mapped f (Some x) y e k = k x refl (same_Some (f x) y e)

-- what is never there is missing
pub missing : {A : Type 0} (o : Option A) → ((x : A) → o ≡ Some x → ⊥) → o ≡ None
missing None never = refl
missing (Some x) never = absurd (never x refl)

-- an answer is told by a relation where it is given for all of which the relation holds, and for no other
pub told : {A : Type 0} (Is : A → Type 0) (answer : Option A) → ((a : A) → answer ≡ Some a → Is a) → ((a : A) → Is a → answer ≡ Some a) → IsTold Is answer
told Is answer holds given = record {
  some = λ a. (holds a, given a);
  none = ((λ e a is. none-some a (sym e ∙ given a is)), (λ never. missing answer (λ a e. never a (holds a e))));
  one = λ a b is other. same_Some a b (sym (given a is) ∙ given b other);
}
