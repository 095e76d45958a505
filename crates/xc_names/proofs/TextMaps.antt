-- Look-ups by two texts, after a namespace is opened and after a local part is noted.
use Rattle.std.proofs.Common.{◌≡◌, ℕ, List, [], Bool, true, false, Option, Some, None, cond, ◌&&◌, option_and_then, is_some, true≢false, refl, sym, ap, ◌∙◌, String, string_bytes}
use Rattle.std.proofs.lemmas.Map.Text.{hash_map_updates_text}
use Rattle.std.proofs.lemmas.Cmp.{nat_list_eq_equiv}
use Rattle.std.proofs.lemmas.Slice.Eq.{bytes_eq-Decides}
use Rattle.std.specs.HashMap.{HashMap, UpdatesBy, get_by_text}
use Rattle.std.specs.Str.{bytes_eq}
use Rattle.std.specs.String.{string_eq}
use Rattle.xc_names.specs.Names.{name_of, is_named}
use Rattle.xc_names.specs.Steps.Numbers.{number_in}

-- texts that are equal one way are equal the other way
turned : (a b : List ℕ) → bytes_eq a b ≡ bytes_eq b a
turned a b = nat_list_eq_equiv.symm a b

absent : {X : Type 0} (o : Option X) → is_some o ≡ false → o ≡ None
absent None e = refl
absent (Some x) e = absurd (true≢false e)

module _ {Y Z S T : Type 0} (m n : HashMap (String Y) (HashMap (String Z) ℕ S) T) (space : List ℕ) (locals : HashMap (String Z) ℕ S) (updates : UpdatesBy string_eq (λ k. bytes_eq space (string_bytes k)) m n (Some locals)) where
  after : (s l : List ℕ) → number_in n s l ≡ option_and_then (λ ls. get_by_text ls l) (cond (bytes_eq space s) (Some locals) (get_by_text m s))
  after s l = ap (option_and_then (λ ls. get_by_text ls l)) (hash_map_updates_text space m n (Some locals) updates s)

  -- an empty map for a namespace that was not there changes no number
  pub opened : is_some (get_by_text m space) ≡ false → locals.entries ≡ [] → (s l : List ℕ) → number_in n s l ≡ number_in m s l
  opened none empty s l = after s l ∙ by (bytes_eq space s) refl
    where
      by : (b : Bool) → bytes_eq space s ≡ b → option_and_then (λ ls. get_by_text ls l) (cond b (Some locals) (get_by_text m s)) ≡ number_in m s l
      by true e =
          let same : space ≡ s = (bytes_eq-Decides space s).0 e in
          let gone : get_by_text m s ≡ None = ap (get_by_text m) (sym same) ∙ absent (get_by_text m space) none in
          rw empty (rw gone refl)
      by false e = refl

  -- a local part that is noted has its number, and all others keep theirs
  pub noted : (earlier : HashMap (String Z) ℕ S) (local : List ℕ) (number : ℕ) → get_by_text m space ≡ Some earlier
      → ((l : List ℕ) → get_by_text locals l ≡ cond (bytes_eq local l) (Some number) (get_by_text earlier l))
      → (s l : List ℕ) → number_in n s l ≡ cond (is_named s l (name_of space local)) (Some number) (number_in m s l)
  noted earlier local number was more s l = after s l ∙ by (bytes_eq space s) refl
    where
      by : (b : Bool) → bytes_eq space s ≡ b → option_and_then (λ ls. get_by_text ls l) (cond b (Some locals) (get_by_text m s)) ≡ cond (bytes_eq s space && bytes_eq l local) (Some number) (number_in m s l)
      by true e =
          let same : space ≡ s = (bytes_eq-Decides space s).0 e in
          let had : get_by_text m s ≡ Some earlier = ap (get_by_text m) (sym same) ∙ was in
          rw (turned s space ∙ e) (rw (turned l local) (rw had (more l)))
      by false e = rw (turned s space ∙ e) refl

  -- local parts that stay as they were change no number
  pub unnoted : (earlier : HashMap (String Z) ℕ S) → get_by_text m space ≡ Some earlier → locals.entries ≡ earlier.entries → (s l : List ℕ) → number_in n s l ≡ number_in m s l
  unnoted earlier was same s l = after s l ∙ by (bytes_eq space s) refl
    where
      by : (b : Bool) → bytes_eq space s ≡ b → option_and_then (λ ls. get_by_text ls l) (cond b (Some locals) (get_by_text m s)) ≡ number_in m s l
      by true e =
          let had : get_by_text m s ≡ Some earlier = ap (get_by_text m) (sym ((bytes_eq-Decides space s).0 e)) ∙ was in
          rw had (rw same refl)
      by false e = refl
