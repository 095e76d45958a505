-- The names of two lists have a renaming.
use Rattle.std.proofs.Common.{◌≡◌, ◌+◌, ◌<◌, ◌==◌, ℕ, List, Bool, true, false, if◌then◌else◌, Option, Some, None, option_and_then, unwrap_or, is_some, length, slice_get, refl, sym, ap, ◌∙◌, eq-eqb, eqb-true, arith}
use Rattle.std.proofs.lemmas.Option.{none-some, same_Some}
use Rattle.xc_lists.specs.Places.{is_place}
use Rattle.xc_names.specs.Laws.{NumbersTellNames, NamesStandAtNumbers}
use Rattle.xc_names.specs.Names.{number_of}
use Rattle.xc_names.specs.declared.expanded.Expanded.{Expanded}
use Rattle.xc_top.proofs.Renaming.{AreOneElsewhere, IsInjective, IsRenaming}

-- one name has the first number in one list, and the second in the other
pub record IsOneName (one other : List Expanded) (a b : ℕ) : Type 0 where
  pub space : List ℕ
  pub local : List ℕ
  pub first : number_of space local one ≡ Some a
  pub second : number_of space local other ≡ Some b

same_elsewhere : NumbersTellNames → (one other : List Expanded) → AreOneElsewhere one other
same_elsewhere tell one other space local other_space other_local a e g =
    let names = (tell one space local other_space other_local (ap is_some e)).0 (e ∙ sym g) in
    ap (λ (name : Expanded). number_of name.space name.local other) names

passed : (n a b : ℕ) (o : Option ℕ) (t : Bool) → (n == a) ≡ t → (if t then o else None) ≡ Some b → (n ≡ a) × (o ≡ Some b)
passed n a b o true e h = (eqb-true n a e, h)
passed n a b o false e h = absurd (none-some b h)

module _ (tell : NumbersTellNames) (stand : NamesStandAtNumbers) (one other : List Expanded) where
  -- the number in the other list of a name that has this number in the first
  abbrev number_by : ℕ → Expanded → Option ℕ
  number_by a name = if is_place a (number_of name.space name.local one) then number_of name.space name.local other else None

  -- and of the name at this place
  abbrev number_there : ℕ → Option ℕ
  number_there a = option_and_then (number_by a) (slice_get one a)

  -- or else a number behind all of the other list
  abbrev renamed_number : ℕ → ℕ
  renamed_number a = unwrap_or (number_there a) (length other + a)

  by_number : (a b : ℕ) (name : Expanded) (o : Option ℕ) → number_of name.space name.local one ≡ o → (if is_place a o then number_of name.space name.local other else None) ≡ Some b → IsOneName one other a b
  by_number a b name None e h = absurd (none-some b h)
  by_number a b name (Some n) e h =
      let found = passed n a b (number_of name.space name.local other) (n == a) refl h in
      record { space = name.space; local = name.local; first = e ∙ ap Some found.0; second = found.1 }

  by_place : (a b : ℕ) (o : Option Expanded) → option_and_then (number_by a) o ≡ Some b → IsOneName one other a b
  by_place a b None e = absurd (none-some b e)
  by_place a b (Some name) e = by_number a b name (number_of name.space name.local one) refl e

  same_number : (a b m n : ℕ) → IsOneName one other a m → IsOneName one other b n → m ≡ n → a ≡ b
  same_number a b m n x y e =
      let numbers = same_elsewhere tell other one x.space x.local y.space y.local n (x.second ∙ ap Some e) y.second in
      same_Some a b (sym x.first ∙ numbers ∙ y.first)

  -- a number of the other list is not one behind all of it
  not_behind : (a b m : ℕ) → IsOneName one other a m → m ≡ length other + b → ⊥
  not_behind a b m x e =
      let within : m < length other = (stand other x.space x.local m x.second).0 in
      omega arith

  by_numbers : (a b : ℕ) (o : Option ℕ) → number_there a ≡ o → (p : Option ℕ) → number_there b ≡ p → unwrap_or o (length other + a) ≡ unwrap_or p (length other + b) → a ≡ b
  by_numbers a b (Some m) e (Some n) g same = same_number a b m n (by_place a m (slice_get one a) e) (by_place b n (slice_get one b) g) same
  by_numbers a b (Some m) e None g same = absurd (not_behind a b m (by_place a m (slice_get one a) e) same)
  by_numbers a b None e (Some n) g same = absurd (not_behind b a n (by_place b n (slice_get one b) g) (sym same))
  by_numbers a b None e None g same = let sums : length other + a ≡ length other + b = same in omega arith

  different : IsInjective renamed_number
  different a b same = by_numbers a b (number_there a) refl (number_there b) refl same

  carried : (space local : List ℕ) (a b : ℕ) → number_of space local one ≡ Some a → number_of space local other ≡ Some b → number_there a ≡ Some b
  carried space local a b e g =
      ap (option_and_then (number_by a)) (stand one space local a e).1
      ∙ ap (λ o. if is_place a o then number_of space local other else None) e
      ∙ ap (λ t. if t then number_of space local other else None) (eq-eqb a a refl)
      ∙ g

-- the names of two lists have a renaming
pub renaming : NumbersTellNames → NamesStandAtNumbers → (one other : List Expanded) → (f : ℕ → ℕ) × IsRenaming one other f
renaming tell stand one other = (
  renamed_number tell stand one other,
  record {
    injective = different tell stand one other;
    carries = λ space local a b e g. ap (λ o. unwrap_or o (length other + a)) (carried tell stand one other space local a b e g);
    there = same_elsewhere tell one other;
    back = same_elsewhere tell other one;
  },
)
