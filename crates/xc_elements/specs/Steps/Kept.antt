-- What is kept of the elements that are open.
use Rattle.std.specs.Prelude.{ℕ, ◌<◌, Bool, true, false, List, [], ◌∷◌, ◌++◌, Option, Some, None, string_bytes}
use Rattle.xc_elements.specs.Items.{Name}
use Rattle.xc_elements.specs.Steps.Views.{name_view}
use Rattle.xc_elements.specs.declared.opens.OpenElement.{OpenElement}

-- what is kept of an open element: its number, its name, how many declarations there are outside it, and its text so far
pub record Kept : Type 0 where
  pub number : ℕ
  pub name : Name
  pub outside : ℕ
  pub text : List ℕ

-- what an open element keeps
abbrev pub kept_of : OpenElement → Kept
kept_of e = record { number = e.number; name = name_view e.name; outside = e.outside; text = string_bytes e.text }

-- the same, with more text in the innermost
abbrev pub with_text : List ℕ → List Kept → List Kept
with_text text [] = []
with_text text (k ∷ ks) = record { number = k.number; name = k.name; outside = k.outside; text = k.text ++ text } ∷ ks

-- no element is open
abbrev pub none_kept : List Kept → Bool
none_kept [] = true
none_kept (k ∷ ks) = false

-- the number of the innermost
abbrev pub innermost_kept : List Kept → Option ℕ
innermost_kept [] = None
innermost_kept (k ∷ ks) = Some k.number

-- fewer than so many elements begin before each
abbrev pub AreBelow : ℕ → List Kept → Type 0
AreBelow n [] = Unit {0}
AreBelow n (k ∷ ks) = (k.number < n) × AreBelow n ks
