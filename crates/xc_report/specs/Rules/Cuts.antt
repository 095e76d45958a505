-- Texts cut at a mark, or with a mark between their pieces, as their bytes.
use Rattle.std.specs.Prelude.{◌≡◌, ◌≢◌, ◌++◌, ℕ, List, [], ◌∷◌}
use Rattle.std.specs.List.{AllByRecursion, join_with_byte}
use Rattle.xc_lists.specs.Members.{Lacks}

-- a colon
abbrev pub colon : ℕ
colon = 58

-- a slash
abbrev pub slash : ℕ
slash = 47

-- an asterisk
abbrev pub asterisk : ℕ
asterisk = 42

-- an opening parenthesis
abbrev pub opening : ℕ
opening = 40

-- a closing one
abbrev pub closing : ℕ
closing = 41

-- a text is what stands before its first mark, the mark, and what stands after it
pub record IsCut (mark : ℕ) (text before after : List ℕ) : Type 0 where
  pub joined : text ≡ before ++ mark ∷ after
  pub first : Lacks mark before

-- a text is these pieces, one or more, with a mark between each two and none inside
pub record AreJoined (mark : ℕ) (pieces : List (List ℕ)) (text : List ℕ) : Type 0 where
  pub some : pieces ≢ []
  pub joined : text ≡ join_with_byte mark pieces
  pub without : AllByRecursion (Lacks mark) pieces
