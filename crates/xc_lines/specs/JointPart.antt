-- Where the joint part of an output begins, and what it claims.
use Rattle.std.specs.Prelude.{◌≡◌, ◌⊎◌, ℕ, List, ◌++◌, take, codes}
use Rattle.std.specs.List.{AllByRecursion}
use Rattle.xc_lists.specs.TextLines.{IsLine, text_of}

-- the text begins a joint part
abbrev pub BeginsJoint : List ℕ → Type 0
BeginsJoint text = take 6 text ≡ codes "joint "

-- a line that begins none
abbrev pub IsPlain : List ℕ → Type 0
IsPlain line = IsLine line × ¬ BeginsJoint line

-- the bytes are such lines, each ended by a line feed
pub record IsPlainText (bytes : List ℕ) : Type 0 where
  pub lines : List (List ℕ)
  pub plain : AllByRecursion IsPlain lines
  pub is : bytes ≡ text_of lines

-- the joint part of a text: what stands from the first line on that begins with `joint `
pub record IsJointPart (text part : List ℕ) : Type 0 where
  pub before : List ℕ
  pub plain : IsPlainText before
  pub begins : BeginsJoint part
  pub is : text ≡ before ++ part

-- a claim by which the joint question is settled: that one value for each data point exists, or that none does
abbrev pub IsClaim : List ℕ → Type 0
IsClaim word = (word ≡ codes "feasible") ⊎ (word ≡ codes "infeasible")

-- the first line of the joint part of a text makes this claim
pub record Claims (text word : List ℕ) : Type 0 where
  pub part : List ℕ
  pub joint : IsJointPart text part
  pub rest : List ℕ
  pub is : part ≡ codes "joint " ++ word ++ codes "\n" ++ rest
