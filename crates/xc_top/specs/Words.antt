-- Which words are accepted, and what they name.
use Rattle.std.specs.Prelude.{ℕ, List, [], ◌∷◌, Bool, false, ◌&&◌, ◌||◌, ◌==◌, not, nat_lt, nat_le, length, drop, map, Option, Some, None, is_some, option_map, String, string_bytes, codes, if◌then◌else◌}
use Rattle.std.specs.Char.{is_ascii_digit}
use Rattle.std.specs.List.{list_all}
use Rattle.std.specs.Str.{bytes_eq}
use Rattle.std.specs.declared.alloc.Global.{Global}
use Rattle.xc_calc.specs.declared.arc.ArcKind.{ArcKind}
use Rattle.xc_calc.specs.declared.arc.ArcKind.TheVariants.{New, Old}
use Rattle.xc_decimal.specs.Digits.{number_of}
use Rattle.xc_interval.specs.declared.mode.Mode.{Mode}
use Rattle.xc_interval.specs.declared.mode.Mode.TheVariants.{Rounding, Truncation}
use Rattle.xc_chars.specs.PlainNames.{split}

-- what the words of `sum` name
pub record SumWords : Type 0 where
  pub mode : Mode
  pub report : List ℕ
  pub total : List ℕ
  pub terms : List (List ℕ)

-- what the words of `check` name
pub record CheckWords : Type 0 where
  pub kind : ArcKind
  pub mode : Mode
  pub report : List ℕ
  pub documents : List (List ℕ)

-- what the words of `verify` name: a certificate, and what it is judged over
pub record VerifyWords : Type 0 where
  pub certificate : List ℕ
  pub over : CheckWords

-- what accepted words ask for; of `sample` they say how many nodes it has
pub data CommandWords : Type 0 where
  SumOf : SumWords → CommandWords
  CheckOf : CheckWords → CommandWords
  VerifyOf : VerifyWords → CommandWords
  SampleOf : ℕ → CommandWords

-- a word that names a file: not empty, and no `-` at its head
abbrev pub is_file_word : List ℕ → Bool
is_file_word [] = false
is_file_word (first ∷ rest) = not (first == 45)

-- one file or more
abbrev pub are_file_words : List (List ℕ) → Bool
are_file_words words = nat_lt 0 (length words) && list_all is_file_word words

-- a word that names a concept
abbrev pub is_name_word : List ℕ → Bool
is_name_word word = is_some (split word)

-- a word that begins with `+` or `-`
abbrev pub is_signed : List ℕ → Bool
is_signed [] = false
is_signed (sign ∷ name) = (sign == 43) || (sign == 45)

-- the name of a contributor, without its sign
abbrev pub name_of : List ℕ → List ℕ
name_of term = if is_signed term then drop 1 term else []

-- a word that names a contributor: a sign, and a name
abbrev pub is_term_word : List ℕ → Bool
is_term_word term = is_signed term && is_name_word (name_of term)

-- one contributor or more
abbrev pub are_terms : List (List ℕ) → Bool
are_terms terms = nat_lt 0 (length terms) && list_all is_term_word terms

-- a contributor that is taken away
abbrev pub is_negative : List ℕ → Bool
is_negative [] = false
is_negative (sign ∷ name) = sign == 45

-- the mode that a word names
abbrev pub mode_of : List ℕ → Option Mode
mode_of word = if bytes_eq word (codes "rounding") then Some Rounding else if bytes_eq word (codes "truncation") then Some Truncation else None

-- the words of `sum` behind that of the mode
abbrev pub is_sum : List ℕ → List ℕ → List (List ℕ) → Bool
is_sum report total terms = is_file_word report && is_name_word total && are_terms terms

-- these words of `sum`, in this mode
abbrev pub make_sum : List ℕ → List ℕ → List (List ℕ) → Mode → SumWords
make_sum report total terms mode = record { mode = mode; report = report; total = total; terms = terms }

-- what the words behind `sum` name
abbrev pub sum_of : List (List ℕ) → Option SumWords
sum_of (mode ∷ report ∷ total ∷ terms) = if is_sum report total terms then option_map (make_sum report total terms) (mode_of mode) else None
sum_of _ = None

-- these words of `check`, in this mode
abbrev pub make_check : ArcKind → List ℕ → List (List ℕ) → Mode → CheckWords
make_check kind report documents mode = record { kind = kind; mode = mode; report = report; documents = documents }

-- what the words behind `check` name, without the one that chooses the arcs
abbrev pub check_of_kind : ArcKind → List (List ℕ) → Option CheckWords
check_of_kind kind (mode ∷ report ∷ documents) = if is_file_word report && are_file_words documents then option_map (make_check kind report documents) (mode_of mode) else None
check_of_kind kind _ = None

-- which arcs count, and the words behind the one that chooses them: `--old-arcs` stands only first
abbrev pub arcs_chosen : List (List ℕ) → ArcKind × List (List ℕ)
arcs_chosen [] = (New, [])
arcs_chosen (word ∷ words) = if bytes_eq word (codes "--old-arcs") then (Old, words) else (New, word ∷ words)

-- what the words behind `check` name
abbrev pub check_of : List (List ℕ) → Option CheckWords
check_of words = check_of_kind (arcs_chosen words).0 (arcs_chosen words).1

-- this certificate, judged over these words of `check`
abbrev pub make_verify : List ℕ → CheckWords → VerifyWords
make_verify certificate over = record { certificate = certificate; over = over }

-- what the words behind `verify` name, without the one that chooses the arcs: those of `check`, with the certificate behind the mode
abbrev pub verify_of_kind : ArcKind → List (List ℕ) → Option VerifyWords
verify_of_kind kind (mode ∷ certificate ∷ words) = if is_file_word certificate then option_map (make_verify certificate) (check_of_kind kind (mode ∷ words)) else None
verify_of_kind kind _ = None

-- what the words behind `verify` name
abbrev pub verify_of : List (List ℕ) → Option VerifyWords
verify_of words = verify_of_kind (arcs_chosen words).0 (arcs_chosen words).1

-- decimal digits, of which the first is not 0
abbrev pub is_numeral : List ℕ → Bool
is_numeral [] = false
is_numeral (first ∷ rest) = not (first == 48) && list_all is_ascii_digit (first ∷ rest)

-- a sample has from 2 to 100,000 nodes
abbrev pub is_size : ℕ → Bool
is_size n = nat_le 2 n && nat_le n 100000

-- this number of nodes, where a sample may have so many
abbrev pub size : ℕ → Option ℕ
size n = if is_size n then Some n else None

-- the number of nodes that a word spells
abbrev pub size_of : List ℕ → Option ℕ
size_of word = if is_numeral word then size (number_of word) else None

-- what the words behind `sample` name
abbrev pub sample_of : List (List ℕ) → Option ℕ
sample_of (word ∷ []) = size_of word
sample_of _ = None

-- what these words ask for, where they are accepted
abbrev pub words_of : List (List ℕ) → Option CommandWords
words_of [] = None
words_of (command ∷ words) =
    if bytes_eq command (codes "sum") then option_map SumOf (sum_of words)
    else if bytes_eq command (codes "check") then option_map CheckOf (check_of words)
    else if bytes_eq command (codes "verify") then option_map VerifyOf (verify_of words)
    else if bytes_eq command (codes "sample") then option_map SampleOf (sample_of words)
    else None

-- the files that are read, in the order in which they are fetched: the certificate, the report, and then the documents; `sample` reads none
abbrev pub file_words : CommandWords → List (List ℕ)
file_words (SumOf sum) = sum.report ∷ []
file_words (CheckOf check) = check.report ∷ check.documents
file_words (VerifyOf verify) = verify.certificate ∷ verify.over.report ∷ verify.over.documents
file_words (SampleOf n) = []

-- the files that words name; words that are not accepted name none
abbrev pub files_named : Option CommandWords → List (List ℕ)
files_named None = []
files_named (Some command) = file_words command

-- the bytes of each word
abbrev pub texts : List (String Global) → List (List ℕ)
texts words = map (λ word. string_bytes word) words
