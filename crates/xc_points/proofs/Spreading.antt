-- The numbers of the facts that belong together, while facts are spread over them.
use Rattle.std.proofs.Common.{◌≡◌, ◌≢◌, ℕ, ◌+◌, ◌<◌, ◌==◌, List, [], ◌∷◌, ◌++◌, Bool, true, false, length, map, drop, get_or, set, if◌then◌else◌, arith, refl, sym, ap, subst, ◌∙◌, append_assoc, append-nil}
use Rattle.std.proofs.lemmas.Bool.Decides.{nat_tests}
use Rattle.std.proofs.lemmas.Grind.{get_or-set_at}
use Rattle.std.proofs.lemmas.List.{drop_more, get_or-set_other, get_or_default, get_or-map, length-set, length-map}
use Rattle.std.proofs.lemmas.List.FromFn.{fill_by_all}
use Rattle.xc_points.specs.Steps.Members.{members_from, members_by}

-- of the first i facts each stands with its first
pub record AreSpread (firsts : List ℕ) (i : ℕ) (members : List (List ℕ)) : Type 0 where
  pub long : length members ≡ length firsts
  pub grown : (f : ℕ) (d : List ℕ) → f < length firsts → get_or members f d ++ members_from f i (drop i firsts) ≡ members_from f 0 firsts

-- no numbers, for any fact
abbrev pub no_members : ℕ → List ℕ
no_members f = []

-- none so far for the first i facts: with one for each that is left, none for all
abbrev pub AreNone : List ℕ → ℕ → List (List ℕ) → Type 0
AreNone firsts i none = none ++ map no_members (drop i firsts) ≡ map no_members firsts

pub more_none : (firsts : List ℕ) (i : ℕ) (none : List (List ℕ)) (m : List ℕ) → i < length firsts → m ≡ [] → AreNone firsts i none → AreNone firsts (i + 1) (none ++ m ∷ [])
more_none firsts i none m within empty so_far =
    append_assoc none (m ∷ []) (map no_members (drop (i + 1) firsts))
    ∙ ap (λ m. none ++ m ∷ map no_members (drop (i + 1) firsts)) empty
    ∙ ap (λ l. none ++ map no_members l) (sym (drop_more firsts i 0 within))
    ∙ so_far

-- with no numbers, none of the facts does
pub none_spread : (firsts : List ℕ) (members : List (List ℕ)) → members ≡ map no_members firsts → AreSpread firsts 0 members
none_spread firsts members none = record {
  long = ap length none ∙ length-map firsts no_members;
  grown = λ f d h. ap (λ l. get_or l f d ++ members_from f 0 firsts) none ∙ ap (λ l. l ++ members_from f 0 firsts) (get_or-map no_members firsts f 0 d h);
}

equal_numbers : (first f : ℕ) → (first == f) ≡ true → f ≡ first
equal_numbers first f e = grind (arith, nat_tests)

other_number : (first f : ℕ) → (first == f) ≡ false → f ≢ first
other_number first f e = λ same. grind (arith, nat_tests)

module _ (members : List (List ℕ)) (first i : ℕ) (here pushed rest : List ℕ) (inside : first < length members) (is : here ≡ get_or members first here) (grows : pushed ≡ here ++ i ∷ []) where
  -- the numbers so far and those of the facts that are left, after one step and before it
  one_spread : (f : ℕ) (d : List ℕ) (b : Bool) → (first == f) ≡ b
      → get_or (set members first pushed) f d ++ members_from f (i + 1) rest ≡ get_or members f d ++ (if b then i ∷ members_from f (i + 1) rest else members_from f (i + 1) rest)
  one_spread f d true e =
      let same = equal_numbers first f e in
      let before : here ≡ get_or members f d = is ∙ get_or_default members first here d inside ∙ ap (λ n. get_or members n d) (sym same) in
      ap (λ l. l ++ members_from f (i + 1) rest) (get_or-set_at members first f pushed d same inside ∙ grows ∙ ap (λ l. l ++ i ∷ []) before)
      ∙ append_assoc (get_or members f d) (i ∷ []) (members_from f (i + 1) rest)
  one_spread f d false e = ap (λ l. l ++ members_from f (i + 1) rest) (get_or-set_other members first f pushed d (other_number first f e))

-- one more fact is put with its first
pub more_spread : (firsts : List ℕ) (i : ℕ) (members : List (List ℕ)) (here pushed : List ℕ) → i < length firsts → get_or firsts i 0 < length firsts
    → here ≡ get_or members (get_or firsts i 0) here → pushed ≡ here ++ i ∷ [] → AreSpread firsts i members → AreSpread firsts (i + 1) (set members (get_or firsts i 0) pushed)
more_spread firsts i members here pushed within inside is grows spread =
    let first = get_or firsts i 0 in
    let rest = drop (i + 1) firsts in
    record {
      long = length-set members first pushed ∙ spread.long;
      grown = λ f d h.
          one_spread members first i here pushed rest (subst (λ n. first < n) (sym spread.long) inside) is grows f d (first == f) refl
          ∙ ap (λ l. get_or members f d ++ members_from f i l) (sym (drop_more firsts i 0 within))
          ∙ spread.grown f d h;
    }

-- at the end each stands with its first
pub all_spread : (firsts : List ℕ) (i : ℕ) (members : List (List ℕ)) → drop i firsts ≡ [] → AreSpread firsts i members → members ≡ members_by firsts
all_spread firsts i members none spread =
    fill_by_all (λ f. members_from f 0 firsts) members (length firsts) [] spread.long
    (λ f h. sym (append-nil (get_or members f [])) ∙ sym (ap (λ l. get_or members f [] ++ members_from f i l) none) ∙ spread.grown f [] h)
