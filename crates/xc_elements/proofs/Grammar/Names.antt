-- Names and white space at the front of a text are the longest ones.
use Rattle.std.proofs.Common.{◌≡◌, ℕ, Bool, true, false, cond, List, [], ◌∷◌, ◌++◌, Some, refl, sym, ap, ◌∙◌, subst, inl, inr, append_assoc, eqb-true}
use Rattle.std.specs.Prelude.{codes, option_map, ◌==◌, ◌||◌}
use Rattle.std.proofs.lemmas.Bool.{or_cases}
use Rattle.xc_chars.specs.Characters.{is_space, is_name_start, is_name_char}
use Rattle.xc_elements.specs.Fronts.{followed_by, ◌>>=◌, give, refuse, one, by_next, past, put_before, run}
use Rattle.xc_elements.specs.Items.{Name, prefixed_name, unprefixed_name, plain_name, qualified_name}
use Rattle.xc_elements.specs.Grammar.Words.{Each, AreSpaces, IsPlainName, IsName}
use Rattle.xc_elements.proofs.FrontLaws.{split, chosen, mapped, same_answer}
use Rattle.xc_elements.proofs.Grammar.Shapes.{chosen_front}

-- a character stands there that fails the test
abbrev pub Stops : (ℕ → Bool) → List ℕ → Type 0
Stops test [] = ⊥
Stops test (c ∷ cs) = test c ≡ false

-- the text is the longest front whose characters pass the test, and the rest
pub record IsRun (test : ℕ → Bool) (text body rest : List ℕ) : Type 0 where
  pub whole : text ≡ body ++ rest
  pub each : Each test body
  pub stops : Stops test rest

run_more : (test : ℕ → Bool) (c : ℕ) (cs body rest : List ℕ) → test c ≡ true → IsRun test cs body rest → IsRun test (c ∷ cs) (c ∷ body) rest
run_more test c cs body rest on t = record { whole = ap (λ (z : List ℕ). c ∷ z) t.whole; each = (on, t.each); stops = t.stops }

pub run_read : (test : ℕ → Bool) (text body rest : List ℕ) → run test text ≡ Some (body, rest) → IsRun test text body rest
unfolding run
run_read test [] body rest e = absurd cc
run_read test (c ∷ cs) body rest e =
    elim (chosen (test c) (option_map (put_before c) (run test cs)) (Some ([], c ∷ cs)) (Some (body, rest)) e) [
      | inl h ↦
          let m = mapped (put_before c) (run test cs) (body, rest) h.1 in
          let x = m.0 in
          subst (λ (y : List ℕ × List ℕ). IsRun test (c ∷ cs) y.0 y.1) m.2 (run_more test c cs x.0 x.1 h.0 (run_read test cs x.0 x.1 m.1))
      | inr h ↦ run_none h.0 (same_answer [] body (c ∷ cs) rest h.1)
    ]
  where
    run_none : test c ≡ false → ([] ≡ body) × ((c ∷ cs) ≡ rest) → IsRun test (c ∷ cs) body rest
    run_none off same = subst (λ (z : List ℕ). IsRun test (c ∷ cs) z rest) same.0 (subst (λ (z : List ℕ). IsRun test (c ∷ cs) [] z) same.1 (record { whole = refl; each = tt; stops = off }))

pub run_spelled : (test : ℕ → Bool) (body rest : List ℕ) → Each test body → Stops test rest → run test (body ++ rest) ≡ Some (body, rest)
unfolding run
run_spelled test [] [] each stops = absurd stops
run_spelled test [] (c ∷ cs) each stops = rw stops refl
run_spelled test (c ∷ cs) rest each stops = rw (each.0, run_spelled test cs rest each.1 stops) refl

pub start_is_char : (c : ℕ) → is_name_start c ≡ true → is_name_char c ≡ true
unfolding is_name_char
start_is_char c h = rw h refl

named_chars : (name : List ℕ) → IsPlainName name → Each is_name_char name
named_chars [] h = absurd h
named_chars (c ∷ cs) h = (start_is_char c h.0, h.1)

pub record PlainRead (text name rest : List ℕ) : Type 0 where
  pub whole : text ≡ name ++ rest
  pub plain : IsPlainName name
  pub stops : Stops is_name_char rest

plain_from_run : (c : ℕ) (cs name rest : List ℕ) → is_name_start c ≡ true → IsRun is_name_char (c ∷ cs) name rest → PlainRead (c ∷ cs) name rest
plain_from_run c cs [] rest h t = absurd (by_rest rest t.whole t.stops)
  where
    by_rest : (rest : List ℕ) → (c ∷ cs) ≡ rest → Stops is_name_char rest → ⊥
    by_rest [] e stops = stops
    by_rest (d ∷ ds) e stops = let same : c ≡ d = cc in let on = start_is_char c h in cc
plain_from_run c cs (d ∷ ds) rest h t = record { whole = t.whole; plain = (rw (← same) h, t.each.1); stops = t.stops }
  where
    same : c ≡ d
    same = let e = t.whole in cc

pub plain_name_read : (text name rest : List ℕ) → plain_name text ≡ Some (name, rest) → PlainRead text name rest
unfolding plain_name by_next one refuse
plain_name_read [] name rest e = absurd cc
plain_name_read (c ∷ cs) name rest e =
    elim (chosen_front (is_name_start c) (run is_name_char) refuse (c ∷ cs) (Some (name, rest)) e) [
      | inl h ↦ plain_from_run c cs name rest h.0 (run_read is_name_char (c ∷ cs) name rest h.1)
      | inr h ↦ absurd (let no = h.1 in cc)
    ]

pub plain_name_spelled : (name rest : List ℕ) → IsPlainName name → Stops is_name_char rest → plain_name (name ++ rest) ≡ Some (name, rest)
unfolding plain_name by_next one
plain_name_spelled [] rest h stops = absurd h
plain_name_spelled (c ∷ cs) rest h stops = rw h.0 (run_spelled is_name_char (c ∷ cs) rest (named_chars (c ∷ cs) h) stops)

-- ---- names with a prefix or without

abbrev pub is_colon : ℕ → Bool
is_colon c = c == 58

pub record NameRead (text : List ℕ) (name : Name) (rest : List ℕ) : Type 0 where
  pub written : List ℕ
  pub whole : text ≡ written ++ rest
  pub named : IsName written name

unprefixed_read : (text first after : List ℕ) → PlainRead text first after → NameRead text (unprefixed_name first) after
unprefixed_read text first after t = record { written = first; whole = t.whole; named = inl (record { bare = refl; whole = refl; local = t.plain }) }

prefixed_read : (text first after local rest : List ℕ) → PlainRead text first (codes ":" ++ after) → PlainRead after local rest → NameRead text (prefixed_name first local) rest
prefixed_read text first after local rest t u = record {
  written = first ++ (codes ":" ++ local);
  whole = t.whole ∙ ap (λ (z : List ℕ). first ++ (codes ":" ++ z)) u.whole ∙ sym (append_assoc first (codes ":" ++ local) rest);
  named = inr (record { whole = refl; prefix = t.plain; local = u.plain });
}

behind_name : (text first after : List ℕ) (name : Name) (rest : List ℕ) → PlainRead text first after → by_next (λ c. cond (c == 58) (past (plain_name >>= λ local. give (prefixed_name first local))) (give (unprefixed_name first))) after ≡ Some (name, rest) → NameRead text name rest
unfolding by_next one followed_by give
behind_name text first [] name rest t e = absurd cc
behind_name text first (c ∷ cs) name rest t e =
    elim (chosen_front (c == 58) (past (plain_name >>= λ local. give (prefixed_name first local))) (give (unprefixed_name first)) (c ∷ cs) (Some (name, rest)) e) [
      | inl h ↦
          let s = split (plain_name cs) (λ local. give (prefixed_name first local)) (name, rest) h.1 in
          let same = same_answer (prefixed_name first s.0.0) name s.0.1 rest s.2 in
          let front = subst (λ (d : ℕ). PlainRead text first (d ∷ cs)) (eqb-true c 58 h.0) t in
          let found = prefixed_read text first cs s.0.0 s.0.1 front (plain_name_read cs s.0.0 s.0.1 s.1) in
          name_is text (prefixed_name first s.0.0) name s.0.1 rest same found
      | inr h ↦ let same = same_answer (unprefixed_name first) name (c ∷ cs) rest h.1 in name_is text (unprefixed_name first) name (c ∷ cs) rest same (unprefixed_read text first (c ∷ cs) t)
    ]
  where
    name_is : (text : List ℕ) (a b : Name) (r s : List ℕ) → (a ≡ b) × (r ≡ s) → NameRead text a r → NameRead text b s
    name_is text a b r s same h = subst (λ (z : List ℕ). NameRead text b z) same.1 (subst (λ (n : Name). NameRead text n r) same.0 h)

pub qualified_name_read : (text : List ℕ) (name : Name) (rest : List ℕ) → qualified_name text ≡ Some (name, rest) → NameRead text name rest
unfolding qualified_name followed_by
qualified_name_read text name rest e =
    let s = split (plain_name text) (λ first. by_next (λ c. cond (c == 58) (past (plain_name >>= λ local. give (prefixed_name first local))) (give (unprefixed_name first)))) (name, rest) e in
    behind_name text s.0.0 s.0.1 name rest (plain_name_read text s.0.0 s.0.1 s.1) s.2

-- a character stands there that goes on with no name
abbrev pub EndsName : List ℕ → Type 0
EndsName rest = Stops is_name_char rest × Stops is_colon rest

unprefixed_spelled : (first rest : List ℕ) → IsPlainName first → EndsName rest → qualified_name (first ++ rest) ≡ Some (unprefixed_name first, rest)
unfolding qualified_name followed_by by_next one give
unprefixed_spelled first [] h ends = absurd ends.0
unprefixed_spelled first (c ∷ cs) h ends = rw (plain_name_spelled first (c ∷ cs) h ends.0, ends.1) refl

colon_stops : is_name_char 58 ≡ false
unfolding is_name_char is_name_start
colon_stops = refl

prefixed_spelled : (first local rest : List ℕ) → IsPlainName first → IsPlainName local → EndsName rest → qualified_name (first ++ (58 ∷ (local ++ rest))) ≡ Some (prefixed_name first local, rest)
unfolding qualified_name followed_by by_next one give
prefixed_spelled first local rest h k ends = rw (plain_name_spelled first (58 ∷ (local ++ rest)) h colon_stops, plain_name_spelled local rest k ends.0) refl

pub qualified_name_spelled : (written : List ℕ) (name : Name) (rest : List ℕ) → IsName written name → EndsName rest → qualified_name (written ++ rest) ≡ Some (name, rest)
qualified_name_spelled written name rest (inl h) ends =
    let same : unprefixed_name name.local ≡ name = (λ i. record { prefix = sym h.bare i; local = name.local }) in
    ap (λ (z : List ℕ). qualified_name (z ++ rest)) h.whole ∙ unprefixed_spelled name.local rest h.local ends ∙ ap (λ (n : Name). Some (n, rest)) same
qualified_name_spelled written name rest (inr h) ends =
    ap (λ (z : List ℕ). qualified_name (z ++ rest)) h.whole
    ∙ ap qualified_name (append_assoc name.prefix (58 ∷ name.local) rest)
    ∙ prefixed_spelled name.prefix name.local rest h.prefix h.local ends

-- ---- white space

-- what holds of each character of white space
pub by_space : (P : ℕ → Type 0) → P 32 → P 9 → P 10 → P 13 → (c : ℕ) → is_space c ≡ true → P c
by_space P a b d e c h =
    elim (or_cases (c == 32 || c == 9 || c == 10) (c == 13) h) [
      | inl g ↦
          elim (or_cases (c == 32 || c == 9) (c == 10) g) [
            | inl f ↦
                elim (or_cases (c == 32) (c == 9) f) [
                  | inl k ↦ subst P (sym (eqb-true c 32 k)) a
                  | inr k ↦ subst P (sym (eqb-true c 9 k)) b
                ]
            | inr f ↦ subst P (sym (eqb-true c 10 f)) d
          ]
      | inr g ↦ subst P (sym (eqb-true c 13 g)) e
    ]

pub space_ends_name : (c : ℕ) (cs : List ℕ) → is_space c ≡ true → EndsName (c ∷ cs)
unfolding is_name_char is_name_start
space_ends_name c cs h = by_space (λ d. EndsName (d ∷ cs)) (refl, refl) (refl, refl) (refl, refl) (refl, refl) c h

pub spaces_end_name : (spaces rest : List ℕ) → AreSpaces spaces → EndsName rest → EndsName (spaces ++ rest)
spaces_end_name [] rest h ends = ends
spaces_end_name (c ∷ cs) rest h ends = space_ends_name c (cs ++ rest) h.0
