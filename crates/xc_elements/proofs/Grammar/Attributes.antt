-- An attribute is read exactly where the text begins with one.
use Rattle.std.proofs.Common.{◌≡◌, ℕ, true, List, [], ◌∷◌, ◌++◌, Some, refl, ap, ◌∙◌, subst, inl, inr, eqb-true}
use Rattle.std.specs.Prelude.{codes, ◌↔◌, ◌==◌, ◌||◌}
use Rattle.std.proofs.lemmas.Bool.{or_cases}
use Rattle.xc_chars.specs.Characters.{is_space, is_name_start, is_name_char}
use Rattle.xc_elements.specs.Fronts.{go_on, followed_by, ◌>>=◌, ◌>>◌, give, refuse, one, exactly, run}
use Rattle.xc_elements.specs.Items.{Name, Pair, qualified_name, equals_sign, quote, value_until, attribute}
use Rattle.xc_elements.specs.Grammar.Words.{AreSpaces}
use Rattle.xc_elements.specs.Grammar.Values.{IsQuote, IsValue}
use Rattle.xc_elements.specs.Grammar.Attributes.{IsAttribute}
use Rattle.xc_elements.proofs.FrontLaws.{split, same_answer, exactly_whole}
use Rattle.xc_elements.proofs.Grammar.Names.{Stops, IsRun, run_read, run_spelled, NameRead, EndsName, qualified_name_read, qualified_name_spelled, spaces_end_name}
use Rattle.xc_elements.proofs.Grammar.Shapes.{chosen_front}
use Rattle.xc_elements.proofs.Grammar.Values.{value_holds}

-- an equals sign with white space or none around it
pub record IsEquals (text after : List ℕ) : Type 0 where
  pub before : List ℕ
  pub behind : List ℕ
  pub whole : text ≡ before ++ (codes "=" ++ (behind ++ after))
  pub white_before : AreSpaces before
  pub white_behind : AreSpaces behind

equals_runs : (text before middle behind after rest : List ℕ) → IsRun is_space text before middle → middle ≡ codes "=" ++ after → IsRun is_space after behind rest → IsEquals text rest
equals_runs text before middle behind after rest t e u = record {
  before = before;
  behind = behind;
  whole = t.whole ∙ ap (λ (z : List ℕ). before ++ z) (e ∙ ap (λ (z : List ℕ). codes "=" ++ z) u.whole);
  white_before = t.each;
  white_behind = u.each;
}

pub equals_read : (text : List ℕ) (u : Unit {0}) (rest : List ℕ) → equals_sign text ≡ Some (u, rest) → IsEquals text rest
unfolding equals_sign followed_by give
equals_read text u rest e =
    let three = split (go_on (go_on (run is_space text) (λ _. exactly (codes "="))) (λ _. run is_space)) (λ _. give tt) (u, rest) e in
    let two = split (go_on (run is_space text) (λ _. exactly (codes "="))) (λ _. run is_space) three.0 three.1 in
    let first = split (run is_space text) (λ _. exactly (codes "=")) two.0 two.1 in
    let same = same_answer tt u three.0.1 rest three.2 in
    let last = subst (λ (z : List ℕ). IsRun is_space two.0.1 three.0.0 z) same.1 (run_read is_space two.0.1 three.0.0 three.0.1 two.2) in
    equals_runs text first.0.0 first.0.1 three.0.0 two.0.1 rest (run_read is_space text first.0.0 first.0.1 first.1) (exactly_whole (codes "=") first.0.1 two.0.0 two.0.1 first.2) last

pub equals_spelled : (before behind rest : List ℕ) → AreSpaces before → AreSpaces behind → Stops is_space rest → equals_sign (before ++ (61 ∷ (behind ++ rest))) ≡ Some (tt, rest)
unfolding equals_sign followed_by give exactly
equals_spelled before behind rest a b stops = rw (run_spelled is_space before (61 ∷ (behind ++ rest)) a refl, run_spelled is_space behind rest b stops) refl

-- ---- quotes

pub record QuoteRead (text : List ℕ) (mark : ℕ) (rest : List ℕ) : Type 0 where
  pub whole : text ≡ mark ∷ rest
  pub quote : IsQuote mark

which_quote : (c : ℕ) → (c == 34 || c == 39) ≡ true → IsQuote c
which_quote c h =
    elim (or_cases (c == 34) (c == 39) h) [
      | inl k ↦ inl (eqb-true c 34 k)
      | inr k ↦ inr (eqb-true c 39 k)
    ]

quote_is : (c d : ℕ) (cs rest : List ℕ) → IsQuote c → (c ≡ d) × (cs ≡ rest) → QuoteRead (c ∷ cs) d rest
quote_is c d cs rest q same = record { whole = (λ i. same.0 i ∷ same.1 i); quote = subst IsQuote same.0 q }

pub quote_read : (text : List ℕ) (mark : ℕ) (rest : List ℕ) → quote text ≡ Some (mark, rest) → QuoteRead text mark rest
unfolding quote followed_by one give refuse
quote_read [] mark rest e = absurd cc
quote_read (c ∷ cs) mark rest e =
    elim (chosen_front (c == 34 || c == 39) (give c) refuse cs (Some (mark, rest)) e) [
      | inl h ↦ quote_is c mark cs rest (which_quote c h.0) (same_answer c mark cs rest h.1)
      | inr h ↦ absurd (let none = h.1 in cc)
    ]

pub quote_spelled : (mark : ℕ) (rest : List ℕ) → IsQuote mark → quote (mark ∷ rest) ≡ Some (mark, rest)
unfolding quote followed_by one give
quote_spelled mark rest (inl q) = rw q refl
quote_spelled mark rest (inr q) = rw q refl

pub quote_stops : (mark : ℕ) (rest : List ℕ) → IsQuote mark → Stops is_space (mark ∷ rest)
quote_stops mark rest (inl q) = ap is_space q
quote_stops mark rest (inr q) = ap is_space q

-- ---- attributes

attribute_parts : (text after quoted : List ℕ) (pair : Pair) (marked : List ℕ) (mark : ℕ) (rest : List ℕ) → NameRead text pair.name after → IsEquals after marked → QuoteRead marked mark quoted → IsValue mark quoted pair.value rest → IsAttribute text pair rest
attribute_parts text after quoted pair marked mark rest n e q v = record {
  written = n.written;
  before = e.before;
  behind = e.behind;
  mark = mark;
  quoted = quoted;
  whole = n.whole ∙ ap (λ (z : List ℕ). n.written ++ z) (e.whole ∙ ap (λ (z : List ℕ). e.before ++ (61 ∷ (e.behind ++ z))) q.whole);
  named = n.named;
  white_before = e.white_before;
  white_behind = e.white_behind;
  quote = q.quote;
  value = v;
}

abbrev pub pair_of : Name → List ℕ → Pair
pair_of name value = record { name = name; value = value }

attribute_is : (text : List ℕ) (p q : Pair) (r s : List ℕ) → (p ≡ q) × (r ≡ s) → IsAttribute text p r → IsAttribute text q s
attribute_is text p q r s same h = subst (λ (z : List ℕ). IsAttribute text q z) same.1 (subst (λ (n : Pair). IsAttribute text n r) same.0 h)

attribute_read : (text : List ℕ) (pair : Pair) (rest : List ℕ) → attribute text ≡ Some (pair, rest) → IsAttribute text pair rest
unfolding attribute followed_by give
attribute_read text pair rest e =
    let n = split (qualified_name text) (λ name. equals_sign >> (quote >>= λ mark. value_until mark >>= λ value. give (pair_of name value))) (pair, rest) e in
    let s = split (equals_sign n.0.1) (λ _. quote >>= λ mark. value_until mark >>= λ value. give (pair_of n.0.0 value)) (pair, rest) n.2 in
    let q = split (quote s.0.1) (λ mark. value_until mark >>= λ value. give (pair_of n.0.0 value)) (pair, rest) s.2 in
    let v = split (value_until q.0.0 q.0.1) (λ value. give (pair_of n.0.0 value)) (pair, rest) q.2 in
    let same = same_answer (pair_of n.0.0 v.0.0) pair v.0.1 rest v.2 in
    let marked = quote_read s.0.1 q.0.0 q.0.1 q.1 in
    attribute_is text (pair_of n.0.0 v.0.0) pair v.0.1 rest same
    (attribute_parts text n.0.1 q.0.1 (pair_of n.0.0 v.0.0) s.0.1 q.0.0 v.0.1 (qualified_name_read text n.0.0 n.0.1 n.1) (equals_read n.0.1 s.0.0 s.0.1 s.1) marked
    ((value_holds q.0.0 q.0.1 v.0.0 v.0.1 marked.quote).0 v.1))

equals_ends_name : (rest : List ℕ) → EndsName (61 ∷ rest)
unfolding is_name_char is_name_start
equals_ends_name rest = (refl, refl)

attribute_spelled : (text : List ℕ) (pair : Pair) (rest : List ℕ) → IsAttribute text pair rest → attribute text ≡ Some (pair, rest)
unfolding attribute followed_by give
attribute_spelled text pair rest h =
    rw (
      h.whole,
      qualified_name_spelled h.written pair.name (h.before ++ (61 ∷ (h.behind ++ (h.mark ∷ h.quoted)))) h.named (spaces_end_name h.before (61 ∷ (h.behind ++ (h.mark ∷ h.quoted))) h.white_before (equals_ends_name (h.behind ++ (h.mark ∷ h.quoted)))),
      equals_spelled h.before h.behind (h.mark ∷ h.quoted) h.white_before h.white_behind (quote_stops h.mark h.quoted h.quote),
      quote_spelled h.mark h.quoted h.quote,
      (value_holds h.mark h.quoted pair.value rest h.quote).1 h.value,
    ) refl

pub attribute_holds : (text : List ℕ) (pair : Pair) (rest : List ℕ) → (attribute text ≡ Some (pair, rest)) ↔ IsAttribute text pair rest
attribute_holds text pair rest = (attribute_read text pair rest, attribute_spelled text pair rest)
