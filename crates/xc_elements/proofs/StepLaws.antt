-- What a front finds where its first character is known.
use Rattle.std.proofs.Common.{◌≡◌, ℕ, Bool, true, List, [], Option, Some, None, refl, sym, ap, ◌∙◌}
use Rattle.std.specs.Prelude.{IsSome, option_map}
use Rattle.std.specs.Option.{option_map_or}
use Rattle.xc_chars.specs.Characters.{is_name_start, is_name_char}
use Rattle.xc_elements.specs.Fronts.{go_on, followed_by, give, one, by_next, run, sequence, ending}
use Rattle.xc_elements.specs.Items.{Pair, plain_name, character_or_end, value_until, tag_rest}
use Rattle.xc_elements.specs.Steps.Views.{value_at, attributes_at}
use Rattle.xc_elements.proofs.FrontLaws.{found, same_answer}

pub plain_begins : (text rest : List ℕ) (c : ℕ) → found c rest ≡ one text → is_name_start c ≡ true → run is_name_char text ≡ plain_name text
unfolding plain_name by_next
plain_begins text rest c e h = rw (← e, h) refl

value_found : (mark : ℕ) (text rest : List ℕ) (o : Option ((List ℕ × Unit {0}) × List ℕ)) → found tt rest ≡ option_map ending o → go_on o (λ x. give x.0) ≡ Some (option_map_or (λ x. x.0) (go_on o (λ x. give x.0)) [], rest)
unfolding give
value_found mark text rest None e = absurd cc
value_found mark text rest (Some x) e = let same = same_answer tt x.0.1 rest x.1 e in ap (λ (r : List ℕ). Some (x.0.0, r)) (sym same.1)

-- what an attribute's value is, where its end has been found
pub value_ended : (mark : ℕ) (text rest : List ℕ) → found tt rest ≡ option_map ending (sequence (character_or_end mark) text) → value_until mark text ≡ Some (value_at mark text, rest)
unfolding value_until followed_by
value_ended mark text rest e = value_found mark text rest (sequence (character_or_end mark) text) e

pub value_readable : (mark : ℕ) (text rest : List ℕ) → found tt rest ≡ option_map ending (sequence (character_or_end mark) text) → IsSome (value_until mark text)
value_readable mark text rest e = rw (value_ended mark text rest e) refl

value_lost : (o : Option ((List ℕ × Unit {0}) × List ℕ)) → None ≡ option_map ending o → go_on o (λ x. give x.0) ≡ None
unfolding give
value_lost None e = refl
value_lost (Some x) e = absurd cc

pub value_endless : (mark : ℕ) (text : List ℕ) → None ≡ option_map ending (sequence (character_or_end mark) text) → value_until mark text ≡ None
unfolding value_until followed_by
value_endless mark text e = value_lost (sequence (character_or_end mark) text) e

body_found : (is_empty : Bool) (rest : List ℕ) (o : Option ((List Pair × Bool) × List ℕ)) → found is_empty rest ≡ option_map ending o → o ≡ Some ((option_map_or (λ x. x.0.0) o [], is_empty), rest)
body_found is_empty rest None e = absurd cc
body_found is_empty rest (Some x) e =
    let same = same_answer is_empty x.0.1 rest x.1 e in
    ap (λ (b : Bool). Some ((x.0.0, b), x.1)) (sym same.0) ∙ ap (λ (r : List ℕ). Some ((x.0.0, is_empty), r)) (sym same.1)

-- what the rest of a tag is, where its end has been found
pub tag_ended : (text rest : List ℕ) (is_empty : Bool) → found is_empty rest ≡ option_map ending (tag_rest text) → tag_rest text ≡ Some ((attributes_at text, is_empty), rest)
tag_ended text rest is_empty e = body_found is_empty rest (tag_rest text) e
