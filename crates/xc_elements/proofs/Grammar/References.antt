-- An item is a reference exactly where the text begins with one.
use Rattle.std.proofs.Common.{◌≡◌, ℕ, ◌+◌, ◌*◌, ◌^◌, ◌<◌, ◌≤◌, Bool, true, false, cond, List, [], ◌∷◌, ◌++◌, length, Option, Some, None, refl, sym, ap, ◌∙◌, ◌⊎◌, subst, inl, inr, arith, add-mul, mul_assoc, add_assoc, pow-suc, eqb-true, ltb-true, ltb-false, zero-mul, le-leb, le-ltb, mul-one, mul_comm}
use native.Mathlib.Nat.{pow-zero}
use Rattle.std.specs.Prelude.{codes, ◌↔◌, ◌==◌, ◌&&◌, ◌||◌, not, nat_lt, nat_le}
use Rattle.std.proofs.lemmas.Bool.{false_from_ne_true, and_from, or_right, cases_Bool, and_parts, not-true}
use Rattle.std.specs.Char.{digit_value, is_digit}
use Rattle.xc_chars.specs.Characters.{is_character}
use Rattle.xc_elements.specs.Fronts.{followed_by, give, give_some, refuse, one, by_next, exactly, up_to}
use Rattle.xc_elements.specs.Items.{Reference, spells, character_from, character_numbered, character_by_mark, character_by_hash, referent, reference, item}
use Rattle.xc_elements.specs.Grammar.Words.{Each, AreCharacters}
use Rattle.xc_elements.specs.Grammar.References.{number_of, IsNumber, IsNumbered, IsNamed, StandsFor, LessThan, GreaterThan, Ampersand, Quotation, Apostrophe, Decimal, Hexadecimal, IsReference}
use Rattle.xc_elements.proofs.FrontLaws.{split, chosen, same_answer}
use Rattle.xc_elements.proofs.Grammar.Kinds.{as_reference}
use Rattle.xc_elements.proofs.Grammar.Marks.{first_mark, up_to_first}
use Rattle.xc_elements.proofs.Grammar.Shapes.{shape_of}
use Rattle.xc_elements.proofs.Grammar.Spelling.{spelled_is, each_at}

-- ---- digits

-- these digits go on with a number and write the number of this character
record GoesOnTo (base n : ℕ) (digits : List ℕ) (c : ℕ) : Type 0 where
  pub all : Each (λ d. is_digit d base) digits
  pub value : n * base ^ length digits + number_of base digits ≡ c
  pub legal : is_character c ≡ true

-- a digit more shifts the number by one place
shifted : (base n v p q : ℕ) → (n * base + v) * p + q ≡ n * (base * p) + (v * p + q)
shifted base n v p q = ap (λ x. x + q) (add-mul (n * base) v p ∙ ap (λ x. x + v * p) (mul_assoc n base p)) ∙ add_assoc (n * (base * p)) (v * p) q

digit_more : (base n d : ℕ) (ds : List ℕ) → (n * base + digit_value d) * base ^ length ds + number_of base ds ≡ n * base ^ length (d ∷ ds) + number_of base (d ∷ ds)
digit_more base n d ds = shifted base n (digit_value d) (base ^ length ds) (number_of base ds) ∙ ap (λ p. n * p + (digit_value d * base ^ length ds + number_of base ds)) (mul_comm base (base ^ length ds) ∙ sym (pow-suc base (length ds)))

no_digits : (base n : ℕ) → n * base ^ 0 + 0 ≡ n
no_digits base n = omega (arith, mul-one n, ap (λ p. n * p) (pow-zero base))

-- what digits are read as is what they write
digits_read : (base n : ℕ) (digits : List ℕ) (c : ℕ) → character_from base n digits ≡ Some c → GoesOnTo base n digits c
unfolding character_from
digits_read base n [] c e =
    elim (chosen (is_character n) (Some n) None (Some c) e) [
      | inl h ↦ let same : n ≡ c = (let is = h.1 in cc) in record { all = tt; value = no_digits base n ∙ same; legal = ap is_character (sym same) ∙ h.0 }
      | inr h ↦ absurd (let none = h.1 in cc)
    ]
digits_read base n (d ∷ ds) c e =
    elim (chosen (nat_lt (digit_value d) base) (character_from base (n * base + digit_value d) ds) None (Some c) e) [
      | inl h ↦
          let t = digits_read base (n * base + digit_value d) ds c h.1 in
          record { all = (h.0, t.all); value = sym (digit_more base n d ds) ∙ t.value; legal = t.legal }
      | inr h ↦ absurd (let none = h.1 in cc)
    ]

digits_spelled : (base n : ℕ) (digits : List ℕ) (c : ℕ) → GoesOnTo base n digits c → character_from base n digits ≡ Some c
unfolding character_from
digits_spelled base n [] c h =
    let same : n ≡ c = sym (no_digits base n) ∙ h.value in
    let good : is_character n ≡ true = ap is_character same ∙ h.legal in
    rw good (ap (λ x. Some x) same)
digits_spelled base n (d ∷ ds) c h =
    rw h.all.0 (digits_spelled base (n * base + digit_value d) ds c (record { all = h.all.1; value = digit_more base n d ds ∙ h.value; legal = h.legal }))

nothing_before : (base p q : ℕ) → 0 * p + q ≡ q
nothing_before base p q = omega (arith, zero-mul p)

number_read : (base : ℕ) (digits : List ℕ) (c : ℕ) → character_numbered base digits ≡ Some c → IsNumber base digits c
number_read base [] c e = absurd cc
number_read base (d ∷ ds) c e =
    let t = digits_read base 0 (d ∷ ds) c e in
    record { some = λ none. absurd (let empty = none in cc); all = t.all; value = sym (nothing_before base (base ^ length (d ∷ ds)) (number_of base (d ∷ ds))) ∙ t.value; legal = t.legal }

number_spelled : (base : ℕ) (digits : List ℕ) (c : ℕ) → IsNumber base digits c → character_numbered base digits ≡ Some c
number_spelled base [] c h = absurd (h.some refl)
number_spelled base (d ∷ ds) c h = digits_spelled base 0 (d ∷ ds) c (record { all = h.all; value = nothing_before base (base ^ length (d ∷ ds)) (number_of base (d ∷ ds)) ∙ h.value; legal = h.legal })

-- ---- what begins a number

mark_read : (text : List ℕ) (c : ℕ) → character_by_mark (one text) text ≡ Some c → IsNumbered (codes "#x") 16 (35 ∷ text) c ⊎ IsNumbered (codes "#") 10 (35 ∷ text) c
unfolding one
mark_read [] c e = absurd cc
mark_read (x ∷ xs) c e =
    elim (chosen (x == 120) (character_numbered 16 xs) (character_numbered 10 (x ∷ xs)) (Some c) e) [
      | inl h ↦ inl (record { digits = xs; whole = ap (λ (y : ℕ). 35 ∷ (y ∷ xs)) (eqb-true x 120 h.0); number = number_read 16 xs c h.1 })
      | inr h ↦ inr (record { digits = x ∷ xs; whole = refl; number = number_read 10 (x ∷ xs) c h.1 })
    ]

as_number : (text : List ℕ) (c : ℕ) → IsNumbered (codes "#x") 16 text c ⊎ IsNumbered (codes "#") 10 text c → StandsFor text c
as_number text c (inl h) = Hexadecimal h
as_number text c (inr h) = Decimal h

hash_read : (text : List ℕ) (c : ℕ) → character_by_hash (one text) ≡ Some c → StandsFor text c
unfolding one
hash_read [] c e = absurd cc
hash_read (x ∷ xs) c e =
    elim (chosen (x == 35) (character_by_mark (one xs) xs) None (Some c) e) [
      | inl h ↦ as_number (x ∷ xs) c (subst (λ (y : ℕ). IsNumbered (codes "#x") 16 (y ∷ xs) c ⊎ IsNumbered (codes "#") 10 (y ∷ xs) c) (sym (eqb-true x 35 h.0)) (mark_read xs c h.1))
      | inr h ↦ absurd (let none = h.1 in cc)
    ]

decimal_spelled : (digits : List ℕ) (c : ℕ) → IsNumber 10 digits c → character_by_mark (one digits) digits ≡ Some c
unfolding one
decimal_spelled [] c h = absurd (h.some refl)
decimal_spelled (x ∷ xs) c h = rw (no_mark x h.all.0) (number_spelled 10 (x ∷ xs) c h)
  where
    no_mark : (x : ℕ) → is_digit x 10 ≡ true → (x == 120) ≡ false
    no_mark x on = false_from_ne_true (x == 120) (λ same. let off = ap (λ (y : ℕ). is_digit y 10) (eqb-true x 120 same) in let false_is_true : false ≡ true = sym off ∙ on in absurd (let clash = false_is_true in cc))

-- ---- names and numbers

word_read : (word : List ℕ) (meant : ℕ) (name : List ℕ) (c : ℕ) → spells name word ≡ true → Some meant ≡ Some c → IsNamed word meant name c
word_read word meant name c on e = record { whole = spelled_is name word on; same = cc }

referent_read : (name : List ℕ) (c : ℕ) → referent name ≡ Some c → StandsFor name c
unfolding referent
referent_read name c e =
    elim (chosen (spells name (codes "lt")) (Some 60) (cond (spells name (codes "gt")) (Some 62) (cond (spells name (codes "amp")) (Some 38) (cond (spells name (codes "quot")) (Some 34) (cond (spells name (codes "apos")) (Some 39) (character_by_hash (one name)))))) (Some c) e) [
      | inl h ↦ LessThan (word_read (codes "lt") 60 name c h.0 h.1)
      | inr h ↦
          elim (chosen (spells name (codes "gt")) (Some 62) (cond (spells name (codes "amp")) (Some 38) (cond (spells name (codes "quot")) (Some 34) (cond (spells name (codes "apos")) (Some 39) (character_by_hash (one name))))) (Some c) h.1) [
            | inl h ↦ GreaterThan (word_read (codes "gt") 62 name c h.0 h.1)
            | inr h ↦
                elim (chosen (spells name (codes "amp")) (Some 38) (cond (spells name (codes "quot")) (Some 34) (cond (spells name (codes "apos")) (Some 39) (character_by_hash (one name)))) (Some c) h.1) [
                  | inl h ↦ Ampersand (word_read (codes "amp") 38 name c h.0 h.1)
                  | inr h ↦
                      elim (chosen (spells name (codes "quot")) (Some 34) (cond (spells name (codes "apos")) (Some 39) (character_by_hash (one name))) (Some c) h.1) [
                        | inl h ↦ Quotation (word_read (codes "quot") 34 name c h.0 h.1)
                        | inr h ↦
                            elim (chosen (spells name (codes "apos")) (Some 39) (character_by_hash (one name)) (Some c) h.1) [
                              | inl h ↦ Apostrophe (word_read (codes "apos") 39 name c h.0 h.1)
                              | inr h ↦ hash_read name c h.1
                            ]
                      ]
                ]
          ]
    ]

named_is : (word : List ℕ) (meant : ℕ) (name : List ℕ) (c : ℕ) → IsNamed word meant name c → referent word ≡ Some meant → referent name ≡ Some c
named_is word meant name c h e = ap referent h.whole ∙ e ∙ ap (λ x. Some x) (sym h.same)

referent_spelled : (name : List ℕ) (c : ℕ) → StandsFor name c → referent name ≡ Some c
unfolding referent one exactly
referent_spelled name c (LessThan h) = named_is (codes "lt") 60 name c h refl
referent_spelled name c (GreaterThan h) = named_is (codes "gt") 62 name c h refl
referent_spelled name c (Ampersand h) = named_is (codes "amp") 38 name c h refl
referent_spelled name c (Quotation h) = named_is (codes "quot") 34 name c h refl
referent_spelled name c (Apostrophe h) = named_is (codes "apos") 39 name c h refl
referent_spelled name c (Decimal h) = ap referent h.whole ∙ decimal_spelled h.digits c h.number
referent_spelled name c (Hexadecimal h) = ap referent h.whole ∙ number_spelled 16 h.digits c h.number

-- ---- up to the semicolon

-- a character that may stand before the semicolon
abbrev pub is_inner : ℕ → Bool
is_inner c = is_character c && not (c == 59)

-- what is no digit in any base counts 36
no_digit : (d base : ℕ) → base ≤ 16 → is_digit d base ≡ true → digit_value d ≡ 36 → ⊥
no_digit d base le h e = absurd (omega (arith, ltb-true (digit_value d) base h, e, le))

from_zero : (d base : ℕ) → base ≤ 16 → is_digit d base ≡ true → 48 ≤ d
from_zero d base le h =
    elim (cases_Bool (nat_lt d 48)) [
      | inl on ↦ absurd (no_digit d base le h (rw on refl))
      | inr off ↦ ltb-false d 48 off
    ]

beyond : (d : ℕ) → 123 ≤ d → digit_value d ≡ 36
beyond d le = rw (le-ltb d 48 (omega (arith, le)), le-ltb d 58 (omega (arith, le)), le-ltb d 65 (omega (arith, le)), le-ltb d 91 (omega (arith, le)), le-ltb d 97 (omega (arith, le)), le-ltb d 123 le) refl

to_z : (d base : ℕ) → base ≤ 16 → is_digit d base ≡ true → d < 123
to_z d base le h =
    elim (cases_Bool (nat_lt d 123)) [
      | inl on ↦ ltb-true d 123 on
      | inr off ↦ absurd (no_digit d base le h (beyond d (ltb-false d 123 off)))
    ]

printable : (c : ℕ) → 32 ≤ c → c ≤ 0xD7FF → is_character c ≡ true
unfolding is_character
printable c low high =
    let between = and_from (nat_le 0x20 c) (nat_le c 0xD7FF) (le-leb 0x20 c low) (le-leb c 0xD7FF high) in
    rw (or_right (c == 9 || c == 10 || c == 13) (nat_le 0x20 c && nat_le c 0xD7FF) between) refl

digit_inner : (d base : ℕ) → base ≤ 16 → is_digit d base ≡ true → is_inner d ≡ true
digit_inner d base le h =
    and_from (is_character d) (not (d == 59))
    (printable d (omega (arith, from_zero d base le h)) (omega (arith, to_z d base le h)))
    (ap not (false_from_ne_true (d == 59) (λ on. no_digit d base le h (ap digit_value (eqb-true d 59 on)))))

digits_inner : (base : ℕ) (digits : List ℕ) → base ≤ 16 → Each (λ d. is_digit d base) digits → Each is_inner digits
digits_inner base [] le h = tt
digits_inner base (d ∷ ds) le h = (digit_inner d base le h.0, digits_inner base ds le h.1)

stands_inner : (name : List ℕ) (c : ℕ) → StandsFor name c → Each is_inner name
unfolding is_character
stands_inner name c (LessThan h) = subst (λ (z : List ℕ). Each is_inner z) (sym h.whole) (refl, (refl, tt))
stands_inner name c (GreaterThan h) = subst (λ (z : List ℕ). Each is_inner z) (sym h.whole) (refl, (refl, tt))
stands_inner name c (Ampersand h) = subst (λ (z : List ℕ). Each is_inner z) (sym h.whole) (refl, (refl, (refl, tt)))
stands_inner name c (Quotation h) = subst (λ (z : List ℕ). Each is_inner z) (sym h.whole) (refl, (refl, (refl, (refl, tt))))
stands_inner name c (Apostrophe h) = subst (λ (z : List ℕ). Each is_inner z) (sym h.whole) (refl, (refl, (refl, (refl, tt))))
stands_inner name c (Decimal h) = subst (λ (z : List ℕ). Each is_inner z) (sym h.whole) (refl, digits_inner 10 h.digits (omega arith) h.number.all)
stands_inner name c (Hexadecimal h) = subst (λ (z : List ℕ). Each is_inner z) (sym h.whole) (refl, (refl, digits_inner 16 h.digits (omega arith) h.number.all))

-- the same in two parts
inner_characters : (name : List ℕ) → Each is_inner name → AreCharacters name
inner_characters [] h = tt
inner_characters (c ∷ cs) h = ((and_parts (is_character c) (not (c == 59)) h.0).0, inner_characters cs h.1)

no_semicolon : (c : ℕ) → is_inner c ≡ true → (c == 59) ≡ false
no_semicolon c h = not-true (c == 59) (and_parts (is_character c) (not (c == 59)) h).1

semicolon_later : (name rest : List ℕ) → Each is_inner name → (front : List ℕ) (c : ℕ) (cs : List ℕ) → name ≡ front ++ (c ∷ cs) → exactly (codes ";") (c ∷ (cs ++ (codes ";" ++ rest))) ≡ None
unfolding exactly
semicolon_later name rest h front c cs e = rw (no_semicolon c (each_at is_inner name front c cs h e)) refl

-- ---- references

pub record ReferenceRead (text : List ℕ) (c : ℕ) (rest : List ℕ) : Type 0 where
  pub name : List ℕ
  pub whole : text ≡ name ++ (codes ";" ++ rest)
  pub meant : StandsFor name c

given_of : (o : Option ℕ) (text : List ℕ) (c : ℕ) (rest : List ℕ) → give_some o text ≡ Some (c, rest) → (o ≡ Some c) × (text ≡ rest)
unfolding give refuse
given_of None text c rest e = absurd cc
given_of (Some d) text c rest e = let same = same_answer d c text rest e in (ap (λ x. Some x) same.0, same.1)

-- what is read behind an ampersand is spelled so
pub reference_read : (text : List ℕ) (c : ℕ) (rest : List ℕ) → reference text ≡ Some (c, rest) → ReferenceRead text c rest
unfolding reference followed_by
reference_read text c rest e =
    let s = split (up_to (codes ";") text) (λ name. give_some (referent name)) (c, rest) e in
    let g = given_of (referent s.0.0) s.0.1 c rest s.2 in
    let t = first_mark (codes ";") (omega arith) text s.0.0 s.0.1 s.1 in
    record { name = s.0.0; whole = t.whole ∙ ap (λ (z : List ℕ). s.0.0 ++ (codes ";" ++ z)) g.1; meant = referent_read s.0.0 c g.0 }

-- what is spelled so is read behind an ampersand
pub reference_spelled : (name : List ℕ) (c : ℕ) (rest : List ℕ) → StandsFor name c → reference (name ++ (codes ";" ++ rest)) ≡ Some (c, rest)
unfolding reference followed_by give
reference_spelled name c rest h =
    let inner = stands_inner name c h in
    rw (up_to_first (codes ";") (omega arith) name rest (inner_characters name inner) (semicolon_later name rest inner), referent_spelled name c h) refl

reference_found : (is_first : Bool) (text : List ℕ) (c : ℕ) (rest : List ℕ) → item is_first text ≡ Some (Reference c, rest) → IsReference text c rest
reference_found is_first text c rest e =
    let t = as_reference is_first text (Reference c) c rest refl (shape_of is_first text (Reference c) rest e) in
    let u = reference_read t.after c rest t.taken in
    record { body = u.name; whole = t.whole ∙ ap (λ (z : List ℕ). codes "&" ++ z) u.whole; meant = u.meant }

reference_item : (is_first : Bool) (text : List ℕ) (c : ℕ) (rest : List ℕ) → IsReference text c rest → item is_first text ≡ Some (Reference c, rest)
unfolding item by_next one followed_by give
reference_item is_first text c rest h = rw (h.whole, reference_spelled h.body c rest h.meant) refl

pub reference_holds : (is_first : Bool) (text : List ℕ) (c : ℕ) (rest : List ℕ) → (item is_first text ≡ Some (Reference c, rest)) ↔ IsReference text c rest
reference_holds is_first text c rest = (reference_found is_first text c rest, reference_item is_first text c rest)
