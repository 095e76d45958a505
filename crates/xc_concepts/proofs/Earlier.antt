-- The first of what two rules give is the earlier of their first.
use Rattle.std.proofs.Common.{◌≡◌, ◌<◌, ◌≤◌, ◌+◌, ℕ, zero, suc, nat_lt, List, [], ◌∷◌, Bool, true, false, Option, Some, None, option_map, if◌then◌else◌, refl, sym, ap, ◌∙◌, arith}
use Rattle.std.proofs.lemmas.Bool.Decides.{nat_tests}
use Rattle.std.specs.List.{range_with_len}
use Rattle.std.specs.Option.{option_or}
use Rattle.xc_lists.specs.Places.{first_given, first_place, place_where}
use Rattle.xc_concepts.specs.Rules.{broken_at, is_nameless, repeats_id, repeats_concept}
use Rattle.xc_concepts.specs.Steps.{Broken, nameless_fault, id_fault, concept_fault, earlier_fault}
use Rattle.xc_concepts.specs.declared.fault.SchemaFault.TheVariants.{BadPrefix, SameId, SameConcept}
use Rattle.xc_concepts.specs.declared.schema.Schema.{Schema}
use Rattle.xc_elements.specs.declared.nodes.Node.{Node}

-- what is given at a place says that place
abbrev Own : (ℕ → Option Broken) → Type 0
Own given = (k : ℕ) (x : Broken) → given k ≡ Some x → x.0 ≡ k

-- what is given first in a range does not stand before it
no_earlier : (given : ℕ → Option Broken) → Own given → (a n : ℕ) (x : Broken) → first_given given (range_with_len a n) ≡ Some x → a ≤ x.0
no_earlier given own a zero x e = absurd (cc)
no_earlier given own a (suc n) x e = by (given a) refl e (no_earlier given own (a + 1) n x)
  where
    by : (o : Option Broken) → given a ≡ o → option_or o (first_given given (range_with_len (a + 1) n)) ≡ Some x → (first_given given (range_with_len (a + 1) n) ≡ Some x → a + 1 ≤ x.0) → a ≤ x.0
    by None here e rest = omega (arith, rest e)
    by (Some y) here e rest = let same : x.0 ≡ a = own a x (here ∙ e) in omega arith

not_below : (m n : ℕ) → n ≤ m → nat_lt m n ≡ false
not_below m n h = grind (arith, nat_tests)

below : (m n : ℕ) → m < n → nat_lt m n ≡ true
below m n h = grind (arith, nat_tests)

-- one that does not stand later goes first
first_stays : (x : Broken) (o : Option Broken) → ((y : Broken) → o ≡ Some y → x.0 ≤ y.0) → earlier_fault (Some x) o ≡ Some x
first_stays x None h = refl
first_stays x (Some y) h = ap (λ b. if b then Some y else Some x) (not_below y.0 x.0 (h y refl))

-- one that stands earlier goes first
second_first : (o : Option Broken) (y : Broken) → ((x : Broken) → o ≡ Some x → y.0 < x.0) → earlier_fault o (Some y) ≡ Some y
second_first None y h = refl
second_first (Some x) y h = ap (λ b. if b then Some y else Some x) (below y.0 x.0 (h x refl))

pub first_of_two : (f g : ℕ → Option Broken) → Own f → Own g → (a n : ℕ) → first_given (λ k. option_or (f k) (g k)) (range_with_len a n) ≡ earlier_fault (first_given f (range_with_len a n)) (first_given g (range_with_len a n))
first_of_two f g own_f own_g a zero = refl
first_of_two f g own_f own_g a (suc n) = by (f a) (g a) refl refl (first_of_two f g own_f own_g (a + 1) n)
  where
    by : (o p : Option Broken) → f a ≡ o → g a ≡ p
        → first_given (λ k. option_or (f k) (g k)) (range_with_len (a + 1) n) ≡ earlier_fault (first_given f (range_with_len (a + 1) n)) (first_given g (range_with_len (a + 1) n))
        → option_or (option_or o p) (first_given (λ k. option_or (f k) (g k)) (range_with_len (a + 1) n)) ≡ earlier_fault (option_or o (first_given f (range_with_len (a + 1) n))) (option_or p (first_given g (range_with_len (a + 1) n)))
    by None None d e rest = rest
    by None (Some y) d e rest = sym (second_first _ y (λ x h. omega (arith, own_g a y e, no_earlier f own_f (a + 1) n x h)))
    by (Some x) None d e rest = sym (first_stays x _ (λ y h. omega (arith, own_f a x d, no_earlier g own_g (a + 1) n y h)))
    by (Some x) (Some z) d e rest = sym (first_stays x (Some z) (λ y h. let same : z ≡ y = cc in omega (arith, own_f a x d, own_g a z e, ap (λ b. b.0) same)))

given_map : {X Y : Type 0} (h : X → Y) (f : ℕ → Option X) (ks : List ℕ) → first_given (λ k. option_map h (f k)) ks ≡ option_map h (first_given f ks)
given_map h f [] = refl
given_map h f (k ∷ ks) = by (f k) refl (given_map h f ks)
  where
    by : (o : Option _) → f k ≡ o → first_given (λ k. option_map h (f k)) ks ≡ option_map h (first_given f ks) → option_or (option_map h o) (first_given (λ k. option_map h (f k)) ks) ≡ option_map h (option_or o (first_given f ks))
    by None e rest = rest
    by (Some x) e rest = refl

-- the rule of a test, at the places of which it holds
abbrev ruled : (ℕ → Broken) → (ℕ → Bool) → ℕ → Option Broken
ruled fault test k = option_map fault (place_where test k)

own_ruled : (fault : ℕ → Broken) → ((k : ℕ) → (fault k).0 ≡ k) → (test : ℕ → Bool) → Own (ruled fault test)
own_ruled fault own test k x e = by (test k) e
  where
    by : (b : Bool) → option_map fault (if b then Some k else None) ≡ Some x → x.0 ≡ k
    by true e = let same : fault k ≡ x = cc in ap (λ y. y.0) (sym same) ∙ own k
    by false e = absurd (cc)

own_either : (f g : ℕ → Option Broken) → Own f → Own g → Own (λ k. option_or (f k) (g k))
own_either f g own_f own_g k x e = by (f k) refl e
  where
    by : (o : Option Broken) → f k ≡ o → option_or o (g k) ≡ Some x → x.0 ≡ k
    by None d e = own_g k x e
    by (Some y) d e = own_f k x (d ∙ e)

by_rules : (a b c : Bool) (k : ℕ) → option_map (λ x. x.1) (option_or (option_or (option_map nameless_fault (if a then Some k else None)) (option_map id_fault (if b then Some k else None))) (option_map concept_fault (if c then Some k else None)))
    ≡ (if a then Some (BadPrefix k) else if b then Some (SameId k) else if c then Some (SameConcept k) else None)
by_rules true b c k = refl
by_rules false true c k = refl
by_rules false false true k = refl
by_rules false false false k = refl

pub first_broken_by_rules : (schemas : List Schema) (nodes : List Node) (n : ℕ) →
    let ks = range_with_len 0 n in
    option_map (λ x. x.1) (earlier_fault (earlier_fault (option_map nameless_fault (first_place (is_nameless nodes) ks)) (option_map id_fault (first_place (repeats_id nodes) ks))) (option_map concept_fault (first_place (repeats_concept schemas nodes) ks)))
    ≡ first_given (broken_at schemas nodes) ks
first_broken_by_rules schemas nodes n =
    let ks = range_with_len 0 n in
    let f = ruled nameless_fault (is_nameless nodes) in
    let g = ruled id_fault (repeats_id nodes) in
    let h = ruled concept_fault (repeats_concept schemas nodes) in
    let own_f : Own f = own_ruled nameless_fault (λ k. refl) (is_nameless nodes) in
    let own_g : Own g = own_ruled id_fault (λ k. refl) (repeats_id nodes) in
    let own_h : Own h = own_ruled concept_fault (λ k. refl) (repeats_concept schemas nodes) in
    ap (option_map (λ x. x.1))
    ((λ i. earlier_fault (earlier_fault (sym (given_map nameless_fault (place_where (is_nameless nodes)) ks) i) (sym (given_map id_fault (place_where (repeats_id nodes)) ks) i)) (sym (given_map concept_fault (place_where (repeats_concept schemas nodes)) ks) i))
    ∙ ap (λ o. earlier_fault o (first_given h ks)) (sym (first_of_two f g own_f own_g 0 n))
    ∙ sym (first_of_two (λ k. option_or (f k) (g k)) h (own_either f g own_f own_g) own_h 0 n))
    ∙ sym (given_map (λ x. x.1) (λ k. option_or (option_or (f k) (g k)) (h k)) ks)
    ∙ ap (λ given. first_given given ks) (λ i k. by_rules (is_nameless nodes k) (repeats_id nodes k) (repeats_concept schemas nodes k) k i)
