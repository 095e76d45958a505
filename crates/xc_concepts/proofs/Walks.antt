-- Walks along the bases of types end, or lead back to a name that they have passed.
use Rattle.std.proofs.Common.{◌≡◌, ◌<◌, ◌≤◌, ◌+◌, ◌++◌, ◌&&◌, ◌||◌, ℕ, zero, suc, List, [], ◌∷◌, Bool, true, false, Option, Some, None, find, map, length, option_and_then, is_some, if◌then◌else◌, true≢false, refl, sym, ap, subst, ◌∙◌, arith}
use Rattle.std.proofs.lemmas.Cmp.{nat_list_eq_equiv}
use Rattle.std.proofs.lemmas.List.{length-map}
use Rattle.std.proofs.lemmas.Map.Made.{length-le_from_is_member}
use Rattle.std.proofs.lemmas.Map.Steps.{list_any_congr}
use Rattle.std.proofs.lemmas.Slice.Eq.{bytes_eq-Decides}
use Rattle.std.specs.Cmp.{IsEquivalence}
use Rattle.std.specs.List.{AllByRecursion, IsDistinct, list_any}
use Rattle.std.specs.Option.{option_map_or}
use Rattle.std.specs.Str.{bytes_eq}
use Rattle.xc_lists.proofs.Anys.{any_map}
use Rattle.xc_concepts.specs.Chains.{is_decimal, is_item_type, type_named, base_name, next_name, IsChain, kind_by_last, IsKindBy}
use Rattle.xc_concepts.specs.Rules.{is_same_name}
use Rattle.xc_concepts.specs.declared.kind.Kind.{Kind}
use Rattle.xc_concepts.specs.declared.kind.Kind.TheVariants.{Decimal, Other, Unknown}
use Rattle.xc_concepts.specs.declared.schema.NamedType.{NamedType}
use Rattle.std.proofs.lemmas.Bool.{and_parts}
use Rattle.xc_names.specs.declared.expanded.Expanded.{Expanded}

-- ---- names that are the same

pub same_is : (a b : Expanded) → is_same_name a b ≡ true → a ≡ b
same_is a b e =
    let h = and_parts (bytes_eq a.space b.space) (bytes_eq a.local b.local) e in
    λ i. record { space = (bytes_eq-Decides a.space b.space).0 h.0 i; local = (bytes_eq-Decides a.local b.local).0 h.1 i }

same_laws : IsEquivalence is_same_name
same_laws = record {
  refl = λ a. rw (nat_list_eq_equiv.refl a.space) (nat_list_eq_equiv.refl a.local);
  symm = λ a b i. nat_list_eq_equiv.symm a.space b.space i && nat_list_eq_equiv.symm a.local b.local i;
  congr = λ a b c e. ap (λ n. is_same_name n c) (same_is a b e);
}

-- ---- walks

module _ (types : List NamedType) where
  -- a name is reached from another by so many steps
  abbrev pub Reaches : ℕ → Expanded → Expanded → Type 0
  Reaches zero first name = first ≡ name
  Reaches (suc n) first name = (before : Expanded) × Reaches n first before × (base_name types before ≡ Some name)

  -- from a name, the last is so many steps away
  abbrev pub EndsIn : ℕ → Expanded → Expanded → Type 0
  EndsIn zero name last = (name ≡ last) × (base_name types name ≡ None)
  EndsIn (suc n) name last = (next : Expanded) × (base_name types name ≡ Some next) × EndsIn n next last

  -- from a name, so many steps can be taken
  abbrev pub GoesOn : ℕ → Expanded → Type 0
  GoesOn zero name = Unit {0}
  GoesOn (suc n) name = (next : Expanded) × (base_name types name ≡ Some next) × GoesOn n next

  ends_from : (n m : ℕ) (first name last : Expanded) → Reaches n first name → EndsIn m name last → EndsIn (n + m) first last
  ends_from zero m first name last r e =
      let same : m ≡ zero + m = omega arith in
      subst (λ k. EndsIn k first last) same (subst (λ x. EndsIn m x last) (sym r) e)
  ends_from (suc n) m first name last r e =
      let same : n + suc m ≡ suc n + m = omega arith in
      subst (λ k. EndsIn k first last) same (ends_from n (suc m) first r.0 last r.1 (name, r.2, e))

  goes_from : (n m : ℕ) (first name : Expanded) → Reaches n first name → GoesOn m name → GoesOn (n + m) first
  goes_from zero m first name r g =
      let same : m ≡ zero + m = omega arith in
      subst (λ k. GoesOn k first) same (subst (λ x. GoesOn m x) (sym r) g)
  goes_from (suc n) m first name r g =
      let same : n + suc m ≡ suc n + m = omega arith in
      subst (λ k. GoesOn k first) same (goes_from n (suc m) first r.0 r.1 (name, r.2, g))

  -- a walk has one length
  one_length : (n m : ℕ) (name last last' : Expanded) → EndsIn n name last → EndsIn m name last' → n ≡ m
  one_length zero zero name last last' e f = refl
  one_length zero (suc m) name last last' e f = absurd (let h : Some f.0 ≡ None = sym f.1 ∙ e.1 in cc)
  one_length (suc n) zero name last last' e f = absurd (let h : Some e.0 ≡ None = sym e.1 ∙ f.1 in cc)
  one_length (suc n) (suc m) name last last' e f =
      let some : Some e.0 ≡ Some f.0 = sym e.1 ∙ f.1 in
      let next : e.0 ≡ f.0 = cc in
      ap suc (one_length n m f.0 last last' (subst (λ x. EndsIn n x last) next e.2) f.2)

  -- a chain behind earlier names, from the first to the last, which has stood earlier or not
  record Ended (earlier : List Expanded) (first last : Expanded) (stood : Bool) : Type 0 where
    front : List Expanded
    rest : List Expanded
    begins : front ++ last ∷ [] ≡ first ∷ rest
    chain : IsChain types earlier (front ++ last ∷ [])
    stands : (list_any (is_same_name last) front || list_any (is_same_name last) earlier) ≡ stood

  alone : (earlier : List Expanded) (name : Expanded) (stood : Bool) → next_name types earlier name ≡ None → list_any (is_same_name name) earlier ≡ stood → Ended earlier name name stood
  alone earlier name stood none stands = record { front = []; rest = []; begins = refl; chain = none; stands = stands }

  moved : (a b c d : Bool) → (b || (a || c)) ≡ d → ((a || b) || c) ≡ d
  moved true true c d e = e
  moved true false c d e = e
  moved false b c d e = e

  ahead : (earlier : List Expanded) (name next last : Expanded) (stood : Bool) → list_any (is_same_name name) earlier ≡ false → base_name types name ≡ Some next → Ended (name ∷ earlier) next last stood → Ended earlier name last stood
  ahead earlier name next last stood new step e = record {
    front = name ∷ e.front;
    rest = e.front ++ last ∷ [];
    begins = refl;
    chain = subst (λ xs. IsChain types earlier (name ∷ xs)) (sym e.begins) (ap (λ b. if b then None else base_name types name) new ∙ step, subst (λ xs. IsChain types (name ∷ earlier) xs) e.begins e.chain);
    stands = moved (is_same_name last name) (list_any (is_same_name last) e.front) (list_any (is_same_name last) earlier) stood e.stands;
  }

  -- ---- a walk that ends does not lead back

  -- the earlier names are more steps from an end
  Farther : ℕ → List Expanded → Type 0
  Farther n [] = Unit {0}
  Farther n (e ∷ es) = ((m : ℕ) × (last : Expanded) × (n < m) × EndsIn m e last) × Farther n es

  farther_less : (n : ℕ) (es : List Expanded) → Farther (suc n) es → Farther n es
  unfolding Farther
  farther_less n [] f = f
  farther_less n (e ∷ es) f = let h = f.0 in ((h.0, h.1, omega (arith, h.2), h.3), farther_less n es f.1)

  new_name : (n : ℕ) (name last : Expanded) (es : List Expanded) → EndsIn n name last → Farther n es → list_any (is_same_name name) es ≡ false
  unfolding Farther
  new_name n name last [] e f = refl
  new_name n name last (x ∷ es) e f = by (is_same_name name x) refl (new_name n name last es e f.1)
    where
      by : (b : Bool) → is_same_name name x ≡ b → list_any (is_same_name name) es ≡ false → (b || list_any (is_same_name name) es) ≡ false
      by true same rest =
          let h = f.0 in
          let one : n ≡ h.0 = one_length n h.0 x last h.1 (subst (λ y. EndsIn n y last) (same_is name x same) e) h.3 in
          absurd (omega (arith, h.2, one))
      by false same rest = rest

  ends : (n : ℕ) (name last : Expanded) (earlier : List Expanded) → EndsIn n name last → Farther n earlier → Ended earlier name last false
  unfolding Farther
  ends zero name last earlier e f =
      let new = new_name zero name last earlier e f in
      subst (λ x. Ended earlier name x false) e.0 (alone earlier name false (ap (λ b. if b then None else base_name types name) new ∙ e.1) new)
  ends (suc n) name last earlier e f =
      ahead earlier name e.0 last false (new_name (suc n) name last earlier e f) e.1
      (ends n e.0 last (name ∷ earlier) e.2 ((suc n, last, omega arith, e), farther_less n earlier f))

  -- ---- a walk of more steps than there are types leads back

  abbrev names : List Expanded
  names = map (λ t. t.name) types

  found_any : (p : NamedType → Bool) (ts : List NamedType) → is_some (find p ts) ≡ true → list_any p ts ≡ true
  found_any p [] h = absurd (true≢false (sym h))
  found_any p (t ∷ ts) h = by (p t) refl (found_any p ts) h
    where
      by : (b : Bool) → p t ≡ b → (is_some (find p ts) ≡ true → list_any p ts ≡ true) → is_some (if b then Some t else find p ts) ≡ true → (b || list_any p ts) ≡ true
      by true e rest h = refl
      by false e rest h = rest h

  -- a name with a base is no item type, and is that of a type
  not_item : (name next : Expanded) → base_name types name ≡ Some next → is_item_type name ≡ false
  not_item name next e = by (is_item_type name) e
    where
      by : (b : Bool) → (if b then None else option_and_then (λ t. t.base) (type_named types name)) ≡ Some next → b ≡ false
      by true h = absurd (cc)
      by false h = refl

  bound_some : {X Y : Type 0} (o : Option X) (f : X → Option Y) (y : Y) → option_and_then f o ≡ Some y → is_some o ≡ true
  bound_some None f y e = absurd (cc)
  bound_some (Some x) f y e = refl

  has_type : (name next : Expanded) → base_name types name ≡ Some next → list_any (is_same_name name) names ≡ true
  has_type name next e =
      let there = ap (λ b. if b then None else option_and_then (λ t. t.base) (type_named types name)) (sym (not_item name next e)) ∙ e in
      sym (any_map (is_same_name name) (λ t. t.name) types) ∙ found_any (λ t. is_same_name name t.name) types (bound_some (type_named types name) (λ t. t.base) next there)

  -- each of these names is that of a type
  Typed : List Expanded → Type 0
  Typed [] = Unit {0}
  Typed (e ∷ es) = (list_any (is_same_name e) names ≡ true) × Typed es

  typed_member : (es : List Expanded) → Typed es → (q : Expanded) → list_any (is_same_name q) es ≡ true → list_any (is_same_name q) names ≡ true
  unfolding Typed
  typed_member [] t q h = absurd (true≢false (sym h))
  typed_member (e ∷ es) t q h = by (is_same_name q e) refl h (typed_member es t.1 q)
    where
      by : (b : Bool) → is_same_name q e ≡ b → (b || list_any (is_same_name q) es) ≡ true → (list_any (is_same_name q) es ≡ true → list_any (is_same_name q) names ≡ true) → list_any (is_same_name q) names ≡ true
      by true same h rest = list_any_congr same_laws q e names same ∙ t.0
      by false same h rest = rest h

  apart : (name : Expanded) (es : List Expanded) → list_any (is_same_name name) es ≡ false → AllByRecursion (λ y. is_same_name name y ≡ false) es
  apart name [] h = tt
  apart name (e ∷ es) h = by (is_same_name name e) refl h (apart name es)
    where
      by : (b : Bool) → is_same_name name e ≡ b → (b || list_any (is_same_name name) es) ≡ false → (list_any (is_same_name name) es ≡ false → AllByRecursion (λ y. is_same_name name y ≡ false) es) → AllByRecursion (λ y. is_same_name name y ≡ false) (e ∷ es)
      by true same h rest = absurd (true≢false h)
      by false same h rest = (same, rest h)

  leads_back : (n : ℕ) (name : Expanded) (earlier : List Expanded) → GoesOn n name → Typed earlier → IsDistinct is_same_name earlier → length types < length earlier + n
      → (last : Expanded) × Ended earlier name last true × (is_item_type last ≡ false)
  unfolding Typed IsDistinct
  leads_back zero name earlier g typed distinct long =
      absurd (omega (arith, long, length-le_from_is_member same_laws earlier names distinct (typed_member earlier typed), length-map types (λ t. t.name)))
  leads_back (suc n) name earlier g typed distinct long = by (list_any (is_same_name name) earlier) refl (leads_back n g.0 (name ∷ earlier) g.2)
    where
      by : (b : Bool) → list_any (is_same_name name) earlier ≡ b
          → (Typed (name ∷ earlier) → IsDistinct is_same_name (name ∷ earlier) → length types < length (name ∷ earlier) + n → (last : Expanded) × Ended (name ∷ earlier) g.0 last true × (is_item_type last ≡ false))
          → (last : Expanded) × Ended earlier name last true × (is_item_type last ≡ false)
      by true stood more = (name, alone earlier name true (ap (λ b. if b then None else base_name types name) stood) stood, not_item name g.0 g.1)
      by false new more =
          let h = more (has_type name g.0 g.1, typed) (apart name earlier new, distinct) (omega (arith, long)) in
          (h.0, ahead earlier name g.0 h.0 true new g.1 h.1, h.2)

  -- ---- kinds

  or_nothing : (a b : Bool) → (a || false) ≡ b → a ≡ b
  or_nothing true b e = e
  or_nothing false b e = e

  -- the kind of a type that is not an item type of XBRL
  abbrev found_kind : Expanded → Kind
  found_kind name = option_map_or (λ t. Other) (type_named types name) Unknown

  abbrev item_kind : Expanded → Kind
  item_kind name = if is_decimal name.local then Decimal else Other

  not_stood : (earlier : List Expanded) (name : Expanded) → list_any (is_same_name name) earlier ≡ false → kind_by_last types earlier name ≡ kind_by_last types [] name
  not_stood earlier name e = ap (λ b. if is_item_type name then item_kind name else if b then Unknown else found_kind name) e

  has_stood : (earlier : List Expanded) (name : Expanded) → is_item_type name ≡ false → list_any (is_same_name name) earlier ≡ true → kind_by_last types earlier name ≡ Unknown
  has_stood earlier name other e =
      ap (λ b. if b then item_kind name else if list_any (is_same_name name) earlier then Unknown else found_kind name) other
      ∙ ap (λ b. if b then Unknown else found_kind name) e

  -- a walk that ends has the kind of its last name
  pub kind_of_end : (n : ℕ) (first name : Expanded) (kind : Kind) → Reaches n first name → base_name types name ≡ None → kind ≡ kind_by_last types [] name → IsKindBy types first kind
  unfolding Farther
  kind_of_end n first name kind r none is =
      let e = ends (n + zero) first name [] (ends_from n zero first name name r (refl, none)) tt in
      record {
        earlier = e.front;
        last = name;
        begins = (e.rest, e.begins);
        chain = e.chain;
        decides = is ∙ sym (not_stood e.front name (or_nothing _ _ e.stands));
      }

  -- a walk of more steps than there are types says nothing
  kind_of_long : (n : ℕ) (first : Expanded) → GoesOn n first → length types < n → IsKindBy types first Unknown
  unfolding Typed IsDistinct
  kind_of_long n first g long =
      let back = leads_back n first [] g tt tt (omega (arith, long)) in
      let e = back.1 in
      record {
        earlier = e.front;
        last = back.0;
        begins = (e.rest, e.begins);
        chain = e.chain;
        decides = sym (has_stood e.front back.0 back.2 (or_nothing _ _ e.stands));
      }

  -- nor does one that goes on after as many
  pub kind_of_circle : (n : ℕ) (first name next : Expanded) → Reaches n first name → base_name types name ≡ Some next → length types ≤ n → IsKindBy types first Unknown
  kind_of_circle n first name next r step long = kind_of_long (n + 1) first (goes_from n 1 first name r (next, step, tt)) (omega (arith, long))

  shorter : (n m : ℕ) (name : Expanded) → m ≤ n → GoesOn n name → GoesOn m name
  shorter n zero name h g = tt
  shorter zero (suc m) name h g = absurd (omega (arith, h))
  shorter (suc n) (suc m) name h g = (g.0, g.1, shorter n m g.0 (omega (arith, h)) g.2)

  -- a walk that comes to a name again goes on for ever
  round : (m n : ℕ) (name : Expanded) → Reaches (suc m) name name → GoesOn n name
  round m zero name r = tt
  round m (suc n) name r = shorter (suc m + n) (suc n) name (omega arith) (goes_from (suc m) n name name r (round m n name r))

  -- so it says nothing
  pub kind_of_round : (n m : ℕ) (first name : Expanded) → Reaches n first name → Reaches (suc m) name name → IsKindBy types first Unknown
  kind_of_round n m first name r back =
      kind_of_long (n + suc (length types)) first (goes_from n (suc (length types)) first name r (round m (suc (length types)) name back)) (omega arith)
