-- The measures that a unit text states by the rules are those that are read of it.
use Rattle.std.proofs.Common.{◌≡◌, ◌++◌, ◌==◌, ℕ, suc, List, [], ◌∷◌, true, false, length, Option, Some, None, option_map, option_and_then, refl, sym, ap, ap₂, subst, ◌∙◌, if◌then◌else◌, arith}
use Rattle.std.specs.List.{slice_split}
use Rattle.std.specs.Str.{chars}
use Rattle.std.proofs.lemmas.Bool.{and_parts, and_from, eqb-true, false_from_ne_true, true≢false}
use Rattle.std.proofs.lemmas.Option.{none-some, same_Some, option_and_then_some, cond_some}
use Rattle.std.proofs.lemmas.Slice.Eq.{bytes_eq-Decides}
use Rattle.xc_chars.specs.Characters.{is_name_start, is_name_char}
use Rattle.xc_chars.specs.Parts.{is_slash, around}
use Rattle.xc_chars.specs.PlainNames.{is_plain_name}
use Rattle.xc_lists.specs.Members.{Lacks}
use Rattle.xc_names.specs.Prefixes.{Bindings}
use Rattle.xc_names.specs.declared.expanded.Expanded.{Expanded}
use Rattle.xc_report.specs.Each.{each_some}
use Rattle.xc_report.specs.Laws.{IsTold}
use Rattle.xc_report.specs.Prefixed.{expanded_name}
use Rattle.xc_report.specs.Rules.Cuts.{slash, asterisk, opening, closing, IsCut}
use Rattle.xc_report.specs.Rules.Names.{StandsFor}
use Rattle.xc_report.specs.Rules.Units.{EachStandsFor, IsProduct, IsSide, OneMeasure, InParentheses, IsUnit, Product, Quotient, pure_measure, IsPure}
use Rattle.xc_report.specs.Units.{is_star, is_open, is_close, product, behind_open, before_close, single, side_of, side, above_and_below, quotient, unit, is_pure, is_pure_alone}
use Rattle.xc_report.proofs.Pieces.{each_cons}
use Rattle.xc_report.proofs.RuleCuts.{around_cut, around_none, lacks_mark, cut_read, reads_cut, reads_pieces, pieces_joined}
use Rattle.xc_report.proofs.RuleNames.{name_read, reads_name}
use Rattle.xc_report.proofs.Told.{mapped, told}

-- ---- parentheses

no_length : (xs : List ℕ) → (length xs == 0) ≡ true → xs ≡ []
no_length [] e = refl
no_length (x ∷ xs) e = let none : suc (length xs) ≡ 0 = eqb-true (suc (length xs)) 0 e in absurd (omega (arith, none))

opened : (rest : List ℕ) → behind_open (opening ∷ rest) ≡ Some rest
opened rest = ap (option_and_then (λ (parts : List ℕ × List ℕ). if length parts.0 == 0 then Some parts.1 else None)) (around_cut opening [] rest tt)

behind : (text rest : List ℕ) → behind_open text ≡ Some rest → text ≡ opening ∷ rest
behind text rest e =
    option_and_then_some (λ (parts : List ℕ × List ℕ). if length parts.0 == 0 then Some parts.1 else None) (around is_open text) rest e (λ parts h found.
    let both = cond_some (length parts.0 == 0) parts.1 rest found in
    (cut_read opening text parts h).joined ∙ ap (λ b. b ++ opening ∷ parts.1) (no_length parts.0 both.0) ∙ ap (λ r. opening ∷ r) both.1)

closed : (inside : List ℕ) → Lacks closing inside → before_close (inside ++ closing ∷ []) ≡ Some inside
closed inside lacks = ap (option_and_then (λ (parts : List ℕ × List ℕ). if length parts.1 == 0 then Some parts.0 else None)) (around_cut closing inside [] lacks)

before : (rest inside : List ℕ) → before_close rest ≡ Some inside → IsCut closing rest inside []
before rest inside e =
    option_and_then_some (λ (parts : List ℕ × List ℕ). if length parts.1 == 0 then Some parts.0 else None) (around is_close rest) inside e (λ parts h found.
    let both = cond_some (length parts.1 == 0) parts.0 inside found in
    subst (λ i. IsCut closing rest i []) both.1 (subst (λ a. IsCut closing rest parts.0 a) (no_length parts.1 both.0) (cut_read closing rest parts h)))

-- a plain name does not begin with a parenthesis
no_start : (xs : List ℕ) → is_plain_name (opening ∷ xs) ≡ true → ⊥
unfolding chars is_name_start is_name_char
no_start [] e = true≢false (sym e)
no_start (x ∷ xs) e = true≢false (sym e)

no_empty : is_plain_name [] ≡ true → ⊥
unfolding chars is_name_start is_name_char
no_empty e = true≢false (sym e)

starts_apart : (prefix local rest : List ℕ) → is_plain_name prefix ≡ true → prefix ++ 58 ∷ local ≡ opening ∷ rest → ⊥
starts_apart [] local rest plain e = no_empty plain
starts_apart (x ∷ xs) local rest plain e = let first : x ≡ opening = cc in no_start xs (subst (λ y. is_plain_name (y ∷ xs) ≡ true) first plain)

module _ (prefixes : Bindings) where
  -- ---- products

  each_read : (texts : List (List ℕ)) (measures : List Expanded) → each_some (expanded_name prefixes) texts ≡ Some measures → EachStandsFor prefixes texts measures
  each_read [] measures e = subst (EachStandsFor prefixes []) (same_Some [] measures e) tt
  each_read (t ∷ ts) measures e =
      option_and_then_some (λ (y : Expanded). option_map (λ ys. y ∷ ys) (each_some (expanded_name prefixes) ts)) (expanded_name prefixes t) measures e (λ y h more.
      mapped (λ ys. y ∷ ys) (each_some (expanded_name prefixes) ts) measures more (λ ys g is.
      subst (EachStandsFor prefixes (t ∷ ts)) is (name_read prefixes t y h, each_read ts ys g)))

  reads_each : (texts : List (List ℕ)) (measures : List Expanded) → EachStandsFor prefixes texts measures → each_some (expanded_name prefixes) texts ≡ Some measures
  reads_each [] [] all = refl
  reads_each [] (m ∷ ms) all = absurd all
  reads_each (t ∷ ts) [] all = absurd all
  reads_each (t ∷ ts) (m ∷ ms) all = each_cons (expanded_name prefixes) t m ts ms (reads_name prefixes t m all.0) (reads_each ts ms all.1)

  product_read : (text : List ℕ) (measures : List Expanded) → product prefixes text ≡ Some measures → IsProduct prefixes text measures
  product_read text measures e = record { texts = slice_split is_star text; joined = pieces_joined asterisk text; each = each_read (slice_split is_star text) measures e }

  reads_product : (text : List ℕ) (measures : List Expanded) → IsProduct prefixes text measures → product prefixes text ≡ Some measures
  reads_product text measures is = ap (each_some (expanded_name prefixes)) (reads_pieces asterisk text is.texts is.joined) ∙ reads_each is.texts measures is.each

  -- ---- sides

  side_by : (text : List ℕ) (measures : List Expanded) (o : Option (List ℕ)) → behind_open text ≡ o → side_of prefixes text o ≡ Some measures → IsSide prefixes text measures
  side_by text measures None h e = mapped (λ (name : Expanded). name ∷ []) (expanded_name prefixes text) measures e (λ name g is. OneMeasure name (name_read prefixes text name g) (sym is))
  side_by text measures (Some rest) h e =
      option_and_then_some (product prefixes) (before_close rest) measures e (λ inside g is.
      let cut = before rest inside g in
      InParentheses inside (behind text rest h ∙ ap (λ r. opening ∷ r) cut.joined) cut.first (product_read inside measures is))

  side_read : (text : List ℕ) (measures : List Expanded) → side prefixes text ≡ Some measures → IsSide prefixes text measures
  side_read text measures e = side_by text measures (behind_open text) refl e

  no_opening : (text : List ℕ) (name : Expanded) → StandsFor prefixes text name → (o : Option (List ℕ)) → behind_open text ≡ o → side_of prefixes text o ≡ single prefixes text
  no_opening text name s None e = refl
  no_opening text name s (Some rest) e = absurd (starts_apart s.prefix name.local rest s.prefix_plain (sym s.cut.joined ∙ behind text rest e))

  reads_side : (text : List ℕ) (measures : List Expanded) → IsSide prefixes text measures → side prefixes text ≡ Some measures
  reads_side text measures (OneMeasure name s is) = no_opening text name s (behind_open text) refl ∙ ap (option_map (λ (n : Expanded). n ∷ [])) (reads_name prefixes text name s) ∙ ap (λ ms. Some ms) (sym is)
  reads_side text measures (InParentheses inside is lacks all) =
      ap (side_of prefixes text) (ap behind_open is ∙ opened (inside ++ closing ∷ [])) ∙ ap (option_and_then (product prefixes)) (closed inside lacks) ∙ reads_product inside measures all

  -- ---- units

  both_there : (a b : Option (List Expanded)) (measures : List Expanded × List Expanded) → above_and_below a b ≡ Some measures → (a ≡ Some measures.0) × (b ≡ Some measures.1)
  both_there None None measures e = absurd (none-some measures e)
  both_there None (Some b) measures e = absurd (none-some measures e)
  both_there (Some a) None measures e = absurd (none-some measures e)
  both_there (Some a) (Some b) measures e = let same = same_Some (a, b) measures e in (ap (λ (m : List Expanded × List Expanded). Some m.0) same, ap (λ (m : List Expanded × List Expanded). Some m.1) same)

  unit_by : (text : List ℕ) (measures : List Expanded × List Expanded) (o : Option (List ℕ × List ℕ)) → around is_slash text ≡ o → quotient prefixes text o ≡ Some measures
      → IsUnit prefixes text measures.0 measures.1
  unit_by text measures None h e =
      mapped (λ (above : List Expanded). (above, [])) (product prefixes text) measures e (λ above g is.
      subst (λ (m : List Expanded × List Expanded). IsUnit prefixes text m.0 m.1) is (Product (lacks_mark slash text h) (product_read text above g) refl))
  unit_by text measures (Some parts) h e =
      let both = both_there (side prefixes parts.0) (side prefixes parts.1) measures e in
      Quotient parts.0 parts.1 (cut_read slash text parts h) (side_read parts.0 measures.0 both.0) (side_read parts.1 measures.1 both.1)

  pub unit_read : (text : List ℕ) (measures : List Expanded × List Expanded) → unit prefixes text ≡ Some measures → IsUnit prefixes text measures.0 measures.1
  unit_read text measures e = unit_by text measures (around is_slash text) refl e

  pub reads_unit : (text : List ℕ) (above below : List Expanded) → IsUnit prefixes text above below → unit prefixes text ≡ Some (above, below)
  reads_unit text above below (Product lacks is none) =
      ap (quotient prefixes text) (around_none slash text lacks) ∙ ap (option_map (λ (a : List Expanded). (a, []))) (reads_product text above is) ∙ ap (λ b. Some (above, b)) (sym none)
  reads_unit text above below (Quotient n d cut over under) =
      ap (quotient prefixes text) (reads_cut slash text n d cut) ∙ ap₂ above_and_below (reads_side n above over) (reads_side d below under)

  pub unit_told : (text : List ℕ) → IsTold (λ (measures : List Expanded × List Expanded). IsUnit prefixes text measures.0 measures.1) (unit prefixes text)
  unit_told text = told (λ (measures : List Expanded × List Expanded). IsUnit prefixes text measures.0 measures.1) (unit prefixes text) (unit_read text) (λ measures. reads_unit text measures.0 measures.1)

-- ---- the measure `pure`

pure_read : (name : Expanded) → is_pure name ≡ true → name ≡ pure_measure
pure_read name e =
    let both = and_parts _ _ e in
    let space : name.space ≡ pure_measure.space = sym ((bytes_eq-Decides pure_measure.space name.space).0 both.0) in
    let local : name.local ≡ pure_measure.local = sym ((bytes_eq-Decides pure_measure.local name.local).0 both.1) in
    λ i. record { space = space i; local = local i }

pub pure_alone : (measures : List Expanded × List Expanded) → is_pure_alone measures ≡ true → measures ≡ (pure_measure ∷ [], [])
pure_alone ([], below) e = absurd (true≢false (sym e))
pure_alone (name ∷ [], []) e = ap (λ (n : Expanded). (n ∷ [], [])) (pure_read name e)
pure_alone (name ∷ [], other ∷ below) e = absurd (true≢false (sym e))
pure_alone (name ∷ more ∷ above, below) e = absurd (true≢false (sym e))

pub pure_is : is_pure_alone (pure_measure ∷ [], []) ≡ true
pure_is = and_from _ _ ((bytes_eq-Decides pure_measure.space pure_measure.space).1 refl) ((bytes_eq-Decides pure_measure.local pure_measure.local).1 refl)

pub not_pure : (above below : List Expanded) → ¬ (IsPure above below) → is_pure_alone (above, below) ≡ false
not_pure above below other = false_from_ne_true (is_pure_alone (above, below)) (λ e.
    let same = pure_alone (above, below) e in
    other (record { above_is = ap (λ (m : List Expanded × List Expanded). m.0) same; below_is = ap (λ (m : List Expanded × List Expanded). m.1) same }))

pub other_than_pure : (above below : List Expanded) → is_pure_alone (above, below) ≡ false → ¬ (IsPure above below)
other_than_pure above below e is = true≢false (sym pure_is ∙ ap₂ (λ a b. is_pure_alone (a, b)) (sym is.above_is) (sym is.below_is) ∙ e)
