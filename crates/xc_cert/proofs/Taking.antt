-- What each line makes of what was read, and which lines say that.
use Rattle.std.proofs.Common.{◌≡◌, ◌≢◌, ℕ, ◌+◌, ◌<◌, ◌≤◌, ◌^◌, ℤ, pos, ◌<ℤ◌, Bool, true, false, cond, not, List, [], ◌∷◌, ◌++◌, length, Option, Some, None, refl, sym, ap, ◌∙◌, subst, arith, append_assoc, append-nil, length-append}
use Rattle.std.specs.Prelude.{◌==◌, ◌&&◌, codes, int_lt, unsigned_abs}
use Rattle.std.specs.List.{enumerate_from}
use Rattle.std.specs.Option.{option_map}
use Rattle.std.proofs.lemmas.Bool.{and_parts, eqb-true}
use Rattle.std.proofs.lemmas.Int.{ints}
use Rattle.std.proofs.lemmas.List.{map-append}
use Rattle.std.proofs.lemmas.List.Elements.{All-push}
use Rattle.xc_cert.specs.Certificates.{IsPassed, AreNumbers, HasNumbers, opening, numbered_line, numbered_lines, body_lines, certificate_lines}
use Rattle.xc_cert.specs.Steps.Lines.{Says}
use Rattle.xc_cert.specs.Steps.Reading.{Progress, is_behind, is_not_zero, is_positive, with_more, takes_bindings, takes_lows, value_more, binding_more, low_more, high_more, refutation_of}
use Rattle.xc_cert.specs.declared.line.Line.TheVariants as line
use Rattle.xc_cert.specs.declared.line.Word.TheVariants.{Value, Binding, Low, High}
use Rattle.xc_cert.specs.declared.reader.Stage.{Stage}
use Rattle.xc_cert.specs.declared.reader.Stage.TheVariants.{Before, Opened, Values, Bindings, Lows, Highs, Solved, Refuted}
use Rattle.xc_lists.proofs.Lacking.{all_append}
use Rattle.xc_cert.proofs.Listing.{ascends_more}
use Rattle.xc_model.specs.Ratio.{Ratio}
use Rattle.xc_system.specs.Kept.{IsRefutation}
use Rattle.xc_system.specs.declared.types.Certificate.TheVariants as certificate

-- ---- what holds of what was read

pub record NoLists (g : Progress) : Type 0 where
  pub values : g.values ≡ []
  pub bindings : g.bindings ≡ []
  pub lows : g.lows ≡ []
  pub highs : g.highs ≡ []

-- which lists are empty yet
abbrev pub EmptyAt : Stage → Progress → Type 0
EmptyAt Before g = NoLists g
EmptyAt Opened g = NoLists g
EmptyAt Values g = Unit {0}
EmptyAt Bindings g = (g.lows ≡ []) × (g.highs ≡ [])
EmptyAt Lows g = g.highs ≡ []
EmptyAt Highs g = Unit {0}
EmptyAt Solved g = Unit {0}
EmptyAt Refuted g = Unit {0}

-- it can become a certificate
pub record IsSound (g : Progress) : Type 0 where
  pub few : length g.values ≤ 2 ^ 32
  pub kept : IsRefutation (refutation_of g)
  pub numbers : HasNumbers (refutation_of g)
  pub empty : EmptyAt g.stage g

abbrev pub values_lines : Progress → List (List ℕ)
values_lines g = opening ∷ body_lines (certificate.Feasible g.values)

abbrev pub multipliers_lines : Progress → List (List ℕ)
multipliers_lines g = opening ∷ body_lines (certificate.Infeasible (refutation_of g))

-- the lines that say it, from `certificate 1` on
abbrev pub lines_at : Stage → Progress → List (List ℕ)
lines_at Before g = []
lines_at Opened g = opening ∷ []
lines_at Values g = values_lines g
lines_at Bindings g = multipliers_lines g
lines_at Lows g = multipliers_lines g
lines_at Highs g = multipliers_lines g
lines_at Solved g = certificate_lines (certificate.Feasible g.values)
lines_at Refuted g = certificate_lines (certificate.Infeasible (refutation_of g))

abbrev pub lines_of : Progress → List (List ℕ)
lines_of g = lines_at g.stage g

-- a line adds itself to them, or is passed over
pub data Adds (g : Progress) (text : List ℕ) (h : Progress) : Type 0 where
  added : lines_of h ≡ lines_of g ++ text ∷ [] → Adds g text h
  passed : lines_of g ≡ [] → lines_of h ≡ [] → IsPassed text → Adds g text h

pub record Taken (g : Progress) (text : List ℕ) (h : Progress) : Type 0 where
  pub sound : IsSound h
  pub adds : Adds g text h

some_same : {X : Type 0} (x y : X) → Some x ≡ Some y → x ≡ y
some_same x y e = cc

-- ---- one more in a list

chosen : {X : Type 0} (b : Bool) (x y : X) → cond b (Some x) None ≡ Some y → (b ≡ true) × (x ≡ y)
chosen true x y e = (refl, some_same x y e)
chosen false x y e = absurd cc

mapped : {X Y : Type 0} (f : X → Y) (o : Option X) (y : Y) → option_map f o ≡ Some y → (x : X) × (o ≡ Some x) × (f x ≡ y)
mapped f None y e = absurd cc
mapped f (Some x) y e = (x, refl, some_same (f x) y e)

guarded : {X : Type 0} (b : Bool) (o : Option X) (y : X) → cond b o None ≡ Some y → (b ≡ true) × (o ≡ Some y)
guarded true o y e = (refl, e)
guarded false o y e = absurd cc

-- a list has one more, which may stand there
record HasMore (may : Ratio → Bool) (listed : List (ℕ × Ratio)) (n : ℕ) (f : Ratio) (more : List (ℕ × Ratio)) : Type 0 where
  fits : may f ≡ true
  behind : is_behind listed n ≡ true
  is : listed ++ (n, f) ∷ [] ≡ more

has_more : (may : Ratio → Bool) (listed : List (ℕ × Ratio)) (n : ℕ) (f : Ratio) (more : List (ℕ × Ratio)) → with_more may listed n f ≡ Some more → HasMore may listed n f more
has_more may listed n f more e =
    let c = chosen (may f && is_behind listed n) (listed ++ (n, f) ∷ []) more e in
    let parts = and_parts (may f) (is_behind listed n) c.0 in
    record { fits = parts.0; behind = parts.1; is = c.1 }

positive_by : (z : ℤ) → int_lt (pos 0) z ≡ true → pos 0 <ℤ z
positive_by z e = grind (arith, ints)

not_zero_by : (z : ℤ) → not (unsigned_abs z == 0) ≡ true → z ≢ pos 0
not_zero_by z e = λ is. none (unsigned_abs z == 0) e (ap (λ z. unsigned_abs z == 0) is)
  where
    none : (b : Bool) → not b ≡ true → b ≡ true → ⊥
    none true h k = cc
    none false h k = cc

lines_more : (word : List ℕ) (listed : List (ℕ × Ratio)) (n : ℕ) (f : Ratio) → numbered_lines word (listed ++ (n, f) ∷ []) ≡ numbered_lines word listed ++ numbered_line word (n, f) ∷ []
lines_more word listed n f = map-append (numbered_line word) listed ((n, f) ∷ [])

numbers_more : (listed : List (ℕ × Ratio)) (n : ℕ) (f : Ratio) → AreNumbers listed → n < 2 ^ 32 → AreNumbers (listed ++ (n, f) ∷ [])
numbers_more listed n f all small = all_append (λ m. m.0 < 2 ^ 32) listed ((n, f) ∷ []) all (small, tt)

-- ---- values

enumerate_more : {X : Type 0} (k : ℕ) (xs : List X) (x : X) → enumerate_from k (xs ++ x ∷ []) ≡ enumerate_from k xs ++ (k + length xs, x) ∷ []
enumerate_more k [] x = ap (λ n. (n, x) ∷ []) (omega arith)
enumerate_more k (y ∷ ys) x =
    let at : k + 1 + length ys ≡ k + length (y ∷ ys) = omega arith in
    ap (λ zs. (k, y) ∷ zs) (enumerate_more (k + 1) ys x ∙ ap (λ n. enumerate_from (k + 1) ys ++ (n, x) ∷ []) at)

value_lines_more : (values : List Ratio) (f : Ratio) → body_lines (certificate.Feasible (values ++ f ∷ [])) ≡ body_lines (certificate.Feasible values) ++ numbered_line (codes "value") (length values, f) ∷ []
value_lines_more values f =
    let at : 0 + length values ≡ length values = omega arith in
    ap (λ zs. codes "feasible" ∷ numbered_lines (codes "value") zs) (enumerate_more 0 values f ∙ ap (λ n. enumerate_from 0 values ++ (n, f) ∷ []) at)
    ∙ ap (λ zs. codes "feasible" ∷ zs) (lines_more (codes "value") (enumerate_from 0 values) (length values) f)

abbrev with_values : Progress → List Ratio → Progress
with_values g values = record g { values = values }

pub value_taken : (g : Progress) (text : List ℕ) (n : ℕ) (f : Ratio) (h : Progress) → g.stage ≡ Values → IsSound g → Says text (line.Numbered Value n f) → value_more g n f ≡ Some h → Taken g text h
value_taken g text n f h stage sound says e =
    let c = chosen (n == length g.values) (with_values g (g.values ++ f ∷ [])) h e in
    let at : n ≡ length g.values = eqb-true n (length g.values) c.0 in
    let longer = length-append g.values (f ∷ []) in
    let lines : opening ∷ body_lines (certificate.Feasible (g.values ++ f ∷ [])) ≡ (opening ∷ body_lines (certificate.Feasible g.values)) ++ text ∷ [] =
    ap (λ zs. opening ∷ zs) (value_lines_more g.values f) ∙ (λ i. opening ∷ (body_lines (certificate.Feasible g.values) ++ (ap (λ k. numbered_line (codes "value") (k, f)) (sym at) ∙ sym says.1) i ∷ [])) in
    subst (Taken g text) c.1 (record {
      sound = record { few = omega (arith, says.0, at, longer); kept = sound.kept; numbers = sound.numbers; empty = subst (λ s. EmptyAt s (with_values g (g.values ++ f ∷ []))) (sym stage) tt };
      adds = added (ap (λ s. lines_at s (with_values g (g.values ++ f ∷ []))) stage ∙ lines ∙ sym (ap (λ s. lines_at s g ++ text ∷ []) stage));
    })

-- ---- multipliers

module _ (g : Progress) (sound : IsSound g) (among : lines_of g ≡ multipliers_lines g) (text : List ℕ) (n : ℕ) (f : Ratio) (h : Progress) where
  abbrev rest_lines : List (List ℕ) → List (List ℕ) → List (List ℕ) → List (List ℕ)
  rest_lines bs ls hs = opening ∷ codes "infeasible" ∷ (bs ++ (ls ++ hs))

  pub high_taken : Says text (line.Numbered High n f) → high_more g n f ≡ Some h → Taken g text h
  high_taken says e =
      let m = mapped (λ hs. record g { stage = Highs; highs = hs }) (with_more is_positive g.highs n f) h e in
      let more = has_more is_positive g.highs n f m.0 m.1 in
      let bs = numbered_lines (codes "binding") g.bindings in
      let ls = numbered_lines (codes "low") g.lows in
      let hs = numbered_lines (codes "high") g.highs in
      let grown : rest_lines bs ls (numbered_lines (codes "high") (g.highs ++ (n, f) ∷ [])) ≡ rest_lines bs ls hs ++ text ∷ [] =
      ap (rest_lines bs ls) (lines_more (codes "high") g.highs n f ∙ ap (λ t. hs ++ t ∷ []) (sym says.1)) ∙ ap (λ zs. opening ∷ codes "infeasible" ∷ zs) (ap (λ zs. bs ++ zs) (sym (append_assoc ls hs (text ∷ []))) ∙ sym (append_assoc bs (ls ++ hs) (text ∷ []))) in
      subst (Taken g text) m.2 (subst (λ hs. Taken g text (record g { stage = Highs; highs = hs })) more.is (record {
        sound = record {
          few = sound.few;
          kept = record {
            bindings_ascend = sound.kept.bindings_ascend;
            lows_ascend = sound.kept.lows_ascend;
            highs_ascend = ascends_more g.highs n f sound.kept.highs_ascend more.behind;
            bindings_count = sound.kept.bindings_count;
            lows_positive = sound.kept.lows_positive;
            highs_positive = All-push (λ m. pos 0 <ℤ m.1.num) g.highs (n, f) sound.kept.highs_positive (positive_by f.num more.fits);
          };
          numbers = record { bindings = sound.numbers.bindings; lows = sound.numbers.lows; highs = numbers_more g.highs n f sound.numbers.highs says.0 };
          empty = tt;
        };
        adds = added (grown ∙ ap (λ zs. zs ++ text ∷ []) (sym among));
      }))

  pub low_taken : (takes_lows g.stage ≡ true → g.highs ≡ []) → Says text (line.Numbered Low n f) → low_more g n f ≡ Some h → Taken g text h
  low_taken none says e =
      let open_ = guarded (takes_lows g.stage) (option_map (λ ls. record g { stage = Lows; lows = ls }) (with_more is_positive g.lows n f)) h e in
      let empty = none open_.0 in
      let m = mapped (λ ls. record g { stage = Lows; lows = ls }) (with_more is_positive g.lows n f) h open_.1 in
      let more = has_more is_positive g.lows n f m.0 m.1 in
      let bs = numbered_lines (codes "binding") g.bindings in
      let ls = numbered_lines (codes "low") g.lows in
      let no_highs : numbered_lines (codes "high") g.highs ≡ [] = ap (numbered_lines (codes "high")) empty in
      let grown : rest_lines bs (numbered_lines (codes "low") (g.lows ++ (n, f) ∷ [])) (numbered_lines (codes "high") g.highs) ≡ rest_lines bs ls (numbered_lines (codes "high") g.highs) ++ text ∷ [] =
      (λ i. rest_lines bs ((lines_more (codes "low") g.lows n f ∙ ap (λ t. ls ++ t ∷ []) (sym says.1)) i) (no_highs i))
      ∙ ap (λ zs. opening ∷ codes "infeasible" ∷ zs) (ap (λ zs. bs ++ zs) (append-nil (ls ++ text ∷ [])) ∙ sym (append_assoc bs ls (text ∷ [])) ∙ ap (λ zs. (bs ++ zs) ++ text ∷ []) (sym (append-nil ls)))
      ∙ (λ i. rest_lines bs ls (sym no_highs i) ++ text ∷ []) in
      subst (Taken g text) m.2 (subst (λ ls. Taken g text (record g { stage = Lows; lows = ls })) more.is (record {
        sound = record {
          few = sound.few;
          kept = record {
            bindings_ascend = sound.kept.bindings_ascend;
            lows_ascend = ascends_more g.lows n f sound.kept.lows_ascend more.behind;
            highs_ascend = sound.kept.highs_ascend;
            bindings_count = sound.kept.bindings_count;
            lows_positive = All-push (λ m. pos 0 <ℤ m.1.num) g.lows (n, f) sound.kept.lows_positive (positive_by f.num more.fits);
            highs_positive = sound.kept.highs_positive;
          };
          numbers = record { bindings = sound.numbers.bindings; lows = numbers_more g.lows n f sound.numbers.lows says.0; highs = sound.numbers.highs };
          empty = empty;
        };
        adds = added (grown ∙ ap (λ zs. zs ++ text ∷ []) (sym among));
      }))

  pub binding_taken : g.stage ≡ Bindings → (g.lows ≡ []) × (g.highs ≡ []) → Says text (line.Numbered Binding n f) → binding_more g n f ≡ Some h → Taken g text h
  binding_taken stage empty says e =
      let open_ = guarded (takes_bindings g.stage) (option_map (λ bs. record g { bindings = bs }) (with_more is_not_zero g.bindings n f)) h e in
      let m = mapped (λ bs. record g { bindings = bs }) (with_more is_not_zero g.bindings n f) h open_.1 in
      let more = has_more is_not_zero g.bindings n f m.0 m.1 in
      let bs = numbered_lines (codes "binding") g.bindings in
      let no_lows : numbered_lines (codes "low") g.lows ≡ [] = ap (numbered_lines (codes "low")) empty.0 in
      let no_highs : numbered_lines (codes "high") g.highs ≡ [] = ap (numbered_lines (codes "high")) empty.1 in
      let grown : rest_lines (numbered_lines (codes "binding") (g.bindings ++ (n, f) ∷ [])) (numbered_lines (codes "low") g.lows) (numbered_lines (codes "high") g.highs) ≡ rest_lines bs (numbered_lines (codes "low") g.lows) (numbered_lines (codes "high") g.highs) ++ text ∷ [] =
      (λ i. rest_lines ((lines_more (codes "binding") g.bindings n f ∙ ap (λ t. bs ++ t ∷ []) (sym says.1)) i) (no_lows i) (no_highs i))
      ∙ ap (λ zs. opening ∷ codes "infeasible" ∷ zs) (append-nil (bs ++ text ∷ []) ∙ ap (λ zs. zs ++ text ∷ []) (sym (append-nil bs)))
      ∙ (λ i. rest_lines bs (sym no_lows i) (sym no_highs i) ++ text ∷ []) in
      subst (Taken g text) m.2 (subst (λ bs. Taken g text (record g { bindings = bs })) more.is (record {
        sound = record {
          few = sound.few;
          kept = record {
            bindings_ascend = ascends_more g.bindings n f sound.kept.bindings_ascend more.behind;
            lows_ascend = sound.kept.lows_ascend;
            highs_ascend = sound.kept.highs_ascend;
            bindings_count = All-push (λ m. m.1.num ≢ pos 0) g.bindings (n, f) sound.kept.bindings_count (not_zero_by f.num more.fits);
            lows_positive = sound.kept.lows_positive;
            highs_positive = sound.kept.highs_positive;
          };
          numbers = record { bindings = numbers_more g.bindings n f sound.numbers.bindings says.0; lows = sound.numbers.lows; highs = sound.numbers.highs };
          empty = subst (λ s. EmptyAt s (record g { bindings = g.bindings ++ (n, f) ∷ [] })) (sym stage) empty;
        };
        adds = added (ap (λ s. lines_at s (record g { bindings = g.bindings ++ (n, f) ∷ [] })) stage ∙ grown ∙ ap (λ zs. zs ++ text ∷ []) (sym among));
      }))
