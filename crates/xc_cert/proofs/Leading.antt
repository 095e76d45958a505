-- Lines lead to one thing, and those of a certificate to the certificate.
use Rattle.std.proofs.Common.{◌≡◌, ◌≢◌, ◌⊎◌, ℕ, ◌+◌, ◌<◌, ◌≤◌, ◌^◌, ℤ, pos, ◌<ℤ◌, Bool, true, false, not, List, [], ◌∷◌, ◌++◌, length, Some, None, refl, sym, ap, ◌∙◌, subst, arith, append_assoc, append-nil, length-append, inl, inr}
use Rattle.std.specs.Prelude.{◌==◌, ◌&&◌, codes, int_lt, unsigned_abs}
use Rattle.std.specs.List.{AllByRecursion, enumerate_from}
use Rattle.std.specs.Option.{option_map}
use Rattle.std.proofs.lemmas.Bool.{and_from, cond-true, eq-eqb, ne_eqb}
use Rattle.std.proofs.lemmas.Int.{ints}
use Rattle.std.proofs.lemmas.List.Elements.{All-weaker, recursion_from_All}
use Rattle.xc_cert.specs.Certificates.{ArePassed, AreNumbers, IsCertificate, numbered_line, numbered_lines, certificate_lines}
use Rattle.xc_cert.specs.Steps.Lines.{Says}
use Rattle.xc_cert.specs.Steps.Reading.{Progress, no_progress, is_behind, is_not_zero, is_positive, with_more, takes_lows, before_more, more_at, after, Passes, Fits, Leads, certificate_at_end}
use Rattle.xc_cert.specs.declared.line.Line.{Line}
use Rattle.xc_cert.specs.declared.line.Line.TheVariants as line
use Rattle.xc_cert.specs.declared.line.Word.TheVariants.{Value, Binding, Low, High}
use Rattle.xc_cert.specs.declared.reader.Stage.{Stage}
use Rattle.xc_cert.specs.declared.reader.Stage.TheVariants.{Before, Opened, Values, Bindings, Lows, Highs, Solved, Refuted}
use Rattle.xc_cert.proofs.Listing.{behind_of_ascending}
use Rattle.xc_cert.proofs.Saying.{says_same}
use Rattle.xc_decimal.specs.Laws.{HasOneSpelling}
use Rattle.xc_model.specs.Ratio.{Ratio}
use Rattle.xc_system.specs.Kept.{Multipliers, IsAscending}
use Rattle.xc_system.specs.declared.types.Certificate.{Certificate}
use Rattle.xc_system.specs.declared.types.Certificate.TheVariants as certificate

some_same : {X : Type 0} (x y : X) → Some x ≡ Some y → x ≡ y
some_same x y e = cc

-- ---- lines one after another

pub leads_append : (xs ys : List (List ℕ)) (g h k : Progress) → Leads g xs h → Leads h ys k → Leads g (xs ++ ys) k
leads_append [] ys g h k a b = subst (λ s. Leads s ys k) (sym a) b
leads_append (x ∷ xs) ys g h k a b = (a.0, a.1, leads_append xs ys a.0 h k a.2 b)

-- what the first lines lead to, from which the others lead on
pub record Between (g : Progress) (xs ys : List (List ℕ)) (k : Progress) : Type 0 where
  pub middle : Progress
  pub first : Leads g xs middle
  pub second : Leads middle ys k

pub leads_split : (xs ys : List (List ℕ)) (g k : Progress) → Leads g (xs ++ ys) k → Between g xs ys k
leads_split [] ys g k a = record { middle = g; first = refl; second = a }
leads_split (x ∷ xs) ys g k a =
    let b = leads_split xs ys a.0 k a.2 in
    record { middle = b.middle; first = (a.0, a.1, b.first); second = b.second }

-- a line that is passed over changes nothing, whatever it says
before_other : (g : Progress) (l : Line) → (l ≡ line.Opening → ⊥) → before_more g l ≡ Some g
before_other g line.Opening other = absurd (other refl)
before_other g line.Feasible other = refl
before_other g line.Infeasible other = refl
before_other g line.End other = refl
before_other g (line.Numbered w n f) other = refl
before_other g line.Other other = refl

module _ (one : HasOneSpelling) where
  -- what a line leads to is what it says makes of what was read
  pub makes : (g : Progress) (text : List ℕ) (h : Progress) (l : Line) → Passes g text h ⊎ Fits g text h → Says text l → after g l ≡ Some h
  makes g text h l (inl p) says =
      let other = before_other g l (λ is. p.other (subst (Says text) is says)) in
      ap (λ s. more_at s g l) p.stage ∙ other ∙ ap (λ (k : Progress). Some k) (sym p.same)
  makes g text h l (inr f) says = ap (λ k. after g k) (says_same one text l f.line says f.says) ∙ f.makes

  one_step : (g : Progress) (text : List ℕ) (h k : Progress) → Passes g text h ⊎ Fits g text h → Passes g text k ⊎ Fits g text k → h ≡ k
  one_step g text h k (inl p) (inl q) = p.same ∙ sym q.same
  one_step g text h k (inl p) (inr f) = some_same h k (sym (makes g text h f.line (inl p) f.says) ∙ f.makes)
  one_step g text h k (inr f) q = some_same h k (sym f.makes ∙ makes g text k f.line q f.says)

  pub leads_same : (xs : List (List ℕ)) (g h k : Progress) → Leads g xs h → Leads g xs k → h ≡ k
  leads_same [] g h k a b = sym a ∙ b
  leads_same (x ∷ xs) g h k a b = leads_same xs a.0 h k a.2 (subst (λ s. Leads s xs k) (sym (one_step g x a.0 b.0 a.1 b.1)) b.2)

-- ---- the lines of a certificate

abbrev gather : Stage → List Ratio → List (ℕ × Ratio) → List (ℕ × Ratio) → List (ℕ × Ratio) → Progress
gather stage values bindings lows highs = record { stage = stage; values = values; bindings = bindings; lows = lows; highs = highs }

-- behind the end of a certificate
abbrev pub done : Certificate → Progress
done (certificate.Feasible values) = gather Solved values [] [] []
done (certificate.Infeasible r) = gather Refuted [] r.bindings r.lows r.highs

pub ended_done : (c : Certificate) → certificate_at_end (done c) ≡ Some c
ended_done (certificate.Feasible values) = refl
ended_done (certificate.Infeasible r) = refl

passed_lead : (passed : List (List ℕ)) → ArePassed passed → Leads no_progress passed no_progress
passed_lead [] a = refl
passed_lead (text ∷ texts) a = (no_progress, inl (record { stage = refl; other = a.0.1; same = refl }), passed_lead texts a.1)

values_lead : (vs ws : List Ratio) (k : ℕ) → k ≡ length vs → k + length ws ≤ 2 ^ 32 → Leads (gather Values vs [] [] []) (numbered_lines (codes "value") (enumerate_from k ws)) (gather Values (vs ++ ws) [] [] [])
values_lead vs [] k at small = ap (λ vs. gather Values vs [] [] []) (sym (append-nil vs))
values_lead vs (w ∷ ws) k at small =
    let longer = length-append vs (w ∷ []) in
    let rest = values_lead (vs ++ w ∷ []) ws (k + 1) (omega (arith, at, longer)) (omega (arith, small)) in (
      gather Values (vs ++ w ∷ []) [] [] [],
      inr (record { line = line.Numbered Value k w; says = (omega (arith, small), refl); makes = cond-true (k == length vs) (Some (gather Values (vs ++ w ∷ []) [] [] [])) None (eq-eqb k (length vs) at) }),
      subst (λ us. Leads (gather Values (vs ++ w ∷ []) [] [] []) (numbered_lines (codes "value") (enumerate_from (k + 1) ws)) (gather Values us [] [] [])) (append_assoc vs (w ∷ []) ws) rest,
    )

-- a list that grows by lines, one after another
module _ (word : List ℕ) (may : Ratio → Bool) (Has : Progress → List (ℕ × Ratio) → Type 0) (grows : (g : Progress) (listed : List (ℕ × Ratio)) (n : ℕ) (f : Ratio) → Has g listed → n < 2 ^ 32 → with_more may listed n f ≡ Some (listed ++ (n, f) ∷ []) → (h : Progress) × Fits g (numbered_line word (n, f)) h × Has h (listed ++ (n, f) ∷ [])) where
  list_leads : (listed more : List (ℕ × Ratio)) (g : Progress) → Has g listed → IsAscending (listed ++ more) → AllByRecursion (λ m. may m.1 ≡ true) more → AreNumbers more → (h : Progress) × Leads g (numbered_lines word more) h × Has h (listed ++ more)
  list_leads listed [] g has up may_all small = (g, refl, subst (Has g) (sym (append-nil listed)) has)
  list_leads listed (m ∷ ms) g has up may_all small =
      let fits = cond-true (may m.1 && is_behind listed m.0) (Some (listed ++ m ∷ [])) None (and_from (may m.1) (is_behind listed m.0) may_all.0 (behind_of_ascending listed m ms up)) in
      let step = grows g listed m.0 m.1 has small.0 fits in
      let rest = list_leads (listed ++ m ∷ []) ms step.0 step.2 (subst IsAscending (sym (append_assoc listed (m ∷ []) ms)) up) may_all.1 small.1 in
      (rest.0, (step.0, inr step.1, rest.1), subst (Has rest.0) (append_assoc listed (m ∷ []) ms) rest.2)

HasBindings : Progress → List (ℕ × Ratio) → Type 0
HasBindings g bs = g ≡ gather Bindings [] bs [] []

bindings_grow : (g : Progress) (bs : List (ℕ × Ratio)) (n : ℕ) (f : Ratio) → HasBindings g bs → n < 2 ^ 32 → with_more is_not_zero bs n f ≡ Some (bs ++ (n, f) ∷ []) → (h : Progress) × Fits g (numbered_line (codes "binding") (n, f)) h × HasBindings h (bs ++ (n, f) ∷ [])
unfolding HasBindings
bindings_grow g bs n f has small fits = (
  gather Bindings [] (bs ++ (n, f) ∷ []) [] [],
  subst (λ g. Fits g (numbered_line (codes "binding") (n, f)) (gather Bindings [] (bs ++ (n, f) ∷ []) [] [])) (sym has) (record { line = line.Numbered Binding n f; says = (small, refl); makes = ap (option_map (λ bs. gather Bindings [] bs [] [])) fits }),
  refl,
)

record HasLows (bs : List (ℕ × Ratio)) (g : Progress) (ls : List (ℕ × Ratio)) : Type 0 where
  stage : Stage
  takes : takes_lows stage ≡ true
  is : g ≡ gather stage [] bs ls []

low_makes : (s : Stage) (bs ls : List (ℕ × Ratio)) (n : ℕ) (f : Ratio) → takes_lows s ≡ true → with_more is_positive ls n f ≡ Some (ls ++ (n, f) ∷ []) → after (gather s [] bs ls []) (line.Numbered Low n f) ≡ Some (gather Lows [] bs (ls ++ (n, f) ∷ []) [])
low_makes Bindings bs ls n f takes fits = ap (option_map (λ ls. gather Lows [] bs ls [])) fits
low_makes Lows bs ls n f takes fits = ap (option_map (λ ls. gather Lows [] bs ls [])) fits
low_makes Before bs ls n f takes fits = absurd cc
low_makes Opened bs ls n f takes fits = absurd cc
low_makes Values bs ls n f takes fits = absurd cc
low_makes Highs bs ls n f takes fits = absurd cc
low_makes Solved bs ls n f takes fits = absurd cc
low_makes Refuted bs ls n f takes fits = absurd cc

lows_grow : (bs : List (ℕ × Ratio)) (g : Progress) (ls : List (ℕ × Ratio)) (n : ℕ) (f : Ratio) → HasLows bs g ls → n < 2 ^ 32 → with_more is_positive ls n f ≡ Some (ls ++ (n, f) ∷ []) → (h : Progress) × Fits g (numbered_line (codes "low") (n, f)) h × HasLows bs h (ls ++ (n, f) ∷ [])
lows_grow bs g ls n f has small fits = (
  gather Lows [] bs (ls ++ (n, f) ∷ []) [],
  subst (λ g. Fits g (numbered_line (codes "low") (n, f)) (gather Lows [] bs (ls ++ (n, f) ∷ []) [])) (sym has.is) (record { line = line.Numbered Low n f; says = (small, refl); makes = low_makes has.stage bs ls n f has.takes fits }),
  record { stage = Lows; takes = refl; is = refl },
)

-- among multipliers
abbrev is_among : Stage → Bool
is_among Bindings = true
is_among Lows = true
is_among Highs = true
is_among _ = false

record HasHighs (bs ls : List (ℕ × Ratio)) (g : Progress) (hs : List (ℕ × Ratio)) : Type 0 where
  stage : Stage
  among : is_among stage ≡ true
  is : g ≡ gather stage [] bs ls hs

high_makes : (s : Stage) (bs ls hs : List (ℕ × Ratio)) (n : ℕ) (f : Ratio) → is_among s ≡ true → with_more is_positive hs n f ≡ Some (hs ++ (n, f) ∷ []) → after (gather s [] bs ls hs) (line.Numbered High n f) ≡ Some (gather Highs [] bs ls (hs ++ (n, f) ∷ []))
high_makes Bindings bs ls hs n f among fits = ap (option_map (λ hs. gather Highs [] bs ls hs)) fits
high_makes Lows bs ls hs n f among fits = ap (option_map (λ hs. gather Highs [] bs ls hs)) fits
high_makes Highs bs ls hs n f among fits = ap (option_map (λ hs. gather Highs [] bs ls hs)) fits
high_makes Before bs ls hs n f among fits = absurd cc
high_makes Opened bs ls hs n f among fits = absurd cc
high_makes Values bs ls hs n f among fits = absurd cc
high_makes Solved bs ls hs n f among fits = absurd cc
high_makes Refuted bs ls hs n f among fits = absurd cc

highs_grow : (bs ls : List (ℕ × Ratio)) (g : Progress) (hs : List (ℕ × Ratio)) (n : ℕ) (f : Ratio) → HasHighs bs ls g hs → n < 2 ^ 32 → with_more is_positive hs n f ≡ Some (hs ++ (n, f) ∷ []) → (h : Progress) × Fits g (numbered_line (codes "high") (n, f)) h × HasHighs bs ls h (hs ++ (n, f) ∷ [])
highs_grow bs ls g hs n f has small fits = (
  gather Highs [] bs ls (hs ++ (n, f) ∷ []),
  subst (λ g. Fits g (numbered_line (codes "high") (n, f)) (gather Highs [] bs ls (hs ++ (n, f) ∷ []))) (sym has.is) (record { line = line.Numbered High n f; says = (small, refl); makes = high_makes has.stage bs ls hs n f has.among fits }),
  record { stage = Highs; among = refl; is = refl },
)

end_makes : (s : Stage) (bs ls hs : List (ℕ × Ratio)) → is_among s ≡ true → after (gather s [] bs ls hs) line.End ≡ Some (gather Refuted [] bs ls hs)
end_makes Bindings bs ls hs among = refl
end_makes Lows bs ls hs among = refl
end_makes Highs bs ls hs among = refl
end_makes Before bs ls hs among = absurd cc
end_makes Opened bs ls hs among = absurd cc
end_makes Values bs ls hs among = absurd cc
end_makes Solved bs ls hs among = absurd cc
end_makes Refuted bs ls hs among = absurd cc

end_leads : (bs ls hs : List (ℕ × Ratio)) (g : Progress) → HasHighs bs ls g hs → Leads g (codes "end" ∷ []) (gather Refuted [] bs ls hs)
end_leads bs ls hs g has =
    subst (λ g. Leads g (codes "end" ∷ []) (gather Refuted [] bs ls hs)) (sym has.is) (gather Refuted [] bs ls hs, inr (record { line = line.End; says = refl; makes = end_makes has.stage bs ls hs has.among }), refl)

then_among : (s : Stage) → takes_lows s ≡ true → is_among s ≡ true
then_among Bindings takes = refl
then_among Lows takes = refl
then_among Before takes = absurd cc
then_among Opened takes = absurd cc
then_among Values takes = absurd cc
then_among Highs takes = absurd cc
then_among Solved takes = absurd cc
then_among Refuted takes = absurd cc

positive : (f : Ratio) → pos 0 <ℤ f.num → is_positive f ≡ true
positive f h = by f.num h
  where
    by : (z : ℤ) → pos 0 <ℤ z → int_lt (pos 0) z ≡ true
    by z h = grind (arith, ints)

not_zero : (f : Ratio) → f.num ≢ pos 0 → is_not_zero f ≡ true
not_zero f h = ap not (ne_eqb (unsigned_abs f.num) 0 (λ e. h (omega (arith, ints, e))))

feasible_leads : (values : List Ratio) → length values ≤ 2 ^ 32 → Leads no_progress (certificate_lines (certificate.Feasible values)) (done (certificate.Feasible values))
feasible_leads values small = (
  gather Opened [] [] [] [],
  inr (record { line = line.Opening; says = refl; makes = refl }),
  (
    gather Values [] [] [] [],
    inr (record { line = line.Feasible; says = refl; makes = refl }),
    leads_append (numbered_lines (codes "value") (enumerate_from 0 values)) (codes "end" ∷ []) (gather Values [] [] [] []) (gather Values values [] [] []) (gather Solved values [] [] [])
        (values_lead [] values 0 refl (omega (arith, small)))
        (gather Solved values [] [] [], inr (record { line = line.End; says = refl; makes = refl }), refl),
  ),
)

infeasible_leads : (r : Multipliers) → IsCertificate (certificate.Infeasible r) → Leads no_progress (certificate_lines (certificate.Infeasible r)) (done (certificate.Infeasible r))
unfolding HasBindings
infeasible_leads r sound =
    let kept = sound.0 in
    let bs_count = recursion_from_All (λ m. is_not_zero m.1 ≡ true) r.bindings (All-weaker (λ m. m.1.num ≢ pos 0) (λ m. is_not_zero m.1 ≡ true) (λ m h. not_zero m.1 h) r.bindings kept.bindings_count) in
    let ls_count = recursion_from_All (λ m. is_positive m.1 ≡ true) r.lows (All-weaker (λ m. pos 0 <ℤ m.1.num) (λ m. is_positive m.1 ≡ true) (λ m h. positive m.1 h) r.lows kept.lows_positive) in
    let hs_count = recursion_from_All (λ m. is_positive m.1 ≡ true) r.highs (All-weaker (λ m. pos 0 <ℤ m.1.num) (λ m. is_positive m.1 ≡ true) (λ m h. positive m.1 h) r.highs kept.highs_positive) in
    let first = list_leads (codes "binding") is_not_zero HasBindings bindings_grow [] r.bindings (gather Bindings [] [] [] []) refl kept.bindings_ascend bs_count sound.1.bindings in
    let second = list_leads (codes "low") is_positive (HasLows r.bindings) (lows_grow r.bindings) [] r.lows first.0 (record { stage = Bindings; takes = refl; is = first.2 }) kept.lows_ascend ls_count sound.1.lows in
    let third = list_leads (codes "high") is_positive (HasHighs r.bindings r.lows) (highs_grow r.bindings r.lows) [] r.highs second.0 (record { stage = second.2.stage; among = then_among second.2.stage second.2.takes; is = second.2.is }) kept.highs_ascend hs_count sound.1.highs in
    let last = end_leads r.bindings r.lows r.highs third.0 third.2 in
    let bs = numbered_lines (codes "binding") r.bindings in
    let ls = numbered_lines (codes "low") r.lows in
    let hs = numbered_lines (codes "high") r.highs in (
      gather Opened [] [] [] [],
      inr (record { line = line.Opening; says = refl; makes = refl }),
      (
        gather Bindings [] [] [] [],
        inr (record { line = line.Infeasible; says = refl; makes = refl }),
        leads_append (bs ++ (ls ++ hs)) (codes "end" ∷ []) (gather Bindings [] [] [] []) third.0 (done (certificate.Infeasible r))
            (leads_append bs (ls ++ hs) (gather Bindings [] [] [] []) first.0 third.0 first.1 (leads_append ls hs first.0 second.0 third.0 second.1 third.1))
            last,
      ),
    )

certificate_leads : (c : Certificate) → IsCertificate c → Leads no_progress (certificate_lines c) (done c)
certificate_leads (certificate.Feasible values) sound = feasible_leads values sound
certificate_leads (certificate.Infeasible r) sound = infeasible_leads r sound

-- the lines of a certificate, behind any that are passed over, lead to it
pub complete : (passed : List (List ℕ)) (c : Certificate) → ArePassed passed → IsCertificate c → Leads no_progress (passed ++ certificate_lines c) (done c)
complete passed c a sound = leads_append passed (certificate_lines c) no_progress no_progress (done c) (passed_lead passed a) (certificate_leads c sound)
