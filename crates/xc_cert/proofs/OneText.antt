-- Bytes are a text of one certificate, or have one line at fault.
use Rattle.std.proofs.Common.{◌≡◌, ℕ, ◌+◌, ◌<◌, ◌≤◌, ◌^◌, List, [], ◌∷◌, ◌++◌, length, Some, refl, sym, ap, ◌∙◌, subst, arith, append_assoc, append-nil, length-append, inl, inr, lit<}
use Rattle.std.specs.Prelude.{codes, decimal}
use Rattle.std.specs.List.{enumerate_from}
use Rattle.std.proofs.lemmas.Bool.{cases_lt}
use Rattle.xc_cert.specs.Certificates.{AreNumbers, IsPassed, ArePassed, IsCertificate, IsTextOf, opening, numbered_line, numbered_lines, certificate_lines, certificate_text}
use Rattle.xc_lists.specs.TextLines.{IsLine, AreLines, text_of}
use Rattle.xc_cert.specs.Faults.{Begin, IsFaultAt}
use Rattle.xc_cert.specs.Laws.{OneCertificate, TextOrFault, OneFault, WrittenIsText, PassedTextsJoin}
use Rattle.xc_cert.specs.Steps.Reading.{Progress, no_progress, Leads, certificate_at_end}
use Rattle.xc_lists.proofs.Cutting.{text_of-append, Continues, lines_meet, lines_within, lines_whole}
use Rattle.xc_cert.proofs.Lacking.{spelling_lacks}
use Rattle.xc_lists.proofs.Lacking.{all_append, all_back, lacks_append, lacks_by, decimal_lacks}
use Rattle.xc_cert.proofs.Leading.{leads_same, leads_split, done, ended_done, complete}
use Rattle.xc_cert.proofs.Saying.{few}
use Rattle.xc_decimal.specs.Laws.{HasOneSpelling}
use Rattle.xc_decimal.specs.Spelling.{spelling}
use Rattle.xc_model.specs.Ratio.{Ratio}
use Rattle.xc_system.specs.declared.types.Certificate.{Certificate}
use Rattle.xc_system.specs.declared.types.Certificate.TheVariants.{Feasible, Infeasible}

-- ---- the lines of a certificate are lines

numbered_is_line : (word : List ℕ) (m : ℕ × Ratio) → IsLine word → m.0 < 2 ^ 32 → IsLine (numbered_line word m)
numbered_is_line word m is small =
    let low : 10 < 45 = lit< tt in
    let space = lacks_by 10 (codes " ") refl in
    lacks_append 10 (word ++ codes " " ++ decimal m.0 ++ codes " ") (spelling m.1)
    (lacks_append 10 (word ++ codes " " ++ decimal m.0) (codes " ") (lacks_append 10 (word ++ codes " ") (decimal m.0) (lacks_append 10 word (codes " ") is space) (decimal_lacks 10 low m.0 (few m.0 small))) space)
    (spelling_lacks 10 low m.1)

numbered_are_lines : (word : List ℕ) (listed : List (ℕ × Ratio)) → IsLine word → AreNumbers listed → AreLines (numbered_lines word listed)
numbered_are_lines word [] is small = tt
numbered_are_lines word (m ∷ ms) is small = (numbered_is_line word m is small.0, numbered_are_lines word ms is small.1)

values_are_numbers : (k : ℕ) (values : List Ratio) → k + length values ≤ 2 ^ 32 → AreNumbers (enumerate_from k values)
values_are_numbers k [] small = tt
values_are_numbers k (v ∷ vs) small = (omega (arith, small), values_are_numbers (k + 1) vs (omega (arith, small)))

between : (first last : List ℕ) (middle : List (List ℕ)) → IsLine first → AreLines middle → IsLine last → AreLines (first ∷ (middle ++ last ∷ []))
between first last middle a b c = (a, all_append IsLine middle (last ∷ []) b (c, tt))

certificate_are_lines : (c : Certificate) → IsCertificate c → AreLines (certificate_lines c)
certificate_are_lines (Feasible values) sound =
    between opening (codes "end") (codes "feasible" ∷ numbered_lines (codes "value") (enumerate_from 0 values)) (lacks_by 10 opening refl)
    (lacks_by 10 (codes "feasible") refl, numbered_are_lines (codes "value") (enumerate_from 0 values) (lacks_by 10 (codes "value") refl) (values_are_numbers 0 values (omega (arith, sound))))
    (lacks_by 10 (codes "end") refl)
certificate_are_lines (Infeasible r) sound =
    let bs = numbered_are_lines (codes "binding") r.bindings (lacks_by 10 (codes "binding") refl) sound.1.bindings in
    let ls = numbered_are_lines (codes "low") r.lows (lacks_by 10 (codes "low") refl) sound.1.lows in
    let hs = numbered_are_lines (codes "high") r.highs (lacks_by 10 (codes "high") refl) sound.1.highs in
    between opening (codes "end") (codes "infeasible" ∷ (numbered_lines (codes "binding") r.bindings ++ (numbered_lines (codes "low") r.lows ++ numbered_lines (codes "high") r.highs))) (lacks_by 10 opening refl)
    (lacks_by 10 (codes "infeasible") refl, all_append IsLine _ _ bs (all_append IsLine _ _ ls hs))
    (lacks_by 10 (codes "end") refl)

passed_are_lines : (lines : List (List ℕ)) → ArePassed lines → AreLines lines
passed_are_lines [] a = tt
passed_are_lines (x ∷ xs) a = (a.0.0, passed_are_lines xs a.1)

-- all lines of a text
abbrev pub all_lines : (bytes : List ℕ) (c : Certificate) → IsTextOf bytes c → List (List ℕ)
all_lines bytes c t = t.passed ++ certificate_lines c

pub text_are_lines : (bytes : List ℕ) (c : Certificate) (t : IsTextOf bytes c) → AreLines (all_lines bytes c t)
text_are_lines bytes c t = all_append IsLine t.passed (certificate_lines c) (passed_are_lines t.passed t.are_passed) (certificate_are_lines c t.sound)

pub text_leads : (bytes : List ℕ) (c : Certificate) (t : IsTextOf bytes c) → Leads no_progress (all_lines bytes c t) (done c)
text_leads bytes c t = complete t.passed c t.are_passed t.sound

some_same : {X : Type 0} (x y : X) → Some x ≡ Some y → x ≡ y
some_same x y e = cc

same_done : (c d : Certificate) → done c ≡ done d → c ≡ d
same_done c d e = some_same c d (sym (ended_done c) ∙ ap certificate_at_end e ∙ ended_done d)

module _ (one : HasOneSpelling) where
  pub one_certificate : OneCertificate
  one_certificate bytes c d s t =
      let same = lines_whole (all_lines bytes c s) (all_lines bytes d t) [] (text_are_lines bytes c s) (text_are_lines bytes d t) tt (append-nil (text_of (all_lines bytes c s)) ∙ sym s.is ∙ t.is) in
      same_done c d (leads_same one (all_lines bytes c s) no_progress (done c) (done d) (text_leads bytes c s) (subst (λ zs. Leads no_progress zs (done d)) same.0 (text_leads bytes d t)))

  -- where lines begin a text, they lead to something
  pub begin_leads : (lines : List (List ℕ)) → AreLines lines → Begin lines → (h : Progress) × Leads no_progress lines h
  begin_leads lines a b =
      let m = lines_within lines (all_lines _ b.certificate b.text) b.more a (text_are_lines _ b.certificate b.text) b.text.is in
      let split = leads_split lines m.more no_progress (done b.certificate) (subst (λ zs. Leads no_progress zs (done b.certificate)) m.lines (text_leads _ b.certificate b.text)) in
      (split.middle, split.first)

pub text_or_fault : TextOrFault
text_or_fault bytes c n t f = f.no_text c t

-- a line that follows lines, where those lines and more begin a text
begin_front : (xs : List (List ℕ)) (y : List ℕ) (ys : List (List ℕ)) → Begin (xs ++ y ∷ ys) → Begin (xs ++ y ∷ [])
begin_front xs y ys b =
    let regroup : text_of (xs ++ y ∷ ys) ++ b.more ≡ text_of (xs ++ y ∷ []) ++ (text_of ys ++ b.more) =
    ap (λ zs. text_of zs ++ b.more) (sym (append_assoc xs (y ∷ []) ys)) ∙ ap (λ t. t ++ b.more) (text_of-append (xs ++ y ∷ []) ys) ∙ append_assoc (text_of (xs ++ y ∷ [])) (text_of ys) b.more in
    record { more = text_of ys ++ b.more; certificate = b.certificate; text = subst (λ t. IsTextOf t b.certificate) regroup b.text }

-- no fault stands behind another
not_later : (bytes : List ℕ) (m n : ℕ) (f : IsFaultAt bytes m) (g : IsFaultAt bytes n) → m < n → Continues f.before g.before f.rest g.rest → ⊥
not_later bytes m n f g less c = by c.more refl
  where
    by : (zs : List (List ℕ)) → c.more ≡ zs → ⊥
    by [] e = let same : g.before ≡ f.before = c.lines ∙ ap (λ zs. f.before ++ zs) e ∙ append-nil f.before in omega (arith, less, f.number, g.number, ap length same)
    by (y ∷ ys) e =
        let longer : g.before ≡ f.before ++ y ∷ ys = c.lines ∙ ap (λ zs. f.before ++ zs) e in
        let is_line = (all_back IsLine f.before (y ∷ ys) (subst AreLines longer g.are_lines)).0 in
        let rest : f.rest ≡ y ++ codes "\n" ++ (text_of ys ++ g.rest) = c.rest ∙ ap (λ zs. text_of zs ++ g.rest) e ∙ append_assoc (y ++ codes "\n") (text_of ys) g.rest in
        f.unfit y (text_of ys ++ g.rest) is_line rest (begin_front f.before y ys (subst Begin longer g.begin))

not_before : (bytes : List ℕ) (m n : ℕ) (f : IsFaultAt bytes m) (g : IsFaultAt bytes n) → m < n → ⊥
not_before bytes m n f g less = elim (lines_meet f.before g.before f.rest g.rest f.are_lines g.are_lines (sym f.cut ∙ g.cut)) [
  | inl c ↦ not_later bytes m n f g less c
  | inr c ↦ let longer = length-append g.before c.more in omega (arith, less, f.number, g.number, ap length c.lines, longer)
]

pub one_fault : OneFault
one_fault bytes m n f g = elim (cases_lt m n) [
  | inl less ↦ absurd (not_before bytes m n f g less)
  | inr more ↦ elim (cases_lt n m) [ inl less ↦ absurd (not_before bytes n m g f less) | inr less ↦ omega arith ]
]

pub written_is_text : WrittenIsText
written_is_text front c p sound = record { sound = sound; passed = p.lines; are_passed = p.are_passed; is = ap (λ t. t ++ certificate_text c) p.is ∙ sym (text_of-append p.lines (certificate_lines c)) }

pub passed_texts_join : PassedTextsJoin
passed_texts_join one other p q = record { lines = p.lines ++ q.lines; are_passed = all_append IsPassed p.lines q.lines p.are_passed q.are_passed; is = (λ i. p.is i ++ q.is i) ∙ sym (text_of-append p.lines q.lines) }
