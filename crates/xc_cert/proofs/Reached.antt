-- How far a text was read, and what is answered there.
use Rattle.std.proofs.Common.{◌≡◌, ◌≢◌, ℕ, ◌+◌, ◌≤◌, Bool, true, false, List, [], ◌∷◌, ◌++◌, length, Option, Some, None, refl, sym, ap, ◌∙◌, subst, arith, append_assoc, append-nil, length-append, inr}
use Rattle.std.specs.Prelude.{◌==◌, codes}
use Rattle.std.proofs.lemmas.Bool.{eqb-true}
use Rattle.std.proofs.lemmas.List.{nil_from_length}
use Rattle.xc_cert.specs.Certificates.{IsCertificate, IsTextOf, certificate_lines}
use Rattle.xc_lists.specs.TextLines.{IsLine, text_of}
use Rattle.xc_cert.specs.Faults.{Begin, IsFaultAt}
use Rattle.xc_cert.specs.Steps.Lines.{IsCut, Says}
use Rattle.xc_lists.specs.Members.{Lacks}
use Rattle.xc_cert.specs.Steps.Reading.{Progress, no_progress, after, Leads, IsReached, Takes, at_end, certificate_at_end, refutation_of}
use Rattle.xc_cert.specs.declared.line.Line.{Line}
use Rattle.xc_cert.specs.declared.reader.Stage.{Stage}
use Rattle.xc_cert.specs.declared.reader.Stage.TheVariants.{Before, Opened, Values, Bindings, Lows, Highs, Solved, Refuted}
use Rattle.xc_lists.proofs.Cutting.{cut_same, not_there, text_of-append, lines_whole}
use Rattle.xc_lists.proofs.Lacking.{all_append}
use Rattle.xc_cert.proofs.Leading.{leads_append, leads_split, leads_same, makes, done, ended_done}
use Rattle.xc_cert.proofs.OneText.{all_lines, text_are_lines, text_leads, begin_leads}
use Rattle.xc_cert.proofs.Standing.{Stands, stands}
use Rattle.xc_cert.proofs.Taking.{IsSound, lines_at, lines_of}
use Rattle.xc_decimal.specs.Laws.{HasOneSpelling}
use Rattle.xc_system.specs.declared.types.Certificate.{Certificate}
use Rattle.xc_system.specs.declared.types.Certificate.TheVariants.{Feasible, Infeasible}

-- ---- what is read can become a certificate

-- with some lines more, it says one
record Completes (g : Progress) (lines : List (List ℕ)) : Type 0 where
  more : List (List ℕ)
  certificate : Certificate
  sound : IsCertificate certificate
  is : lines ++ more ≡ certificate_lines certificate

completes_at : (s : Stage) (g : Progress) → IsSound g → Completes g (lines_at s g)
completes_at Before g sound = record { more = certificate_lines (Feasible []); certificate = Feasible []; sound = omega arith; is = refl }
completes_at Opened g sound = record { more = codes "feasible" ∷ codes "end" ∷ []; certificate = Feasible []; sound = omega arith; is = refl }
completes_at Values g sound = record { more = codes "end" ∷ []; certificate = Feasible g.values; sound = sound.few; is = refl }
completes_at Bindings g sound = record { more = codes "end" ∷ []; certificate = Infeasible (refutation_of g); sound = (sound.kept, sound.numbers); is = refl }
completes_at Lows g sound = record { more = codes "end" ∷ []; certificate = Infeasible (refutation_of g); sound = (sound.kept, sound.numbers); is = refl }
completes_at Highs g sound = record { more = codes "end" ∷ []; certificate = Infeasible (refutation_of g); sound = (sound.kept, sound.numbers); is = refl }
completes_at Solved g sound = record { more = []; certificate = Feasible g.values; sound = sound.few; is = append-nil (certificate_lines (Feasible g.values)) }
completes_at Refuted g sound = record { more = []; certificate = Infeasible (refutation_of g); sound = (sound.kept, sound.numbers); is = append-nil (certificate_lines (Infeasible (refutation_of g))) }

-- what was read to its end is sound, and says its certificate
record IsDone (g : Progress) (lines : List (List ℕ)) (c : Certificate) : Type 0 where
  sound : IsCertificate c
  is : lines ≡ certificate_lines c

none_some : {X : Type 0} (x : X) → ◌≡◌ {A = Option X} None (Some x) → ⊥
none_some x e = cc

some_same : {X : Type 0} (x y : X) → Some x ≡ Some y → x ≡ y
some_same x y e = cc

done_at : (s : Stage) (g : Progress) (c : Certificate) → IsSound g → at_end s g ≡ Some c → IsDone g (lines_at s g) c
done_at Solved g c sound e = subst (IsDone g (certificate_lines (Feasible g.values))) (some_same (Feasible g.values) c e) (record { sound = sound.few; is = refl })
done_at Refuted g c sound e = subst (IsDone g (certificate_lines (Infeasible (refutation_of g)))) (some_same (Infeasible (refutation_of g)) c e) (record { sound = (sound.kept, sound.numbers); is = refl })
done_at Before g c sound e = absurd (none_some c e)
done_at Opened g c sound e = absurd (none_some c e)
done_at Values g c sound e = absurd (none_some c e)
done_at Bindings g c sound e = absurd (none_some c e)
done_at Lows g c sound e = absurd (none_some c e)
done_at Highs g c sound e = absurd (none_some c e)

pub reached_none : (bytes : List ℕ) → IsReached bytes bytes 1 no_progress
reached_none bytes = record { before = []; are_lines = tt; cut = refl; number_is = omega arith; leads = refl }

with_line : (before : List (List ℕ)) (line rest more : List ℕ) → rest ≡ line ++ 10 ∷ more → text_of before ++ rest ≡ text_of (before ++ line ∷ []) ++ more
with_line before line rest more e =
    let last : text_of (line ∷ []) ++ more ≡ line ++ 10 ∷ more = ap (λ t. t ++ more) (append-nil (line ++ codes "\n")) ∙ append_assoc line (codes "\n") more in
    ap (λ r. text_of before ++ r) (e ∙ sym last) ∙ sym (append_assoc (text_of before) (text_of (line ∷ [])) more) ∙ ap (λ t. t ++ more) (sym (text_of-append before (line ∷ [])))

pub reached_more : (bytes rest line more : List ℕ) (n : ℕ) (g h : Progress) (l : Line) → IsReached bytes rest n g → IsCut 10 rest (Some (line, more)) → Says line l → after g l ≡ Some h → IsReached bytes more (n + 1) h
reached_more bytes rest line more n g h l r cut says e =
    let longer = length-append r.before (line ∷ []) in
    record {
      before = r.before ++ line ∷ [];
      are_lines = all_append IsLine r.before (line ∷ []) r.are_lines (cut.0, tt);
      cut = r.cut ∙ with_line r.before line rest more cut.1;
      number_is = omega (arith, r.number_is, longer);
      leads = leads_append r.before (line ∷ []) no_progress g h r.leads (h, inr (record { line = l; says = says; makes = e }), refl);
    }

module _ (one : HasOneSpelling) (bytes rest : List ℕ) (n : ℕ) (g : Progress) (r : IsReached bytes rest n g) where
  standing : Stands one r.before g
  standing = stands one r.before g r.are_lines r.leads

  pub reached_sound : IsSound g
  reached_sound = standing.sound

  begin : Begin r.before
  begin =
      let c = completes_at g.stage g standing.sound in
      let whole : r.before ++ c.more ≡ standing.front ++ certificate_lines c.certificate = ap (λ zs. zs ++ c.more) standing.is ∙ append_assoc standing.front (lines_of g) c.more ∙ ap (λ zs. standing.front ++ zs) c.is in
      record {
        more = text_of c.more;
        certificate = c.certificate;
        text = record { sound = c.sound; passed = standing.front; are_passed = standing.are_passed; is = sym (text_of-append r.before c.more) ∙ ap text_of whole };
      }

  -- at the end of the bytes, and of a certificate
  pub reached_text : (c : Certificate) → rest ≡ [] → certificate_at_end g ≡ Some c → IsTextOf bytes c
  reached_text c none e =
      let d = done_at g.stage g c standing.sound e in
      record {
        sound = d.sound;
        passed = standing.front;
        are_passed = standing.are_passed;
        is = r.cut ∙ ap (λ t. text_of r.before ++ t) none ∙ append-nil (text_of r.before) ∙ ap text_of (standing.is ∙ ap (λ zs. standing.front ++ zs) d.is);
      }

  -- a text whose lines these are ends with them
  ends_here : Lacks 10 rest → (c : Certificate) → IsTextOf bytes c → (rest ≡ []) × (certificate_at_end g ≡ Some c)
  ends_here none c t =
      let same = lines_whole r.before (all_lines bytes c t) rest r.are_lines (text_are_lines bytes c t) none (sym r.cut ∙ t.is) in
      let one_end = leads_same one r.before no_progress g (done c) r.leads (subst (λ zs. Leads no_progress zs (done c)) same.0 (text_leads bytes c t)) in
      (same.1, ap certificate_at_end one_end ∙ ended_done c)

  -- lines are wanting, or the last one is not finished
  pub fault_at_end : Lacks 10 rest → (rest ≡ [] → certificate_at_end g ≡ None) → IsFaultAt bytes n
  fault_at_end none open_ = record {
    before = r.before;
    rest = rest;
    are_lines = r.are_lines;
    cut = r.cut;
    number = r.number_is;
    begin = begin;
    no_text = λ c t. let e = ends_here none c t in none_some c (sym (open_ e.0) ∙ e.1);
    unfit = λ line more is_line e b. not_there 10 line more rest none (e ∙ append_assoc line (codes "\n") more);
  }

  module _ (line more : List ℕ) (l : Line) (cut : IsCut 10 rest (Some (line, more))) (says : Says line l) (unfit_ : after g l ≡ None) where
    not_begun : ¬ Begin (r.before ++ line ∷ [])
    not_begun b =
        let led = begin_leads one (r.before ++ line ∷ []) (all_append IsLine r.before (line ∷ []) r.are_lines (cut.0, tt)) b in
        let split = leads_split r.before (line ∷ []) no_progress led.0 led.1 in
        let step = subst (λ k. Leads k (line ∷ []) led.0) (sym (leads_same one r.before no_progress g split.middle r.leads split.first)) split.second in
        none_some step.0 (sym unfit_ ∙ makes one g line step.0 l step.1 says)

    begun : (c : Certificate) → IsTextOf bytes c → Begin (r.before ++ line ∷ [])
    begun c t = record { more = more; certificate = c; text = subst (λ b. IsTextOf b c) (r.cut ∙ with_line r.before line rest more cut.1) t }

    -- the line does not fit
    pub fault_at_line : IsFaultAt bytes n
    fault_at_line = record {
      before = r.before;
      rest = rest;
      are_lines = r.are_lines;
      cut = r.cut;
      number = r.number_is;
      begin = begin;
      no_text = λ c t. not_begun (begun c t);
      unfit = λ other behind is_line e b.
          let same = cut_same 10 line more other behind cut.0 is_line (sym cut.1 ∙ e ∙ append_assoc other (codes "\n") behind) in
          not_begun (subst (λ x. Begin (r.before ++ x ∷ [])) (sym same.0) b);
    }

-- ---- one line taken, or not

pub taken_line : (o : Option Progress) (taken : Bool) (now : Progress) → Takes o taken now → taken ≡ true → o ≡ Some now
taken_line (Some more) taken now t e = ap (λ (g : Progress). Some g) (sym t.1)
taken_line None taken now t e = absurd cc

pub refused_line : (o : Option Progress) (taken : Bool) (now : Progress) → Takes o taken now → taken ≡ false → o ≡ None
refused_line (Some more) taken now t e = absurd (let k : true ≡ false = sym t.0 ∙ e in cc)
refused_line None taken now t e = refl

-- no more lines than bytes
lines_short : (lines : List (List ℕ)) → length lines ≤ length (text_of lines)
lines_short [] = omega arith
lines_short (x ∷ xs) = let long = length-append (x ++ codes "\n") (text_of xs) in let line = length-append x (codes "\n") in omega (arith, lines_short xs, long, line)

pub reached_within : (bytes rest : List ℕ) (n : ℕ) (g : Progress) → IsReached bytes rest n g → n + length rest ≤ length bytes + 1
reached_within bytes rest n g r = let long = length-append (text_of r.before) rest in omega (arith, r.number_is, ap length r.cut, long, lines_short r.before)

pub empty_of : (xs : List ℕ) (b : Bool) → b ≡ (length xs == 0) → b ≡ true → xs ≡ []
empty_of xs b e k = nil_from_length xs (eqb-true (length xs) 0 (sym e ∙ k))

pub not_empty : (xs : List ℕ) (b : Bool) → b ≡ (length xs == 0) → b ≡ false → xs ≢ []
not_empty xs b e k is = let t : false ≡ true = sym k ∙ e ∙ ap (λ ys. length ys == 0) is in cc
