-- What the lines so far have led to says them, from `certificate 1` on.
use Rattle.std.proofs.Common.{◌≡◌, ◌≢◌, ◌⊎◌, ℕ, List, [], ◌∷◌, ◌++◌, Option, Some, None, refl, sym, ap, ◌∙◌, subst, arith, append_assoc, append-nil, inl, inr}
use Rattle.std.specs.Prelude.{codes}
use Rattle.std.specs.List.Sorted.{IsStrictlySortedBy}
use Rattle.std.proofs.lemmas.List.Elements.{All-nil}
use Rattle.xc_cert.specs.Certificates.{IsPassed, ArePassed, opening, body_lines}
use Rattle.xc_lists.specs.TextLines.{IsLine, AreLines}
use Rattle.xc_cert.specs.Steps.Lines.{Says}
use Rattle.xc_cert.specs.Steps.Reading.{Progress, no_progress, after, Passes, Fits, Leads, refutation_of}
use Rattle.xc_cert.specs.declared.line.Line.{Line}
use Rattle.xc_cert.specs.declared.line.Line.TheVariants as line
use Rattle.xc_cert.specs.declared.line.Word.TheVariants.{Value, Binding, Low, High}
use Rattle.xc_cert.specs.declared.reader.Stage.{Stage}
use Rattle.xc_cert.specs.declared.reader.Stage.TheVariants.{Before, Opened, Values, Bindings, Lows, Highs, Solved, Refuted}
use Rattle.xc_lists.proofs.Lacking.{all_append}
use Rattle.xc_cert.proofs.Saying.{says_same}
use Rattle.xc_cert.proofs.Taking.{NoLists, IsSound, Adds, added, passed, Taken, lines_at, lines_of, value_taken, high_taken, low_taken, binding_taken}
use Rattle.xc_decimal.specs.Laws.{HasOneSpelling}
use Rattle.xc_model.specs.Ratio.{Ratio}
use Rattle.xc_system.specs.declared.types.Certificate.TheVariants as certificate

abbrev gather : Stage → List Ratio → List (ℕ × Ratio) → List (ℕ × Ratio) → List (ℕ × Ratio) → Progress
gather stage values bindings lows highs = record { stage = stage; values = values; bindings = bindings; lows = lows; highs = highs }

none_some : {X : Type 0} (x : X) → ◌≡◌ {A = Option X} None (Some x) → ⊥
none_some x e = cc

some_same : {X : Type 0} (x y : X) → Some x ≡ Some y → x ≡ y
some_same x y e = cc

module _ (one : HasOneSpelling) where
  -- a line that says something else is not `certificate 1`
  other_line : (text : List ℕ) (l : Line) → l ≢ line.Opening → Says text l → text ≢ opening
  other_line text l other says is = other (says_same one text l line.Opening says is)

  module _ (vs : List Ratio) (bs ls hs : List (ℕ × Ratio)) (text : List ℕ) where
    abbrev at : Stage → Progress
    at stage = gather stage vs bs ls hs

    passed_over : (l : Line) (h : Progress) → IsSound (at Before) → IsLine text → Says text l → l ≢ line.Opening → Some (at Before) ≡ Some h → Taken (at Before) text h
    passed_over l h sound is_line says other e = subst (Taken (at Before) text) (some_same (at Before) h e) (record { sound = sound; adds = passed refl refl (is_line, other_line text l other says) })

    from_before : (l : Line) (h : Progress) → IsSound (at Before) → IsLine text → Says text l → after (at Before) l ≡ Some h → Taken (at Before) text h
    from_before line.Opening h sound is_line says e =
        let empty : NoLists (at Before) = sound.empty in
        subst (Taken (at Before) text) (some_same (at Opened) h e) (record {
          sound = record { few = sound.few; kept = sound.kept; numbers = sound.numbers; empty = record { values = empty.values; bindings = empty.bindings; lows = empty.lows; highs = empty.highs } };
          adds = added (ap (λ t. t ∷ []) (sym says));
        })
    from_before line.Feasible h sound is_line says e = passed_over line.Feasible h sound is_line says (λ k. cc) e
    from_before line.Infeasible h sound is_line says e = passed_over line.Infeasible h sound is_line says (λ k. cc) e
    from_before line.End h sound is_line says e = passed_over line.End h sound is_line says (λ k. cc) e
    from_before (line.Numbered w n f) h sound is_line says e = passed_over (line.Numbered w n f) h sound is_line says (λ k. cc) e
    from_before line.Other h sound is_line says e = passed_over line.Other h sound is_line says (λ k. cc) e

    abbrev body_at : List Ratio → List (List ℕ)
    body_at values = opening ∷ body_lines (certificate.Feasible values)

    from_opened : (l : Line) (h : Progress) → IsSound (at Opened) → Says text l → after (at Opened) l ≡ Some h → Taken (at Opened) text h
    from_opened line.Feasible h sound says e =
        let empty : NoLists (at Opened) = sound.empty in
        subst (Taken (at Opened) text) (some_same (at Values) h e) (record { sound = record { few = sound.few; kept = sound.kept; numbers = sound.numbers; empty = tt }; adds = added (ap body_at empty.values ∙ ap (λ t. opening ∷ t ∷ []) (sym says)) })
    from_opened line.Infeasible h sound says e =
        let empty : NoLists (at Opened) = sound.empty in
        let none : body_lines (certificate.Infeasible (refutation_of (at Bindings))) ≡ codes "infeasible" ∷ [] = λ i. body_lines (certificate.Infeasible (record { bindings = empty.bindings i; lows = empty.lows i; highs = empty.highs i })) in
        subst (Taken (at Opened) text) (some_same (at Bindings) h e) (record { sound = record { few = sound.few; kept = sound.kept; numbers = sound.numbers; empty = (empty.lows, empty.highs) }; adds = added (ap (λ zs. opening ∷ zs) none ∙ ap (λ t. opening ∷ t ∷ []) (sym says)) })
    from_opened line.Opening h sound says e = absurd (none_some h e)
    from_opened line.End h sound says e = absurd (none_some h e)
    from_opened (line.Numbered w n f) h sound says e = absurd (none_some h e)
    from_opened line.Other h sound says e = absurd (none_some h e)

    -- behind its lines the line `end` makes a certificate
    ended_by : (s : Stage) (body : List (List ℕ)) → text ≡ codes "end" → opening ∷ (body ++ codes "end" ∷ []) ≡ (opening ∷ body) ++ text ∷ []
    ended_by s body says = ap (λ t. opening ∷ (body ++ t ∷ [])) (sym says)

    from_values : (l : Line) (h : Progress) → IsSound (at Values) → Says text l → after (at Values) l ≡ Some h → Taken (at Values) text h
    from_values (line.Numbered Value n f) h sound says e = value_taken (at Values) text n f h refl sound says e
    from_values line.End h sound says e = subst (Taken (at Values) text) (some_same (at Solved) h e) (record { sound = record { few = sound.few; kept = sound.kept; numbers = sound.numbers; empty = tt }; adds = added (ended_by Values (body_lines (certificate.Feasible vs)) says) })
    from_values line.Opening h sound says e = absurd (none_some h e)
    from_values line.Feasible h sound says e = absurd (none_some h e)
    from_values line.Infeasible h sound says e = absurd (none_some h e)
    from_values (line.Numbered Binding n f) h sound says e = absurd (none_some h e)
    from_values (line.Numbered Low n f) h sound says e = absurd (none_some h e)
    from_values (line.Numbered High n f) h sound says e = absurd (none_some h e)
    from_values line.Other h sound says e = absurd (none_some h e)

    refuted_by : (s : Stage) → lines_of (at s) ≡ lines_at Bindings (at s) → (h : Progress) → IsSound (at s) → text ≡ codes "end" → Some (at Refuted) ≡ Some h → Taken (at s) text h
    refuted_by s among h sound says e =
        subst (Taken (at s) text) (some_same (at Refuted) h e) (record { sound = record { few = sound.few; kept = sound.kept; numbers = sound.numbers; empty = tt }; adds = added (ended_by s (body_lines (certificate.Infeasible (refutation_of (at s)))) says ∙ ap (λ zs. zs ++ text ∷ []) (sym among)) })

    from_bindings : (l : Line) (h : Progress) → IsSound (at Bindings) → Says text l → after (at Bindings) l ≡ Some h → Taken (at Bindings) text h
    from_bindings (line.Numbered Binding n f) h sound says e = binding_taken (at Bindings) sound refl text n f h refl sound.empty says e
    from_bindings (line.Numbered Low n f) h sound says e = low_taken (at Bindings) sound refl text n f h (λ k. sound.empty.1) says e
    from_bindings (line.Numbered High n f) h sound says e = high_taken (at Bindings) sound refl text n f h says e
    from_bindings line.End h sound says e = refuted_by Bindings refl h sound says e
    from_bindings line.Opening h sound says e = absurd (none_some h e)
    from_bindings line.Feasible h sound says e = absurd (none_some h e)
    from_bindings line.Infeasible h sound says e = absurd (none_some h e)
    from_bindings (line.Numbered Value n f) h sound says e = absurd (none_some h e)
    from_bindings line.Other h sound says e = absurd (none_some h e)

    from_lows : (l : Line) (h : Progress) → IsSound (at Lows) → Says text l → after (at Lows) l ≡ Some h → Taken (at Lows) text h
    from_lows (line.Numbered Binding n f) h sound says e = absurd (none_some h e)
    from_lows (line.Numbered Low n f) h sound says e = low_taken (at Lows) sound refl text n f h (λ k. sound.empty) says e
    from_lows (line.Numbered High n f) h sound says e = high_taken (at Lows) sound refl text n f h says e
    from_lows line.End h sound says e = refuted_by Lows refl h sound says e
    from_lows line.Opening h sound says e = absurd (none_some h e)
    from_lows line.Feasible h sound says e = absurd (none_some h e)
    from_lows line.Infeasible h sound says e = absurd (none_some h e)
    from_lows (line.Numbered Value n f) h sound says e = absurd (none_some h e)
    from_lows line.Other h sound says e = absurd (none_some h e)

    from_highs : (l : Line) (h : Progress) → IsSound (at Highs) → Says text l → after (at Highs) l ≡ Some h → Taken (at Highs) text h
    from_highs (line.Numbered Binding n f) h sound says e = absurd (none_some h e)
    from_highs (line.Numbered Low n f) h sound says e = absurd (none_some h e)
    from_highs (line.Numbered High n f) h sound says e = high_taken (at Highs) sound refl text n f h says e
    from_highs line.End h sound says e = refuted_by Highs refl h sound says e
    from_highs line.Opening h sound says e = absurd (none_some h e)
    from_highs line.Feasible h sound says e = absurd (none_some h e)
    from_highs line.Infeasible h sound says e = absurd (none_some h e)
    from_highs (line.Numbered Value n f) h sound says e = absurd (none_some h e)
    from_highs line.Other h sound says e = absurd (none_some h e)

    taken_at : (s : Stage) (l : Line) (h : Progress) → IsSound (at s) → IsLine text → Says text l → after (at s) l ≡ Some h → Taken (at s) text h
    taken_at Before l h sound is_line says e = from_before l h sound is_line says e
    taken_at Opened l h sound is_line says e = from_opened l h sound says e
    taken_at Values l h sound is_line says e = from_values l h sound says e
    taken_at Bindings l h sound is_line says e = from_bindings l h sound says e
    taken_at Lows l h sound is_line says e = from_lows l h sound says e
    taken_at Highs l h sound is_line says e = from_highs l h sound says e
    taken_at Solved l h sound is_line says e = absurd (none_some h e)
    taken_at Refuted l h sound is_line says e = absurd (none_some h e)

  -- a line that fits is taken
  taken : (g : Progress) (text : List ℕ) (h : Progress) → IsSound g → IsLine text → Passes g text h ⊎ Fits g text h → Taken g text h
  taken g text h sound is_line (inl p) =
      let none : lines_of g ≡ [] = ap (λ s. lines_at s g) p.stage in
      subst (Taken g text) (sym p.same) (record { sound = sound; adds = passed none none (is_line, p.other) })
  taken g text h sound is_line (inr f) = taken_at g.values g.bindings g.lows g.highs text g.stage f.line h sound is_line f.says f.makes

  -- the lines are some that are passed over, and then those that say it
  pub record Stands (lines : List (List ℕ)) (g : Progress) : Type 0 where
    pub sound : IsSound g
    pub front : List (List ℕ)
    pub are_passed : ArePassed front
    pub is : lines ≡ front ++ lines_of g

  stands_more : (lines : List (List ℕ)) (g : Progress) (text : List ℕ) (h : Progress) → Stands lines g → Taken g text h → Stands (lines ++ text ∷ []) h
  stands_more lines g text h s t = by t.adds
    where
      by : Adds g text h → Stands (lines ++ text ∷ []) h
      by (added e) = record { sound = t.sound; front = s.front; are_passed = s.are_passed; is = ap (λ zs. zs ++ text ∷ []) s.is ∙ append_assoc s.front (lines_of g) (text ∷ []) ∙ ap (λ zs. s.front ++ zs) (sym e) }
      by (passed e e' p) = record {
        sound = t.sound;
        front = s.front ++ text ∷ [];
        are_passed = all_append IsPassed s.front (text ∷ []) s.are_passed (p, tt);
        is = ap (λ zs. zs ++ text ∷ []) (s.is ∙ ap (λ zs. s.front ++ zs) e ∙ append-nil s.front) ∙ sym (append-nil (s.front ++ text ∷ [])) ∙ ap (λ zs. (s.front ++ text ∷ []) ++ zs) (sym e');
      }

  stands_after : (lines more : List (List ℕ)) (g h : Progress) → Stands lines g → AreLines more → Leads g more h → Stands (lines ++ more) h
  stands_after lines [] g h s a l = subst (Stands (lines ++ [])) l (subst (λ zs. Stands zs g) (sym (append-nil lines)) s)
  stands_after lines (text ∷ texts) g h s a l =
      subst (λ zs. Stands zs h) (append_assoc lines (text ∷ []) texts) (stands_after (lines ++ text ∷ []) texts l.0 h (stands_more lines g text l.0 s (taken g text l.0 s.sound a.0 l.1)) a.1 l.2)

  nothing_sound : IsSound no_progress
  unfolding IsStrictlySortedBy
  nothing_sound = record {
    few = omega arith;
    kept = record { bindings_ascend = tt; lows_ascend = tt; highs_ascend = tt; bindings_count = All-nil _; lows_positive = All-nil _; highs_positive = All-nil _ };
    numbers = record { bindings = tt; lows = tt; highs = tt };
    empty = record { values = refl; bindings = refl; lows = refl; highs = refl };
  }

  -- what lines lead to from the beginning stands in them
  pub stands : (lines : List (List ℕ)) (g : Progress) → AreLines lines → Leads no_progress lines g → Stands lines g
  stands lines g a l = stands_after [] lines no_progress g (record { sound = nothing_sound; front = []; are_passed = tt; is = refl }) a l
