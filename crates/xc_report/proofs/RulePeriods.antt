-- The period that a text states by the rules is its normal form.
use Rattle.std.proofs.Common.{◌≡◌, ◌⊎◌, inl, inr, ◌&&◌, ◌++◌, ◌==◌, ℕ, List, [], ◌∷◌, Bool, true, false, codes, length, Option, Some, None, is_some, refl, sym, ap, subst, ◌∙◌, if◌then◌else◌, arith}
use Rattle.std.specs.Char.{is_ascii_digit}
use Rattle.std.proofs.lemmas.Bool.{and_parts, and_from, eqb-true, true≢false}
use Rattle.std.proofs.lemmas.List.{length-append, append_cancel_right}
use Rattle.std.proofs.lemmas.Option.{same_Some}
use Rattle.xc_chars.specs.Parts.{is_slash, around}
use Rattle.xc_decimal.specs.Digits.{AreDigits}
use Rattle.xc_report.specs.Forms.{fits_places}
use Rattle.xc_report.specs.Laws.{IsTold, DaysAreMoments}
use Rattle.xc_report.specs.Periods.{is_date, moment, moments, normal_period}
use Rattle.xc_report.specs.Rules.Cuts.{slash, IsCut}
use Rattle.xc_report.specs.Rules.Periods.{IsNumeral, IsDate, SaysMoment, InFull, ByDate, IsMoment, IsPeriod, Instant, Interval, OtherText}
use Rattle.xc_report.proofs.RuleCuts.{cut_read, reads_cut, around_none, lacks_mark}
use Rattle.xc_report.proofs.Told.{told}

-- ---- dates

two : (P : List ℕ → Type 0) (text : List ℕ) → length text ≡ 2 → ((a b : ℕ) → P (a ∷ b ∷ [])) → P text
two P [] e k = absurd (omega (arith, e))
two P (a ∷ []) e k = absurd (omega (arith, e))
two P (a ∷ b ∷ []) e k = k a b
two P (a ∷ b ∷ c ∷ rest) e k = absurd (omega (arith, e))

four : (P : List ℕ → Type 0) (text : List ℕ) → length text ≡ 4 → ((a b c d : ℕ) → P (a ∷ b ∷ c ∷ d ∷ [])) → P text
four P [] e k = absurd (omega (arith, e))
four P (a ∷ []) e k = absurd (omega (arith, e))
four P (a ∷ b ∷ []) e k = absurd (omega (arith, e))
four P (a ∷ b ∷ c ∷ []) e k = absurd (omega (arith, e))
four P (a ∷ b ∷ c ∷ d ∷ []) e k = k a b c d
four P (a ∷ b ∷ c ∷ d ∷ f ∷ rest) e k = absurd (omega (arith, e))

-- a text of ten bytes
ten : (P : List ℕ → Type 0) (text : List ℕ) → 10 ≡ length text → ((a b c d e f g h i j : ℕ) → P (a ∷ b ∷ c ∷ d ∷ e ∷ f ∷ g ∷ h ∷ i ∷ j ∷ [])) → P text
ten P [] q k = absurd (omega (arith, q))
ten P (a ∷ []) q k = absurd (omega (arith, q))
ten P (a ∷ b ∷ []) q k = absurd (omega (arith, q))
ten P (a ∷ b ∷ c ∷ []) q k = absurd (omega (arith, q))
ten P (a ∷ b ∷ c ∷ d ∷ []) q k = absurd (omega (arith, q))
ten P (a ∷ b ∷ c ∷ d ∷ e ∷ []) q k = absurd (omega (arith, q))
ten P (a ∷ b ∷ c ∷ d ∷ e ∷ f ∷ []) q k = absurd (omega (arith, q))
ten P (a ∷ b ∷ c ∷ d ∷ e ∷ f ∷ g ∷ []) q k = absurd (omega (arith, q))
ten P (a ∷ b ∷ c ∷ d ∷ e ∷ f ∷ g ∷ h ∷ []) q k = absurd (omega (arith, q))
ten P (a ∷ b ∷ c ∷ d ∷ e ∷ f ∷ g ∷ h ∷ i ∷ []) q k = absurd (omega (arith, q))
ten P (a ∷ b ∷ c ∷ d ∷ e ∷ f ∷ g ∷ h ∷ i ∷ j ∷ []) q k = k a b c d e f g h i j
ten P (a ∷ b ∷ c ∷ d ∷ e ∷ f ∷ g ∷ h ∷ i ∷ j ∷ l ∷ rest) q k = absurd (omega (arith, q))

-- the bytes of a date, by their places
abbrev are_places : ℕ → ℕ → ℕ → ℕ → ℕ → ℕ → ℕ → ℕ → ℕ → ℕ → Bool
are_places a b c d e f g h i j =
    is_ascii_digit a && (is_ascii_digit b && (is_ascii_digit c && (is_ascii_digit d && ((e == 45) && (is_ascii_digit f && (is_ascii_digit g && ((h == 45) && (is_ascii_digit i && (is_ascii_digit j && true)))))))))

-- two bytes one of which is the first
byte_is : (x : ℕ) (xs : List ℕ) (y : ℕ) → x ≡ y → x ∷ xs ≡ y ∷ xs
byte_is x xs y e = ap (λ z. z ∷ xs) e

places_date : (a b c d e f g h i j : ℕ) → are_places a b c d e f g h i j ≡ true → IsDate (a ∷ b ∷ c ∷ d ∷ e ∷ f ∷ g ∷ h ∷ i ∷ j ∷ [])
places_date a b c d e f g h i j t =
    let a_is = and_parts (is_ascii_digit a) _ t in
    let b_is = and_parts (is_ascii_digit b) _ a_is.1 in
    let c_is = and_parts (is_ascii_digit c) _ b_is.1 in
    let d_is = and_parts (is_ascii_digit d) _ c_is.1 in
    let e_is = and_parts (e == 45) _ d_is.1 in
    let f_is = and_parts (is_ascii_digit f) _ e_is.1 in
    let g_is = and_parts (is_ascii_digit g) _ f_is.1 in
    let h_is = and_parts (h == 45) _ g_is.1 in
    let i_is = and_parts (is_ascii_digit i) _ h_is.1 in
    let j_is = and_parts (is_ascii_digit j) _ i_is.1 in
    record {
      year = a ∷ b ∷ c ∷ d ∷ [];
      month = f ∷ g ∷ [];
      day = i ∷ j ∷ [];
      joined = ap (λ x. a ∷ b ∷ c ∷ d ∷ x ∷ f ∷ g ∷ h ∷ i ∷ j ∷ []) (eqb-true e 45 e_is.0) ∙ ap (λ x. a ∷ b ∷ c ∷ d ∷ 45 ∷ f ∷ g ∷ x ∷ i ∷ j ∷ []) (eqb-true h 45 h_is.0);
      year_digits = record { size = refl; digits = and_from (is_ascii_digit a) _ a_is.0 (and_from (is_ascii_digit b) _ b_is.0 (and_from (is_ascii_digit c) _ c_is.0 (and_from (is_ascii_digit d) true d_is.0 refl))) };
      month_digits = record { size = refl; digits = and_from (is_ascii_digit f) _ f_is.0 (and_from (is_ascii_digit g) true g_is.0 refl) };
      day_digits = record { size = refl; digits = and_from (is_ascii_digit i) _ i_is.0 (and_from (is_ascii_digit j) true j_is.0 refl) };
    }

date_places : (a b c d f g i j : ℕ) → AreDigits (a ∷ b ∷ c ∷ d ∷ []) → AreDigits (f ∷ g ∷ []) → AreDigits (i ∷ j ∷ []) → are_places a b c d 45 f g 45 i j ≡ true
date_places a b c d f g i j year month day =
    let a_is = and_parts (is_ascii_digit a) _ year in
    let b_is = and_parts (is_ascii_digit b) _ a_is.1 in
    let c_is = and_parts (is_ascii_digit c) _ b_is.1 in
    let d_is = and_parts (is_ascii_digit d) _ c_is.1 in
    let f_is = and_parts (is_ascii_digit f) _ month in
    let g_is = and_parts (is_ascii_digit g) _ f_is.1 in
    let i_is = and_parts (is_ascii_digit i) _ day in
    let j_is = and_parts (is_ascii_digit j) _ i_is.1 in
    and_from _ _ a_is.0 (and_from _ _ b_is.0 (and_from _ _ c_is.0 (and_from _ _ d_is.0 (and_from _ _ refl (and_from _ _ f_is.0 (and_from _ _ g_is.0 (and_from _ _ refl (and_from _ _ i_is.0 (and_from _ _ j_is.0 refl)))))))))

date_read : (text : List ℕ) → is_date text ≡ true → IsDate text
date_read text e =
    let both = and_parts (length (codes "dddd-dd-dd") == length text) (fits_places (codes "dddd-dd-dd") text) e in
    ten (λ t. fits_places (codes "dddd-dd-dd") t ≡ true → IsDate t) text (eqb-true 10 (length text) both.0) places_date both.1

joined_date : (year month day : List ℕ) → IsNumeral 4 year → IsNumeral 2 month → IsNumeral 2 day → is_date (year ++ (codes "-" ++ (month ++ (codes "-" ++ day)))) ≡ true
joined_date year month day y m d =
    four (λ t. AreDigits t → is_date (t ++ (codes "-" ++ (month ++ (codes "-" ++ day)))) ≡ true) year y.size (λ a b c e year_digits.
    two (λ t. AreDigits t → is_date ((a ∷ b ∷ c ∷ e ∷ []) ++ (codes "-" ++ (t ++ (codes "-" ++ day)))) ≡ true) month m.size (λ f g month_digits.
    two (λ t. AreDigits t → is_date ((a ∷ b ∷ c ∷ e ∷ []) ++ (codes "-" ++ ((f ∷ g ∷ []) ++ (codes "-" ++ t)))) ≡ true) day d.size (λ i j day_digits.
    date_places a b c e f g i j year_digits month_digits day_digits) d.digits) m.digits) y.digits

reads_date : (text : List ℕ) → IsDate text → is_date text ≡ true
reads_date text date = ap is_date date.joined ∙ joined_date date.year date.month date.day date.year_digits date.month_digits date.day_digits

-- a date has ten bytes
date_size : (text : List ℕ) → IsDate text → length text ≡ 10
date_size text date = sym (eqb-true 10 (length text) (and_parts (10 == length text) (fits_places (codes "dddd-dd-dd") text) (reads_date text date)).0)

too_long : (text : List ℕ) → IsDate text → IsDate (text ++ codes "T00:00:00") → ⊥
too_long text date longer = omega (arith, date_size text date, date_size (text ++ codes "T00:00:00") longer, length-append text (codes "T00:00:00"))

-- ---- moments

moment_by : (text : List ℕ) (b : Bool) → is_date text ≡ b → IsMoment text (if b then text ++ codes "T00:00:00" else text)
moment_by text true e = let date = date_read text e in record { said = ByDate date refl; full = too_long text date }
moment_by text false e = record { said = InFull refl; full = λ date. true≢false (sym (reads_date text date) ∙ e) }

moment_read : (text : List ℕ) → IsMoment text (moment text)
moment_read text = moment_by text (is_date text) refl

reads_said : (text m : List ℕ) (b : Bool) → is_date text ≡ b → ¬ (IsDate m) → SaysMoment text m → (if b then text ++ codes "T00:00:00" else text) ≡ m
reads_said text m true e full (InFull is) = absurd (full (subst IsDate is (date_read text e)))
reads_said text m true e full (ByDate date is) = sym is
reads_said text m false e full (InFull is) = is
reads_said text m false e full (ByDate date is) = absurd (true≢false (sym (reads_date text date) ∙ e))

reads_moment : (text m : List ℕ) → IsMoment text m → moment text ≡ m
reads_moment text m is = reads_said text m (is_date text) refl is.full is.said

-- ---- periods

interval : (text : List ℕ) (parts : List ℕ × List ℕ) → IsCut slash text parts.0 parts.1 → (o : Option (List ℕ × List ℕ)) → around is_slash parts.1 ≡ o
    → IsPeriod text (if is_some o then text else (moment parts.0 ++ codes "/" ++ moment parts.1))
interval text parts cut None e = Interval parts.0 parts.1 (moment parts.0) (moment parts.1) cut (lacks_mark slash parts.1 e) (moment_read parts.0) (moment_read parts.1) refl
interval text parts cut (Some more) e = OtherText parts.0 more.0 more.1 parts.1 cut (cut_read slash parts.1 more e) refl

period_by : (text : List ℕ) (o : Option (List ℕ × List ℕ)) → around is_slash text ≡ o → IsPeriod text (moments text o)
period_by text None e = Instant (lacks_mark slash text e) (moment_read text)
period_by text (Some parts) e = interval text parts (cut_read slash text parts e) (around is_slash parts.1) refl

pub period_read : (text : List ℕ) → IsPeriod text (normal_period text)
period_read text = period_by text (around is_slash text) refl

pub reads_period : (text period : List ℕ) → IsPeriod text period → normal_period text ≡ period
reads_period text period (Instant lacks is) = ap (moments text) (around_none slash text lacks) ∙ reads_moment text period is
reads_period text period (Interval first second start end cut lacks from to is) =
    ap (moments text) (reads_cut slash text first second cut)
    ∙ ap (λ o. if is_some o then text else (moment first ++ codes "/" ++ moment second)) (around_none slash second lacks)
    ∙ ap (λ m. m ++ codes "/" ++ moment second) (reads_moment first start from) ∙ ap (λ m. start ++ codes "/" ++ m) (reads_moment second end to) ∙ sym is
reads_period text period (OtherText first second third rest cut more is) =
    ap (moments text) (reads_cut slash text first rest cut)
    ∙ ap (λ o. if is_some o then text else (moment first ++ codes "/" ++ moment rest)) (reads_cut slash rest second third more) ∙ sym is

pub period_told : (text : List ℕ) → IsTold (IsPeriod text) (Some (normal_period text))
period_told text = told (IsPeriod text) (Some (normal_period text))
    (λ period e. subst (IsPeriod text) (same_Some (normal_period text) period e) (period_read text))
    (λ period is. ap (λ p. Some p) (reads_period text period is))

-- the texts of the start of a day
pub days_told : DaysAreMoments
days_told text date is = (said_by, says)
  where
    said_by : IsMoment text (date ++ codes "T00:00:00") → (text ≡ date) ⊎ (text ≡ date ++ codes "T00:00:00")
    said_by m = by m.said
      where
        by : SaysMoment text (date ++ codes "T00:00:00") → (text ≡ date) ⊎ (text ≡ date ++ codes "T00:00:00")
        by (InFull e) = inr e
        by (ByDate day e) = inl (sym (append_cancel_right date text (codes "T00:00:00") e))

    says : (text ≡ date) ⊎ (text ≡ date ++ codes "T00:00:00") → IsMoment text (date ++ codes "T00:00:00")
    says (inl e) = record { said = ByDate (subst IsDate (sym e) is) (ap (λ t. t ++ codes "T00:00:00") (sym e)); full = too_long date is }
    says (inr e) = record { said = InFull e; full = too_long date is }
