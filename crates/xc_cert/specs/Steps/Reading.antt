-- What was read of the lines so far, and what a line makes of it.
use Rattle.std.specs.Prelude.{◌≡◌, ◌≢◌, ◌⊎◌, ◌+◌, ◌-◌, ◌==◌, ◌&&◌, ◌++◌, ℕ, pos, List, [], ◌∷◌, Bool, true, false, not, nat_lt, int_lt, length, slice_get, unsigned_abs, Option, Some, None, if◌then◌else◌}
use Rattle.std.specs.Option.{option_map, option_map_or}
use Rattle.xc_cert.specs.Certificates.{opening}
use Rattle.xc_lists.specs.TextLines.{AreLines, text_of}
use Rattle.xc_cert.specs.Steps.Lines.{Says}
use Rattle.xc_cert.specs.declared.line.Line.{Line}
use Rattle.xc_cert.specs.declared.line.Line.TheVariants as line
use Rattle.xc_cert.specs.declared.line.Word.TheVariants.{Value, Binding, Low, High}
use Rattle.xc_cert.specs.declared.reader.Reader.{Reader}
use Rattle.xc_cert.specs.declared.reader.Stage.{Stage}
use Rattle.xc_cert.specs.declared.reader.Stage.TheVariants.{Before, Opened, Values, Bindings, Lows, Highs, Solved, Refuted}
use Rattle.xc_model.specs.Ratio.{Ratio}
use Rattle.xc_system.specs.Kept.{Multipliers}
use Rattle.xc_system.specs.declared.types.Certificate.{Certificate}
use Rattle.xc_system.specs.declared.types.Certificate.TheVariants as certificate

-- where in the text it is, and what was listed
pub record Progress : Type 0 where
  pub stage : Stage
  pub values : List Ratio
  pub bindings : List (ℕ × Ratio)
  pub lows : List (ℕ × Ratio)
  pub highs : List (ℕ × Ratio)

-- what a reader holds
abbrev pub progress_of : Reader → Progress
progress_of r = record { stage = r.stage; values = r.values.items; bindings = r.bindings.items; lows = r.lows.items; highs = r.highs.items }

-- before the first line
abbrev pub no_progress : Progress
no_progress = record { stage = Before; values = []; bindings = []; lows = []; highs = [] }

-- ---- one line

-- a number is behind all that are listed, which ascend
abbrev pub is_behind : List (ℕ × Ratio) → ℕ → Bool
is_behind listed n = option_map_or (λ m. nat_lt m.0 n) (slice_get listed (length listed - 1)) true

-- what an equation may be multiplied by
abbrev pub is_not_zero : Ratio → Bool
is_not_zero f = not (unsigned_abs f.num == 0)

-- what an end may be multiplied by
abbrev pub is_positive : Ratio → Bool
is_positive f = int_lt (pos 0) f.num

-- the list with one more, where it may stand there
abbrev pub with_more : (Ratio → Bool) → List (ℕ × Ratio) → ℕ → Ratio → Option (List (ℕ × Ratio))
with_more may listed n f = if may f && is_behind listed n then Some (listed ++ (n, f) ∷ []) else None

-- equations may still be listed at this stage
abbrev pub takes_bindings : Stage → Bool
takes_bindings Bindings = true
takes_bindings _ = false

-- and low ends
abbrev pub takes_lows : Stage → Bool
takes_lows Bindings = true
takes_lows Lows = true
takes_lows _ = false

-- with a value more, whose number has to be the next one
abbrev pub value_more : Progress → ℕ → Ratio → Option Progress
value_more g n f = if n == length g.values then Some (record g { values = g.values ++ f ∷ [] }) else None

-- with the multiplier of an equation more
abbrev pub binding_more : Progress → ℕ → Ratio → Option Progress
binding_more g n f = if takes_bindings g.stage then option_map (λ bs. record g { bindings = bs }) (with_more is_not_zero g.bindings n f) else None

-- with that of a low end more
abbrev pub low_more : Progress → ℕ → Ratio → Option Progress
low_more g n f = if takes_lows g.stage then option_map (λ ls. record g { stage = Lows; lows = ls }) (with_more is_positive g.lows n f) else None

-- with that of a high end more
abbrev pub high_more : Progress → ℕ → Ratio → Option Progress
high_more g n f = option_map (λ hs. record g { stage = Highs; highs = hs }) (with_more is_positive g.highs n f)

-- what a line makes of what was read before the certificate
abbrev pub before_more : Progress → Line → Option Progress
before_more g line.Opening = Some (record g { stage = Opened })
before_more g _ = Some g

-- behind its first line
abbrev pub opened_more : Progress → Line → Option Progress
opened_more g line.Feasible = Some (record g { stage = Values })
opened_more g line.Infeasible = Some (record g { stage = Bindings })
opened_more g _ = None

-- among values
abbrev pub values_more : Progress → Line → Option Progress
values_more g (line.Numbered Value n f) = value_more g n f
values_more g line.End = Some (record g { stage = Solved })
values_more g _ = None

-- among multipliers
abbrev pub multipliers_more : Progress → Line → Option Progress
multipliers_more g (line.Numbered Binding n f) = binding_more g n f
multipliers_more g (line.Numbered Low n f) = low_more g n f
multipliers_more g (line.Numbered High n f) = high_more g n f
multipliers_more g line.End = Some (record g { stage = Refuted })
multipliers_more g _ = None

-- at each stage; behind the end nothing fits
abbrev pub more_at : Stage → Progress → Line → Option Progress
more_at Before g l = before_more g l
more_at Opened g l = opened_more g l
more_at Values g l = values_more g l
more_at Bindings g l = multipliers_more g l
more_at Lows g l = multipliers_more g l
more_at Highs g l = multipliers_more g l
more_at Solved g l = None
more_at Refuted g l = None

-- what a line makes of what was read; None where it does not fit
abbrev pub after : Progress → Line → Option Progress
after g l = more_at g.stage g l

-- whether a line was taken, and what was read then
abbrev pub Takes : Option Progress → Bool → Progress → Type 0
Takes (Some more) taken now = (taken ≡ true) × (now ≡ more)
Takes None taken now = taken ≡ false

-- whether a list took one more, and what it is then
abbrev pub Grows : Option (List (ℕ × Ratio)) → Bool → List (ℕ × Ratio) → Type 0
Grows (Some more) taken now = (taken ≡ true) × (now ≡ more)
Grows None taken now = taken ≡ false

-- ---- all lines

-- a line that is passed over, before the certificate
pub record Passes (g : Progress) (text : List ℕ) (h : Progress) : Type 0 where
  pub stage : g.stage ≡ Before
  pub other : text ≢ opening
  pub same : h ≡ g

-- a line that says something that fits
pub record Fits (g : Progress) (text : List ℕ) (h : Progress) : Type 0 where
  pub line : Line
  pub says : Says text line
  pub makes : after g line ≡ Some h

-- the lines, one after another, make this of what was read
abbrev pub Leads : Progress → List (List ℕ) → Progress → Type 0
Leads g [] h = g ≡ h
Leads g (text ∷ texts) h = (more : Progress) × (Passes g text more ⊎ Fits g text more) × Leads more texts h

-- the bytes before this rest are lines, so many and one less, which were read
pub record IsReached (bytes rest : List ℕ) (number : ℕ) (g : Progress) : Type 0 where
  pub before : List (List ℕ)
  pub are_lines : AreLines before
  pub cut : bytes ≡ text_of before ++ rest
  pub number_is : number ≡ length before + 1
  pub leads : Leads no_progress before g

-- the multipliers that were read
abbrev pub refutation_of : Progress → Multipliers
refutation_of g = record { bindings = g.bindings; lows = g.lows; highs = g.highs }

-- the certificate, where its end was read by this stage
abbrev pub at_end : Stage → Progress → Option Certificate
at_end Solved g = Some (certificate.Feasible g.values)
at_end Refuted g = Some (certificate.Infeasible (refutation_of g))
at_end _ g = None

-- the certificate, once its end was read
abbrev pub certificate_at_end : Progress → Option Certificate
certificate_at_end g = at_end g.stage g
