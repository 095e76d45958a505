-- The period that a text states (xBRL-JSON 1.0, the period dimension; that it is taken in this normal form is this project's own).
use Rattle.std.specs.Prelude.{◌≡◌, ◌++◌, ℕ, List, codes, length}
use Rattle.xc_decimal.specs.Digits.{AreDigits}
use Rattle.xc_lists.specs.Members.{Lacks}
use Rattle.xc_report.specs.Rules.Cuts.{slash, IsCut}

-- so many digits
pub record IsNumeral (count : ℕ) (text : List ℕ) : Type 0 where
  pub size : length text ≡ count
  pub digits : AreDigits text

-- a date: a year of four digits, a month of two and a day of two, with hyphens between; no calendar is asked
pub record IsDate (text : List ℕ) : Type 0 where
  pub year : List ℕ
  pub month : List ℕ
  pub day : List ℕ
  pub joined : text ≡ year ++ (codes "-" ++ (month ++ (codes "-" ++ day)))
  pub year_digits : IsNumeral 4 year
  pub month_digits : IsNumeral 2 month
  pub day_digits : IsNumeral 2 day

-- a text says a moment: it is that moment, or the date of a day, and the moment is the start of that day
pub data SaysMoment (text moment : List ℕ) : Type 0 where
  InFull : text ≡ moment → SaysMoment text moment
  ByDate : IsDate text → moment ≡ text ++ codes "T00:00:00" → SaysMoment text moment

-- a moment in its normal form is said by the text, and is no date alone
pub record IsMoment (text moment : List ℕ) : Type 0 where
  pub said : SaysMoment text moment
  pub full : ¬ (IsDate moment)

-- a period in its normal form: one moment; start and end, with a slash between; or a text with a second slash, which is no period of the standard and stays as it is
pub data IsPeriod (text period : List ℕ) : Type 0 where
  Instant : Lacks slash text → IsMoment text period → IsPeriod text period
  Interval : (first second start end : List ℕ) → IsCut slash text first second → Lacks slash second → IsMoment first start → IsMoment second end → period ≡ start ++ codes "/" ++ end → IsPeriod text period
  OtherText : (first second third rest : List ℕ) → IsCut slash text first rest → IsCut slash rest second third → period ≡ text → IsPeriod text period
