-- The verdict of a binding, told of the facts of the report (Calculations 1.1: the consistency of a binding calculation). Only whether the
-- binding is narrow is told of the ends of its points' ranges.
use Rattle.std.specs.Prelude.{ℕ, ℤ, ◌<◌, ◌⊎◌, List, [], ◌∷◌, IsSomeAnd, slice_get}
use Rattle.xc_bind.specs.declared.types.Binding.{Binding}
use Rattle.xc_bind.specs.declared.types.Term.{Term}
use Rattle.xc_bind.specs.declared.types.Verdict.{Verdict}
use Rattle.xc_bind.specs.declared.types.Verdict.TheVariants.{Consistent, Inconsistent, Unjudged, TooWide}
use Rattle.xc_interval.specs.declared.mode.Mode.{Mode}
use Rattle.xc_points.specs.Facts.{PointAdmits, IsWidePoint, IsEmptyPoint}
use Rattle.xc_points.specs.declared.types.Point.{Point}
use Rattle.xc_report.specs.declared.reports.Fact.{Fact}
use Rattle.xc_verdict.specs.Ranges.{named_points, SomeHas}
use Rattle.xc_bind.specs.Equation.{AddsUp}
use Rattle.xc_verdict.specs.Widths.{IsNarrowBinding}

module _ (mode : Mode) (facts : List Fact) (points : List Point) where
  -- all facts of point number k may stand for p/q
  abbrev pub AdmitsAt : ℕ → ℤ → ℕ → Type 0
  AdmitsAt k p q = IsSomeAnd (slice_get points k) (λ point. PointAdmits mode facts point p q)

  -- one number for each term, of its own, which over q all facts of its point may stand for
  abbrev pub TermsAdmit : List Term → List ℤ → ℕ → Type 0
  TermsAdmit [] [] q = Unit {0}
  TermsAdmit [] (p ∷ ps) q = ⊥
  TermsAdmit (term ∷ terms) [] q = ⊥
  TermsAdmit (term ∷ terms) (p ∷ ps) q = AdmitsAt term.point p q × TermsAdmit terms ps q

  -- a fact of a point that the binding names is wide
  abbrev pub HasWide : Binding → Type 0
  HasWide binding = SomeHas (λ k. IsSomeAnd (slice_get points k) (λ point. IsWidePoint mode facts point)) (named_points binding)

  -- for a point that the binding names, no number is admitted by all its facts
  abbrev pub HasEmpty : Binding → Type 0
  HasEmpty binding = SomeHas (λ k. IsSomeAnd (slice_get points k) (λ point. IsEmptyPoint mode facts point)) (named_points binding)

  -- values exist, one that all facts of the total's point may stand for and one for each term that all facts of its point may
  -- stand for, such that the total's is the sum of the terms', each times its weight: whole numbers over one positive number
  pub record Agrees (binding : Binding) : Type 0 where
    pub over : ℕ
    pub positive : 0 < over
    pub total : ℤ
    pub values : List ℤ
    pub total_admits : AdmitsAt binding.total total over
    pub terms_admit : TermsAdmit binding.terms values over
    pub adds : AddsUp binding total values

  -- no fact is wide, no point is empty, and the binding is narrow
  pub record CanBeJudged (binding : Binding) : Type 0 where
    pub none_wide : ¬ HasWide binding
    pub none_empty : ¬ HasEmpty binding
    pub narrow : IsNarrowBinding points binding

  -- no fact is wide and no point is empty, but the binding is not narrow
  pub record PassesWidth (binding : Binding) : Type 0 where
    pub none_wide : ¬ HasWide binding
    pub none_empty : ¬ HasEmpty binding
    pub passed : ¬ IsNarrowBinding points binding

  -- the verdict of a binding, by the first of these that holds: a fact is wide, a point is empty, the binding is not narrow,
  -- values exist that add up, and the rest
  abbrev pub IsVerdict : Binding → Verdict → Type 0
  IsVerdict binding TooWide = HasWide binding ⊎ PassesWidth binding
  IsVerdict binding Unjudged = (¬ HasWide binding) × HasEmpty binding
  IsVerdict binding Consistent = CanBeJudged binding × Agrees binding
  IsVerdict binding Inconsistent = CanBeJudged binding × (¬ Agrees binding)
