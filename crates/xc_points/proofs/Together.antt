-- Facts of one point: the same concept and the same key.
use Rattle.std.proofs.Common.{◌≡◌, ◌==◌, ◌&&◌, Bool, true, false, refl, sym, ap, ◌∙◌, true≢false}
use Rattle.std.proofs.lemmas.Bool.{eqb-true, eq-eqb}
use Rattle.xc_points.specs.Gathered.{is_together}
use Rattle.xc_report.specs.declared.reports.Fact.{Fact}

-- the facts have the same concept and the same key
pub record SamePlace (a b : Fact) : Type 0 where
  pub concept : a.concept.0 ≡ b.concept.0
  pub key : a.key ≡ b.key

both : (x y : Bool) → (x && y) ≡ true → (x ≡ true) × (y ≡ true)
both true true e = (refl, refl)
both true false e = absurd (true≢false (sym e))
both false y e = absurd (true≢false (sym e))

pub together_same : (a b : Fact) → is_together a b ≡ true → SamePlace a b
together_same a b e =
    let parts = both (a.concept.0 == b.concept.0) (a.key == b.key) e in
    record { concept = eqb-true a.concept.0 b.concept.0 parts.0; key = eqb-true a.key b.key parts.1 }

pub same_together : (a b : Fact) → SamePlace a b → is_together a b ≡ true
same_together a b s = rw (eq-eqb a.concept.0 b.concept.0 s.concept, eq-eqb a.key b.key s.key) refl

pub same_refl : (a : Fact) → SamePlace a a
same_refl a = record { concept = refl; key = refl }

pub same_sym : (a b : Fact) → SamePlace a b → SamePlace b a
same_sym a b s = record { concept = sym s.concept; key = sym s.key }

pub same_trans : (a b c : Fact) → SamePlace a b → SamePlace b c → SamePlace a c
same_trans a b c s t = record { concept = s.concept ∙ t.concept; key = s.key ∙ t.key }

-- facts of one point are together with the same others
pub together_congr : (a b : Fact) → SamePlace a b → (c : Fact) → is_together a c ≡ is_together b c
together_congr a b s c = ap (λ n. (n == c.concept.0) && (a.key == c.key)) s.concept ∙ ap (λ n. (b.concept.0 == c.concept.0) && (n == c.key)) s.key

-- the same concept is the same name
pub same_concept : (a b : Fact) → SamePlace a b → a.concept ≡ b.concept
same_concept a b s = ap (λ n. record { 0 = n }) s.concept
