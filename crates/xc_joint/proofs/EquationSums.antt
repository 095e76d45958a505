-- The checker's sums over values of a component do not depend on what stands at other points.
use Rattle.std.proofs.Common.{◌≡◌, ℕ, List, [], ◌∷◌, length, get_or, Option, Some, Ok, refl, sym, ap₂, subst, ◌∙◌, arith}
use Rattle.std.proofs.lemmas.List.Elements.{recursion_from_All}
use Rattle.std.proofs.lemmas.Option.{slice_get_within, slice_get-get_or}
use Rattle.std.specs.List.{AllByRecursion, cons_option}
use Rattle.std.specs.Option.{option_map}
use Rattle.std.specs.Prelude.{All, slice_get}
use Rattle.xc_joint.specs.Steps.ByCorners.{SumsPassNowhere}
use Rattle.xc_joint.specs.Lists.{AreAmong}
use Rattle.xc_joint.specs.Steps.Settling.{HaveSums}
use Rattle.xc_joint.proofs.Gathering.{in_there}
use Rattle.xc_joint.proofs.Sizes.{place_of}
use Rattle.xc_lists.specs.Members.{IsIn}
use Rattle.xc_model.specs.Ratio.{Ratio}
use Rattle.xc_system.specs.Systems.{Constraints, equation_at}
use Rattle.xc_system.specs.declared.types.Component.{Component}
use Rattle.xc_system.specs.declared.types.Entry.{Entry}
use Rattle.xc_verify.specs.Feasible.{equation_terms}
use Rattle.xc_verify.specs.Sums.{Term, IsSumOf, plus_product, zero_ratio}

module _ (s : Constraints) (c : Component) (own : All (λ i. All (λ entry. IsIn entry.point c.points) (equation_at s.equations i).entries) c.equations) (values : List Ratio) (long : length values ≡ length c.points) (all : List Ratio) (among : AreAmong c.points values all) where
  equation_own : (i : ℕ) → IsIn i c.equations → AllByRecursion (λ entry. IsIn entry.point c.points) (equation_at s.equations i).entries
  equation_own i there =
      let place = place_of i c.equations there in
      recursion_from_All (λ entry. IsIn entry.point c.points) (equation_at s.equations i).entries (subst (λ (k : ℕ). All (λ entry. IsIn entry.point c.points) (equation_at s.equations k).entries) place.2 (own place.0 0 place.1))

  module _ (other : List Ratio) (also : AreAmong c.points values other) where
    same_at : (p : ℕ) → IsIn p c.points → slice_get all p ≡ slice_get other p
    same_at p there =
        let place = in_there c.points p there in
        let value : slice_get values place.0 ≡ Some (get_or values place.0 zero_ratio) = slice_get-get_or values place.0 zero_ratio (omega (arith, slice_get_within c.points place.0 p place.1, long)) in
        among place.0 p (get_or values place.0 zero_ratio) place.1 value ∙ sym (also place.0 p (get_or values place.0 zero_ratio) place.1 value)

    same_terms : (entries : List Entry) → AllByRecursion (λ entry. IsIn entry.point c.points) entries → equation_terms all entries ≡ equation_terms other entries
    same_terms [] h = refl
    same_terms (e ∷ es) h = ap₂ (λ (o : Option Ratio) (ts : List Term). cons_option (option_map (plus_product e.weight) o) ts) (same_at e.point h.0) (same_terms es h.1)

    pub other_sums : SumsPassNowhere s c all → SumsPassNowhere s c other
    other_sums h i there = let r = h i there in (r.0, subst (λ (ts : List Term). IsSumOf ts (Ok r.0)) (same_terms (equation_at s.equations i).entries (equation_own i there)) r.1)

  pub have_sums : SumsPassNowhere s c all → HaveSums s c values
  have_sums h other l also = other_sums other also h
