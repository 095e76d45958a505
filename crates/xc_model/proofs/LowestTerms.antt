-- A number has one fraction in lowest terms.
use Rattle.std.proofs.Common.{◌≡◌, ℤ, pos, sym, ◌∙◌, ap, subst}
use Rattle.std.specs.Prelude.{◌*ℤ◌}
use Rattle.std.proofs.Props.{props}
use Rattle.xc_model.specs.Ratio.{IsLowest, Ratio, fraction_of}
use Rattle.xc_model.proofs.Integers.{pos-unsigned_abs}
use Rattle.xc_model.proofs.Lowest.{lowest_unique}
use Rattle.xc_model.specs.Laws.{CrossProductsTell, HasOneLowest}

lowest_prop : (n d : ℤ) → IsProp (IsLowest n d)
lowest_prop n d = hlevel props

abbrev ratio : (n d : ℤ) → IsLowest n d → Ratio
ratio n d h = record { num = n; den = d; lowest = h }

-- it does not matter why a fraction is lowest
same_ratio : (n d n' d' : ℤ) → n ≡ n' → d ≡ d' → (h : IsLowest n d) (h' : IsLowest n' d') → ratio n d h ≡ ratio n' d' h'
same_ratio n d n' d' e f h =
    let same_terms : (h' : IsLowest n d) → ratio n d h ≡ ratio n d h' = λ h'. ap (λ k. ratio n d k) (lowest_prop n d h h') in
    let same_num : (h' : IsLowest n d') → ratio n d h ≡ ratio n d' h' = subst (λ z. (h' : IsLowest n z) → ratio n d h ≡ ratio n z h') f same_terms in
    subst (λ z. (h' : IsLowest z d') → ratio n d h ≡ ratio z d' h') e same_num

pub one_lowest : HasOneLowest
one_lowest f g h =
    let same = lowest_unique (fraction_of f) (fraction_of g) h f.lowest.coprime g.lowest.coprime in
    let den = sym (pos-unsigned_abs f.den f.lowest.positive) ∙ ap pos same.den ∙ pos-unsigned_abs g.den g.lowest.positive in
    same_ratio f.num f.den g.num g.den same.num den f.lowest g.lowest

pub cross_tells : CrossProductsTell
cross_tells f g =
    let left = pos-unsigned_abs f.den f.lowest.positive in
    let right = pos-unsigned_abs g.den g.lowest.positive in (
      λ e. record { cross = ap (λ z. f.num *ℤ z) right ∙ e ∙ ap (λ z. g.num *ℤ z) (sym left) },
      λ h. ap (λ z. f.num *ℤ z) (sym right) ∙ h.cross ∙ ap (λ z. g.num *ℤ z) left,
    )
