-- Keys are equal where arcs have the same in common, and the arcs that have in common what the key of an arc says are those that are equivalent to it.
use Rattle.std.proofs.Common.{◌≡◌, ◌==◌, ◌&&◌, Bool, true, false, map, refl, sym, ap, ◌∙◌}
use Rattle.std.proofs.lemmas.Cmp.{int_cmp_total, lists_total, nat_cmp_total, on_total, then_total, tied_itself}
use Rattle.std.proofs.lemmas.Map.Text.{is_eq-slice_cmp}
use Rattle.std.specs.Cmp.{IsTotalOrder}
use Rattle.std.specs.Cmp.Lexicographic.{slice_cmp, on_texts}
use Rattle.std.specs.Ordering.{nat_cmp, int_cmp, is_eq, ordering_then, int_eq}
use Rattle.std.specs.Str.{bytes_eq}
use Rattle.xc_calc.specs.Effective.{is_same_number, is_equivalent}
use Rattle.xc_calc.proofs.AttributeSets.{compared_by, same_sets, total}
use Rattle.xc_calc.specs.Steps.Common.{number_of, by_number, is_number, by_common, IsCommonOf, has_common, has_others}
use Rattle.xc_calc.specs.Steps.Sets.{attribute_of, by_attribute, by_compared, in_order}
use Rattle.xc_calc.specs.declared.arc.ListedArc.{ListedArc}
use Rattle.xc_calc.specs.declared.common.Common.{Common}
use Rattle.xc_calc.specs.declared.common.Number.{Number}
use Rattle.xc_decimal.specs.Shortest.{Shortest}
use Rattle.xc_lists.proofs.Orderings.{is_eq-nat_cmp, is_eq-then}

-- ---- the order of keys

number_total : IsTotalOrder by_number
number_total = then_total (on_total (λ (n : Number). n.digits) int_cmp_total) (on_total (λ (n : Number). n.places) nat_cmp_total)

pub common_total : IsTotalOrder by_common
common_total =
    then_total (on_total (λ (k : Common). k.from.0) nat_cmp_total)
    (then_total (on_total (λ (k : Common). k.to.0) nat_cmp_total)
    (then_total (on_texts (λ (k : Common). k.role.now))
    (then_total (on_total (λ (k : Common). k.weight) number_total)
    (then_total (on_total (λ (k : Common). k.order) number_total) (on_total (λ (k : Common). k.others.now) (lists_total (on_total attribute_of total)))))))

along : (a b c d e f : Bool) → (a && (b && (c && (d && (e && f))))) ≡ (a && b && c && d && e && f)
along false b c d e f = refl
along true false c d e f = refl
along true true false d e f = refl
along true true true false e f = refl
along true true true true false f = refl
along true true true true true f = refl

same_number : (m n : Number) (d : Shortest) → n ≡ number_of d → is_eq (by_number m n) ≡ is_number m d
same_number m n d is =
    ap (λ n. is_eq (by_number m n)) is
    ∙ is_eq-then (int_cmp m.digits d.digits) (nat_cmp m.places d.places)
    ∙ ap (λ b. int_eq m.digits d.digits && b) (is_eq-nat_cmp m.places d.places)

-- lists of attributes are equal where the one is the set of an arc that has the other
same_others : (q key : Common) (a : ListedArc) → map attribute_of key.others.now ≡ in_order a.others → is_eq (slice_cmp by_compared q.others.now key.others.now) ≡ has_others q a
same_others q key a is = ap is_eq (compared_by q.others.now key.others.now ∙ ap (slice_cmp by_attribute (map attribute_of q.others.now)) is)

-- keys are equal where the one is that of an arc that has the other in common
pub same_common : (q key : Common) (a : ListedArc) → IsCommonOf key a → is_eq (by_common q key) ≡ has_common q a
same_common q key a is =
    let from = nat_cmp q.from.0 key.from.0 in
    let to = nat_cmp q.to.0 key.to.0 in
    let role = slice_cmp nat_cmp q.role.now key.role.now in
    let weight = by_number q.weight key.weight in
    let order = by_number q.order key.order in
    let others = slice_cmp by_compared q.others.now key.others.now in
    is_eq-then from (ordering_then to (ordering_then role (ordering_then weight (ordering_then order others))))
    ∙ ap (λ b. is_eq from && b) (is_eq-then to (ordering_then role (ordering_then weight (ordering_then order others))))
    ∙ ap (λ b. is_eq from && (is_eq to && b)) (is_eq-then role (ordering_then weight (ordering_then order others)))
    ∙ ap (λ b. is_eq from && (is_eq to && (is_eq role && b))) (is_eq-then weight (ordering_then order others))
    ∙ ap (λ b. is_eq from && (is_eq to && (is_eq role && (is_eq weight && b)))) (is_eq-then order others)
    ∙ along (is_eq from) (is_eq to) (is_eq role) (is_eq weight) (is_eq order) (is_eq others)
    ∙ ap (λ b. b && is_eq to && is_eq role && is_eq weight && is_eq order && is_eq others) (is_eq-nat_cmp q.from.0 key.from.0 ∙ ap (λ x. q.from.0 == x.0) is.from)
    ∙ ap (λ b. (q.from.0 == a.arc.from.0) && b && is_eq role && is_eq weight && is_eq order && is_eq others) (is_eq-nat_cmp q.to.0 key.to.0 ∙ ap (λ x. q.to.0 == x.0) is.to)
    ∙ ap (λ b. (q.from.0 == a.arc.from.0) && (q.to.0 == a.arc.to.0) && b && is_eq weight && is_eq order && is_eq others) (is_eq-slice_cmp q.role.now key.role.now ∙ ap (bytes_eq q.role.now) is.role)
    ∙ ap (λ b. (q.from.0 == a.arc.from.0) && (q.to.0 == a.arc.to.0) && bytes_eq q.role.now a.role && b && is_eq order && is_eq others) (same_number q.weight key.weight a.arc.weight is.weight)
    ∙ ap (λ b. (q.from.0 == a.arc.from.0) && (q.to.0 == a.arc.to.0) && bytes_eq q.role.now a.role && is_number q.weight a.arc.weight && b && is_eq others) (same_number q.order key.order a.order is.order)
    ∙ ap (λ b. (q.from.0 == a.arc.from.0) && (q.to.0 == a.arc.to.0) && bytes_eq q.role.now a.role && is_number q.weight a.arc.weight && is_number q.order a.order && b) (same_others q key a is.others)

-- ---- the arcs of a key

module _ (key : Common) (a : ListedArc) (is : IsCommonOf key a) where
  -- an arc has in common what its own key says
  pub has_own_common : has_common key a ≡ true
  has_own_common = sym (same_common key key a is) ∙ ap is_eq (tied_itself common_total key)

  -- arcs have in common what the key of an arc says exactly where they are equivalent to it
  pub common_is : (b : ListedArc) → has_common key b ≡ is_equivalent a b
  common_is b =
      let said = (key.from.0 == b.arc.from.0) && (key.to.0 == b.arc.to.0) && bytes_eq key.role.now b.role && is_number key.weight b.arc.weight && is_number key.order b.order in
      let own = (a.arc.from.0 == b.arc.from.0) && (a.arc.to.0 == b.arc.to.0) && bytes_eq a.role b.role && is_same_number a.arc.weight b.arc.weight && is_same_number a.order b.order in
      let same : said ≡ own = rw (is.from, is.to, is.role, is.weight, is.order) refl in
      ap (λ x. x && has_others key b) same
      ∙ ap (λ others. own && is_eq (slice_cmp by_attribute others (in_order b.others))) is.others
      ∙ ap (λ x. own && x) (same_sets a.others b.others)
