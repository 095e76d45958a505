-- The laws of an order that a relation of lesser and greater and one of being the same give, for numbers and for pairs.
use Rattle.std.proofs.Common.{◌≡◌, refl, inl, inr, arith, ℤ, pos}
use Rattle.std.specs.Prelude.{◌*ℤ◌, ◌<ℤ◌}
use Rattle.std.specs.Ordering.{MatchOrdering}
use Rattle.std.specs.declared.cmp.Ordering.{Ordering}
use Rattle.std.specs.declared.cmp.Ordering.TheVariants.{Less, Equal, Greater}
use Rattle.std.proofs.lemmas.Int.{ints, by_lt_z}
use Rattle.xc_model.specs.Fraction.{Fraction, SameNumber, IsBelow, whole, neg_of, sum_of, product_of}
use Rattle.xc_model.specs.Order.{Orders}
use Rattle.xc_model.proofs.Arithmetic.{below-sum, below-neg, below-product, below-product_neg}
use Rattle.xc_model.proofs.Numbers.{same-refl, same-sym, same-trans, same-sum, same-neg, same-product, below-trans, below-same}
use Rattle.xc_model.specs.Laws.{IsEquivalence, IsTotal, IsSingle, IsAntisymmetric, IsTransitive, ComparesAlike, Keeps, Reverses}
use Rattle.xc_model.specs.Parts.{Parts, SameParts, IsLess, OrdersParts, neg_parts, sum_parts, scaled_parts}

-- Below is an order of what is not the same
module _ {A : Type 0} (Below Same : A → A → Type 0) where
  pub record IsOrder : Type 0 where
    pub same : IsEquivalence Same
    pub irreflexive : (x : A) → Below x x → ⊥
    pub transitive : (x y z : A) → Below x y → Below y z → Below x z
    pub alike : (x y x' y' : A) → Same x x' → Same y y' → Below x y → Below x' y'

  abbrev compares : Ordering → A → A → Type 0
  compares o x y = MatchOrdering o (Below x y) (Same x y) (Below y x)

  module _ (order : IsOrder) where
    pub antisymmetric : IsAntisymmetric compares
    antisymmetric Less x y h = h
    antisymmetric Equal x y h = order.same.symmetric x y h
    antisymmetric Greater x y h = h

    pub transitive : IsTransitive compares
    transitive Less x y z h i = order.transitive x y z h i
    transitive Equal x y z h i = order.same.transitive x y z h i
    transitive Greater x y z h i = order.transitive z y x i h

    pub alike : ComparesAlike compares Same
    alike Less x y x' y' left right h = order.alike x y x' y' left right h
    alike Equal x y x' y' left right h =
        order.same.transitive x' x y' (order.same.symmetric x x' left) (order.same.transitive x y y' h right)
    alike Greater x y x' y' left right h = order.alike y x y' x' right left h

    not_same : (x y : A) → Below x y → Same x y → ⊥
    not_same x y below same = order.irreflexive x (order.alike x y x x (order.same.reflexive x) (order.same.symmetric x y same) below)

    not_both : (x y : A) → Below x y → Below y x → ⊥
    not_both x y h i = order.irreflexive x (order.transitive x y x h i)

    pub single : IsSingle compares
    single Less Less x y h i = refl
    single Less Equal x y h i = absurd (not_same x y h i)
    single Less Greater x y h i = absurd (not_both x y h i)
    single Equal Less x y h i = absurd (not_same x y i h)
    single Equal Equal x y h i = refl
    single Equal Greater x y h i = absurd (not_same y x i (order.same.symmetric x y h))
    single Greater Less x y h i = absurd (not_both x y i h)
    single Greater Equal x y h i = absurd (not_same y x h (order.same.symmetric x y i))
    single Greater Greater x y h i = refl

  -- what keeps both relations keeps the order, and what keeps one and turns the other round reverses it
  pub keeps : (f : A → A) → ((x y : A) → Below x y → Below (f x) (f y)) → ((x y : A) → Same x y → Same (f x) (f y)) → Keeps compares f
  keeps f below same Less x y h = below x y h
  keeps f below same Equal x y h = same x y h
  keeps f below same Greater x y h = below y x h

  pub reverses : (f : A → A) → ((x y : A) → Below x y → Below (f y) (f x)) → ((x y : A) → Same x y → Same (f y) (f x)) → Reverses compares f
  reverses f below same Less x y h = below x y h
  reverses f below same Equal x y h = same x y h
  reverses f below same Greater x y h = below y x h

-- Numbers

pub same_number : IsEquivalence SameNumber
same_number = record { reflexive = same-refl; symmetric = same-sym; transitive = same-trans }

pub number_order : IsOrder IsBelow SameNumber
number_order = record { same = same_number; irreflexive = λ x h. absurd (omega (arith, ints, h.cross)); transitive = below-trans; alike = below-same }

pub number_total : IsTotal Orders
number_total x y = go (x.num *ℤ pos y.den) (y.num *ℤ pos x.den) (λ h. (Less, record { cross = h })) (λ h. (Equal, record { cross = h })) (λ h. (Greater, record { cross = h }))
  where
    go : {G : Type 0} (a b : ℤ) → (a <ℤ b → G) → (a ≡ b → G) → (b <ℤ a → G) → G
    go a b less equal greater = by_lt_z a b less (λ h. by_lt_z b a greater (λ i. equal (omega (arith, ints))))

pub number_sum : (z : Fraction) → Keeps Orders (λ x. sum_of x z)
number_sum z = keeps IsBelow SameNumber (λ x. sum_of x z) (below-sum z) (λ x y h. same-sum x z y z h (same-refl z))

pub number_neg : Reverses Orders neg_of
number_neg = reverses IsBelow SameNumber neg_of below-neg (λ x y h. same-sym (neg_of x) (neg_of y) (same-neg x y h))

pub number_product : (z : Fraction) → IsBelow (whole (pos 0)) z → Keeps Orders (λ x. product_of x z)
number_product z above = keeps IsBelow SameNumber (λ x. product_of x z) (λ x y. below-product z x y above) (λ x y h. same-product x z y z h (same-refl z))

pub number_product_neg : (z : Fraction) → IsBelow z (whole (pos 0)) → Reverses Orders (λ x. product_of x z)
number_product_neg z below = reverses IsBelow SameNumber (λ x. product_of x z) (λ x y. below-product_neg z x y below) (λ x y h. same-product y z x z (same-sym x y h) (same-refl z))

-- Pairs

pub same_parts : IsEquivalence SameParts
same_parts = record {
  reflexive = λ x. record { real = same-refl x.real; tiny = same-refl x.tiny };
  symmetric = λ x y h. record { real = same-sym x.real y.real h.real; tiny = same-sym x.tiny y.tiny h.tiny };
  transitive = λ x y z h i. record { real = same-trans x.real y.real z.real h.real i.real; tiny = same-trans x.tiny y.tiny z.tiny h.tiny i.tiny };
}

less_irreflexive : (x : Parts) → IsLess x x → ⊥
less_irreflexive x h = elim h [
  | inl below ↦ number_order.irreflexive x.real below
  | inr rest ↦ number_order.irreflexive x.tiny rest.1
]

less_transitive : (x y z : Parts) → IsLess x y → IsLess y z → IsLess x z
less_transitive x y z h i = elim h [
  | inl below ↦ elim i [
    | inl above ↦ inl (below-trans x.real y.real z.real below above)
    | inr rest ↦ inl (below-same x.real y.real x.real z.real (same-refl x.real) rest.0 below)
  ]
  | inr rest ↦ elim i [
    | inl above ↦ inl (below-same y.real z.real x.real z.real (same-sym x.real y.real rest.0) (same-refl z.real) above)
    | inr more ↦ inr (same-trans x.real y.real z.real rest.0 more.0, below-trans x.tiny y.tiny z.tiny rest.1 more.1)
  ]
]

less_alike : (x y x' y' : Parts) → SameParts x x' → SameParts y y' → IsLess x y → IsLess x' y'
less_alike x y x' y' left right h = elim h [
  | inl below ↦ inl (below-same x.real y.real x'.real y'.real left.real right.real below)
  | inr rest ↦ inr (same-trans x'.real x.real y'.real (same-sym x.real x'.real left.real) (same-trans x.real y.real y'.real rest.0 right.real), below-same x.tiny y.tiny x'.tiny y'.tiny left.tiny right.tiny rest.1)
]

pub pair_order : IsOrder IsLess SameParts
pair_order = record { same = same_parts; irreflexive = less_irreflexive; transitive = less_transitive; alike = less_alike }

pub pair_total : IsTotal OrdersParts
pair_total x y = by_real (number_total x.real y.real) (number_total x.tiny y.tiny)
  where
    by_real : ((o : Ordering) × Orders o x.real y.real) → ((o : Ordering) × Orders o x.tiny y.tiny) → (o : Ordering) × OrdersParts o x y
    by_real (Less, h) tiny = (Less, inl h)
    by_real (Greater, h) tiny = (Greater, inl h)
    by_real (Equal, h) (Less, i) = (Less, inr (h, i))
    by_real (Equal, h) (Equal, i) = (Equal, record { real = h; tiny = i })
    by_real (Equal, h) (Greater, i) = (Greater, inr (same-sym x.real y.real h, i))

pub pair_sum : (z : Parts) → Keeps OrdersParts (λ x. sum_parts x z)
pair_sum z = keeps IsLess SameParts (λ x. sum_parts x z) below same
  where
    same_real : (x y : Fraction) (z : Fraction) → SameNumber x y → SameNumber (sum_of x z) (sum_of y z)
    same_real x y z h = same-sum x z y z h (same-refl z)

    below : (x y : Parts) → IsLess x y → IsLess (sum_parts x z) (sum_parts y z)
    below x y h = elim h [
      | inl less ↦ inl (below-sum z.real x.real y.real less)
      | inr rest ↦ inr (same_real x.real y.real z.real rest.0, below-sum z.tiny x.tiny y.tiny rest.1)
    ]

    same : (x y : Parts) → SameParts x y → SameParts (sum_parts x z) (sum_parts y z)
    same x y h = record { real = same_real x.real y.real z.real h.real; tiny = same_real x.tiny y.tiny z.tiny h.tiny }

pub pair_neg : Reverses OrdersParts neg_parts
pair_neg = reverses IsLess SameParts neg_parts below same
  where
    below : (x y : Parts) → IsLess x y → IsLess (neg_parts y) (neg_parts x)
    below x y h = elim h [
      | inl less ↦ inl (below-neg x.real y.real less)
      | inr rest ↦ inr (same-sym (neg_of x.real) (neg_of y.real) (same-neg x.real y.real rest.0), below-neg x.tiny y.tiny rest.1)
    ]

    same : (x y : Parts) → SameParts x y → SameParts (neg_parts y) (neg_parts x)
    same x y h = same_parts.symmetric (neg_parts x) (neg_parts y) (record { real = same-neg x.real y.real h.real; tiny = same-neg x.tiny y.tiny h.tiny })

module _ (z : Fraction) where
  same_scaled : (x y : Parts) → SameParts x y → SameParts (scaled_parts x z) (scaled_parts y z)
  same_scaled x y h = record { real = same-product x.real z y.real z h.real (same-refl z); tiny = same-product x.tiny z y.tiny z h.tiny (same-refl z) }

  pub pair_product : IsBelow (whole (pos 0)) z → Keeps OrdersParts (λ x. scaled_parts x z)
  pair_product above = keeps IsLess SameParts (λ x. scaled_parts x z) below same_scaled
    where
      below : (x y : Parts) → IsLess x y → IsLess (scaled_parts x z) (scaled_parts y z)
      below x y h = elim h [
        | inl less ↦ inl (below-product z x.real y.real above less)
        | inr rest ↦ inr (same-product x.real z y.real z rest.0 (same-refl z), below-product z x.tiny y.tiny above rest.1)
      ]

  pub pair_product_neg : IsBelow z (whole (pos 0)) → Reverses OrdersParts (λ x. scaled_parts x z)
  pair_product_neg under = reverses IsLess SameParts (λ x. scaled_parts x z) below (λ x y h. same_scaled y x (same_parts.symmetric x y h))
    where
      below : (x y : Parts) → IsLess x y → IsLess (scaled_parts y z) (scaled_parts x z)
      below x y h = elim h [
        | inl less ↦ inl (below-product_neg z x.real y.real under less)
        | inr rest ↦ inr (same-product y.real z x.real z (same-sym x.real y.real rest.0) (same-refl z), below-product_neg z x.tiny y.tiny under rest.1)
      ]
