-- What a function makes of an interval, where it keeps or turns the order and every value is made from one.
use Rattle.std.proofs.Common.{◌≡◌, Bool, ◌∙◌, sym, inl, inr, ◌⊎◌}
use Rattle.std.specs.Prelude.{◌↔◌}
use Rattle.xc_model.proofs.Orders.{IsOrder}
use Rattle.xc_interval.specs.Arithmetic.{IsKept, IsTurned, IsMadeFrom}
use Rattle.xc_interval.specs.Ends.{value_of, is_open}
use Rattle.xc_interval.specs.Intervals.{LiesIn}
use Rattle.xc_interval.specs.declared.interval.Interval.{Interval}
use Rattle.xc_interval.proofs.Meeting.{IsDense, turned, lies_past, lies_before}
use Rattle.xc_interval.proofs.Sides.{Past, past_from, before_from}

-- f takes one order to another
module _ {A : Type 0} (Less Same : A → A → Type 0) (order : IsOrder Less Same) (compare : (x y : A) → Less x y ⊎ (Same x y ⊎ Less y x))
    (Less' Same' : A → A → Type 0) (order' : IsOrder Less' Same') (f : A → A) (less : (x y : A) → Less x y → Less' (f x) (f y)) (same : (x y : A) → Same x y → Same' (f x) (f y)) where
  less_reflected : (x y : A) → Less' (f x) (f y) → Less x y
  less_reflected x y h = elim (compare x y) [
    | inl below ↦ below
    | inr rest ↦ elim rest [
      | inl equal ↦ absurd (order'.irreflexive (f y) (order'.alike (f x) (f y) (f y) (f y) (same x y equal) (order'.same.reflexive (f y)) h))
      | inr above ↦ absurd (order'.irreflexive (f x) (order'.transitive (f x) (f y) (f x) h (less y x above)))
    ]
  ]

  same_reflected : (x y : A) → Same' (f x) (f y) → Same x y
  same_reflected x y h = elim (compare x y) [
    | inl below ↦ absurd (order'.irreflexive (f y) (order'.alike (f x) (f y) (f y) (f y) h (order'.same.reflexive (f y)) (less x y below)))
    | inr rest ↦ elim rest [
      | inl equal ↦ equal
      | inr above ↦ absurd (order'.irreflexive (f y) (order'.alike (f y) (f x) (f y) (f y) (order'.same.reflexive (f y)) h (less y x above)))
    ]
  ]

  pub past_made : (a b x y : A) (p o : Bool) → Same' b (f a) → o ≡ p → Same' (f y) x → Past Less Same a p y → Past Less' Same' b o x
  past_made a b x y p o at opens is (inl below) = inl (order'.alike (f a) (f y) b x (order'.same.symmetric b (f a) at) is (less a y below))
  past_made a b x y p o at opens is (inr equal) =
      inr (order'.same.transitive b (f a) x at (order'.same.transitive (f a) (f y) x (same a y equal.0) is), opens ∙ equal.1)

  pub past_unmade : (a b x y : A) (p o : Bool) → Same' b (f a) → o ≡ p → Same' (f y) x → Past Less' Same' b o x → Past Less Same a p y
  past_unmade a b x y p o at opens is (inl below) = inl (less_reflected a y (order'.alike b x (f a) (f y) at (order'.same.symmetric (f y) x is) below))
  past_unmade a b x y p o at opens is (inr equal) =
      inr (same_reflected a y (order'.same.transitive (f a) b (f y) (order'.same.symmetric b (f a) at) (order'.same.transitive b x (f y) equal.0 (order'.same.symmetric (f y) x is))), sym opens ∙ equal.1)

module _ {A : Type 0} (Less Same : A → A → Type 0) (dense : IsDense Less Same) (f g : A → A) (same : (x y : A) → Same x y → Same (f x) (f y)) (inverse : (x : A) → Same (f (g x)) x) (i m : Interval A) where
  abbrev More : A → A → Type 0
  More x y = Less y x

  abbrev Equal : A → A → Type 0
  Equal x y = Same y x

  order_turned : IsOrder More Equal
  order_turned = turned Less Same dense.order

  compare_turned : (x y : A) → More x y ⊎ (Equal x y ⊎ More y x)
  compare_turned x y = dense.compare y x

  equal : (x y : A) → Equal x y → Equal (f x) (f y)
  equal x y h = same y x h

  turn_same : (x y : A) → Same x y → Equal (f x) (f y)
  turn_same x y h = dense.order.same.symmetric (f x) (f y) (same x y h)

  same_turned : (x y : A) → Equal x y → Same (f x) (f y)
  same_turned x y h = dense.order.same.symmetric (f y) (f x) (same y x h)

  sym_of : (x y : A) → Same x y → Same y x
  sym_of = dense.order.same.symmetric

  -- f keeps the order
  module _ (keeps : (x y : A) → Less x y → Less (f x) (f y)) (ends : IsKept Same f i m) where
    more : (x y : A) → More x y → More (f x) (f y)
    more x y h = keeps y x h

    pub kept : (x : A) → LiesIn Less Same m x ↔ IsMadeFrom Less Same f i x
    kept x = (
      λ lies. record {
        from = g x;
        lies = record {
          low = past_from Less Same i.low (g x) (past_unmade Less Same dense.order dense.compare Less Same dense.order f keeps same
              (value_of i.low) (value_of m.low) x (g x) (is_open i.low) (is_open m.low) ends.low.at ends.low.opens (inverse x) (lies_past Less Same dense m x lies));
          high = before_from Less Same i.high (g x) (past_unmade More Equal order_turned compare_turned More Equal order_turned f more equal
              (value_of i.high) (value_of m.high) x (g x) (is_open i.high) (is_open m.high) (sym_of _ _ ends.high.at) ends.high.opens (sym_of _ _ (inverse x)) (lies_before Less Same dense m x lies));
        };
        makes = inverse x;
      },
      λ made. record {
        low = past_from Less Same m.low x (past_made Less Same dense.order dense.compare Less Same dense.order f keeps same
            (value_of i.low) (value_of m.low) x made.from (is_open i.low) (is_open m.low) ends.low.at ends.low.opens made.makes (lies_past Less Same dense i made.from made.lies));
        high = before_from Less Same m.high x (past_made More Equal order_turned compare_turned More Equal order_turned f more equal
            (value_of i.high) (value_of m.high) x made.from (is_open i.high) (is_open m.high) (sym_of _ _ ends.high.at) ends.high.opens (sym_of _ _ made.makes) (lies_before Less Same dense i made.from made.lies));
      },
    )

  -- f turns the order
  module _ (turns : (x y : A) → Less x y → Less (f y) (f x)) (ends : IsTurned Same f i m) where
    less_to : (x y : A) → Less x y → More (f x) (f y)
    less_to x y h = turns x y h

    more_to : (x y : A) → More x y → Less (f x) (f y)
    more_to x y h = turns y x h

    pub turned_round : (x : A) → LiesIn Less Same m x ↔ IsMadeFrom Less Same f i x
    turned_round x = (
      λ lies. record {
        from = g x;
        lies = record {
          low = past_from Less Same i.low (g x) (past_unmade Less Same dense.order dense.compare More Equal order_turned f less_to turn_same
              (value_of i.low) (value_of m.high) x (g x) (is_open i.low) (is_open m.high) (sym_of _ _ ends.high.at) ends.high.opens (sym_of _ _ (inverse x)) (lies_before Less Same dense m x lies));
          high = before_from Less Same i.high (g x) (past_unmade More Equal order_turned compare_turned Less Same dense.order f more_to same_turned
              (value_of i.high) (value_of m.low) x (g x) (is_open i.high) (is_open m.low) ends.low.at ends.low.opens (inverse x) (lies_past Less Same dense m x lies));
        };
        makes = inverse x;
      },
      λ made. record {
        low = past_from Less Same m.low x (past_made More Equal order_turned compare_turned Less Same dense.order f more_to same_turned
            (value_of i.high) (value_of m.low) x made.from (is_open i.high) (is_open m.low) ends.low.at ends.low.opens made.makes (lies_before Less Same dense i made.from made.lies));
        high = before_from Less Same m.high x (past_made Less Same dense.order dense.compare More Equal order_turned f less_to turn_same
            (value_of i.low) (value_of m.high) x made.from (is_open i.low) (is_open m.high) (sym_of _ _ ends.high.at) ends.high.opens (sym_of _ _ made.makes) (lies_past Less Same dense i made.from made.lies));
      },
    )
