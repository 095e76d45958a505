-- The law of sums: what lies in a sum of intervals is a sum of what lies in them.
use Rattle.std.proofs.Common.{◌≡◌, Bool, true, false, ◌||◌, refl, sym, ◌∙◌, inl, inr}
use Rattle.xc_interval.specs.Arithmetic.{IsSumInterval, IsSumFrom}
use Rattle.xc_interval.specs.Ends.{value_of, is_open}
use Rattle.xc_interval.specs.Intervals.{LiesIn, Crosses}
use Rattle.xc_interval.specs.Laws.{HasSums}
use Rattle.xc_interval.specs.declared.interval.Interval.{Interval}
use Rattle.xc_interval.proofs.Sides.{Past, Before, Reach, past_from, before_from, opens_of}
use Rattle.xc_interval.proofs.Groups.{IsGroup}
use Rattle.xc_interval.proofs.Groups as groups
use Rattle.xc_interval.proofs.Meeting.{IsDense, common, lies_past, lies_before}

either : (p q s : Bool) → s ≡ p || q → s ≡ false → (p ≡ false) × (q ≡ false)
either true q s e f = cc
either false q s e f = (refl, sym e ∙ f)

neither : (p q s : Bool) → s ≡ p || q → p ≡ false → q ≡ false → s ≡ false
neither true q s e f g = cc
neither false q s e f g = e ∙ g

module _ {A : Type 0} (Less Same : A → A → Type 0) (sum : A → A → A) (neg : A → A) (zero_ : A) (dense : IsDense Less Same) (group : IsGroup Less Same sum neg zero_) where
  abbrev minus : A → A → A
  minus x b = sum x (neg b)

  -- the relations of being less and of being the same
  less_over : (a b x : A) → Less (sum a b) x → Less a (minus x b)
  less_over = groups.right_over Less Same sum neg zero_ group Less (groups.less_alike Less Same sum neg zero_ group) group.less

  same_over : (a b x : A) → Same (sum a b) x → Same a (minus x b)
  same_over = groups.right_over Less Same sum neg zero_ group Same (groups.same_alike Less Same sum neg zero_ group) (groups.same_keeps Less Same sum neg zero_ group)

  less_under : (a b x : A) → Less x (sum a b) → Less (minus x b) a
  less_under = groups.left_over Less Same sum neg zero_ group Less (groups.less_alike Less Same sum neg zero_ group) group.less

  same_under : (a b x : A) → Same x (sum a b) → Same (minus x b) a
  same_under = groups.left_over Less Same sum neg zero_ group Same (groups.same_alike Less Same sum neg zero_ group) (groups.same_keeps Less Same sum neg zero_ group)

  less_turn : (a b x : A) → Less a b → Less (minus x b) (minus x a)
  less_turn = groups.turn Less Same sum neg zero_ group Less (groups.less_alike Less Same sum neg zero_ group) group.less

  same_turn : (a b x : A) → Same a b → Same (minus x b) (minus x a)
  same_turn = groups.turn Less Same sum neg zero_ group Same (groups.same_alike Less Same sum neg zero_ group) (groups.same_keeps Less Same sum neg zero_ group)

  less_swap : (a x y : A) → Less y (minus x a) → Less a (minus x y)
  less_swap = groups.right_swap Less Same sum neg zero_ group Less (groups.less_alike Less Same sum neg zero_ group) group.less

  same_swap : (a x y : A) → Same y (minus x a) → Same a (minus x y)
  same_swap = groups.right_swap Less Same sum neg zero_ group Same (groups.same_alike Less Same sum neg zero_ group) (groups.same_keeps Less Same sum neg zero_ group)

  less_back : (a x y : A) → Less (minus x a) y → Less (minus x y) a
  less_back = groups.left_swap Less Same sum neg zero_ group Less (groups.less_alike Less Same sum neg zero_ group) group.less

  same_back : (a x y : A) → Same (minus x a) y → Same (minus x y) a
  same_back = groups.left_swap Less Same sum neg zero_ group Same (groups.same_alike Less Same sum neg zero_ group) (groups.same_keeps Less Same sum neg zero_ group)

  -- a sum that is past the sum of two low ends leaves room past each of them
  low_reach : (a b s x : A) (p q o : Bool) → Same s (sum a b) → o ≡ p || q → Past Less Same s o x → Reach Less Same a p (minus x b) q
  low_reach a b s x p q o at opens (inl less) = inl (less_over a b x (group.order.alike s x (sum a b) x at (group.order.same.reflexive x) less))
  low_reach a b s x p q o at opens (inr same) =
      inr (same_over a b x (group.order.same.transitive (sum a b) s x (group.order.same.symmetric s (sum a b) at) same.0), either p q o opens same.1)

  high_reach : (a b s x : A) (p q o : Bool) → Same s (sum a b) → o ≡ p || q → Before Less Same s o x → Reach Less Same (minus x b) q a p
  high_reach a b s x p q o at opens (inl less) = inl (less_under a b x (group.order.alike x s x (sum a b) (group.order.same.reflexive x) at less))
  high_reach a b s x p q o at opens (inr same) =
      let flags = either p q o opens same.1 in
      inr (same_under a b x (group.order.same.transitive x s (sum a b) same.0 at), (flags.1, flags.0))

  turn_reach : (a b x : A) (p q : Bool) → Reach Less Same a p b q → Reach Less Same (minus x b) q (minus x a) p
  turn_reach a b x p q (inl less) = inl (less_turn a b x less)
  turn_reach a b x p q (inr same) = inr (same_turn a b x same.0, (same.1.1, same.1.0))

  -- what is before x - a leaves a rest past a, and what is past x - b one before b
  rest_past : (a x y : A) (p : Bool) → Before Less Same (minus x a) p y → Past Less Same a p (minus x y)
  rest_past a x y p (inl less) = inl (less_swap a x y less)
  rest_past a x y p (inr same) = inr (same_swap a x y same.0, same.1)

  rest_before : (b x y : A) (q : Bool) → Past Less Same (minus x b) q y → Before Less Same b q (minus x y)
  rest_before b x y q (inl less) = inl (less_back b x y less)
  rest_before b x y q (inr same) = inr (same_back b x y same.0, same.1)

  module _ (i j s : Interval A) (ends : IsSumInterval Same sum i j s) where
    split : ¬ Crosses Less Same i → ¬ Crosses Less Same j → (x : A) → LiesIn Less Same s x → IsSumFrom Less Same sum i j x
    split own others x lies =
        let a = value_of i.low in let b = value_of i.high in let c = value_of j.low in let d = value_of j.high in
        let p = is_open i.low in let q = is_open i.high in let r = is_open j.low in let t = is_open j.high in
        let i_opens = opens_of Less Same dense.order dense.compare i own in
        let j_opens = turn_reach c d x r t (opens_of Less Same dense.order dense.compare j others) in
        let low = low_reach a c (value_of s.low) x p r (is_open s.low) ends.low.at ends.low.opens (lies_past Less Same dense s x lies) in
        let high = high_reach b d (value_of s.high) x q t (is_open s.high) ends.high.at ends.high.opens (lies_before Less Same dense s x lies) in
        let y = common Less Same dense a p b q (minus x d) t (minus x c) r i_opens j_opens low high in
        record {
          left = y.at;
          right = minus x y.at;
          in_left = record { low = past_from Less Same i.low y.at y.past; high = before_from Less Same i.high y.at y.before };
          in_right = record {
            low = past_from Less Same j.low (minus x y.at) (rest_past c x y.at r y.other_before);
            high = before_from Less Same j.high (minus x y.at) (rest_before d x y.at t y.other_past);
          };
          adds = groups.filled Less Same sum neg zero_ group x y.at;
        }

    less_sum : (a b y z : A) → Less a y → Less b z → Less (sum a b) (sum y z)
    less_sum a b y z = groups.both Less Same sum neg zero_ group Less (groups.less_alike Less Same sum neg zero_ group) group.less a b y z group.order.transitive

    -- sums of what is past are past the sum
    past_sum : (a b y z e x : A) (p q o : Bool) → Same e (sum a b) → o ≡ p || q → Same (sum y z) x → Past Less Same a p y → Past Less Same b q z → Past Less Same e o x
    past_sum a b y z e x p q o at opens is (inl left) (inl right) = inl (group.order.alike _ _ e x (group.order.same.symmetric e _ at) is (less_sum a b y z left right))
    past_sum a b y z e x p q o at opens is (inl left) (inr right) =
        let more : Less (sum a b) (sum y b) = group.less b a y left in
        let same : Same (sum y b) (sum y z) = group.sums y b y z (group.order.same.reflexive y) right.0 in
        inl (group.order.alike _ _ e x (group.order.same.symmetric e _ at) (group.order.same.transitive _ _ x same is) more)
    past_sum a b y z e x p q o at opens is (inr left) (inl right) =
        let same : Same (sum z a) (sum y z) = group.order.same.transitive _ (sum z y) _ (group.sums z a z y (group.order.same.reflexive z) left.0) (group.commutative z y) in
        let more : Less (sum b a) (sum z a) = group.less a b z right in
        inl (group.order.alike _ _ e x (group.order.same.transitive _ (sum a b) e (group.commutative b a) (group.order.same.symmetric e _ at)) (group.order.same.transitive _ _ x same is) more)
    past_sum a b y z e x p q o at opens is (inr left) (inr right) =
        inr (group.order.same.transitive e (sum a b) x at (group.order.same.transitive _ (sum y z) x (group.sums a b y z left.0 right.0) is), neither p q o opens left.1 right.1)

    before_sum : (a b y z e x : A) (p q o : Bool) → Same e (sum a b) → o ≡ p || q → Same (sum y z) x → Before Less Same a p y → Before Less Same b q z → Before Less Same e o x
    before_sum a b y z e x p q o at opens is (inl left) (inl right) = inl (group.order.alike _ _ x e is (group.order.same.symmetric e _ at) (less_sum y z a b left right))
    before_sum a b y z e x p q o at opens is (inl left) (inr right) =
        let more : Less (sum y b) (sum a b) = group.less b y a left in
        let same : Same (sum y b) (sum y z) = group.sums y b y z (group.order.same.reflexive y) (group.order.same.symmetric z b right.0) in
        inl (group.order.alike _ _ x e (group.order.same.transitive _ _ x same is) (group.order.same.symmetric e _ at) more)
    before_sum a b y z e x p q o at opens is (inr left) (inl right) =
        let same : Same (sum z a) (sum y z) = group.order.same.transitive _ (sum z y) _ (group.sums z a z y (group.order.same.reflexive z) (group.order.same.symmetric y a left.0)) (group.commutative z y) in
        let more : Less (sum z a) (sum b a) = group.less a z b right in
        inl (group.order.alike _ _ x e (group.order.same.transitive _ _ x same is) (group.order.same.transitive _ (sum a b) e (group.commutative b a) (group.order.same.symmetric e _ at)) more)
    before_sum a b y z e x p q o at opens is (inr left) (inr right) =
        inr (group.order.same.transitive x (sum y z) e (group.order.same.symmetric _ x is) (group.order.same.transitive _ (sum a b) e (group.sums y z a b left.0 right.0) (group.order.same.symmetric e _ at)), neither p q o opens left.1 right.1)

    joined : (x : A) → IsSumFrom Less Same sum i j x → LiesIn Less Same s x
    joined x from = record {
      low = past_from Less Same s.low x (past_sum (value_of i.low) (value_of j.low) from.left from.right (value_of s.low) x (is_open i.low) (is_open j.low) (is_open s.low)
          ends.low.at ends.low.opens from.adds (lies_past Less Same dense i from.left from.in_left) (lies_past Less Same dense j from.right from.in_right));
      high = before_from Less Same s.high x (before_sum (value_of i.high) (value_of j.high) from.left from.right (value_of s.high) x (is_open i.high) (is_open j.high) (is_open s.high)
          ends.high.at ends.high.opens from.adds (lies_before Less Same dense i from.left from.in_left) (lies_before Less Same dense j from.right from.in_right));
    }

  pub has_sums : HasSums Less Same sum
  has_sums i j s own others ends x = (split i j s ends own others x, joined i j s ends x)
