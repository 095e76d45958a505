-- Sums and differences in an ordered group.
use Rattle.xc_model.proofs.Orders.{IsOrder}
use Rattle.xc_model.specs.Laws.{BothRespected, IsAssociative, IsCommutative, IsNeutral, GivesInverses}

pub record IsGroup {A : Type 0} (Less Same : A → A → Type 0) (sum : A → A → A) (neg : A → A) (zero_ : A) : Type 0 where
  pub order : IsOrder Less Same
  pub sums : BothRespected Same sum
  pub associative : IsAssociative Same sum
  pub commutative : IsCommutative Same sum
  pub neutral : IsNeutral Same sum zero_
  pub inverse : GivesInverses Same sum neg zero_
  pub less : (z x y : A) → Less x y → Less (sum x z) (sum y z)

module _ {A : Type 0} (Less Same : A → A → Type 0) (sum : A → A → A) (neg : A → A) (zero_ : A) (group : IsGroup Less Same sum neg zero_) where
  abbrev same : (x y : A) → Type 0
  same x y = Same x y

  same_sum : (z x y : A) → Same x y → Same (sum x z) (sum y z)
  same_sum z x y h = group.sums x z y z h (group.order.same.reflexive z)

  -- x - b
  abbrev pub less_by : A → A → A
  less_by x b = sum x (neg b)

  -- (a + b) - b is a
  pub gone : (a b : A) → Same (less_by (sum a b) b) a
  gone a b =
      let t = group.order.same.transitive in
      t _ (sum a (sum b (neg b))) _ (group.associative a b (neg b))
      (t _ (sum a zero_) _ (group.sums a (sum b (neg b)) a zero_ (group.order.same.reflexive a) (group.inverse b)) (group.neutral a))

  -- (x - b) + b is x
  pub back : (x b : A) → Same (sum (less_by x b) b) x
  back x b =
      let t = group.order.same.transitive in
      let turned : Same (sum (neg b) b) zero_ = t _ (sum b (neg b)) _ (group.commutative (neg b) b) (group.inverse b) in
      t _ (sum x (sum (neg b) b)) _ (group.associative x (neg b) b)
      (t _ (sum x zero_) _ (group.sums x (sum (neg b) b) x zero_ (group.order.same.reflexive x) turned) (group.neutral x))

  -- y + (x - y) is x
  pub filled : (x y : A) → Same (sum y (less_by x y)) x
  filled x y = group.order.same.transitive _ (sum (less_by x y) y) _ (group.commutative y (less_by x y)) (back x y)

  -- a relation that sums keep: being less, or being the same
  module _ (R : A → A → Type 0) (alike : (x y x' y' : A) → Same x x' → Same y y' → R x y → R x' y') (keeps : (z x y : A) → R x y → R (sum x z) (sum y z)) where
    -- what stands right of a relation goes left with the other sign, and the other way
    pub right_over : (a b x : A) → R (sum a b) x → R a (less_by x b)
    right_over a b x h = alike _ _ a (less_by x b) (gone a b) (group.order.same.reflexive _) (keeps (neg b) _ _ h)

    pub right_back : (a b x : A) → R a (less_by x b) → R (sum a b) x
    right_back a b x h = alike _ _ (sum a b) x (group.order.same.reflexive _) (back x b) (keeps b _ _ h)

    pub left_over : (a b x : A) → R x (sum a b) → R (less_by x b) a
    left_over a b x h = alike _ _ (less_by x b) a (group.order.same.reflexive _) (gone a b) (keeps (neg b) _ _ h)

    pub left_back : (a b x : A) → R (less_by x b) a → R x (sum a b)
    left_back a b x h = alike _ _ x (sum a b) (back x b) (group.order.same.reflexive _) (keeps b _ _ h)

    -- y and a change places
    pub right_swap : (a x y : A) → R y (less_by x a) → R a (less_by x y)
    right_swap a x y h = right_over a y x (alike _ _ (sum a y) x (group.commutative y a) (group.order.same.reflexive x) (right_back y a x h))

    pub left_swap : (a x y : A) → R (less_by x a) y → R (less_by x y) a
    left_swap a x y h = left_over a y x (alike _ _ x (sum a y) (group.order.same.reflexive x) (group.commutative y a) (left_back y a x h))

    -- a difference turns the relation round
    pub turn : (a b x : A) → R a b → R (less_by x b) (less_by x a)
    turn a b x h =
        let more : R (sum a (less_by x a)) (sum b (less_by x a)) = keeps (less_by x a) a b h in
        let ends : R x (sum (less_by x a) b) = alike _ _ x (sum (less_by x a) b) (filled x a) (group.commutative b (less_by x a)) more in
        left_over (less_by x a) b x ends

    -- sums on both sides
    pub both : (a b y z : A) → ((p q r : A) → R p q → R q r → R p r) → R a y → R b z → R (sum a b) (sum y z)
    both a b y z through left right =
        let first : R (sum a b) (sum y b) = keeps b a y left in
        let second : R (sum y b) (sum y z) = alike _ _ (sum y b) (sum y z) (group.commutative b y) (group.commutative z y) (keeps y b z right) in
        through _ _ _ first second

  pub less_alike : (x y x' y' : A) → Same x x' → Same y y' → Less x y → Less x' y'
  less_alike = group.order.alike

  pub same_alike : (x y x' y' : A) → Same x x' → Same y y' → Same x y → Same x' y'
  same_alike x y x' y' left right h = group.order.same.transitive x' x y' (group.order.same.symmetric x x' left) (group.order.same.transitive x y y' h right)

  pub same_keeps : (z x y : A) → Same x y → Same (sum x z) (sum y z)
  same_keeps z x y h = same_sum z x y h
