-- The bindings of networks name networks and points.
use Rattle.std.proofs.Common.{◌≡◌, ℕ, suc, cond, ◌+◌, ◌<◌, ◌≤◌, List, [], ◌∷◌, ◌++◌, ◌*◌, length, length-append, filter_map, flat_map, Bool, true, false, Option, Some, None, IfSome, All, option_map, subst, arith}
use Rattle.std.proofs.lemmas.List.Elements.{All-nil, All-cons, All-append, All-weaker}
use Rattle.std.specs.List.{cons_option, enumerate_from, position_from}
use Rattle.xc_bind.specs.Bindings.{is_point_of, number_of, arcs_from, term_with, term_of, terms_of, with_terms, binding_of, bindings_in, bindings_of}
use Rattle.xc_bind.specs.Placed.{IsOfNetworks, IsInside, IsPlaced}
use Rattle.xc_bind.specs.declared.types.Binding.{Binding}
use Rattle.xc_bind.specs.declared.types.Term.{Term}
use Rattle.xc_calc.specs.declared.arc.Arc.{Arc}
use Rattle.xc_calc.specs.declared.arc.Network.{Network}
use Rattle.xc_points.specs.declared.types.Point.{Point}

-- ---- lists

all_consed : {Y : Type 0} (P : Y → Type 0) (o : Option Y) (ys : List Y) → IfSome o P → All P ys → All P (cons_option o ys)
all_consed P None ys h rest = rest
all_consed P (Some y) ys h rest = All-cons P y ys h rest

all_given : {X Y : Type 0} (P : Y → Type 0) (f : X → Option Y) → ((x : X) → IfSome (f x) P) → (xs : List X) → All P (filter_map f xs)
all_given P f each [] = All-nil P
all_given P f each (x ∷ xs) = all_consed P (f x) (filter_map f xs) (each x) (all_given P f each xs)

-- of numbered things, each with a number below n
all_numbered : {X Y : Type 0} (P : Y → Type 0) (f : ℕ × X → Option Y) (n : ℕ) → ((k : ℕ) (x : X) → k < n → IfSome (f (k, x)) P) → (k : ℕ) (xs : List X) → k + length xs ≤ n → All P (filter_map f (enumerate_from k xs))
all_numbered P f n each k [] h = All-nil P
all_numbered P f n each k (x ∷ xs) h = all_consed P (f (k, x)) (filter_map f (enumerate_from (k + 1) xs)) (each k x (omega arith)) (all_numbered P f n each (k + 1) xs (omega arith))

all_flat : {X Y : Type 0} (P : Y → Type 0) (f : ℕ × X → List Y) (n : ℕ) → ((k : ℕ) (x : X) → k < n → All P (f (k, x))) → (k : ℕ) (xs : List X) → k + length xs ≤ n → All P (flat_map f (enumerate_from k xs))
all_flat P f n each k [] h = All-nil P
all_flat P f n each k (x ∷ xs) h = All-append P (f (k, x)) (flat_map f (enumerate_from (k + 1) xs)) (each k x (omega arith)) (all_flat P f n each (k + 1) xs (omega arith))

found : {X : Type 0} (test : X → Bool) (k : ℕ) (xs : List X) → IfSome (position_from test k xs) (λ n. n < k + length xs)
found test k [] = tt
found test k (x ∷ xs) = by (test x) (found test (k + 1) xs)
  where
    longer : k + 1 + length xs ≡ k + suc (length xs)
    longer = omega arith

    by : (b : Bool) → IfSome (position_from test (k + 1) xs) (λ n. n < k + 1 + length xs) → IfSome (cond b (Some k) (position_from test (k + 1) xs)) (λ n. n < k + suc (length xs))
    by true rest = omega arith
    by false rest = subst (λ m. IfSome (position_from test (k + 1) xs) (λ n. n < m)) longer rest

found_first : {X : Type 0} (test : X → Bool) (xs : List X) → IfSome (position_from test 0 xs) (λ n. n < length xs)
found_first test xs =
    let same : 0 + length xs ≡ length xs = omega arith in
    subst (λ m. IfSome (position_from test 0 xs) (λ n. n < m)) same (found test 0 xs)

-- ---- bindings

module _ (networks : List Network) (points : List Point) where
  -- the binding names one of the networks, and points
  record IsKnown (binding : Binding) : Type 0 where
    network : IsOfNetworks networks binding
    placed : IsPlaced points binding

  term_inside : (weight : _) (o : Option ℕ) → IfSome o (λ n. n < length points) → IfSome (option_map (term_with weight) o) (IsInside points)
  term_inside weight None h = tt
  term_inside weight (Some n) h = h

  terms_inside : (arcs : List Arc) (total : Point) → All (IsInside points) (terms_of points arcs total)
  terms_inside arcs total = all_given (IsInside points) (term_of points total.key) (λ arc. term_inside arc.weight (number_of points arc.to total.key) (found_first (is_point_of arc.to total.key) points)) (arcs_from arcs total.concept)

  known : (network total : ℕ) (terms : List Term) → network < length networks → total < length points → All (IsInside points) terms → IfSome (with_terms network total terms) IsKnown
  known network total [] n t inside = tt
  known network total (term ∷ terms) n t inside = record { network = n; placed = record { total = t; terms = inside } }

  all_known : All IsKnown (bindings_of networks points)
  all_known = all_flat IsKnown (bindings_in points) (length networks) (λ n network below.
      all_numbered IsKnown (binding_of points n network.arcs) (length points) (λ k point within.
      known n k (terms_of points network.arcs point) below within (terms_inside network.arcs point)) 0 points (omega arith)) 0 networks (omega arith)

  pub all_placed : All (IsPlaced points) (bindings_of networks points)
  all_placed = All-weaker IsKnown (IsPlaced points) (λ b k. k.placed) (bindings_of networks points) all_known

  pub all_of_networks : All (IsOfNetworks networks) (bindings_of networks points)
  all_of_networks = All-weaker IsKnown (IsOfNetworks networks) (λ b k. k.network) (bindings_of networks points) all_known

-- ---- how many there are

few_numbered : {X Y : Type 0} (f : ℕ × X → Option Y) (k : ℕ) (xs : List X) → length (filter_map f (enumerate_from k xs)) ≤ length xs
few_numbered f k [] = omega arith
few_numbered {Y = Y} f k (x ∷ xs) = by (f (k, x)) (few_numbered f (k + 1) xs)
  where
    by : (o : Option Y) → length (filter_map f (enumerate_from (k + 1) xs)) ≤ length xs → length (cons_option o (filter_map f (enumerate_from (k + 1) xs))) ≤ suc (length xs)
    by None rest = omega (arith, rest)
    by (Some y) rest = omega (arith, rest)

few_flat : {X Y : Type 0} (f : ℕ × X → List Y) (most : ℕ) → ((x : ℕ × X) → length (f x) ≤ most) → (k : ℕ) (xs : List X) → length (flat_map f (enumerate_from k xs)) ≤ length xs * most
few_flat f most each k [] = omega arith
few_flat f most each k (x ∷ xs) =
    let all : length (f (k, x) ++ flat_map f (enumerate_from (k + 1) xs)) ≡ length (f (k, x)) + length (flat_map f (enumerate_from (k + 1) xs)) = length-append (f (k, x)) (flat_map f (enumerate_from (k + 1) xs)) in
    omega (arith, all, each (k, x), few_flat f most each (k + 1) xs)

pub few_bindings : (networks : List Network) (points : List Point) → length (bindings_of networks points) ≤ length networks * length points
few_bindings networks points = few_flat (bindings_in points) (length points) (λ n. few_numbered (binding_of points n.0 n.1.arcs) 0 points) 0 networks
