-- Samples of five and six nodes, tried.
use Rattle.std.proofs.Common.{◌≡◌, ◌∷◌, [], map, refl}
use Rattle.xc_sample.specs.Samples.{children, nodes, value}

-- nodes 2, 3 and 4 have none below them; node 1 has 3 + 4 + 1, and node 0 has 8 + 2
five_values : map (λ i. value 5 i) (nodes 5) ≡ 10 ∷ 8 ∷ 2 ∷ 3 ∷ 4 ∷ []
five_values = refl

-- node 2 of six nodes has one child, 5, and so 6
one_more : map (λ i. value 6 i) (nodes 6) ≡ 14 ∷ 8 ∷ 6 ∷ 3 ∷ 4 ∷ 5 ∷ []
one_more = refl

last_children : children 6 2 ≡ 5 ∷ []
last_children = refl
