-- Arcs have one list of networks.
use Rattle.std.proofs.Common.{◌≡◌, ◌||◌, ℕ, List, [], ◌∷◌, Bool, true, false, map, true≢false, refl, sym, ap, subst, ◌∙◌}
use Rattle.std.proofs.lemmas.Bool.{false_from_ne_true}
use Rattle.std.proofs.lemmas.Slice.Eq.{bytes_eq-Decides}
use Rattle.std.specs.Cmp.Lexicographic.{slice_cmp, nat_list_cmp_total}
use Rattle.std.specs.List.{AllByRecursion, list_any}
use Rattle.std.specs.List.Sorted.{IsStrictlySortedBy}
use Rattle.std.specs.Ordering.{nat_cmp, is_lt, ordering_reverse}
use Rattle.std.specs.Str.{bytes_eq}
use Rattle.std.specs.declared.cmp.Ordering.TheVariants.{Less}
use Rattle.xc_calc.specs.Effective.{effective_arcs}
use Rattle.xc_calc.specs.Networks.{arcs_of, AreNetworks}
use Rattle.xc_calc.specs.declared.arc.ListedArc.{ListedArc}
use Rattle.xc_calc.specs.declared.arc.Network.{Network}

has : List (List ℕ) → List ℕ → Bool
has xs q = list_any (bytes_eq q) xs

Below : List ℕ → List (List ℕ) → Type 0
Below x ys = AllByRecursion (λ y. slice_cmp nat_cmp x y ≡ Less) ys

not_below_itself : (x : List ℕ) → slice_cmp nat_cmp x x ≡ Less → ⊥
not_below_itself x h = true≢false (ap is_lt (sym h ∙ nat_list_cmp_total.antisymm x x ∙ ap ordering_reverse h))

itself : (x : List ℕ) → bytes_eq x x ≡ true
itself x = (bytes_eq-Decides x x).1 refl

member_below : (x q : List ℕ) (ys : List (List ℕ)) → Below x ys → has ys q ≡ true → slice_cmp nat_cmp x q ≡ Less
unfolding has Below
member_below x q [] all h = absurd (true≢false (sym h))
member_below x q (y ∷ ys) all h = by (bytes_eq q y) refl h (member_below x q ys all.1)
  where
    by : (b : Bool) → bytes_eq q y ≡ b → (b || has ys q) ≡ true → (has ys q ≡ true → slice_cmp nat_cmp x q ≡ Less) → slice_cmp nat_cmp x q ≡ Less
    by true e h rest = subst (λ t. slice_cmp nat_cmp x t ≡ Less) (sym ((bytes_eq-Decides q y).0 e)) all.0
    by false e h rest = rest h

absent : (x : List ℕ) (ys : List (List ℕ)) → Below x ys → has ys x ≡ false
absent x ys all = false_from_ne_true (has ys x) (λ h. not_below_itself x (member_below x x ys all h))

first_same : (x y : List ℕ) (xs ys : List (List ℕ)) → Below x xs → Below y ys → has (y ∷ ys) x ≡ true → has (x ∷ xs) y ≡ true → x ≡ y
unfolding has
first_same x y xs ys p q h g = by (bytes_eq x y) refl (bytes_eq y x) refl h g
  where
    by : (a : Bool) → bytes_eq x y ≡ a → (b : Bool) → bytes_eq y x ≡ b → (a || has ys x) ≡ true → (b || has xs y) ≡ true → x ≡ y
    by true e b f h g = (bytes_eq-Decides x y).0 e
    by false e true f h g = sym ((bytes_eq-Decides y x).0 f)
    by false e false f h g = absurd (not_below_itself x (nat_list_cmp_total.trans x y x (member_below x y xs p g) (member_below y x ys q h)))

rest_same : (x q : List ℕ) (xs ys : List (List ℕ)) → Below x xs → Below x ys → has (x ∷ xs) q ≡ has (x ∷ ys) q → has xs q ≡ has ys q
unfolding has
rest_same x q xs ys p r same = by (bytes_eq q x) refl same
  where
    by : (b : Bool) → bytes_eq q x ≡ b → (b || has xs q) ≡ (b || has ys q) → has xs q ≡ has ys q
    by true f same =
        let is = (bytes_eq-Decides q x).0 f in
        ap (has xs) is ∙ absent x xs p ∙ sym (ap (has ys) is ∙ absent x ys r)
    by false f same = same

same_roles : (xs ys : List (List ℕ)) → IsStrictlySortedBy (slice_cmp nat_cmp) xs → IsStrictlySortedBy (slice_cmp nat_cmp) ys → ((q : List ℕ) → has xs q ≡ has ys q) → xs ≡ ys
unfolding IsStrictlySortedBy has Below
same_roles [] [] p q same = refl
same_roles [] (y ∷ ys) p q same = absurd (true≢false (sym (same y ∙ ap (λ b. b || has ys y) (itself y))))
same_roles (x ∷ xs) [] p q same = absurd (true≢false (sym (sym (same x) ∙ ap (λ b. b || has xs x) (itself x))))
same_roles (x ∷ xs) (y ∷ ys) p q same =
    let e = first_same x y xs ys p.0 q.0 (sym (same x) ∙ ap (λ b. b || has xs x) (itself x)) (same y ∙ ap (λ b. b || has ys y) (itself y)) in
    λ i. e i ∷ same_roles xs ys p.1 q.1 (λ r. rest_same x r xs ys p.0 (subst (λ t. Below t ys) (sym e) q.0) (same r ∙ ap (λ t. bytes_eq r t || has ys r) (sym e))) i

map_two : {A B C : Type 0} (f : B → C) (g : A → B) (xs : List A) → map f (map g xs) ≡ map (λ x. f (g x)) xs
map_two f g [] = refl
map_two f g (x ∷ xs) = ap (λ ys. f (g x) ∷ ys) (map_two f g xs)

same_networks : (m n : List Network) → map (λ n. n.role) m ≡ map (λ n. n.role) n → map (λ n. n.arcs) m ≡ map (λ n. n.arcs) n → m ≡ n
same_networks [] [] p q = refl
same_networks [] (b ∷ n) p q = absurd (cc)
same_networks (a ∷ m) [] p q = absurd (cc)
same_networks (a ∷ m) (b ∷ n) p q =
    let role : a.role ≡ b.role = cc in
    let arcs : a.arcs ≡ b.arcs = cc in
    let roles : map (λ n. n.role) m ≡ map (λ n. n.role) n = cc in
    let lists : map (λ n. n.arcs) m ≡ map (λ n. n.arcs) n = cc in
    λ i. record { role = role i; arcs = arcs i } ∷ same_networks m n roles lists i

pub one_answer : (arcs : List ListedArc) (m n : List Network) → AreNetworks arcs m → AreNetworks arcs n → m ≡ n
unfolding has
one_answer arcs m n a b =
    let own = arcs_of (effective_arcs arcs) in
    let roles = same_roles (map (λ n. n.role) m) (map (λ n. n.role) n) a.ascending b.ascending (λ q. a.roles q ∙ sym (b.roles q)) in
    same_networks m n roles (a.arcs_are ∙ sym (map_two own (λ n. n.role) m) ∙ ap (map own) roles ∙ map_two own (λ n. n.role) n ∙ sym b.arcs_are)
