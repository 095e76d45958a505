-- How long the texts of a sample are.
use Rattle.std.proofs.Common.{◌≡◌, ◌+◌, ◌*◌, ◌-◌, ◌<◌, ◌≤◌, ℕ, zero, suc, List, [], ◌∷◌, ◌++◌, Bool, true, false, length, nat_lt, if◌then◌else◌, refl, arith, length-append}
use Rattle.std.proofs.lemmas.Fmt.{length-decimal-le}
use Rattle.std.specs.List.{flat_map, range_with_len}
use Rattle.std.specs.Prelude.{codes, decimal}
use Rattle.xc_sample.proofs.NodeValues.{small}
use Rattle.xc_sample.specs.Samples.{arc_line, arc_lines, element_line, fact, facts, linkbase_head, linkbase_text, locator_line, nodes, report_head, report_text, schema_head, schema_text, value}

-- ten digits at most
digits : (n : ℕ) → n < 10000000000 → length (decimal n) ≤ 10
digits n few = length-decimal-le 10 n (omega arith) few (omega (arith, few))

-- a text with two numbers in it
two_numbers : (a b c : List ℕ) (i j : ℕ) → i < 10000000000 → j < 10000000000 → length (a ++ decimal i ++ b ++ decimal j ++ c) ≤ length a + length b + length c + 20
two_numbers a b c i j few other =
    omega (arith, length-append (a ++ decimal i ++ b ++ decimal j) c, length-append (a ++ decimal i ++ b) (decimal j), length-append (a ++ decimal i) b, length-append a (decimal i), digits i few, digits j other)

-- as many texts, each no longer than this
all_short : (f : ℕ → List ℕ) (m a k : ℕ) → ((i : ℕ) → i < a + k → length (f i) ≤ m) → length (flat_map f (range_with_len a k)) ≤ k * m
all_short f m a zero short = omega arith
all_short f m a (suc k) short =
    let rest = all_short f m (a + 1) k (λ i less. short i (omega (arith, less))) in
    let first = short a (omega arith) in
    let both = length-append (f a) (flat_map f (range_with_len (a + 1) k)) in
    omega (arith, rest, first, both)

element_short : (i : ℕ) → i < 100000 → length (element_line i) ≤ 82
element_short i few =
    let a : length (codes "<xs:element name=\"N") ≡ 19 = refl in
    let b : length (codes "\" id=\"s_N") ≡ 9 = refl in
    let c : length (codes "\" type=\"xbrli:monetaryItemType\"/>\n") ≡ 34 = refl in
    omega (arith, a, b, c, two_numbers (codes "<xs:element name=\"N") (codes "\" id=\"s_N") (codes "\" type=\"xbrli:monetaryItemType\"/>\n") i i (omega (arith, few)) (omega (arith, few)))

locator_short : (i : ℕ) → i < 100000 → length (locator_line i) ≤ 97
locator_short i few =
    let a : length (codes "<link:loc xlink:type=\"locator\" xlink:href=\"sample.xsd#s_N") ≡ 57 = refl in
    let b : length (codes "\" xlink:label=\"L") ≡ 16 = refl in
    let c : length (codes "\"/>\n") ≡ 4 = refl in
    omega (arith, a, b, c, two_numbers (codes "<link:loc xlink:type=\"locator\" xlink:href=\"sample.xsd#s_N") (codes "\" xlink:label=\"L") (codes "\"/>\n") i i (omega (arith, few)) (omega (arith, few)))

arc_short : (i j : ℕ) → i < 100000 → j < 1000000 → length (arc_line i j) ≤ 170
arc_short i j few other =
    let a : length (codes "<link:calculationArc xlink:type=\"arc\" xlink:arcrole=\"https://xbrl.org/2023/arcrole/summation-item\" xlink:from=\"L") ≡ 112 = refl in
    let b : length (codes "\" xlink:to=\"L") ≡ 13 = refl in
    let c : length (codes "\" order=\"1\" weight=\"1\"/>\n") ≡ 25 = refl in
    omega (arith, a, b, c, two_numbers (codes "<link:calculationArc xlink:type=\"arc\" xlink:arcrole=\"https://xbrl.org/2023/arcrole/summation-item\" xlink:from=\"L") (codes "\" xlink:to=\"L") (codes "\" order=\"1\" weight=\"1\"/>\n") i j (omega (arith, few)) (omega (arith, other)))

-- the texts of what is picked of two
picked_short : (f : ℕ → List ℕ) (s t : Bool) (a b m : ℕ) → length (f a) ≤ m → length (f b) ≤ m → length (flat_map f (if s then a ∷ (if t then b ∷ [] else []) else (if t then b ∷ [] else []))) ≤ m + m
picked_short f true true a b m one other = omega (arith, one, other, length-append (f a) (f b ++ []), length-append (f b) [])
picked_short f true false a b m one other = omega (arith, one, length-append (f a) [])
picked_short f false true a b m one other = omega (arith, other, length-append (f b) [])
picked_short f false false a b m one other = omega arith

arcs_short : (n i : ℕ) → i < 100000 → length (arc_lines n i) ≤ 400
arcs_short n i few =
    let one : length (arc_line i (2 * i + 1)) ≤ 200 = omega (arith, arc_short i (2 * i + 1) few (omega (arith, few))) in
    let other : length (arc_line i (2 * i + 2)) ≤ 200 = omega (arith, arc_short i (2 * i + 2) few (omega (arith, few))) in
    picked_short (λ c. arc_line i c) (nat_lt (2 * i + 1) n) (nat_lt (2 * i + 2) n) (2 * i + 1) (2 * i + 2) 200 one other

fact_short : (n i : ℕ) → i < n → n ≤ 100000 → length (fact n i) ≤ 158
fact_short n i less few =
    let a : length (codes "\"f") ≡ 2 = refl in
    let b : length (codes "\":{\"value\":\"") ≡ 12 = refl in
    let c : length (codes "\",\"decimals\":0,\"dimensions\":{\"concept\":\"eg:N") ≡ 44 = refl in
    let d : length (codes "\",\"entity\":\"e:1\",\"period\":\"2024-01-01T00:00:00\",\"unit\":\"iso4217:EUR\"}}") ≡ 70 = refl in
    let front = two_numbers (codes "\"f") (codes "\":{\"value\":\"") (codes "\",\"decimals\":0,\"dimensions\":{\"concept\":\"eg:N") i (value n i) (omega (arith, less, few)) (small n i less few) in
    let start : List ℕ = codes "\"f" ++ decimal i ++ codes "\":{\"value\":\"" ++ decimal (value n i) ++ codes "\",\"decimals\":0,\"dimensions\":{\"concept\":\"eg:N" in
    omega (arith, a, b, c, d, front, length-append (start ++ decimal i) (codes "\",\"entity\":\"e:1\",\"period\":\"2024-01-01T00:00:00\",\"unit\":\"iso4217:EUR\"}}"), length-append start (decimal i), digits i (omega (arith, less, few)))

pub schema_short : (n : ℕ) → n ≤ 100000 → length (schema_text n) ≤ 67108864
schema_short n few =
    let head : length schema_head ≡ 178 = refl in
    let end : length (codes "</xs:schema>\n") ≡ 13 = refl in
    let lines : length (flat_map element_line (nodes n)) ≤ n * 100 = all_short element_line 100 0 n (λ i less. omega (arith, element_short i (omega (arith, less, few)))) in
    omega (arith, few, head, end, lines, length-append (schema_head ++ flat_map element_line (nodes n)) (codes "</xs:schema>\n"), length-append schema_head (flat_map element_line (nodes n)))

pub linkbase_short : (n : ℕ) → n ≤ 100000 → length (linkbase_text n) ≤ 67108864
linkbase_short n few =
    let head : length linkbase_head ≡ 220 = refl in
    let end : length (codes "</link:calculationLink>\n</link:linkbase>\n") ≡ 41 = refl in
    let locators : List ℕ = flat_map locator_line (nodes n) in
    let arcs : List ℕ = flat_map (λ i. arc_lines n i) (nodes n) in
    let first : length locators ≤ n * 120 = all_short locator_line 120 0 n (λ i less. omega (arith, locator_short i (omega (arith, less, few)))) in
    let second : length arcs ≤ n * 400 = all_short (λ i. arc_lines n i) 400 0 n (λ i less. arcs_short n i (omega (arith, less, few))) in
    omega (arith, few, head, end, first, second, length-append (linkbase_head ++ locators ++ arcs) (codes "</link:calculationLink>\n</link:linkbase>\n"), length-append (linkbase_head ++ locators) arcs, length-append linkbase_head locators)

pub report_short : (n : ℕ) → 0 < n → n ≤ 100000 → length (report_text n) ≤ 67108864
report_short n some few =
    let head : length report_head ≡ 254 = refl in
    let end : length (codes "}}") ≡ 2 = refl in
    let further : List ℕ = flat_map (λ i. codes "," ++ fact n i) (range_with_len 1 (n - 1)) in
    let first : length (fact n 0) ≤ 200 = omega (arith, fact_short n 0 some few) in
    let rest : length further ≤ (n - 1) * 201 = all_short (λ i. codes "," ++ fact n i) 201 1 (n - 1) (λ i less. omega (arith, length-append (codes ",") (fact n i), fact_short n i (omega (arith, less, some)) few)) in
    omega (arith, few, some, head, end, first, rest, length-append (report_head ++ facts n) (codes "}}"), length-append report_head (facts n), length-append (fact n 0) further)
