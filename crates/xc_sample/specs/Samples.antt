-- The sample of n nodes: a tree of totals, as a schema, a linkbase and a report.
use Rattle.std.specs.Prelude.{ℕ, zero, suc, ◌+◌, ◌*◌, ◌-◌, ◌++◌, Bool, nat_lt, List, [], ◌∷◌, filter, codes, decimal, if◌then◌else◌}
use Rattle.std.specs.List.{flat_map, list_any, range_with_len, sum_by}

-- ---- the nodes, from 0 to n - 1

abbrev pub nodes : ℕ → List ℕ
nodes n = range_with_len 0 n

-- the children of a node, as far as they are nodes
abbrev pub children : ℕ → ℕ → List ℕ
children n i = filter (λ c. nat_lt c n) ((2 * i + 1) ∷ (2 * i + 2) ∷ [])

-- the first child is a node
abbrev pub has_children : ℕ → ℕ → Bool
has_children n i = nat_lt (2 * i + 1) n

-- 1 where no child has children
abbrev pub lift : ℕ → ℕ → ℕ
lift n i = if list_any (λ c. has_children n c) (children n i) then 0 else 1

-- the value of a node, found from at most so many levels below it: its number where it has no children, and otherwise the sum of their values, lifted
abbrev pub value_within : ℕ → ℕ → ℕ → ℕ
value_within zero n i = i
value_within (suc levels) n i = if has_children n i then sum_by (λ c. value_within levels n c) (children n i) + lift n i else i

-- the value of a node; a sample has fewer levels than nodes
abbrev pub value : ℕ → ℕ → ℕ
value n i = value_within n n i

-- ---- the schema: a concept for each node

-- the concept of a node
abbrev pub element_line : ℕ → List ℕ
element_line i = codes "<xs:element name=\"N" ++ decimal i ++ codes "\" id=\"s_N" ++ decimal i ++ codes "\" type=\"xbrli:monetaryItemType\"/>\n"

abbrev pub schema_head : List ℕ
schema_head = codes "<?xml version=\"1.0\" encoding=\"UTF-8\"?>\n<xs:schema xmlns:xs=\"http://www.w3.org/2001/XMLSchema\" xmlns:xbrli=\"http://www.xbrl.org/2003/instance\" targetNamespace=\"urn:xcalc:sample\">\n"

abbrev pub schema_text : ℕ → List ℕ
schema_text n = schema_head ++ flat_map element_line (nodes n) ++ codes "</xs:schema>\n"

-- ---- the linkbase: one link with a locator for each node, and an arc from each node to each of its children

-- the locator of a node
abbrev pub locator_line : ℕ → List ℕ
locator_line i = codes "<link:loc xlink:type=\"locator\" xlink:href=\"sample.xsd#s_N" ++ decimal i ++ codes "\" xlink:label=\"L" ++ decimal i ++ codes "\"/>\n"

-- the arc from a node to a child, of order 1 and weight 1
abbrev pub arc_line : ℕ → ℕ → List ℕ
arc_line i c = codes "<link:calculationArc xlink:type=\"arc\" xlink:arcrole=\"https://xbrl.org/2023/arcrole/summation-item\" xlink:from=\"L" ++ decimal i ++ codes "\" xlink:to=\"L" ++ decimal c ++ codes "\" order=\"1\" weight=\"1\"/>\n"

-- the arcs from a node to its children
abbrev pub arc_lines : ℕ → ℕ → List ℕ
arc_lines n i = flat_map (λ c. arc_line i c) (children n i)

abbrev pub linkbase_head : List ℕ
linkbase_head = codes "<?xml version=\"1.0\" encoding=\"UTF-8\"?>\n<link:linkbase xmlns:link=\"http://www.xbrl.org/2003/linkbase\" xmlns:xlink=\"http://www.w3.org/1999/xlink\">\n<link:calculationLink xlink:type=\"extended\" xlink:role=\"urn:xcalc:sample\">\n"

abbrev pub linkbase_text : ℕ → List ℕ
linkbase_text n = linkbase_head ++ flat_map locator_line (nodes n) ++ flat_map (λ i. arc_lines n i) (nodes n) ++ codes "</link:calculationLink>\n</link:linkbase>\n"

-- ---- the report: a fact for each node

-- a fact of a node, with this value
abbrev pub fact_with : ℕ → ℕ → List ℕ
fact_with value i = (codes "\"f" ++ decimal i ++ codes "\":{\"value\":\"" ++ decimal value ++ codes "\",\"decimals\":0,\"dimensions\":{\"concept\":\"eg:N") ++ decimal i ++ codes "\",\"entity\":\"e:1\",\"period\":\"2024-01-01T00:00:00\",\"unit\":\"iso4217:EUR\"}}"

-- the fact of a node
abbrev pub fact : ℕ → ℕ → List ℕ
fact n i = fact_with (value n i) i

-- the facts of all nodes, with a comma between each two
abbrev pub facts : ℕ → List ℕ
facts n = fact n 0 ++ flat_map (λ i. codes "," ++ fact n i) (range_with_len 1 (n - 1))

abbrev pub report_head : List ℕ
report_head = codes "{\"documentInfo\":{\"documentType\":\"https://xbrl.org/2021/xbrl-json\",\"namespaces\":{\"eg\":\"urn:xcalc:sample\",\"e\":\"http://example.com/e\",\"iso4217\":\"http://www.xbrl.org/2003/iso4217\",\"cur\":\"http://www.xbrl.org/2003/iso4217\"},\"taxonomy\":[\"sample.xsd\"]},\"facts\":{"

abbrev pub report_text : ℕ → List ℕ
report_text n = report_head ++ facts n ++ codes "}}"
