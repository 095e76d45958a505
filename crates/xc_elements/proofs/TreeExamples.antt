-- Small documents, and the trees that the definitions give them.
use lib.Utf8.{encode}
use Rattle.std.specs.Prelude.{◌≡◌, ℕ, true, List, [], ◌∷◌, Option, Some, None, codes, refl}
use Rattle.xc_elements.specs.Fronts.{exactly}
use Rattle.xc_elements.specs.Items.{Name, Pair, Start, Empty, End, Letter, Reference}
use Rattle.xc_elements.specs.Scopes.{space_in_scope}
use Rattle.xc_elements.specs.Trees.{declarations_space}
use Rattle.xc_elements.specs.Elements.{nodes_of, is_unbalanced, has_no_space, has_same_attribute}
use Rattle.xc_elements.specs.declared.nodes.Attribute.{Attribute}
use Rattle.xc_elements.specs.declared.nodes.NamespaceDeclaration.{NamespaceDeclaration}
use Rattle.xc_elements.specs.declared.nodes.Node.{Node}

abbrev plain : List ℕ → Name
plain local = record { prefix = []; local = local }

abbrev under : List ℕ → List ℕ → Name
under prefix local = record { prefix = prefix; local = local }

abbrev node : List ℕ → List ℕ → List Attribute → List NamespaceDeclaration → Option ℕ → ℕ → List ℕ → Node
node space local attributes declared parent end text = record { space = space; local = local; attributes = attributes; declared = declared; parent = parent; end = end; text = text }

-- <a>CR LF &#13; <b/></a>
text_of_lines : nodes_of (Start (plain (codes "a")) [] ∷ Letter 13 ∷ Letter 10 ∷ Reference 13 ∷ Empty (plain (codes "b")) [] ∷ End (plain (codes "a")) ∷ []) ≡
    node [] (codes "a") [] [] None 2 (10 ∷ 13 ∷ []) ∷ node [] (codes "b") [] [] (Some 0) 2 [] ∷ []
unfolding exactly encode
text_of_lines = refl

abbrev declares : List ℕ → List ℕ → Pair
declares prefix space = record { name = under (codes "xmlns") prefix; value = space }

-- <a xmlns:p="u"><p:b/></a>
prefix_of_parent : nodes_of (Start (plain (codes "a")) (declares (codes "p") (codes "u") ∷ []) ∷ Empty (under (codes "p") (codes "b")) [] ∷ End (plain (codes "a")) ∷ []) ≡
    node [] (codes "a") (record { space = declarations_space; local = codes "p"; value = codes "u" } ∷ []) (record { prefix = codes "p"; space = codes "u" } ∷ []) None 2 [] ∷ node (codes "u") (codes "b") [] [] (Some 0) 2 [] ∷ []
unfolding exactly encode
prefix_of_parent = refl

-- <a xmlns:q="http://www.w3.org/2000/xmlns/" q:p="u"/>, at the root: `q:p` is no declaration
under_declarations : space_in_scope (nodes_of (Empty (plain (codes "a")) (declares (codes "q") declarations_space ∷ record { name = under (codes "q") (codes "p"); value = codes "u" } ∷ []) ∷ [])) 0 (codes "p") ≡ None
unfolding exactly encode
under_declarations = refl

-- <a xmlns:p="u"><p:b xmlns:p=""/></a>, at the second tag
empty_prefix : has_no_space (Start (plain (codes "a")) (declares (codes "p") (codes "u") ∷ []) ∷ []) (Empty (under (codes "p") (codes "b")) (declares (codes "p") [] ∷ [])) ≡ true
unfolding exactly encode
empty_prefix = refl

-- <a></b>, at the end tag
other_end : is_unbalanced (Start (plain (codes "a")) [] ∷ []) (End (plain (codes "b"))) ≡ true
unfolding exactly encode
other_end = refl

-- <a/><b/>, at the second tag
second_root : is_unbalanced (Empty (plain (codes "a")) [] ∷ []) (Empty (plain (codes "b")) []) ≡ true
second_root = refl

-- <a x="1" x="2"/>
same_twice : has_same_attribute [] (Empty (plain (codes "a")) (record { name = plain (codes "x"); value = codes "1" } ∷ record { name = plain (codes "x"); value = codes "2" } ∷ [])) ≡ true
unfolding exactly encode
same_twice = refl
