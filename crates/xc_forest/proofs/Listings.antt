-- The order of all vertices of a forest, made one vertex after another.
use Rattle.std.proofs.Common.{◌≡◌, Bool, false, ℕ, suc, ◌+◌, ◌<◌, ◌≤◌, List, [], ◌∷◌, ◌++◌, length, drop, take, get_or, ◌⊎◌, inl, inr, refl, sym, arith, ap, ◌∙◌, subst, drop-cons, add-one}
use Rattle.std.proofs.lemmas.Bool.{cases_eq}
use Rattle.std.proofs.lemmas.List.{length-map, get_or-map, get_or_append_left, get_or_push, length_push, ext_get_or, drop-map}
use Rattle.std.proofs.Math.ListN.{drop_of_length-le}
use Rattle.std.proofs.Math.Seq.{take-append_seam}
use Rattle.xc_model.proofs.Integers.{lt_or_le}
use Rattle.xc_forest.specs.Forests.{AreRows, HasNoCycle}
use Rattle.xc_lists.specs.Members.{IsIn}
use Rattle.xc_forest.specs.declared.links.Link.{Link}
use Rattle.xc_forest.specs.declared.tallies.Tally.{Tally}
use Rattle.xc_forest.specs.Steps.Edges.{Edge, edges_from, at, IsPeeling, IsPeeled, AreTallies}
use Rattle.xc_forest.specs.Steps.Links.{graph_of, vertices, IsLinkTo, AreLinks, IsListing, IsLinkAt, AreLinksOf, AreLeaves}
use Rattle.xc_forest.proofs.EdgeCounts.{rows_pairs}
use Rattle.xc_forest.proofs.LinkFacts.{link_longer, link_to, each_gone}
use Rattle.xc_lists.proofs.Members.{is_in_at, place_of}
use Rattle.xc_lists.proofs.Onces.{once_from_places, once_length}
use Rattle.xc_forest.proofs.Peelings.{IsLonger}

-- what a slice of a vector leaves in it
pub lent : {X : Type 0} (n : ℕ) (new old : List X) → length new ≡ length old → n ≡ length old → take n (new ++ drop (length new) old) ≡ new
lent n new old e f = let z : drop (length new) old ≡ [] = drop_of_length-le old (omega (arith, e)) in rw (z, f, ← e) (take-append_seam new [])

-- ---- the beginning
pub peeled_first : (n : ℕ) (rows : List (List (ℕ × Bool))) (ts : List Tally) (order : List ℕ) → AreRows n rows → AreTallies (edges_from n rows) ts → AreLeaves ts (length ts) order → IsPeeled (edges_from n rows) order 0 ts
peeled_first n rows ts order good tallies leaves = record {
  left = edges_from n rows;
  peeling = record {
    from = λ e i. i;
    alive = λ e i. ((λ g. absurd (omega (arith, g.1))), (λ g. absurd (omega (arith, g.1))));
    kept = λ e i a b. i;
    once = leaves.once;
    below = leaves.below;
    queued = λ v l d. leaves.all v none l (let t = (tallies v none l).degree in omega (arith, t));
    simple = λ x y. rows_pairs n n rows x y good (omega arith);
    few = λ j l m. let t = (tallies (at order j) none (leaves.below j m)).degree in let f = leaves.few j none m in omega (arith, t, f);
  };
  tallies = tallies;
}
  where
    none : Tally
    none = record { degree = 0; others = 0; minuses = 0 }

pub no_links : (edges : List Edge) (order : List ℕ) → AreLinksOf edges order []
no_links edges order = record { few = omega arith; each = λ j d l. absurd (omega arith) }

-- ---- one more
pub one_more_link : (edges : List Edge) (old new : List ℕ) (links : List Link) (link : Link) → AreLinksOf edges old links → length links < length old → IsLinkAt edges old (length links) link → IsLonger old new → AreLinksOf edges new (links ++ link ∷ [])
one_more_link edges old new links link h l k m = record {
  few = omega (arith, length_push links link, m.longer);
  each = λ j d o. at_place_of j d o (cases_eq j (length links));
}
  where
    at_place_of : (j : ℕ) (d : Link) → j < length (links ++ link ∷ []) → ((j ≡ length links) ⊎ (j ≡ length links → ⊥)) → IsLinkAt edges new j (get_or (links ++ link ∷ []) j d)
    at_place_of j d o (inl e) = rw (e, get_or_push links link d (length links) refl) (link_longer edges old new (length links) link m l k)
    at_place_of j d o (inr e) =
        let b : j < length links = omega (arith, length_push links link) in
        rw (get_or_append_left links (link ∷ []) d j b) (link_longer edges old new j (get_or links j d) m (omega (arith, h.few)) (h.each j d b))

-- no more than there are vertices
pub order_length : (edges : List Edge) (n : ℕ) (order : List ℕ) (k : ℕ) (left : List Edge) → IsPeeling edges n order k left → length order ≤ n
order_length edges n order k left h = once_length order n (once_from_places order h.once) (λ q i. let r = place_of q order i in subst (λ (v : ℕ). v < n) r.2 (h.below r.0 r.1))

-- ---- the end
module _ (n : ℕ) (rows : List (List (ℕ × Bool))) (good : AreRows n rows) (acyclic : HasNoCycle n rows) (order : List ℕ) (left : List Edge) (h : IsPeeling (edges_from n rows) (n + length rows) order (length order) left) (links : List Link) (each : AreLinksOf (edges_from n rows) order links) (full : length links ≡ length order) where
  vertices_are : vertices links ≡ order
  vertices_are = ext_get_or 0 (vertices links) order (length-map links (λ (l : Link). l.vertex) ∙ full) (λ j l. vertex_is j (omega (arith, length-map links (λ (l : Link). l.vertex))))
    where
      none : Link
      none = record { vertex = 0; next = 0; minus = false; is_alone = false }

      vertex_is : (j : ℕ) → j < length links → get_or (vertices links) j 0 ≡ get_or order j 0
      vertex_is j l = get_or-map (λ (l : Link). l.vertex) links j none 0 l ∙ (each.each j none l).vertex

  all_links : (ls : List Link) (k : ℕ) → drop k links ≡ ls → AreLinks (graph_of n rows) ls
  all_links [] k e = tt
  all_links (l ∷ ls) k e = (here, all_links ls (k + 1) rest)
    where
      long : k < length links
      long = go (lt_or_le k (length links))
        where
          go : ((k < length links) ⊎ (length links ≤ k)) → k < length links
          go (inl m) = m
          go (inr m) = let z : [] ≡ l ∷ ls = sym (drop_of_length-le links m) ∙ e in absurd cc

      split : get_or links k l ∷ drop (suc k) links ≡ l ∷ ls
      split = sym (drop-cons links k l long) ∙ e

      rest : drop (k + 1) links ≡ ls
      rest = ap (λ (j : ℕ). drop j links) (add-one k) ∙ (let s = split in cc)

      link_is : get_or links k l ≡ l
      link_is = let s = split in cc

      behind_is : drop (k + 1) order ≡ vertices ls
      behind_is = ap (drop (k + 1)) (sym vertices_are) ∙ drop-map (λ (l : Link). l.vertex) (k + 1) links ∙ ap vertices rest

      here : IsLinkTo (graph_of n rows) (vertices ls) l
      here = subst (λ (vs : List ℕ). IsLinkTo (graph_of n rows) vs l) behind_is (link_to n rows good order left h acyclic k l (omega (arith, long, full)) (subst (λ (x : Link). IsLinkAt (edges_from n rows) order k x) link_is (each.each k l long)))

  pub listing : IsListing (graph_of n rows) (n + length rows) links
  listing = record {
    once = rw vertices_are (once_from_places order h.once);
    known = λ v i. known v (subst (λ (vs : List ℕ). IsIn v vs) vertices_are i);
    all = λ v l. let g = each_gone n rows good order left h acyclic v l in subst (λ (vs : List ℕ). IsIn v vs) (sym vertices_are) (subst (λ (x : ℕ). IsIn x order) g.2 (is_in_at order g.0 g.1));
    each = all_links links 0 refl;
  }
    where
      known : (v : ℕ) → IsIn v order → v < n + length rows
      known v i = let r = place_of v order i in subst (λ (x : ℕ). x < n + length rows) r.2 (h.below r.0 r.1)
