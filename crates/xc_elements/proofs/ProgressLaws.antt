-- The loop over a document's items.
use Rattle.std.proofs.Common.{◌≡◌, ◌≢◌, ℕ, zero, suc, ◌+◌, ◌-◌, ◌<◌, ◌≤◌, Bool, true, false, cond, not, ◌||◌, List, [], ◌∷◌, ◌++◌, length, Some, None, refl, sym, ap, subst, ◌∙◌, append_assoc, append-nil, arith}
use Rattle.std.specs.Prelude.{◌==◌, reverse, encode_utf8_all}
use Rattle.std.specs.Str.{chars, IsUtf8}
use Rattle.std.proofs.lemmas.List.{length-append, reverse-append, reverse-reverse}
use Rattle.std.proofs.lemmas.Str.{encodes-chars, length-le-encodes}
use Rattle.xc_elements.specs.Items.{Meaning, Declaration, Start, Empty, End, Comment, Instruction, Section, Letter, Reference, item, is_nil, begins_doctype}
use Rattle.xc_elements.specs.Documents.{Piece, Cuts, begins, joined_texts, bytes_of, text_of}
use Rattle.xc_elements.specs.Elements.{begun, open_at, is_outside, is_unfinished, nodes_from, nodes_of}
use Rattle.xc_elements.specs.Steps.Kept.{Kept, none_kept, AreBelow}
use Rattle.xc_elements.specs.Steps.Reading.{Reads, IsFine, IsRefused, whole, complete_nodes}
use Rattle.xc_elements.specs.Steps.Refusals.{fault_at, no_item_fault}
use Rattle.xc_elements.specs.DocumentTrees.{meanings, meanings_backward, IsFirstFault, IsRefusal, IsTreeOf}
use Rattle.xc_elements.specs.declared.nodes.Node.{Node}
use Rattle.xc_elements.specs.declared.reader.Reader.{Reader}
use Rattle.xc_elements.specs.declared.refusal.Refusal.{Refusal}
use Rattle.xc_elements.specs.declared.fault.TreeFault.TheVariants as faults
use Rattle.xc_elements.proofs.CutLaws.{item_piece, piece_of, items_more, joined_more, begun as begun_more}
use Rattle.xc_elements.proofs.TextLaws.{bytes_before}
use Rattle.xc_elements.proofs.DocumentLaws.{here_is_item, nil_is, not_nil}
use Rattle.xc_elements.proofs.KeptLaws.{same_none, kept_below}
use Rattle.xc_elements.specs.Trees.{IsTree}
use Rattle.xc_elements.proofs.ShapeLaws.{tree_shape}
use Rattle.xc_elements.proofs.FaultLaws.{AreFine, FineTo, backward_last, first_not_item, first_doctype, first_refused, first_unfinished, faultless_at_end}

-- what has been read, and where the loop stands
pub record Progress (reader : Reader) (bytes rest : List ℕ) (is_first : Bool) : Type 0 where
  pub utf8 : IsUtf8 bytes
  pub pieces : List Piece
  pub cut : Cuts true (text_of bytes) pieces (chars rest)
  pub first : begins true pieces ≡ is_first
  pub front : List ℕ
  pub bytes_are : bytes ≡ front ++ rest
  pub reads : Reads reader (meanings_backward pieces)
  pub fine : AreFine (meanings_backward pieces)
  pub few : begun (meanings_backward pieces) ≤ length front

pub progress_start : (reader : Reader) (bytes rest front : List ℕ) → IsUtf8 bytes → chars rest ≡ text_of bytes → bytes ≡ front ++ rest → Reads reader [] → Progress reader bytes rest true
progress_start reader bytes rest front utf8 text e reads = record {
  utf8 = utf8;
  pieces = [];
  cut = record { items = tt; whole = sym text };
  first = refl;
  front = front;
  bytes_are = e;
  reads = reads;
  fine = tt;
  few = omega arith;
}

begun_one : (m : Meaning) (before : List Meaning) → begun (m ∷ before) ≤ suc (begun before)
begun_one (Start name pairs) before = omega arith
begun_one (Empty name pairs) before = omega arith
begun_one (End name) before = omega arith
begun_one Declaration before = omega arith
begun_one Comment before = omega arith
begun_one Instruction before = omega arith
begun_one (Section text) before = omega arith
begun_one (Letter c) before = omega arith
begun_one (Reference c) before = omega arith

pub progress_more : (reader new : Reader) (bytes rest after : List ℕ) (is_first : Bool) (m : Meaning) (p : Progress reader bytes rest is_first) → IsUtf8 rest → IsUtf8 after → Some (m, chars after) ≡ item is_first (chars rest) →
    Reads new (m ∷ meanings_backward p.pieces) → IsFine (meanings_backward p.pieces) m → Progress new bytes after false
progress_more reader new bytes rest after is_first m p utf8 after_utf8 is reads fine =
    let here = here_is_item (chars rest) (chars after) is_first (begins true p.pieces) m p.first is in
    let t = item_piece (begins true p.pieces) (chars rest) (chars after) m here in
    let piece = piece_of t.0 m in
    let bytes_are : rest ≡ encode_utf8_all t.0 ++ after = bytes_before rest after t.0 utf8 after_utf8 t.1 in
    let last : meanings_backward (p.pieces ++ piece ∷ []) ≡ m ∷ meanings_backward p.pieces = backward_last p.pieces piece in
    record {
      utf8 = p.utf8;
      pieces = p.pieces ++ piece ∷ [];
      cut = record { items = items_more true p.pieces piece p.cut.items t.2; whole = p.cut.whole ∙ ap (λ (r : List ℕ). joined_texts p.pieces ++ r) t.1 ∙ sym (joined_more p.pieces t.0 m (chars after)) };
      first = begun_more p.pieces piece;
      front = p.front ++ encode_utf8_all t.0;
      bytes_are = p.bytes_are ∙ ap (λ (r : List ℕ). p.front ++ r) bytes_are ∙ sym (append_assoc p.front (encode_utf8_all t.0) after);
      reads = subst (λ ms. Reads new ms) (sym last) reads;
      fine = subst (λ ms. AreFine ms) (sym last) (fine, p.fine);
      few = omega (arith, ap begun last, begun_one m (meanings_backward p.pieces), p.few, length-append p.front (encode_utf8_all t.0), length-le-encodes t.0, t.3);
    }

some_bytes : (rest : List ℕ) → is_nil (chars rest) ≡ false → 0 < length rest
unfolding chars
some_bytes [] e = absurd cc
some_bytes (b ∷ bs) e = omega arith

-- fewer elements have begun than there are bytes
pub progress_room : (reader : Reader) (bytes rest : List ℕ) (is_first : Bool) → Progress reader bytes rest is_first → is_nil (chars rest) ≡ false → length reader.nodes.items + 1 ≤ length bytes
progress_room reader bytes rest is_first p some = omega (arith, p.reads.count, p.few, some_bytes rest some, ap length p.bytes_are, length-append p.front rest)

pub progress_below : (reader : Reader) (bytes rest : List ℕ) (is_first : Bool) → Progress reader bytes rest is_first → AreBelow (length reader.nodes.items) reader.opens
progress_below reader bytes rest is_first p = kept_below reader.opens reader.scope reader.nodes.items reader.behind_return (meanings_backward p.pieces) p.reads

pub progress_fits : (reader : Reader) (bytes rest : List ℕ) (is_first : Bool) → Progress reader bytes rest is_first → length rest ≤ length bytes
progress_fits reader bytes rest is_first p = omega (arith, ap length p.bytes_are, length-append p.front rest)

-- ---- faults

place_here : (reader : Reader) (bytes rest : List ℕ) (is_first : Bool) (place : ℕ) → Progress reader bytes rest is_first → IsUtf8 rest → place ≡ length bytes - length rest → place + bytes_of (chars rest) ≡ length bytes
place_here reader bytes rest is_first place p utf8 e = omega (arith, e, ap length (encodes-chars rest utf8), ap length p.bytes_are, length-append p.front rest)

abbrev fine_to : (reader : Reader) (bytes rest : List ℕ) (is_first : Bool) (place : ℕ) → Progress reader bytes rest is_first → IsUtf8 rest → place ≡ length bytes - length rest → FineTo bytes (chars rest) place
fine_to reader bytes rest is_first place p utf8 e = record { utf8 = p.utf8; pieces = p.pieces; cut = p.cut; here = place_here reader bytes rest is_first place p utf8 e; fine = p.fine }

by_kind : (bytes rest : List ℕ) (place : ℕ) (k : Bool) (t : FineTo bytes rest place) → rest ≢ [] → item (begins true t.pieces) rest ≡ None → begins_doctype rest ≡ k → IsRefusal bytes (cond k (faults.Doctype place) (faults.NotItem place))
by_kind bytes rest place true t some none e = first_doctype bytes rest place t some none e
by_kind bytes rest place false t some none e = first_not_item bytes rest place t some none e

pub stops_here : (reader : Reader) (bytes rest : List ℕ) (is_first : Bool) (place : ℕ) → Progress reader bytes rest is_first → IsUtf8 rest → place ≡ length bytes - length rest → is_nil (chars rest) ≡ false → None ≡ item is_first (chars rest) → IsRefusal bytes (no_item_fault place (chars rest))
stops_here reader bytes rest is_first place p utf8 e some none =
    by_kind bytes (chars rest) place (begins_doctype (chars rest)) (fine_to reader bytes rest is_first place p utf8 e) (not_nil (chars rest) some) (ap (λ b. item b (chars rest)) p.first ∙ sym none) refl

pub refused_here : (reader : Reader) (bytes rest after : List ℕ) (is_first : Bool) (place : ℕ) (m : Meaning) (refusal : Refusal) (p : Progress reader bytes rest is_first) → IsUtf8 rest → place ≡ length bytes - length rest → Some (m, after) ≡ item is_first (chars rest) → IsRefused (meanings_backward p.pieces) m refusal → IsRefusal bytes (fault_at refusal place)
refused_here reader bytes rest after is_first place m refusal p utf8 e is r =
    first_refused bytes (chars rest) place (fine_to reader bytes rest is_first place p utf8 e) m refusal (record { after = after; is = here_is_item (chars rest) after is_first (begins true p.pieces) m p.first is }) r

-- ---- the end

abbrev at_end : (reader : Reader) (bytes rest : List ℕ) (is_first : Bool) (p : Progress reader bytes rest is_first) → is_nil (chars rest) ≡ true → FineTo bytes [] (length bytes)
at_end reader bytes rest is_first p e = record { utf8 = p.utf8; pieces = p.pieces; cut = subst (λ r. Cuts true (text_of bytes) p.pieces r) (nil_is (chars rest) e) p.cut; here = omega arith; fine = p.fine }

unfinished_as : (reader : Reader) (before : List Meaning) → Reads reader before → (not (none_kept reader.opens) || length reader.nodes.items == 0) ≡ is_unfinished before
unfinished_as reader before k =
    ap (λ t. not t || length reader.nodes.items == 0) (same_none reader.opens (open_at before) k.are_open) ∙ ap (λ n. not (is_outside (open_at before)) || n == 0) k.count

pub whole_reverse : (before after : List Meaning) → whole before after ≡ reverse before ++ after
whole_reverse [] after = refl
whole_reverse (m ∷ before) after =
    whole_reverse before (m ∷ after) ∙ sym (append_assoc (reverse before) (m ∷ []) after) ∙ ap (λ ms. ms ++ after) (sym (reverse-append (m ∷ []) before))

whole_backward : (pieces : List Piece) → whole (meanings_backward pieces) [] ≡ meanings pieces
whole_backward pieces = whole_reverse (meanings_backward pieces) [] ∙ append-nil (reverse (meanings_backward pieces)) ∙ reverse-reverse (meanings pieces)

pub unfinished_end : (reader : Reader) (bytes rest : List ℕ) (is_first : Bool) → Progress reader bytes rest is_first → is_nil (chars rest) ≡ true → (not (none_kept reader.opens) || length reader.nodes.items == 0) ≡ true → IsFirstFault bytes (faults.Unbalanced (length bytes))
unfinished_end reader bytes rest is_first p e u = first_unfinished bytes (at_end reader bytes rest is_first p e) (sym (unfinished_as reader (meanings_backward p.pieces) p.reads) ∙ u)

none_open : (ks : List Kept) (b : Bool) → (not (none_kept ks) || b) ≡ false → ks ≡ []
none_open [] b e = refl
none_open (k ∷ ks) b e = absurd cc

nodes_end : (reader : Reader) (bytes rest : List ℕ) (is_first : Bool) (p : Progress reader bytes rest is_first) → (not (none_kept reader.opens) || length reader.nodes.items == 0) ≡ false → reader.nodes.items ≡ nodes_of (meanings p.pieces)
nodes_end reader bytes rest is_first p u =
    let before = meanings_backward p.pieces in
    sym (ap nodes_of (sym (whole_backward p.pieces))
    ∙ p.reads.made []
    ∙ ap (λ ks. complete_nodes zero reader.behind_return [] (begun before) ks reader.nodes.items ++ nodes_from before []) (none_open reader.opens (length reader.nodes.items == 0) u)
    ∙ append-nil reader.nodes.items)

pub tree_end : (reader : Reader) (bytes rest : List ℕ) (is_first : Bool) → Progress reader bytes rest is_first → is_nil (chars rest) ≡ true → (not (none_kept reader.opens) || length reader.nodes.items == 0) ≡ false → IsTreeOf bytes reader.nodes.items
tree_end reader bytes rest is_first p e u =
    let t = at_end reader bytes rest is_first p e in
    let before = meanings_backward p.pieces in
    record {
      utf8 = p.utf8;
      pieces = p.pieces;
      cut = subst (λ r. Cuts true (text_of bytes) p.pieces r) (nil_is (chars rest) e) p.cut;
      faultless = faultless_at_end bytes t (sym (unfinished_as reader before p.reads) ∙ u);
      nodes_are = nodes_end reader bytes rest is_first p u;
    }

-- some element has begun
some_begun : (n : ℕ) (b : Bool) → (b || n == 0) ≡ false → 0 < n
some_begun zero true e = absurd cc
some_begun zero false e = absurd cc
some_begun (suc n) b e = omega arith

pub shape_end : (reader : Reader) (bytes rest : List ℕ) (is_first : Bool) → Progress reader bytes rest is_first → is_nil (chars rest) ≡ true → (not (none_kept reader.opens) || length reader.nodes.items == 0) ≡ false → IsTree reader.nodes.items
shape_end reader bytes rest is_first p e u =
    let t = tree_end reader bytes rest is_first p e u in
    let same = nodes_end reader bytes rest is_first p u in
    subst (λ nodes. IsTree nodes) (sym same) (tree_shape (meanings p.pieces) p.fine (subst (λ (nodes : List Node). 0 < length nodes) same (some_begun (length reader.nodes.items) (not (none_kept reader.opens)) u)))
