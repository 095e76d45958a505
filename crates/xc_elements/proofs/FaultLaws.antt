-- The first fault of a document, by a cut of its text up to a place before which no item has a fault.
use Rattle.std.proofs.Common.{◌≡◌, ◌≢◌, inl, inr, ℕ, ◌+◌, ◌<◌, ◌≤◌, Bool, true, false, List, [], ◌∷◌, ◌++◌, length, Some, None, refl, sym, ap, subst, ◌∙◌, append_assoc, append-nil, arith}
use Rattle.std.specs.Prelude.{reverse, encode_utf8_all, IsTrue}
use Rattle.std.specs.Str.{IsUtf8}
use Rattle.std.specs.Str.Lossy.{utf8_valid_len}
use Rattle.std.proofs.lemmas.List.{length-append, map-append, reverse-append}
use Rattle.std.proofs.lemmas.Str.{encodes-append, length-le-encodes}
use Rattle.xc_elements.specs.Items.{Meaning, item, begins_doctype}
use Rattle.xc_elements.specs.Documents.{Piece, AreItems, joined_texts, Cuts, begins, bytes_of, text_of, StopsAt}
use Rattle.xc_elements.specs.Elements.{is_unbalanced, is_unfinished, is_too_deep, has_no_space, has_same_attribute}
use Rattle.xc_elements.specs.Steps.Reading.{IsFine, IsRefused}
use Rattle.xc_elements.specs.Steps.Refusals.{fault_at}
use Rattle.xc_elements.specs.DocumentTrees.{meanings, meanings_backward, HasAt, EndsAt, Stands, byte_of, rank_of, IsBefore, IsFirstFault, IsRefusal}
use Rattle.xc_elements.specs.declared.fault.TreeFault.{TreeFault}
use Rattle.xc_elements.specs.declared.fault.TreeFault.TheVariants as faults
use Rattle.xc_elements.specs.declared.refusal.Refusal.{Refusal}
use Rattle.xc_elements.specs.declared.refusal.Refusal.TheVariants as refusals
use Rattle.xc_elements.proofs.FrontLaws.{same_answer}
use Rattle.xc_elements.proofs.CutLaws.{same_piece, begins-false, stops_early, nothing_is_no_item, joined_more, items_more, item_goes_on, item_piece, piece_of, one_fault_holds}
use Rattle.xc_elements.proofs.StackLaws.{backward_more}

-- ---- two cuts of one text

-- of two cuts the one goes on where the other ends
pub data Compared (is_first : Bool) (ps qs : List Piece) (r s : List ℕ) : Type 0 where
  Behind : (more : List Piece) → qs ≡ ps ++ more → r ≡ joined_texts more ++ s → Compared is_first ps qs r s
  Ahead : (p : Piece) (more : List Piece) → ps ≡ qs ++ p ∷ more → s ≡ joined_texts (p ∷ more) ++ r → item (begins is_first qs) p.text ≡ Some (p.meaning, []) → Compared is_first ps qs r s

further : (p : Piece) (is_first : Bool) (ps qs : List Piece) (r s : List ℕ) → Compared false ps qs r s → Compared is_first (p ∷ ps) (p ∷ qs) r s
further p is_first ps qs r s (Behind more e f) = Behind more (ap (λ xs. p ∷ xs) e) f
further p is_first ps qs r s (Ahead q more e f i) = Ahead q more (ap (λ xs. p ∷ xs) e) f (ap (λ b. item b q.text) (sym (begins-false qs)) ∙ i)

compared : (is_first : Bool) (ps qs : List Piece) (r s : List ℕ) → AreItems is_first ps → AreItems is_first qs → joined_texts ps ++ r ≡ joined_texts qs ++ s → Compared is_first ps qs r s
compared is_first [] qs r s ip iq e = Behind qs refl e
compared is_first (p ∷ ps) [] r s ip iq e = Ahead p ps refl (sym e) ip.0
compared is_first (p ∷ ps) (q ∷ qs) r s ip iq e =
    let first = same_piece is_first p q (joined_texts ps ++ r) (joined_texts qs ++ s) ip.0 iq.0 (sym (append_assoc p.text (joined_texts ps) r) ∙ e ∙ append_assoc q.text (joined_texts qs) s) in
    subst (λ x. Compared is_first (p ∷ ps) (x ∷ qs) r s) first.0 (further p is_first ps qs r s (compared false ps qs r s ip.1 iq.1 first.1))

pub compared_cuts : (text : List ℕ) (ps qs : List Piece) (r s : List ℕ) → Cuts true text ps r → Cuts true text qs s → Compared true ps qs r s
compared_cuts text ps qs r s c d = compared true ps qs r s c.items d.items (sym c.whole ∙ d.whole)

-- ---- places

bytes_append : (a b : List ℕ) → bytes_of (a ++ b) ≡ bytes_of a + bytes_of b
bytes_append a b = ap length (encodes-append a b) ∙ length-append (encode_utf8_all a) (encode_utf8_all b)

bytes_some : (a : List ℕ) → bytes_of a ≡ 0 → a ≡ []
bytes_some [] e = refl
bytes_some (c ∷ cs) e = absurd (omega (arith, length-le-encodes (c ∷ cs)))

no_bytes : (a : List ℕ) → a ≢ [] → 0 < bytes_of a
no_bytes [] h = absurd (h refl)
no_bytes (c ∷ cs) h = omega (arith, length-le-encodes (c ∷ cs))

-- an item is at least a character
item_some : (is_first : Bool) (text : List ℕ) (m : Meaning) → item is_first text ≡ Some (m, []) → text ≢ []
item_some is_first text m e f = let wrong = sym (nothing_is_no_item is_first) ∙ ap (λ t. item is_first t) (sym f) ∙ e in cc

-- ---- items without fault

-- none of these items has a fault, which are told from the last to the first
abbrev pub AreFine : List Meaning → Type 0
AreFine [] = Unit {0}
AreFine (item ∷ before) = IsFine before item × AreFine before

fine_within : (xs ys : List Meaning) → AreFine (xs ++ ys) → AreFine ys
fine_within [] ys h = h
fine_within (x ∷ xs) ys h = fine_within xs ys h.1

pub backward_last : (ps : List Piece) (p : Piece) → meanings_backward (ps ++ p ∷ []) ≡ p.meaning ∷ meanings_backward ps
backward_last ps p = backward_more (λ x. x.meaning) ps p

backward_append : (ps qs : List Piece) → meanings_backward (ps ++ qs) ≡ meanings_backward qs ++ meanings_backward ps
backward_append ps qs = ap reverse (map-append (λ p. p.meaning) ps qs) ∙ reverse-append (meanings ps) (meanings qs)

fine_at : (qs : List Piece) (q : Piece) (more ps : List Piece) → ps ≡ qs ++ q ∷ more → AreFine (meanings_backward ps) → IsFine (meanings_backward qs) q.meaning
fine_at qs q more ps e h =
    let all : meanings_backward ps ≡ meanings_backward more ++ (q.meaning ∷ meanings_backward qs) =
    ap meanings_backward e ∙ backward_append qs (q ∷ more)
    ∙ ap (λ ms. ms ++ meanings_backward qs) (backward_append (q ∷ []) more)
    ∙ append_assoc (meanings_backward more) (q.meaning ∷ []) (meanings_backward qs)
    in
    (fine_within (meanings_backward more) (q.meaning ∷ meanings_backward qs) (subst (λ ms. AreFine ms) all h)).0

-- the cut of a document up to a place, where this rest begins: no item before it has a fault
pub record FineTo (bytes rest : List ℕ) (place : ℕ) : Type 0 where
  pub utf8 : IsUtf8 bytes
  pub pieces : List Piece
  pub cut : Cuts true (text_of bytes) pieces rest
  pub here : place + bytes_of rest ≡ length bytes
  pub fine : AreFine (meanings_backward pieces)

-- ---- one more item of a cut

items_front : (is_first : Bool) (qs : List Piece) (q : Piece) → AreItems is_first (qs ++ q ∷ []) → AreItems is_first qs × (item (begins is_first qs) q.text ≡ Some (q.meaning, []))
items_front is_first [] q h = (tt, h.0)
items_front is_first (p ∷ qs) q h =
    let front = items_front false qs q h.1 in
    ((h.0, front.0), ap (λ b. item b q.text) (sym (begins-false qs)) ∙ front.1)

items_behind : (is_first : Bool) (ps more : List Piece) → AreItems is_first (ps ++ more) → AreItems (begins is_first ps) more
items_behind is_first [] more h = h
items_behind is_first (p ∷ ps) more h = subst (λ b. AreItems b more) (begins-false ps) (items_behind false ps more h.1)

-- a cut that ends before an item, and that item
pub record BeforeItem (text : List ℕ) (qs : List Piece) (q : Piece) (s : List ℕ) : Type 0 where
  pub cut : Cuts true text qs (q.text ++ s)
  pub is : item (begins true qs) q.text ≡ Some (q.meaning, [])

before_item : (text : List ℕ) (qs : List Piece) (q : Piece) (s : List ℕ) → Cuts true text (qs ++ q ∷ []) s → BeforeItem text qs q s
before_item text qs q s c =
    let front = items_front true qs q c.items in
    record { cut = record { items = front.0; whole = c.whole ∙ joined_more qs q.text q.meaning s }; is = front.1 }

-- ---- two cuts and their places

front_nil : (a b : List ℕ) → a ++ b ≡ [] → a ≡ []
front_nil [] b e = refl
front_nil (c ∷ cs) b e = absurd cc

none_joined : (is_first : Bool) (more : List Piece) → AreItems is_first more → joined_texts more ≡ [] → more ≡ []
none_joined is_first [] h e = refl
none_joined is_first (p ∷ more) h e = absurd (item_some is_first p.text p.meaning h.0 (front_nil p.text (joined_texts more) e))

same_at : (bytes rest : List ℕ) (place : ℕ) (t : FineTo bytes rest place) (qs : List Piece) (s : List ℕ) → Cuts true (text_of bytes) qs s → place + bytes_of s ≡ length bytes → Compared true t.pieces qs rest s → (qs ≡ t.pieces) × (rest ≡ s)
same_at bytes rest place t qs s c e (Behind more f g) =
    let none : joined_texts more ≡ [] = bytes_some (joined_texts more) (omega (arith, t.here, e, ap bytes_of g, bytes_append (joined_texts more) s)) in
    let nil : more ≡ [] = none_joined (begins true t.pieces) more (items_behind true t.pieces more (subst (λ xs. AreItems true xs) f c.items)) none in
    (f ∙ ap (λ xs. t.pieces ++ xs) nil ∙ append-nil t.pieces, g ∙ ap (λ (x : List ℕ). x ++ s) none)
same_at bytes rest place t qs s c e (Ahead p more f g i) =
    let some : 0 < bytes_of p.text = no_bytes p.text (item_some (begins true qs) p.text p.meaning i) in
    absurd (omega (arith, t.here, e, some, ap bytes_of g, bytes_append (p.text ++ joined_texts more) rest, bytes_append p.text (joined_texts more)))

-- what stands at a place is the same in every cut
pub at_place : (bytes rest : List ℕ) (place : ℕ) (t : FineTo bytes rest place) (qs : List Piece) (s : List ℕ) → Cuts true (text_of bytes) qs s → place + bytes_of s ≡ length bytes → (qs ≡ t.pieces) × (rest ≡ s)
at_place bytes rest place t qs s c e = same_at bytes rest place t qs s c e (compared_cuts (text_of bytes) t.pieces qs rest s t.cut c)

-- where no item stands is not before the place
stops_compared : (bytes rest : List ℕ) (place p : ℕ) (k : Bool) (t : FineTo bytes rest place) (st : StopsAt bytes p k) → Compared true t.pieces st.pieces rest st.rest → place ≤ p
stops_compared bytes rest place p k t st (Behind more f g) = omega (arith, t.here, st.here, ap bytes_of g, bytes_append (joined_texts more) st.rest)
stops_compared bytes rest place p k t st (Ahead q more f g i) = absurd (stops_early (begins true st.pieces) q more st.rest rest st.stops.none i g)

stops_behind : (bytes rest : List ℕ) (place p : ℕ) (k : Bool) → FineTo bytes rest place → StopsAt bytes p k → place ≤ p
stops_behind bytes rest place p k t st = stops_compared bytes rest place p k t st (compared_cuts (text_of bytes) t.pieces st.pieces rest st.rest t.cut st.stops.cut)

-- this test is not passed by an item without fault
abbrev pub IsOfFaults : (List Meaning → Meaning → Bool) → Type 0
IsOfFaults test = (before : List Meaning) (m : Meaning) → IsFine before m → test before m ≡ false

never : (b : Bool) → b ≡ false → IsTrue b → ⊥
never true e h = absurd cc
never false e h = absurd cc

has_compared : (bytes rest : List ℕ) (place p : ℕ) (test : List Meaning → Meaning → Bool) (t : FineTo bytes rest place) → IsOfFaults test → (h : HasAt bytes p test) → BeforeItem (text_of bytes) h.pieces h.piece h.rest → Compared true t.pieces h.pieces rest (h.piece.text ++ h.rest) → place ≤ p
has_compared bytes rest place p test t of h b (Behind more f g) = omega (arith, t.here, h.here, ap bytes_of g, bytes_append (joined_texts more) (h.piece.text ++ h.rest))
has_compared bytes rest place p test t of h b (Ahead q more f g i) =
    let same = same_piece (begins true h.pieces) h.piece q h.rest (joined_texts more ++ rest) b.is i (g ∙ append_assoc q.text (joined_texts more) rest) in
    let fine = fine_at h.pieces h.piece more t.pieces (f ∙ ap (λ x. h.pieces ++ x ∷ more) (sym same.0)) t.fine in
    absurd (never (test (meanings_backward h.pieces) h.piece.meaning) (of (meanings_backward h.pieces) h.piece.meaning fine) h.faulty)

has_behind : (bytes rest : List ℕ) (place p : ℕ) (test : List Meaning → Meaning → Bool) → FineTo bytes rest place → IsOfFaults test → HasAt bytes p test → place ≤ p
has_behind bytes rest place p test t of h =
    let b = before_item (text_of bytes) h.pieces h.piece h.rest h.cut in
    has_compared bytes rest place p test t of h b (compared_cuts (text_of bytes) t.pieces h.pieces rest (h.piece.text ++ h.rest) t.cut b.cut)

-- no fault stands before the place
pub none_before : (bytes rest : List ℕ) (place : ℕ) → FineTo bytes rest place → (other : TreeFault) → Stands bytes other → place ≤ byte_of other
none_before bytes rest place t faults.Memory st = absurd st
none_before bytes rest place t (faults.NotUtf8 p) st = absurd (st.0 t.utf8)
none_before bytes rest place t (faults.NotItem p) st = stops_behind bytes rest place p false t st
none_before bytes rest place t (faults.Doctype p) st = stops_behind bytes rest place p true t st
none_before bytes rest place t (faults.Unbalanced p) (inl st) = has_behind bytes rest place p is_unbalanced t (λ b i h. h.balanced) st
none_before bytes rest place t (faults.Unbalanced p) (inr st) = omega (arith, t.here, st.here)
none_before bytes rest place t (faults.TooDeep p) st = has_behind bytes rest place p is_too_deep t (λ b i h. h.shallow) st
none_before bytes rest place t (faults.NoSpace p) st = has_behind bytes rest place p has_no_space t (λ b i h. h.spaced) st
none_before bytes rest place t (faults.SameAttribute p) st = has_behind bytes rest place p has_same_attribute t (λ b i h. h.distinct) st

-- ---- what stands at the place

-- an item stands at the place
pub record ItemAt (bytes rest : List ℕ) (place : ℕ) (t : FineTo bytes rest place) (m : Meaning) : Type 0 where
  pub after : List ℕ
  pub is : item (begins true t.pieces) rest ≡ Some (m, after)

-- a fault of an item here is one of this item
item_has : (bytes rest : List ℕ) (place : ℕ) (t : FineTo bytes rest place) (m : Meaning) (test : List Meaning → Meaning → Bool) → ItemAt bytes rest place t m → HasAt bytes place test → test (meanings_backward t.pieces) m ≡ true
item_has bytes rest place t m test i h =
    let b = before_item (text_of bytes) h.pieces h.piece h.rest h.cut in
    let same = at_place bytes rest place t h.pieces (h.piece.text ++ h.rest) b.cut h.here in
    let there : item (begins true t.pieces) rest ≡ Some (h.piece.meaning, h.rest) =
    ap (λ (x : List ℕ). item (begins true t.pieces) x) same.1 ∙ ap (λ ps. item (begins true ps) (h.piece.text ++ h.rest)) (sym same.0) ∙ item_goes_on (begins true h.pieces) h.piece.text h.rest h.piece.meaning b.is
    in
    let meant = same_answer m h.piece.meaning i.after h.rest (sym i.is ∙ there) in
    ap (λ x. test (meanings_backward t.pieces) x) meant.0 ∙ ap (λ ps. test (meanings_backward ps) h.piece.meaning) (sym same.0) ∙ h.faulty

item_no_stop : (bytes rest : List ℕ) (place : ℕ) (k : Bool) (t : FineTo bytes rest place) (m : Meaning) → ItemAt bytes rest place t m → StopsAt bytes place k → ⊥
item_no_stop bytes rest place k t m i st =
    let same = at_place bytes rest place t st.pieces st.rest st.stops.cut st.here in
    let none : item (begins true t.pieces) rest ≡ None = ap (λ (x : List ℕ). item (begins true t.pieces) x) same.1 ∙ ap (λ ps. item (begins true ps) st.rest) (sym same.0) ∙ st.stops.none in
    let wrong = sym none ∙ i.is in
    cc

item_no_end : (bytes rest : List ℕ) (place : ℕ) (t : FineTo bytes rest place) (m : Meaning) → ItemAt bytes rest place t m → EndsAt bytes place → ⊥
item_no_end bytes rest place t m i st =
    let nil : rest ≡ [] = bytes_some rest (omega (arith, t.here, st.here)) in
    let wrong = sym (nothing_is_no_item (begins true t.pieces)) ∙ ap (λ (x : List ℕ). item (begins true t.pieces) x) (sym nil) ∙ i.is in
    cc

-- ---- the order of the faults at one place

above_none : (bytes : List ℕ) (other : TreeFault) → IsUtf8 bytes → Stands bytes other → 1 ≤ rank_of other
above_none bytes faults.Memory u st = absurd st
above_none bytes (faults.NotUtf8 p) u st = absurd (st.0 u)
above_none bytes (faults.NotItem p) u st = omega arith
above_none bytes (faults.Doctype p) u st = omega arith
above_none bytes (faults.Unbalanced p) u st = omega arith
above_none bytes (faults.TooDeep p) u st = omega arith
above_none bytes (faults.NoSpace p) u st = omega arith
above_none bytes (faults.SameAttribute p) u st = omega arith

-- a fault of the place at which an item stands, by what the item is known not to have
above_items : (bytes rest : List ℕ) (place : ℕ) (t : FineTo bytes rest place) (m : Meaning) (other : TreeFault) → ItemAt bytes rest place t m → byte_of other ≡ place → Stands bytes other → 2 ≤ rank_of other
above_items bytes rest place t m faults.Memory i e st = absurd st
above_items bytes rest place t m (faults.NotUtf8 p) i e st = absurd (st.0 t.utf8)
above_items bytes rest place t m (faults.NotItem p) i e st = absurd (item_no_stop bytes rest place false t m i (subst (λ n. StopsAt bytes n false) e st))
above_items bytes rest place t m (faults.Doctype p) i e st = absurd (item_no_stop bytes rest place true t m i (subst (λ n. StopsAt bytes n true) e st))
above_items bytes rest place t m (faults.Unbalanced p) i e st = omega arith
above_items bytes rest place t m (faults.TooDeep p) i e st = omega arith
above_items bytes rest place t m (faults.NoSpace p) i e st = omega arith
above_items bytes rest place t m (faults.SameAttribute p) i e st = omega arith

-- the item does not have this fault
cleared : (bytes rest : List ℕ) (place p : ℕ) (t : FineTo bytes rest place) (m : Meaning) (test : List Meaning → Meaning → Bool) → ItemAt bytes rest place t m → p ≡ place → test (meanings_backward t.pieces) m ≡ false → HasAt bytes p test → ⊥
cleared bytes rest place p t m test i e clear st = never (test (meanings_backward t.pieces) m) clear (item_has bytes rest place t m test i (subst (λ n. HasAt bytes n test) e st))

above_unbalanced : (bytes rest : List ℕ) (place : ℕ) (t : FineTo bytes rest place) (m : Meaning) (other : TreeFault) → ItemAt bytes rest place t m → is_unbalanced (meanings_backward t.pieces) m ≡ false → byte_of other ≡ place → Stands bytes other → 3 ≤ rank_of other
above_unbalanced bytes rest place t m (faults.Unbalanced p) i c e (inl st) = absurd (cleared bytes rest place p t m is_unbalanced i e c st)
above_unbalanced bytes rest place t m (faults.Unbalanced p) i c e (inr st) = absurd (item_no_end bytes rest place t m i (subst (λ n. EndsAt bytes n) e st))
above_unbalanced bytes rest place t m (faults.TooDeep p) i c e st = omega arith
above_unbalanced bytes rest place t m (faults.NoSpace p) i c e st = omega arith
above_unbalanced bytes rest place t m (faults.SameAttribute p) i c e st = omega arith
above_unbalanced bytes rest place t m faults.Memory i c e st = absurd st
above_unbalanced bytes rest place t m (faults.NotUtf8 p) i c e st = absurd (st.0 t.utf8)
above_unbalanced bytes rest place t m (faults.NotItem p) i c e st = absurd (item_no_stop bytes rest place false t m i (subst (λ n. StopsAt bytes n false) e st))
above_unbalanced bytes rest place t m (faults.Doctype p) i c e st = absurd (item_no_stop bytes rest place true t m i (subst (λ n. StopsAt bytes n true) e st))

above_deep : (bytes rest : List ℕ) (place : ℕ) (t : FineTo bytes rest place) (m : Meaning) (other : TreeFault) → ItemAt bytes rest place t m → is_too_deep (meanings_backward t.pieces) m ≡ false → byte_of other ≡ place → Stands bytes other → 3 ≤ rank_of other → 4 ≤ rank_of other
above_deep bytes rest place t m (faults.TooDeep p) i c e st h = absurd (cleared bytes rest place p t m is_too_deep i e c st)
above_deep bytes rest place t m (faults.NoSpace p) i c e st h = omega arith
above_deep bytes rest place t m (faults.SameAttribute p) i c e st h = omega arith
above_deep bytes rest place t m (faults.Unbalanced p) i c e st h = absurd (omega (arith, h))
above_deep bytes rest place t m faults.Memory i c e st h = absurd st
above_deep bytes rest place t m (faults.NotUtf8 p) i c e st h = absurd (omega (arith, h))
above_deep bytes rest place t m (faults.NotItem p) i c e st h = absurd (omega (arith, h))
above_deep bytes rest place t m (faults.Doctype p) i c e st h = absurd (omega (arith, h))

above_space : (bytes rest : List ℕ) (place : ℕ) (t : FineTo bytes rest place) (m : Meaning) (other : TreeFault) → ItemAt bytes rest place t m → has_no_space (meanings_backward t.pieces) m ≡ false → byte_of other ≡ place → Stands bytes other → 4 ≤ rank_of other → 5 ≤ rank_of other
above_space bytes rest place t m (faults.NoSpace p) i c e st h = absurd (cleared bytes rest place p t m has_no_space i e c st)
above_space bytes rest place t m (faults.SameAttribute p) i c e st h = omega arith
above_space bytes rest place t m (faults.TooDeep p) i c e st h = absurd (omega (arith, h))
above_space bytes rest place t m (faults.Unbalanced p) i c e st h = absurd (omega (arith, h))
above_space bytes rest place t m faults.Memory i c e st h = absurd st
above_space bytes rest place t m (faults.NotUtf8 p) i c e st h = absurd (omega (arith, h))
above_space bytes rest place t m (faults.NotItem p) i c e st h = absurd (omega (arith, h))
above_space bytes rest place t m (faults.Doctype p) i c e st h = absurd (omega (arith, h))

-- ---- the first fault

not_before : (bytes rest : List ℕ) (place : ℕ) (t : FineTo bytes rest place) (fault other : TreeFault) → byte_of fault ≡ place → Stands bytes other → (byte_of other ≡ place → rank_of fault ≤ rank_of other) → IsBefore other fault → ⊥
not_before bytes rest place t fault other e so least (inl less) = omega (arith, none_before bytes rest place t other so, less)
not_before bytes rest place t fault other e so least (inr both) = omega (arith, least (both.0 ∙ e), both.1)

-- none comes before a fault of the place, if none of the place does
first_at : (bytes rest : List ℕ) (place : ℕ) (t : FineTo bytes rest place) (fault : TreeFault) → byte_of fault ≡ place → Stands bytes fault → ((other : TreeFault) → byte_of other ≡ place → Stands bytes other → rank_of fault ≤ rank_of other) → IsFirstFault bytes fault
first_at bytes rest place t fault e st least = record { stands = st; first = λ other so before. not_before bytes rest place t fault other e so (λ same. least other same so) before }

stopped : (bytes rest : List ℕ) (place : ℕ) (t : FineTo bytes rest place) (k : Bool) → rest ≢ [] → item (begins true t.pieces) rest ≡ None → begins_doctype rest ≡ k → StopsAt bytes place k
stopped bytes rest place t k some none kind = record { utf8 = t.utf8; pieces = t.pieces; rest = rest; stops = record { cut = t.cut; more = some; none = none }; here = t.here; kind = kind }

pub first_not_item : (bytes rest : List ℕ) (place : ℕ) (t : FineTo bytes rest place) → rest ≢ [] → item (begins true t.pieces) rest ≡ None → begins_doctype rest ≡ false → IsFirstFault bytes (faults.NotItem place)
first_not_item bytes rest place t some none kind = first_at bytes rest place t (faults.NotItem place) refl (stopped bytes rest place t false some none kind) (λ other e st. above_none bytes other t.utf8 st)

pub first_doctype : (bytes rest : List ℕ) (place : ℕ) (t : FineTo bytes rest place) → rest ≢ [] → item (begins true t.pieces) rest ≡ None → begins_doctype rest ≡ true → IsFirstFault bytes (faults.Doctype place)
first_doctype bytes rest place t some none kind = first_at bytes rest place t (faults.Doctype place) refl (stopped bytes rest place t true some none kind) (λ other e st. above_none bytes other t.utf8 st)

-- the item here has a fault
has_here : (bytes rest : List ℕ) (place : ℕ) (t : FineTo bytes rest place) (m : Meaning) (test : List Meaning → Meaning → Bool) → ItemAt bytes rest place t m → test (meanings_backward t.pieces) m ≡ true → HasAt bytes place test
has_here bytes rest place t m test i e =
    let p = item_piece (begins true t.pieces) rest i.after m i.is in
    record {
      utf8 = t.utf8;
      pieces = t.pieces;
      piece = piece_of p.0 m;
      rest = i.after;
      cut = record { items = items_more true t.pieces (piece_of p.0 m) t.cut.items p.2; whole = t.cut.whole ∙ ap (λ (r : List ℕ). joined_texts t.pieces ++ r) p.1 ∙ sym (joined_more t.pieces p.0 m i.after) };
      here = ap (λ (x : List ℕ). place + bytes_of x) (sym p.1) ∙ t.here;
      faulty = e;
    }

pub first_refused : (bytes rest : List ℕ) (place : ℕ) (t : FineTo bytes rest place) (m : Meaning) (refusal : Refusal) → ItemAt bytes rest place t m → IsRefused (meanings_backward t.pieces) m refusal → IsRefusal bytes (fault_at refusal place)
first_refused bytes rest place t m refusals.Memory i r = tt
first_refused bytes rest place t m refusals.Unbalanced i r =
    first_at bytes rest place t (faults.Unbalanced place) refl (inl (has_here bytes rest place t m is_unbalanced i r)) (λ other e st. above_items bytes rest place t m other i e st)
first_refused bytes rest place t m refusals.TooDeep i r =
    first_at bytes rest place t (faults.TooDeep place) refl (has_here bytes rest place t m is_too_deep i r.1) (λ other e st. above_unbalanced bytes rest place t m other i r.0 e st)
first_refused bytes rest place t m refusals.NoSpace i r =
    first_at bytes rest place t (faults.NoSpace place) refl (has_here bytes rest place t m has_no_space i r.2)
    (λ other e st. above_deep bytes rest place t m other i r.1 e st (above_unbalanced bytes rest place t m other i r.0 e st))
first_refused bytes rest place t m refusals.SameAttribute i r =
    first_at bytes rest place t (faults.SameAttribute place) refl (has_here bytes rest place t m has_same_attribute i r.3)
    (λ other e st. above_space bytes rest place t m other i r.2 e st (above_deep bytes rest place t m other i r.1 e st (above_unbalanced bytes rest place t m other i r.0 e st)))

-- ---- the end of a document

-- no item is missing at the end
no_stop_behind : (bytes : List ℕ) (p : ℕ) (k : Bool) → length bytes ≤ p → StopsAt bytes p k → ⊥
no_stop_behind bytes p k h st = omega (arith, h, st.here, no_bytes st.rest st.stops.more)

above_end : (bytes : List ℕ) (other : TreeFault) → IsUtf8 bytes → byte_of other ≡ length bytes → Stands bytes other → 2 ≤ rank_of other
above_end bytes faults.Memory u e st = absurd st
above_end bytes (faults.NotUtf8 p) u e st = absurd (st.0 u)
above_end bytes (faults.NotItem p) u e st = absurd (no_stop_behind bytes p false (omega (arith, e)) st)
above_end bytes (faults.Doctype p) u e st = absurd (no_stop_behind bytes p true (omega (arith, e)) st)
above_end bytes (faults.Unbalanced p) u e st = omega arith
above_end bytes (faults.TooDeep p) u e st = omega arith
above_end bytes (faults.NoSpace p) u e st = omega arith
above_end bytes (faults.SameAttribute p) u e st = omega arith

pub first_unfinished : (bytes : List ℕ) (t : FineTo bytes [] (length bytes)) → is_unfinished (meanings_backward t.pieces) ≡ true → IsFirstFault bytes (faults.Unbalanced (length bytes))
first_unfinished bytes t e =
    first_at bytes [] (length bytes) t (faults.Unbalanced (length bytes)) refl (inr (record { utf8 = t.utf8; pieces = t.pieces; cut = t.cut; here = refl; faulty = e }))
    (λ other same st. above_end bytes other t.utf8 same st)

no_item_behind : (bytes : List ℕ) (p : ℕ) (test : List Meaning → Meaning → Bool) → length bytes ≤ p → HasAt bytes p test → ⊥
no_item_behind bytes p test h st =
    let b = before_item (text_of bytes) st.pieces st.piece st.rest st.cut in
    let some : 0 < bytes_of st.piece.text = no_bytes st.piece.text (item_some (begins true st.pieces) st.piece.text st.piece.meaning b.is) in
    omega (arith, h, st.here, some, bytes_append st.piece.text st.rest)

finished_end : (bytes : List ℕ) (t : FineTo bytes [] (length bytes)) → is_unfinished (meanings_backward t.pieces) ≡ false → (p : ℕ) → EndsAt bytes p → ⊥
finished_end bytes t e p st =
    let same = at_place bytes [] (length bytes) t st.pieces [] st.cut (omega arith) in
    never (is_unfinished (meanings_backward t.pieces)) e (ap (λ ps. is_unfinished (meanings_backward ps)) (sym same.0) ∙ st.faulty)

pub faultless_at_end : (bytes : List ℕ) (t : FineTo bytes [] (length bytes)) → is_unfinished (meanings_backward t.pieces) ≡ false → (fault : TreeFault) → Stands bytes fault → ⊥
faultless_at_end bytes t e faults.Memory st = st
faultless_at_end bytes t e (faults.NotUtf8 p) st = st.0 t.utf8
faultless_at_end bytes t e (faults.NotItem p) st = no_stop_behind bytes p false (none_before bytes [] (length bytes) t (faults.NotItem p) st) st
faultless_at_end bytes t e (faults.Doctype p) st = no_stop_behind bytes p true (none_before bytes [] (length bytes) t (faults.Doctype p) st) st
faultless_at_end bytes t e (faults.Unbalanced p) (inl st) = no_item_behind bytes p is_unbalanced (none_before bytes [] (length bytes) t (faults.Unbalanced p) (inl st)) st
faultless_at_end bytes t e (faults.Unbalanced p) (inr st) = finished_end bytes t e p st
faultless_at_end bytes t e (faults.TooDeep p) st = no_item_behind bytes p is_too_deep (none_before bytes [] (length bytes) t (faults.TooDeep p) st) st
faultless_at_end bytes t e (faults.NoSpace p) st = no_item_behind bytes p has_no_space (none_before bytes [] (length bytes) t (faults.NoSpace p) st) st
faultless_at_end bytes t e (faults.SameAttribute p) st = no_item_behind bytes p has_same_attribute (none_before bytes [] (length bytes) t (faults.SameAttribute p) st) st

-- ---- bytes that are not UTF-8

alone : (bytes : List ℕ) (place : ℕ) → (IsUtf8 bytes → ⊥) → place ≡ utf8_valid_len bytes → (other : TreeFault) → Stands bytes other → IsBefore other (faults.NotUtf8 place) → ⊥
alone bytes place wrong e faults.Memory st before = st
alone bytes place wrong e (faults.NotUtf8 p) st (inl less) = omega (arith, e, st.1, less)
alone bytes place wrong e (faults.NotUtf8 p) st (inr both) = omega (arith, both.1)
alone bytes place wrong e (faults.NotItem p) st before = wrong st.utf8
alone bytes place wrong e (faults.Doctype p) st before = wrong st.utf8
alone bytes place wrong e (faults.Unbalanced p) (inl st) before = wrong st.utf8
alone bytes place wrong e (faults.Unbalanced p) (inr st) before = wrong st.utf8
alone bytes place wrong e (faults.TooDeep p) st before = wrong st.utf8
alone bytes place wrong e (faults.NoSpace p) st before = wrong st.utf8
alone bytes place wrong e (faults.SameAttribute p) st before = wrong st.utf8

pub first_not_utf8 : (bytes : List ℕ) (place : ℕ) → (IsUtf8 bytes → ⊥) → place ≡ utf8_valid_len bytes → IsFirstFault bytes (faults.NotUtf8 place)
first_not_utf8 bytes place wrong e = record { stands = (wrong, e); first = λ other st before. alone bytes place wrong e other st before }

-- ---- one first fault

-- behind the same items no item stands in one way
one_kind : (bytes : List ℕ) (p : ℕ) → StopsAt bytes p false → StopsAt bytes p true → ⊥
one_kind bytes p st su =
    let same = one_fault_holds true (text_of bytes) st.pieces su.pieces st.rest su.rest st.stops.cut st.stops.none su.stops.cut su.stops.none in
    let wrong = sym st.kind ∙ ap begins_doctype same.1 ∙ su.kind in
    cc

-- faults of one place and one rank are one
pub same_fault : (bytes : List ℕ) (f g : TreeFault) → byte_of f ≡ byte_of g → rank_of f ≡ rank_of g → Stands bytes f → Stands bytes g → f ≡ g
same_fault bytes faults.Memory faults.Memory e r st su = absurd st
same_fault bytes faults.Memory (faults.NotUtf8 q) e r st su = absurd st
same_fault bytes faults.Memory (faults.NotItem q) e r st su = absurd st
same_fault bytes faults.Memory (faults.Doctype q) e r st su = absurd st
same_fault bytes faults.Memory (faults.Unbalanced q) e r st su = absurd st
same_fault bytes faults.Memory (faults.TooDeep q) e r st su = absurd st
same_fault bytes faults.Memory (faults.NoSpace q) e r st su = absurd st
same_fault bytes faults.Memory (faults.SameAttribute q) e r st su = absurd st
same_fault bytes (faults.NotUtf8 p) faults.Memory e r st su = absurd su
same_fault bytes (faults.NotUtf8 p) (faults.NotUtf8 q) e r st su = ap (λ n. faults.NotUtf8 n) e
same_fault bytes (faults.NotUtf8 p) (faults.NotItem q) e r st su = absurd (omega (arith, r))
same_fault bytes (faults.NotUtf8 p) (faults.Doctype q) e r st su = absurd (omega (arith, r))
same_fault bytes (faults.NotUtf8 p) (faults.Unbalanced q) e r st su = absurd (omega (arith, r))
same_fault bytes (faults.NotUtf8 p) (faults.TooDeep q) e r st su = absurd (omega (arith, r))
same_fault bytes (faults.NotUtf8 p) (faults.NoSpace q) e r st su = absurd (omega (arith, r))
same_fault bytes (faults.NotUtf8 p) (faults.SameAttribute q) e r st su = absurd (omega (arith, r))
same_fault bytes (faults.NotItem p) faults.Memory e r st su = absurd su
same_fault bytes (faults.NotItem p) (faults.NotUtf8 q) e r st su = absurd (omega (arith, r))
same_fault bytes (faults.NotItem p) (faults.NotItem q) e r st su = ap (λ n. faults.NotItem n) e
same_fault bytes (faults.NotItem p) (faults.Doctype q) e r st su = absurd (one_kind bytes p st (subst (λ n. StopsAt bytes n true) (sym e) su))
same_fault bytes (faults.NotItem p) (faults.Unbalanced q) e r st su = absurd (omega (arith, r))
same_fault bytes (faults.NotItem p) (faults.TooDeep q) e r st su = absurd (omega (arith, r))
same_fault bytes (faults.NotItem p) (faults.NoSpace q) e r st su = absurd (omega (arith, r))
same_fault bytes (faults.NotItem p) (faults.SameAttribute q) e r st su = absurd (omega (arith, r))
same_fault bytes (faults.Doctype p) faults.Memory e r st su = absurd su
same_fault bytes (faults.Doctype p) (faults.NotUtf8 q) e r st su = absurd (omega (arith, r))
same_fault bytes (faults.Doctype p) (faults.NotItem q) e r st su = absurd (one_kind bytes p (subst (λ n. StopsAt bytes n false) (sym e) su) st)
same_fault bytes (faults.Doctype p) (faults.Doctype q) e r st su = ap (λ n. faults.Doctype n) e
same_fault bytes (faults.Doctype p) (faults.Unbalanced q) e r st su = absurd (omega (arith, r))
same_fault bytes (faults.Doctype p) (faults.TooDeep q) e r st su = absurd (omega (arith, r))
same_fault bytes (faults.Doctype p) (faults.NoSpace q) e r st su = absurd (omega (arith, r))
same_fault bytes (faults.Doctype p) (faults.SameAttribute q) e r st su = absurd (omega (arith, r))
same_fault bytes (faults.Unbalanced p) faults.Memory e r st su = absurd su
same_fault bytes (faults.Unbalanced p) (faults.NotUtf8 q) e r st su = absurd (omega (arith, r))
same_fault bytes (faults.Unbalanced p) (faults.NotItem q) e r st su = absurd (omega (arith, r))
same_fault bytes (faults.Unbalanced p) (faults.Doctype q) e r st su = absurd (omega (arith, r))
same_fault bytes (faults.Unbalanced p) (faults.Unbalanced q) e r st su = ap (λ n. faults.Unbalanced n) e
same_fault bytes (faults.Unbalanced p) (faults.TooDeep q) e r st su = absurd (omega (arith, r))
same_fault bytes (faults.Unbalanced p) (faults.NoSpace q) e r st su = absurd (omega (arith, r))
same_fault bytes (faults.Unbalanced p) (faults.SameAttribute q) e r st su = absurd (omega (arith, r))
same_fault bytes (faults.TooDeep p) faults.Memory e r st su = absurd su
same_fault bytes (faults.TooDeep p) (faults.NotUtf8 q) e r st su = absurd (omega (arith, r))
same_fault bytes (faults.TooDeep p) (faults.NotItem q) e r st su = absurd (omega (arith, r))
same_fault bytes (faults.TooDeep p) (faults.Doctype q) e r st su = absurd (omega (arith, r))
same_fault bytes (faults.TooDeep p) (faults.Unbalanced q) e r st su = absurd (omega (arith, r))
same_fault bytes (faults.TooDeep p) (faults.TooDeep q) e r st su = ap (λ n. faults.TooDeep n) e
same_fault bytes (faults.TooDeep p) (faults.NoSpace q) e r st su = absurd (omega (arith, r))
same_fault bytes (faults.TooDeep p) (faults.SameAttribute q) e r st su = absurd (omega (arith, r))
same_fault bytes (faults.NoSpace p) faults.Memory e r st su = absurd su
same_fault bytes (faults.NoSpace p) (faults.NotUtf8 q) e r st su = absurd (omega (arith, r))
same_fault bytes (faults.NoSpace p) (faults.NotItem q) e r st su = absurd (omega (arith, r))
same_fault bytes (faults.NoSpace p) (faults.Doctype q) e r st su = absurd (omega (arith, r))
same_fault bytes (faults.NoSpace p) (faults.Unbalanced q) e r st su = absurd (omega (arith, r))
same_fault bytes (faults.NoSpace p) (faults.TooDeep q) e r st su = absurd (omega (arith, r))
same_fault bytes (faults.NoSpace p) (faults.NoSpace q) e r st su = ap (λ n. faults.NoSpace n) e
same_fault bytes (faults.NoSpace p) (faults.SameAttribute q) e r st su = absurd (omega (arith, r))
same_fault bytes (faults.SameAttribute p) faults.Memory e r st su = absurd su
same_fault bytes (faults.SameAttribute p) (faults.NotUtf8 q) e r st su = absurd (omega (arith, r))
same_fault bytes (faults.SameAttribute p) (faults.NotItem q) e r st su = absurd (omega (arith, r))
same_fault bytes (faults.SameAttribute p) (faults.Doctype q) e r st su = absurd (omega (arith, r))
same_fault bytes (faults.SameAttribute p) (faults.Unbalanced q) e r st su = absurd (omega (arith, r))
same_fault bytes (faults.SameAttribute p) (faults.TooDeep q) e r st su = absurd (omega (arith, r))
same_fault bytes (faults.SameAttribute p) (faults.NoSpace q) e r st su = absurd (omega (arith, r))
same_fault bytes (faults.SameAttribute p) (faults.SameAttribute q) e r st su = ap (λ n. faults.SameAttribute n) e
