-- A text is cut into items in one way.
use Rattle.std.proofs.Common.{◌≡◌, ℕ, ◌<◌, Bool, true, false, List, [], ◌∷◌, ◌++◌, length, Some, None, refl, sym, ap, ◌∙◌, append_assoc}
use Rattle.std.proofs.lemmas.List.{append_cancel_right}
use Rattle.xc_elements.specs.Fronts.{one, by_next}
use Rattle.xc_elements.specs.Items.{Meaning, item}
use Rattle.xc_elements.specs.Documents.{Piece, AreItems, joined_texts, Cuts, begins, OneCut, OneFault}
use Rattle.xc_elements.proofs.FrontLaws.{same_answer}
use Rattle.xc_elements.proofs.ItemLaws.{item_ends}
use Rattle.xc_elements.proofs.ReadLaws.{append-nil}

-- an item is read as the same, whatever follows it
pub item_goes_on : (is_first : Bool) (text more : List ℕ) (m : Meaning) → item is_first text ≡ Some (m, []) → item is_first (text ++ more) ≡ Some (m, more)
item_goes_on is_first text more m e =
    let t = (item_ends is_first).taken text m [] e in
    ap (λ (x : List ℕ). item is_first (x ++ more)) (t.whole ∙ append-nil t.piece) ∙ t.again more

-- what is read at the front of a text is a piece of it that is that item
pub item_piece : (is_first : Bool) (text rest : List ℕ) (m : Meaning) → item is_first text ≡ Some (m, rest) → (piece : List ℕ) × (text ≡ piece ++ rest) × (item is_first piece ≡ Some (m, [])) × (0 < length piece)
item_piece is_first text rest m e =
    let t = (item_ends is_first).taken text m rest e in
    (t.piece, t.whole, ap (λ (x : List ℕ). item is_first x) (sym (append-nil t.piece)) ∙ t.again [], t.some)

abbrev pub piece_of : List ℕ → Meaning → Piece
piece_of text m = record { text = text; meaning = m }

-- the first pieces of two cuts are one, and what follows them too
pub same_piece : (is_first : Bool) (p q : Piece) (x y : List ℕ) → item is_first p.text ≡ Some (p.meaning, []) → item is_first q.text ≡ Some (q.meaning, []) → p.text ++ x ≡ q.text ++ y → (p ≡ q) × (x ≡ y)
same_piece is_first p q x y hp hq e =
    let same = same_answer p.meaning q.meaning x y (sym (item_goes_on is_first p.text x p.meaning hp) ∙ ap (λ (t : List ℕ). item is_first t) e ∙ item_goes_on is_first q.text y q.meaning hq) in
    let texts : p.text ≡ q.text = append_cancel_right p.text q.text y (ap (λ (t : List ℕ). p.text ++ t) (sym same.1) ∙ e) in
    (ap (λ (t : List ℕ). piece_of t p.meaning) texts ∙ ap (λ m. piece_of q.text m) same.0, same.1)

pub begins-false : (ps : List Piece) → begins false ps ≡ false
begins-false [] = refl
begins-false (p ∷ ps) = refl

pub stops_early : (is_first : Bool) (q : Piece) (qs : List Piece) (r s : List ℕ) → item is_first r ≡ None → item is_first q.text ≡ Some (q.meaning, []) → r ≡ joined_texts (q ∷ qs) ++ s → ⊥
stops_early is_first q qs r s stop here e =
    let goes = item_goes_on is_first q.text (joined_texts qs ++ s) q.meaning here in
    let both = sym stop ∙ ap (λ (t : List ℕ). item is_first t) (e ∙ append_assoc q.text (joined_texts qs) s) ∙ goes in
    cc

-- cuts that lead to a place where no item stands are one
cuts_same : (is_first : Bool) (ps qs : List Piece) (r s : List ℕ) → AreItems is_first ps → AreItems is_first qs → item (begins is_first ps) r ≡ None → item (begins is_first qs) s ≡ None → joined_texts ps ++ r ≡ joined_texts qs ++ s → (ps ≡ qs) × (r ≡ s)
cuts_same is_first [] [] r s ip iq sp sq e = (refl, e)
cuts_same is_first [] (q ∷ qs) r s ip iq sp sq e = absurd (stops_early is_first q qs r s sp iq.0 e)
cuts_same is_first (p ∷ ps) [] r s ip iq sp sq e = absurd (stops_early is_first p ps s r sq ip.0 (sym e))
cuts_same is_first (p ∷ ps) (q ∷ qs) r s ip iq sp sq e =
    let first = same_piece is_first p q (joined_texts ps ++ r) (joined_texts qs ++ s) ip.0 iq.0 (sym (append_assoc p.text (joined_texts ps) r) ∙ e ∙ append_assoc q.text (joined_texts qs) s) in
    let others = cuts_same false ps qs r s ip.1 iq.1 (ap (λ b. item b r) (begins-false ps) ∙ sp) (ap (λ b. item b s) (begins-false qs) ∙ sq) first.1 in
    (ap (λ x. x ∷ ps) first.0 ∙ ap (λ xs. q ∷ xs) others.0, others.1)

pub one_fault_holds : OneFault
one_fault_holds is_first text ps qs r s cp sp cq sq = cuts_same is_first ps qs r s cp.items cq.items sp sq (sym cp.whole ∙ cq.whole)

pub nothing_is_no_item : (is_first : Bool) → item is_first [] ≡ None
unfolding item by_next one
nothing_is_no_item is_first = refl

pub one_cut_holds : OneCut
one_cut_holds is_first text ps qs cp cq = (one_fault_holds is_first text ps qs [] [] cp (nothing_is_no_item (begins is_first ps)) cq (nothing_is_no_item (begins is_first qs))).0

-- ---- a loop over the items of a text

pub items_more : (is_first : Bool) (ps : List Piece) (p : Piece) → AreItems is_first ps → item (begins is_first ps) p.text ≡ Some (p.meaning, []) → AreItems is_first (ps ++ p ∷ [])
items_more is_first [] p h e = (e, tt)
items_more is_first (q ∷ qs) p h e = (h.0, items_more false qs p h.1 (ap (λ b. item b p.text) (begins-false qs) ∙ e))

pub joined_more : (ps : List Piece) (text : List ℕ) (m : Meaning) (after : List ℕ) → joined_texts (ps ++ piece_of text m ∷ []) ++ after ≡ joined_texts ps ++ (text ++ after)
joined_more [] text m after = ap (λ (t : List ℕ). t ++ after) (append-nil text)
joined_more (q ∷ qs) text m after =
    append_assoc q.text (joined_texts (qs ++ piece_of text m ∷ [])) after ∙ ap (λ (t : List ℕ). q.text ++ t) (joined_more qs text m after) ∙ sym (append_assoc q.text (joined_texts qs) (text ++ after))

pub begun : (ps : List Piece) (p : Piece) → begins true (ps ++ p ∷ []) ≡ false
begun [] p = refl
begun (q ∷ qs) p = refl
