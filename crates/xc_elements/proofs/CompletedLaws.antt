-- The nodes that are made of what the reader keeps and of the items that follow.
use Rattle.std.proofs.Common.{◌≡◌, ℕ, zero, suc, ◌+◌, ◌<◌, Bool, false, List, [], ◌∷◌, ◌++◌, length, get_or, set, refl, sym, ap, subst, ◌∙◌, append_assoc, arith}
use Rattle.std.specs.Prelude.{encode_utf8_all}
use Rattle.std.proofs.lemmas.List.{append-nil}
use Rattle.std.proofs.lemmas.Str.{encodes-append}
use Rattle.xc_elements.specs.Items.{Name, Pair, Meaning, Declaration, Start, Empty, End, Comment, Instruction, Section, Letter, Reference}
use Rattle.xc_elements.specs.Steps.Kept.{Kept, with_text, AreBelow}
use Rattle.xc_elements.specs.Elements.{begun, open_at, begun_inside, is_return, item_text, text_inside, nodes_from}
use Rattle.xc_elements.specs.Steps.Reading.{end_node, complete_nodes}
use Rattle.xc_elements.specs.declared.nodes.Node.{Node}

-- ---- items that neither begin nor end an element

pub record IsPlain (item : Meaning) : Type 0 where
  pub inside : (depth : ℕ) (after : List Meaning) → begun_inside depth (item ∷ after) ≡ begun_inside depth after
  pub here : (r : Bool) (after : List Meaning) → text_inside zero r (item ∷ after) ≡ item_text r item ++ text_inside zero (is_return item) after
  pub deeper : (depth : ℕ) (r : Bool) (after : List Meaning) → text_inside (suc depth) r (item ∷ after) ≡ text_inside (suc depth) (is_return item) after
  pub nodes : (before after : List Meaning) → nodes_from before (item ∷ after) ≡ nodes_from (item ∷ before) after
  pub still_open : (before : List Meaning) → open_at (item ∷ before) ≡ open_at before
  pub begins_none : (before : List Meaning) → begun (item ∷ before) ≡ begun before

pub plain_letter : (c : ℕ) → IsPlain (Letter c)
plain_letter c = record { inside = λ d after. refl; here = λ r after. refl; deeper = λ d r after. refl; nodes = λ b after. refl; still_open = λ b. refl; begins_none = λ b. refl }

pub plain_reference : (c : ℕ) → IsPlain (Reference c)
plain_reference c = record { inside = λ d after. refl; here = λ r after. refl; deeper = λ d r after. refl; nodes = λ b after. refl; still_open = λ b. refl; begins_none = λ b. refl }

pub plain_section : (text : List ℕ) → IsPlain (Section text)
plain_section text = record { inside = λ d after. refl; here = λ r after. refl; deeper = λ d r after. refl; nodes = λ b after. refl; still_open = λ b. refl; begins_none = λ b. refl }

pub plain_declaration : IsPlain Declaration
plain_declaration = record { inside = λ d after. refl; here = λ r after. refl; deeper = λ d r after. refl; nodes = λ b after. refl; still_open = λ b. refl; begins_none = λ b. refl }

pub plain_comment : IsPlain Comment
plain_comment = record { inside = λ d after. refl; here = λ r after. refl; deeper = λ d r after. refl; nodes = λ b after. refl; still_open = λ b. refl; begins_none = λ b. refl }

pub plain_instruction : IsPlain Instruction
plain_instruction = record { inside = λ d after. refl; here = λ r after. refl; deeper = λ d r after. refl; nodes = λ b after. refl; still_open = λ b. refl; begins_none = λ b. refl }

-- an element that is open outside the innermost does not see a plain item
plain_deeper : (item : Meaning) (p : IsPlain item) (depth : ℕ) (r : Bool) (after : List Meaning) (n : ℕ) (ks : List Kept) (ns : List Node) →
    complete_nodes (suc depth) r (item ∷ after) n ks ns ≡ complete_nodes (suc depth) (is_return item) after n ks ns
plain_deeper item p depth r after n [] ns = refl
plain_deeper item p depth r after n (k ∷ ks) ns =
    plain_deeper item p (suc depth) r after n ks _
    ∙ ap (λ m. complete_nodes (suc (suc depth)) (is_return item) after n ks (end_node k.number (n + m) (k.text ++ encode_utf8_all (text_inside (suc depth) r (item ∷ after))) ns)) (p.inside (suc depth) after)
    ∙ ap (λ t. complete_nodes (suc (suc depth)) (is_return item) after n ks (end_node k.number (n + begun_inside (suc depth) after) (k.text ++ encode_utf8_all t) ns)) (p.deeper depth r after)

-- the innermost element has the text of a plain item
pub completed_plain : (item : Meaning) (p : IsPlain item) (r : Bool) (after : List Meaning) (n : ℕ) (ks : List Kept) (ns : List Node) →
    complete_nodes zero r (item ∷ after) n ks ns ≡ complete_nodes zero (is_return item) after n (with_text (encode_utf8_all (item_text r item)) ks) ns
completed_plain item p r after n [] ns = refl
completed_plain item p r after n (k ∷ ks) ns =
    plain_deeper item p zero r after n ks _
    ∙ ap (λ m. complete_nodes (suc zero) (is_return item) after n ks (end_node k.number (n + m) (k.text ++ encode_utf8_all (text_inside zero r (item ∷ after))) ns)) (p.inside zero after)
    ∙ ap (λ t. complete_nodes (suc zero) (is_return item) after n ks (end_node k.number (n + begun_inside zero after) t ns))
    (ap (λ t. k.text ++ encode_utf8_all t) (p.here r after)
    ∙ ap (λ t. k.text ++ t) (encodes-append (item_text r item) (text_inside zero (is_return item) after))
    ∙ sym (append_assoc k.text (encode_utf8_all (item_text r item)) (encode_utf8_all (text_inside zero (is_return item) after))))

-- ---- tags

add-suc : (m n : ℕ) → m + suc n ≡ suc m + n
add-suc m n = omega arith

pub completed_start : (name : Name) (pairs : List Pair) (depth : ℕ) (r : Bool) (after : List Meaning) (n : ℕ) (ks : List Kept) (ns : List Node) →
    complete_nodes depth r (Start name pairs ∷ after) n ks ns ≡ complete_nodes (suc depth) false after (suc n) ks ns
completed_start name pairs depth r after n [] ns = refl
completed_start name pairs depth r after n (k ∷ ks) ns =
    completed_start name pairs (suc depth) r after n ks _
    ∙ ap (λ m. complete_nodes (suc (suc depth)) false after (suc n) ks (end_node k.number m (k.text ++ encode_utf8_all (text_inside (suc depth) false after)) ns)) (add-suc n (begun_inside (suc depth) after))

empty_deeper : (name : Name) (pairs : List Pair) (depth : ℕ) (r : Bool) (after : List Meaning) (n : ℕ) (ks : List Kept) (ns : List Node) →
    complete_nodes (suc depth) r (Empty name pairs ∷ after) n ks ns ≡ complete_nodes (suc depth) false after (suc n) ks ns
empty_deeper name pairs depth r after n [] ns = refl
empty_deeper name pairs depth r after n (k ∷ ks) ns =
    empty_deeper name pairs (suc depth) r after n ks _
    ∙ ap (λ m. complete_nodes (suc (suc depth)) false after (suc n) ks (end_node k.number m (k.text ++ encode_utf8_all (text_inside (suc depth) false after)) ns)) (add-suc n (begun_inside (suc depth) after))

pub completed_empty : (name : Name) (pairs : List Pair) (r : Bool) (after : List Meaning) (n : ℕ) (ks : List Kept) (ns : List Node) →
    complete_nodes zero r (Empty name pairs ∷ after) n ks ns ≡ complete_nodes zero false after (suc n) ks ns
completed_empty name pairs r after n [] ns = refl
completed_empty name pairs r after n (k ∷ ks) ns =
    empty_deeper name pairs zero r after n ks _
    ∙ ap (λ m. complete_nodes (suc zero) false after (suc n) ks (end_node k.number m (k.text ++ encode_utf8_all (text_inside zero false after)) ns)) (add-suc n (begun_inside zero after))

end_deeper : (name : Name) (depth : ℕ) (r : Bool) (after : List Meaning) (n : ℕ) (ks : List Kept) (ns : List Node) →
    complete_nodes (suc depth) r (End name ∷ after) n ks ns ≡ complete_nodes depth false after n ks ns
end_deeper name depth r after n [] ns = refl
end_deeper name depth r after n (k ∷ ks) ns = end_deeper name (suc depth) r after n ks _

-- the innermost element ends
pub completed_end : (name : Name) (r : Bool) (after : List Meaning) (n : ℕ) (k : Kept) (ks : List Kept) (ns : List Node) →
    complete_nodes zero r (End name ∷ after) n (k ∷ ks) ns ≡ complete_nodes zero false after n ks (end_node k.number n k.text ns)
completed_end name r after n k ks ns =
    end_deeper name zero r after n ks _
    ∙ ap (λ m. complete_nodes zero false after n ks (end_node k.number m (k.text ++ []) ns)) (omega arith)
    ∙ ap (λ (t : List ℕ). complete_nodes zero false after n ks (end_node k.number n t ns)) (append-nil k.text)

-- ---- one more node

ended_before : (number end : ℕ) (text : List ℕ) (ns ms : List Node) → number < length ns → end_node number end text (ns ++ ms) ≡ end_node number end text ns ++ ms
ended_before number end text [] ms h = absurd (omega arith)
ended_before zero end text (n ∷ ns) ms h = refl
ended_before (suc number) end text (n ∷ ns) ms h = ap (λ xs. n ∷ xs) (ended_before number end text ns ms (omega arith))

pub length-end_node : (number end : ℕ) (text : List ℕ) (ns : List Node) → length (end_node number end text ns) ≡ length ns
length-end_node number end text [] = refl
length-end_node zero end text (n ∷ ns) = refl
length-end_node (suc number) end text (n ∷ ns) = ap suc (length-end_node number end text ns)

pub completed_before : (depth : ℕ) (r : Bool) (after : List Meaning) (n : ℕ) (ks : List Kept) (ns ms : List Node) → AreBelow (length ns) ks →
    complete_nodes depth r after n ks (ns ++ ms) ≡ complete_nodes depth r after n ks ns ++ ms
completed_before depth r after n [] ns ms h = refl
completed_before depth r after n (k ∷ ks) ns ms h =
    let end = n + begun_inside depth after in
    let text = k.text ++ encode_utf8_all (text_inside depth r after) in
    ap (λ xs. complete_nodes (suc depth) r after n ks xs) (ended_before k.number end text ns ms h.0)
    ∙ completed_before (suc depth) r after n ks (end_node k.number end text ns) ms (subst (λ m. AreBelow m ks) (sym (length-end_node k.number end text ns)) h.1)

pub ended_last : (ns : List Node) (n : Node) (number end : ℕ) (text : List ℕ) → number ≡ length ns → end_node number end text (ns ++ n ∷ []) ≡ ns ++ end_node zero end text (n ∷ [])
ended_last [] n zero end text e = refl
ended_last [] n (suc number) end text e = absurd (omega arith)
ended_last (m ∷ ns) n zero end text e = absurd (omega arith)
ended_last (m ∷ ns) n (suc number) end text e = ap (λ xs. m ∷ xs) (ended_last ns n number end text (omega arith))

-- a node that is set in its place
pub ended_there : (ns : List Node) (n : Node) (number end : ℕ) (text : List ℕ) → number < length ns → n ≡ get_or ns number n →
    set ns number (record { space = n.space; local = n.local; attributes = n.attributes; declared = n.declared; parent = n.parent; end = end; text = text }) ≡ end_node number end text ns
ended_there [] n number end text h e = absurd (omega arith)
ended_there (m ∷ ns) n zero end text h e = ap (λ (x : Node). record { space = x.space; local = x.local; attributes = x.attributes; declared = x.declared; parent = x.parent; end = end; text = text } ∷ ns) e
ended_there (m ∷ ns) n (suc number) end text h e = ap (λ xs. m ∷ xs) (ended_there ns n number end text (omega arith) e)
