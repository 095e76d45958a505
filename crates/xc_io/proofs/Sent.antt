-- A piece that is being written: a beginning of it is written, and the rest is not.
use Rattle.std.proofs.Common.{◌≡◌, ℕ, ◌≤◌, List, [], ◌++◌, length, take, drop, refl, sym, ◌∙◌, ap, subst, arith, append_assoc, append-nil, length-append, Option}
use Rattle.std.proofs.lemmas.List.{take-append-drop, take_at}
use Rattle.std.specs.Io.KnownBytes.{Appends, Keeps}
use Rattle.std.proofs.KnownBytes.{Appends-nil, Appends-trans, Appends-kept}
use Rattle.xc_io.specs.Sink.{AppendsPrefix}

-- these known bytes were the old ones, a beginning of the piece is appended, and this rest is left
pub record Sent (old new : Option (List ℕ)) (piece rest : List ℕ) : Type 0 where
  pub done : List ℕ
  pub cut : piece ≡ done ++ rest
  pub sent : Appends old new done

-- nothing is written yet
pub sent_none : (old : Option (List ℕ)) (piece : List ℕ) → Sent old old piece piece
sent_none old piece = record { done = []; cut = refl; sent = Appends-nil old }

-- the writer took a count of what is left
pub sent_more : (old mid new : Option (List ℕ)) (piece rest : List ℕ) (count : ℕ) → Sent old mid piece rest → Appends mid new (take count rest) → Sent old new piece (drop count rest)
sent_more old mid new piece rest count s more = record {
  done = s.done ++ take count rest;
  cut = s.cut ∙ ap (λ r. s.done ++ r) (sym (take-append-drop count rest)) ∙ sym (append_assoc s.done (take count rest) (drop count rest));
  sent = Appends-trans old mid new s.done (take count rest) s.sent more;
}

-- nothing is left
pub sent_all : (old new : Option (List ℕ)) (piece rest : List ℕ) → Sent old new piece rest → rest ≡ [] → Appends old new piece
sent_all old new piece rest s e = subst (λ p. Appends old new p) (sym (s.cut ∙ ap (λ r. s.done ++ r) e ∙ append-nil s.done)) s.sent

-- the writer took nothing more
pub sent_part : (old mid new : Option (List ℕ)) (piece rest : List ℕ) → Sent old mid piece rest → Appends mid new [] → AppendsPrefix old new piece
sent_part old mid new piece rest s more =
    let bound : length s.done ≤ length piece = omega (arith, ap length s.cut, length-append s.done rest) in
    let front : take (length s.done) piece ≡ s.done = ap (λ p. take (length s.done) p) s.cut ∙ take_at s.done rest (length s.done) refl in
    (length s.done, bound, subst (λ d. Appends old new d) (append-nil s.done ∙ sym front) (Appends-trans old mid new s.done [] s.sent more))

-- a write that failed took nothing
pub appends_nothing : (old new : Option (List ℕ)) (piece : List ℕ) → Keeps old new → Appends old new (take 0 piece)
appends_nothing old new piece k = Appends-kept old old new [] (Appends-nil old) k
