use Rattle.std.proofs.Common.{◌≡◌, ℕ, List, sym, ap, ◌∙◌}
use Rattle.std.specs.Prelude.{encode_utf8_all}
use Rattle.std.specs.Str.{chars, bytes_eq, IsUtf8}
use Rattle.std.proofs.lemmas.Str.{encodes-chars}
use Rattle.std.proofs.lemmas.Bool.Decides.{Decides-like, same_from_decides}
use Rattle.std.proofs.lemmas.Slice.Eq.{bytes_eq-Decides}
use Rattle.xc_elements.proofs.texts.same_text.Goals as goal

-- texts of the same characters have the same bytes
by_characters : (one other : List ℕ) → IsUtf8 one → IsUtf8 other → bytes_eq one other ≡ bytes_eq (chars one) (chars other)
by_characters one other u v =
    same_from_decides (bytes_eq one other) (bytes_eq (chars one) (chars other)) (bytes_eq-Decides one other)
    (Decides-like (bytes_eq (chars one) (chars other)) (λ e. sym (encodes-chars one u) ∙ ap encode_utf8_all e ∙ encodes-chars other v) (λ e. ap chars e) (bytes_eq-Decides (chars one) (chars other)))

pub returns : goal.returns
returns c = c.eq.ensures ∙ by_characters c.args.one.now c.args.other.now c.utf8.one c.utf8.other
