use Rattle.std.proofs.Common.{◌-◌, ◌++◌, ◌∷◌, [], ◌∙◌, sym, ap, arith}
use Rattle.std.proofs.lemmas.List.{append-nil}
use Rattle.std.specs.Prelude.{encode_utf8, encode_utf8_all, string_bytes}
use Rattle.xc_elements.specs.Steps.Kept.{with_text}
use Rattle.xc_elements.proofs.OpenLaws.{last_with}
use Rattle.xc_elements.proofs.opens.Opens.add.Goals as goal

pub returns-in_ok-push : goal.returns-in_ok-push
returns-in_ok-push c =
    last_with c.self.inside.elements.items (c.len-count.result - 1) c.index_mut.result.now c.push.new.self (encode_utf8_all (c.args.c ∷ [])) (omega arith) c.index_mut.ensures.value (c.in_ok-push.ensures.bytes ∙ ap (λ t. string_bytes c.index_mut.result.now.text ++ t) (sym (append-nil (encode_utf8 c.args.c))))
    ∙ ap (λ ks. with_text (encode_utf8_all (c.args.c ∷ [])) ks) c.self.view_is
