use Rattle.std.proofs.Common.{◌≡◌, ◌+◌, ◌<◌, ℕ, List, [], ◌∷◌, ◌++◌, length, get_or, drop, ap, sym, refl, ◌∙◌, append-nil, arith, rules, string_bytes}
use Rattle.std.specs.List.{flat_map}
use Rattle.std.specs.Str.{chars}
use Rattle.std.proofs.lemmas.Iterator.{YieldsList-from_chars}
use Rattle.std.proofs.lemmas.List.{at_drop_more, at_drop_all, length_push}
use Rattle.std.proofs.lemmas.Iterator.Consumers.{YieldsList-turn, YieldsList-end}
use Rattle.std.proofs.lemmas.Grind.{common_steps}
use Rattle.xc_lines.specs.Lines.{printed_text, printed_char}
use Rattle.xc_lines.proofs.Appended.{one_more}
use Rattle.xc_lines.proofs.texts.push_text.Goals as goal

next_printed : (cs : List ℕ) (n c : ℕ) → (n < length cs) × (c ≡ get_or cs n c) → flat_map printed_char (drop n cs) ≡ printed_char c ++ flat_map printed_char (drop (n + 1) cs)
next_printed cs n c h = at_drop_more (flat_map printed_char) cs n c h.0 ∙ ap (λ x. printed_char x ++ flat_map printed_char (drop (n + 1) cs)) (sym h.1)

printed_some : (text : List ℕ) → 0 < length text → printed_text text ≡ flat_map printed_char (chars text)
printed_some [] some = absurd (omega arith)
printed_some (byte ∷ bytes) some = refl

pub loop-c-preserved : goal.loop-c-preserved
loop-c-preserved c =
    let turn = YieldsList-turn (YieldsList-from_chars c.args.text.now c.utf8.text cc) c.loop-c.yielded _ c.loop-c.yielded_by _ _ c.in-Some.c c.in-Some.is c.next.ensures.steps in
    let grown : string_bytes c.push_char.new.out ≡ string_bytes c.loop-c.out ++ printed_char c.in-Some.c = search rules in
    rw (length_push c.loop-c.yielded c.in-Some.c) (one_more _ _ _ _ _ _ grown (next_printed _ _ _ turn) c.loop-c.invariant)

pub returns : goal.returns
returns c =
    let end = YieldsList-end (YieldsList-from_chars c.args.text.now c.utf8.text cc) c.loop-c.yielded _ c.loop-c.yielded_by _ _ c.in-None.is c.next.ensures.steps in
    let some : 0 < length c.args.text.now = grind (arith, common_steps) in
    let left : flat_map printed_char (drop (length c.loop-c.yielded) (chars c.args.text.now)) ≡ [] = at_drop_all (flat_map printed_char) (chars c.args.text.now) (length c.loop-c.yielded) (omega (arith, end.1)) in
    sym (append-nil _) ∙ ap (λ r. string_bytes c.loop-c.out ++ r) (sym left) ∙ c.loop-c.invariant ∙ ap (λ p. string_bytes c.args.out.now ++ p) (sym (printed_some _ some))
