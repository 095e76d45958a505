use Rattle.std.proofs.Common.{◌≡◌, ℕ, ◌≤◌, ◌<◌, List, [], ◌∷◌, length, true, sym, ◌∙◌, arith, slice_index}
use Rattle.std.proofs.lemmas.Str.{lead_after_ascii}
use Rattle.std.proofs.lemmas.Bool.Decides.{nat_tests}
use Rattle.xc_top.specs.Words.{is_signed}
use Rattle.xc_top.proofs.words.name_of.Goals as goal

-- a sign is one byte
sign_is_ascii : (bs : List ℕ) → is_signed bs ≡ true → (1 ≤ length bs) × (slice_index bs 0 < 128)
sign_is_ascii [] h = absurd (cc)
sign_is_ascii (x ∷ xs) h = grind (arith, nat_tests)

pub range_from-requires : goal.range_from-requires
range_from-requires c = λ _.
    let signed : is_signed c.args.term.now ≡ true = sym c.is_signed.ensures ∙ c.if-is_signed.true in
    let ascii = sign_is_ascii c.args.term.now signed in
    (ascii.0, λ longer high. lead_after_ascii c.args.term.now 0 c.utf8.term ascii.1 longer high)
