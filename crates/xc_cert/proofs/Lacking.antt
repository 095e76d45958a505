-- Bytes that do not stand in a fraction's text.
use Rattle.std.proofs.Common.{ℕ, suc, ◌<◌, ◌^◌, ℤ, pos, negsuc, Bool, true, false, cond, [], ◌++◌, arith, lit<}
use Rattle.std.specs.Prelude.{◌==◌, decimal, unsigned_abs, codes}
use Rattle.std.specs.Fmt.{signed_decimal}
use Rattle.xc_decimal.specs.Spelling.{spelling, denominator_text}
use Rattle.xc_lists.proofs.Lacking.{decimal_lacks, lacks_append}
use Rattle.xc_lists.specs.Members.{Lacks}
use Rattle.xc_model.specs.Ratio.{Ratio}

module _ (byte : ℕ) (low : byte < 45) where
  signed_lacks : (z : ℤ) → unsigned_abs z < 10 ^ 64 → Lacks byte (signed_decimal z)
  signed_lacks (pos n) small = decimal_lacks byte low n small
  signed_lacks (negsuc n) small = (λ e. omega (arith, low, e), decimal_lacks byte low (suc n) small)

  denominator_lacks : (den : ℕ) (one : Bool) → den < 10 ^ 64 → Lacks byte (cond one [] (codes "/" ++ decimal den))
  denominator_lacks den true small = tt
  denominator_lacks den false small = (λ e. omega (arith, low, e), decimal_lacks byte low den small)

  narrow : (n : ℕ) → n < 2 ^ 127 → n < 10 ^ 64
  narrow n h = let more : 2 ^ 127 < 10 ^ 64 = lit< tt in omega (arith, h, more)

  -- a fraction is spelled with digits, `-` and `/`
  pub spelling_lacks : (f : Ratio) → Lacks byte (spelling f)
  spelling_lacks f =
      lacks_append byte (signed_decimal f.num) (denominator_text (unsigned_abs f.den))
      (signed_lacks f.num (narrow _ f.lowest.num_narrow))
      (denominator_lacks (unsigned_abs f.den) (unsigned_abs f.den == 1) (narrow _ f.lowest.den_narrow))
