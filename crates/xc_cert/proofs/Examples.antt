-- The definitions on worked texts.
use Rattle.std.proofs.Common.{◌≡◌, [], ◌∷◌, refl, pos, negsuc}
use Rattle.std.specs.Prelude.{codes}
use Rattle.std.specs.Fmt.{digits}
use Rattle.xc_cert.specs.Certificates.{certificate_text}
use Rattle.xc_model.specs.Ratio.{IsLowest}
use Rattle.xc_system.specs.declared.types.Certificate.TheVariants.{Feasible, Infeasible}

-- two values, of which one is no whole number
values : (half : IsLowest (pos 101) (pos 2)) (less : IsLowest (negsuc 98) (pos 1))
    → certificate_text (Feasible (record { num = pos 101; den = pos 2; lowest = half } ∷ record { num = negsuc 98; den = pos 1; lowest = less } ∷ [])) ≡ codes "certificate 1\nfeasible\nvalue 0 101/2\nvalue 1 -99\nend\n"
unfolding digits
values half less = refl

-- two totals over the same contributors that do not agree
multipliers : (one : IsLowest (pos 1) (pos 1)) (less : IsLowest (negsuc 0) (pos 1))
    → certificate_text (Infeasible (record {
      bindings = (0, record { num = pos 1; den = pos 1; lowest = one }) ∷ (1, record { num = negsuc 0; den = pos 1; lowest = less }) ∷ [];
      lows = (3, record { num = pos 1; den = pos 1; lowest = one }) ∷ [];
      highs = (2, record { num = pos 1; den = pos 1; lowest = one }) ∷ [];
    }))
    ≡ codes "certificate 1\ninfeasible\nbinding 0 1\nbinding 1 -1\nlow 3 1\nhigh 2 1\nend\n"
unfolding digits
multipliers one less = refl

-- nothing is claimed
nothing_listed : certificate_text (Infeasible (record { bindings = []; lows = []; highs = [] })) ≡ codes "certificate 1\ninfeasible\nend\n"
nothing_listed = refl
