-- What is written where the joint question is settled: that values exist or not, why, and the certificate.
use Rattle.std.specs.Prelude.{ℕ, ◌==◌, ◌||◌, Bool, List, ◌++◌, filter, codes, decimal}
use Rattle.std.specs.List.{list_any, flat_map, enumerate_from}
use Rattle.xc_cert.specs.Certificates.{certificate_text}
use Rattle.xc_lines.specs.Lines.{printed_text}
use Rattle.xc_model.specs.Ratio.{Ratio}
use Rattle.xc_report.specs.declared.reports.Fact.{Fact}
use Rattle.xc_system.specs.Kept.{Multipliers}
use Rattle.xc_system.specs.declared.types.Certificate.{Certificate}
use Rattle.xc_system.specs.declared.types.Certificate.TheVariants.{Feasible, Infeasible}

-- an end of this number is listed
abbrev pub is_listed : List (ℕ × Ratio) → ℕ → Bool
is_listed listed k = list_any (λ m. m.0 == k) listed

-- the refutation names the fact: by its low end, or by its high end
abbrev pub is_named : Multipliers → ℕ → Bool
is_named r k = is_listed r.lows k || is_listed r.highs k

-- a fact that is named, by its number and its id
abbrev pub because_line : ℕ → List ℕ → List ℕ
because_line number id = codes "because fact " ++ decimal number ++ codes " " ++ printed_text id ++ codes "\n"

-- the lines of those of these facts that are named, each behind its number
abbrev pub because_lines : Multipliers → List (ℕ × Fact) → List ℕ
because_lines r facts = flat_map (λ numbered. because_line numbered.0 numbered.1.id) (filter (λ numbered. is_named r numbered.0) facts)

-- one value for each data point exists, as the certificate says; or none does, because of these facts, ascending and each once
abbrev pub settled_lines : List Fact → Certificate → List ℕ
settled_lines facts (Feasible values) = codes "joint feasible\n" ++ certificate_text (Feasible values)
settled_lines facts (Infeasible r) = codes "joint infeasible\n" ++ because_lines r (enumerate_from 0 facts) ++ certificate_text (Infeasible r)
