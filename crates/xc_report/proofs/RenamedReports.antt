-- Other numbers of names give facts that differ in the numbers of their concepts alone.
use Rattle.std.proofs.Common.{◌≡◌, ℕ, List, [], ◌∷◌, map, refl, sym, ap, ap₂, ◌∙◌}
use Rattle.xc_names.specs.declared.expanded.Expanded.{Expanded}
use Rattle.xc_report.specs.Dimensions.{key_number, distinct}
use Rattle.xc_report.specs.Laws.{AreKeysOfOne, KeysAreOfNames}
use Rattle.xc_report.specs.Numbered.{IsKeyed, AreKeyed, IsReport, keys_of, with_number, numbered_in}
use Rattle.xc_report.specs.declared.dimensions.Key.{Key}
use Rattle.xc_report.specs.declared.numbered.KeyedFact.{KeyedFact}
use Rattle.xc_report.specs.declared.reports.Report.{Report}
use Rattle.xc_report.specs.declared.stated.StatedFact.{StatedFact}
use Rattle.xc_report.proofs.KeyPatterns.{AreTogether, number_alike, distinct_together}
use Rattle.xc_report.specs.Renamed.{renamed_id, renamed_stated, renamed_fact}

module _ (f : ℕ → ℕ) (names others : List Expanded) where
  -- the keys of one list of facts belong together
  keys_together : (facts : List StatedFact) (one other : List KeyedFact) → AreKeyed names facts one → AreKeyed others (map (renamed_stated f) facts) other → AreTogether (AreKeysOfOne names others) (keys_of one) (keys_of other)
  keys_together [] [] [] h k = tt
  keys_together [] [] (b ∷ bs) h k = absurd k
  keys_together [] (a ∷ more) other h k = absurd h
  keys_together (fact ∷ facts) [] other h k = absurd h
  keys_together (fact ∷ facts) (a ∷ more) [] h k = absurd k
  keys_together (fact ∷ facts) (a ∷ more) (b ∷ bs) h k = ((fact.parts, h.0.key, k.0.key), keys_together facts more bs h.1 k.1)

  fact_renamed : (fact : StatedFact) (one other : KeyedFact) (m n : ℕ) → IsKeyed names fact one → IsKeyed others (renamed_stated f fact) other → n ≡ m → with_number n other ≡ renamed_fact f (with_number m one)
  fact_renamed fact one other m n h k e =
      let id : other.id ≡ one.id = k.id ∙ sym h.id in
      let concept : other.concept ≡ renamed_id f one.concept = k.concept ∙ sym (ap (renamed_id f) h.concept) in
      let value : other.value ≡ one.value = k.value ∙ sym h.value in
      let decimals : other.decimals ≡ one.decimals = k.decimals ∙ sym h.decimals in
      λ i. record { id = id i; concept = concept i; key = e i; value = value i; decimals = decimals i }

  module _ (alike : KeysAreOfNames) where
    facts_renamed : (ks ls : List Key) → AreTogether (AreKeysOfOne names others) ks ls → (facts : List StatedFact) (one other : List KeyedFact)
        → AreKeyed names facts one → AreKeyed others (map (renamed_stated f) facts) other → map (numbered_in ls) other ≡ map (renamed_fact f) (map (numbered_in ks) one)
    facts_renamed ks ls all [] [] [] h k = refl
    facts_renamed ks ls all [] [] (b ∷ bs) h k = absurd k
    facts_renamed ks ls all [] (a ∷ more) other h k = absurd h
    facts_renamed ks ls all (fact ∷ facts) [] other h k = absurd h
    facts_renamed ks ls all (fact ∷ facts) (a ∷ more) [] h k = absurd k
    facts_renamed ks ls all (fact ∷ facts) (a ∷ more) (b ∷ bs) h k =
        let number : key_number ks a.key ≡ key_number ls b.key = number_alike (AreKeysOfOne names others) (alike names others) a.key b.key ks ls (fact.parts, h.0.key, k.0.key) all in
        ap₂ (λ x xs. x ∷ xs) (fact_renamed fact a b (key_number ks a.key) (key_number ls b.key) h.0 k.0 (sym number)) (facts_renamed ks ls all facts more bs h.1 k.1)

-- two numberings of what facts state give facts that differ in the numbers of their concepts alone: they have the same numbers of keys
pub report_renamed : KeysAreOfNames → (f : ℕ → ℕ) (names others : List Expanded) (facts : List StatedFact) (report other : Report)
    → IsReport names facts report → IsReport others (map (renamed_stated f) facts) other
    → other.facts ≡ map (renamed_fact f) report.facts
report_renamed alike f names others facts report other h k =
    let together = keys_together f names others facts h.keyed k.keyed h.each k.each in
    let keys = distinct_together (AreKeysOfOne names others) (alike names others) (keys_of h.keyed) (keys_of k.keyed) together in
    k.facts_are
    ∙ facts_renamed f names others alike (distinct (keys_of h.keyed)) (distinct (keys_of k.keyed)) keys facts h.keyed k.keyed h.each k.each
    ∙ sym (ap (map (renamed_fact f)) h.facts_are)
