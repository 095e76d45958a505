use Rattle.std.proofs.Common.{◌≡◌, ◌<◌, ◌≤◌, ◌+◌, ◌⊎◌, inl, inr, ℕ, zero, suc, pos, List, [], ◌∷◌, length, get_or, true≢false, refl, sym, subst, ◌∙◌, arith}
use Rattle.std.proofs.lemmas.Bool.{cases_lt}
use Rattle.xc_interval.specs.Intervals.{frac_parts, numbers_of, pairs_of, HasNoNumber, HasNoPair}
use Rattle.xc_interval.specs.declared.ends.End.{End}
use Rattle.xc_interval.specs.declared.ends.End.TheVariants.{Closed, Open}
use Rattle.xc_interval.specs.declared.interval.Interval.{Interval}
use Rattle.xc_model.specs.Fraction.{whole}
use Rattle.xc_model.specs.Ratio.{Ratio}
use Rattle.xc_model.proofs.Numbers.{same-refl}
use Rattle.xc_shown.proofs.walks.have_values.Goals as goal

-- ends that leave no number leave no pair
no_pair : (l h : End Ratio) → HasNoNumber (numbers_of (record { low = l; high = h })) → HasNoPair (pairs_of frac_parts (record { low = l; high = h }))
no_pair (Closed l) (Closed h) (inl below) = inl (inl below)
no_pair (Closed l) (Closed h) (inr same) = inr (record { real = same.0; tiny = same-refl (whole (pos 0)) }, same.1)
no_pair (Closed l) (Open h) (inl below) = inl (inl below)
no_pair (Closed l) (Open h) (inr same) = inr (record { real = same.0; tiny = same-refl (whole (pos 0)) }, same.1)
no_pair (Open l) (Closed h) (inl below) = inl (inl below)
no_pair (Open l) (Closed h) (inr same) = inr (record { real = same.0; tiny = same-refl (whole (pos 0)) }, same.1)
no_pair (Open l) (Open h) (inl below) = inl (inl below)
no_pair (Open l) (Open h) (inr same) = inr (record { real = same.0; tiny = same-refl (whole (pos 0)) }, same.1)

-- what is read inside does not depend on what is read outside
read_alike : {X : Type 0} (xs : List X) (k : ℕ) (d e : X) → k < length xs → get_or xs k d ≡ get_or xs k e
read_alike [] k d e h = absurd (omega (arith, h))
read_alike (x ∷ xs) zero d e h = refl
read_alike (x ∷ xs) (suc k) d e h = read_alike xs k d e (omega (arith, h))

pub loop-place-preserved : goal.loop-place-preserved
loop-place-preserved c = record { some = λ k d h. go k d h (cases_lt k c.loop-place.place) }
  where
    range : Interval Ratio
    range = c.index-ranges-place.result

    some : ¬ HasNoNumber (numbers_of range)
    some none = true≢false (sym (c.if-is_empty.ensures.ends.1 (no_pair range.low range.high none)))

    go : (k : ℕ) (d : Interval Ratio) → k < c.loop-place.place + 1 → ((k < c.loop-place.place) ⊎ (c.loop-place.place ≤ k)) → ¬ HasNoNumber (numbers_of (get_or c.args.ranges.now k d))
    go k d h (inl less) = c.loop-place.invariant.some k d less
    go k d h (inr more) =
        let same : c.loop-place.place ≡ k = omega (arith, h, more) in
        subst (λ j. ¬ HasNoNumber (numbers_of (get_or c.args.ranges.now j d))) same
        (subst (λ i. ¬ HasNoNumber (numbers_of i)) (c.index-ranges-place.is ∙ read_alike c.args.ranges.now c.loop-place.place range d c.loop-place-test.true) some)
