-- A corner is a conflict in one way, with the same multipliers whatever its solved form; and no feasible corner is one.
use Rattle.std.proofs.Common.{◌≡◌, ◌⊎◌, ℕ, ◌+◌, ◌<◌, ◌≤◌, ◌==◌, Bool, true, false, cond, ℤ, pos, neg_ℤ, ◌*ℤ◌, ◌<ℤ◌, List, length, get_or, inl, inr, refl, sym, ap, ap₂, subst, ◌∙◌, arith}
use Rattle.std.proofs.lemmas.Bool.{eqb-true}
use Rattle.std.proofs.lemmas.Int.{ints, by_lt_z}
use Rattle.std.proofs.lemmas.List.{get_or_past}
use Rattle.std.proofs.lemmas.List.Elements.{recursion_from_All}
use Rattle.xc_corners.specs.Choices.{IsConflict, IsFeasible, Leaves}
use Rattle.xc_corners.specs.Conflicts.{AreLinesOf, AreMultipliersOf, AreOfConflict, IsPositive, IsNonzero, multiplier, opposite_if}
use Rattle.xc_corners.specs.Corners.{variables, low_bound, high_bound, Corner, Factors, IsSolvedForm}
use Rattle.xc_corners.specs.Laws.{HasOneSolvedForm}
use Rattle.xc_corners.specs.Pairs.{◌≼◌}
use Rattle.xc_corners.specs.Problems.{WholeProblem, IsWholeProblem, high_pair, low_pair, zero_range}
use Rattle.xc_corners.specs.declared.multipliers.Multipliers.{Multipliers}
use Rattle.xc_interval.specs.declared.interval.Interval.{Interval}
use Rattle.xc_joint.proofs.OneEnding.{over_once}
use Rattle.xc_joint.proofs.SameLines.{among_all, found, same_lines}
use Rattle.xc_joint.proofs.SolvedForms.{not_both_outside, not_outside, outside_too, within_too}
use Rattle.xc_lists.specs.Members.{IsIn}
use Rattle.xc_model.proofs.Integers.{cancel, mul_comm, neg-mul, ring, scale_lt, scale_le}
use Rattle.xc_model.proofs.LowestTerms.{one_lowest}
use Rattle.xc_model.specs.Ratio.{IsOver, Ratio, fraction_of}

-- ---- which variable leaves

module _ (one : HasOneSolvedForm) (p : WholeProblem) (is : IsWholeProblem p) (x : Corner) (t u : Factors) (st : IsSolvedForm p x t) (su : IsSolvedForm p x u) where
  -- the bounds of a variable are in order
  in_order : (j : ℕ) → low_bound p j ≼ high_bound p j
  unfolding low_bound high_bound
  in_order j = go (order j (length p.ranges))
    where
      order : (a b : ℕ) → (a < b) ⊎ (b ≤ a)
      order a b = grind arith

      go : (j < length p.ranges) ⊎ (length p.ranges ≤ j) → low_pair p.unit (get_or p.ranges j zero_range).low ≼ high_pair p.unit (get_or p.ranges j zero_range).high
      go (inl l) = is.some j zero_range l
      go (inr l) = subst (λ (range : Interval ℤ). low_pair p.unit range.low ≼ high_pair p.unit range.high) (sym (get_or_past p.ranges j zero_range l)) (inr (refl, omega (arith, ints)))

  pub not_both_ends : (above : Bool) (b : ℕ) → IsFeasible p x t → IsConflict p x u above b → ⊥
  not_both_ends above b f h = not_outside p x u above b h.leaves.outside (within_too one p x t u st su b h.leaves.is_variable (f.within b h.leaves.is_variable h.leaves.basic))

  no_earlier : (above over : Bool) (b d : ℕ) → Leaves p x t above b → Leaves p x u over d → b < d → ⊥
  no_earlier above over b d h k l = not_outside p x u above b (outside_too one p x t u st su above b h.is_variable h.outside) (k.least b l h.basic)

  pub same_side : (above over : Bool) (b : ℕ) → Leaves p x t above b → Leaves p x u over b → above ≡ over
  same_side false false b h k = refl
  same_side true true b h k = refl
  same_side false true b h k = absurd (not_both_outside p x u b su.positive (in_order b) (outside_too one p x t u st su false b h.is_variable h.outside) k.outside)
  same_side true false b h k = absurd (not_both_outside p x u b su.positive (in_order b) k.outside (outside_too one p x t u st su true b h.is_variable h.outside))

-- ---- what counts

scaled_neg : (a b n m : ℤ) → a *ℤ n ≡ b *ℤ m → neg_ℤ a *ℤ n ≡ neg_ℤ b *ℤ m
scaled_neg a b n m e = neg-mul a n ∙ ap neg_ℤ e ∙ sym (neg-mul b m)

module _ (n m : ℤ) (pn : pos 0 <ℤ n) (pm : pos 0 <ℤ m) (a b : ℤ) (same : a *ℤ n ≡ b *ℤ m) where
  positive_too : IsPositive a → IsPositive b
  positive_too h = by_lt_z (pos 0) b (λ l. l) (λ l. absurd (omega (arith, ints, same, mul_comm a n, mul_comm b m, scale_lt n (pos 0) a pn h, scale_le m b (pos 0) (omega (arith, ints, pm)) l)))

  some_too : IsNonzero a → IsNonzero b
  some_too h e = h (cancel n a (pos 0) (λ z. omega (arith, ints, pn, z)) (mul_comm n a ∙ same ∙ ap (λ (z : ℤ). z *ℤ m) e ∙ omega (arith, ints)))

-- ---- lines

-- one number over two
ratio_once : (f g : Ratio) (a b : ℤ) (d e : ℕ) → 0 < d → 0 < e → a *ℤ pos e ≡ b *ℤ pos d → IsOver f a d → IsOver g b e → f ≡ g
ratio_once f g a b d e pd pe same h k = one_lowest f g (record { cross = crossed })
  where
    moved : IsOver f b e
    moved = record { positive = pe; same = cancel (pos d) _ _ (λ z. omega (arith, ints, pd, z)) (turn f.num (pos d) (pos e) ∙ ap (λ (z : ℤ). pos e *ℤ z) h.same ∙ by a b f.den (pos d) (pos e) same) }
      where
        turn : (n d e : ℤ) → d *ℤ (n *ℤ e) ≡ e *ℤ (n *ℤ d)
        turn n d e = simp ring

        by : (a b f d e : ℤ) → a *ℤ e ≡ b *ℤ d → e *ℤ (a *ℤ f) ≡ d *ℤ (b *ℤ f)
        by a b f d e s = first a f e ∙ ap (λ (z : ℤ). z *ℤ f) s ∙ last b f d
          where
            first : (a f e : ℤ) → e *ℤ (a *ℤ f) ≡ (a *ℤ e) *ℤ f
            first a f e = simp ring

            last : (b f d : ℤ) → (b *ℤ d) *ℤ f ≡ d *ℤ (b *ℤ f)
            last b f d = simp ring

    crossed : (fraction_of f).num *ℤ pos (fraction_of g).den ≡ (fraction_of g).num *ℤ pos (fraction_of f).den
    crossed = (over_crosses f g b e moved k)
      where
        over_crosses : (f g : Ratio) (n : ℤ) (d : ℕ) → IsOver f n d → IsOver g n d → (fraction_of f).num *ℤ pos (fraction_of g).den ≡ (fraction_of g).num *ℤ pos (fraction_of f).den
        over_crosses f g n d h k = subst (λ (r : Ratio). (fraction_of f).num *ℤ pos (fraction_of r).den ≡ (fraction_of r).num *ℤ pos (fraction_of f).den) (over_once f g n d h k) refl

module _ (n : ℕ) (a b : ℕ → ℤ) (Counts : ℤ → Type 0) (d e : ℕ) (pd : 0 < d) (pe : 0 < e)
    (same : (j : ℕ) → j < n → a j *ℤ pos e ≡ b j *ℤ pos d) (counts : (j : ℕ) → j < n → Counts (a j) → Counts (b j)) where
  lines_there : (xs ys : List (ℕ × Ratio)) → AreLinesOf n a Counts d xs → AreLinesOf n b Counts e ys → (line : ℕ × Ratio) → IsIn line xs → IsIn line ys
  lines_there xs ys h k line i =
      let of = among_all (λ (l : ℕ × Ratio). Counts (a l.0) × IsOver l.1 (a l.0) d) xs line (recursion_from_All (λ (l : ℕ × Ratio). Counts (a l.0) × IsOver l.1 (a l.0) d) xs h.each) i in
      let below = among_all (λ (l : ℕ × Ratio). l.0 < n) xs line (recursion_from_All (λ (l : ℕ × Ratio). l.0 < n) xs h.listed.below) i in
      let there = found (λ (l : ℕ × Ratio). l.0 == line.0) ys (k.all line.0 below (counts line.0 below of.0)) in
      let number : there.item.0 ≡ line.0 = eqb-true there.item.0 line.0 there.passes in
      let other = among_all (λ (l : ℕ × Ratio). Counts (b l.0) × IsOver l.1 (b l.0) e) ys there.item (recursion_from_All (λ (l : ℕ × Ratio). Counts (b l.0) × IsOver l.1 (b l.0) e) ys k.each) there.there in
      subst (λ (l : ℕ × Ratio). IsIn l ys) (sym (whole line there.item (sym number)
      (ratio_once line.1 there.item.1 (a line.0) (b line.0) d e pd pe (same line.0 below) of.1 (subst (λ (m : ℕ). IsOver there.item.1 (b m) e) number other.1)))) there.there
    where
      whole : (l m : ℕ × Ratio) → l.0 ≡ m.0 → l.1 ≡ m.1 → l ≡ m
      whole l m e f = ap₂ (λ (k : ℕ) (r : Ratio). (k, r)) e f

module _ (n : ℕ) (a b : ℕ → ℤ) (Counts : ℤ → Type 0) (d e : ℕ) (pd : 0 < d) (pe : 0 < e)
    (same : (j : ℕ) → j < n → a j *ℤ pos e ≡ b j *ℤ pos d) (counts : (j : ℕ) → j < n → Counts (a j) → Counts (b j)) (back : (j : ℕ) → j < n → Counts (b j) → Counts (a j)) where
  lines_once : (xs ys : List (ℕ × Ratio)) → AreLinesOf n a Counts d xs → AreLinesOf n b Counts e ys → xs ≡ ys
  lines_once xs ys h k = same_lines xs ys h.listed.ascend k.listed.ascend
      (λ line i. lines_there n a b Counts d e pd pe same counts xs ys h k line i)
      (λ line i. lines_there n b a Counts e d pe pd (λ j l. sym (same j l)) back ys xs k h line i)

-- ---- multipliers

abbrev multipliers_of : List (ℕ × Ratio) → List (ℕ × Ratio) → List (ℕ × Ratio) → Multipliers
multipliers_of rows lows highs = record { rows = rows; lows = lows; highs = highs }

module _ (p : WholeProblem) (a b : ℕ → ℤ) (d e : ℕ) (pd : 0 < d) (pe : 0 < e) (same : (j : ℕ) → j < variables p → a j *ℤ pos e ≡ b j *ℤ pos d) where
  range_below : (j : ℕ) → j < length p.ranges → j < variables p
  unfolding variables
  range_below j l = omega (arith, l)

  row_below : (i : ℕ) → i < length p.rows → length p.ranges + i < variables p
  unfolding variables
  row_below i l = omega (arith, l)

  positive_pos : (k : ℕ) → 0 < k → pos 0 <ℤ pos k
  positive_pos k h = omega (arith, ints, h)

  pub multipliers_once : (ms ns : Multipliers) → AreMultipliersOf p a d ms → AreMultipliersOf p b e ns → ms ≡ ns
  multipliers_once ms ns h k = λ i. multipliers_of (rows i) (lows i) (highs i)
    where
      rows : ms.rows ≡ ns.rows
      rows = lines_once (length p.rows) (λ i. a (length p.ranges + i)) (λ i. b (length p.ranges + i)) IsNonzero d e pd pe (λ i l. same (length p.ranges + i) (row_below i l))
          (λ i l. some_too (pos e) (pos d) (positive_pos e pe) (positive_pos d pd) _ _ (same (length p.ranges + i) (row_below i l)))
          (λ i l. some_too (pos d) (pos e) (positive_pos d pd) (positive_pos e pe) _ _ (sym (same (length p.ranges + i) (row_below i l))))
          ms.rows ns.rows h.rows k.rows

      lows : ms.lows ≡ ns.lows
      lows = lines_once (length p.ranges) a b IsPositive d e pd pe (λ j l. same j (range_below j l))
          (λ j l. positive_too (pos e) (pos d) (positive_pos e pe) (positive_pos d pd) _ _ (same j (range_below j l)))
          (λ j l. positive_too (pos d) (pos e) (positive_pos d pd) (positive_pos e pe) _ _ (sym (same j (range_below j l))))
          ms.lows ns.lows h.lows k.lows

      turned_same : (j : ℕ) → j < length p.ranges → neg_ℤ (a j) *ℤ pos e ≡ neg_ℤ (b j) *ℤ pos d
      turned_same j l = scaled_neg (a j) (b j) (pos e) (pos d) (same j (range_below j l))

      highs : ms.highs ≡ ns.highs
      highs = lines_once (length p.ranges) (λ j. neg_ℤ (a j)) (λ j. neg_ℤ (b j)) IsPositive d e pd pe turned_same
          (λ j l. positive_too (pos e) (pos d) (positive_pos e pe) (positive_pos d pd) _ _ (turned_same j l))
          (λ j l. positive_too (pos d) (pos e) (positive_pos d pd) (positive_pos e pe) _ _ (sym (turned_same j l)))
          ms.highs ns.highs h.highs k.highs

module _ (one : HasOneSolvedForm) (p : WholeProblem) (is : IsWholeProblem p) (x : Corner) (t u : Factors) (st : IsSolvedForm p x t) (su : IsSolvedForm p x u) where
  -- how often a variable counts, over either
  counts_same : (above : Bool) (b : ℕ) → b < variables p → x.basic b ≡ true → (j : ℕ) → j < variables p → multiplier x t above b j *ℤ pos u.over ≡ multiplier x u above b j *ℤ pos t.over
  unfolding multiplier
  counts_same above b lb eb j l = turn above _ _ (go (j == b) (x.basic j) refl)
    where
      turn : (above : Bool) (f g : ℤ) → f *ℤ pos u.over ≡ g *ℤ pos t.over → opposite_if above f *ℤ pos u.over ≡ opposite_if above g *ℤ pos t.over
      turn false f g e = e
      turn true f g e = scaled_neg f g (pos u.over) (pos t.over) e

      go : (here s : Bool) → x.basic j ≡ s → cond here (pos t.over) (cond s (pos 0) (neg_ℤ (t.factor b j))) *ℤ pos u.over ≡ cond here (pos u.over) (cond s (pos 0) (neg_ℤ (u.factor b j))) *ℤ pos t.over
      go true s e = mul_comm (pos t.over) (pos u.over)
      go false true e = omega (arith, ints)
      go false false e = scaled_neg (t.factor b j) (u.factor b j) (pos u.over) (pos t.over) (one p x t u b j st su lb l eb e)

  pub conflict_once : (above over : Bool) (b d : ℕ) (ms ns : Multipliers) → IsConflict p x t above b → AreOfConflict p x t above b ms → IsConflict p x u over d → AreOfConflict p x u over d ns → ms ≡ ns
  conflict_once above over b d ms ns h of_h k of_k = multipliers_once p (multiplier x t above b) (multiplier x u above b) t.over u.over st.positive su.positive (counts_same above b h.leaves.is_variable h.leaves.basic) ms ns of_h
      (subst (λ (c : Bool). AreOfConflict p x u c b ns) (sym sides) (subst (λ (j : ℕ). AreOfConflict p x u over j ns) (sym variables_same) of_k))
    where
      order : (m n : ℕ) → (m < n) ⊎ ((m ≡ n) ⊎ (n < m))
      order m n = grind arith

      variables_same : b ≡ d
      variables_same = go (order b d)
        where
          go : (b < d) ⊎ ((b ≡ d) ⊎ (d < b)) → b ≡ d
          go (inl l) = absurd (no_earlier one p is x t u st su above over b d h.leaves k.leaves l)
          go (inr (inl e)) = e
          go (inr (inr l)) = absurd (no_earlier one p is x u t su st over above d b k.leaves h.leaves l)

      sides : above ≡ over
      sides = same_side one p is x t u st su above over b h.leaves (subst (λ (j : ℕ). Leaves p x u over j) (sym variables_same) k.leaves)
