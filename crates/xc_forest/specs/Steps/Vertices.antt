-- A forest as a graph of vertices, each a point or a row, of which each has a span of values. The value of a row is its signed sum. Ends
-- and values are whole numbers, for a real and a tiny part, over one denominator.
use Rattle.std.specs.Prelude.{◌≡◌, ◌≢◌, ℕ, zero, suc, ◌⊎◌, Bool, true, false, List, [], ◌∷◌, ℤ, pos, negsuc, neg_ℤ, ◌+ℤ◌, ◌-ℤ◌, ◌*ℤ◌, ◌<ℤ◌, ◌≤ℤ◌, if◌then◌else◌}
use Rattle.xc_forest.specs.Forests.{Choice, Neither, Plus, Minus, IsUnit}
use Rattle.xc_lists.specs.Members.{IsIn}
use Rattle.xc_model.specs.Parts.{WholeParts, IsLessWhole}

infix 50 ◌≺◌ ◌≼◌
-- a is less than b
abbrev pub ◌≺◌ : WholeParts → WholeParts → Type 0
a ≺ b = IsLessWhole a b

-- a is at most b
abbrev pub ◌≼◌ : WholeParts → WholeParts → Type 0
a ≼ b = (a.real <ℤ b.real) ⊎ ((a.real ≡ b.real) × (a.tiny ≤ℤ b.tiny))

-- 0
abbrev pub no_parts : WholeParts
no_parts = record { real = pos 0; tiny = pos 0 }

-- the sum of f over a list of vertices
abbrev pub sum_over : List ℕ → (ℕ → ℤ) → ℤ
sum_over [] f = pos 0
sum_over (v ∷ vs) f = f v +ℤ sum_over vs f

-- the real (false) or the tiny part (true)
abbrev pub part : Bool → WholeParts → ℤ
part false a = a.real
part true a = a.tiny

-- all from one value to another
pub record Span : Type 0 where
  pub low : WholeParts
  pub high : WholeParts

-- 0 alone
abbrev pub no_span : Span
no_span = record { low = no_parts; high = no_parts }

-- the low end (false) or the high end (true)
abbrev pub end : Bool → Span → WholeParts
end false a = a.low
end true a = a.high

-- z is in the span
pub record IsWithin (a : Span) (z : WholeParts) : Type 0 where
  pub low : a.low ≼ z
  pub high : z ≼ a.high

-- a weight: 1, or -1 for a minus sign
abbrev pub weight : Bool → ℤ
weight false = pos 1
weight true = negsuc 0

-- what a choice of an end of a span is worth in a part
abbrev pub worth : Bool → Choice → Span → ℤ
worth c Neither a = pos 0
worth c (Plus e) a = part c (end e a)
worth c (Minus e) a = neg_ℤ (part c (end e a))

-- the weight of a point in a row, and 0 for any other two vertices
pub record Graph : Type 0 where
  pub is_row : ℕ → Bool
  pub weigh : ℕ → ℕ → ℤ
  pub rows : (r v : ℕ) → is_row r ≡ false → weigh r v ≡ pos 0
  pub points : (r v : ℕ) → is_row v ≡ true → weigh r v ≡ pos 0

-- x is a sum of signed ends, at most one of each vertex and none of v
pub record IsSumWithout (vs : List ℕ) (a : ℕ → Span) (v : ℕ) (x : WholeParts) : Type 0 where
  pub choice : ℕ → Choice
  pub free : choice v ≡ Neither
  pub is : (c : Bool) → part c x ≡ sum_over vs (λ u. worth c (choice u) (a u))

-- x is a sum of signed ends, at most one of each vertex
pub record IsSum (vs : List ℕ) (a : ℕ → Span) (x : WholeParts) : Type 0 where
  pub choice : ℕ → Choice
  pub is : (c : Bool) → part c x ≡ sum_over vs (λ u. worth c (choice u) (a u))

-- x is an end of the span
abbrev pub IsEnd : Span → WholeParts → Type 0
IsEnd a x = (e : Bool) × (x ≡ end e a)

-- values of the vertices vs: each within its span, each row the sum of its points, and each value an end of its vertex or a signed sum without it
pub record AreVertexValues (g : Graph) (vs : List ℕ) (a : ℕ → Span) (z : ℕ → WholeParts) : Type 0 where
  pub within : (v : ℕ) → IsIn v vs → IsWithin (a v) (z v)
  pub meets : (r : ℕ) → IsIn r vs → g.is_row r ≡ true → (c : Bool) → part c (z r) ≡ sum_over vs (λ p. g.weigh r p *ℤ part c (z p))
  pub signed : (v : ℕ) → IsIn v vs → IsEnd (a v) (z v) ⊎ IsSumWithout vs a v (z v)

-- the end that a multiplier names, with its sign: 1 the low end, -1 the high end
abbrev pub bound : Bool → ℤ → Span → ℤ
bound c (pos zero) a = pos 0
bound c (pos (suc n)) a = part c a.low
bound c (negsuc n) a = neg_ℤ (part c a.high)

-- multipliers that refute: the vertices' values times them add up to 0, and the ends that they name to more than 0
pub record Refutes (g : Graph) (vs : List ℕ) (a : ℕ → Span) (u : ℕ → ℤ) : Type 0 where
  pub unit : (v : ℕ) → IsUnit (u v)
  pub cancels : (p : ℕ) → IsIn p vs → g.is_row p ≡ false → u p +ℤ sum_over vs (λ r. g.weigh r p *ℤ u r) ≡ pos 0
  pub positive : no_parts ≺ record { real = sum_over vs (λ v. bound false (u v) (a v)); tiny = sum_over vs (λ v. bound true (u v) (a v)) }

-- the span of a row less weight times that of a point
abbrev pub row_without_point : Bool → Span → Span → Span
row_without_point false x y = record {
  low = record { real = x.low.real -ℤ y.high.real; tiny = x.low.tiny -ℤ y.high.tiny };
  high = record { real = x.high.real -ℤ y.low.real; tiny = x.high.tiny -ℤ y.low.tiny };
}
row_without_point true x y = record {
  low = record { real = x.low.real +ℤ y.low.real; tiny = x.low.tiny +ℤ y.low.tiny };
  high = record { real = x.high.real +ℤ y.high.real; tiny = x.high.tiny +ℤ y.high.tiny };
}

-- weight times a span
abbrev pub span_with_sign : Bool → Span → Span
span_with_sign false y = y
span_with_sign true y = record {
  low = record { real = neg_ℤ y.high.real; tiny = neg_ℤ y.high.tiny };
  high = record { real = neg_ℤ y.low.real; tiny = neg_ℤ y.low.tiny };
}

-- m holds exactly what x and y hold; its low end is that of y where the first test says so, and its high end where the second does
pub record IsMeet (low_second high_second : Bool) (x y m : Span) : Type 0 where
  pub low : m.low ≡ (if low_second then y.low else x.low)
  pub high : m.high ≡ (if high_second then y.high else x.high)
  pub above_first : x.low ≼ m.low
  pub above_second : y.low ≼ m.low
  pub below_first : m.high ≼ x.high
  pub below_second : m.high ≼ y.high

-- point p is left in no row but r, in which it has this weight
pub record IsLeafPoint (g : Graph) (vs : List ℕ) (p r : ℕ) (b : Bool) : Type 0 where
  pub point : g.is_row p ≡ false
  pub row : g.is_row r ≡ true
  pub left : IsIn r vs
  pub fresh : ¬ IsIn p vs
  pub weight : g.weigh r p ≡ weight b
  pub others : (q : ℕ) → IsIn q vs → q ≢ r → g.weigh q p ≡ pos 0

-- row r has no point left but p, with this weight
pub record IsLeafRow (g : Graph) (vs : List ℕ) (r p : ℕ) (b : Bool) : Type 0 where
  pub row : g.is_row r ≡ true
  pub point : g.is_row p ≡ false
  pub left : IsIn p vs
  pub fresh : ¬ IsIn r vs
  pub weight : g.weigh r p ≡ weight b
  pub others : (q : ℕ) → IsIn q vs → q ≢ p → g.weigh r q ≡ pos 0

-- v has no neighbour left
pub record IsAlone (g : Graph) (vs : List ℕ) (v : ℕ) : Type 0 where
  pub fresh : ¬ IsIn v vs
  pub above : (q : ℕ) → IsIn q vs → g.weigh q v ≡ pos 0
  pub below : (q : ℕ) → IsIn q vs → g.weigh v q ≡ pos 0

-- some value is in the span
abbrev pub IsNonempty : Span → Type 0
IsNonempty a = a.low ≼ a.high
