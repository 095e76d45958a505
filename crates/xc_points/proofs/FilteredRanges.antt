-- What filters give of a range of numbers.
use Rattle.std.proofs.Common.{◌≡◌, ◌≢◌, ℕ, suc, zero, ◌+◌, ◌<◌, ◌≤◌, ◌==◌, ◌||◌, Bool, true, false, cond, List, [], ◌∷◌, Option, Some, None, slice_get, option_map, map, arith, refl, sym, ap, ◌∙◌, true≢false}
use Rattle.std.proofs.lemmas.Bool.{eqb-true, eq-eqb}
use Rattle.std.proofs.lemmas.Option.{none-some}
use Rattle.std.specs.List.{filter, filter_map, cons_option, range_with_len, list_any}

-- whether the number is one of these
abbrev pub is_in : ℕ → List ℕ → Bool
is_in f fs = list_any (λ g. g == f) fs

-- a number in the range that the filter keeps
pub record IsKept (p : ℕ → Bool) (a n f : ℕ) : Type 0 where
  pub low : a ≤ f
  pub high : f < a + n
  pub passes : p f ≡ true

is_other : (a f : ℕ) → (a == f) ≡ false → a ≢ f
is_other a f e same = true≢false (sym (eq-eqb a f same) ∙ e)

one_later : (p : ℕ → Bool) (a n f : ℕ) → IsKept p (a + 1) n f → IsKept p a (suc n) f
one_later p a n f k = let low = k.low in let high = k.high in record { low = omega arith; high = omega arith; passes = k.passes }

kept_here : (p : ℕ → Bool) (a n f : ℕ) (l : List ℕ) (t : Bool) → (is_in f l ≡ true → IsKept p a (suc n) f) → p a ≡ true → (a == f) ≡ t → (t || is_in f l) ≡ true → IsKept p a (suc n) f
kept_here p a n f l true rest e t any = let same = eqb-true a f t in record { low = omega arith; high = omega arith; passes = ap p (sym same) ∙ e }
kept_here p a n f l false rest e t any = rest any

kept_first : (p : ℕ → Bool) (a n f : ℕ) (l : List ℕ) (b : Bool) → (is_in f l ≡ true → IsKept p a (suc n) f) → p a ≡ b → is_in f (cond b (a ∷ l) l) ≡ true → IsKept p a (suc n) f
kept_first p a n f l true rest e any = kept_here p a n f l (a == f) rest e refl any
kept_first p a n f l false rest e any = rest any

-- a number among what the filter keeps is in the range, and passes
pub kept_of_any : (p : ℕ → Bool) (a n f : ℕ) → is_in f (filter p (range_with_len a n)) ≡ true → IsKept p a n f
kept_of_any p a zero f any = absurd (true≢false (sym any))
kept_of_any p a (suc n) f any = kept_first p a n f (filter p (range_with_len (a + 1) n)) (p a) (λ h. one_later p a n f (kept_of_any p (a + 1) n f h)) refl any

any_here : (a f : ℕ) (l : List ℕ) (t : Bool) → (a ≢ f → is_in f l ≡ true) → (a == f) ≡ t → (t || is_in f l) ≡ true
any_here a f l true rest t = refl
any_here a f l false rest t = rest (is_other a f t)

any_first : (p : ℕ → Bool) (a f : ℕ) (l : List ℕ) (b : Bool) → (a ≢ f → is_in f l ≡ true) → p f ≡ true → p a ≡ b → is_in f (cond b (a ∷ l) l) ≡ true
any_first p a f l true rest passes e = any_here a f l (a == f) rest refl
any_first p a f l false rest passes e = rest (λ same. true≢false (sym passes ∙ ap p (sym same) ∙ e))

-- a number in the range that passes is among what the filter keeps
pub any_of_kept : (p : ℕ → Bool) (a n f : ℕ) → IsKept p a n f → is_in f (filter p (range_with_len a n)) ≡ true
any_of_kept p a zero f k = let low = k.low in let high = k.high in absurd (omega arith)
any_of_kept p a (suc n) f k =
    let low = k.low in
    let high = k.high in
    any_first p a f (filter p (range_with_len (a + 1) n)) (p a) (λ other. any_of_kept p (a + 1) n f (record { low = omega arith; high = omega arith; passes = k.passes })) k.passes refl

-- so where one passes, something is kept
pub kept_some : (p : ℕ → Bool) (a n f : ℕ) → IsKept p a n f → filter p (range_with_len a n) ≢ []
kept_some p a n f k none = true≢false (sym (any_of_kept p a n f k) ∙ ap (λ l. is_in f l) none)

-- tests that agree in the range keep the same of it
pub filter_congr : (p q : ℕ → Bool) (a n : ℕ) → ((i : ℕ) → a ≤ i → i < a + n → p i ≡ q i) → filter p (range_with_len a n) ≡ filter q (range_with_len a n)
filter_congr p q a zero h = refl
filter_congr p q a (suc n) h =
    ap (λ t. cond t (a ∷ filter p (range_with_len (a + 1) n)) (filter p (range_with_len (a + 1) n))) (h a (omega arith) (omega arith))
    ∙ ap (λ l. cond (q a) (a ∷ l) l) (filter_congr p q (a + 1) n (λ i low high. h i (omega arith) (omega arith)))

-- a test that nothing passes keeps nothing
pub filter_none : (a n : ℕ) → filter (λ i. false) (range_with_len a n) ≡ []
filter_none a zero = refl
filter_none a (suc n) = filter_none (a + 1) n

-- what is found of a range at some place was found at a number of the range
pub record IsFoundAt {X : Type 0} (h : ℕ → Option X) (a n : ℕ) (x : X) : Type 0 where
  pub number : ℕ
  pub low : a ≤ number
  pub high : number < a + n
  pub is : h number ≡ Some x

found_later : {X : Type 0} (h : ℕ → Option X) (a n : ℕ) (x : X) → IsFoundAt h (a + 1) n x → IsFoundAt h a (suc n) x
found_later h a n x f = let low = f.low in let high = f.high in record { number = f.number; low = omega arith; high = omega arith; is = f.is }

found_first : {X : Type 0} (h : ℕ → Option X) (a n : ℕ) (l : List X) (o : Option X) (k : ℕ) (x : X) → ((j : ℕ) → slice_get l j ≡ Some x → IsFoundAt h a (suc n) x) → h a ≡ o → slice_get (cons_option o l) k ≡ Some x → IsFoundAt h a (suc n) x
found_first h a n l None k x rest e at = rest k at
found_first h a n l (Some y) zero x rest e at = record { number = a; low = omega arith; high = omega arith; is = e ∙ at }
found_first h a n l (Some y) (suc k) x rest e at = rest k at

pub found_at : {X : Type 0} (h : ℕ → Option X) (a n k : ℕ) (x : X) → slice_get (filter_map h (range_with_len a n)) k ≡ Some x → IsFoundAt h a n x
found_at h a zero k x at = absurd (none-some x at)
found_at h a (suc n) k x at = found_first h a n (filter_map h (range_with_len (a + 1) n)) (h a) k x (λ j e. found_later h a n x (found_at h (a + 1) n j x e)) refl at

place_here : {X : Type 0} (h : ℕ → Option X) (a i : ℕ) (l : List X) (x y : X) (t : Bool) → (a ≢ i → (k : ℕ) × (slice_get l k ≡ Some x)) → h i ≡ Some x → h a ≡ Some y → (a == i) ≡ t → (k : ℕ) × (slice_get (y ∷ l) k ≡ Some x)
place_here h a i l x y true rest is e t = (zero, sym e ∙ ap h (eqb-true a i t) ∙ is)
place_here h a i l x y false rest is e t = let later = rest (is_other a i t) in (suc later.0, later.1)

place_first : {X : Type 0} (h : ℕ → Option X) (a i : ℕ) (l : List X) (o : Option X) (x : X) → (a ≢ i → (k : ℕ) × (slice_get l k ≡ Some x)) → h i ≡ Some x → h a ≡ o → (k : ℕ) × (slice_get (cons_option o l) k ≡ Some x)
place_first h a i l None x rest is e = rest (λ same. none-some x (sym e ∙ ap h same ∙ is))
place_first h a i l (Some y) x rest is e = place_here h a i l x y (a == i) rest is e refl

-- what is found at a number of the range has a place
pub place_of_found : {X : Type 0} (h : ℕ → Option X) (a n : ℕ) (x : X) → IsFoundAt h a n x → (k : ℕ) × (slice_get (filter_map h (range_with_len a n)) k ≡ Some x)
place_of_found h a zero x f = let low = f.low in let high = f.high in absurd (omega arith)
place_of_found h a (suc n) x f =
    let low = f.low in
    let high = f.high in
    place_first h a f.number (filter_map h (range_with_len (a + 1) n)) (h a) x
    (λ other. place_of_found h (a + 1) n x (record { number = f.number; low = omega arith; high = omega arith; is = f.is })) f.is refl

-- what is alike is found at one number
abbrev pub FindsAlikeOnce : {X : Type 0} → (ℕ → Option X) → (X → X → Type 0) → Type 0
FindsAlikeOnce {X} h Alike = (i j : ℕ) (x y : X) → h i ≡ Some x → h j ≡ Some y → Alike x y → i ≡ j

apart_first : {X : Type 0} (h : ℕ → Option X) (Alike : X → X → Type 0) (a n : ℕ) (o : Option X) (j k : ℕ) (x y : X) → FindsAlikeOnce h Alike
    → ((j k : ℕ) → slice_get (filter_map h (range_with_len (a + 1) n)) j ≡ Some x → slice_get (filter_map h (range_with_len (a + 1) n)) k ≡ Some y → j ≡ k)
    → h a ≡ o → slice_get (cons_option o (filter_map h (range_with_len (a + 1) n))) j ≡ Some x → slice_get (cons_option o (filter_map h (range_with_len (a + 1) n))) k ≡ Some y → Alike x y → j ≡ k
apart_first h Alike a n None j k x y once rest e at_j at_k alike = rest j k at_j at_k
apart_first h Alike a n (Some z) zero zero x y once rest e at_j at_k alike = refl
apart_first h Alike a n (Some z) zero (suc k) x y once rest e at_j at_k alike =
    let later = found_at h (a + 1) n k y at_k in
    let low = later.low in
    let same = once a later.number x y (e ∙ at_j) later.is alike in
    absurd (omega arith)
apart_first h Alike a n (Some z) (suc j) zero x y once rest e at_j at_k alike =
    let later = found_at h (a + 1) n j x at_j in
    let low = later.low in
    let same = once later.number a x y later.is (e ∙ at_k) alike in
    absurd (omega arith)
apart_first h Alike a n (Some z) (suc j) (suc k) x y once rest e at_j at_k alike = ap suc (rest j k at_j at_k)

-- so it has one place
pub found_once : {X : Type 0} (h : ℕ → Option X) (Alike : X → X → Type 0) (a n j k : ℕ) (x y : X) → FindsAlikeOnce h Alike
    → slice_get (filter_map h (range_with_len a n)) j ≡ Some x → slice_get (filter_map h (range_with_len a n)) k ≡ Some y → Alike x y → j ≡ k
found_once h Alike a zero j k x y once at_j at_k alike = absurd (none-some x at_j)
found_once h Alike a (suc n) j k x y once at_j at_k alike =
    apart_first h Alike a n (h a) j k x y once (λ j k e f. found_once h Alike (a + 1) n j k x y once e f alike) refl at_j at_k alike

made_option : {X Y : Type 0} (f : X → Y) (o : Option X) (l : List X) → cons_option (option_map f o) (map f l) ≡ map f (cons_option o l)
made_option f None l = refl
made_option f (Some x) l = refl

-- what is found of what is made of each number of a range, where it is made of what another finds at that number
pub found_of_made : {X Y Z : Type 0} (h : Y → Option Z) (m : ℕ → Y) (g : ℕ → Option X) (f : X → Z) (a n : ℕ) → ((i : ℕ) → a ≤ i → i < a + n → h (m i) ≡ option_map f (g i))
    → filter_map h (map m (range_with_len a n)) ≡ map f (filter_map g (range_with_len a n))
found_of_made h m g f a zero same = refl
found_of_made h m g f a (suc n) same =
    ap (λ o. cons_option o (filter_map h (map m (range_with_len (a + 1) n)))) (same a (omega arith) (omega arith))
    ∙ ap (λ l. cons_option (option_map f (g a)) l) (found_of_made h m g f (a + 1) n (λ i low high. same i (omega arith) (omega arith)))
    ∙ made_option f (g a) (filter_map g (range_with_len (a + 1) n))
