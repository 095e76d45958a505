-- What is made of a list of images.
use Rattle.std.proofs.Common.{◌≡◌, ◌+◌, ◌++◌, ◌||◌, ℕ, List, [], ◌∷◌, map, find, filter, filter_map, flat_map, Bool, true, false, cond, Option, Some, None, option_map, refl, sym, ap, ◌∙◌}
use Rattle.std.proofs.lemmas.List.{map-append}
use Rattle.std.specs.List.{enumerate_from, cons_option, list_any}

module _ {X Y : Type 0} (f : X → Y) where
  pub filter-map : (test : Y → Bool) (xs : List X) → filter test (map f xs) ≡ map f (filter (λ x. test (f x)) xs)
  filter-map test [] = refl
  filter-map test (x ∷ xs) = by (test (f x)) (filter-map test xs)
    where
      by : (b : Bool) → filter test (map f xs) ≡ map f (filter (λ x. test (f x)) xs)
          → cond b (f x ∷ filter test (map f xs)) (filter test (map f xs)) ≡ map f (cond b (x ∷ filter (λ x. test (f x)) xs) (filter (λ x. test (f x)) xs))
      by true e = ap (λ ys. f x ∷ ys) e
      by false e = e

  pub filter_map-map : {Z : Type 0} (g : Y → Option Z) (xs : List X) → filter_map g (map f xs) ≡ filter_map (λ x. g (f x)) xs
  filter_map-map g [] = refl
  filter_map-map g (x ∷ xs) = ap (λ zs. cons_option (g (f x)) zs) (filter_map-map g xs)

  -- the image behind the number of what it is made of
  abbrev pub behind_number : ℕ × X → ℕ × Y
  behind_number numbered = (numbered.0, f numbered.1)

  pub enumerate_from-map : (n : ℕ) (xs : List X) → enumerate_from n (map f xs) ≡ map behind_number (enumerate_from n xs)
  enumerate_from-map n [] = refl
  enumerate_from-map n (x ∷ xs) = ap (λ ps. (n, f x) ∷ ps) (enumerate_from-map (n + 1) xs)

  -- the first that is found among the images
  pub find_changed : (test : Y → Bool) (xs : List X) → find test (map f xs) ≡ option_map f (find (λ x. test (f x)) xs)
  find_changed test [] = refl
  find_changed test (x ∷ xs) = by (test (f x)) (find_changed test xs)
    where
      by : (b : Bool) → find test (map f xs) ≡ option_map f (find (λ x. test (f x)) xs) → cond b (Some (f x)) (find test (map f xs)) ≡ option_map f (cond b (Some x) (find (λ x. test (f x)) xs))
      by true rest = refl
      by false rest = rest

  -- what is asked of each image is asked of what it is made of
  pub any_changed : (test : Y → Bool) (before : X → Bool) → ((x : X) → test (f x) ≡ before x) → (xs : List X) → list_any test (map f xs) ≡ list_any before xs
  any_changed test before same [] = refl
  any_changed test before same (x ∷ xs) = λ i. same x i || any_changed test before same xs i

module _ {X Y Z : Type 0} (f : Y → Z) where
  -- lists that are made of images of what there is in each
  pub filter_map_changed : (g : X → Option Y) (h : X → Option Z) → ((x : X) → h x ≡ option_map f (g x)) → (xs : List X) → filter_map h xs ≡ map f (filter_map g xs)
  filter_map_changed g h same [] = refl
  filter_map_changed g h same (x ∷ xs) = (λ i. cons_option (same x i) (filter_map_changed g h same xs i)) ∙ by (g x)
    where
      by : (o : Option Y) → cons_option (option_map f o) (map f (filter_map g xs)) ≡ map f (cons_option o (filter_map g xs))
      by None = refl
      by (Some y) = refl

  pub flat_map_changed : (g : X → List Y) (h : X → List Z) → ((x : X) → h x ≡ map f (g x)) → (xs : List X) → flat_map h xs ≡ map f (flat_map g xs)
  flat_map_changed g h same [] = refl
  flat_map_changed g h same (x ∷ xs) = (λ i. same x i ++ flat_map_changed g h same xs i) ∙ sym (map-append f (g x) (flat_map g xs))

-- two ways to go from each element give the same lists
pub map_both : {X Y Z W : Type 0} (f : X → Y) (g : Y → W) (h : X → Z) (k : Z → W) → ((x : X) → g (f x) ≡ k (h x)) → (xs : List X) → map g (map f xs) ≡ map k (map h xs)
map_both f g h k same [] = refl
map_both f g h k same (x ∷ xs) = λ i. same x i ∷ map_both f g h k same xs i
