-- What a list has after what there is was put at its end.
use Rattle.std.proofs.Common.{◌≡◌, [], Option, Some, None, IfSome, All, map, option_map, option_to_list, refl}
use Rattle.std.proofs.lemmas.List.Elements.{All-nil, All-cons}

-- what holds of what there is holds of the list of it
pub all_listed : {X : Type 0} (P : X → Type 0) (o : Option X) → IfSome o P → All P (option_to_list o)
all_listed P None h = All-nil P
all_listed P (Some x) h = All-cons P x [] h (All-nil P)

-- a list of what there is, changed
pub map_listed : {X Y : Type 0} (f : X → Y) (o : Option X) → map f (option_to_list o) ≡ option_to_list (option_map f o)
map_listed f None = refl
map_listed f (Some x) = refl
