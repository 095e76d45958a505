-- The first bytes of a list, one more than the room.
use Rattle.std.proofs.Common.{◌≡◌, ℕ, ◌+◌, ◌<◌, ◌≤◌, List, length, take, ◌∙◌, ap, arith}
use Rattle.std.proofs.lemmas.List.{length-take, take_all}

-- where they are within the room, they are all
pub taken_whole : (room : ℕ) (left bytes : List ℕ) → bytes ≡ take (room + 1) left → length bytes ≤ room → bytes ≡ left
taken_whole room left bytes taken within =
    let few : length left ≤ room + 1 = omega (arith, length-take (room + 1) left, ap length taken) in
    taken ∙ take_all (room + 1) left few

-- where they are past the room, there are more than the room
pub taken_part : (room : ℕ) (left bytes : List ℕ) → bytes ≡ take (room + 1) left → room < length bytes → room < length left
taken_part room left bytes taken past = omega (arith, length-take (room + 1) left, ap length taken)
