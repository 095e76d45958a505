-- What a list is once a borrow of its items ends.
use Rattle.std.specs.Prelude.{List, ◌++◌, length, take, drop}
use Rattle.std.specs.Borrow.{Lends, MutBor, Fml, Array, RattleType}
use Rattle.xc_lists.specs.contracts.items.Items.{the_row}

-- the list with these items at its front, as long as it was
abbrev pub with_list : {A : Type 0} → List A → List A → List A
with_list old w = take (length old) (w ++ drop (length w) old)

module _ (T : RattleType) (v : MutBor (List T.Denot)) where
  -- the items are those that r shows last
  abbrev pub lends_items : MutBor (List T.Denot) → Fml
  lends_items r = Lends (the_row T) (Array T 0) v r (with_list v.now)
