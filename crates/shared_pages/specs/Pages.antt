-- Inside: how a list is kept: full pages, and the last one, which is not full.
use Rattle.std.specs.Prelude.{ℕ, ◌==◌, ◌<◌, Bool, IsTrue, List, ◌++◌, length}
use Rattle.std.specs.List.{flat_map, list_all}

-- how many items a full page has
abbrev pub page_size : ℕ
page_size = 256

-- the items of full pages and of the last one, in order
abbrev pub joined : {X : Type 0} → List (List X) → List X → List X
joined full last = flat_map (λ page. page) full ++ last

-- whether a page has room for no item more
abbrev pub is_full : {X : Type 0} → List X → Bool
is_full page = length page == page_size

-- each page but the last one is full, and that one has room
pub record IsPaged {X : Type 0} (full : List (List X)) (last : List X) : Type 0 where
  pub complete : IsTrue (list_all is_full full)
  pub unfilled : length last < page_size
