-- A row of cells, numbered from 0, that is sent cell by cell.
use Rattle.std.proofs.Common.{◌≡◌, ℕ, zero, suc, ◌+◌, ◌-◌, ◌<◌, ◌≤◌, List, [], ◌∷◌, ◌++◌, length, map, take, drop, length-drop, get_or, get_or-drop, Option, Result, refl, sym, ap, subst, ◌∙◌, append_assoc, arith}
use Rattle.std.specs.List.{enumerate_from, flat_map}
use Rattle.std.proofs.lemmas.List.{take_rest}
use Rattle.grpc_frame.specs.Sending.{Sent, NotSent, Sends}
use Rattle.grpc_frame.proofs.Sending.{head_not_sent, both_sent, second_not_sent, sent_behind}
use Rattle.row_text.specs.Rows.{Format, row_with}
use Rattle.row_text.proofs.Parts.{front_sent, front_not_sent, item_sent, item_not_sent, back_sent}

-- the items after the first
abbrev pub others_of : {X : Type 0} → List X → List X
others_of xs = take (length xs - 1) (drop 1 xs)

others_long : {X : Type 0} (xs : List X) → length (others_of xs) ≡ length xs - 1
others_long xs = ap length (take_rest xs 1) ∙ length-drop 1 xs

-- one of them, by its number in the whole list
pub other_item : {X : Type 0} (xs : List X) (index : ℕ) (x : X) → x ≡ get_or (others_of xs) index x → x ≡ get_or xs (index + 1) x
other_item xs index x is =
    let next : 1 + index ≡ index + 1 = omega arith in
    is ∙ ap (λ l. get_or l index x) (take_rest xs 1) ∙ get_or-drop 1 xs index x ∙ ap (λ n. get_or xs n x) next

pub other_inside : {X : Type 0} (xs : List X) (index : ℕ) → index < length (others_of xs) → index + 1 < length xs
other_inside xs index inside = omega (arith, inside, others_long xs)

-- the first cell
abbrev pub first_cell : List (List ℕ) → List ℕ
first_cell [] = []
first_cell (cell ∷ cells) = cell

-- ---- cells by their numbers

module _ {X : Type 0} (f : ℕ → X → List ℕ) where
  abbrev pub numbered : ℕ → List X → List (List ℕ)
  numbered number xs = map (λ (i, x). f i x) (enumerate_from number xs)

  numbered_long : (number : ℕ) (xs : List X) → length (numbered number xs) ≡ length xs
  numbered_long number [] = refl
  numbered_long number (x ∷ xs) = ap (λ (n : ℕ). suc n) (numbered_long (number + 1) xs)

  numbered_at : (number i : ℕ) (xs : List X) (x : X) (other : List ℕ) → i < length xs → x ≡ get_or xs i x → f (number + i) x ≡ get_or (numbered number xs) i other
  numbered_at number i [] x other inside is = absurd (omega (arith, inside))
  numbered_at number zero (first ∷ xs) x other inside is =
      let same : number + 0 ≡ number = omega arith in
      ap (λ (n : ℕ). f n x) same ∙ ap (f number) is
  numbered_at number (suc i) (first ∷ xs) x other inside is =
      let same : number + suc i ≡ (number + 1) + i = omega arith in
      ap (λ (n : ℕ). f n x) same ∙ numbered_at (number + 1) i xs x other (omega (arith, inside)) is

  first_is : (xs : List X) (x : X) → 1 ≤ length xs → x ≡ get_or xs 0 x → first_cell (numbered 0 xs) ≡ f 0 x
  first_is [] x some is = absurd (omega (arith, some))
  first_is (first ∷ xs) x some is = ap (f 0) (sym is)

  -- the cell of an item after the first
  module _ (xs : List X) (index : ℕ) where
    cell_inside : index < length (others_of xs) → index < length (drop 1 (numbered 0 xs))
    cell_inside inside = omega (arith, inside, others_long xs, length-drop 1 (numbered 0 xs), numbered_long 0 xs)

    cell_ended : length (others_of xs) ≤ index → length (drop 1 (numbered 0 xs)) ≤ index
    cell_ended ended = omega (arith, ended, others_long xs, length-drop 1 (numbered 0 xs), numbered_long 0 xs)

    cell_at : (x : X) → index < length (others_of xs) → x ≡ get_or (others_of xs) index x
        → f (index + 1) x ≡ get_or (drop 1 (numbered 0 xs)) index (f (index + 1) x)
    cell_at x inside is =
        let other = f (index + 1) x in
        let first : 0 + (index + 1) ≡ index + 1 = omega arith in
        let next : index + 1 ≡ 1 + index = omega arith in
        ap (λ (n : ℕ). f n x) (sym first)
        ∙ numbered_at 0 (index + 1) xs x other (other_inside xs index inside) (other_item xs index x is)
        ∙ ap (λ (n : ℕ). get_or (numbered 0 xs) n other) next
        ∙ sym (get_or-drop 1 (numbered 0 xs) index other)

-- ---- sent in a row

-- the start was not sent
pub start_not_sent : (format : Format) (cells : List (List ℕ)) (a b : Option (List ℕ)) (before after : List ℕ)
    → NotSent a b before after format.start → NotSent a b before after (row_with format cells)
start_not_sent format [] a b before after failed = head_not_sent a b before after format.start format.end failed
start_not_sent format (cell ∷ cells) a b before after failed =
    head_not_sent a b before after format.start (cell ++ (flat_map (λ next. format.between ++ next) cells ++ format.end)) failed

-- a row has its first cell, the others, and the end
row_parts : (format : Format) (cells : List (List ℕ)) → 1 ≤ length cells
    → row_with format cells ≡ (format.start ++ first_cell cells) ++ (flat_map (λ next. format.between ++ next) (drop 1 cells) ++ format.end)
row_parts format [] some = absurd (omega (arith, some))
row_parts format (cell ∷ cells) some = sym (append_assoc format.start cell (flat_map (λ next. format.between ++ next) cells ++ format.end))

module _ {X : Type 0} (format : Format) (f : ℕ → X → List ℕ) (xs : List X) where
  abbrev next_cell : List ℕ → List ℕ
  next_cell cell = format.between ++ cell

  abbrev front : List ℕ
  front = format.start ++ first_cell (numbered f 0 xs)

  -- what is written up to a cell after the first
  abbrev pub written : ℕ → List ℕ
  written index = front ++ flat_map next_cell (take index (drop 1 (numbered f 0 xs)))

  -- a row without items
  pub none_sent : {Y E : Type 0} (r : Result Y E) (a b c : Option (List ℕ)) (before mid after : List ℕ) → length xs < 1
      → Sent a b before mid format.start → Sends r b c mid after format.end → Sends r a c before after (row_with format (numbered f 0 xs))
  none_sent r a b c before mid after none sent last =
      subst (λ (cells : List (List ℕ)). Sends r a c before after (row_with format cells)) (sym (empty xs none))
      (sent_behind r a b c before mid after format.start format.end sent last)
    where
      empty : (items : List X) → length items < 1 → numbered f 0 items ≡ []
      empty [] few = refl
      empty (x ∷ items) few = absurd (omega (arith, few))

  whole : 1 ≤ length xs → row_with format (numbered f 0 xs) ≡ front ++ (flat_map next_cell (drop 1 (numbered f 0 xs)) ++ format.end)
  whole some = row_parts format (numbered f 0 xs) (omega (arith, some, numbered_long f 0 xs))

  module _ (x : X) (some : 1 ≤ length xs) (is : x ≡ get_or xs 0 x) (a b c : Option (List ℕ)) (before mid after : List ℕ) (sent : Sent a b before mid format.start) where
    front_is : front ≡ format.start ++ f 0 x
    front_is = ap (λ (l : List ℕ). format.start ++ l) (first_is f xs x some is)

    -- the first cell was sent, or not
    pub first_sent : Sent b c mid after (f 0 x) → Sent a c before after (written 0)
    first_sent more = front_sent a c before after front (format.start ++ f 0 x) front_is (both_sent a b c before mid after format.start (f 0 x) sent more)

    pub first_not_sent : NotSent b c mid after (f 0 x) → NotSent a c before after (row_with format (numbered f 0 xs))
    first_not_sent failed =
        front_not_sent next_cell a c before after front (format.start ++ f 0 x) format.end (row_with format (numbered f 0 xs)) (drop 1 (numbered f 0 xs))
        (whole some) front_is (second_not_sent a b c before mid after format.start (f 0 x) sent failed)

  module _ (index : ℕ) (x : X) (inside : index < length (others_of xs)) (is : x ≡ get_or (others_of xs) index x) (a b : Option (List ℕ)) (before mid : List ℕ) (sent : Sent a b before mid (written index)) where
    not_sent : (c : Option (List ℕ)) (after : List ℕ) → NotSent b c mid after (next_cell (f (index + 1) x)) → NotSent a c before after (row_with format (numbered f 0 xs))
    not_sent c after failed =
        item_not_sent next_cell a b c before mid after front format.end (row_with format (numbered f 0 xs)) (drop 1 (numbered f 0 xs)) index (f (index + 1) x)
        (whole (omega (arith, other_inside xs index inside))) (cell_inside f xs index inside) (cell_at f xs index x inside is) sent failed

    -- what stands between two cells was not sent
    pub between_not_sent : (c : Option (List ℕ)) (after : List ℕ) → NotSent b c mid after format.between → NotSent a c before after (row_with format (numbered f 0 xs))
    between_not_sent c after failed = not_sent c after (head_not_sent b c mid after format.between (f (index + 1) x) failed)

    module _ (c d : Option (List ℕ)) (middle after : List ℕ) (between : Sent b c mid middle format.between) where
      -- one cell more was sent, or not
      pub cell_sent : Sent c d middle after (f (index + 1) x) → Sent a d before after (written (index + 1))
      cell_sent more =
          item_sent next_cell a b d before mid after front (drop 1 (numbered f 0 xs)) index (f (index + 1) x)
          (cell_inside f xs index inside) (cell_at f xs index x inside is) sent (both_sent b c d mid middle after format.between (f (index + 1) x) between more)

      pub cell_not_sent : NotSent c d middle after (f (index + 1) x) → NotSent a d before after (row_with format (numbered f 0 xs))
      cell_not_sent failed = not_sent d after (second_not_sent b c d mid middle after format.between (f (index + 1) x) between failed)

  -- all cells were sent, and then the end, or not
  pub end_sent : {Y E : Type 0} (r : Result Y E) (a b c : Option (List ℕ)) (before mid after : List ℕ) (index : ℕ) → 1 ≤ length xs → length (others_of xs) ≤ index
      → Sent a b before mid (written index) → Sends r b c mid after format.end → Sends r a c before after (row_with format (numbered f 0 xs))
  end_sent r a b c before mid after index some ended sent last =
      back_sent next_cell r a b c before mid after front format.end (row_with format (numbered f 0 xs)) (drop 1 (numbered f 0 xs)) index
      (whole some) (cell_ended f xs index ended) sent last
