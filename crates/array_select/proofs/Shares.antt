-- Shares of columns, and cells of fewer rows.
use Rattle.std.proofs.Common.{◌≡◌, ◌≤◌, ◌<◌, ℕ, ◌+◌, ◌*◌, ◌/◌, subst, Bool, true, false, if◌then◌else◌, List, [], ◌∷◌, All, length, max, sym, ap, ◌∙◌, arith}
use Rattle.std.specs.List.{sum_by}
use Rattle.std.proofs.lemmas.List.Sums.{sum_by-cons, sum_by-le}
use Rattle.std.proofs.Math.Nat.{le-max_left, mul-div-le, mul-le-mul_right}
use Rattle.arrow_types.specs.declared.data_type.DataType.{DataType}
use Rattle.arrays.specs.Column.{ColumnAt}
use Rattle.array_select.specs.Fitting.{has_texts}
use Rattle.array_select.specs.Room.{text_bytes_of}
use Rattle.array_select.specs.Room.{allowed, most_batch_cells, most_batch_texts, share_among}

-- a column of texts has a share, and any other has none
shared : (share : ℕ) (texts : Bool) → (if texts then share else 0) ≡ (if texts then 1 else 0) * share
shared share true = omega arith
shared share false = omega arith

-- all shares, by how many columns have one
pub shares : (share : ℕ) (types : List DataType) → sum_by (allowed share) types ≡ sum_by (allowed 1) types * share
shares share [] = omega arith
shares share (data_type ∷ types) =
    sum_by-cons (allowed share) data_type types
    ∙ ap (λ (n : ℕ). n + sum_by (allowed share) types) (shared share (has_texts data_type))
    ∙ ap (λ (n : ℕ). allowed 1 data_type * share + n) (shares share types)
    ∙ distribute (allowed 1 data_type) (sum_by (allowed 1) types) share
    ∙ ap (λ (n : ℕ). n * share) (sym (sum_by-cons (allowed 1) data_type types))
  where
    distribute : (a b c : ℕ) → a * c + b * c ≡ (a + b) * c
    distribute a b c = grind arith

-- the shares of so many columns, one at least, are all of the texts at most
pub shared_out : (types : List DataType) (columns some : ℕ) → columns ≡ sum_by (allowed 1) types → columns ≤ some → sum_by (allowed (most_batch_texts / some)) types ≤ most_batch_texts
shared_out types columns some are less =
    let share = most_batch_texts / some in
    let all = shares share types in
    let whole = mul-div-le most_batch_texts some in
    let part : columns * share ≤ some * share = mul-le columns some share less in
    subst (λ (n : ℕ). n ≤ most_batch_texts) (ap (λ (n : ℕ). n * share) are ∙ sym all) (omega (arith, part, whole))
  where
    mul-le : (a b c : ℕ) → a ≤ b → a * c ≤ b * c
    mul-le a b c less = grind arith

-- fewer rows have fewer cells
pub fewer_cells : (rows count columns : ℕ) → count ≤ rows → (1 < rows → rows * columns ≤ most_batch_cells) → 1 < count → count * columns ≤ most_batch_cells
fewer_cells rows count columns less all many =
    let whole = all (omega (arith, many, less)) in
    let part = mul-le-mul_right columns less in
    omega (arith, whole, part)

-- texts of columns of which each has its share
pub shared_texts : (columns : List ColumnAt) → All (λ (column : ColumnAt). text_bytes_of column ≤ share_among (length columns)) columns →
    sum_by text_bytes_of columns ≤ most_batch_texts
shared_texts columns all =
    let some = max (length columns) 1 in
    let whole = sum_by-le text_bytes_of (share_among (length columns)) columns all in
    let part = mul-le-mul_right (share_among (length columns)) (le-max_left (length columns) 1) in
    let rest = mul-div-le most_batch_texts some in
    omega (arith, whole, part, rest)
