-- All rows of what gives them, batch by batch.
use Rattle.std.proofs.Common.{◌≡◌, ◌<◌, ℕ, List, [], ◌∷◌, ◌++◌, length, take, map, refl, sym, ap, ◌∙◌, subst, arith, append_assoc, append-nil, length-append, All}
use Rattle.std.specs.List.{flat_map}
use Rattle.std.proofs.lemmas.Grind.{flat_map-append}
use Rattle.std.proofs.lemmas.List.{map-append, length-map}
use Rattle.std.proofs.lemmas.List.Elements.{All-push}
use Rattle.arrays.specs.Batch.{BatchAt, rows_of}
use Rattle.arrays.specs.TypedLayouts.{AreOf}
use Rattle.arrow_types.specs.declared.data_type.DataType.{DataType}
use Rattle.table_versions.specs.Table.{Row}
use Rattle.table_versions.proofs.Rowing.{length-rows_of}
use Rattle.row_sources.specs.declared.piece.Piece.{Piece}
use Rattle.row_sources.specs.CollectedRows.{plain_rows, IsBatchOf}
use Rattle.row_sources.specs.Running.{RowsAt, GoesOn, FindsPiece}

pub numbers_off : (number : ℕ) (rows : List Row) → plain_rows (map (λ row. (number, row)) rows) ≡ rows
numbers_off number [] = refl
numbers_off number (row ∷ rows) = ap (λ (rest : List Row). row ∷ rest) (numbers_off number rows)

-- a piece has the next rows
next_rows : (before after : RowsAt) (piece : Piece) → FindsPiece before piece after →
    plain_rows before.ahead ≡ rows_of piece.batch ++ plain_rows after.ahead
next_rows before after piece finds =
    ap plain_rows finds.next
    ∙ map-append (λ (row : ℕ × Row). row.1) (map (λ row. (piece.number, row)) (rows_of piece.batch)) after.ahead
    ∙ ap (λ (rows : List Row). rows ++ plain_rows after.ahead) (numbers_off piece.number (rows_of piece.batch))

-- one batch more
pub one_more : (first before after : RowsAt) (piece : Piece) (batches all : List BatchAt) → FindsPiece before piece after → all ≡ batches ++ piece.batch ∷ [] →
    flat_map rows_of batches ++ plain_rows before.ahead ≡ plain_rows first.ahead → flat_map rows_of all ++ plain_rows after.ahead ≡ plain_rows first.ahead
one_more first before after piece batches all finds e is =
    let batch = piece.batch in
    let rest = plain_rows after.ahead in
    ap (λ (some : List BatchAt). flat_map rows_of some ++ rest) e
    ∙ ap (λ (rows : List Row). rows ++ rest) (flat_map-append rows_of batches (batch ∷ []))
    ∙ ap (λ (rows : List Row). (flat_map rows_of batches ++ rows) ++ rest) (append-nil (rows_of batch))
    ∙ append_assoc (flat_map rows_of batches) (rows_of batch) rest
    ∙ ap (λ (rows : List Row). flat_map rows_of batches ++ rows) (sym (next_rows before after piece finds))
    ∙ is

-- and it is one of the types
pub one_typed : (first before after : RowsAt) (piece : Piece) (batches all : List BatchAt) → FindsPiece before piece after → all ≡ batches ++ piece.batch ∷ [] →
    before.types ≡ first.types → All (IsBatchOf first.types) batches → All (IsBatchOf first.types) all
one_typed first before after piece batches all finds e types each =
    subst (All (IsBatchOf first.types)) (sym e) (All-push (IsBatchOf first.types) batches piece.batch each
    (record { some = finds.some; few = finds.few; typed = subst (λ (some : List DataType). AreOf some piece.batch.columns) types finds.typed }))

-- before the first
pub goes_still : (rows : RowsAt) → take (length rows.opened) rows.batches ≡ rows.opened → GoesOn rows rows
goes_still rows front = record { types = refl; batches = refl; depth = refl; opening = take_same rows.opened; opened = front }
  where
    take_same : (xs : List ℕ) → take (length xs) xs ≡ xs
    take_same [] = refl
    take_same (x ∷ xs) = ap (λ rest. x ∷ rest) (take_same xs)
