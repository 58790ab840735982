-- Texts and records that are too long, or too many.
use Rattle.std.proofs.Common.{◌≡◌, ◌<◌, ◌≤◌, ◌+◌, ◌^◌, ℕ, suc, false, List, [], ◌∷◌, ◌++◌, Some, length, map, take, get_or, refl, sym, ap, ap₂, subst, ◌∙◌, arith, inl, inr}
use Rattle.std.proofs.Math.ListN.{get_or-map}
use Rattle.std.proofs.lemmas.List.{get_or_default, length-append, length-map, take-map}
use Rattle.std.proofs.lemmas.List.Folds.{length-flat_map-take}
use Rattle.scan_base.specs.Value.{value_of}
use Rattle.scan_base.specs.declared.fault.Fault.{Fault}
use Rattle.scan_base.specs.declared.fault.Fault.TheVariants.{LimitReached}
use Rattle.scan_base.specs.declared.value.Value.{Value}
use Rattle.scan_base.specs.declared.value.Value.TheVariants.{Null}
use Rattle.scan_base.specs.declared.value.ValueRef.{ValueRef}
use Rattle.arrow_types.specs.declared.schema.Field.{Field}
use Rattle.arrow_types.specs.declared.schema.Schema.{Schema}
use Rattle.arrays.specs.WrittenSlots.{text_bytes, texts_joined}
use Rattle.std.specs.List.{flat_map}
use Rattle.csv_columns.specs.FieldValues.{cell_in}
use Rattle.csv_input.specs.Long.{AreTooLong, WhyNoMessage, WhyNoneTold, text_said, texts_said}
use Rattle.csv_input.specs.Rows.{AreRight, IsRight}
use Rattle.csv_input.specs.inside.Batches.{HasTaken}
use Rattle.csv_input.specs.inside.Cells.{AreCells, HasLongCells, HasLongColumn, WhyNoColumn, WhyNoColumns}
use Rattle.csv_input.specs.inside.Chunks.{ChunkAt, Holds}
use Rattle.csv_input.proofs.Faulty.{right_more, splits_more}

-- ---- texts

-- texts of two lists are the same, item by item
texts_same : {X : Type 0} (text : X → List ℕ) (xs : List X) (ys : List Value) (d : X) → length xs ≡ length ys
    → ((k : ℕ) → k < length xs → text (get_or xs k d) ≡ text_bytes (get_or ys k Null)) → flat_map text xs ≡ texts_joined ys
texts_same text [] [] d long each = refl
texts_same text [] (y ∷ ys) d long each = absurd (omega (arith, long))
texts_same text (x ∷ xs) [] d long each = absurd (omega (arith, long))
texts_same text (x ∷ xs) (y ∷ ys) d long each =
    ap₂ (λ (a b : List ℕ). a ++ b) (each 0 (omega arith)) (texts_same text xs ys d (omega (arith, long)) (λ k low. each (suc k) (omega (arith, low))))

-- the texts of the values are those that the fields say
texts_are : (chunk : ChunkAt) (column : Field) (number : ℕ) (cells : List ValueRef) (taken : List (List (List ℕ))) → number < chunk.width → Holds chunk taken
    → AreCells chunk column number cells chunk.rows → texts_said column number taken ≡ texts_joined (map value_of cells)
texts_are chunk column number cells taken there holds are =
    texts_same (λ (fields : List (List ℕ)). text_said (cell_in column (get_or fields number []))) taken (map value_of cells) []
    (omega (arith, holds.count, are.many, length-map cells value_of))
    (λ k low.
    let inside : k < chunk.rows = omega (arith, low, holds.count) in
    ap text_said (ap (cell_in column) (holds.each k number inside there) ∙ are.each k inside))

-- texts that pass what is left of 2^31 - 1 bytes
pub long_text : (cells : List ValueRef) (place left : ℕ) (d : ValueRef) (bytes : List ℕ) → bytes ≡ text_bytes (value_of (get_or cells place d)) → place < length cells
    → left + length (texts_joined (map value_of (take place cells))) ≡ 2147483647 → left < length bytes → 2147483648 ≤ length (texts_joined (map value_of cells))
long_text cells place left d bytes is low so more =
    let all = map value_of cells in
    let inside : place < length all = omega (arith, low, length-map cells value_of) in
    let own : get_or all place (value_of d) ≡ value_of (get_or cells place d) = get_or-map value_of cells place d in
    let fewer = length-flat_map-take text_bytes all place (value_of d) inside in
    omega (arith, more, so, fewer, ap length is, ap (λ (v : Value). length (text_bytes v)) own, ap (λ (l : List Value). length (texts_joined l)) (take-map value_of place cells))

-- ---- columns

-- the column of a number is one of the columns
pub long_column : (chunk : ChunkAt) (columns : List Field) (number : ℕ) (column : Field) (fault : Fault) → number < length columns → column ≡ get_or columns number column → WhyNoColumn chunk column number fault
    → WhyNoColumns chunk columns fault
long_column chunk columns number column fault inside is why = elim why [
  | inl memory ↦ inl memory
  | inr long ↦ inr (
    long.0,
    record {
      number = number;
      there = inside;
      long = λ d. subst (λ (c : Field). HasLongCells chunk c number) (is ∙ get_or_default columns number column d inside) long.1;
    },
  )
]

-- the records of a chunk are too long
pub long_taken : (columns : List Field) (chunk : ChunkAt) (old new : List (List (List ℕ))) (fault : Fault) → HasTaken columns chunk old new → WhyNoColumns chunk columns fault → WhyNoMessage columns old new fault
long_taken columns chunk old new fault has why = elim why [
  | inl memory ↦ inl memory
  | inr long ↦
      let number = long.1.number in
      inr (
        long.0,
        record {
          taken = has.taken;
          splits = has.splits;
          long = inl (
            number,
            long.1.there,
            λ d.
                let cells = long.1.long d in
                subst (λ (texts : List ℕ). 2 ^ 31 ≤ length texts)
                (sym (texts_are chunk (get_or columns number d) number cells.cells has.taken (omega (arith, long.1.there, has.wide)) has.holds cells.are)) cells.long,
          );
        },
      )
]

-- ---- messages

-- ---- records

-- one right record more than are counted
pub too_many : (columns : List Field) (all read : List (List (List ℕ))) (fields : List (List ℕ)) (left rest : List (List (List ℕ))) → all ≡ read ++ left → left ≡ fields ∷ rest
    → 2 ^ 63 ≤ length read → AreRight columns read → IsRight columns fields → WhyNoneTold columns all LimitReached
too_many columns all read fields left rest splits took many right one = inr (
  refl,
  record {
    read = read ++ fields ∷ [];
    left = rest;
    splits = splits_more all read fields left rest splits took;
    many = omega (arith, many, length-append read (fields ∷ []));
    right = right_more columns read fields right one;
  },
)
