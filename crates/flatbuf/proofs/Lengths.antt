-- How long written blocks are, and that they are whole.
use Rattle.std.proofs.Common.{◌≡◌, ℕ, suc, ◌+◌, ◌*◌, ◌/◌, ◌%◌, ◌^◌, ◌≤◌, ◌<◌, List, [], ◌∷◌, ◌++◌, length, map, refl, arith}
use Rattle.std.proofs.lemmas.List.{length-append, length-map}
use Rattle.flatbuf.specs.Block.{Part, IsWhole, Given, Absent, Number, Offset, AreWhole, little, numbers, padding, entries, fields, children, vtable, items_part, tables_from, tables_part}
use Rattle.flatbuf.specs.Fits.{FitsTable, FitsTables}
use Rattle.flatbuf.specs.Lengths.{TableIsWhole, TableIsShort, TextIsWhole, TextIsShort, StructsAreWhole, StructsAreShort, TablesAreWhole, TablesAreShort}
use Rattle.flatbuf.proofs.Standing.{length-little, length_padding, length_padded, tables_from_is}
use Rattle.flatbuf.proofs.Written.{length-numbers, length-fields, length-entries, length-table, root_table, whole_vtable}

-- blocks that are whole are so together
pub whole_children : (slots : List Given) → AreWhole slots → length (children slots) % 8 ≡ 0
whole_children [] whole = refl
whole_children (Absent ∷ more) whole = whole_children more whole
whole_children (Number n ∷ more) whole = whole_children more whole
whole_children (Offset part ∷ more) whole =
    let a = whole.0.whole in
    let b = whole_children more whole.1 in
    let c = length-append part.bytes (children more) in
    omega arith

-- a table of whole blocks is whole
pub whole_table : TableIsWhole
whole_table slots whole =
    let a = length-table slots in
    let b = root_table slots in
    let c = whole_vtable slots in
    let d = whole_children slots whole in
    record { rooted = omega arith; whole = omega arith }

-- a table takes at most so much next to the blocks that it leads to
pub short_table : TableIsShort
unfolding vtable
short_table slots =
    let e = length-table slots in
    let nums = (4 + 2 * length slots) ∷ (8 + 8 * length slots) ∷ entries 8 slots in
    let a = length-append (numbers 2 nums) (padding (length (numbers 2 nums))) in
    let b : length (numbers 2 nums) ≡ 2 * suc (suc (length (entries 8 slots))) = length-numbers 2 nums in
    let d = length-entries 8 slots in
    let f = length_padding (length (numbers 2 nums)) in
    omega arith

-- where a table fits
pub fits_table : (slots : List Given) → length slots ≤ 8190 → 20 + 10 * length slots + length (children slots) < 2 ^ 31 → FitsTable slots
fits_table slots few small = let s = short_table slots in record { few = omega arith; small = omega arith }

-- a count and items are whole
pub whole_items : (count : ℕ) (items : List ℕ) → IsWhole (items_part count items)
unfolding items_part
whole_items count items =
    let all = little 4 0 ++ (little 4 count ++ items) in
    let a = length-append all (padding (length all)) in
    let b = length-append (little 4 0) (little 4 count ++ items) in
    let d = length-append (little 4 count) items in
    let e = length-little 4 0 in
    let f = length-little 4 count in
    record { rooted = omega arith; whole = length_padded all }

pub whole_text : TextIsWhole
whole_text text = whole_items (length text) (text ++ (0 ∷ []))

pub whole_structs : StructsAreWhole
whole_structs width structs = whole_items (length structs / width) structs

-- a count and items take at most so much
pub short_items : (count : ℕ) (items : List ℕ) → length (items_part count items).bytes ≤ 15 + length items
unfolding items_part
short_items count items =
    let all = little 4 0 ++ (little 4 count ++ items) in
    let a = length-append all (padding (length all)) in
    let b = length-append (little 4 0) (little 4 count ++ items) in
    let d = length-append (little 4 count) items in
    let e = length-little 4 0 in
    let f = length-little 4 count in
    let g = length_padding (length all) in
    omega arith

pub short_text : TextIsShort
short_text text =
    let a = short_items (length text) (text ++ (0 ∷ [])) in
    let b : length (text ++ (0 ∷ [])) ≡ length text + 1 = length-append text (0 ∷ []) in
    omega arith

pub short_structs : StructsAreShort
short_structs width structs = short_items (length structs / width) structs

-- how long a vector of tables is with the tables
pub length-tables : (tables : List Part) → length (tables_part tables).bytes ≡ tables_from (length tables) + length (children (map Offset tables))
unfolding tables_part tables_from
length-tables tables =
    let count = length tables in
    let given = map Offset tables in
    let fs = fields 4 8 (tables_from count) given in
    let nums = numbers 4 (0 ∷ count ∷ fs) in
    let pad = padding (8 + 4 * count) in
    let c = length-fields 4 8 (tables_from count) given in
    let m : length given ≡ count = length-map tables Offset in
    let w : length nums ≡ 4 * suc (suc (length fs)) = length-numbers 4 (0 ∷ count ∷ fs) in
    let a = length-append nums (pad ++ children given) in
    let b = length-append pad (children given) in
    omega arith

-- a vector of whole tables is whole
pub whole_tables : TablesAreWhole
unfolding tables_part
whole_tables tables whole =
    let a = length-tables tables in
    let b = whole_children (map Offset tables) whole in
    let c = tables_from_is (length tables) in
    record { rooted = omega arith; whole = omega arith }

-- a vector of tables takes at most so much next to the tables
pub short_tables : TablesAreShort
short_tables tables =
    let a = length-tables tables in
    let c = tables_from_is (length tables) in
    omega arith

-- where a vector of tables fits
pub fits_tables : (tables : List Part) → 15 + 4 * length tables + length (children (map Offset tables)) < 2 ^ 31 → FitsTables tables
fits_tables tables small = let s = short_tables tables in omega arith

-- what a caller of the builder owes: name it in the attribute `using`
pub ruleset fits = (fits_table, fits_tables, short_table, short_text, short_structs, short_tables)
