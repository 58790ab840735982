-- Writing columns one by one: what a loop keeps.
use Rattle.std.proofs.Common.{◌≡◌, ℕ, suc, ◌+◌, ◌<◌, ◌≤◌, List, [], ◌∷◌, ◌++◌, length, drop, get_or, refl, arith, ap, sym, ◌∙◌, append_assoc, drop-cons, add-one}
use Rattle.std.specs.List.{flat_map}
use Rattle.std.proofs.lemmas.Grind.{flat_map-append}
use Rattle.std.proofs.lemmas.List.{length-append, length-map, get_or-map}
use Rattle.flatbuf.specs.Block.{padded}
use Rattle.std.proofs.Common.{zero, ◌-◌, ◌%◌, ◌^◌, Bool, true, false, map, Option, if◌then◌else◌}
use Rattle.std.specs.List.{range_with_len}
use Rattle.scan_base.specs.declared.value.Value.{Value}
use Rattle.scan_base.specs.declared.value.Value.TheVariants.{Null, Int, Bool as Flag}
use Rattle.arrays.specs.declared.layout.Layout.{Layout}
use Rattle.arrays.specs.declared.layout.Layout.TheVariants as layout
use Rattle.arrays.specs.Number.{integer_at, decimal_at}
use Rattle.arrays.specs.Validity.{is_valid, where_valid}
use Rattle.arrays.specs.Column.{ColumnAt, values_of, slot_of}
use Rattle.array_buffers.specs.ColumnBuffers.{buffers_written as column_written, values_written, HasShortTexts, validity_written}
use Rattle.arrays.specs.WrittenSlots.{texts_joined, text_bytes, offsets_from}
use Rattle.ipc_batch.specs.WrittenMessages.{place_bytes, body_of, places_from, batch_buffers_written}
use Rattle.ipc_batch.proofs.Lengths.{length_with_zeros}

-- the columns from one on are that one and those after it
pub dropped : (columns : List ColumnAt) (i : ℕ) (column : ColumnAt) → i < length columns → column ≡ get_or columns i column → drop i columns ≡ column ∷ drop (i + 1) columns
dropped columns i column low is =
    rw (add-one, drop-cons columns i column) (ap (λ (x : ColumnAt). x ∷ drop (suc i) columns) (sym is))

-- how long the body of columns is, the first one's part and the others'
pub length_more : (columns more : List ColumnAt) (i : ℕ) (column : ColumnAt) → drop i columns ≡ column ∷ more →
    length (body_of (batch_buffers_written (drop i columns))) ≡ length (body_of (column_written column)) + length (body_of (batch_buffers_written more))
length_more columns more i column e =
    rw (e, flat_map-append padded (column_written column) (batch_buffers_written more)) (length-append (body_of (column_written column)) (body_of (batch_buffers_written more)))

-- one buffer more of a column
pub dropped_buffer : (buffers : List (List ℕ)) (i : ℕ) → i < length buffers → drop i buffers ≡ get_or buffers i [] ∷ drop (i + 1) buffers
dropped_buffer buffers i low = rw (add-one, drop-cons buffers i [] low) refl

pub buffer_more : (buffers : List (List ℕ)) (i : ℕ) → i < length buffers →
    length (body_of (drop i buffers)) ≡ length (get_or buffers i []) + (8 - length (get_or buffers i []) % 8) % 8 + length (body_of (drop (i + 1) buffers))
buffer_more buffers i low =
    let b = get_or buffers i [] in
    let both = length-append (padded b) (body_of (drop (i + 1) buffers)) in
    let long = length_with_zeros b in
    rw (dropped_buffer buffers i low) (omega (arith, both, long))

-- with one buffer more, the lengths
pub length_added : (old new : List ℕ) (buffers : List (List ℕ)) (i n : ℕ) (whole : List ℕ) → i < length buffers → n ≡ length (get_or buffers i []) → new ≡ old ++ n ∷ [] →
    old ++ map length (drop i buffers) ≡ whole → new ++ map length (drop (i + 1) buffers) ≡ whole
length_added old new buffers i n whole low long e all =
    let behind = map length (drop (i + 1) buffers) in
    ap (λ (xs : List ℕ). xs ++ behind) e ∙ append_assoc old (n ∷ []) behind
    ∙ ap (λ (m : ℕ). old ++ m ∷ behind) long
    ∙ ap (λ (left : List (List ℕ)). old ++ map length left) (sym (dropped_buffer buffers i low)) ∙ all

-- a length that was taken is that of its buffer
pub length_at : (lengths : List ℕ) (buffers : List (List ℕ)) (i : ℕ) → lengths ≡ map length buffers → i < length lengths →
    (i < length buffers) × (get_or lengths i 0 ≡ length (get_or buffers i []))
length_at lengths buffers i is low =
    let within : i < length buffers = omega (arith, ap length is, length-map buffers (length {A = ℕ})) in
    (within, ap (λ (ns : List ℕ). get_or ns i 0) is ∙ get_or-map length buffers i [] 0 within)

-- with one buffer more, the places
pub place_added : (old new : List ℕ) (buffers : List (List ℕ)) (at next i n : ℕ) (whole : List ℕ) → i < length buffers → n ≡ length (get_or buffers i []) →
    next ≡ at + (n + (8 - n % 8) % 8) → new ≡ old ++ place_bytes (record { offset = at; length = n }) →
    old ++ flat_map place_bytes (places_from at (drop i buffers)) ≡ whole → new ++ flat_map place_bytes (places_from next (drop (i + 1) buffers)) ≡ whole
place_added old new buffers at next i n whole low long ends e all =
    let buffer = get_or buffers i [] in
    let rest = drop (i + 1) buffers in
    let behind = flat_map place_bytes (places_from next rest) in
    let here = place_bytes (record { offset = at; length = n }) in
    let end : next ≡ at + length (padded buffer) = ends ∙ ap (λ (m : ℕ). at + (m + (8 - m % 8) % 8)) long ∙ ap (λ (m : ℕ). at + m) (sym (length_with_zeros buffer)) in
    ap (λ (xs : List ℕ). xs ++ behind) e ∙ append_assoc old here behind
    ∙ ap (λ (m : ℕ). old ++ (place_bytes (record { offset = at; length = m }) ++ behind)) long
    ∙ ap (λ (m : ℕ). old ++ (place_bytes (record { offset = at; length = length buffer }) ++ flat_map place_bytes (places_from m rest))) end
    ∙ ap (λ (left : List (List ℕ)). old ++ flat_map place_bytes (places_from at left)) (sym (dropped_buffer buffers i low)) ∙ all

-- a padded buffer is no shorter
padded-le : (buffer : List ℕ) → length buffer ≤ length (padded buffer)
padded-le buffer = omega (arith, length_with_zeros buffer)

third_long : (first second third : List ℕ) → length third ≤ length (body_of (first ∷ second ∷ third ∷ []))
third_long first second third =
    let a = length-append (padded first) (body_of (second ∷ third ∷ [])) in
    let b = length-append (padded second) (body_of (third ∷ [])) in
    let c = length-append (padded third) [] in
    omega (arith, a, b, c, padded-le third)

short_of : (known : Layout) (first len : ℕ) → length (body_of (column_written (record { layout = known; first = first; len = len }))) < 2 ^ 31 → HasShortTexts (record { layout = known; first = first; len = len })
unfolding values_written
short_of (layout.Integers cells) first len short = omega arith
short_of (layout.Decimals cells) first len short = omega arith
short_of (layout.Bools cells) first len short = omega arith
short_of (layout.Texts cells) first len short =
    let column : ColumnAt = record { layout = layout.Texts cells; first = first; len = len } in
    omega (arith, third_long (validity_written column) (offsets_from 0 (values_of column)) (texts_joined (values_of column)))
short_of (layout.Indices cells) first len short = omega arith

-- the texts of a column have no more bytes than its part of a body
pub short_texts : (column : ColumnAt) → length (body_of (column_written column)) < 2 ^ 31 → HasShortTexts column
short_texts column short = short_of column.layout column.first column.len short

-- the columns from one on have no more bytes than all
pub length_front : (columns : List ColumnAt) (i : ℕ) → length (body_of (batch_buffers_written (drop i columns))) ≤ length (body_of (batch_buffers_written columns))
length_front [] zero = omega arith
length_front [] (suc i) = omega arith
length_front (column ∷ columns) zero = omega arith
length_front (column ∷ columns) (suc i) =
    let ih = length_front columns i in
    omega (arith, ih, length_more (column ∷ columns) columns 0 column refl)
