-- Worked rows: the definitions, tried on buffers whose values were worked out by hand.
use Rattle.std.proofs.Common.{◌≡◌, pos, negsuc, Bool as Bit, true, false, List, [], ◌∷◌, map, Option, Some, None, codes, replicate, Ok, refl}
use Rattle.std.specs.List.{range_with_len}
use Rattle.arrow_types.specs.declared.data_type.IntegerType.TheVariants.{Int8, Int16, Int64, UInt8}
use Rattle.scan_base.specs.declared.value.Value.TheVariants.{Null, Bool, Int, Text}
use Rattle.arrays.specs.Number.{element_at, number_from}
use Rattle.arrays.specs.Integers.{IntegersAt}
use Rattle.arrays.specs.Bools.{BoolsAt}
use Rattle.arrays.specs.Texts.{TextsAt, texts_values, texts_stand}
use Rattle.arrays.specs.Dictionary.{extended_by}
use Rattle.arrays.specs.Indices.{IndicesAt, index_stands}
use Rattle.arrays.specs.declared.layout.Layout.TheVariants as layout
use Rattle.arrays.specs.Layout.{layout_slot}

-- offsets 0, 2, 2, 2 of `ab`, with validity `05`: 'ab', NULL, ''
abbrev three_texts : TextsAt
three_texts = record {
  validity = Some (true ∷ false ∷ true ∷ []);
  offsets = 0 ∷ 0 ∷ 0 ∷ 0 ∷ 2 ∷ 0 ∷ 0 ∷ 0 ∷ 2 ∷ 0 ∷ 0 ∷ 0 ∷ 2 ∷ 0 ∷ 0 ∷ 0 ∷ [];
  bytes = codes "ab";
  len = 3;
}

texts : texts_values three_texts ≡ Text (codes "ab") ∷ Null ∷ Text [] ∷ []
unfolding element_at
texts = refl

-- an offset past the data
past_the_data : texts_stand (record three_texts { bytes = codes "a" }) ≡ false
unfolding element_at
past_the_data = refl

-- data `09` or `0B` with validity `0D`: TRUE, NULL, FALSE, TRUE
abbrev four_bools : Bit → BoolsAt
four_bools second = record { validity = Some (true ∷ false ∷ true ∷ true ∷ []); values = true ∷ second ∷ false ∷ true ∷ [] }

bools : (second : Bit) → map (layout_slot (layout.Bools (four_bools second))) (range_with_len 0 4) ≡ Bool true ∷ Null ∷ Bool false ∷ Bool true ∷ []
bools second = refl

-- sixteen bytes `FF`: -1
decimals : layout_slot (layout.Decimals (record { validity = None; values = replicate 16 255; len = 1 })) 0 ≡ Int (negsuc 0)
unfolding element_at
decimals = refl

-- 1, 2; and with validity `02` NULL, 2
abbrev two_numbers : Option (List Bit) → IntegersAt
two_numbers validity = record { integer = Int64; validity = validity; values = 1 ∷ 0 ∷ 0 ∷ 0 ∷ 0 ∷ 0 ∷ 0 ∷ 0 ∷ 2 ∷ 0 ∷ 0 ∷ 0 ∷ 0 ∷ 0 ∷ 0 ∷ 0 ∷ []; len = 2 }

numbers : map (layout_slot (layout.Integers (two_numbers None))) (range_with_len 0 2) ≡ Int (pos 1) ∷ Int (pos 2) ∷ []
unfolding element_at
numbers = refl

a_null : map (layout_slot (layout.Integers (two_numbers (Some (false ∷ true ∷ []))))) (range_with_len 0 2) ≡ Null ∷ Int (pos 2) ∷ []
unfolding element_at
a_null = refl

-- 255 with a sign of eight bits, without one, and with one of sixteen; and the least number of 64 bits
signs : map (λ integer. number_from integer 255) (Int8 ∷ UInt8 ∷ Int16 ∷ []) ≡ negsuc 0 ∷ pos 255 ∷ pos 255 ∷ []
signs = refl

least : number_from Int64 9223372036854775808 ≡ negsuc 9223372036854775807
least = refl

-- dictionary 'x', NULL with indices 0, 1 and a null: 'x', NULL, NULL
abbrev three_indices : IndicesAt
three_indices = record { index = Int8; validity = Some (true ∷ true ∷ false ∷ []); values = 0 ∷ 1 ∷ 9 ∷ []; dictionary = Text (codes "x") ∷ Null ∷ []; len = 3 }

indices : map (layout_slot (layout.Indices three_indices)) (range_with_len 0 3) ≡ Text (codes "x") ∷ Null ∷ Null ∷ []
unfolding element_at
indices = refl

-- the null's index may lie outside the dictionary, and a valid one may not
outside : map (index_stands three_indices) (range_with_len 0 3) ≡ true ∷ true ∷ true ∷ []
unfolding element_at
outside = refl

refused : index_stands (record three_indices { validity = None }) 2 ≡ false
unfolding element_at
refused = refl

negative : index_stands (record three_indices { values = 255 ∷ [] }) 0 ≡ false
unfolding element_at
negative = refl

-- the dictionary with 'ab', NULL and '' after it
extended : extended_by three_indices.dictionary three_texts ≡ Ok (Text (codes "x") ∷ Null ∷ Text (codes "ab") ∷ Null ∷ Text [] ∷ [])
unfolding extended_by element_at
extended = refl

-- indices 2, 0, 4 and 2 into it, and a null one: 'ab', 'x', '', 'ab', NULL
repeated : map (layout_slot (layout.Indices (record three_indices {
  validity = Some (true ∷ true ∷ true ∷ true ∷ false ∷ []);
  values = 2 ∷ 0 ∷ 4 ∷ 2 ∷ 255 ∷ [];
  dictionary = Text (codes "x") ∷ Null ∷ Text (codes "ab") ∷ Null ∷ Text [] ∷ [];
  len = 5;
}))) (range_with_len 0 5) ≡ Text (codes "ab") ∷ Text (codes "x") ∷ Text [] ∷ Text (codes "ab") ∷ Null ∷ []
unfolding element_at
repeated = refl
