-- Codes that stand among others.
use Rattle.std.proofs.Common.{◌≡◌, ℕ, zero, suc, ◌+◌, ◌*◌, ◌^◌, ◌<◌, ◌≤◌, ◌==◌, Bool, true, false, ◌||◌, if◌then◌else◌, List, [], ◌∷◌, length, map, get_or, drop, drop-cons, Option, Some, None, Result, Ok, Err, IfOk, IfSome, inl, inr, refl, sym, ap, ◌∙◌, arith, add-one}
use Rattle.std.specs.Int.RustNames.{bit_or}
use Rattle.std.proofs.lemmas.Bool.{cases_eq, eq-eqb, ne_eqb}
use Rattle.std.proofs.lemmas.List.{drop_all}
use Rattle.byteorder.specs.Numbers.{little_from-lt}
use Rattle.scan_base.specs.declared.truth.Truth.TheVariants.{Unknown}
use Rattle.scan_base.specs.declared.value.Value.{Value}
use Rattle.scan_base.specs.declared.value.Value.TheVariants.{Null, Bool as Flag, Int, Text}
use Rattle.scan_base.specs.declared.comparison.Comparison.TheVariants.{Equal}
use Rattle.scan_base.specs.declared.predicate.Operand.{Operand}
use Rattle.scan_base.specs.Comparison.{compared}
use Rattle.scan_base.specs.Predicate.{any_equal, operand_value}
use Rattle.scan_base.specs.Truth.{truth_or, truth_from}
use Rattle.scan_base.proofs.Truths.{or_assoc, false_or, or_false}
use Rattle.arrow_types.specs.declared.data_type.IntegerType.{IntegerType}
use Rattle.arrow_types.specs.declared.data_type.IntegerType.TheVariants.{Int8, Int16, Int32, Int64, UInt8, UInt16, UInt32, UInt64}
use Rattle.arrow_types.specs.DataType.{bit_width}
use Rattle.arrays.specs.declared.layout.Layout.TheVariants.{Integers}
use Rattle.arrays.specs.Integers.{IntegersAt}
use Rattle.arrays.specs.Layout.{layout_slot}
use Rattle.arrays.specs.Number.{AreBytes, element_at, number_from}
use Rattle.arrays.specs.Validity.{is_valid}
use Rattle.kernels.specs.Codes.{code_at, is_among}
use Rattle.kernels.specs.Items.{AreCodesOf}
use Rattle.kernels.specs.Ranges.{where_known}
use Rattle.kernels.specs.Words.{bit}
use Rattle.kernels.proofs.Bits.{or_bit, bit_of_none}
use Rattle.kernels.proofs.WordRows.{same_map}

pub eq_turn : (a b : ℕ) → (a == b) ≡ (b == a)
eq_turn a b = elim (cases_eq a b) [
  | inl same ↦ eq-eqb a b same ∙ sym (eq-eqb b a (sym same))
  | inr other ↦ ne_eqb a b other ∙ sym (ne_eqb b a (λ same. other (sym same)))
]

either_assoc : (a b c : Bool) → ((a || b) || c) ≡ (a || (b || c))
either_assoc true b c = refl
either_assoc false b c = refl

either_false : (a : Bool) → (a || false) ≡ a
either_false true = refl
either_false false = refl

-- the item at a place stands in front of those after it
pub item_first : {X : Type 0} (xs : List X) (i : ℕ) (x : X) → i < length xs → x ≡ get_or xs i x → drop i xs ≡ x ∷ drop (i + 1) xs
item_first {X = X} xs i x low is = rw (add-one, drop-cons xs i x low) (ap (λ (y : X). y ∷ drop (suc i) xs) (sym is))

-- ---- a word that gathers the rows of one code after another

-- the rows of the first `i` codes stand in a word
abbrev pub Gathers : List ℕ → (ℕ → ℕ) → ℕ → ℕ → Type 0
Gathers codes code_of i word = (row : ℕ) → row < 64 → (bit word row || is_among (drop i codes) (code_of row)) ≡ is_among codes (code_of row)

pub gathers_none : (codes : List ℕ) (code_of : ℕ → ℕ) → Gathers codes code_of 0 0
gathers_none codes code_of row lt = ap (λ b. b || is_among codes (code_of row)) (bit_of_none row)

pub gathers_more : (codes : List ℕ) (code_of : ℕ → ℕ) (i word part code : ℕ) → i < length codes → code ≡ get_or codes i 0 → Gathers codes code_of i word →
    ((row : ℕ) → row < 64 → bit part row ≡ (code_of row == code)) → Gathers codes code_of (i + 1) (bit_or word part)
gathers_more codes code_of i word part code low is had more row lt =
    let rest = is_among (drop (suc i) codes) (code_of row) in
    ap (λ n. bit (bit_or word part) row || is_among (drop n codes) (code_of row)) (add-one i)
    ∙ ap (λ b. b || rest) (or_bit word part row ∙ ap (λ b. bit word row || b) (more row lt ∙ eq_turn (code_of row) code ∙ ap (λ n. n == code_of row) is))
    ∙ either_assoc (bit word row) (get_or codes i 0 == code_of row) rest
    ∙ ap (λ l. bit word row || is_among l (code_of row)) (sym (drop-cons codes i 0 low))
    ∙ had row lt

pub gathers_all : (codes : List ℕ) (code_of : ℕ → ℕ) (i word : ℕ) → length codes ≤ i → Gathers codes code_of i word →
    (row : ℕ) → row < 64 → bit word row ≡ is_among codes (code_of row)
gathers_all codes code_of i word all had row lt =
    sym (either_false (bit word row)) ∙ ap (λ l. bit word row || is_among l (code_of row)) (sym (drop_all i codes all)) ∙ had row lt

-- ---- one code more

-- ---- items

-- the codes of the first `i` items
abbrev pub HasCodes : IntegerType → List (Operand ℕ) → ℕ → List ℕ → Type 0
HasCodes integer items i codes = (cell : ℕ → Value) (code : ℕ) → code < 2 ^ bit_width integer →
    truth_or (truth_from (is_among codes code)) (any_equal cell (Int (number_from integer code)) (drop i items)) ≡ any_equal cell (Int (number_from integer code)) items

pub codes_none : (integer : IntegerType) (items : List (Operand ℕ)) (codes : List ℕ) → codes ≡ [] → HasCodes integer items 0 codes
codes_none integer items codes none cell code lt =
    ap (λ l. truth_or (truth_from (is_among l code)) (any_equal cell (Int (number_from integer code)) items)) none ∙ false_or (any_equal cell (Int (number_from integer code)) items)

pub codes_more : (integer : IntegerType) (items : List (Operand ℕ)) (i : ℕ) (item : Operand ℕ) (olds news : List ℕ) → drop i items ≡ item ∷ drop (i + 1) items → HasCodes integer items i olds →
    ((cell : ℕ → Value) (code : ℕ) → code < 2 ^ bit_width integer →
    truth_from (is_among news code) ≡ truth_or (truth_from (is_among olds code)) (compared Equal (Int (number_from integer code)) (operand_value cell item))) →
    HasCodes integer items (i + 1) news
codes_more integer items i item olds news split had more cell code lt =
    let value = Int (number_from integer code) in
    let rest = any_equal cell value (drop (i + 1) items) in
    let this = compared Equal value (operand_value cell item) in
    ap (λ t. truth_or t rest) (more cell code lt)
    ∙ or_assoc (truth_from (is_among olds code)) this rest
    ∙ ap (λ l. truth_or (truth_from (is_among olds code)) (any_equal cell value l)) (sym split)
    ∙ had cell code lt

null_unknown : (value : Value) → compared Equal Null value ≡ Unknown
null_unknown Null = refl
null_unknown (Flag b) = refl
null_unknown (Int n) = refl
null_unknown (Text t) = refl

null_more : (cell : ℕ → Value) (items : List (Operand ℕ)) → truth_or Unknown (any_equal cell Null items) ≡ Unknown
null_more cell [] = refl
null_more cell (item ∷ items) =
    ap (λ t. truth_or Unknown (truth_or t (any_equal cell Null items))) (null_unknown (operand_value cell item))
    ∙ ap (truth_or Unknown) (null_more cell items)

nulls_unknown : (cell : ℕ → Value) (items : List (Operand ℕ)) → 0 < length items → any_equal cell Null items ≡ Unknown
nulls_unknown cell [] some = absurd (omega (arith, some))
nulls_unknown cell (item ∷ items) some =
    ap (λ t. truth_or t (any_equal cell Null items)) (null_unknown (operand_value cell item)) ∙ null_more cell items

pub codes_all : (integer : IntegerType) (items : List (Operand ℕ)) (i : ℕ) (codes : List ℕ) → 0 < length items → length items ≤ i → HasCodes integer items i codes →
    AreCodesOf integer items codes
codes_all integer items i codes some all had = record {
  numbers = λ cell code lt.
      sym (sym (or_false (truth_from (is_among codes code)))
      ∙ ap (λ l. truth_or (truth_from (is_among codes code)) (any_equal cell (Int (number_from integer code)) l)) (sym (drop_all i items all))
      ∙ had cell code lt);
  nulls = λ cell. nulls_unknown cell items some;
}

pub not_none : (n : ℕ) (none : Bool) → none ≡ false → none ≡ (n == 0) → 0 < n
not_none zero none e is = absurd (clash (sym e ∙ is))
  where
    clash : false ≡ true → ⊥
    clash e = cc
not_none (suc n) none e is = omega arith

-- what is said of a mask that may be found
pub found_again : {X E : Type 0} (result : Result (Option X) E) (P Q : X → Type 0) → ((x : X) → P x → Q x) → IfOk result (λ found. IfSome found P) → IfOk result (λ found. IfSome found Q)
found_again (Ok (Some x)) P Q more had = more x had
found_again (Ok None) P Q more had = had
found_again (Err e) P Q more had = had

-- what is said of a result
pub ok_again : {X E : Type 0} (result : Result X E) (P Q : X → Type 0) → ((x : X) → P x → Q x) → IfOk result P → IfOk result Q
ok_again (Ok x) P Q more had = more x had
ok_again (Err e) P Q more had = had

-- ---- slots

small : (width bits place : ℕ) (values : List ℕ) → 256 ^ width ≡ 2 ^ bits → AreBytes values → element_at width values place < 2 ^ bits
unfolding element_at
small width bits place values same bytes = rw (← same) (little_from-lt (width * place) width values bytes)

pub code_small : (integer : IntegerType) (values : List ℕ) (place : ℕ) → AreBytes values → code_at integer values place < 2 ^ bit_width integer
code_small Int8 values place bytes = small 1 8 place values refl bytes
code_small Int16 values place bytes = small 2 16 place values refl bytes
code_small Int32 values place bytes = small 4 32 place values refl bytes
code_small Int64 values place bytes = small 8 64 place values refl bytes
code_small UInt8 values place bytes = small 1 8 place values refl bytes
code_small UInt16 values place bytes = small 2 16 place values refl bytes
code_small UInt32 values place bytes = small 4 32 place values refl bytes
code_small UInt64 values place bytes = small 8 64 place values refl bytes

slot_among : (valid : Bool) (cell : ℕ → Value) (integer : IntegerType) (items : List (Operand ℕ)) (codes : List ℕ) (code : ℕ) → code < 2 ^ bit_width integer → AreCodesOf integer items codes →
    where_known valid (is_among codes code) ≡ any_equal cell (if valid then Int (number_from integer code) else Null) items
slot_among true cell integer items codes code lt are = sym (are.numbers cell code lt)
slot_among false cell integer items codes code lt are = sym (are.nulls cell)

-- what is said of slots by the codes of their numbers
pub slots_among : (cells : IntegersAt) (items : List (Operand ℕ)) (codes : List ℕ) (cell : ℕ → Value) (places : List ℕ) → AreBytes cells.values → AreCodesOf cells.integer items codes →
    map (λ place. where_known (is_valid cells.validity place) (is_among codes (code_at cells.integer cells.values place))) places ≡ map (λ place. any_equal cell (layout_slot (Integers cells) place) items) places
slots_among cells items codes cell places bytes are =
    same_map (λ place. where_known (is_valid cells.validity place) (is_among codes (code_at cells.integer cells.values place))) (λ place. any_equal cell (layout_slot (Integers cells) place) items)
    (λ place. slot_among (is_valid cells.validity place) cell cells.integer items codes (code_at cells.integer cells.values place) (code_small cells.integer cells.values place bytes) are) places
