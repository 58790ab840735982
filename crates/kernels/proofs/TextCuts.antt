-- Texts that offsets cut: how long they are, and which ones are a given one.
use Rattle.std.proofs.Common.{◌≡◌, ℕ, ◌+◌, ◌-◌, ◌%◌, ◌^◌, ◌<◌, ◌≤◌, ◌==◌, Bool, true, false, not, if◌then◌else◌, List, [], ◌∷◌, length, map, drop, Option, Some, None, refl, sym, ap, ◌∙◌, arith, length-drop}
use Rattle.std.specs.Str.{bytes_eq}
use Rattle.std.specs.declared.cmp.Ordering.{Ordering}
use Rattle.std.specs.declared.cmp.Ordering.TheVariants as order
use Rattle.std.proofs.lemmas.Bool.{eq-eqb, ne_eqb}
use Rattle.std.proofs.lemmas.List.{length-take-le}
use Rattle.std.proofs.lemmas.Map.Text.{is_eq-slice_cmp}
use Rattle.std.proofs.lemmas.Slice.Eq.{bytes_eq-Decides}
use Rattle.scan_base.specs.declared.truth.Truth.{Truth}
use Rattle.scan_base.specs.declared.value.Value.{Value}
use Rattle.scan_base.specs.declared.value.Value.TheVariants.{Null, Text}
use Rattle.scan_base.specs.declared.comparison.Comparison.TheVariants.{Equal, NotEqual}
use Rattle.scan_base.specs.Truth.{truth_from, truth_not}
use Rattle.scan_base.specs.Comparison.{compared, order_of, judged}
use Rattle.arrays.specs.Number.{element_at}
use Rattle.kernels.specs.Ranges.{where_known}
use Rattle.kernels.specs.TextTests.{AreCut, cut_at, is_far}

-- a text is as long as its offsets are apart
pub length-cut : (offsets bytes : List ℕ) (count place : ℕ) → AreCut offsets bytes count → place < count →
    length (cut_at offsets bytes place) ≡ element_at 4 offsets (place + 1) - element_at 4 offsets place
length-cut offsets bytes count place cut lt =
    let low = cut.rise place lt in
    let high = cut.within place lt in
    length-take-le (element_at 4 offsets (place + 1) - element_at 4 offsets place) (drop (element_at 4 offsets place) bytes) (omega (arith, low, high, length-drop (element_at 4 offsets place) bytes))

-- its length by the two offsets, in numbers of 32 bits
pub far_test : (offsets bytes : List ℕ) (count place far : ℕ) → AreCut offsets bytes count → place < count →
    is_far far offsets place ≡ (length (cut_at offsets bytes place) == far)
far_test offsets bytes count place far cut lt =
    let low = cut.rise place lt in
    let high = cut.short place lt in
    let apart : (element_at 4 offsets (place + 1) + (2 ^ 32 - element_at 4 offsets place)) % 2 ^ 32 ≡ element_at 4 offsets (place + 1) - element_at 4 offsets place = omega (arith, low, high) in
    ap (λ m. m == far) (apart ∙ sym (length-cut offsets bytes count place cut lt))

-- no text is so long that no offset names its end
pub too_long : (offsets bytes : List ℕ) (count place n : ℕ) → AreCut offsets bytes count → place < count → 2 ^ 32 ≤ n → false ≡ (length (cut_at offsets bytes place) == n)
too_long offsets bytes count place n cut lt big =
    let high = cut.short place lt in
    sym (ne_eqb (length (cut_at offsets bytes place)) n (λ e. absurd (omega (arith, e, big, length-cut offsets bytes count place cut lt, high))))

-- a text of another length is another text
pub other_length : (xs ys : List ℕ) → (length xs == length ys) ≡ false → false ≡ bytes_eq xs ys
other_length xs ys differ = sym (by (bytes_eq xs ys) (bytes_eq-Decides xs ys).0)
  where
    by : (b : Bool) → (b ≡ true → xs ≡ ys) → b ≡ false
    by false same = refl
    by true same = absurd (let e : length xs ≡ length ys = ap length (same refl) in let t = eq-eqb (length xs) (length ys) e in cc)

-- what `=` says of a slot
pub equal_slot : (known : Bool) (text other : List ℕ) → where_known known (bytes_eq text other) ≡ compared Equal (if known then Text text else Null) (Text other)
equal_slot true text other = ap truth_from (sym (is_eq-slice_cmp text other))
equal_slot false text other = refl

-- and `<>`
pub unequal_slot : (value : Value) (other : List ℕ) → truth_not (compared Equal value (Text other)) ≡ compared NotEqual value (Text other)
unequal_slot value other = by (order_of value (Text other))
  where
    turned : (b : Bool) → truth_not (truth_from b) ≡ truth_from (not b)
    turned true = refl
    turned false = refl

    by : (o : Option Ordering) → truth_not (judged Equal o) ≡ judged NotEqual o
    by None = refl
    by (Some order.Less) = refl
    by (Some order.Equal) = refl
    by (Some order.Greater) = refl

pub turned : (f g : ℕ → Truth) (places : List ℕ) → ((place : ℕ) → truth_not (f place) ≡ g place) → map truth_not (map f places) ≡ map g places
turned f g [] same = refl
turned f g (place ∷ places) same = ap (λ t. t ∷ map truth_not (map f places)) (same place) ∙ ap (λ ts. g place ∷ ts) (turned f g places same)

-- ---- texts that stand are cut
