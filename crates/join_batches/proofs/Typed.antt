-- Columns of types, by their numbers.
use Rattle.std.proofs.Common.{◌≡◌, ◌≤◌, ◌<◌, ℕ, zero, suc, ◌+◌, true, All, List, [], ◌∷◌, ◌++◌, length, map, get_or, take, nat_lt, slice_get, unwrap_or, refl, sym, ap, ◌∙◌, subst, arith}
use Rattle.std.specs.List.{list_all, range_with_len}
use Rattle.std.proofs.lemmas.Bool.{and_parts, lt-ltb, ltb-true}
use Rattle.std.proofs.lemmas.List.{take_more, map-append}
use Rattle.std.proofs.lemmas.List.Elements.{All-nil, All-cons}
use Rattle.std.proofs.lemmas.List.FromFn.{fill_by_all}
use Rattle.std.proofs.lemmas.Option.{unwrap_or-slice_get}
use Rattle.arrow_types.specs.declared.data_type.DataType.{DataType}
use Rattle.arrow_types.specs.declared.data_type.DataType.TheVariants.{Utf8}
use Rattle.arrays.specs.Column.{ColumnAt}
use Rattle.arrays.specs.TypedLayouts.{AreOf, IsOfType}

-- they are as many as the types
pub typed_long : (types : List DataType) (columns : List ColumnAt) → AreOf types columns → length columns ≡ length types
typed_long [] [] typed = refl
typed_long [] (column ∷ columns) typed = absurd typed
typed_long (data_type ∷ types) [] typed = absurd typed
typed_long (data_type ∷ types) (column ∷ columns) typed = ap suc (typed_long types columns typed.1)

-- each is of its type
pub typed_at : (types : List DataType) (columns : List ColumnAt) (number : ℕ) (none : DataType) (other : ColumnAt) →
    AreOf types columns → number < length types → IsOfType (get_or types number none) (get_or columns number other).layout
typed_at [] columns number none other typed h = absurd (omega (arith, h))
typed_at (data_type ∷ types) [] number none other typed h = absurd typed
typed_at (data_type ∷ types) (column ∷ columns) zero none other typed h = typed.0
typed_at (data_type ∷ types) (column ∷ columns) (suc number) none other typed h =
    typed_at types columns number none other typed.1 (omega (arith, h))

-- one number of a range more
pub range_more : (a n j : ℕ) → a + n ≡ j → range_with_len a (n + 1) ≡ range_with_len a n ++ j ∷ []
range_more a zero j e = let same : a ≡ j = omega (arith, e) in ap (λ (number : ℕ). number ∷ []) same
range_more a (suc n) j e =
    let later : suc n + 1 ≡ suc (n + 1) = omega arith in
    rw later (ap (λ (rest : List ℕ). a ∷ rest) (range_more (a + 1) n j (omega (arith, e))))

-- all of them are there
pub range_within : (first count width : ℕ) → first + count ≤ width → list_all (λ number. nat_lt number width) (range_with_len first count) ≡ true
range_within first zero width h = refl
range_within first (suc count) width h =
    rw (lt-ltb first width (omega (arith, h)), range_within (first + 1) count width (omega (arith, h))) refl

-- one number more
pub taken_more : (shown : List ℕ) (i number : ℕ) → i < length shown → number ≡ get_or shown i 0 → take (i + 1) shown ≡ take i shown ++ number ∷ []
taken_more shown i number h is = take_more shown i 0 h ∙ ap (λ (last : ℕ). take i shown ++ last ∷ []) (sym is)

-- columns that are there, one by one
pub all_within : (width : ℕ) (shown : List ℕ) → list_all (λ number. nat_lt number width) shown ≡ true → All (λ number. number < width) shown
all_within width [] h = All-nil (λ (number : ℕ). number < width)
all_within width (number ∷ shown) h =
    let parts = and_parts (nat_lt number width) (list_all (λ number. nat_lt number width) shown) h in
    All-cons (λ (number : ℕ). number < width) number shown (ltb-true number width parts.0) (all_within width shown parts.1)

-- one column more
pub typed_more : (types : List DataType) (columns : List ColumnAt) (data_type : DataType) (column : ColumnAt) →
    AreOf types columns → IsOfType data_type column.layout → AreOf (types ++ data_type ∷ []) (columns ++ column ∷ [])
typed_more [] [] data_type column typed is = (is, tt)
typed_more [] (other ∷ columns) data_type column typed is = absurd typed
typed_more (other ∷ types) [] data_type column typed is = absurd typed
typed_more (other ∷ types) (one ∷ columns) data_type column typed is = (typed.0, typed_more types columns data_type column typed.1 is)

-- one shown column more
pub shown_more : (type_of : ℕ → DataType) (shown : List ℕ) (i number : ℕ) (columns all : List ColumnAt) (column : ColumnAt) → i < length shown →
    number ≡ get_or shown i 0 → all ≡ columns ++ column ∷ [] → AreOf (map type_of (take i shown)) columns → IsOfType (type_of number) column.layout →
    AreOf (map type_of (take (i + 1) shown)) all
shown_more type_of shown i number columns all column h is e typed one =
    subst (λ (some : List ColumnAt). AreOf (map type_of (take (i + 1) shown)) some) (sym e)
    (subst (λ (some : List DataType). AreOf some (columns ++ column ∷ []))
    (sym (ap (map type_of) (taken_more shown i number h is) ∙ map-append type_of (take i shown) (number ∷ [])))
    (typed_more (map type_of (take i shown)) columns (type_of number) column typed one))

-- all types, by their numbers
pub all_types : (types : List DataType) → map (λ number. unwrap_or (slice_get types number) Utf8) (range_with_len 0 (length types)) ≡ types
all_types types = sym (fill_by_all (λ number. unwrap_or (slice_get types number) Utf8) types (length types) Utf8 refl (λ k h. sym (unwrap_or-slice_get types k Utf8)))
