-- A pruned tree is well typed.
use Rattle.std.proofs.Common.{◌≡◌, ℕ, zero, suc, ◌+◌, Bool, true, not, ◌&&◌, List, [], ◌∷◌, ◌++◌, length, map, take, drop, nat_lt, get_or, unwrap_or, Option, None, Result, refl, sym, ap, ◌∙◌, arith}
use Rattle.std.specs.List.{list_all, range_with_len}
use Rattle.std.proofs.lemmas.Bool.{and_from, and_parts, lt-ltb, ltb-true}
use Rattle.std.proofs.lemmas.List.{length-map}
use Rattle.std.proofs.lemmas.List.FromFn.{fill_by_all}
use Rattle.std.proofs.lemmas.Option.{unwrap_or-slice_get}
use Rattle.arrow_types.specs.declared.data_type.DataType.{DataType}
use Rattle.arrow_types.specs.declared.data_type.DataType.TheVariants.{Utf8}
use Rattle.scan_base.specs.declared.fault.Fault.{Fault}
use Rattle.scan_base.specs.Predicate.{Pred, names_only}
use Rattle.table_versions.specs.Table.{Name}
use Rattle.typed_plan.proofs.ClassFollows.{predicate_follows}
use Rattle.typed_plan.proofs.TypedNames.{then_none}
use Rattle.typed_plan.specs.declared.class.Class.{Class}
use Rattle.typed_plan.specs.declared.plan.Aggregate.{Aggregate}
use Rattle.typed_plan.specs.declared.plan.Aggregate.TheVariants.{Key, CountRows, Count, Sum}
use Rattle.typed_plan.specs.declared.plan.Columns.{Columns}
use Rattle.typed_plan.specs.declared.plan.Columns.TheVariants.{All, These}
use Rattle.typed_plan.specs.declared.plan.JoinKey.{JoinKey}
use Rattle.typed_plan.specs.declared.plan.Output.{Output}
use Rattle.typed_plan.specs.declared.plan.Output.TheVariants.{Project, Groups}
use Rattle.typed_plan.specs.Class.{can_sum}
use Rattle.typed_plan.specs.Faults.{◌then◌, compare_fault, first_in, predicate_fault}
use Rattle.typed_plan.specs.HeldTables.{tree_tables}
use Rattle.typed_plan.specs.NumberedPredicates.{predicate_map}
use Rattle.typed_plan.specs.Plan.{Tree, scan, filtered, joined}
use Rattle.typed_plan.specs.TypedPlans.{class_if_there, class_of_number, key_class_if_there, key_class, has_columns, type_at, types_of, tree_types, is_place, key_fault, spans, IsTypedTree, has_item, item_type, output_types, HasOutput, is_grouping}
use Rattle.rewrite.specs.Places.{tree_width}
use Rattle.rewrite.specs.PrunedColumns.{used_of, is_used, used_number, numbers_of, used_key, item_in, output_in, pruned, uses_key, uses_item, uses_output, AreUsed}
use Rattle.rewrite.proofs.PrunedRows.{used_width}
use Rattle.rewrite.proofs.UsedColumns.{count, kept-map, kept-append, kept_at, kept_pass, kept_whole, kept_width, number_lt, number_there}
use Rattle.rewrite.proofs.WellTyped.{fault_agrees}

-- ---- types

all_types : (types : List DataType) → map (type_at types) (range_with_len 0 (length types)) ≡ types
all_types types = sym (fill_by_all (type_at types) types (length types) Utf8 refl (λ k h. sym (unwrap_or-slice_get types k Utf8)))

-- the types of the used columns
pub pruned_types : (uses : List Bool) (tree : Tree) → tree_types (pruned uses tree) ≡ used_of uses (tree_types tree)
pruned_types uses (scan table schema All) =
    let types = types_of schema.fields in
    let wide : length schema.fields ≡ length types = sym (length-map schema.fields (λ field. field.data_type)) in
    kept-map (type_at types) uses (range_with_len 0 (length schema.fields))
    ∙ ap (λ n. used_of uses (map (type_at types) (range_with_len 0 n))) wide
    ∙ ap (used_of uses) (all_types types)
pruned_types uses (scan table schema (These numbers)) = kept-map (type_at (types_of schema.fields)) uses numbers
pruned_types uses (filtered predicate tree) = pruned_types uses tree
pruned_types uses (joined left right on) =
    let seam = tree_width left in
    ap (λ types. types ++ tree_types (pruned (drop seam uses) right)) (pruned_types (take seam uses) left)
    ∙ ap (λ types. used_of (take seam uses) (tree_types left) ++ types) (pruned_types (drop seam uses) right)
    ∙ kept-append uses (tree_types left) (tree_types right)

-- how many columns are left
pub pruned_width : (uses : List Bool) (tree : Tree) → length uses ≡ tree_width tree → tree_width (pruned uses tree) ≡ count uses
pruned_width uses tree wide = ap length (pruned_types uses tree) ∙ kept_width uses (tree_types tree) (sym wide)

pub pruned_place : (uses : List Bool) (tree : Tree) → is_place (pruned uses tree) ≡ is_place tree
pruned_place uses (scan table schema columns) = refl
pruned_place uses (filtered predicate tree) = pruned_place uses tree
pruned_place uses (joined left right on) = refl

pub pruned_tables : (uses : List Bool) (tree : Tree) → tree_tables (pruned uses tree) ≡ tree_tables tree
pruned_tables uses (scan table schema columns) = refl
pruned_tables uses (filtered predicate tree) = pruned_tables uses tree
pruned_tables uses (joined left right on) =
    ap (λ (names : List Name). names ++ tree_tables (pruned (drop (tree_width left) uses) right)) (pruned_tables (take (tree_width left) uses) left)
    ∙ ap (λ (names : List Name). tree_tables left ++ names) (pruned_tables (drop (tree_width left) uses) right)

-- ---- filters and keys

module _ (uses : List Bool) (types : List DataType) (wide : length types ≡ length uses) where
  class_kept : (n : ℕ) → is_used uses n ≡ true → class_of_number types n ≡ class_of_number (used_of uses types) (used_number uses n)
  class_kept n e = ap class_if_there (sym (kept_at uses types n wide e))

  type_kept : (n : ℕ) → is_used uses n ≡ true → type_at (used_of uses types) (used_number uses n) ≡ type_at types n
  type_kept n e = ap (λ (found : Option DataType). unwrap_or found Utf8) (kept_at uses types n wide e)

  fault_kept : (p : Pred ℕ) → names_only (is_used uses) p ≡ true → predicate_fault (class_of_number types) p ≡ None →
      predicate_fault (class_of_number (used_of uses types)) (predicate_map (used_number uses) p) ≡ None
  fault_kept p h e =
      let seen : ℕ → Result Class Fault = λ n. class_of_number (used_of uses types) (used_number uses n) in
      predicate_follows seen (class_of_number (used_of uses types)) (used_number uses) (λ n class s. s) p
      (sym (fault_agrees (is_used uses) (class_of_number types) seen class_kept p h) ∙ e)

  key_kept : (n : ℕ) → is_used uses n ≡ true → key_class types n ≡ key_class (used_of uses types) (used_number uses n)
  key_kept n e = ap key_class_if_there (sym (kept_at uses types n wide e))

  keys_kept : (on : List JoinKey) → list_all (uses_key uses) on ≡ true → first_in (key_fault types) on ≡ None →
      first_in (key_fault (used_of uses types)) (map (used_key uses) on) ≡ None
  keys_kept [] h e = refl
  keys_kept (key ∷ on) h e =
      let parts = and_parts (uses_key uses key) (list_all (uses_key uses) on) h in
      let both = and_parts (is_used uses key.left) (is_used uses key.right) parts.0 in
      let faults = then_none (key_fault types key) (first_in (key_fault types) on) e in
      let here : key_fault (used_of uses types) (used_key uses key) ≡ None =
      ap (λ class. compare_fault class (key_class (used_of uses types) (used_number uses key.right))) (sym (key_kept key.left both.0))
      ∙ ap (compare_fault (key_class types key.left)) (sym (key_kept key.right both.1)) ∙ faults.0 in
      ap (λ first. first then first_in (key_fault (used_of uses types)) (map (used_key uses) on)) here ∙ keys_kept on parts.1 faults.1

keys_span : (uses : List Bool) (seam : ℕ) (on : List JoinKey) → list_all (uses_key uses) on ≡ true → list_all (spans seam) on ≡ true →
    list_all (spans (count (take seam uses))) (map (used_key uses) on) ≡ true
keys_span uses seam [] h e = refl
keys_span uses seam (key ∷ on) h e =
    let parts = and_parts (uses_key uses key) (list_all (uses_key uses) on) h in
    let both = and_parts (is_used uses key.left) (is_used uses key.right) parts.0 in
    let spanned = and_parts (spans seam key) (list_all (spans seam) on) e in
    let left = count (take seam uses) in
    let here : spans left (used_key uses key) ≡ true =
    ap (λ b. b && not (nat_lt (used_number uses key.right) left)) (number_lt uses seam key.left both.0)
    ∙ ap (λ b. nat_lt key.left seam && not b) (number_lt uses seam key.right both.1) ∙ spanned.0 in
    and_from (spans left (used_key uses key)) (list_all (spans left) (map (used_key uses) on)) here (keys_span uses seam on parts.1 spanned.1)

-- ---- every tree

range_within : (first n width : ℕ) → first + n ≡ width → list_all (λ number. nat_lt number width) (range_with_len first n) ≡ true
range_within first zero width e = refl
range_within first (suc n) width e =
    and_from (nat_lt first width) (list_all (λ number. nat_lt number width) (range_with_len (first + 1) n))
    (lt-ltb first width (omega (arith, e))) (range_within (first + 1) n width (omega (arith, e)))

numbers_within : (columns : Columns) (width : ℕ) → has_columns width columns ≡ true → list_all (λ number. nat_lt number width) (numbers_of columns width) ≡ true
numbers_within All width h = range_within 0 width width (omega arith)
numbers_within (These numbers) width h = h

pub pruned_typed : (uses : List Bool) (tree : Tree) → AreUsed uses tree → IsTypedTree tree → IsTypedTree (pruned uses tree)
pruned_typed uses (scan table schema columns) u h =
    kept_pass (λ number. nat_lt number (length schema.fields)) uses (numbers_of columns (length schema.fields))
    (numbers_within columns (length schema.fields) h)
pruned_typed uses (filtered predicate tree) u h = (
  ap (λ types. predicate_fault (class_of_number types) (predicate_map (used_number uses) predicate)) (pruned_types uses tree)
      ∙ fault_kept uses (tree_types tree) (sym (used_width uses tree u.1)) predicate u.0 h.0,
  pruned_typed uses tree u.1 h.1,
)
pruned_typed uses (joined left right on) u h =
    let seam = tree_width left in
    let wide : length (tree_types left ++ tree_types right) ≡ length uses = sym (used_width uses (joined left right on) u) in (
      pruned_typed (take seam uses) left u.1 h.0,
      pruned_typed (drop seam uses) right u.2 h.1,
      pruned_place (drop seam uses) right ∙ h.2,
      ap (λ types. first_in (key_fault types) (map (used_key uses) on)) (pruned_types uses (joined left right on))
          ∙ keys_kept uses (tree_types left ++ tree_types right) wide on u.0 h.3,
      ap (λ n. list_all (spans n) (map (used_key uses) on)) (pruned_width (take seam uses) left (used_width (take seam uses) left u.1))
          ∙ keys_span uses seam on u.0 h.4,
    )

-- ---- results

module _ (uses : List Bool) (types : List DataType) (wide : length types ≡ length uses) where
  columns_there : (columns : List ℕ) → list_all (is_used uses) columns ≡ true →
      list_all (λ column. nat_lt column (length (used_of uses types))) (map (used_number uses) columns) ≡ true
  columns_there [] u = refl
  columns_there (column ∷ columns) u =
      let parts = and_parts (is_used uses column) (list_all (is_used uses) columns) u in
      and_from (nat_lt (used_number uses column) (length (used_of uses types)))
      (list_all (λ c. nat_lt c (length (used_of uses types))) (map (used_number uses) columns))
      (ap (nat_lt (used_number uses column)) (kept_width uses types wide) ∙ number_there uses column parts.0) (columns_there columns parts.1)

  types_kept : (columns : List ℕ) → list_all (is_used uses) columns ≡ true →
      map (type_at (used_of uses types)) (map (used_number uses) columns) ≡ map (type_at types) columns
  types_kept [] u = refl
  types_kept (column ∷ columns) u =
      let parts = and_parts (is_used uses column) (list_all (is_used uses) columns) u in
      ap (λ first. first ∷ map (type_at (used_of uses types)) (map (used_number uses) columns)) (type_kept uses types wide column parts.0)
      ∙ ap (λ rest. type_at types column ∷ rest) (types_kept columns parts.1)

  item_there : (keys more : ℕ) (item : Aggregate) → more ≡ keys → uses_item uses item ≡ true → has_item keys types item ≡ true →
      has_item more (used_of uses types) (item_in uses item) ≡ true
  item_there keys more (Key place) e u h = ap (nat_lt place) e ∙ h
  item_there keys more CountRows e u h = refl
  item_there keys more (Count column) e u h =
      ap (nat_lt (used_number uses column)) (kept_width uses types wide) ∙ number_there uses column u
  item_there keys more (Sum column) e u h =
      let parts = and_parts (nat_lt column (length types)) (can_sum (type_at types column)) h in
      and_from (nat_lt (used_number uses column) (length (used_of uses types))) (can_sum (type_at (used_of uses types) (used_number uses column)))
      (ap (nat_lt (used_number uses column)) (kept_width uses types wide) ∙ number_there uses column u)
      (ap can_sum (type_kept uses types wide column u) ∙ parts.1)

  items_there : (keys more : ℕ) → more ≡ keys → (items : List Aggregate) → list_all (uses_item uses) items ≡ true → list_all (has_item keys types) items ≡ true →
      list_all (has_item more (used_of uses types)) (map (item_in uses) items) ≡ true
  items_there keys more e [] u h = refl
  items_there keys more e (item ∷ items) u h =
      let used = and_parts (uses_item uses item) (list_all (uses_item uses) items) u in
      let has = and_parts (has_item keys types item) (list_all (has_item keys types) items) h in
      and_from (has_item more (used_of uses types) (item_in uses item)) (list_all (has_item more (used_of uses types)) (map (item_in uses) items))
      (item_there keys more item e used.0 has.0) (items_there keys more e items used.1 has.1)

  key_type : (keys : List ℕ) (place : ℕ) → list_all (is_used uses) keys ≡ true → nat_lt place (length keys) ≡ true →
      type_at (used_of uses types) (get_or (map (used_number uses) keys) place 0) ≡ type_at types (get_or keys place 0)
  key_type [] place u h = absurd (let l = ltb-true place 0 h in omega (arith, l))
  key_type (key ∷ keys) zero u h = type_kept uses types wide key (and_parts (is_used uses key) (list_all (is_used uses) keys) u).0
  key_type (key ∷ keys) (suc place) u h =
      key_type keys place (and_parts (is_used uses key) (list_all (is_used uses) keys) u).1
      (let l = ltb-true (suc place) (suc (length keys)) h in lt-ltb place (length keys) (omega (arith, l)))

  item_type_kept : (keys : List ℕ) (item : Aggregate) → list_all (is_used uses) keys ≡ true → has_item (length keys) types item ≡ true →
      item_type (map (used_number uses) keys) (used_of uses types) (item_in uses item) ≡ item_type keys types item
  item_type_kept keys (Key place) u h = key_type keys place u h
  item_type_kept keys CountRows u h = refl
  item_type_kept keys (Count column) u h = refl
  item_type_kept keys (Sum column) u h = refl

  item_types_kept : (keys : List ℕ) (items : List Aggregate) → list_all (is_used uses) keys ≡ true → list_all (has_item (length keys) types) items ≡ true →
      map (item_type (map (used_number uses) keys) (used_of uses types)) (map (item_in uses) items) ≡ map (item_type keys types) items
  item_types_kept keys [] u h = refl
  item_types_kept keys (item ∷ items) u h =
      let has = and_parts (has_item (length keys) types item) (list_all (has_item (length keys) types) items) h in
      ap (λ first. first ∷ map (item_type (map (used_number uses) keys) (used_of uses types)) (map (item_in uses) items)) (item_type_kept keys item u has.0)
      ∙ ap (λ rest. item_type keys types item ∷ rest) (item_types_kept keys items u has.1)

  pub output_there : (output : Output) → uses_output uses output ≡ true → HasOutput output types → HasOutput (output_in uses output) (used_of uses types)
  output_there (Project All) u h = refl
  output_there (Project (These columns)) u h = columns_there columns u
  output_there (Groups keys items) u h =
      let used = and_parts (list_all (is_used uses) keys) (list_all (uses_item uses) items) u in
      (columns_there keys used.0, items_there (length keys) (length (map (used_number uses) keys)) (length-map keys (used_number uses)) items used.1 h.1)

  pub output_types_kept : (output : Output) → uses_output uses output ≡ true → HasOutput output types →
      output_types (output_in uses output) (used_of uses types) ≡ output_types output types
  output_types_kept (Project All) u h = kept_whole uses types wide u
  output_types_kept (Project (These columns)) u h = types_kept columns u
  output_types_kept (Groups keys items) u h =
      item_types_kept keys items (and_parts (list_all (is_used uses) keys) (list_all (uses_item uses) items) u).0 h.1

pub output_grouping : (uses : List Bool) (output : Output) → is_grouping (output_in uses output) ≡ is_grouping output
output_grouping uses (Project All) = refl
output_grouping uses (Project (These columns)) = refl
output_grouping uses (Groups keys items) = refl
