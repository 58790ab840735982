-- A pruned plan names each column that its scans give.
use Rattle.std.proofs.Common.{◌≡◌, ◌<◌, ◌≤◌, ℕ, ◌+◌, ◌-◌, Bool, true, false, ◌||◌, ◌==◌, if◌then◌else◌, List, [], ◌∷◌, length, map, take, drop, nat_lt, refl, sym, ap, ◌∙◌, arith}
use Rattle.std.specs.List.{list_any}
use Rattle.std.proofs.lemmas.Bool.{or_left, or_right, eq-eqb, eqb-true, ltb-true, ltb-false}
use Rattle.std.proofs.lemmas.List.{length-append, length-take-le, length-drop}
use Rattle.typed_plan.specs.declared.plan.Aggregate.{Aggregate}
use Rattle.typed_plan.specs.declared.plan.Aggregate.TheVariants.{Key, CountRows, Count, Sum}
use Rattle.typed_plan.specs.declared.plan.Columns.TheVariants.{All, These}
use Rattle.typed_plan.specs.declared.plan.JoinKey.{JoinKey}
use Rattle.typed_plan.specs.declared.plan.Output.{Output}
use Rattle.typed_plan.specs.declared.plan.Output.TheVariants.{Project, Groups}
use Rattle.typed_plan.specs.NumberedPredicates.{predicate_map}
use Rattle.typed_plan.specs.Plan.{Tree, scan, filtered, joined}
use Rattle.typed_plan.specs.TypedPlans.{tree_types}
use Rattle.rewrite.specs.Places.{tree_width}
use Rattle.rewrite.specs.PrunedColumns.{is_used, used_number, names_column, key_names, tree_names, item_names, output_names, used_key, item_in, output_in, pruned}
use Rattle.rewrite.specs.Uses.{uses_of}
use Rattle.rewrite.proofs.Marks.{uses_width, used_named}
use Rattle.rewrite.proofs.NamedColumns.{named_map}
use Rattle.rewrite.proofs.PrunedTrees.{pruned_width}
use Rattle.rewrite.proofs.UsedColumns.{count, used_within, used_take, used_drop, number_take, number_drop, number_lt, used_of_number}

same_number : (f : ℕ → ℕ) (a b : ℕ) → (a == b) ≡ true → (f a == f b) ≡ true
same_number f a b e = eq-eqb (f a) (f b) (ap f (eqb-true a b e))

-- one of two that are named, and what it gives
either : (a b c d : Bool) → (a ≡ true → c ≡ true) → (b ≡ true → d ≡ true) → (a || b) ≡ true → (c || d) ≡ true
either true b c d f g e = or_left c d (f refl)
either false b c d f g e = or_right c d (g e)

module _ (uses : List Bool) where
  column_named : (columns : List ℕ) (n : ℕ) → list_any (λ column. column == n) columns ≡ true →
      list_any (λ column. column == used_number uses n) (map (used_number uses) columns) ≡ true
  column_named [] n e = cc
  column_named (column ∷ columns) n e =
      either (column == n) (list_any (λ c. c == n) columns) (used_number uses column == used_number uses n)
      (list_any (λ c. c == used_number uses n) (map (used_number uses) columns))
      (same_number (used_number uses) column n) (column_named columns n) e

  key_named : (key : JoinKey) (n : ℕ) → key_names n key ≡ true → key_names (used_number uses n) (used_key uses key) ≡ true
  key_named key n e =
      either (key.left == n) (key.right == n) (used_number uses key.left == used_number uses n) (used_number uses key.right == used_number uses n)
      (same_number (used_number uses) key.left n) (same_number (used_number uses) key.right n) e

  keys_named : (on : List JoinKey) (n : ℕ) → list_any (key_names n) on ≡ true → list_any (key_names (used_number uses n)) (map (used_key uses) on) ≡ true
  keys_named [] n e = cc
  keys_named (key ∷ on) n e =
      either (key_names n key) (list_any (key_names n) on) (key_names (used_number uses n) (used_key uses key))
      (list_any (key_names (used_number uses n)) (map (used_key uses) on)) (key_named key n) (keys_named on n) e

  item_named : (item : Aggregate) (n : ℕ) → item_names n item ≡ true → item_names (used_number uses n) (item_in uses item) ≡ true
  item_named (Key place) n e = cc
  item_named CountRows n e = cc
  item_named (Count column) n e = same_number (used_number uses) column n e
  item_named (Sum column) n e = same_number (used_number uses) column n e

  items_named : (items : List Aggregate) (n : ℕ) → list_any (item_names n) items ≡ true → list_any (item_names (used_number uses n)) (map (item_in uses) items) ≡ true
  items_named [] n e = cc
  items_named (item ∷ items) n e =
      either (item_names n item) (list_any (item_names n) items) (item_names (used_number uses n) (item_in uses item))
      (list_any (item_names (used_number uses n)) (map (item_in uses) items)) (item_named item n) (items_named items n) e

  output_named : (output : Output) (n : ℕ) → output_names output n ≡ true → output_names (output_in uses output) (used_number uses n) ≡ true
  output_named (Project All) n e = refl
  output_named (Project (These columns)) n e = column_named columns n e
  output_named (Groups keys items) n e =
      either (list_any (λ key. key == n) keys) (list_any (item_names n) items) (list_any (λ key. key == used_number uses n) (map (used_number uses) keys))
      (list_any (item_names (used_number uses n)) (map (item_in uses) items)) (column_named keys n) (items_named items n) e

-- what is named on one side of a seam is named there under its new number
side_named : (uses : List Bool) (seam n : ℕ) → is_used uses n ≡ true → (left right l r : Tree) →
    ((m : ℕ) → is_used (take seam uses) m ≡ true → tree_names left m ≡ true → tree_names l (used_number (take seam uses) m) ≡ true) →
    ((m : ℕ) → is_used (drop seam uses) m ≡ true → tree_names right m ≡ true → tree_names r (used_number (drop seam uses) m) ≡ true) →
    (b : Bool) → nat_lt n seam ≡ b → (if b then tree_names left n else tree_names right (n - seam)) ≡ true →
    (if nat_lt (used_number uses n) (count (take seam uses)) then tree_names l (used_number uses n) else tree_names r (used_number uses n - count (take seam uses))) ≡ true
side_named uses seam n u left right l r one other true lt named =
    let s = ltb-true n seam lt in
    ap (λ b. if b then tree_names l (used_number uses n) else tree_names r (used_number uses n - count (take seam uses))) (number_lt uses seam n u ∙ lt)
    ∙ ap (tree_names l) (sym (number_take uses seam n s))
    ∙ one n (used_take uses seam n s ∙ u) named
side_named uses seam n u left right l r one other false lt named =
    let s = ltb-false n seam lt in
    let whole : n ≡ seam + (n - seam) = omega (arith, s) in
    let d = number_drop uses seam (n - seam) n whole in
    let m : used_number uses n - count (take seam uses) ≡ used_number (drop seam uses) (n - seam) = omega (arith, d) in
    ap (λ b. if b then tree_names l (used_number uses n) else tree_names r (used_number uses n - count (take seam uses))) (number_lt uses seam n u ∙ lt)
    ∙ ap (tree_names r) m
    ∙ other (n - seam) (used_drop uses seam (n - seam) n whole ∙ u) named

-- what a filter or an ON names, it names under its new number
tree_named : (uses : List Bool) (tree : Tree) → length uses ≡ tree_width tree → (n : ℕ) → is_used uses n ≡ true → tree_names tree n ≡ true →
    tree_names (pruned uses tree) (used_number uses n) ≡ true
tree_named uses (scan table schema columns) wide n u e = cc
tree_named uses (filtered predicate tree) wide n u e =
    either (names_column predicate n) (tree_names tree n) (names_column (predicate_map (used_number uses) predicate) (used_number uses n))
    (tree_names (pruned uses tree) (used_number uses n)) (named_map (used_number uses) predicate n) (tree_named uses tree wide n u) e
tree_named uses (joined left right on) wide n u e =
    let seam = tree_width left in
    let both = length-append (tree_types left) (tree_types right) in
    let within : seam ≤ length uses = omega (arith, both, wide) in
    let front : length (take seam uses) ≡ seam = length-take-le seam uses within in
    let back : length (drop seam uses) ≡ tree_width right = let d = length-drop seam uses in omega (arith, d, both, wide) in
    let l = pruned (take seam uses) left in
    let r = pruned (drop seam uses) right in
    let new = used_number uses n in
    either (list_any (key_names n) on) (if nat_lt n seam then tree_names left n else tree_names right (n - seam))
    (list_any (key_names new) (map (used_key uses) on))
    (if nat_lt new (tree_width l) then tree_names l new else tree_names r (new - tree_width l)) (keys_named uses on n)
    (λ named.
    ap (λ k. if nat_lt new k then tree_names l new else tree_names r (new - k)) (pruned_width (take seam uses) left front)
    ∙ side_named uses seam n u left right l r (tree_named (take seam uses) left front) (tree_named (drop seam uses) right back) (nat_lt n seam) refl named) e

-- each column of a pruned plan is named
pub all_named : (tree : Tree) (output : Output) (n : ℕ) → n < tree_width (pruned (uses_of tree output) tree) →
    (output_names (output_in (uses_of tree output) output) n || tree_names (pruned (uses_of tree output) tree) n) ≡ true
all_named tree output n lt =
    let uses = uses_of tree output in
    let wide = uses_width tree output in
    let found = used_of_number uses n (let w = pruned_width uses tree wide in omega (arith, lt, w)) in
    let m = found.0 in
    let there : m < tree_width tree = let h = used_within uses m found.1 in omega (arith, h, wide) in
    ap (λ k. output_names (output_in uses output) k || tree_names (pruned uses tree) k) (sym found.2)
    ∙ either (output_names output m) (tree_names tree m) (output_names (output_in uses output) (used_number uses m)) (tree_names (pruned uses tree) (used_number uses m))
    (output_named uses output m) (tree_named uses tree wide m found.1) (sym (used_named tree output m there) ∙ found.1)
