-- What is marked as used is what a plan names.
use Rattle.std.proofs.Common.{◌≡◌, ◌<◌, ◌≤◌, ℕ, zero, suc, ◌+◌, ◌-◌, Bool, true, false, not, ◌&&◌, ◌||◌, ◌==◌, if◌then◌else◌, List, [], ◌∷◌, ◌++◌, length, take, drop, set, replicate, nat_lt, None, refl, ap, ◌∙◌, arith}
use Rattle.std.specs.List.{list_all, list_any}
use Rattle.std.proofs.Math.ListN.{length-replicate}
use Rattle.std.proofs.lemmas.Bool.{and_from, and_parts, or_left, or_right, ltb-true, ltb-false, lt-ltb, le-ltb, eqb-true, eqb-false, eq-eqb}
use Rattle.std.proofs.lemmas.List.{length-append, length-set, length-take-le, length-drop}
use Rattle.arrow_types.specs.declared.data_type.DataType.{DataType}
use Rattle.scan_base.specs.declared.predicate.Operand.{Operand}
use Rattle.scan_base.specs.declared.predicate.Operand.TheVariants as operand
use Rattle.scan_base.specs.Predicate.{Pred, conjunction, disjunction, negation, truth_test, comparing, between, membership, null_test, constant, operand_names, names_only}
use Rattle.typed_plan.proofs.TypedNames.{then_none, names_there, key_there}
use Rattle.typed_plan.specs.declared.plan.Aggregate.{Aggregate}
use Rattle.typed_plan.specs.declared.plan.Aggregate.TheVariants.{Key, CountRows, Count, Sum}
use Rattle.typed_plan.specs.declared.plan.Columns.TheVariants.{All, These}
use Rattle.typed_plan.specs.declared.plan.JoinKey.{JoinKey}
use Rattle.typed_plan.specs.declared.plan.Output.{Output}
use Rattle.typed_plan.specs.declared.plan.Output.TheVariants.{Project, Groups}
use Rattle.typed_plan.specs.Class.{can_sum}
use Rattle.typed_plan.specs.Faults.{first_in}
use Rattle.typed_plan.specs.Plan.{Tree, scan, filtered, joined}
use Rattle.typed_plan.specs.TypedPlans.{tree_types, IsTypedTree, key_fault, HasOutput, has_item, type_at}
use Rattle.rewrite.specs.Places.{tree_width}
use Rattle.rewrite.specs.PrunedColumns.{is_used, names_column, key_names, tree_names, item_names, output_names, uses_key, uses_item, uses_output, AreUsed}
use Rattle.rewrite.specs.Uses.{with_column, with_uses, with_operand, with_operands, with_predicate, with_keys, with_tree, with_item, with_items, with_output, uses_of}
use Rattle.rewrite.proofs.NamedColumns.{named_pass}
use Rattle.rewrite.proofs.UsedColumns.{used_of_left, used_of_right, used_take, used_drop}

-- what is used then is what was used, and what is named
abbrev pub Marked : List Bool → List Bool → (ℕ → Bool) → Type 0
Marked old new names = (length new ≡ length old) × ((n : ℕ) → n < length old → is_used new n ≡ (is_used old n || names n))

or_false : (b : Bool) → b ≡ (b || false)
or_false true = refl
or_false false = refl

or_assoc : (a b c : Bool) → ((a || b) || c) ≡ (a || (b || c))
or_assoc true b c = refl
or_assoc false b c = refl

marked_none : (uses : List Bool) → Marked uses uses (λ n. false)
marked_none uses = (refl, λ n h. or_false (is_used uses n))

marked_both : (a b c : List Bool) (f g : ℕ → Bool) → Marked a b f → Marked b c g → Marked a c (λ n. f n || g n)
marked_both a b c f g h k = (
  k.0 ∙ h.0,
  λ n lt. k.1 n (let e = h.0 in omega (arith, lt, e)) ∙ ap (λ used. used || g n) (h.1 n lt) ∙ or_assoc (is_used a n) (f n) (g n),
)

marked_as : (a b : List Bool) (f g : ℕ → Bool) → ((n : ℕ) → f n ≡ g n) → Marked a b f → Marked a b g
marked_as a b f g same h = (h.0, λ n lt. h.1 n lt ∙ ap (λ named. is_used a n || named) (same n))

-- ---- columns

set_same : (uses : List Bool) (n : ℕ) → n < length uses → is_used (set uses n true) n ≡ true
set_same [] n h = absurd (omega (arith, h))
set_same (used ∷ uses) zero h = refl
set_same (used ∷ uses) (suc n) h = set_same uses n (omega (arith, h))

set_other : (uses : List Bool) (c n : ℕ) → (c ≡ n → ⊥) → is_used (set uses c true) n ≡ is_used uses n
set_other [] c n h = refl
set_other (used ∷ uses) zero zero h = absurd (h refl)
set_other (used ∷ uses) zero (suc n) h = refl
set_other (used ∷ uses) (suc c) zero h = refl
set_other (used ∷ uses) (suc c) (suc n) h = set_other uses c n (λ e. h (ap suc e))

or_true : (b : Bool) → true ≡ (b || true)
or_true true = refl
or_true false = refl

marked_column : (c : ℕ) (uses : List Bool) → Marked uses (with_column c uses) (λ n. c == n)
marked_column c uses = (length-set uses c true, λ n lt. by n lt (c == n) refl)
  where
    by : (n : ℕ) → n < length uses → (b : Bool) → (c == n) ≡ b → is_used (set uses c true) n ≡ (is_used uses n || b)
    by n lt true e = ap (λ k. is_used (set uses k true) n) (eqb-true c n e) ∙ set_same uses n lt ∙ or_true (is_used uses n)
    by n lt false e = set_other uses c n (eqb-false c n e) ∙ or_false (is_used uses n)

marked_columns : (cs : List ℕ) (uses : List Bool) → Marked uses (with_uses cs uses) (λ n. list_any (λ c. c == n) cs)
marked_columns [] uses = marked_none uses
marked_columns (c ∷ cs) uses =
    marked_both uses (with_column c uses) (with_uses cs (with_column c uses)) (λ n. c == n) (λ n. list_any (λ k. k == n) cs)
    (marked_column c uses) (marked_columns cs (with_column c uses))

-- ---- predicates

not_not : (b : Bool) → b ≡ not (not b)
not_not true = refl
not_not false = refl

not_and : (a b : Bool) → (not a || not b) ≡ not (a && b)
not_and true b = refl
not_and false b = refl

-- with what names both, where tests say what each does not name
marked_and : (a b c : List Bool) (f g : ℕ → Bool) → Marked a b (λ n. not (f n)) → Marked b c (λ n. not (g n)) → Marked a c (λ n. not (f n && g n))
marked_and a b c f g h k =
    marked_as a c (λ n. not (f n) || not (g n)) (λ n. not (f n && g n)) (λ n. not_and (f n) (g n))
    (marked_both a b c (λ n. not (f n)) (λ n. not (g n)) h k)

abbrev others : ℕ → ℕ → Bool
others n column = not (column == n)

marked_operand : (o : Operand ℕ) (uses : List Bool) → Marked uses (with_operand o uses) (λ n. not (operand_names (others n) o))
marked_operand (operand.Column column) uses =
    marked_as uses (with_column column uses) (λ n. column == n) (λ n. not (not (column == n))) (λ n. not_not (column == n)) (marked_column column uses)
marked_operand (operand.Literal value) uses = marked_none uses

marked_operands : (os : List (Operand ℕ)) (uses : List Bool) → Marked uses (with_operands os uses) (λ n. not (list_all (operand_names (others n)) os))
marked_operands [] uses = marked_none uses
marked_operands (o ∷ os) uses =
    marked_and uses (with_operand o uses) (with_operands os (with_operand o uses)) (λ n. operand_names (others n) o) (λ n. list_all (operand_names (others n)) os)
    (marked_operand o uses) (marked_operands os (with_operand o uses))

pub marked_predicate : (p : Pred ℕ) (uses : List Bool) → Marked uses (with_predicate p uses) (names_column p)
marked_predicate (conjunction p q) uses =
    marked_and uses (with_predicate p uses) (with_predicate q (with_predicate p uses)) (λ n. names_only (others n) p) (λ n. names_only (others n) q)
    (marked_predicate p uses) (marked_predicate q (with_predicate p uses))
marked_predicate (disjunction p q) uses =
    marked_and uses (with_predicate p uses) (with_predicate q (with_predicate p uses)) (λ n. names_only (others n) p) (λ n. names_only (others n) q)
    (marked_predicate p uses) (marked_predicate q (with_predicate p uses))
marked_predicate (negation p) uses = marked_predicate p uses
marked_predicate (truth_test negated tested p) uses = marked_predicate p uses
marked_predicate (comparing comparison a b) uses =
    marked_and uses (with_operand a uses) (with_operand b (with_operand a uses)) (λ n. operand_names (others n) a) (λ n. operand_names (others n) b)
    (marked_operand a uses) (marked_operand b (with_operand a uses))
marked_predicate (between negated o low high) uses =
    let one = with_operand o uses in
    let two = with_operand low one in
    let three = with_operand high two in
    marked_and uses one three (λ n. operand_names (others n) o) (λ n. operand_names (others n) low && operand_names (others n) high)
    (marked_operand o uses)
    (marked_and one two three (λ n. operand_names (others n) low) (λ n. operand_names (others n) high)
    (marked_operand low one) (marked_operand high two))
marked_predicate (membership negated o items) uses =
    marked_and uses (with_operand o uses) (with_operands items (with_operand o uses)) (λ n. operand_names (others n) o) (λ n. list_all (operand_names (others n)) items)
    (marked_operand o uses) (marked_operands items (with_operand o uses))
marked_predicate (null_test negated o) uses = marked_operand o uses
marked_predicate (constant truth) uses = marked_none uses

-- ---- trees

marked_keys : (on : List JoinKey) (uses : List Bool) → Marked uses (with_keys on uses) (λ n. list_any (key_names n) on)
marked_keys [] uses = marked_none uses
marked_keys (key ∷ on) uses =
    let one = with_column key.left uses in
    let two = with_column key.right one in
    marked_both uses two (with_keys on two) (λ n. key_names n key) (λ n. list_any (key_names n) on)
    (marked_both uses one two (λ n. key.left == n) (λ n. key.right == n) (marked_column key.left uses) (marked_column key.right one))
    (marked_keys on two)

-- both sides of a seam
marked_sides : (uses left right : List Bool) (seam : ℕ) (f g : ℕ → Bool) → seam ≤ length uses →
    Marked (take seam uses) left f → Marked (drop seam uses) right g →
    Marked uses (left ++ right) (λ n. if nat_lt n seam then f n else g (n - seam))
marked_sides uses left right seam f g within h k = (long, λ n lt. by n lt (nat_lt n seam) refl)
  where
    front : length left ≡ seam
    front = h.0 ∙ length-take-le seam uses within

    back : length right ≡ length uses - seam
    back = k.0 ∙ length-drop seam uses

    long : length (left ++ right) ≡ length uses
    long = let l = length-append left right in let a = front in let b = back in omega (arith, l, a, b, within)

    by : (n : ℕ) → n < length uses → (b : Bool) → nat_lt n seam ≡ b → is_used (left ++ right) n ≡ (is_used uses n || (if b then f n else g (n - seam)))
    by n lt true e =
        let s = ltb-true n seam e in
        let a = front in
        used_of_left left right n (omega (arith, s, a))
        ∙ h.1 n (let t = length-take-le seam uses within in omega (arith, s, t))
        ∙ ap (λ used. used || f n) (used_take uses seam n s)
    by n lt false e =
        let s = ltb-false n seam e in
        let a = front in
        used_of_right left right (n - seam) n (omega (arith, s, a))
        ∙ k.1 (n - seam) (let t = length-drop seam uses in omega (arith, s, t, lt))
        ∙ ap (λ used. used || g (n - seam)) (used_drop uses seam (n - seam) n (omega (arith, s)))

pub marked_tree : (tree : Tree) (uses : List Bool) → length uses ≡ tree_width tree → Marked uses (with_tree tree uses) (tree_names tree)
marked_tree (scan table schema columns) uses wide = marked_none uses
marked_tree (filtered predicate tree) uses wide =
    let one = marked_predicate predicate uses in
    marked_both uses (with_predicate predicate uses) (with_tree tree (with_predicate predicate uses)) (names_column predicate) (tree_names tree)
    one (marked_tree tree (with_predicate predicate uses) (one.0 ∙ wide))
marked_tree (joined left right on) uses wide =
    let seam = tree_width left in
    let keys = marked_keys on uses in
    let more = with_keys on uses in
    let both = length-append (tree_types left) (tree_types right) in
    let within : seam ≤ length more = let e = keys.0 in omega (arith, e, wide, both) in
    let front : length (take seam more) ≡ seam = length-take-le seam more within in
    let back : length (drop seam more) ≡ tree_width right = let d = length-drop seam more in let e = keys.0 in omega (arith, d, e, wide, both) in
    let l = with_tree left (take seam more) in
    let r = with_tree right (drop seam more) in
    marked_both uses more (l ++ r) (λ n. list_any (key_names n) on) (λ n. if nat_lt n seam then tree_names left n else tree_names right (n - seam))
    keys
    (marked_sides more l r seam (tree_names left) (tree_names right) within
    (marked_tree left (take seam more) front) (marked_tree right (drop seam more) back))

-- ---- results

marked_item : (item : Aggregate) (uses : List Bool) → Marked uses (with_item item uses) (λ n. item_names n item)
marked_item (Key place) uses = marked_none uses
marked_item CountRows uses = marked_none uses
marked_item (Count column) uses = marked_column column uses
marked_item (Sum column) uses = marked_column column uses

marked_items : (items : List Aggregate) (uses : List Bool) → Marked uses (with_items items uses) (λ n. list_any (item_names n) items)
marked_items [] uses = marked_none uses
marked_items (item ∷ items) uses =
    marked_both uses (with_item item uses) (with_items items (with_item item uses)) (λ n. item_names n item) (λ n. list_any (item_names n) items)
    (marked_item item uses) (marked_items items (with_item item uses))

used_everywhere : (width n : ℕ) → n < width → is_used (replicate width true) n ≡ true
used_everywhere zero n h = absurd (omega (arith, h))
used_everywhere (suc width) zero h = refl
used_everywhere (suc width) (suc n) h = used_everywhere width n (omega (arith, h))

used_nowhere : (width n : ℕ) → is_used (replicate width false) n ≡ false
used_nowhere zero n = refl
used_nowhere (suc width) zero = refl
used_nowhere (suc width) (suc n) = used_nowhere width n

pub marked_output : (output : Output) (uses : List Bool) → Marked uses (with_output output uses) (output_names output)
marked_output (Project All) uses = (
  length-replicate (length uses) true,
  λ n lt. used_everywhere (length uses) n lt ∙ or_true (is_used uses n),
)
marked_output (Project (These columns)) uses = marked_columns columns uses
marked_output (Groups keys items) uses =
    marked_both uses (with_uses keys uses) (with_items items (with_uses keys uses)) (λ n. list_any (λ c. c == n) keys) (λ n. list_any (item_names n) items)
    (marked_columns keys uses) (marked_items items (with_uses keys uses))

-- ---- plans

-- as many as there are columns
pub uses_width : (tree : Tree) (output : Output) → length (uses_of tree output) ≡ tree_width tree
uses_width tree output =
    let none = replicate (tree_width tree) false in
    let wide = length-replicate (tree_width tree) false in
    let one = marked_output output none in
    (marked_tree tree (with_output output none) (one.0 ∙ wide)).0 ∙ one.0 ∙ wide

-- those that the plan names
pub used_named : (tree : Tree) (output : Output) (n : ℕ) → n < tree_width tree → is_used (uses_of tree output) n ≡ (output_names output n || tree_names tree n)
used_named tree output n lt =
    let none = replicate (tree_width tree) false in
    let wide = length-replicate (tree_width tree) false in
    let one = marked_output output none in
    let e = one.0 in
    (marked_tree tree (with_output output none) (e ∙ wide)).1 n (omega (arith, lt, e, wide))
    ∙ ap (λ used. used || tree_names tree n) (one.1 n (omega (arith, lt, wide)) ∙ ap (λ used. used || output_names output n) (used_nowhere (tree_width tree) n))

-- ---- what is named is used

module _ (uses : List Bool) (types : List DataType) (wide : length uses ≡ length types) where
  keys_used : (on : List JoinKey) → first_in (key_fault types) on ≡ None →
      ((n : ℕ) → n < length uses → list_any (key_names n) on ≡ true → is_used uses n ≡ true) → list_all (uses_key uses) on ≡ true
  keys_used [] e all = refl
  keys_used (key ∷ on) e all =
      let faults = then_none (key_fault types key) (first_in (key_fault types) on) e in
      let there = key_there types key faults.0 in
      let l = ltb-true key.left (length types) there.0 in
      let r = ltb-true key.right (length types) there.1 in
      and_from (uses_key uses key) (list_all (uses_key uses) on)
      (and_from (is_used uses key.left) (is_used uses key.right)
      (all key.left (omega (arith, l, wide)) (or_left (key_names key.left key) (list_any (key_names key.left) on)
      (or_left (key.left == key.left) (key.right == key.left) (eq-eqb key.left key.left refl))))
      (all key.right (omega (arith, r, wide)) (or_left (key_names key.right key) (list_any (key_names key.right) on)
      (or_right (key.left == key.right) (key.right == key.right) (eq-eqb key.right key.right refl)))))
      (keys_used on faults.1 (λ n lt h. all n lt (or_right (key_names n key) (list_any (key_names n) on) h)))

  columns_used : (columns : List ℕ) → list_all (λ column. nat_lt column (length types)) columns ≡ true →
      ((n : ℕ) → n < length uses → list_any (λ column. column == n) columns ≡ true → is_used uses n ≡ true) → list_all (is_used uses) columns ≡ true
  columns_used [] e all = refl
  columns_used (column ∷ columns) e all =
      let there = and_parts (nat_lt column (length types)) (list_all (λ c. nat_lt c (length types)) columns) e in
      let l = ltb-true column (length types) there.0 in
      and_from (is_used uses column) (list_all (is_used uses) columns)
      (all column (omega (arith, l, wide)) (or_left (column == column) (list_any (λ c. c == column) columns) (eq-eqb column column refl)))
      (columns_used columns there.1 (λ n lt h. all n lt (or_right (column == n) (list_any (λ c. c == n) columns) h)))

  item_used : (keys : ℕ) (item : Aggregate) → has_item keys types item ≡ true →
      ((n : ℕ) → n < length uses → item_names n item ≡ true → is_used uses n ≡ true) → uses_item uses item ≡ true
  item_used keys (Key place) e all = refl
  item_used keys CountRows e all = refl
  item_used keys (Count column) e all = let l = ltb-true column (length types) e in all column (omega (arith, l, wide)) (eq-eqb column column refl)
  item_used keys (Sum column) e all =
      let l = ltb-true column (length types) (and_parts (nat_lt column (length types)) (can_sum (type_at types column)) e).0 in
      all column (omega (arith, l, wide)) (eq-eqb column column refl)

  items_used : (keys : ℕ) (items : List Aggregate) → list_all (has_item keys types) items ≡ true →
      ((n : ℕ) → n < length uses → list_any (item_names n) items ≡ true → is_used uses n ≡ true) → list_all (uses_item uses) items ≡ true
  items_used keys [] e all = refl
  items_used keys (item ∷ items) e all =
      let there = and_parts (has_item keys types item) (list_all (has_item keys types) items) e in
      and_from (uses_item uses item) (list_all (uses_item uses) items)
      (item_used keys item there.0 (λ n lt h. all n lt (or_left (item_names n item) (list_any (item_names n) items) h)))
      (items_used keys items there.1 (λ n lt h. all n lt (or_right (item_names n item) (list_any (item_names n) items) h)))

all_used : (uses : List Bool) → ((n : ℕ) → n < length uses → is_used uses n ≡ true) → list_all (λ used. used) uses ≡ true
all_used [] all = refl
all_used (used ∷ uses) all =
    and_from used (list_all (λ u. u) uses) (all 0 (omega arith)) (all_used uses (λ n lt. all (suc n) (omega (arith, lt))))

pub output_used : (uses : List Bool) (types : List DataType) → length uses ≡ length types → (output : Output) → HasOutput output types →
    ((n : ℕ) → n < length uses → output_names output n ≡ true → is_used uses n ≡ true) → uses_output uses output ≡ true
output_used uses types wide (Project All) has all = all_used uses (λ n lt. all n lt refl)
output_used uses types wide (Project (These columns)) has all = columns_used uses types wide columns has all
output_used uses types wide (Groups keys items) has all =
    and_from (list_all (is_used uses) keys) (list_all (uses_item uses) items)
    (columns_used uses types wide keys has.0 (λ n lt h. all n lt (or_left (list_any (λ c. c == n) keys) (list_any (item_names n) items) h)))
    (items_used uses types wide (length keys) items has.1 (λ n lt h. all n lt (or_right (list_any (λ c. c == n) keys) (list_any (item_names n) items) h)))

pub tree_used : (uses : List Bool) (tree : Tree) → length uses ≡ tree_width tree → IsTypedTree tree →
    ((n : ℕ) → n < length uses → tree_names tree n ≡ true → is_used uses n ≡ true) → AreUsed uses tree
tree_used uses (scan table schema columns) wide typed all = wide
tree_used uses (filtered predicate tree) wide typed all = (
  named_pass (λ n. nat_lt n (tree_width tree)) (is_used uses) predicate (names_there (tree_types tree) predicate typed.0)
      (λ n there h. let l = ltb-true n (tree_width tree) there in
      all n (omega (arith, l, wide)) (or_left (names_column predicate n) (tree_names tree n) h)),
  tree_used uses tree wide typed.1 (λ n lt h. all n lt (or_right (names_column predicate n) (tree_names tree n) h)),
)
tree_used uses (joined left right on) wide typed all =
    let seam = tree_width left in
    let below : ℕ → Bool = λ n. if nat_lt n seam then tree_names left n else tree_names right (n - seam) in
    let both = length-append (tree_types left) (tree_types right) in
    let within : seam ≤ length uses = omega (arith, both, wide) in
    let front : length (take seam uses) ≡ seam = length-take-le seam uses within in
    let back : length (drop seam uses) ≡ tree_width right = let d = length-drop seam uses in omega (arith, d, both, wide) in (
      keys_used uses (tree_types left ++ tree_types right) wide on typed.3
          (λ n lt h. all n lt (or_left (list_any (key_names n) on) (below n) h)),
      tree_used (take seam uses) left front typed.0 (λ n lt h.
          let l : n < seam = omega (arith, lt, front) in
          used_take uses seam n l ∙ all n (omega (arith, l, within)) (or_right (list_any (key_names n) on) (below n)
          (ap (λ b. if b then tree_names left n else tree_names right (n - seam)) (lt-ltb n seam l) ∙ h))),
      tree_used (drop seam uses) right back typed.1 (λ n lt h.
          let s : (seam + n) - seam ≡ n = omega arith in
          used_drop uses seam n (seam + n) refl
          ∙ all (seam + n) (omega (arith, lt, back, wide, both)) (or_right (list_any (key_names (seam + n)) on) (below (seam + n))
          (ap (λ b. if b then tree_names left (seam + n) else tree_names right ((seam + n) - seam)) (le-ltb (seam + n) seam (omega arith))
          ∙ ap (tree_names right) s ∙ h))),
    )

-- so what a plan names is used
pub plan_used : (tree : Tree) (output : Output) → IsTypedTree tree → HasOutput output (tree_types tree) →
    AreUsed (uses_of tree output) tree × (uses_output (uses_of tree output) output ≡ true)
plan_used tree output typed has =
    let uses = uses_of tree output in
    let wide = uses_width tree output in (
      tree_used uses tree wide typed (λ n lt h. used_named tree output n (omega (arith, lt, wide)) ∙ or_right (output_names output n) (tree_names tree n) h),
      output_used uses (tree_types tree) wide output has
          (λ n lt h. used_named tree output n (omega (arith, lt, wide)) ∙ or_left (output_names output n) (tree_names tree n) h),
    )
