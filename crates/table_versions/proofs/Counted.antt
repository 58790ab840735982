-- How many tables there are after a put.
use Rattle.std.proofs.Common.{◌≡◌, ◌≤◌, ℕ, suc, ◌+◌, ◌&&◌, ◌||◌, ◌==◌, not, Bool, true, false, if◌then◌else◌, List, [], ◌∷◌, length, take, drop, nat_le, nat_lt, is_some, Option, Some, None, refl, sym, ap, ◌∙◌, arith, rules}
use Rattle.std.specs.Str.{bytes_eq}
use Rattle.std.specs.Cmp.Lexicographic.{slice_cmp}
use Rattle.std.specs.Ordering.{nat_cmp, is_lt}
use Rattle.scan_base.specs.declared.fault.Fault.TheVariants.{LimitReached}
use Rattle.scan_base.specs.Reading.{first_fault}
use Rattle.scan_base.specs.Limits.{most_name_bytes, most_tables}
use Rattle.table_versions.specs.Table.{Name}
use Rattle.table_versions.specs.Database.{table_at, with_table, faults_at}
use Rattle.table_versions.specs.Order.{IsInOrder}
use Rattle.table_versions.specs.StoredTables.{TableAt, CatalogAt, PutAt, plain, put_of}
use Rattle.table_versions.specs.Valid.{IsName}
use Rattle.table_versions.proofs.Accepted.{among}
use Rattle.table_versions.proofs.Search.{absent}
use Rattle.table_versions.proofs.Tables.{name_is}

module _ {T : Type 0} (name : Name) (table : T) where
  -- there is at most one table more
  one_more : (entries : List (Name × T)) → length (with_table name table entries) ≤ length entries + 1
  one_more [] = omega arith
  one_more (entry ∷ entries) = placed (bytes_eq entry.0 name) (is_lt (slice_cmp nat_cmp name entry.0)) (one_more entries)
    where
      placed : (a b : Bool) → length (with_table name table entries) ≤ length entries + 1
          → length (if a then (name, table) ∷ entries else (if b then (name, table) ∷ entry ∷ entries else entry ∷ with_table name table entries)) ≤ suc (length entries) + 1
      placed true b rest = omega arith
      placed false true rest = omega arith
      placed false false rest = omega arith

  -- and none where its name stood before
  as_many : (entries : List (Name × T)) (old : T) → IsInOrder entries → table_at entries name ≡ Some old → length (with_table name table entries) ≡ length entries
  as_many [] old ordered at = cc
  as_many (entry ∷ entries) old ordered at =
      placed (bytes_eq entry.0 name) (is_lt (slice_cmp nat_cmp name entry.0)) refl at (λ below. absent name (entry ∷ entries) below ordered)
      (λ rest. as_many entries old ordered.1 rest)
    where
      placed : (a b : Bool) → is_lt (slice_cmp nat_cmp name entry.0) ≡ b → (if a then Some entry.1 else table_at entries name) ≡ Some old
          → (is_lt (slice_cmp nat_cmp name entry.0) ≡ true → (if a then Some entry.1 else table_at entries name) ≡ None)
          → (table_at entries name ≡ Some old → length (with_table name table entries) ≡ length entries)
          → length (if a then (name, table) ∷ entries else (if b then (name, table) ∷ entry ∷ entries else entry ∷ with_table name table entries)) ≡ suc (length entries)
      placed true b e there none rest = refl
      placed false true e there none rest = let both : None ≡ Some old = sym (none e) ∙ there in cc
      placed false false e there none rest = ap suc (rest there)

  few_after : (entries : List (Name × T)) (there : Option T) → there ≡ table_at entries name → IsInOrder entries → length entries ≤ most_tables
      → (not (is_some there) && nat_le most_tables (length entries)) ≡ false → length (with_table name table entries) ≤ most_tables
  few_after entries None at ordered few room =
      let below : length entries + 1 ≤ most_tables = search (rules, room) in
      omega (arith, one_more entries, below)
  few_after entries (Some old) at ordered few room = omega (arith, as_many entries old ordered (sym at), few)

-- ---- a put that is not refused

plain_there : (there : Option TableAt) → is_some (plain there) ≡ is_some there
plain_there None = refl
plain_there (Some table) = refl

module _ (catalog : CatalogAt) (n : ℕ) (put : PutAt) (there : Option TableAt) (tables : ℕ) (at : there ≡ table_at catalog put.table)
    (count : tables ≡ length catalog) (passes : None ≡ first_fault (faults_at (plain there) tables n (put_of put))) where
  -- comes with a name that a table may have
  pub named_after : IsName put.table
  named_after =
      let faults = faults_at (plain there) tables n (put_of put) in
      name_is put.table (among (take 0 faults) (length put.table == 0 || nat_lt most_name_bytes (length put.table)) LimitReached (drop 1 faults) (sym passes))

  -- and leaves no more tables than there may be
  pub room_after : (table : TableAt) → IsInOrder catalog → length catalog ≤ most_tables → length (with_table put.table table catalog) ≤ most_tables
  room_after table ordered few =
      let faults = faults_at (plain there) tables n (put_of put) in
      let full : (not (is_some (plain there)) && nat_le most_tables tables) ≡ false =
      among (take 7 faults) (not (is_some (plain there)) && nat_le most_tables tables) LimitReached (drop 8 faults) (sym passes) in
      few_after put.table table catalog there at ordered few
      (ap (λ (some : Bool). not some && nat_le most_tables (length catalog)) (sym (plain_there there)) ∙ ap (λ (number : ℕ). not (is_some (plain there)) && nat_le most_tables number) (sym count) ∙ full)
