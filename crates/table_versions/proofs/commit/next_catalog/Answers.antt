use Rattle.std.proofs.Common.{◌≡◌, ◌∙◌, Ok, length, rules, Some, None, sym, ap}
use Rattle.std.specs.Option.{option_copied}
use Rattle.scan_base.specs.Reading.{first_fault}
use Rattle.table_versions.specs.Database.{table_at, with_table, faults_at}
use Rattle.table_versions.specs.StoredTables.{plain, put_of, stored_after, CatalogAt}
use Rattle.table_versions.specs.KeptTables.{IsStorable}
use Rattle.table_versions.proofs.Counted.{named_after, room_after}
use Rattle.table_versions.proofs.RowTypes.{put_typed}
use Rattle.table_versions.proofs.Stores.{refused_by, refuses_by, passes_by}
use Rattle.table_versions.proofs.commit.next_catalog.Goals as goal

pub returns-in-Some-clause-exact : goal.returns-in-Some-clause-exact
returns-in-Some-clause-exact c =
    let catalog = c.args.catalog.now in
    let there = option_copied c.get-old.result in
    let at : there ≡ table_at catalog c.args.put.table = search rules in
    let count : c.len.result ≡ length catalog = c.len.ensures.count in
    let refused : Some c.in-Some.fault ≡ first_fault (faults_at (plain there) c.len.result c.args.above (put_of c.args.put)) = search rules in
    λ _. refused_by catalog c.args.above c.args.put there c.len.result at count (Some c.in-Some.fault) refused

pub returns-clause-exact : goal.returns-clause-exact
returns-clause-exact c =
    let catalog = c.args.catalog.now in
    let there = option_copied c.get-old.result in
    let at : there ≡ table_at catalog c.args.put.table = search rules in
    let count : c.len.result ≡ length catalog = c.len.ensures.count in
    let passes : None ≡ first_fault (faults_at (plain there) c.len.result c.args.above (put_of c.args.put)) = search rules in
    let new : c.in_ok-with.field-0 ≡ with_table c.args.put.table (stored_after c.args.put.if_exists there c.args.put) catalog = search rules in
    refused_by catalog c.args.above c.args.put there c.len.result at count None passes ∙ ap (λ (new : CatalogAt). Ok new) (sym new)

pub returns-in-Some-clause-refused : goal.returns-in-Some-clause-refused
returns-in-Some-clause-refused c =
    let catalog = c.args.catalog.now in
    let there = option_copied c.get-old.result in
    let at : there ≡ table_at catalog c.args.put.table = search rules in
    let count : c.len.result ≡ length catalog = c.len.ensures.count in
    let refused : Some c.in-Some.fault ≡ first_fault (faults_at (plain there) c.len.result c.args.above (put_of c.args.put)) = search rules in
    refuses_by catalog c.args.above c.args.put there c.len.result at count c.in-Some.fault refused

pub returns-clause-refused : goal.returns-clause-refused
returns-clause-refused c =
    let catalog = c.args.catalog.now in
    let there = option_copied c.get-old.result in
    let at : there ≡ table_at catalog c.args.put.table = search rules in
    let count : c.len.result ≡ length catalog = c.len.ensures.count in
    let passes : None ≡ first_fault (faults_at (plain there) c.len.result c.args.above (put_of c.args.put)) = search rules in
    passes_by catalog c.args.above c.args.put there c.len.result at count _ passes

pub returns-in_err-name-clause-refused : goal.returns-in_err-name-clause-refused
returns-in_err-name-clause-refused c =
    let catalog = c.args.catalog.now in
    let there = option_copied c.get-old.result in
    let at : there ≡ table_at catalog c.args.put.table = search rules in
    let count : c.len.result ≡ length catalog = c.len.ensures.count in
    let passes : None ≡ first_fault (faults_at (plain there) c.len.result c.args.above (put_of c.args.put)) = search rules in
    passes_by catalog c.args.above c.args.put there c.len.result at count _ passes

pub returns-in_err-with-clause-refused : goal.returns-in_err-with-clause-refused
returns-in_err-with-clause-refused c =
    let catalog = c.args.catalog.now in
    let there = option_copied c.get-old.result in
    let at : there ≡ table_at catalog c.args.put.table = search rules in
    let count : c.len.result ≡ length catalog = c.len.ensures.count in
    let passes : None ≡ first_fault (faults_at (plain there) c.len.result c.args.above (put_of c.args.put)) = search rules in
    passes_by catalog c.args.above c.args.put there c.len.result at count _ passes

pub returns-clause-typed : goal.returns-clause-typed
returns-clause-typed c =
    let storable : IsStorable c.args.put.schema c.args.put.batches = rw (← c.put.view_is) c.put.invariant in
    let passes : c.refusal_at.result ≡ None = search rules in
    put_typed c.values_are_of_their_type.ensures c.args.put storable (c.refusal_at.ensures.stand passes)

pub with-requires-clause-named : goal.with-requires-clause-named
with-requires-clause-named c =
    let catalog = c.args.catalog.now in
    let there = option_copied c.get-old.result in
    let at : there ≡ table_at catalog c.args.put.table = search rules in
    let count : c.len.result ≡ length catalog = c.len.ensures.count in
    let passes : None ≡ first_fault (faults_at (plain there) c.len.result c.args.above (put_of c.args.put)) = search rules in
    let named : c.in_ok-name.name ≡ c.args.put.table = search rules in
    rw named (named_after catalog c.args.above c.args.put there c.len.result at count passes)

pub with-requires-clause-room : goal.with-requires-clause-room
with-requires-clause-room c =
    let catalog = c.args.catalog.now in
    let there = option_copied c.get-old.result in
    let at : there ≡ table_at catalog c.args.put.table = search rules in
    let count : c.len.result ≡ length catalog = c.len.ensures.count in
    let passes : None ≡ first_fault (faults_at (plain there) c.len.result c.args.above (put_of c.args.put)) = search rules in
    let named : c.in_ok-name.name ≡ c.args.put.table = search rules in
    let room = room_after catalog c.args.above c.args.put there c.len.result at count passes c.in_ok-name.table c.len.ensures.ordered c.len.ensures.few in
    rw named room

pub made-requires-clause-stand : goal.made-requires-clause-stand
made-requires-clause-stand c =
    let passes : c.refusal_at.result ≡ None = search rules in
    c.refusal_at.ensures.stand passes
