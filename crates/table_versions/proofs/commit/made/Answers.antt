use Rattle.std.specs.List.{flat_map}
use Rattle.std.proofs.lemmas.Bool.{not-false}
use Rattle.arrays.specs.Batch.{rows_of}
use Rattle.table_versions.specs.Table.{same_fields}
use Rattle.table_versions.proofs.Alike.{typed_alike, sound_alike}
use Rattle.table_versions.proofs.commit.made.Goals as goal

pub appended-requires-clause-typed : goal.appended-requires-clause-typed
appended-requires-clause-typed c =
    let schema = c.in-Append-Some.old.now.schema in
    let alike = rw (← c.put.view_is, c.in-Append-Some.is-0, c.in-Append-Some.is-1) at c.requires.alike in
    typed_alike schema.fields c.put.inside.schema.fields c.put.inside.batches.items
    (not-false (same_fields schema.fields c.put.inside.schema.fields) alike) c.put.invariant.typed

pub appended-requires-clause-sound : goal.appended-requires-clause-sound
appended-requires-clause-sound c =
    let schema = c.in-Append-Some.old.now.schema in
    let alike = rw (← c.put.view_is, c.in-Append-Some.is-0, c.in-Append-Some.is-1) at c.requires.alike in
    let sound = rw (← c.put.view_is) at c.requires.sound in
    sound_alike schema.fields c.put.inside.schema.fields (flat_map rows_of c.put.inside.batches.items)
    (not-false (same_fields schema.fields c.put.inside.schema.fields) alike) sound

pub appended-requires-clause-stand : goal.appended-requires-clause-stand
appended-requires-clause-stand c =
    let stand = rw (← c.put.view_is) at c.requires.stand in stand

pub created-requires-clause-stand : goal.created-requires-clause-stand
created-requires-clause-stand c =
    let stand = rw (← c.put.view_is) at c.requires.stand in stand
