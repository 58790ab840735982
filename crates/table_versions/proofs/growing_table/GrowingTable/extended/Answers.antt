use Rattle.std.proofs.Common.{◌≡◌, All, arith, refl, rules, subst, ◌∷◌}
use Rattle.std.specs.List.{flat_map}
use Rattle.std.specs.Vec.Iter.{into_iter_items}
use Rattle.std.proofs.lemmas.Grind.{common_steps}
use Rattle.std.proofs.lemmas.List.Elements.{All-rest, All-head}
use Rattle.arrays.specs.Batch.{rows_of}
use Rattle.table_versions.specs.KeptTables.{Stands}
use Rattle.table_versions.proofs.Storable.{AreTyped, sound-front, sound-rest}
use Rattle.table_versions.proofs.Rowing.{rows-append, rows-cons}
use Rattle.table_versions.proofs.growing_table.GrowingTable.extended.Goals as goal

pub with-requires-clause-few : goal.with-requires-clause-few
with-requires-clause-few c =
    let left = into_iter_items c.next.new.self in
    let few = rw c.in-Some.ensures.steps.0 at c.loop-batch.invariant.few in
    omega (arith, few, rows-append c.loop-batch.table.batches (c.in-Some.batch ∷ left), rows-cons c.in-Some.batch left)

pub with-requires-clause-typed : goal.with-requires-clause-typed
with-requires-clause-typed c =
    let left = into_iter_items c.next.new.self in
    let typed = rw c.in-Some.ensures.steps.0 at c.loop-batch.invariant.typed in
    rw c.loop-batch.invariant.schema (All-head (AreTyped c.args.self.schema.fields) c.in-Some.batch left typed)

pub with-requires-clause-stands : goal.with-requires-clause-stands
with-requires-clause-stands c =
    let left = into_iter_items c.next.new.self in
    let stand = rw c.in-Some.ensures.steps.0 at c.loop-batch.invariant.stand in
    All-head Stands c.in-Some.batch left stand

pub with-requires-clause-sound : goal.with-requires-clause-sound
with-requires-clause-sound c =
    let left = into_iter_items c.next.new.self in
    let sound = rw c.in-Some.ensures.steps.0 at c.loop-batch.invariant.sound in
    rw c.loop-batch.invariant.schema (sound-front c.args.self.schema.fields (rows_of c.in-Some.batch) (flat_map rows_of left) sound)

pub loop-batch-preserved-then-rows-gt0 : goal.loop-batch-preserved-then-rows-gt0
loop-batch-preserved-then-rows-gt0 c =
    let left = into_iter_items c.next.new.self in
    let sound = rw c.in-Some.ensures.steps.0 at c.loop-batch.invariant.sound in record {
      schema = search rules;
      stored = grind (arith, common_steps);
      typed = All-rest (AreTyped c.args.self.schema.fields) c.in-Some.batch left _ c.in-Some.ensures.steps.0 c.loop-batch.invariant.typed;
      stand = All-rest Stands c.in-Some.batch left _ c.in-Some.ensures.steps.0 c.loop-batch.invariant.stand;
      sound = sound-rest c.args.self.schema.fields (rows_of c.in-Some.batch) (flat_map rows_of left) sound;
      few = grind (arith, common_steps);
    }

pub loop-batch-preserved : goal.loop-batch-preserved
loop-batch-preserved c =
    let left = into_iter_items c.next.new.self in
    let sound = rw c.in-Some.ensures.steps.0 at c.loop-batch.invariant.sound in record {
      schema = search rules;
      stored = search rules;
      typed = All-rest (AreTyped c.args.self.schema.fields) c.in-Some.batch left _ c.in-Some.ensures.steps.0 c.loop-batch.invariant.typed;
      stand = All-rest Stands c.in-Some.batch left _ c.in-Some.ensures.steps.0 c.loop-batch.invariant.stand;
      sound = sound-rest c.args.self.schema.fields (rows_of c.in-Some.batch) (flat_map rows_of left) sound;
      few = grind (arith, common_steps);
    }

pub loop-batch-init : goal.loop-batch-init
loop-batch-init c =
    let same : c.args.batches.items ≡ into_iter_items c.into_iter-batch-iterator.result = search rules in
    record {
      schema = refl;
      stored = search rules;
      typed = search rules;
      stand = subst (All Stands) same c.requires.stand;
      sound = search rules;
      few = search rules;
    }
