use Rattle.std.proofs.Common.{◌≡◌, ◌+◌, ◌&&◌, true, false, if◌then◌else◌, sym, subst}
use Rattle.arrow_types.specs.declared.data_type.IntegerType.{IntegerType}
use Rattle.arrays.specs.Number.{integer_at}
use Rattle.arrays.specs.Validity.{is_valid}
use Rattle.hash_join.specs.declared.number_look.BucketKind.TheVariants as known
use Rattle.hash_join.specs.Searches.{IsHead, IsBucketKind}
use Rattle.hash_join.proofs.Sieving.{row_head, row_stopped, row_told}
use Rattle.hash_join.proofs.search.Search.push_as.Goals as goal

pub push_pieces-requires-clause-sound : goal.push_pieces-requires-clause-sound
push_pieces-requires-clause-sound g c row from h e =
    let search = c.args.self.now in
    let keys = c.args.keys in
    let look = keys.look.now in
    let passes = g.L.Look.passes look in
    row_stopped search c.requires.whole keys.cells keys.first c.requires.keys row h passes (g.L.Look.told look) (g.L.Look.head look) (g.L.Look.own look) c.requires.look from
    (subst (λ (kind : IntegerType). (is_valid keys.cells.validity (keys.first + row)
    && passes (integer_at kind keys.cells.values (keys.first + row))) ≡ false) c.requires.kind e)

pub push_pieces-requires-clause-told : goal.push_pieces-requires-clause-told
push_pieces-requires-clause-told g c row h =
    let search = c.args.self.now in
    let keys = c.args.keys in
    let look = keys.look.now in
    let told = g.L.Look.told look in
    subst (λ (kind : IntegerType). IsBucketKind search row (if is_valid keys.cells.validity (keys.first + row)
    then told (integer_at kind keys.cells.values (keys.first + row)) else known.Nothing)) (sym c.requires.kind)
    (row_told search c.requires.whole keys.cells keys.first c.requires.keys row h (g.L.Look.passes look) told (g.L.Look.head look) (g.L.Look.own look) c.requires.look)

pub push_pieces-requires-clause-heads : goal.push_pieces-requires-clause-heads
push_pieces-requires-clause-heads g c row h e =
    let search = c.args.self.now in
    let keys = c.args.keys in
    let look = keys.look.now in
    let passes = g.L.Look.passes look in
    let head = g.L.Look.head look in
    subst (λ (kind : IntegerType). IsHead search (g.L.Look.own look) row (head (integer_at kind keys.cells.values (keys.first + row)))) (sym c.requires.kind)
    (row_head search c.requires.whole keys.cells keys.first c.requires.keys row h passes (g.L.Look.told look) head (g.L.Look.own look) c.requires.look
    (subst (λ (kind : IntegerType). (is_valid keys.cells.validity (keys.first + row)
    && passes (integer_at kind keys.cells.values (keys.first + row))) ≡ true) c.requires.kind e))
