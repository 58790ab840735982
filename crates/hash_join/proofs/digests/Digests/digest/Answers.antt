use Rattle.std.proofs.Common.{ap, sym, ◌∙◌}
use Rattle.hash_join.specs.declared.buckets.Buckets.TheVariants as parted
use Rattle.hash_join.specs.Hashes.{digest_of, key_digest}
use Rattle.hash_join.proofs.digests.Digests.digest.Goals as goal

pub returns-in-Some-digest_at-clause-digest : goal.returns-in-Some-digest_at-clause-digest
returns-in-Some-digest_at-clause-digest g c = c.in-Some-digest_at.ensures (parted.Hashed c.args.hashing.now) c.requires.seen

pub returns-in-Some-found-clause-seen : goal.returns-in-Some-found-clause-seen
returns-in-Some-found-clause-seen g c =
    let rows = c.args.rows.now in
    let buckets = parted.Hashed c.args.hashing.now in
    let digests = key_digest buckets (g.R.PartRows.key rows) in
    let count = g.R.PartRows.count rows in
    c.keep.ensures digests count (ap (digest_of buckets) (sym c.part.ensures) ∙ sym c.in-Some-found.ensures)
    (c.make_room.ensures digests count c.requires.few c.requires.seen)
