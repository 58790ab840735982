use Rattle.std.proofs.Common.{◌≡◌, drop}
use Rattle.hash_join.specs.declared.buckets.Buckets.TheVariants as parted
use Rattle.hash_join.specs.Hashes.{key_digest, parts_hash}
use Rattle.hash_join.specs.KeyRows.{row_key}
use Rattle.hash_join.specs.RowCache.{AreDigests}
use Rattle.hash_join.proofs.digests.Digests.hash.Given as goal

abbrev pub invariant-loop-part : goal.invariant-loop-part
invariant-loop-part g l = record {
  hash : parts_hash l.hashing.begun l.hasher (drop l.part (row_key l.at)) ≡ parts_hash l.hashing.begun l.hashing.begun (row_key l.at);
  seen : AreDigests (key_digest (parted.Hashed l.hashing) (g.R.PartRows.key l.rows)) (g.R.PartRows.count l.rows) l.self.texts.items;
}
