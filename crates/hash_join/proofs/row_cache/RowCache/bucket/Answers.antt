use Rattle.std.proofs.Common.{List, sym, subst}
use Rattle.hash_join.specs.declared.digests.SeenDigest.{SeenDigest}
use Rattle.hash_join.specs.RowCache.{AreDigests}
use Rattle.hash_join.proofs.row_cache.RowCache.bucket.Goals as goal

pub returns-in-Some-found-clause-seen : goal.returns-in-Some-found-clause-seen
returns-in-Some-found-clause-seen g c =
    let rows = c.args.rows.now in
    record {
      rows = c.keep.ensures.rows (g.R.BucketRows.bucket rows) (g.R.BucketRows.last rows) (g.R.BucketRows.count rows)
          (record { is = sym c.in-Some-found.ensures.bucket; within = c.in-Some-found.ensures.within }) c.requires.seen.rows;
      texts = subst (λ (texts : List SeenDigest). AreDigests (g.R.BucketRows.digest rows) (g.R.BucketRows.count rows) texts)
          (sym c.keep.ensures.texts) c.in-Some-found.ensures.seen;
    }
