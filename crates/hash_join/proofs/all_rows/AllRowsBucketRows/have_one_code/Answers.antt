use Rattle.std.proofs.Common.{◌≡◌, ap, subst}
use Rattle.hash_join.specs.declared.key_row.KeyRow.{KeyRow}
use Rattle.hash_join.specs.Hashes.{bucket_of}
use Rattle.hash_join.specs.KeyRows.{key_beside, row_key}
use Rattle.hash_join.proofs.all_rows.AllRowsBucketRows.have_one_code.Goals as goal

pub returns : goal.returns
returns c =
    let search = c.args.self.now.search in
    λ told. ap (bucket_of search.rights.now.buckets)
    (subst (λ (at : KeyRow). row_key at ≡ key_beside at c.args.other) c.left_row.ensures.left (c.has_code_of.ensures told))
