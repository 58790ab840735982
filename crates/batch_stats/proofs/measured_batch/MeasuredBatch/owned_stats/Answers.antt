use Rattle.std.proofs.Common.{◌≡◌, length, get_or, ap, ◌∙◌, arith}
use Rattle.std.proofs.lemmas.Option.{slice_get-get_or}
use Rattle.std.proofs.lemmas.Slice.Zip.{AllZip-long}
use Rattle.arrays.specs.Batch.{BatchAt}
use Rattle.batch_stats.specs.HeldStats.{IsStatsOf}
use Rattle.batch_stats.proofs.Zipped.{zip_at}
use Rattle.batch_stats.proofs.measured_batch.MeasuredBatch.owned_stats.Goals as goal

pub index-requires : goal.index-requires
index-requires c =
    let long = AllZip-long IsStatsOf c.self.inside.batch.columns c.self.inside.stats.items c.self.invariant in
    let same = ap (λ (batch : BatchAt). length batch.columns) c.self.view_is in
    omega (arith, long, same, c.requires)

pub owned-requires : goal.owned-requires
owned-requires c =
    let column = c.index-columns-column.result in
    let columns = c.self.inside.batch.columns in
    let same = ap (λ (batch : BatchAt). length batch.columns) c.self.view_is in
    let at : column ≡ get_or columns c.args.column column = c.index-columns-column.is ∙ ap (λ columns. get_or columns c.args.column column) c.columns.ensures.columns in
    zip_at IsStatsOf columns c.self.inside.stats.items c.args.column column c.index.result.now c.self.invariant (omega (arith, same, c.requires)) at c.index.ensures

pub returns-clause-kept : goal.returns-clause-kept
returns-clause-kept c =
    let column = c.index-columns-column.result in
    let columns = c.args.self.now.columns in
    let at : column ≡ get_or columns c.args.column column =
    c.index-columns-column.is ∙ ap (λ columns. get_or columns c.args.column column) (c.columns.ensures.columns ∙ ap (λ (batch : BatchAt). batch.columns) c.self.view_is) in
    rw (slice_get-get_or columns c.args.column column c.requires, ← at) c.owned.ensures.kept

pub returns-clause-alike : goal.returns-clause-alike
returns-clause-alike c =
    let column = c.index-columns-column.result in
    let columns = c.args.self.now.columns in
    let at : column ≡ get_or columns c.args.column column =
    c.index-columns-column.is ∙ ap (λ columns. get_or columns c.args.column column) (c.columns.ensures.columns ∙ ap (λ (batch : BatchAt). batch.columns) c.self.view_is) in
    rw (slice_get-get_or columns c.args.column column c.requires, ← at) c.owned.ensures.alike
