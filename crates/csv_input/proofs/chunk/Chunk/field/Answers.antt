use Rattle.std.proofs.Common.{◌<◌, ◌+◌, ◌*◌, ℕ, List, Bor, length, sym, ap, subst, ◌∙◌, arith}
use Rattle.csv.specs.Records.{fields_of}
use Rattle.csv_input.specs.inside.Chunks.{ChunkAt, field_in}
use Rattle.csv_input.proofs.Placed.{among, found_at}
use Rattle.csv_input.proofs.chunk.Chunk.field.Goals as goal

pub returns : goal.returns
returns c =
    let inside = c.self.inside in
    let fields = fields_of inside.fields in
    let place = inside.width * c.args.row + c.args.column in
    let view = c.self.view_is in
    let row : c.args.row < inside.rows = subst (λ (chunk : ChunkAt). c.args.row < chunk.rows) (sym view) c.requires.row in
    let column : c.args.column < inside.width = subst (λ (chunk : ChunkAt). c.args.column < chunk.width) (sym view) c.requires.column in
    let low : place < length fields = omega (arith, among inside.width inside.rows c.args.row c.args.column row column, c.self.invariant.0) in
    ap (λ (s : Bor (List ℕ)). s.now) c.unwrap_or.ensures ∙ found_at fields place c.get.result _ c.get.ensures.value low ∙ ap (λ (chunk : ChunkAt). field_in chunk c.args.row c.args.column) view
