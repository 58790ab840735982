use Rattle.std.proofs.Common.{ℕ, List, sym, subst}
use Rattle.ipc_batch.specs.WrittenMessages.{body_of}
use Rattle.ipc_stream.specs.Stream.{IsMessage}
use Rattle.row_stream.specs.inside.Frames.{SaysSchema}
use Rattle.row_stream.proofs.Messages.{schema_fits, schema_says}
use Rattle.row_stream.proofs.message.schema_message.Goals as goal

pub returns-clause-fits : goal.returns-clause-fits
returns-clause-fits c =
    let header = c.in_ok-write_schema.field-0.items in
    subst (λ (buffers : List (List ℕ)). IsMessage (record { header = header; body = body_of buffers })) (sym c.new.ensures.items)
    (schema_fits c.args.schema.now header c.requires c.in_ok-write_schema.ensures.items c.in_ok-write_schema.ensures.short)

pub returns-clause-says : goal.returns-clause-says
returns-clause-says c =
    let header = c.in_ok-write_schema.field-0.items in
    subst (λ (buffers : List (List ℕ)). SaysSchema c.args.schema.now (record { header = header; body = body_of buffers })) (sym c.new.ensures.items)
    (schema_says c.args.schema.now header c.requires c.in_ok-write_schema.ensures.items)
