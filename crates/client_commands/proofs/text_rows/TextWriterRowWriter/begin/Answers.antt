use Rattle.std.proofs.Common.{[], subst}
use Rattle.std.proofs.lemmas.Result.{err_from_is_err_and}
use Rattle.arrow_types.specs.declared.schema.Schema.{Schema}
use Rattle.client_commands.specs.Formats.{WritesFront}
use Rattle.client_commands.specs.inside.Writers.{WriterAt}
use Rattle.client_commands.proofs.Texts.{names_not_sent, names_sent}
use Rattle.client_commands.proofs.text_rows.TextWriterRowWriter.begin.Goals as goal

pub returns-in_err-send_names-clause-bytes : goal.returns-in_err-send_names-clause-bytes
returns-in_err-send_names-clause-bytes g c =
    let p = err_from_is_err_and c.from_residual-in_err-send_names.result c.from_residual-in_err-send_names.ensures.1 in
    let a = g.W.Output.contents c.args.output.now in
    let b = g.W.Output.contents c.send_names.new.writer in
    let failed = rw c.as_slice.ensures at c.in_err-send_names.ensures.bytes in
    let part = names_not_sent g.K.TextFormat.name g.met.K.TextFormat.text c.in_ok-schema.schema a b c.new-outbox.result c.send_names.new.outbox c.new-outbox.ensures failed in
    rw (p.1, p.2, c.in_err-send_names.ensures.fault) (subst (λ (s : Schema). WritesFront g.K.TextFormat.name s [] a b) c.in_ok-schema.ensures part)

pub returns-clause-bytes : goal.returns-clause-bytes
returns-clause-bytes g c =
    let a = g.W.Output.contents c.args.output.now in
    let b = g.W.Output.contents c.send_names.new.writer in
    let writer : WriterAt = record { schema = c.in_ok-schema.schema; waiting = c.send_names.new.outbox; batches = [] } in
    let sent = rw (c.as_slice.ensures, c.in_ok-schema.ensures) at c.in_ok-send_names.ensures.bytes in
    names_sent g.K.TextFormat.name g.met.K.TextFormat.text c.args.schema.now a b c.new-outbox.result writer c.new-outbox.ensures c.in_ok-schema.ensures sent
