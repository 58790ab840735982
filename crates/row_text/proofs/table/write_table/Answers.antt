use Rattle.std.proofs.Common.{◌≡◌, List, ◌++◌, All, length, sym, subst}
use Rattle.std.specs.List.{flat_map}
use Rattle.std.proofs.lemmas.Result.{err_from_is_err_and}
use Rattle.arrow_types.specs.declared.schema.Field.{Field}
use Rattle.arrays.specs.Batch.{BatchAt, rows_of}
use Rattle.grpc_frame.proofs.Sending.{head_not_sent, second_not_sent, both_sent, flushed, begun_alone}
use Rattle.row_text.specs.Rows.{names_row, values_row}
use Rattle.row_text.specs.TableCells.{widths_from}
use Rattle.row_text.specs.Tables.{count_line, rule_line, table_format}
use Rattle.row_text.proofs.Rows.{all_wide}
use Rattle.row_text.proofs.table.write_table.Goals as goal

pub widths_of-made-requires-clause-as_many : goal.widths_of-made-requires-clause-as_many
widths_of-made-requires-clause-as_many g c =
    subst (λ (fields : List Field). All (λ (batch : BatchAt). length batch.columns ≡ length fields) c.args.batches.now) (sym c.as_slice-fields.ensures)
    (all_wide c.args.schema.now.fields c.args.batches.now c.requires.typed)

pub returns-in_err-send_names-clause-bytes : goal.returns-in_err-send_names-clause-bytes
returns-in_err-send_names-clause-bytes g c =
    let p = err_from_is_err_and c.from_residual.result c.from_residual.ensures.1 in
    let fields = c.args.schema.now.fields in
    let rows = flat_map rows_of c.args.batches.now in
    let widths = widths_from fields 0 rows in
    let format = table_format fields widths in
    rw p.1
    (begun_alone _ _ _ _ _ c.new-outbox.ensures
    (head_not_sent _ _ _ _ (names_row format fields) (rule_line widths ++ (flat_map (values_row format) rows ++ count_line (length rows)))
    (rw (c.as_slice-widths.ensures.value, c.widths_of-made.ensures, c.as_slice-fields.ensures) at c.in_err-send_names.ensures.bytes)))

pub returns-in_err-send_rule-clause-bytes : goal.returns-in_err-send_rule-clause-bytes
returns-in_err-send_rule-clause-bytes g c =
    let p = err_from_is_err_and c.from_residual-in_err-send_rule.result c.from_residual-in_err-send_rule.ensures.1 in
    let fields = c.args.schema.now.fields in
    let rows = flat_map rows_of c.args.batches.now in
    let widths = widths_from fields 0 rows in
    let format = table_format fields widths in
    rw p.1
    (begun_alone _ _ _ _ _ c.new-outbox.ensures
    (second_not_sent _ _ _ _ _ _ (names_row format fields) (rule_line widths ++ (flat_map (values_row format) rows ++ count_line (length rows)))
    (rw (c.as_slice-widths.ensures.value, c.widths_of-made.ensures, c.as_slice-fields.ensures) at c.in_ok-send_names.ensures.bytes)
    (head_not_sent _ _ _ _ (rule_line widths) (flat_map (values_row format) rows ++ count_line (length rows))
    (rw (c.as_slice-widths.ensures.value, c.widths_of-made.ensures, c.as_slice-fields.ensures) at c.in_err-send_rule.ensures.bytes))))

pub returns-in_err-send_batches-clause-bytes : goal.returns-in_err-send_batches-clause-bytes
returns-in_err-send_batches-clause-bytes g c =
    let p = err_from_is_err_and c.from_residual-in_err-send_batches.result c.from_residual-in_err-send_batches.ensures.1 in
    let fields = c.args.schema.now.fields in
    let rows = flat_map rows_of c.args.batches.now in
    let widths = widths_from fields 0 rows in
    let format = table_format fields widths in
    rw p.1
    (begun_alone _ _ _ _ _ c.new-outbox.ensures
    (second_not_sent _ _ _ _ _ _ (names_row format fields) (rule_line widths ++ (flat_map (values_row format) rows ++ count_line (length rows)))
    (rw (c.as_slice-widths.ensures.value, c.widths_of-made.ensures, c.as_slice-fields.ensures) at c.in_ok-send_names.ensures.bytes)
    (second_not_sent _ _ _ _ _ _ (rule_line widths) (flat_map (values_row format) rows ++ count_line (length rows))
    (rw (c.as_slice-widths.ensures.value, c.widths_of-made.ensures, c.as_slice-fields.ensures) at c.in_ok-send_rule.ensures.bytes)
    (head_not_sent _ _ _ _ (flat_map (values_row format) rows) (count_line (length rows))
    (rw (c.as_slice-widths.ensures.value, c.widths_of-made.ensures, c.as_slice-fields.ensures) at c.in_err-send_batches.ensures.bytes)))))

pub returns-in_err-send_count-clause-bytes : goal.returns-in_err-send_count-clause-bytes
returns-in_err-send_count-clause-bytes g c =
    let p = err_from_is_err_and c.from_residual-in_err-send_count.result c.from_residual-in_err-send_count.ensures.1 in
    let fields = c.args.schema.now.fields in
    let rows = flat_map rows_of c.args.batches.now in
    let widths = widths_from fields 0 rows in
    let format = table_format fields widths in
    rw p.1
    (begun_alone _ _ _ _ _ c.new-outbox.ensures
    (second_not_sent _ _ _ _ _ _ (names_row format fields) (rule_line widths ++ (flat_map (values_row format) rows ++ count_line (length rows)))
    (rw (c.as_slice-widths.ensures.value, c.widths_of-made.ensures, c.as_slice-fields.ensures) at c.in_ok-send_names.ensures.bytes)
    (second_not_sent _ _ _ _ _ _ (rule_line widths) (flat_map (values_row format) rows ++ count_line (length rows))
    (rw (c.as_slice-widths.ensures.value, c.widths_of-made.ensures, c.as_slice-fields.ensures) at c.in_ok-send_rule.ensures.bytes)
    (second_not_sent _ _ _ _ _ _ (flat_map (values_row format) rows) (count_line (length rows))
    (rw (c.as_slice-widths.ensures.value, c.widths_of-made.ensures, c.as_slice-fields.ensures) at c.in_ok-send_batches.ensures.bytes)
    c.in_err-send_count.ensures.bytes))))

pub returns-clause-bytes : goal.returns-clause-bytes
returns-clause-bytes g c =
    let fields = c.args.schema.now.fields in
    let rows = flat_map rows_of c.args.batches.now in
    let widths = widths_from fields 0 rows in
    let format = table_format fields widths in
    flushed _ _ _ _ _ _ _ c.new-outbox.ensures
    (both_sent _ _ _ _ _ _ (names_row format fields) (rule_line widths ++ (flat_map (values_row format) rows ++ count_line (length rows)))
    (rw (c.as_slice-widths.ensures.value, c.widths_of-made.ensures, c.as_slice-fields.ensures) at c.in_ok-send_names.ensures.bytes)
    (both_sent _ _ _ _ _ _ (rule_line widths) (flat_map (values_row format) rows ++ count_line (length rows))
    (rw (c.as_slice-widths.ensures.value, c.widths_of-made.ensures, c.as_slice-fields.ensures) at c.in_ok-send_rule.ensures.bytes)
    (both_sent _ _ _ _ _ _ (flat_map (values_row format) rows) (count_line (length rows))
    (rw (c.as_slice-widths.ensures.value, c.widths_of-made.ensures, c.as_slice-fields.ensures) at c.in_ok-send_batches.ensures.bytes)
    c.in_ok-send_count.ensures.bytes))) c.flush.ensures.bytes
