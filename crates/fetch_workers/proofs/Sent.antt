-- The morsels of a stream, and the parcels that are made ahead of one, may cross threads: each of their parts may. The tree of types
-- is too deep for one search, so each type that holds a recursive one has a lemma here; the others have one that is generated.
use denote.Builtin.{usize}
use denote.Param.Send.{IsSend, IsSync, sendable}
use denote.Param.SendFields.{as_row_send, as_row_sync}
use Rattle.std.proofs.Crossing.{Box-send, Box-sync, crosses}
use Rattle.std.proofs.MapsCrossing.{crosses as maps}
use Rattle.scan_base.specs.contracts.predicate.Operand as operand
use Rattle.scan_base.specs.contracts.predicate.Predicate as predicate
use Rattle.scan_base.proofs.predicate.Predicate.TheLaws.TheKnot as predicates
use Rattle.scan_base.proofs.truth.Truth.TheSendSync as truth
use Rattle.scan_base.proofs.comparison.Comparison.TheSendSync as comparison
use Rattle.row_sources.specs.contracts.picker.Picker as picker
use Rattle.row_sources.specs.contracts.place.PlaceRows as place
use Rattle.row_sources.specs.contracts.rows.JoinState as joined
use Rattle.row_sources.specs.contracts.rows.Rows as rows
use Rattle.row_sources.proofs.rows.Rows.TheLaws.TheKnot as knot
use Rattle.row_sources.proofs.place.PlaceRows.TheSendSync as places
use Rattle.row_sources.proofs.rows.JoinState.TheSendSync as joining
use Rattle.scan_exec.specs.contracts.grouped_rows.GroupSpec as wanted
use Rattle.scan_base.proofs.seed.HashSeed.TheSendSync as seed
use Rattle.arrow_types.proofs.data_type.DataType.TheSendSync as data_type
use Rattle.typed_plan.proofs.plan.Aggregate.TheSendSync as aggregate
use Rattle.scan_exec.specs.contracts.grouped_rows.GroupedRows as groups
use Rattle.scan_exec.proofs.grouped_rows.Stage.TheSendSync as stage
use Rattle.scan_exec.specs.contracts.shown_groups.ShownGroups as shown
use Rattle.scan_exec.specs.contracts.scan_answer.ScanAnswer as answer
use Rattle.scan_exec.specs.contracts.scan.Scan as scan
use Rattle.scan_base.proofs.fault.Fault.TheSendSync as fault
use Rattle.arrow_types.proofs.schema.Schema.TheSendSync as schema
use Rattle.fetch_stream.proofs.cutter.Cutter.TheSendSync as cutter
use Rattle.fetch_stream.specs.contracts.source.Source as source
use Rattle.fetch_stream.specs.contracts.stream.FetchStream as stream

-- ---- predicates, and what is picked by them

operand_send : IsSend (operand.the_field usize).row
operand_send = search (sendable, crosses, maps) depth 20

operand_sync : IsSync (operand.the_field usize).row
operand_sync = search (sendable, crosses, maps) depth 20

predicate_send : IsSend (predicate.the_field usize).row
predicate_send = let o = operand_send in
    predicates.send-Predicate usize Box-send (search sendable) truth.the_field_send comparison.the_field_send o (search (sendable, crosses) depth 20)

predicate_sync : IsSync (predicate.the_field usize).row
predicate_sync = let o = operand_sync in
    predicates.sync-Predicate usize Box-sync (search sendable) truth.the_field_sync comparison.the_field_sync o (search (sendable, crosses) depth 20)

picker_send : IsSend (picker.the_field).row
picker_send = let p = predicate_send in search (sendable, crosses) depth 20

picker_sync : IsSync (picker.the_field).row
picker_sync = let p = predicate_sync in search (sendable, crosses) depth 20

-- ---- rows of a source

rows_send : IsSend rows.the_row
rows_send = let a = picker_send in let b = picker_sync in
    knot.both_send-Rows (search (sendable, crosses) depth 20) (search (sendable, crosses) depth 20) (as_row_send place.the_field places.the_field_send) (λ h s y. Box-send h s) (as_row_send joined.the_field joining.the_field_send)
    (search (sendable, crosses) depth 20) (search (sendable, crosses) depth 20) (as_row_sync place.the_field places.the_field_sync) (λ h s y. Box-sync h y) (as_row_sync joined.the_field joining.the_field_sync)

rows_sync : IsSync rows.the_row
rows_sync = let a = picker_send in let b = picker_sync in
    knot.both_sync-Rows (search (sendable, crosses) depth 20) (search (sendable, crosses) depth 20) (as_row_send place.the_field places.the_field_send) (λ h s y. Box-send h s) (as_row_send joined.the_field joining.the_field_send)
    (search (sendable, crosses) depth 20) (search (sendable, crosses) depth 20) (as_row_sync place.the_field places.the_field_sync) (λ h s y. Box-sync h y) (as_row_sync joined.the_field joining.the_field_sync)

-- ---- groups

wanted_send : IsSend (wanted.the_field).row
wanted_send = let p = picker_send in let s = seed.the_field_send in let d = data_type.the_field_send in let a = aggregate.the_field_send in
    search (sendable, crosses) depth 20

wanted_sync : IsSync (wanted.the_field).row
wanted_sync = let p = picker_sync in let s = seed.the_field_sync in let d = data_type.the_field_sync in let a = aggregate.the_field_sync in
    search (sendable, crosses) depth 20

groups_send : IsSend (groups.the_field).row
groups_send = let a = rows_send in let b = wanted_send in let c = stage.the_field_send in search (sendable, crosses) depth 20

groups_sync : IsSync (groups.the_field).row
groups_sync = let a = rows_sync in let b = wanted_sync in let c = stage.the_field_sync in search (sendable, crosses) depth 20

shown_send : IsSend (shown.the_field).row
shown_send = let a = groups_send in let b = picker_send in search (sendable, crosses) depth 20

shown_sync : IsSync (shown.the_field).row
shown_sync = let a = groups_sync in let b = picker_sync in search (sendable, crosses) depth 20

-- ---- a scan

answer_send : IsSend (answer.the_field).row
answer_send = let a = rows_send in let b = shown_send in search (sendable, crosses) depth 20

answer_sync : IsSync (answer.the_field).row
answer_sync = let a = rows_sync in let b = shown_sync in search (sendable, crosses) depth 20

scan_send : IsSend (scan.the_field).row
scan_send = let a = answer_send in let f = fault.the_field_send in let b = schema.the_send in let c = schema.the_sync in search (sendable, crosses) depth 20

pub scan_sync : IsSync (scan.the_field).row
scan_sync = let a = answer_sync in let f = fault.the_field_sync in let b = schema.the_send in let c = schema.the_sync in search (sendable, crosses) depth 20

-- ---- a stream

source_send : IsSend (source.the_field).row
source_send = let a = scan_send in let b = schema.the_field_send in search (sendable, crosses) depth 20

pub stream_send : IsSend (stream.the_field).row
stream_send = let a = source_send in let b = cutter.the_field_send in let c = fault.the_field_send in let d = seed.the_field_send in search (sendable, crosses) depth 20
