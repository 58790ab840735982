use Rattle.std.proofs.Common.{◌∙◌, sym, ap, nat_lt}
use Rattle.arrays.specs.Column.{values_of}
use Rattle.scan_base.specs.Value.{is_null}
use Rattle.table_versions.proofs.Slots.{any_counted}
use Rattle.table_versions.proofs.cells.has_null.Goals as goal

pub returns : goal.returns
returns c = ap (nat_lt 0) c.null_count.ensures ∙ sym (any_counted is_null (values_of c.args.column.now))
