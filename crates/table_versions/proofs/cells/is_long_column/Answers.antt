use Rattle.std.proofs.Common.{◌∙◌, sym, arith}
use Rattle.std.proofs.lemmas.Bool.{le-ltb}
use Rattle.arrays.specs.Column.{values_of}
use Rattle.table_versions.proofs.Slots.{none_long}
use Rattle.table_versions.proofs.cells.is_long_column.Goals as goal

pub returns-else-longest_text-gt-MAX_TEXT_BYTES : goal.returns-else-longest_text-gt-MAX_TEXT_BYTES
returns-else-longest_text-gt-MAX_TEXT_BYTES c = record {
  long = le-ltb _ _ (omega arith) ∙ sym (none_long (values_of c.args.column.now) c.longest_text.result (omega arith) c.longest_text.ensures);
  stands = c.len-len.ensures.stands;
}
