use Rattle.std.proofs.Common.{take}
use Rattle.first_rows.specs.Numbers.{AreSeen, IsNumber, Stay}
use Rattle.first_rows.specs.RowKeys.{key_of}
use Rattle.first_rows.proofs.texts.TextNumbers.key.Given as goal

abbrev pub invariant-loop-part : goal.invariant-loop-part
invariant-loop-part l = record {
  stay : Stay l.initial.self l.self;
  seen : AreSeen l.self l.first.batch.now l.first.columns.now l.seen;
  is : IsNumber l.self 0 (take l.part (key_of l.first)) l.number;
}
