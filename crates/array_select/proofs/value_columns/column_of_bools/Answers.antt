use Rattle.std.proofs.Common.{length, ap, refl, arith}
use Rattle.scan_base.specs.declared.value.Value.TheVariants.{Bool}
use Rattle.array_select.proofs.Textless.{no_texts}
use Rattle.array_select.proofs.value_columns.column_of_bools.Goals as goal

pub fill_column-requires-clause-short : goal.fill_column-requires-clause-short
fill_column-requires-clause-short c = let none = ap length (no_texts Bool c.args.values.now (λ x. refl)) in omega (arith, none)
