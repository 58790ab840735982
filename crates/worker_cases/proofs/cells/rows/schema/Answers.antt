use Rattle.std.proofs.Common.{◌≡◌, ◌∷◌, [], true, rules, refl, arith}
use Rattle.std.specs.Prelude.{codes}
use Rattle.std.proofs.lemmas.List.Elements.{All-nil, All-cons}
use Rattle.arrow_types.specs.Schema.{IsField, IsSchema}
use Rattle.arrow_types.specs.declared.schema.Field.{Field}
use Rattle.arrow_types.specs.declared.data_type.DataType.TheVariants.{Number}
use Rattle.arrow_types.specs.declared.data_type.NumberType.TheVariants.{Integer}
use Rattle.arrow_types.specs.declared.data_type.IntegerType.TheVariants.{Int64}
use Rattle.worker_cases.proofs.cells.rows.schema.Goals as goal

abbrev column : Field
column = record { name = codes "a"; nullable = true; data_type = Number (Integer Int64) }

one_column : IsField column → IsSchema (record { fields = column ∷ [] })
one_column first = record {
  some = omega arith;
  few = omega arith;
  fields = All-cons IsField column [] first (All-nil IsField);
  apart = refl;
}

pub returns-clause-valid : goal.returns-clause-valid
returns-clause-valid c =
    let same : c.push.new.self ≡ column ∷ [] = search rules in
    rw same (one_column (record { named = record { some = omega arith; few = omega arith; utf8 = search rules }; typed = search rules }))
