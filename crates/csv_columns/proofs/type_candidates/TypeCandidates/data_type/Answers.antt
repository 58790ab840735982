use Rattle.std.proofs.Common.{◌≡◌, false, sym, ◌∙◌}
use Rattle.arrow_types.specs.declared.data_type.DataType.TheVariants.{Bool}
use Rattle.arrow_types.specs.declared.data_type.NumberType.TheVariants.{Integer}
use Rattle.arrow_types.specs.declared.data_type.IntegerType.TheVariants.{Int8}
use Rattle.number_words.specs.NumberTexts.{types_tried}
use Rattle.csv_columns.specs.FittingColumns.{takes_all}
use Rattle.csv_columns.proofs.Tried.{found_at, found_none}
use Rattle.csv_columns.proofs.type_candidates.TypeCandidates.data_type.Goals as goal

pub returns-in-Some-clause-found : goal.returns-in-Some-clause-found
returns-in-Some-clause-found c fields seen =
    let off : takes_all Bool fields ≡ false = sym seen.flag ∙ c.if-self.false in
    let found = rw seen.numbers at c.in-Some.ensures in
    rw off (found_at types_tried fields c.in-Some.place (Integer Int8) found.0 found.1 found.2)

pub returns-in-None-clause-found : goal.returns-in-None-clause-found
returns-in-None-clause-found c fields seen =
    let off : takes_all Bool fields ≡ false = sym seen.flag ∙ c.if-self.false in
    rw off (found_none types_tried fields (rw seen.numbers at c.in-None.ensures))
