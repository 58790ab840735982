-- Inside: streams gathered one after another, once it is known that they can be joined.
use Rattle.std.specs.Prelude.{List, [], ◌∷◌, ◌++◌, Option, Some, None, Result, Ok}
use Rattle.scan_base.specs.declared.fault.Fault.{Fault}
use Rattle.scan_base.specs.declared.fault.Fault.TheVariants.{BadBatch}
use Rattle.scan_base.specs.Reading.{◌>>=◌, wanted}
use Rattle.table_versions.specs.Table.{Table}
use Rattle.flight_client.specs.Stream.{StreamAt}

-- what was gathered, and after it the rows of one stream more; the first one gives the schema
abbrev pub gathered_with : Option Table → StreamAt → Result Table Fault
gathered_with None stream =
    wanted stream.state BadBatch
    >>= λ known. Ok (record { schema = known.schema; rows = stream.rows })
gathered_with (Some table) stream = Ok (record table { rows = table.rows ++ stream.rows })

-- and after it all these streams
abbrev pub gathered : Option Table → List StreamAt → Result Table Fault
gathered rows [] = wanted rows BadBatch
gathered rows (stream ∷ streams) =
    gathered_with rows stream >>= λ table. gathered (Some table) streams
