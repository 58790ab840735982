use Rattle.std.proofs.Common.{◌≡◌, ◌∙◌, inr, List, ℕ, Vec}
use Rattle.std.specs.Global.{Global}
use Rattle.flight_proto.specs.InfoCommand.{rows_of}
use Rattle.fault_hints.specs.Hints.{query_hint}
use Rattle.client_commands.specs.Commands.{columns_query}
use Rattle.client_commands.proofs.Described.{columns_told}
use Rattle.client_commands.proofs.describe.describe.Goals as goal

-- the columns, as plain data
abbrev seen : Vec ℕ Global → List ℕ
seen text = text.items

pub returns : goal.returns
returns g c =
    let opened = c.in-Ok-open.ensures in
    let sql = columns_query c.args.table.now in
    let first : c.as_str.result.now ≡ sql = c.as_str.ensures.value ∙ c.in-Ok.ensures in
    let second : c.as_str-2.result.now ≡ sql = c.as_str-2.ensures.value ∙ c.in-Ok.ensures in
    let made = rw (opened.2, first) at c.fetch_columns-fetched.ensures in
    inr (inr (columns_told (query_hint sql) _ seen (rows_of sql) c.fetch_columns-fetched.result opened.0 _ _ _ _ opened.1 made (rw second at c.tell_columns.ensures)))
