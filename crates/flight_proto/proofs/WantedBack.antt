-- What asks for a flight info reads back.
use Rattle.std.proofs.Common.{◌≡◌, ℕ, ◌+◌, ◌≤◌, Bool, true, false, List, [], ◌∷◌, length, Some, Ok, refl, sym, ap, ◌∙◌, arith}
use lib.Utf8.{encode}
use Rattle.std.proofs.lemmas.Bool.{le-leb}
use Rattle.scan_base.specs.Limits.{most_request_bytes, most_command_bytes}
use Rattle.proto_wire.specs.Calls.{varint_entry}
use Rattle.flight_proto.specs.Message.{bool_number, set_fields}
use Rattle.flight_proto.specs.Any.{AnySaid, any_bytes, message_name, type_url_of}
use Rattle.flight_proto.specs.FlightDescriptor.{DescriptorSaid, descriptor_bytes}
use Rattle.flight_proto.specs.Command.{command_of}
use Rattle.flight_proto.specs.InfoCommand.{QuerySaid, TablesSaid, tables_in, tables_of, tables_bytes, InfoCommand, rows_of, tables, statement_query_name, get_tables_name, wanted_any, wanted_by, wanted_in, command_bytes, wanted_bytes}
use Rattle.flight_proto.specs.Laws.{ReadsBack, IsText, IsAny, IsDescriptor, IsQuery, IsUnfiltered, IsWanted}
use Rattle.flight_proto.proofs.Cursors.{no_fields}
use Rattle.flight_proto.proofs.ReadsBack.{back, set_writable, varint_writable, bool_small, any_back, any_len, descriptor_back, descriptor_len, query_back, query_len}

-- ---- a list of tables

tables_say : (include_schema : Bool) → tables_in (set_fields (varint_entry 5 (bool_number include_schema) ∷ [])) ≡ Ok (record { is_filtered = false; include_schema = include_schema })
tables_say true = refl
tables_say false = refl

pub tables_back : (said : TablesSaid) → IsUnfiltered said → tables_of (tables_bytes said.include_schema) ≡ Ok said
tables_back said h =
    let entries = varint_entry 5 (bool_number said.include_schema) ∷ [] in
    back tables_in (set_fields entries) said (set_writable entries (varint_writable 5 (bool_number said.include_schema) (omega arith, omega arith) (bool_small said.include_schema), tt))
    (tables_say said.include_schema ∙ ap (λ (filtered : Bool). Ok (record { is_filtered = filtered; include_schema = said.include_schema })) (sym h))

-- ---- what is wanted

-- a command whose Any is within the limit
command_back : (any : AnySaid) (name : List ℕ) (wanted : InfoCommand) → IsAny any → length any.type_url + length any.value ≤ 60000 → message_name any.type_url ≡ Some name
    → wanted_by (record { name = name; value = any.value }) ≡ Ok wanted → wanted_in (command_bytes any) ≡ Ok wanted
unfolding wanted_in command_of
command_back any name wanted is few named by =
    let descriptor : DescriptorSaid = record { descriptor_type = 2; cmd = any_bytes any } in
    let short = any_len any is in
    let fits : IsDescriptor descriptor = (omega arith, omega (arith, short, few)) in
    let long = descriptor_len descriptor fits in
    rw (
      le-leb (length (descriptor_bytes descriptor)) most_request_bytes (omega (arith, long, short, few)),
      descriptor_back descriptor fits,
      le-leb (length (any_bytes any)) most_command_bytes (omega (arith, short, few)),
      any_back any is,
      named,
    ) by

query_url : IsText (type_url_of statement_query_name)
unfolding encode
query_url = ((type_url_of statement_query_name, (refl, refl)), omega arith)

tables_url : IsText (type_url_of get_tables_name)
unfolding encode
tables_url = ((type_url_of get_tables_name, (refl, refl)), omega arith)

pub wanted_back : ReadsBack IsWanted wanted_in wanted_bytes
wanted_back (rows_of text) h =
    let said : QuerySaid = record { query = text; transaction_id = [] } in
    let is : IsQuery said = (h.0, omega arith) in
    let short = query_len said is in
    command_back (wanted_any (rows_of text)) statement_query_name (rows_of text) (query_url, omega (arith, short, h.1)) (omega (arith, short, h.1)) refl (rw (query_back said is) refl)
wanted_back tables h = command_back (wanted_any tables) get_tables_name tables (tables_url, omega arith) (omega arith) refl (rw no_fields refl)
