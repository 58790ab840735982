use Rattle.flight_proto.proofs.ReadsBack.{any_back, descriptor_back, data_back, wrapped_back, update_back, rows_put_back, statement_ticket_back, options_back, statement_back, query_back, action_back, location_back}
use Rattle.flight_proto.proofs.WantedBack.{tables_back, wanted_back}
use Rattle.flight_proto.proofs.InfoBack.{endpoint_back, info_back}
use Rattle.flight_proto.proofs.laws.messages_read_back.Goals as goal

pub returns : goal.returns
returns c = record {
  any = any_back;
  descriptor = descriptor_back;
  flight_data = data_back;
  wrapped = wrapped_back;
  update = update_back;
  rows_put = rows_put_back;
  ticket = statement_ticket_back;
  options = options_back;
  statement = statement_back;
  query = query_back;
  tables = tables_back;
  wanted = wanted_back;
  action = action_back;
  location = location_back;
  endpoint = endpoint_back;
  info = info_back;
}
