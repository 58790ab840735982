use Rattle.flight_proto.specs.InfoCommand.{wanted_said}
use Rattle.table_versions.specs.StoredTables.{tables_of}
use Rattle.flight_info.proofs.Answering.{shown, info_made}
use Rattle.flight_info.proofs.Informing.{request_is, info_fits}
use Rattle.flight_info.proofs.info.info_payload.Goals as goal

pub write_info-requires : goal.write_info-requires
write_info-requires c =
    info_fits _ _ _ _ _ _ c.in_ok-described.ensures.described c.args.payload.now (request_is c.args.payload.now (wanted_said c.args.wanted) c.requires)

pub returns-clause-info : goal.returns-clause-info
returns-clause-info c =
    let wanted = wanted_said c.args.wanted in
    info_made (tables_of c.args.snapshot.now.catalog) c.args.snapshot.now.number c.args.payload.now c.args.parts wanted _ _ c.in_ok-described.ensures.described
    c.requires (shown c.in_ok-described.described wanted c.in_ok-described.ensures.first) c.in_ok-write_info.field-0.items c.in_ok-write_info.ensures.said
