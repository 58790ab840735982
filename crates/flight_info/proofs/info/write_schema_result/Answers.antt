use Rattle.std.proofs.Common.{◌≡◌, rules}
use Rattle.flight_proto.specs.WrappedBytes.{wrapped_bytes}
use Rattle.flight_info.proofs.Describing.{result_fits}
use Rattle.flight_info.proofs.info.write_schema_result.Goals as goal

pub only_payload-requires : goal.only_payload-requires
only_payload-requires c =
    let whole : c.put_wrapped.new.out.items ≡ wrapped_bytes c.args.form.now = search rules in
    result_fits c.args.form.now c.put_wrapped.new.out.items whole c.requires
