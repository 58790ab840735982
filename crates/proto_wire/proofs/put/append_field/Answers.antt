use Rattle.proto_wire.proofs.Written.{kept_before}
use Rattle.proto_wire.proofs.put.append_field.Goals as goal

pub returns-in_ok-append_tag-in-Bytes-clause-err : goal.returns-in_ok-append_tag-in-Bytes-clause-err
returns-in_ok-append_tag-in-Bytes-clause-err c =
    kept_before c.args.out.now.items _ c.append_tag-in-Bytes.new.out.items c.append_chunk.new.out.items c.in_ok-append_tag-in-Bytes.ensures.ok c.append_chunk.ensures.err
