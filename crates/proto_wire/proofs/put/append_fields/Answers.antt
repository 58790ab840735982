use Rattle.proto_wire.proofs.Written.{has_number, kept_before, written_more}
use Rattle.proto_wire.proofs.put.append_fields.Goals as goal

pub returns-in_err-append_field-clause-err : goal.returns-in_err-append_field-clause-err
returns-in_err-append_field-clause-err c =
    kept_before c.args.out.now.items _ c.loop-field.out.items c.append_field.new.out.items c.loop-field.invariant.0 c.append_field.ensures.err

pub loop-field-preserved : goal.loop-field-preserved
loop-field-preserved c =
    written_more c.args.out.now.items c.loop-field.out.items c.append_field.new.out.items c.args.fields.now c.loop-field.field-index _ c.loop-field-test.true c.loop-field.invariant c.in_ok-append_field.ensures.ok c.in_ok-append_field.ensures.entry

pub append_field-requires : goal.append_field-requires
append_field-requires c =
    has_number c.args.fields.now c.loop-field.field-index _ c.loop-field-test.true c.requires
