use Rattle.row_stream.proofs.Numbers.{all_numbered, numbered_is_schema}
use Rattle.row_stream.proofs.dresser.Dresser.new.Goals as goal

pub invariant_of-result : goal.invariant_of-result
invariant_of-result c =
    rw c.in_ok-schema.ensures (numbered_is_schema c.args.schema.now c.requires, all_numbered 0 c.args.schema.now.fields)
