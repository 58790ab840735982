use Rattle.std.proofs.Common.{◌≡◌, ◌++◌, ℕ, List, OnOk, subst}
use Rattle.flight_proto.specs.Action.{action_bytes}
use Rattle.flight_proto.specs.Expiry.{expire_name}
use Rattle.flight_proto.proofs.expiry.put_expiry.Goals as goal

-- the body that was written is the number's eight bytes
pub returns-clause-ok : goal.returns-clause-ok
returns-clause-ok c = subst (λ (body : List ℕ). OnOk c.put.result (c.put.new.out.items ≡ c.args.out.now.items ++ action_bytes (record { action_type = expire_name; body = body }))) c.to_be_bytes-body.ensures c.put.ensures.ok
