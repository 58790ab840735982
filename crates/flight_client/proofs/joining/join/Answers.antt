use Rattle.flight_client.proofs.Together.{answers_joined, joined_gathered, joined_stop}
use Rattle.flight_client.proofs.Typed.{alike}
use Rattle.flight_client.proofs.joining.join.Goals as goal

pub gather-requires : goal.gather-requires
gather-requires c = alike c.args.streams.items c.in_ok-schema_of_all.field-0.now (rw c.deref.ensures.value at c.in_ok-schema_of_all.ensures)

pub returns-in_err-schema_of_all-clause-said : goal.returns-in_err-schema_of_all-clause-said
returns-in_err-schema_of_all-clause-said c schema answers are =
    let stops = joined_stop c.args.streams.items c.in_err-schema_of_all.field-0.0 (rw c.deref.ensures.value at c.in_err-schema_of_all.ensures) in
    let joins = answers_joined schema answers c.args.streams.items are in
    absurd cc

pub returns-clause-exact : goal.returns-clause-exact
returns-clause-exact c = rw (joined_gathered c.args.streams.items c.in_ok-schema_of_all.field-0.now (rw c.deref.ensures.value at c.in_ok-schema_of_all.ensures)) c.gather.ensures

pub returns-clause-said : goal.returns-clause-said
returns-clause-said c schema answers are =
    let exact = rw (← joined_gathered c.args.streams.items c.in_ok-schema_of_all.field-0.now (rw c.deref.ensures.value at c.in_ok-schema_of_all.ensures)) at c.gather.ensures in
    rw (answers_joined schema answers c.args.streams.items are) at exact
