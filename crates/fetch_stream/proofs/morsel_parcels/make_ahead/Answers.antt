use Rattle.std.proofs.Common.{◌≡◌, Result, Ok, Err, subst}
use Rattle.scan_base.specs.declared.fault.Fault.{Fault}
use Rattle.row_sources.specs.declared.turn.Turn.{Turn}
use Rattle.row_sources.specs.declared.turn.Turn.TheVariants.{Given, Working, End}
use Rattle.fetch_stream.specs.declared.ahead_parcel.AheadParcel.{AheadParcel}
use Rattle.fetch_stream.specs.inside.MadeAhead.{MakesNext}
use Rattle.fetch_stream.proofs.MadeAhead.{ended_ahead, more_ahead, refused_ahead, working_ahead}
use Rattle.fetch_stream.proofs.morsel_parcels.make_ahead.Goals as goal

pub loop-left-preserved-in-Ok-Given : goal.loop-left-preserved-in-Ok-Given
loop-left-preserved-in-Ok-Given c = λ schema rows given all.
    let patience = c.args.turns.now.patience in
    let before = c.loop-left.rest in
    let after = c.make_next.new.stream in
    let next = c.in-Ok-Given.next in
    let is : c.make_next.result ≡ Ok (Given next) = cc in
    let makes : MakesNext patience before.stream (Ok (Given next)) after.stream = subst (λ (r : Result (Turn AheadParcel) Fault). MakesNext patience before.stream r after.stream) is c.make_next.ensures in
    rw c.push_back_reserved.ensures.items (more_ahead patience schema rows given c.loop-left.made.items before after next (c.loop-left.invariant schema rows given all) makes)

pub returns-in-Err : goal.returns-in-Err
returns-in-Err c = λ schema rows given all.
    let patience = c.args.turns.now.patience in
    let before = c.loop-left.rest in
    let after = c.make_next.new.stream in
    let makes : MakesNext patience before.stream (Err c.in-Err.field-0) after.stream = subst (λ (r : Result (Turn AheadParcel) Fault). MakesNext patience before.stream r after.stream) c.in-Err.is c.make_next.ensures in
    refused_ahead schema rows given c.loop-left.made.items before after c.in-Err.field-0 (c.loop-left.invariant schema rows given all) makes

-- nothing is made yet
pub loop-left-preserved : goal.loop-left-preserved
loop-left-preserved c = λ schema rows given all.
    let patience = c.args.turns.now.patience in
    let before = c.loop-left.rest in
    let after = c.make_next.new.stream in
    let is : c.make_next.result ≡ Ok Working = cc in
    let makes : MakesNext patience before.stream (Ok Working) after.stream = subst (λ (r : Result (Turn AheadParcel) Fault). MakesNext patience before.stream r after.stream) is c.make_next.ensures in
    working_ahead patience schema rows given c.loop-left.made.items before after (c.loop-left.invariant schema rows given all) makes

-- nothing is left
pub returns-in-Ok-End : goal.returns-in-Ok-End
returns-in-Ok-End c = λ schema rows given all.
    let patience = c.args.turns.now.patience in
    let before = c.loop-left.rest in
    let after = c.make_next.new.stream in
    let is : c.make_next.result ≡ Ok End = cc in
    let makes : MakesNext patience before.stream (Ok End) after.stream = subst (λ (r : Result (Turn AheadParcel) Fault). MakesNext patience before.stream r after.stream) is c.make_next.ensures in
    ended_ahead schema rows given c.loop-left.made.items before after (c.loop-left.invariant schema rows given all) makes
