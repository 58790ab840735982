use Rattle.std.proofs.Common.{◌≡◌, Result, Ok, subst}
use Rattle.scan_base.specs.declared.fault.Fault.{Fault}
use Rattle.row_sources.specs.declared.turn.Turn.{Turn}
use Rattle.row_sources.specs.declared.turn.Turn.TheVariants.{Given, Working}
use Rattle.fetch_stream.specs.Streams.{Parcel}
use Rattle.fetch_workers.specs.inside.JoinedMorsels.{GivesCounted}
use Rattle.fetch_workers.proofs.Joining.{present_parcel, present_working}
use Rattle.fetch_workers.proofs.joined_morsels.turn_of_present.Goals as goal

pub returns-in-Ok-Given : goal.returns-in-Ok-Given
returns-in-Ok-Given g c =
    let patience = c.args.looking.now.patience in
    let part = g.A.Part.stream c.in-Some.part in
    let after = g.A.Part.stream c.turn_counted.new.part in
    let parcel = c.in-Ok-Given.parcel in
    let is : c.turn_counted.result ≡ Ok (Given parcel) = cc in
    let counted : GivesCounted patience part c.args.done.now (Ok (Given parcel)) after = subst (λ (r : Result (Turn Parcel) Fault). GivesCounted patience part c.args.done.now r after) is c.turn_counted.ensures in
    rw c.in-Some.is (λ morsels answered goes. present_parcel patience morsels answered c.args.done.now part after parcel goes counted)

pub returns-in-Ok-Working : goal.returns-in-Ok-Working
returns-in-Ok-Working g c =
    let patience = c.args.looking.now.patience in
    let part = g.A.Part.stream c.in-Some.part in
    let after = g.A.Part.stream c.turn_counted.new.part in
    let is : c.turn_counted.result ≡ Ok Working = cc in
    let counted : GivesCounted patience part c.args.done.now (Ok Working) after = subst (λ (r : Result (Turn Parcel) Fault). GivesCounted patience part c.args.done.now r after) is c.turn_counted.ensures in
    rw c.in-Some.is (λ morsels answered goes. present_working patience morsels answered c.args.done.now part after counted)
