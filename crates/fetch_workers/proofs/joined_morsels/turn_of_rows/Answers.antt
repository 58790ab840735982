use Rattle.std.proofs.Common.{◌≡◌, None, Result, Ok, subst}
use Rattle.std.specs.Prelude.{option_map}
use Rattle.scan_base.specs.declared.fault.Fault.{Fault}
use Rattle.row_sources.specs.declared.turn.Turn.{Turn}
use Rattle.row_sources.specs.declared.turn.Turn.TheVariants.{Given, Working, End}
use Rattle.fetch_stream.specs.Streams.{Parcel}
use Rattle.fetch_workers.specs.inside.JoinedMorsels.{GivesPresent}
use Rattle.fetch_workers.proofs.Joining.{joined_as, joined_present, joined_working}
use Rattle.fetch_workers.proofs.joined_morsels.turn_of_rows.Goals as goal

pub turn_of_later-requires-clause-none : goal.turn_of_later-requires-clause-none
turn_of_later-requires-clause-none g c =
    let morsels = c.requires.right.0 in
    let before = option_map g.A.Part.stream c.args.present.now in
    let after = option_map g.A.Part.stream c.turn_of_present.new.present in
    let is : c.turn_of_present.result ≡ Ok End = cc in
    let gives : GivesPresent c.args.looking.now.patience morsels 0 before c.args.done.now (Ok End) after c.turn_of_present.new.done =
    subst (λ (r : Result (Turn Parcel) Fault). GivesPresent c.args.looking.now.patience morsels 0 before c.args.done.now r after c.turn_of_present.new.done) is (c.turn_of_present.ensures morsels 0 c.requires.right.2) in
    gives.0

pub turn_of_later-requires-clause-few : goal.turn_of_later-requires-clause-few
turn_of_later-requires-clause-few g c =
    let morsels = c.requires.right.0 in
    let before = option_map g.A.Part.stream c.args.present.now in
    let after = option_map g.A.Part.stream c.turn_of_present.new.present in
    let is : c.turn_of_present.result ≡ Ok End = cc in
    let gives : GivesPresent c.args.looking.now.patience morsels 0 before c.args.done.now (Ok End) after c.turn_of_present.new.done =
    subst (λ (r : Result (Turn Parcel) Fault). GivesPresent c.args.looking.now.patience morsels 0 before c.args.done.now r after c.turn_of_present.new.done) is (c.turn_of_present.ensures morsels 0 c.requires.right.2) in
    gives.1

pub returns-in-Ok-Given-clause-gives : goal.returns-in-Ok-Given-clause-gives
returns-in-Ok-Given-clause-gives g c morsels answers goes =
    let answered = g.P.Answers.given c.args.answers.now in
    let before = option_map g.A.Part.stream c.args.present.now in
    let after = option_map g.A.Part.stream c.turn_of_present.new.present in
    let parcel = c.in-Ok-Given.parcel in
    let is : c.turn_of_present.result ≡ Ok (Given parcel) = cc in
    let gives : GivesPresent c.args.looking.now.patience morsels answered before c.args.done.now (Ok (Given parcel)) after c.turn_of_present.new.done =
    subst (λ (r : Result (Turn Parcel) Fault). GivesPresent c.args.looking.now.patience morsels answered before c.args.done.now r after c.turn_of_present.new.done) is (c.turn_of_present.ensures morsels answered goes) in
    joined_present c.args.looking.now.patience morsels answered c.args.done.now c.turn_of_present.new.done before after parcel gives

pub returns-in-Ok-Working-clause-gives : goal.returns-in-Ok-Working-clause-gives
returns-in-Ok-Working-clause-gives g c morsels answers goes =
    let patience = c.args.looking.now.patience in
    let answered = g.P.Answers.given c.args.answers.now in
    let before = option_map g.A.Part.stream c.args.present.now in
    let after = option_map g.A.Part.stream c.turn_of_present.new.present in
    let is : c.turn_of_present.result ≡ Ok Working = cc in
    let gives : GivesPresent patience morsels answered before c.args.done.now (Ok Working) after c.turn_of_present.new.done =
    subst (λ (r : Result (Turn Parcel) Fault). GivesPresent patience morsels answered before c.args.done.now r after c.turn_of_present.new.done) is (c.turn_of_present.ensures morsels answered goes) in
    joined_working patience morsels answered c.args.done.now c.turn_of_present.new.done before after goes c.requires.few gives

pub returns-in-Ok-End-clause-gives : goal.returns-in-Ok-End-clause-gives
returns-in-Ok-End-clause-gives g c morsels answers goes =
    let answered = g.P.Answers.given c.args.answers.now in
    let before = option_map g.A.Part.stream c.args.present.now in
    let middle = option_map g.A.Part.stream c.turn_of_present.new.present in
    let after = option_map g.A.Part.stream c.turn_of_later.new.present in
    let is : c.turn_of_present.result ≡ Ok End = cc in
    let gives : GivesPresent c.args.looking.now.patience morsels answered before c.args.done.now (Ok End) middle c.turn_of_present.new.done =
    subst (λ (r : Result (Turn Parcel) Fault). GivesPresent c.args.looking.now.patience morsels answered before c.args.done.now r middle c.turn_of_present.new.done) is (c.turn_of_present.ensures morsels answered goes) in
    joined_as c.args.looking.now.patience morsels answered c.turn_of_present.new.done c.args.done.now (g.P.Answers.given c.turn_of_later.new.answers) c.turn_of_present.new.done None before after c.turn_of_later.result gives.2
    (c.turn_of_later.ensures.gives morsels answers)
