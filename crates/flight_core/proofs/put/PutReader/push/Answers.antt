use Rattle.std.proofs.Common.{sym, ◌∙◌}
use Rattle.flight_core.proofs.Arriving.{read_on, read_faulty, read_past, kept_first, passed_first}
use Rattle.flight_core.proofs.put.PutReader.push.Goals as goal
use Rattle.flight_core.proofs.put.PutReader.push.Goals.{in-Ok+in-Some-1, in-Ok+in-None-1, in-Err-1}

pub returns-in_default-clause-read : goal.returns-in_default-clause-read
returns-in_default-clause-read c payloads has = rw c.self.view_is (read_past payloads c.args.payload.now c.in_default.field-0 c.args.self.now (sym c.self.view_is ∙ c.in_default.is) has)

pub returns-in_default-read_next-clause-read : goal.returns-in_default-read_next-clause-read
returns-in_default-read_next-clause-read c payloads has =
    read_on payloads c.args.payload.now c.in-Ok.begun c.read_next.new.begun c.args.self.now (sym c.self.view_is ∙ c.in-Ok.is) c.in_default-read_next.ensures has

pub returns-in-Err-clause-read : goal.returns-in-Err-clause-read
returns-in-Err-clause-read c payloads has =
    let kept = read_faulty payloads c.args.payload.now c.in-Ok.begun c.in-Err.fault c.args.self.now (sym c.self.view_is ∙ c.in-Ok.is) c.in-Err.ensures has in
    elim c.match-self-2.branch [ in-Ok+in-Some-1 w ↦ rw w.self-is kept | in-Ok+in-None-1 w ↦ rw w.self-is kept | in-Err-1 w ↦ rw w.self-is kept ]

pub returns-in_default-clause-first : goal.returns-in_default-clause-first
returns-in_default-clause-first c begun e = absurd (let bad = sym c.self.view_is ∙ c.in_default.is in let no : ⊥ = cc in no)

pub returns-in_default-read_next-clause-first : goal.returns-in_default-read_next-clause-first
returns-in_default-read_next-clause-first c begun e =
    passed_first begun c.in-Ok.begun c.read_next.new.begun c.args.payload.now c.args.self.now _ e (sym c.self.view_is ∙ c.in-Ok.is) c.in_default-read_next.ensures

pub returns-in-Err-clause-first : goal.returns-in-Err-clause-first
returns-in-Err-clause-first c begun e =
    let kept = kept_first begun c.in-Ok.begun c.args.payload.now c.in-Err.fault c.args.self.now e (sym c.self.view_is ∙ c.in-Ok.is) c.in-Err.ensures in
    elim c.match-self-2.branch [ in-Ok+in-Some-1 w ↦ rw w.self-is kept | in-Ok+in-None-1 w ↦ rw w.self-is kept | in-Err-1 w ↦ rw w.self-is kept ]
