use Rattle.std.proofs.Common.{◌≡◌, ℕ, true, Result, Ok, refl, ap, sym, subst, ◌∙◌}
use Rattle.scan_base.specs.declared.fault.Fault.{Fault}
use Rattle.row_sources.specs.declared.turn.Turn.{Turn}
use Rattle.arrow_types.specs.declared.schema.Schema.{Schema}
use Rattle.fetch_stream.specs.Streams.{StreamAt, RunningAt, LooksFor, Parcel}
use Rattle.fetch_stream.specs.inside.RowsAhead.{schema_behind, rows_cut, unseen_behind}
use Rattle.fetch_stream.specs.inside.Steps.{GivesFirst, rows_left}
use Rattle.fetch_stream.proofs.Going.{cut_few, goes_on, gives_so, gives_next, gives_first, looks_first, looks_next}
use Rattle.fetch_stream.proofs.stream.FetchStream.turn.Goals as goal
use Rattle.fetch_stream.proofs.stream.FetchStream.turn.Goals.{then-self, else-self}

pub invariant_of-self : goal.invariant_of-self
invariant_of-self c none = elim c.if-self.branch [
  | then-self w ↦
      let rows = w.turn_of_rows-given in
      rw w.self-inside-is (goes_on c.args.patience c.self.inside.cutter c.self.inside.source c.in-Ok.field-0 rows.new.cutter rows.new.source (rw (sym w.given-is ∙ c.in-Ok.is) at rows.ensures))
  | else-self w ↦ rw w.self-inside-is (c.self.invariant c.in_default.is)
]

pub returns-in-Ok-clause-turns : goal.returns-in-Ok-clause-turns
returns-in-Ok-clause-turns c =
    let inside = c.self.inside in
    let new = c.if-self.self-inside in
    let given = c.in-Ok.field-0 in
    let left = rows_left inside.cutter inside.source in
    let count = rows_cut inside.cutter inside.source in
    let before : StreamAt = record { schema = schema_behind inside.source; begun = inside.begun; left = left; given = count; refused = inside.refused } in
    let after : StreamAt = record { schema = schema_behind new.source; begun = true; left = rows_left new.cutter new.source; given = rows_cut new.cutter new.source; refused = new.refused } in
    elim c.if-self.branch [
      | then-self w ↦
          let rows = w.turn_of_rows-given in
          let last : StreamAt = record { schema = schema_behind rows.new.source; begun = true; left = rows_left rows.new.cutter rows.new.source; given = rows_cut rows.new.cutter rows.new.source; refused = inside.refused } in
          let same : after ≡ last = rw w.self-inside-is refl in
          gives_so c.args.patience c.args.self.now.stream before after last c.if-self.given given (ap (λ (s : RunningAt). s.stream) (sym c.self.view_is)) c.in-Ok.is same c.in_default.is c.in_default.is
          (gives_next c.args.patience inside.cutter inside.source given rows.new.cutter rows.new.source inside.begun w.if-self.true (rw (sym w.given-is ∙ c.in-Ok.is) at rows.ensures))
      | else-self w ↦
          let last : StreamAt = record { schema = schema_behind inside.source; begun = true; left = left; given = count; refused = inside.refused } in
          let same : after ≡ last = rw w.self-inside-is refl in
          gives_so c.args.patience c.args.self.now.stream before after last c.if-self.given given (ap (λ (s : RunningAt). s.stream) (sym c.self.view_is)) c.in-Ok.is same c.in_default.is c.in_default.is
          (gives_first c.args.patience (schema_behind inside.source) given left count inside.begun w.if-self.false (cut_few inside.cutter inside.source (c.self.invariant c.in_default.is)) (subst (λ (schema : Schema). GivesFirst schema (Ok given)) w.schema.ensures (rw (sym w.given-is ∙ c.in-Ok.is) at w.first_parcel-given.ensures)))
    ]

pub returns-in-Ok-clause-looks : goal.returns-in-Ok-clause-looks
returns-in-Ok-clause-looks c =
    let patience = c.args.patience in
    let inside = c.self.inside in
    let new = c.if-self.self-inside in
    let given = c.in-Ok.field-0 in
    let before : unseen_behind inside.source ≡ c.args.self.now.unseen = ap (λ (s : RunningAt). s.unseen) c.self.view_is in
    let so : LooksFor patience (Ok given) (unseen_behind inside.source) (unseen_behind new.source) = elim c.if-self.branch [
      | then-self w ↦
          let rows = w.turn_of_rows-given in
          rw w.self-inside-is (looks_next patience inside.cutter inside.source given rows.new.cutter rows.new.source (rw (sym w.given-is ∙ c.in-Ok.is) at rows.ensures))
      | else-self w ↦
          rw w.self-inside-is (looks_first patience (schema_behind inside.source) given (unseen_behind inside.source) (unseen_behind inside.source)
          (subst (λ (schema : Schema). GivesFirst schema (Ok given)) w.schema.ensures (rw (sym w.given-is ∙ c.in-Ok.is) at w.first_parcel-given.ensures)))
    ] in
    subst (λ (n : ℕ). LooksFor patience c.if-self.given n (unseen_behind new.source)) before
    (subst (λ (r : Result (Turn Parcel) Fault). LooksFor patience r (unseen_behind inside.source) (unseen_behind new.source)) (sym c.in-Ok.is) so)
