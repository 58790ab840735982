use Rattle.std.proofs.Common.{◌≡◌, ◌≤◌, [], None, ap, sym, ◌∙◌, arith}
use Rattle.fetch_stream.specs.Streams.{RunningAt}
use Rattle.fetch_stream.specs.inside.RowsAhead.{uncut}
use Rattle.fetch_stream.proofs.Falling.{source_of, whole_of}
use Rattle.fetch_stream.proofs.Stepping.{all_cut}
use Rattle.fetch_stream.proofs.stream.FetchStream.morsels.Goals as goal

pub new-requires : goal.new-requires
new-requires c =
    let inside = c.self.inside in
    let none : inside.refused ≡ None = cc in
    record {
      morsels = c.in_ok-count.ensures;
      source = source_of inside.source c.in-Scanned.scan c.in-Scanned.is (c.self.invariant none).behind;
    }

pub returns : goal.returns
returns c =
    let inside = c.self.inside in
    let none : inside.refused ≡ None = cc in
    let high : inside.cutter.batch.rows ≤ inside.cutter.at = omega arith in
    let goes = c.self.invariant none in
    let nothing : uncut inside.cutter ≡ [] = all_cut c.batch_slices_keep_rows.ensures inside.cutter goes.placed high in
    rw c.new.ensures (ap (λ (s : RunningAt). s.stream) (sym c.self.view_is) ∙ whole_of inside.cutter inside.source c.in-Scanned.scan c.in_ok-count.count inside.begun inside.refused c.in-Scanned.is none nothing c.in_ok-count.ensures)
