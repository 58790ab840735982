use Rattle.std.proofs.Common.{◌≡◌, ◌≤◌, ◌<◌, ℕ, ◌+◌, ◌-◌, sym, ap, subst, arith}
use Rattle.std.specs.Prelude.{slice_index_or}
use Rattle.scan_exec.specs.GroupWork.{IsPartFed, PartAt, row_count_between, work_at}
use Rattle.scan_exec.proofs.Feeding.{fed_whole, fed_within, is_more, left_whole, left_within, next_few, next_is, next_number, next_pick, next_row, next_small}
use Rattle.scan_exec.proofs.group_work.FedPart.feed_next.Goals.{then-end-rows, else-end-rows}
use Rattle.scan_exec.proofs.group_work.FedPart.feed_next.Goals as goal

pub feed_slice-requires-clause-there : goal.feed_slice-requires-clause-there
feed_slice-requires-clause-there c =
    let s = c.self.inside in
    let work = work_at s.work in
    let is = c.self.invariant.0 in
    let more = is_more work s.from s.at s.row s.to s.groups is (omega (arith, c.requires.more, ap (λ (p : PartAt). p.left) c.self.view_is)) in
    let batch = slice_index_or work.batches s.at c.index-work-at.result in
    let has = ap (slice_index_or work.batches s.at) c.index-work-at.is in
    next_number work s.from s.at s.row s.to s.groups is more batch has

pub feed_slice-requires-clause-is : goal.feed_slice-requires-clause-is
feed_slice-requires-clause-is c =
    let s = c.self.inside in
    let work = work_at s.work in
    let is = c.self.invariant.0 in
    let more = is_more work s.from s.at s.row s.to s.groups is (omega (arith, c.requires.more, ap (λ (p : PartAt). p.left) c.self.view_is)) in
    let batch = slice_index_or work.batches s.at c.index-work-at.result in
    let has = ap (slice_index_or work.batches s.at) c.index-work-at.is in
    next_is work s.from s.at s.row s.to s.groups is more batch has

pub feed_slice-requires-clause-pick : goal.feed_slice-requires-clause-pick
feed_slice-requires-clause-pick c =
    let s = c.self.inside in
    let work = work_at s.work in
    let is = c.self.invariant.0 in
    let more = is_more work s.from s.at s.row s.to s.groups is (omega (arith, c.requires.more, ap (λ (p : PartAt). p.left) c.self.view_is)) in
    let batch = slice_index_or work.batches s.at c.index-work-at.result in
    let has = ap (slice_index_or work.batches s.at) c.index-work-at.is in
    next_pick work s.from s.at s.row s.to s.groups is more batch has

pub feed_slice-requires-clause-ordered : goal.feed_slice-requires-clause-ordered
feed_slice-requires-clause-ordered c =
    let s = c.self.inside in
    let work = work_at s.work in
    let is = c.self.invariant.0 in
    let more = is_more work s.from s.at s.row s.to s.groups is (omega (arith, c.requires.more, ap (λ (p : PartAt). p.left) c.self.view_is)) in
    let batch = slice_index_or work.batches s.at c.index-work-at.result in
    let has = ap (slice_index_or work.batches s.at) c.index-work-at.is in
    omega (arith, c.min-end.ensures, c.rows.ensures, next_row work s.from s.at s.row s.to s.groups is more batch has)

pub feed_slice-requires-clause-small : goal.feed_slice-requires-clause-small
feed_slice-requires-clause-small c =
    let s = c.self.inside in
    let work = work_at s.work in
    let is = c.self.invariant.0 in
    let more = is_more work s.from s.at s.row s.to s.groups is (omega (arith, c.requires.more, ap (λ (p : PartAt). p.left) c.self.view_is)) in
    let batch = slice_index_or work.batches s.at c.index-work-at.result in
    let has = ap (slice_index_or work.batches s.at) c.index-work-at.is in
    omega (arith, c.min-end.ensures, c.rows.ensures, next_small work s.from s.at s.row s.to s.groups is more batch has)

pub feed_slice-requires-clause-few : goal.feed_slice-requires-clause-few
feed_slice-requires-clause-few c =
    let s = c.self.inside in
    let work = work_at s.work in
    let is = c.self.invariant.0 in
    let more = is_more work s.from s.at s.row s.to s.groups is (omega (arith, c.requires.more, ap (λ (p : PartAt). p.left) c.self.view_is)) in
    let batch = slice_index_or work.batches s.at c.index-work-at.result in
    let has = ap (slice_index_or work.batches s.at) c.index-work-at.is in
    next_few work s.from s.at s.row s.to s.groups is more batch has c.min-end.result (omega (arith, c.min-end.ensures, c.rows.ensures))

pub invariant_of-part : goal.invariant_of-part
invariant_of-part c =
    let s = c.self.inside in
    let work = work_at s.work in
    let is = c.self.invariant.0 in
    let more = is_more work s.from s.at s.row s.to s.groups is (omega (arith, c.requires.more, ap (λ (p : PartAt). p.left) c.self.view_is)) in
    let batch = slice_index_or work.batches s.at c.index-work-at.result in
    let has = ap (slice_index_or work.batches s.at) c.index-work-at.is in
    let ordered : s.row ≤ c.min-end.result = omega (arith, c.min-end.ensures, c.rows.ensures, next_row work s.from s.at s.row s.to s.groups is more batch has) in
    let within : c.min-end.result ≤ batch.rows = omega (arith, c.min-end.ensures, c.rows.ensures) in
    let stands : IsPartFed work s.from c.if-end-rows.at.0 c.if-end-rows.at.1 s.to c.feed_slice.new.groups = elim c.if-end-rows.branch [
      | then-end-rows w ↦
          subst (λ (p : ℕ × ℕ). IsPartFed work s.from p.0 p.1 s.to c.feed_slice.new.groups) (sym w.at-is)
          (fed_within work s.from s.at s.row s.to s.groups is more batch has c.min-end.result ordered within c.feed_slice.new.groups c.in_ok-feed_slice.ensures (omega (arith, w.if-end-rows, c.rows-2.ensures)))
      | else-end-rows w ↦
          subst (λ (p : ℕ × ℕ). IsPartFed work s.from p.0 p.1 s.to c.feed_slice.new.groups) (sym w.at-is)
          (fed_whole work s.from s.at s.row s.to s.groups is more batch has c.min-end.result ordered within c.feed_slice.new.groups c.in_ok-feed_slice.ensures (omega (arith, w.if-end-rows, c.rows-2.ensures, within)))
    ] in
    (stands, c.self.invariant.1)

pub returns-clause-less : goal.returns-clause-less
returns-clause-less c =
    let s = c.self.inside in
    let work = work_at s.work in
    let is = c.self.invariant.0 in
    let more = is_more work s.from s.at s.row s.to s.groups is (omega (arith, c.requires.more, ap (λ (p : PartAt). p.left) c.self.view_is)) in
    let batch = slice_index_or work.batches s.at c.index-work-at.result in
    let has = ap (slice_index_or work.batches s.at) c.index-work-at.is in
    let ordered : s.row ≤ c.min-end.result = omega (arith, c.min-end.ensures, c.rows.ensures, next_row work s.from s.at s.row s.to s.groups is more batch has) in
    let within : c.min-end.result ≤ batch.rows = omega (arith, c.min-end.ensures, c.rows.ensures) in
    let moved : row_count_between s.at s.to work.batches - s.row ≡ (row_count_between c.if-end-rows.at.0 s.to work.batches - c.if-end-rows.at.1) + (c.min-end.result - s.row) = elim c.if-end-rows.branch [
      | then-end-rows w ↦
          subst (λ (p : ℕ × ℕ). row_count_between s.at s.to work.batches - s.row ≡ (row_count_between p.0 s.to work.batches - p.1) + (c.min-end.result - s.row)) (sym w.at-is)
          (left_within work s.from s.at s.row s.to s.groups is more batch has c.min-end.result ordered within)
      | else-end-rows w ↦
          subst (λ (p : ℕ × ℕ). row_count_between s.at s.to work.batches - s.row ≡ (row_count_between p.0 s.to work.batches - p.1) + (c.min-end.result - s.row)) (sym w.at-is)
          (left_whole work s.from s.at s.row s.to s.groups is more batch has c.min-end.result (omega (arith, w.if-end-rows, c.rows-2.ensures, within)))
    ] in
    omega (arith, moved, ap (λ (p : PartAt). p.left) c.self.view_is, c.min-end.ensures, c.rows.ensures, next_row work s.from s.at s.row s.to s.groups is more batch has, c.self.invariant.1.some)

pub returns-clause-counted : goal.returns-clause-counted
returns-clause-counted c =
    let s = c.self.inside in
    let work = work_at s.work in
    let is = c.self.invariant.0 in
    let more = is_more work s.from s.at s.row s.to s.groups is (omega (arith, c.requires.more, ap (λ (p : PartAt). p.left) c.self.view_is)) in
    let batch = slice_index_or work.batches s.at c.index-work-at.result in
    let has = ap (slice_index_or work.batches s.at) c.index-work-at.is in
    let ordered : s.row ≤ c.min-end.result = omega (arith, c.min-end.ensures, c.rows.ensures, next_row work s.from s.at s.row s.to s.groups is more batch has) in
    let within : c.min-end.result ≤ batch.rows = omega (arith, c.min-end.ensures, c.rows.ensures) in
    let moved : row_count_between s.at s.to work.batches - s.row ≡ (row_count_between c.if-end-rows.at.0 s.to work.batches - c.if-end-rows.at.1) + (c.min-end.result - s.row) = elim c.if-end-rows.branch [
      | then-end-rows w ↦
          subst (λ (p : ℕ × ℕ). row_count_between s.at s.to work.batches - s.row ≡ (row_count_between p.0 s.to work.batches - p.1) + (c.min-end.result - s.row)) (sym w.at-is)
          (left_within work s.from s.at s.row s.to s.groups is more batch has c.min-end.result ordered within)
      | else-end-rows w ↦
          subst (λ (p : ℕ × ℕ). row_count_between s.at s.to work.batches - s.row ≡ (row_count_between p.0 s.to work.batches - p.1) + (c.min-end.result - s.row)) (sym w.at-is)
          (left_whole work s.from s.at s.row s.to s.groups is more batch has c.min-end.result (omega (arith, w.if-end-rows, c.rows-2.ensures, within)))
    ] in
    omega (arith, moved, ap (λ (p : PartAt). p.left) c.self.view_is, c.weighted_rows-counted.ensures)
