use Rattle.std.proofs.Common.{◌+◌, ◌≤◌, ℕ, length, length-take-le, take, ap, sym, arith, ◌∙◌}
use Rattle.scan_exec.specs.Answering.{giving_at}
use Rattle.scan_exec.specs.Scan.{ScanAt}
use Rattle.scan_exec.proofs.Scanning.{opened_few}
use Rattle.scan_exec.proofs.scan.Scan.opened.Goals as goal
use Rattle.scan_exec.proofs.scan.Scan.opened.Goals.{After-opened}

within : (c : After-opened) → c.self.inside.further + c.opened.result ≤ length c.as_slice.result.now
within c =
    let s = c.self.inside in
    omega (arith, opened_few (giving_at s.answer) s.batches.items s.further s.given c.self.invariant.1, c.opened.ensures, ap length c.as_slice.ensures.value)

pub overflow_add-result : goal.overflow_add-result
overflow_add-result c = record { fits = omega (arith, within c, c.as_slice.ensures.len) }

pub slice_bounds-result-end : goal.slice_bounds-result-end
slice_bounds-result-end c = sym (length-take-le (c.self.inside.further + c.opened.result) c.as_slice.result.now (within c))

pub returns : goal.returns
returns c =
    let s = c.self.inside in
    ap (take (s.further + c.opened.result)) c.as_slice.ensures.value
    ∙ ap (λ (n : ℕ). take (s.further + n) s.batches.items) c.opened.ensures
    ∙ ap (λ (view : ScanAt). view.opened) c.self.view_is
