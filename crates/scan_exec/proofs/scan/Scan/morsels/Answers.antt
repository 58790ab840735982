use Rattle.std.proofs.Common.{◌≡◌, ◌-◌, length, vec_len, Option, None, sym, ap, ◌∙◌, subst, arith, rules}
use Rattle.std.specs.Arc.{arc_value}
use Rattle.scan_base.specs.declared.fault.Fault.{Fault}
use Rattle.scan_exec.specs.declared.scan_answer.ScanAnswer.{ScanAnswer}
use Rattle.scan_exec.specs.Answering.{IsScan, giving_at, scan_at}
use Rattle.scan_exec.specs.Morsels.{HasMorsels}
use Rattle.scan_exec.specs.Scan.{ScanAt}
use Rattle.scan_exec.proofs.PartScan.{has_morsels, none_from_nothing}
use Rattle.scan_exec.proofs.scan.Scan.morsels.Goals as goal

pub returns : goal.returns
returns c =
    let s = c.self.inside in
    let rows = c.in-Rows.rows in
    let is = subst (λ (answer : ScanAnswer). IsScan (giving_at answer) s.batches.items s.further s.given) c.in-Rows.is c.self.invariant.1 in
    let none = none_from_nothing rows.opened (omega (arith, c.if-opened-gt0.false, c.opened.ensures.opened)) in
    let view = ap (λ (answer : ScanAnswer). scan_at (arc_value s.schema) (giving_at answer) s.batches.items s.further s.given s.refused) (sym c.in-Rows.is) ∙ c.self.view_is in
    let size : vec_len s.batches ≡ length s.batches.items = search rules in
    let never : ◌≡◌ {A = Option Fault} s.refused None = search (rules, c.is_some.ensures, c.if-is_some.false) in
    subst (λ (scan : ScanAt). HasMorsels scan (c.len.result - s.further)) view
    (has_morsels (arc_value s.schema) rows s.batches.items s.further s.given s.refused is none c.opened.ensures.ordered (omega (arith, c.if-self-gt0.false)) never
    (c.len.result - s.further) (omega (arith, c.len.ensures, size)))
