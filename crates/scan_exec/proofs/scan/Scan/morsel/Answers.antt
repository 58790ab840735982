use Rattle.std.proofs.Common.{◌≡◌, ◌<◌, ℕ, List, [], ◌∷◌, ◌++◌, length, take, drop, refl, sym, ap, ◌∙◌, subst}
use Rattle.std.specs.Arc.{arc_value}
use Rattle.scan_exec.specs.declared.scan_answer.ScanAnswer.{ScanAnswer}
use Rattle.scan_exec.specs.Answering.{IsScan, giving_at, table_number, scan_at}
use Rattle.scan_exec.specs.Giving.{of_rows}
use Rattle.scan_exec.specs.Morsels.{morsel_of, of_first}
use Rattle.row_sources.specs.Running.{RowsAt}
use Rattle.scan_exec.specs.Scan.{ScanAt}
use Rattle.scan_exec.proofs.PartPairs.{batch_there, first_there, pair_is}
use Rattle.scan_exec.proofs.PartScan.{morsel_is, morsel_scan, none_opened}
use Rattle.scan_exec.proofs.scan.Scan.morsel.Goals as goal

pub part-requires-clause-unopened : goal.part-requires-clause-unopened
part-requires-clause-unopened c =
    let s = c.self.inside in
    let rows = c.in-Rows.rows in
    let is = subst (λ (answer : ScanAnswer). IsScan (giving_at answer) s.batches.items s.further s.given) c.in-Rows.is c.self.invariant.1 in
    let view = ap (λ (answer : ScanAnswer). scan_at (arc_value s.schema) (giving_at answer) s.batches.items s.further s.given s.refused) (sym c.in-Rows.is) ∙ c.self.view_is in
    none_opened (of_rows rows) s.batches.items s.further s.given is (ap (λ (scan : ScanAt). of_first scan.opened) view ∙ c.requires.unopened)

pub part-requires-clause-there : goal.part-requires-clause-there
part-requires-clause-there c =
    let s = c.self.inside in
    let rows = c.in-Rows.rows in
    let is = subst (λ (answer : ScanAnswer). IsScan (giving_at answer) s.batches.items s.further s.given) c.in-Rows.is c.self.invariant.1 in
    let listed = subst (λ (scan : ScanAt). c.args.number < length (of_first scan.batches)) (sym c.self.view_is) c.requires.there in
    batch_there rows s.batches.items s.further s.given is c.args.number listed

pub invariant_of-result : goal.invariant_of-result
invariant_of-result c =
    let s = c.self.inside in
    let rows = c.in-Rows.rows in
    let part = c.in_ok-rows.rows in
    let is = subst (λ (answer : ScanAnswer). IsScan (giving_at answer) s.batches.items s.further s.given) c.in-Rows.is c.self.invariant.1 in
    let listed = subst (λ (scan : ScanAt). c.args.number < length (of_first scan.batches)) (sym c.self.view_is) c.requires.there in
    let pair = c.index.result.now in
    let batch = table_number (drop s.further s.batches.items) c.args.number in
    let pairs : c.push.new.self.items ≡ (0, batch) ∷ [] =
    c.in_ok-push.ensures.items ∙ ap (λ (some : List (ℕ × ℕ)). some ++ pair ∷ []) c.in_ok-batches.ensures.items
    ∙ ap (λ (one : ℕ × ℕ). one ∷ []) (pair_is rows s.batches.items s.further s.given is c.args.number listed pair c.index.ensures) in (
      subst (λ (some : RowsAt). take (length some.opened) some.batches ≡ some.opened) (sym c.in_ok-rows.ensures) refl,
      morsel_scan part rows c.args.number batch c.push.new.self.items c.in_ok-rows.ensures pairs,
    )

pub returns : goal.returns
returns c =
    let s = c.self.inside in
    let rows = c.in-Rows.rows in
    let is = subst (λ (answer : ScanAnswer). IsScan (giving_at answer) s.batches.items s.further s.given) c.in-Rows.is c.self.invariant.1 in
    let view = ap (λ (answer : ScanAnswer). scan_at (arc_value s.schema) (giving_at answer) s.batches.items s.further s.given s.refused) (sym c.in-Rows.is) ∙ c.self.view_is in
    let none = none_opened (of_rows rows) s.batches.items s.further s.given is (ap (λ (scan : ScanAt). of_first scan.opened) view ∙ c.requires.unopened) in
    let listed = subst (λ (scan : ScanAt). c.args.number < length (of_first scan.batches)) (sym c.self.view_is) c.requires.there in
    let pair = c.index.result.now in
    let batch = table_number (drop s.further s.batches.items) c.args.number in
    let pairs : c.push.new.self.items ≡ (0, batch) ∷ [] =
    c.in_ok-push.ensures.items ∙ ap (λ (some : List (ℕ × ℕ)). some ++ pair ∷ []) c.in_ok-batches.ensures.items
    ∙ ap (λ (one : ℕ × ℕ). one ∷ []) (pair_is rows s.batches.items s.further s.given is c.args.number listed pair c.index.ensures) in
    morsel_is (arc_value s.schema) rows s.batches.items s.further s.given s.refused is none c.opened-ordered.ensures.ordered c.args.number
    (first_there rows s.batches.items s.further s.given is c.args.number listed) c.in_ok-rows.rows c.in_ok-rows.ensures c.push.new.self.items pairs
    (arc_value c.in_ok-try_clone.field-0) c.in_ok-try_clone.ensures
    ∙ ap (λ (scan : ScanAt). record (morsel_of scan c.args.number) { unseen = c.in_ok-rows.rows.unseen }) view
