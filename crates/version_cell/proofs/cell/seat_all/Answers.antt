use Rattle.std.proofs.Common.{◌≡◌, [], ◌∷◌, ◌++◌, ap, sym, ◌∙◌, arith, rules}
use Rattle.std.proofs.lemmas.List.Elements.{All-append, All-cons, All-nil}
use Rattle.version_cell.specs.Seats.{Seat, seat}
use Rattle.version_cell.specs.SignedEntries.{log_of}
use Rattle.version_cell.proofs.Counts.{numbered_last}
use Rattle.version_cell.proofs.cell.seat_all.Goals as goal

pub loop-number-preserved : goal.loop-number-preserved
loop-number-preserved g c =
    let log = log_of c.args.history.now.seen.log in
    let before = c.loop-number.scanners.items in
    let one : Seat = c.in_ok-new.field-0 in
    let one_is : one ≡ seat c.loop-number.number log [] 0 [] = search rules in
    let number : one.number ≡ c.loop-number.number = ap (λ (s : Seat). s.number) one_is in
    let new : one ≡ seat one.number log [] 0 [] = one_is ∙ ap (λ n. seat n log [] 0 []) (sym number) in
    let more : c.push.new.self.items ≡ before ++ one ∷ [] = search rules in
    let many = c.loop-number.invariant.0 in (
      search rules,
      rw more (All-append (λ (s : Seat). s ≡ seat s.number log [] 0 []) before (one ∷ []) c.loop-number.invariant.1
          (All-cons (λ (s : Seat). s ≡ seat s.number log [] 0 []) one [] new (All-nil (λ (s : Seat). s ≡ seat s.number log [] 0 [])))),
      rw more (numbered_last 0 before one c.loop-number.invariant.2 (omega (arith, number, many))),
      search rules,
      search rules,
    )
