use Rattle.std.proofs.Common.{ℕ, List, ◌++◌, ◌∷◌, [], map, take, get_or, ap, sym, ◌∙◌, append_assoc}
use Rattle.std.proofs.lemmas.List.{map-append, take_more}
use Rattle.scan_exec.proofs.opened_batches.push_numbers.Goals as goal

pub loop-number-preserved : goal.loop-number-preserved
loop-number-preserved c =
    let with_place : ℕ → ℕ × ℕ = λ number. (c.args.place, number) in
    let i = c.loop-number.number-index in
    let numbers = c.args.numbers.now in
    let old = c.args.batches.now.items in
    let number = get_or numbers i 0 in
    c.in_ok-push.ensures.items
    ∙ ap (λ (some : List (ℕ × ℕ)). some ++ with_place number ∷ []) c.loop-number.invariant
    ∙ append_assoc old (map with_place (take i numbers)) (with_place number ∷ [])
    ∙ ap (λ (some : List (ℕ × ℕ)). old ++ some)
    (sym (map-append with_place (take i numbers) (number ∷ []))
    ∙ ap (map with_place) (sym (take_more numbers i 0 c.loop-number-test.true)))
