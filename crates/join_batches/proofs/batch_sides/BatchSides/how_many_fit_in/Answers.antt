use Rattle.std.proofs.Common.{◌≡◌, ◌<◌, ◌^◌, List, IfOk, length, nat_le, ap, sym, ◌∙◌, subst}
use Rattle.arrays.specs.WrittenSlots.{texts_joined}
use Rattle.array_select.specs.Fitting.{has_texts}
use Rattle.hash_join.specs.declared.pair.Pair.{Pair}
use Rattle.join_batches.specs.BatchSides.{cells_of, rows_at}
use Rattle.join_batches.proofs.Light.{alone_fits, counted_fit}
use Rattle.join_batches.proofs.Plain.{all_fit_in}
use Rattle.join_batches.proofs.batch_sides.BatchSides.how_many_fit_in.Goals as goal

pub returns-then-not-has_texts : goal.returns-then-not-has_texts
returns-then-not-has_texts c =
    all_fit_in c.args.self.now c.args.share c.args.placed.now.pairs.now c.args.number c.requires.sides c.requires.there c.requires.some c.requires.number
    (sym (ap has_texts c.type_of.ensures) ∙ sym c.has_texts.ensures ∙ c.if-not-has_texts.true)

pub returns-then-count-eq1 : goal.returns-then-count-eq1
returns-then-count-eq1 c =
    let sides = c.args.self.now in
    alone_fits sides c.args.share c.args.placed.now.pairs.now c.args.number c.alone.result c.requires.some c.alone.ensures.one
    (subst (λ (pairs : List Pair). IfOk c.alone.result (λ _. length (texts_joined (cells_of (rows_at sides pairs) c.args.number)) < 2 ^ 31)) c.first-then-count-eq1.ensures.pairs c.alone.ensures.named)

pub returns : goal.returns
returns c =
    let sides = c.args.self.now in
    counted_fit sides c.args.share c.args.placed.now.pairs.now c.args.number c.loop-alloc.count c.in_ok-texts_fit.field-0 c.requires.share
    (sym (ap has_texts c.type_of.ensures) ∙ sym c.has_texts.ensures ∙ c.if-not-has_texts.false) c.loop-alloc.invariant.0 c.loop-alloc.invariant.1
    (subst (λ (pairs : List Pair). c.in_ok-texts_fit.field-0 ≡ nat_le (length (texts_joined (cells_of (rows_at sides pairs) c.args.number))) c.args.share) c.first.ensures.pairs
    c.in_ok-texts_fit.ensures)
    c.if-not-branch.false
