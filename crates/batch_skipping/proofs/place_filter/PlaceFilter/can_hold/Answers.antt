use Rattle.std.proofs.Common.{◌≡◌, ◌-◌, ◌&&◌, ℕ, Bool, true, Bor, length, nat_lt, ap, sym, ◌∙◌, subst}
use Rattle.std.specs.List.{list_all}
use Rattle.std.proofs.lemmas.Bool.{and_from, lt-ltb}
use Rattle.std.proofs.lemmas.List.Folds.{list_all-map}
use Rattle.batch_skipping.specs.PredicateTruths.{can}
use Rattle.batch_stats.specs.Columns.{stats_in}
use Rattle.rewrite.proofs.Naming.{weaker}
use Rattle.rewrite.specs.Conjuncts.{is_between}
use Rattle.scan_base.specs.declared.predicate.Predicate.{Predicate}
use Rattle.scan_base.specs.Predicate.{Pred, names_only}
use Rattle.scan_base.specs.View.{pred_of}
use Rattle.typed_plan.specs.TypedPlans.{has_columns}
use Rattle.batch_skipping.specs.OpenedBatches.{given_columns, given_width}
use Rattle.batch_skipping.specs.inside.JudgedBatches.{batch_columns}
use Rattle.batch_skipping.proofs.Judging.{all_next, passes_at}
use Rattle.batch_skipping.proofs.place_filter.PlaceFilter.can_hold.Goals as goal

pub may_hold-requires : goal.may_hold-requires
may_hold-requires c =
    let place = c.args.self.now.place in
    let width = length c.args.table.now.schema.fields in
    let there = nat_lt c.args.index (length c.args.table.now.batches) in
    let own : Bor (Predicate ℕ) → Bool = λ part. names_only (is_between place.first place.width) (pred_of part.now) in
    let all : list_all own c.deref-part-items.result.now ≡ true =
    ap (list_all own) c.deref-part-items.ensures.value
    ∙ sym (list_all-map (names_only (is_between place.first place.width)) (λ (part : Bor (Predicate ℕ)). pred_of part.now) c.args.self.now.parts.items) ∙ c.requires.own in
    weaker (is_between place.first place.width) (λ (column : ℕ). there && (has_columns width place.columns.now && is_between place.first (given_width place.columns.now width) column))
    (λ column h. and_from there (has_columns width place.columns.now && is_between place.first (given_width place.columns.now width) column)
    (lt-ltb c.args.index (length c.args.table.now.batches) c.requires.there)
    (and_from (has_columns width place.columns.now) (is_between place.first (given_width place.columns.now width) column) c.requires.fit
    (subst (λ (n : ℕ). is_between place.first n column ≡ true) c.requires.wide h)))
    (pred_of c.part-item.result.now)
    (passes_at own c.deref-part-items.result.now c.loop-part.part-index c.part-item.result c.part-item.result c.loop-part-test.true c.part-item.is all)

pub loop-part-preserved : goal.loop-part-preserved
loop-part-preserved c =
    let place = c.args.self.now.place in
    all_next (λ (part : Pred ℕ). (can (λ number. stats_in (given_columns place.columns.now (batch_columns c.args.table.now c.args.index)) (number - place.first)) part).can_true)
    (λ (part : Bor (Predicate ℕ)). pred_of part.now) c.deref-part-items.result.now c.loop-part.part-index c.part-item.result c.part-item.result
    c.loop-part-test.true c.part-item.is (sym c.may_hold.ensures ∙ c.if-not-may_hold.false)
    ∙ c.loop-part.invariant
