use Rattle.std.proofs.Common.{[], inl, refl, sym, ap, subst, ◌∙◌}
use Rattle.std.proofs.lemmas.Result.{err_from_is_err_and}
use Rattle.arrow_types.specs.declared.schema.Schema.{Schema}
use Rattle.scan_base.specs.declared.fault.Fault.TheVariants.{OutOfMemory}
use Rattle.csv_input.specs.Input.{TextAt}
use Rattle.csv_input.specs.Long.{WhyNoMessage}
use Rattle.csv_input.specs.Rows.{IsNext}
use Rattle.client_commands.proofs.RowsSent.{all_sent, batch_sent, batch_splits, batch_unmade, batch_unsent}
use Rattle.client_commands.proofs.rows_put.send_rows.Goals as goal

pub returns-in_err-rows : goal.returns-in_err-rows
returns-in_err-rows g c target begun have =
    let p = err_from_is_err_and c.from_residual.result c.from_residual.ensures.1 in
    rw (p.1, p.2) (batch_unmade target c.args.text.now begun [] _ [] c.args.putting.now have refl OutOfMemory (inl refl))

pub loop-rows-init : goal.loop-rows-init
loop-rows-init g c = record {
  schema = ap (λ (t : TextAt). t.schema) c.in_ok-rows.ensures;
  sent = λ target begun have. ([], ap (λ (t : TextAt). t.records) (sym c.in_ok-rows.ensures), have);
  count = refl;
}

pub loop-rows-preserved-in_ok-send : goal.loop-rows-preserved-in_ok-send
loop-rows-preserved-in_ok-send g c =
    let i = c.loop-rows.invariant in
    let text = c.args.text.now in
    let message = c.in-Some.message in
    let took = rw c.in-Some.is at c.in_ok-message.ensures.taken in
    let next : IsNext text.schema message c.loop-rows.rows.records c.next.new.self.records = subst (λ (s : Schema). IsNext s message c.loop-rows.rows.records c.next.new.self.records) i.schema took in
    record {
      schema = c.next.ensures.same ∙ i.schema;
      sent = λ target begun have.
          let so = i.sent target begun have in (
            _,
            batch_splits target text begun so.0 _ _ _ so.2 so.1 message next,
            batch_sent target text begun so.0 _ _ _ so.2 so.1 message _ next (c.in_ok-send.ensures.sent _ begun so.2.putting),
          );
      count = c.in_ok-send.ensures.quiet ∙ i.count;
    }

pub loop-rows-preserved : goal.loop-rows-preserved
loop-rows-preserved g c =
    let i = c.loop-rows.invariant in
    let text = c.args.text.now in
    let message = c.in-Some.message in
    let took = rw c.in-Some.is at c.in_ok-message.ensures.taken in
    let next : IsNext text.schema message c.loop-rows.rows.records c.next.new.self.records = subst (λ (s : Schema). IsNext s message c.loop-rows.rows.records c.next.new.self.records) i.schema took in
    record {
      schema = c.next.ensures.same ∙ i.schema;
      sent = λ target begun have.
          let so = i.sent target begun have in (
            _,
            batch_splits target text begun so.0 _ _ _ so.2 so.1 message next,
            batch_sent target text begun so.0 _ _ _ so.2 so.1 message _ next (c.in_ok-send.ensures.sent _ begun so.2.putting),
          );
      count = c.in_ok-send.ensures.quiet ∙ i.count;
    }

pub returns-in_err-message : goal.returns-in_err-message
returns-in_err-message g c target begun have =
    let p = err_from_is_err_and c.from_residual-in_err-message.result c.from_residual-in_err-message.ensures.1 in
    let i = c.loop-rows.invariant in
    let so = i.sent target begun have in
    let rest = c.next.new.self.records in
    let fault = c.in_err-message.field-0.0 in
    let why = subst (λ (s : Schema). WhyNoMessage s.fields c.loop-rows.rows.records rest fault) i.schema c.in_err-message.ensures.refused in
    rw (p.1, p.2) (batch_unmade target c.args.text.now begun so.0 _ rest _ so.2 so.1 fault why)

pub returns-in_err-send : goal.returns-in_err-send
returns-in_err-send g c target begun have =
    let p = err_from_is_err_and c.from_residual-in_err-send.result c.from_residual-in_err-send.ensures.1 in
    let i = c.loop-rows.invariant in
    let text = c.args.text.now in
    let so = i.sent target begun have in
    let message = c.in-Some.message in
    let took = rw c.in-Some.is at c.in_ok-message.ensures.taken in
    let next : IsNext text.schema message c.loop-rows.rows.records c.next.new.self.records = subst (λ (s : Schema). IsNext s message c.loop-rows.rows.records c.next.new.self.records) i.schema took in
    rw (p.1, p.2) (_, batch_unsent target text begun so.0 _ _ _ so.2 so.1 message _ _ next (c.in_err-send.ensures.sent _ begun so.2.putting))

pub returns : goal.returns
returns g c target begun have =
    let so = c.loop-rows.invariant.sent target begun have in
    let none = rw c.in_default.is at c.in_ok-message.ensures.taken in
    all_sent target c.args.text.now begun so.0 _ [] _ so.2 so.1 none
