use Rattle.flight_info.proofs.Describing.{form_small}
use Rattle.flight_info.proofs.Forms.{form_is}
use Rattle.flight_info.proofs.Results.{ok_so}
use Rattle.flight_info.proofs.info.schema_form.Goals as goal

pub returns-clause-form : goal.returns-clause-form
returns-clause-form c =
    ok_so c.encapsulate.result _ _ (λ form framed. form_is c.args.schema.now form.items c.requires (rw (c.deref.ensures.value, c.in_ok-header.ensures.items) at framed)) c.encapsulate.ensures.items

pub returns-clause-small : goal.returns-clause-small
returns-clause-small c =
    ok_so c.encapsulate.result _ _ (λ form framed. form_small c.deref.result.now form.items (rw c.deref.ensures.value c.in_ok-header.ensures.short) framed) c.encapsulate.ensures.items
