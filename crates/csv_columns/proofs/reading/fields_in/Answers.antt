use Rattle.std.proofs.Common.{◌≡◌, ◌<◌, ◌+◌, ℕ, None, List, [], ◌∷◌, ◌++◌, All, length, get_or, sym, subst, ap, ◌∙◌, arith, inl, refl, rules, length-append}
use Rattle.std.proofs.lemmas.List.Elements.{All-push}
use Rattle.std.proofs.lemmas.Result.{err_from_is_err_and}
use Rattle.std.specs.Prelude.{Err}
use Rattle.csv.specs.Records.{fields_of}
use Rattle.scan_base.specs.declared.fault.Fault.TheVariants.{OutOfMemory}
use Rattle.arrow_types.specs.declared.schema.Field.{Field}
use Rattle.arrow_types.specs.Schema.{IsField}
use Rattle.arrow_types.specs.DataType.{encoding_of}
use Rattle.csv_columns.specs.Refusals.{WhyNoColumn}
use Rattle.csv_columns.specs.SpelledColumns.{spelled}
use Rattle.csv_columns.proofs.More.{texts_more}
use Rattle.csv_columns.proofs.Refusing.{first_fails}
use Rattle.csv_columns.proofs.reading.fields_in.Goals as goal

pub loop-place-preserved : goal.loop-place-preserved
loop-place-preserved c =
    let inv = c.loop-place.invariant in
    let old = c.loop-place.columns in
    let one = c.in_ok-column.column in
    let texts = fields_of c.args.spellings.now in
    let pushed : c.push.new.self ≡ old ++ one ∷ [] = c.in_ok-push.ensures.ok in
    let own : spelled one ≡ get_or texts c.loop-place.place [] = c.in_ok-column.ensures.spelled ∙ c.field_in.ensures in
    record {
      many = omega (arith, ap length pushed, length-append old (one ∷ []));
      each = subst (λ (l : List Field). (k : ℕ) (d : Field) → k < c.loop-place.place + 1 → spelled (get_or l k d) ≡ get_or texts k []) (sym pushed)
          (texts_more spelled old one texts c.loop-place.place inv.many own inv.each);
      named = subst (λ (l : List Field). All IsField l) (sym pushed) (All-push IsField old one inv.named c.in_ok-column.ensures.named);
      plain = subst (λ (l : List Field). All (λ (f : Field). encoding_of f.data_type ≡ None) l) (sym pushed)
          (All-push (λ (f : Field). encoding_of f.data_type ≡ None) old one inv.plain c.in_ok-column.ensures.plain);
    }

pub returns-in_err-column-clause-refused : goal.returns-in_err-column-clause-refused
returns-in_err-column-clause-refused c =
    let p = err_from_is_err_and c.from_residual.result c.from_residual.ensures.1 in
    let inv = c.loop-place.invariant in
    let texts = fields_of c.args.spellings.now in
    let there : c.loop-place.place < length texts = omega arith in
    let why = subst (λ (text : List ℕ). WhyNoColumn text c.in_err-column.field-0.0) c.field_in.ensures c.in_err-column.ensures.refused in
    rw (p.1, p.2) (first_fails texts c.loop-place.columns c.loop-place.place _ there inv.many inv.each inv.named why)

pub returns-in_err-push-clause-refused : goal.returns-in_err-push-clause-refused
returns-in_err-push-clause-refused c =
    let memory : c.from_residual-in_err-push.result ≡ Err OutOfMemory = search rules in
    let inv = c.loop-place.invariant in
    let texts = fields_of c.args.spellings.now in
    let there : c.loop-place.place < length texts = omega arith in
    rw memory (first_fails texts c.loop-place.columns c.loop-place.place OutOfMemory there inv.many inv.each inv.named (inl refl))
