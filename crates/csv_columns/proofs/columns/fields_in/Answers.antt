use Rattle.std.proofs.Common.{◌≡◌, ◌<◌, ◌+◌, ℕ, Bool, None, List, [], ◌∷◌, ◌++◌, All, length, length-append, get_or, sym, subst, ap, ◌∙◌, arith, below_more, inl, refl, rules}
use Rattle.std.proofs.lemmas.List.Elements.{All-push}
use Rattle.std.proofs.lemmas.Result.{err_from_is_err_and}
use Rattle.std.specs.Prelude.{Err}
use Rattle.csv.specs.Records.{fields_of}
use Rattle.scan_base.specs.declared.fault.Fault.TheVariants.{OutOfMemory}
use Rattle.arrow_types.specs.declared.data_type.DataType.{DataType}
use Rattle.arrow_types.specs.declared.schema.Field.{Field}
use Rattle.arrow_types.specs.Schema.{IsField, IsName}
use Rattle.arrow_types.specs.DataType.{encoding_of}
use Rattle.csv_columns.specs.FittingColumns.{column_of, column_seen, name_of}
use Rattle.csv_columns.proofs.Each.{each_more}
use Rattle.csv_columns.proofs.columns.fields_in.Goals as goal

-- columns are equal by their parts
abbrev made : List ℕ → Bool → DataType → Field
made name nullable data_type = record { name = name; nullable = nullable; data_type = data_type }

same_column : (a b : List ℕ) (m n : Bool) (s t : DataType) → a ≡ b → m ≡ n → s ≡ t → made a m s ≡ made b n t
same_column a b m n s t e f g = ap (λ (x : List ℕ). made x m s) e ∙ (ap (λ (x : Bool). made b x s) f ∙ ap (λ (x : DataType). made b n x) g)

pub loop-place-preserved : goal.loop-place-preserved
loop-place-preserved c =
    let inv = c.loop-place.invariant in
    let old = c.loop-place.columns in
    let n = c.loop-place.place in
    let first = fields_of c.args.first.now in
    let one : Field = record { name = c.in_ok-name.name; nullable = c.nullable.result; data_type = c.data_type.result } in
    let low : n < length c.args.seen.now = omega (arith, c.loop-place-test.true) in
    let pushed : c.push.new.self ≡ old ++ one ∷ [] = c.in_ok-push.ensures.ok in
    record {
      many = omega (arith, ap length pushed, length-append old (one ∷ []));
      found = λ records have.
          let own : one ≡ column_seen c.args.header first records n = same_column _ _ _ _ _ _ c.in_ok-name.ensures.value (c.nullable.ensures (column_of n records) (have n _ low)) (c.data_type.ensures.found (column_of n records) (have n _ low)) in
          subst (λ (l : List Field). (k : ℕ) (d : Field) → k < n + 1 → get_or l k d ≡ column_seen c.args.header first records k) (sym pushed)
          (each_more (λ (k : ℕ) (f : Field). f ≡ column_seen c.args.header first records k) old one n inv.many own (inv.found records have));
      names = below_more (λ (k : ℕ). IsName (name_of c.args.header first k)) n inv.names (subst IsName c.in_ok-name.ensures.value c.in_ok-name.ensures.named);
      named = subst (λ (l : List Field). All IsField l) (sym pushed) (All-push IsField old one inv.named (record { named = c.in_ok-name.ensures.named; typed = c.data_type.ensures.typed }));
      plain = subst (λ (l : List Field). All (λ (f : Field). encoding_of f.data_type ≡ None) l) (sym pushed)
          (All-push (λ (f : Field). encoding_of f.data_type ≡ None) old one inv.plain c.data_type.ensures.plain);
    }

pub returns-in_err-name-clause-refused : goal.returns-in_err-name-clause-refused
returns-in_err-name-clause-refused c =
    let p = err_from_is_err_and c.from_residual.result c.from_residual.ensures.1 in
    let there : c.loop-place.place < length (fields_of c.args.first.now) = omega (arith, c.loop-place-test.true, c.requires) in
    rw (p.1, p.2) (record { place = c.loop-place.place; there = there; before = c.loop-place.invariant.names; why = c.in_err-name.ensures.refused })

pub returns-in_err-push-clause-refused : goal.returns-in_err-push-clause-refused
returns-in_err-push-clause-refused c =
    let memory : c.from_residual-in_err-push.result ≡ Err OutOfMemory = search rules in
    let there : c.loop-place.place < length (fields_of c.args.first.now) = omega (arith, c.loop-place-test.true, c.requires) in
    rw memory (record { place = c.loop-place.place; there = there; before = c.loop-place.invariant.names; why = inl refl })
