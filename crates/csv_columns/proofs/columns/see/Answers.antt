use Rattle.std.proofs.Common.{◌<◌, ◌≢◌, ℕ, List, [], ◌∷◌, ◌++◌, length, length-set, get_or-set_other, sym, subst, ap, ◌∙◌, arith}
use Rattle.csv.specs.Records.{fields_of}
use Rattle.csv_columns.specs.declared.type_candidates.TypeCandidates.{TypeCandidates}
use Rattle.csv_columns.specs.FittingColumns.{column_of}
use Rattle.csv_columns.specs.inside.Tests.{HasSeen}
use Rattle.csv_columns.proofs.Each.{column_more, one_set}
use Rattle.csv_columns.proofs.columns.see.Goals as goal

pub loop-number-preserved : goal.loop-number-preserved
loop-number-preserved c =
    let inv = c.loop-number.invariant in
    let first = c.args.all.now.items in
    let all = c.loop-number.all.items in
    let n = c.loop-number.number in
    let fields = fields_of c.args.fields.now in
    let low : n < length all = omega (arith, c.loop-number-test.true, inv.many, c.len-number-end.ensures) in
    record {
      many = length-set all n c.with.result ∙ inv.many;
      done = λ records have.
          let one : HasSeen c.with.result (column_of n (records ++ fields ∷ [])) = (
          let told : HasSeen c.with.result (column_of n records ++ c.field_in.result.now ∷ []) =
          c.with.ensures (column_of n records) (subst (λ (s : TypeCandidates). HasSeen s (column_of n records)) (sym (c.index.ensures ∙ inv.ahead n c.index.result.now (omega arith))) (have n c.index.result.now (omega (arith, low, inv.many)))) in
          subst (λ (l : List (List ℕ)). HasSeen c.with.result l) (ap (λ (f : List ℕ). column_of n records ++ f ∷ []) c.field_in.ensures ∙ sym (column_more n records fields)) told) in
          one_set all first records fields n c.with.result low one (inv.done records have);
      ahead = λ k d behind.
          let ne : k ≢ n = omega arith in
          rw get_or-set_other (inv.ahead k d (omega arith));
    }

pub returns-clause-seen : goal.returns-clause-seen
returns-clause-seen c records have =
    λ k d low. c.loop-number.invariant.done records have k d (omega (arith, low, c.loop-number-test.false, c.loop-number.invariant.many, c.len-number-end.ensures))
