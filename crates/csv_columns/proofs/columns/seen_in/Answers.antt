use Rattle.std.proofs.Common.{◌≡◌, ◌∷◌, [], ◌++◌, ℕ, List, sym, ap, ◌∙◌, append_assoc}
use Rattle.csv.specs.Records.{fields_of}
use Rattle.csv_columns.proofs.columns.seen_in.Goals as goal

pub loop-fields-preserved : goal.loop-fields-preserved
loop-fields-preserved c =
    let inv = c.loop-fields.invariant in
    let fields = fields_of c.next.new.fields in
    let rest = c.next.new.self in
    let took : c.loop-fields.records ≡ fields ∷ rest = rw c.if-branch.true at c.in_ok-next.ensures in
    record {
      many = c.see.ensures.many ∙ inv.many;
      read = inv.read ++ fields ∷ [];
      splits = inv.splits ∙ ap (λ (l : List (List (List ℕ))). inv.read ++ l) took ∙ sym (append_assoc inv.read (fields ∷ []) rest);
      seen = c.see.ensures.seen inv.read inv.seen;
    }
