use Rattle.std.proofs.Common.{◌≡◌, ◌∷◌, [], ◌++◌, List, ℕ, arith}
use Rattle.std.proofs.lemmas.List.{length-append}
use Rattle.csv.specs.Records.{fields_of}
use Rattle.csv_input.specs.Rows.{IsRight, IsWrong}
use Rattle.csv_input.proofs.Faulty.{right_all, right_more, splits_more, wrong_first}
use Rattle.csv_input.proofs.Lengthy.{too_many}
use Rattle.csv_input.proofs.wrong_records.first_wrong.Goals as goal

pub loop-fields-preserved : goal.loop-fields-preserved
loop-fields-preserved c =
    let inv = c.loop-fields.invariant in
    let columns = c.args.columns.now in
    let fields = fields_of c.next.new.fields in
    let rest = c.next.new.self in
    let took : c.loop-fields.records ≡ fields ∷ rest = rw c.if-branch.true at c.in_ok-next.ensures in
    let one : IsRight columns fields = rw c.in_default.is at c.wrong_in.ensures in
    record {
      read = inv.read ++ fields ∷ [];
      splits = splits_more _ inv.read fields _ rest inv.splits took;
      count = omega (arith, inv.count, length-append inv.read (fields ∷ []));
      right = right_more columns inv.read fields inv.right one;
      few = omega (arith, inv.few, c.if-before.false);
    }

pub returns-in-Some-clause-finds : goal.returns-in-Some-clause-finds
returns-in-Some-clause-finds c =
    let inv = c.loop-fields.invariant in
    let columns = c.args.columns.now in
    let fields = fields_of c.next.new.fields in
    let rest = c.next.new.self in
    let took : c.loop-fields.records ≡ fields ∷ rest = rw c.if-branch.true at c.in_ok-next.ensures in
    let wrong : IsWrong columns fields c.in-Some.wrong = rw c.in-Some.is at c.wrong_in.ensures in
    wrong_first columns _ inv.read fields _ rest c.loop-fields.before c.in-Some.wrong inv.splits took inv.count inv.right wrong

pub returns-clause-finds : goal.returns-clause-finds
returns-clause-finds c =
    let inv = c.loop-fields.invariant in
    let none : c.loop-fields.records ≡ [] = rw c.if-branch.false at c.in_ok-next.ensures in
    right_all c.args.columns.now _ inv.read _ inv.splits none inv.right

pub returns-then-before-clause-refused : goal.returns-then-before-clause-refused
returns-then-before-clause-refused c =
    let inv = c.loop-fields.invariant in
    let columns = c.args.columns.now in
    let fields = fields_of c.next.new.fields in
    let rest = c.next.new.self in
    let took : c.loop-fields.records ≡ fields ∷ rest = rw c.if-branch.true at c.in_ok-next.ensures in
    let one : IsRight columns fields = rw c.in_default.is at c.wrong_in.ensures in
    too_many columns _ inv.read fields _ rest inv.splits took (omega (arith, c.if-before.true, inv.count)) inv.right one
