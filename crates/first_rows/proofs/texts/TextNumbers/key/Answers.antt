use Rattle.std.proofs.Common.{◌≡◌, ◌<◌, get_or, length, refl, subst, take, List, arith}
use Rattle.std.proofs.lemmas.List.{length-map, take_all, take_more}
use Rattle.scan_base.specs.declared.value.Value.{Value}
use Rattle.scan_base.specs.declared.value.Value.TheVariants.{Null}
use Rattle.scan_base.specs.Predicate.{cell_in}
use Rattle.arrays.specs.Batch.{row_of}
use Rattle.first_rows.specs.declared.key.RowKey.{RowKey}
use Rattle.first_rows.specs.Numbers.{IsNumber}
use Rattle.first_rows.specs.RowKeys.{key_of}
use Rattle.first_rows.proofs.Numbering.{number_more, number_stays, stay_self, stay_then}
use Rattle.first_rows.proofs.texts.TextNumbers.key.Goals as goal

long : (first : RowKey) → length (key_of first) ≡ length first.columns.now
long first = length-map first.columns.now (cell_in (row_of first.batch.now.columns first.row))

pub returns-in_err-parts-clause-stay : goal.returns-in_err-parts-clause-stay
returns-in_err-parts-clause-stay c = stay_self c.args.self.now

pub loop-part-init : goal.loop-part-init
loop-part-init c = record { stay = stay_self c.args.self.now; seen = c.requires.seen; is = refl }

pub loop-part-preserved : goal.loop-part-preserved
loop-part-preserved c =
    let first = c.args.first.now in
    let key = key_of first in
    let part = c.loop-part.part in
    let low : part < length key = omega (arith, long first, c.loop-part-test.true, c.in_ok-parts.ensures) in
    let more : IsNumber c.part.new.self 0 (take part key) c.loop-part.number =
    number_stays c.loop-part.self c.part.new.self 0 (take part key) c.loop-part.number c.part.ensures.stay c.loop-part.invariant.is in
    record {
      stay = stay_then _ _ _ c.loop-part.invariant.stay c.part.ensures.stay;
      seen = c.part.ensures.seen;
      is = rw (take_more key part Null low)
          (number_more c.part.new.self 0 (take part key) c.loop-part.number (get_or key part Null) c.in_ok-number.number more c.in_ok-number.ensures.is);
    }

pub returns-clause-is : goal.returns-clause-is
returns-clause-is c =
    let first = c.args.first.now in
    let all : take c.loop-part.part (key_of first) ≡ key_of first =
    take_all c.loop-part.part (key_of first) (omega (arith, long first, c.loop-part-test.false, c.in_ok-parts.ensures)) in
    subst (λ (values : List Value). IsNumber c.loop-part.self 0 values c.loop-part.number) all c.loop-part.invariant.is
