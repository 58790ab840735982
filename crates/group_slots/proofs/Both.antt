-- Tallies of the rows of both.
use Rattle.std.proofs.Common.{◌≡◌, ℕ, ℤ, ◌+ℤ◌, pos, List, [], ◌∷◌, sym, ap, ◌∙◌, arith}
use Rattle.std.specs.List.{fold}
use Rattle.std.proofs.Math.IntN.{+ℤ_assoc, +ℤ_comm, +ℤ_idl}
use Rattle.scan_base.specs.declared.value.Value.{Value}
use Rattle.scan_base.specs.declared.value.Value.TheVariants.{Null, Bool as Flag, Int, Text}
use Rattle.scan_base.specs.Predicate.{cell_in}
use Rattle.table_versions.specs.Table.{Row}
use Rattle.typed_plan.specs.declared.plan.Aggregate.{Aggregate}
use Rattle.typed_plan.specs.declared.plan.Aggregate.TheVariants.{Key, CountRows, Count, Sum}
use Rattle.group_slots.specs.declared.tally.Tally.{Tally}
use Rattle.group_slots.specs.Tallies.{no_rows, added, both, counted, summed, tally_of}

tally_is : (a b : Tally) → a.count ≡ b.count → a.sum ≡ b.sum → a ≡ b
tally_is a b counts sums =
    ap (λ (count : ℕ). record { count = count; sum = a.sum }) counts ∙ ap (λ (sum : ℤ). record { count = b.count; sum = sum }) sums

none_more : (z : ℤ) → z +ℤ pos 0 ≡ z
none_more z = +ℤ_comm z (pos 0) ∙ +ℤ_idl z

pub both_none : (tally : Tally) → both tally no_rows ≡ tally
both_none tally = tally_is (both tally no_rows) tally (omega arith) (none_more tally.sum)

pub both_assoc : (a b c : Tally) → both (both a b) c ≡ both a (both b c)
both_assoc a b c = tally_is (both (both a b) c) (both a (both b c)) (omega arith) (+ℤ_assoc a.sum b.sum c.sum)

both_comm : (a b : Tally) → both a b ≡ both b a
both_comm a b = tally_is (both a b) (both b a) (omega arith) (+ℤ_comm a.sum b.sum)

pub both_turned : (a b c : Tally) → both a (both b c) ≡ both b (both a c)
both_turned a b c = sym (both_assoc a b c) ∙ ap (λ (tally : Tally). both tally c) (both_comm a b) ∙ both_assoc b a c

counted_both : (tally : Tally) (value : Value) → counted tally value ≡ both tally (counted no_rows value)
counted_both tally Null = sym (both_none tally)
counted_both tally (Flag flag) = tally_is _ _ (omega arith) (sym (none_more tally.sum))
counted_both tally (Int number) = tally_is _ _ (omega arith) (sym (none_more tally.sum))
counted_both tally (Text text) = tally_is _ _ (omega arith) (sym (none_more tally.sum))

summed_both : (tally : Tally) (value : Value) → summed tally value ≡ both tally (summed no_rows value)
summed_both tally Null = sym (both_none tally)
summed_both tally (Flag flag) = tally_is _ _ (omega arith) (sym (none_more tally.sum))
summed_both tally (Int number) = tally_is _ _ (omega arith) (ap (λ (z : ℤ). tally.sum +ℤ z) (sym (+ℤ_idl number)))
summed_both tally (Text text) = tally_is _ _ (omega arith) (sym (none_more tally.sum))

pub added_both : (item : Aggregate) (tally : Tally) (row : Row) → added item tally row ≡ both tally (added item no_rows row)
added_both (Key place) tally row = sym (both_none tally)
added_both CountRows tally row = tally_is _ _ (omega arith) (sym (none_more tally.sum))
added_both (Count column) tally row = counted_both tally (cell_in row column)
added_both (Sum column) tally row = summed_both tally (cell_in row column)

-- rows that are added to a tally add theirs
pub fold_both : (item : Aggregate) (tally : Tally) (rows : List Row) → fold (added item) tally rows ≡ both tally (tally_of item rows)
fold_both item tally [] = sym (both_none tally)
fold_both item tally (row ∷ rows) =
    let one = added item no_rows row in
    fold_both item (added item tally row) rows
    ∙ ap (λ (first : Tally). both first (tally_of item rows)) (added_both item tally row)
    ∙ both_assoc tally one (tally_of item rows)
    ∙ ap (both tally) (sym (fold_both item one rows))
