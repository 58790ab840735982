use Rattle.std.proofs.Common.{refl}
use Rattle.array_select.proofs.GatheredTexts.{texts_short, gathered_stand, texts_gathered}
use Rattle.array_select.proofs.gather_texts.gather_texts.Goals as goal

pub gather_offsets-requires-clause-short : goal.gather_offsets-requires-clause-short
gather_offsets-requires-clause-short c = texts_short c.args.cells.now c.args.first c.args.places.now c.len-count.ensures.stands c.requires

pub returns : goal.returns
returns c = λ validity valid.
    let are = c.len-count.ensures.stands in (
      record {
        stand = gathered_stand c.args.cells.now validity c.args.cells.now.validity c.in_ok-from_vec.field-0 c.in_ok-from_vec-2.field-0 c.in_ok-offsets.offsets.items c.in_ok-bytes.bytes.items c.args.first c.args.places.now
            are c.requires refl valid c.in_ok-from_vec.ensures.ok c.in_ok-from_vec-2.ensures.ok c.in_ok-offsets.ensures.offsets c.in_ok-bytes.ensures;
        count = refl;
      },
      texts_gathered _ c.args.cells.now validity c.args.cells.now.validity c.in_ok-from_vec.field-0 c.in_ok-from_vec-2.field-0 c.in_ok-offsets.offsets.items c.in_ok-bytes.bytes.items c.args.first c.args.places.now
          are c.requires refl refl valid c.in_ok-from_vec.ensures.ok c.in_ok-from_vec-2.ensures.ok c.in_ok-offsets.ensures.offsets c.in_ok-bytes.ensures,
    )
