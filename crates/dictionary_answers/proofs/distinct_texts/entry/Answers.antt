use Rattle.std.proofs.Common.{sym, subst}
use Rattle.std.proofs.lemmas.Option.{slice_get-get_or, get_or_from_slice_get}
use Rattle.scan_base.specs.Value.{value_of, IsTextOrNull}
use Rattle.scan_base.specs.declared.value.Value.TheVariants.{Null}
use Rattle.dictionary_answers.proofs.distinct_texts.entry.Goals as goal

pub returns-in-Some-clause-value : goal.returns-in-Some-clause-value
returns-in-Some-clause-value c = get_or_from_slice_get c.args.dictionary.now c.args.index (value_of c.in-Some.value) Null (sym c.in-Some.ensures)

pub returns-in-Some-clause-text : goal.returns-in-Some-clause-text
returns-in-Some-clause-text c =
    subst IsTextOrNull (get_or_from_slice_get c.args.dictionary.now c.args.index (value_of c.in-Some.value) Null (sym c.in-Some.ensures)) (c.len-count.ensures.texts c.args.index Null c.requires)

pub returns-in-None-clause-value : goal.returns-in-None-clause-value
returns-in-None-clause-value c = absurd (let no : ⊥ = cc (slice_get-get_or c.args.dictionary.now c.args.index Null c.requires, c.in-None.ensures) in no)
