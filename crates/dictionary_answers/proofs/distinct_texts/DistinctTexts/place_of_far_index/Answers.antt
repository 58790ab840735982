use Rattle.std.proofs.Common.{nat_eq, get_or, sym, subst}
use Rattle.indexmap.specs.IndexMap.{get}
use Rattle.scan_base.specs.declared.value.Value.{Value}
use Rattle.scan_base.specs.declared.value.Value.TheVariants.{Null}
use Rattle.dictionary_answers.specs.inside.Coding.{Finds}
use Rattle.dictionary_answers.proofs.Adding.{finds_kept}
use Rattle.dictionary_answers.proofs.Tables.{kept_met}
use Rattle.dictionary_answers.proofs.distinct_texts.DistinctTexts.place_of_far_index.Goals as goal

pub returns-in-Some-clause-found : goal.returns-in-Some-clause-found
returns-in-Some-clause-found c =
    finds_kept c.args.self.now c.in-Some.place.now (get_or c.args.dictionary.now c.args.index Null) (c.requires.met c.args.index c.in-Some.place.now (sym c.in-Some.ensures.value))

pub returns-clause-met : goal.returns-clause-met
returns-clause-met c =
    kept_met c.args.dictionary.now c.args.self.now c.place_of_value.new.self (get nat_eq c.args.met.now) (get nat_eq c.insert.new.self) c.args.index c.in_ok-place.place c.requires.met
    (subst (λ (v : Value). Finds c.args.self.now c.place_of_value.new.self c.in_ok-place.place v) (sym c.entry.ensures.value) c.in_ok-place.ensures.found)
    c.in_ok-insert.ensures.updates.0
