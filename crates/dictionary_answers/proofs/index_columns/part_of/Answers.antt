use Rattle.std.proofs.Common.{◌∙◌, ℕ, List, map, length, sym, Bor}
use Rattle.std.proofs.lemmas.List.{length-map}
use Rattle.dictionary_answers.proofs.Parts.{part_made}
use Rattle.dictionary_answers.proofs.index_columns.part_of.Goals as goal

pub returns-in-Ok-clause-values : goal.returns-in-Ok-clause-values
returns-in-Ok-clause-values c =
    part_made (map (λ (text : Bor (List ℕ)). text.now) c.args.texts.now) c.in_ok-offsets.offsets c.in_ok-bytes.bytes (length c.args.texts.now) c.in-Ok.part
    (c.in_ok-offsets.ensures.ok ∙ c.in_ok-packed.ensures) (c.in_ok-bytes.ensures.ok ∙ c.in_ok-joined.ensures)
    (sym (length-map c.args.texts.now (λ (text : Bor (List ℕ)). text.now))) c.requires.short c.in-Ok.ensures.value
