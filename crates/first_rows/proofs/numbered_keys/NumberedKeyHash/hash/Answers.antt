use Rattle.std.proofs.Common.{◌≡◌, List, take, Option, sym, ap, ◌∙◌, arith}
use Rattle.std.specs.List.{fold, flat_map}
use Rattle.std.proofs.lemmas.List.{take_all}
use Rattle.std.proofs.lemmas.List.Sums.{fold-append}
use Rattle.scan_base.specs.declared.value.Value.{Value}
use Rattle.first_rows.specs.Parts.{part_input}
use Rattle.first_rows.specs.NumberedKeys.{rest_of, texts_input}
use Rattle.first_rows.proofs.Coded.{rest_long}
use Rattle.first_rows.proofs.numbered_keys.NumberedKeyHash.hash.Goals as goal

pub returns : goal.returns
returns g c =
    let key = c.args.self.now in
    let all : take c.loop-place.place (rest_of key) ≡ rest_of key = take_all c.loop-place.place (rest_of key) (omega (arith, rest_long key)) in
    c.loop-place.invariant
    ∙ ap (λ (parts : List (Option Value)). fold g.H.Hasher.write c.hash_texts.new.state (flat_map part_input parts)) all
    ∙ ap (λ state. fold g.H.Hasher.write state (flat_map part_input (rest_of key))) c.hash_texts.ensures
    ∙ sym (fold-append g.H.Hasher.write c.args.state.now (texts_input key.texts) (flat_map part_input (rest_of key)))
