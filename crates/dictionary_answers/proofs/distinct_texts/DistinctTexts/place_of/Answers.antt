use Rattle.std.proofs.Common.{◌≡◌, ◌∙◌, ℕ, List, Bool, true, false, not, map, sym, ap, Bor, refl, arith}
use Rattle.std.specs.Prelude.{slice_get}
use Rattle.std.specs.List.{list_any}
use Rattle.std.specs.Str.{bytes_eq}
use Rattle.dictionary_answers.specs.Firsts.{with_text}
use Rattle.dictionary_answers.specs.inside.CodedTexts.{DistinctTextsAt}
use Rattle.dictionary_answers.proofs.Places.{any_map, insert_text, stored_text, bytes_new}
use Rattle.dictionary_answers.proofs.distinct_texts.DistinctTexts.place_of.Goals.{then-added+else-self-text, else-added}
use Rattle.dictionary_answers.proofs.distinct_texts.DistinctTexts.place_of.Goals as goal

unnot : (b : Bool) → not b ≡ true → b ≡ false
unnot true e = cc
unnot false e = refl

pub returns-then-self-text-clause-full : goal.returns-then-self-text-clause-full
returns-then-self-text-clause-full c stop =
    let texts = c.args.self.now.texts in
    let text = c.args.text.now in
    let keys = c.self.inside.texts.keys in
    let absent : list_any (λ (key : Bor (List ℕ)). bytes_eq text key.now) keys ≡ false = unnot _ (sym c.in-Ok.ensures.added ∙ c.if-added.true) in
    let new : list_any (bytes_eq text) texts ≡ false =
    ap (λ (s : DistinctTextsAt). list_any (bytes_eq text) s.texts) (sym c.self.view_is) ∙ any_map (λ (key : Bor (List ℕ)). key.now) (bytes_eq text) keys ∙ absent in
    let left : c.self.inside.left ≡ c.args.self.now.left = ap (λ (s : DistinctTextsAt). s.left) c.self.view_is in
    omega (arith, bytes_new texts text new, c.if-self-text.true, left)

pub returns-clause-texts : goal.returns-clause-texts
returns-clause-texts c =
    let is : c.if-added.self.texts ≡ map (λ (text : Bor (List ℕ)). text.now) c.insert_full.new.self.keys = elim c.if-added.branch [
      | then-added+else-self-text w ↦ ap (λ (s : DistinctTextsAt). s.texts) w.self-is
      | else-added w ↦ ap (λ (s : DistinctTextsAt). s.texts) w.self-is
    ] in
    is ∙ ap (map (λ (text : Bor (List ℕ)). text.now)) c.in-Ok.ensures.keys
    ∙ insert_text (λ (text : Bor (List ℕ)). text.now) c.args.text c.self.inside.texts.keys
    ∙ ap (λ (s : DistinctTextsAt). with_text s.texts c.args.text.now) c.self.view_is

pub returns-clause-there : goal.returns-clause-there
returns-clause-there c =
    let is : c.if-added.self.texts ≡ map (λ (text : Bor (List ℕ)). text.now) c.insert_full.new.self.keys = elim c.if-added.branch [
      | then-added+else-self-text w ↦ ap (λ (s : DistinctTextsAt). s.texts) w.self-is
      | else-added w ↦ ap (λ (s : DistinctTextsAt). s.texts) w.self-is
    ] in
    let stored = c.in-Ok.ensures.stored in
    ap (λ (texts : List (List ℕ)). slice_get texts c.in-Ok.place) is
    ∙ stored_text (λ (text : Bor (List ℕ)). text.now) c.insert_full.new.self.keys c.in-Ok.place c.args.text stored.0 stored.1 stored.2
