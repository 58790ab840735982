-- A text that is sent in runs, with what is escaped between them.
use Rattle.std.proofs.Common.{◌≡◌, ℕ, ◌+◌, ◌-◌, ◌<◌, ◌≤◌, List, [], ◌∷◌, ◌++◌, length, take, drop, get_or, take_all, take-add, length-drop, get_or-drop, Option, Result, refl, sym, ap, subst, ◌∙◌, append_assoc, append-nil, arith}
use Rattle.std.specs.List.{flat_map}
use Rattle.std.proofs.lemmas.Grind.{flat_map-append}
use Rattle.std.proofs.lemmas.List.{take_more}
use Rattle.grpc_frame.specs.Sending.{Sent, NotSent, Sends}
use Rattle.grpc_frame.proofs.Sending.{head_not_sent, both_sent, second_not_sent, sent_behind}
use Rattle.row_text.proofs.Parts.{items_more, items_split}

-- the bytes from one place up to another
abbrev pub run : List ℕ → ℕ → ℕ → List ℕ
run text from at = take (at - from) (drop from text)

-- in a run without bytes none is escaped
pub none_plain : (f : ℕ → List ℕ) (text : List ℕ) (at : ℕ) → flat_map f (run text at at) ≡ run text at at
none_plain f text at =
    let none : 0 ≡ at - at = omega arith in
    subst (λ (n : ℕ). flat_map f (take n (drop at text)) ≡ take n (drop at text)) none refl

module _ (f : ℕ → List ℕ) (text : List ℕ) (from at : ℕ) (ordered : from ≤ at) (plain : flat_map f (run text from at) ≡ run text from at) where
  -- what was sent before the run, and the run
  spelled_to : flat_map f (take at text) ≡ flat_map f (take from text) ++ run text from at
  spelled_to =
      let whole : at ≡ from + (at - from) = omega arith in
      ap (λ (n : ℕ). flat_map f (take n text)) whole
      ∙ ap (flat_map f) (take-add from (at - from) text)
      ∙ flat_map-append f (take from text) (run text from at)
      ∙ ap (λ (l : List ℕ). flat_map f (take from text) ++ l) plain

  -- the last run was sent, or not
  pub rest_sent : {A E : Type 0} (r : Result A E) (a b c : Option (List ℕ)) (before mid after : List ℕ) → at ≡ length text
      → Sent a b before mid (flat_map f (take from text)) → Sends r b c mid after (run text from (length text)) → Sends r a c before after (flat_map f text)
  rest_sent r a b c before mid after all sent last =
      subst (Sends r a c before after) (sym whole) (sent_behind r a b c before mid after (flat_map f (take from text)) (run text from (length text)) sent last)
    where
      whole : flat_map f text ≡ flat_map f (take from text) ++ run text from (length text)
      whole = ap (flat_map f) (sym (take_all at text (omega (arith, all))))
          ∙ spelled_to
          ∙ ap (λ (n : ℕ). flat_map f (take from text) ++ run text from n) all

  module _ (byte : ℕ) (inside : at < length text) (is : byte ≡ get_or text at byte) where
    run_more : run text from (at + 1) ≡ run text from at ++ byte ∷ []
    run_more =
        let next : at + 1 - from ≡ (at - from) + 1 = omega arith in
        let there : at - from < length (drop from text) = rw (length-drop from text) (omega arith) in
        let place : from + (at - from) ≡ at = omega arith in
        let read : get_or (drop from text) (at - from) byte ≡ byte =
        get_or-drop from text (at - from) byte ∙ ap (λ (n : ℕ). get_or text n byte) place ∙ sym is in
        ap (λ (n : ℕ). take n (drop from text)) next
        ∙ take_more (drop from text) (at - from) byte there
        ∙ ap (λ (b : ℕ). run text from at ++ b ∷ []) read

    -- a byte more that is not escaped
    pub one_more_plain : f byte ≡ byte ∷ [] → flat_map f (run text from (at + 1)) ≡ run text from (at + 1)
    one_more_plain same =
        ap (flat_map f) run_more
        ∙ flat_map-append f (run text from at) (byte ∷ [])
        ∙ ap (λ (l : List ℕ). l ++ (f byte ++ [])) plain
        ∙ ap (λ (l : List ℕ). run text from at ++ l) (append-nil (f byte) ∙ same)
        ∙ sym run_more

    module _ (a b c : Option (List ℕ)) (before mid after escape : List ℕ) (spelled : f byte ≡ escape) (sent : Sent a b before mid (flat_map f (take from text))) where
      -- the run was sent, and what stands for the byte after it
      pub escape_sent : Sent b c mid after (run text from at ++ escape) → Sent a c before after (flat_map f (take (at + 1) text))
      escape_sent more =
          subst (Sent a c before after) (sym bytes) (both_sent a b c before mid after (flat_map f (take from text)) (run text from at ++ escape) sent more)
        where
          bytes : flat_map f (take (at + 1) text) ≡ flat_map f (take from text) ++ (run text from at ++ escape)
          bytes = items_more f text at byte inside is
              ∙ ap (λ (l : List ℕ). l ++ f byte) spelled_to
              ∙ append_assoc (flat_map f (take from text)) (run text from at) (f byte)
              ∙ ap (λ (l : List ℕ). flat_map f (take from text) ++ (run text from at ++ l)) spelled

      -- or not
      pub escape_not_sent : NotSent b c mid after (run text from at ++ escape) → NotSent a c before after (flat_map f text)
      escape_not_sent failed =
          let front = flat_map f (take from text) in
          let rest = flat_map f (drop (at + 1) text) in
          let piece = run text from at in
          let bytes : flat_map f text ≡ front ++ ((piece ++ escape) ++ rest) =
          items_split f text at byte inside is
          ∙ ap (λ (l : List ℕ). l ++ (f byte ++ rest)) spelled_to
          ∙ append_assoc front piece (f byte ++ rest)
          ∙ ap (λ (l : List ℕ). front ++ l) (sym (append_assoc piece (f byte) rest))
          ∙ ap (λ (l : List ℕ). front ++ ((piece ++ l) ++ rest)) spelled in
          subst (NotSent a c before after) (sym bytes)
          (second_not_sent a b c before mid after front ((piece ++ escape) ++ rest) sent (head_not_sent b c mid after (piece ++ escape) rest failed))
