-- A message that is sent in pieces.
use Rattle.std.proofs.Common.{◌≡◌, ℕ, ◌+◌, ◌<◌, ◌≤◌, List, [], ◌∷◌, ◌++◌, length, take, drop, get_or, take_all, sym, ap, subst, ◌∙◌, append_assoc, append-nil}
use Rattle.std.specs.List.{flat_map}
use Rattle.std.proofs.lemmas.Grind.{flat_map-append}
use Rattle.std.proofs.lemmas.List.{take-append-drop, take_more, drop_more, flat_map_more}
use Rattle.grpc_frame.specs.declared.record.Record.TheVariants.{Message}
use Rattle.grpc_frame.specs.Records.{spelling, message_head}
use Rattle.grpc_frame.specs.Outgoing.{IsBroken, IsSent, Outgoing}
use Rattle.grpc_frame.proofs.Outgoing.{head_broken, sent_then, broken_then}

abbrev pub joined : List (List ℕ) → List ℕ
joined parts = flat_map (λ part. part) parts

-- so many parts of a message were sent, after what stands before the parts
pub record HasSentParts (payload : List ℕ) (parts : List (List ℕ)) (count : ℕ) (a b : Outgoing) : Type 0 where
  pub front : List ℕ
  pub whole : front ++ joined parts ≡ spelling (Message payload)
  pub sent : IsSent a b (front ++ joined (take count parts))

module _ (payload head : List ℕ) (parts : List (List ℕ)) (len : ℕ) (long : len ≡ length payload) (is : payload ≡ head ++ joined parts) where
  front : List ℕ
  front = message_head len ++ head

  spelled : front ++ joined parts ≡ spelling (Message payload)
  unfolding front
  spelled = append_assoc (message_head len) head (joined parts)
      ∙ ap (λ (l : List ℕ). message_head len ++ l) (sym is)
      ∙ ap (λ (n : ℕ). message_head n ++ payload) long

  -- the head of the message was sent, and then the first bytes
  pub front_sent : (a b c : Outgoing) → IsSent a b (message_head len) → IsSent b c head → HasSentParts payload parts 0 a c
  unfolding front
  front_sent a b c first second = record {
    front = front;
    whole = spelled;
    sent = subst (IsSent a c) (sym (append-nil front)) (sent_then a b c (message_head len) head first second);
  }

  -- or not
  pub front_failed : (a b c : Outgoing) → IsSent a b (message_head len) → IsBroken b c head → IsBroken a c (spelling (Message payload))
  unfolding front
  front_failed a b c first failed = subst (IsBroken a c) spelled
      (head_broken a c front (joined parts) (broken_then a b c (message_head len) head first failed))

-- the head of a message was not sent
pub head_failed : (a b : Outgoing) (payload : List ℕ) (len : ℕ) → len ≡ length payload → IsBroken a b (message_head len) → IsBroken a b (spelling (Message payload))
head_failed a b payload len long failed =
    subst (λ (n : ℕ). IsBroken a b (message_head n ++ payload)) long (head_broken a b (message_head len) payload failed)

module _ (payload : List ℕ) (parts : List (List ℕ)) (i : ℕ) (a b c : Outgoing) (has : HasSentParts payload parts i a b) where
  -- one part more was sent
  pub part_sent : (part : List ℕ) → i < length parts → part ≡ get_or parts i part → IsSent b c part → HasSentParts payload parts (i + 1) a c
  part_sent part inside is more = record {
    front = has.front;
    whole = has.whole;
    sent = subst (IsSent a c) bytes (sent_then a b c (has.front ++ joined (take i parts)) part has.sent more);
  }
    where
      bytes : (has.front ++ joined (take i parts)) ++ part ≡ has.front ++ joined (take (i + 1) parts)
      bytes = flat_map_more (λ (l : List ℕ). l) has.front (take i parts) part
          ∙ ap (λ (l : List (List ℕ)). has.front ++ joined l) (ap (λ (p : List ℕ). take i parts ++ p ∷ []) is ∙ sym (take_more parts i part inside))

  -- or not
  pub part_failed : (part : List ℕ) → i < length parts → part ≡ get_or parts i part → IsBroken b c part → IsBroken a c (spelling (Message payload))
  part_failed part inside is failed = subst (IsBroken a c) (bytes ∙ has.whole)
      (broken_then a b c (has.front ++ joined (take i parts)) (part ++ joined (drop (i + 1) parts)) has.sent (head_broken b c part (joined (drop (i + 1) parts)) failed))
    where
      all : take i parts ++ (part ∷ drop (i + 1) parts) ≡ parts
      all = ap (λ (p : List ℕ). take i parts ++ (p ∷ drop (i + 1) parts)) is
          ∙ ap (λ (l : List (List ℕ)). take i parts ++ l) (sym (drop_more parts i part inside)) ∙ take-append-drop i parts

      bytes : (has.front ++ joined (take i parts)) ++ (part ++ joined (drop (i + 1) parts)) ≡ has.front ++ joined parts
      bytes = append_assoc has.front (joined (take i parts)) (part ++ joined (drop (i + 1) parts))
          ∙ ap (λ (l : List ℕ). has.front ++ l) (sym (flat_map-append (λ (l : List ℕ). l) (take i parts) (part ∷ drop (i + 1) parts)) ∙ ap joined all)

-- all parts were sent
pub parts_sent : (payload : List ℕ) (parts : List (List ℕ)) (i : ℕ) (a b : Outgoing) → length parts ≤ i → HasSentParts payload parts i a b
    → IsSent a b (spelling (Message payload))
parts_sent payload parts i a b all has =
    subst (IsSent a b) (ap (λ (l : List (List ℕ)). has.front ++ joined l) (take_all i parts all) ∙ has.whole) has.sent
