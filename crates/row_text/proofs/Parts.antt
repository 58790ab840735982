-- What is sent item by item.
use Rattle.std.proofs.Common.{◌≡◌, ℕ, ◌+◌, ◌<◌, ◌≤◌, List, [], ◌∷◌, ◌++◌, length, take, drop, get_or, take_all, Option, Result, sym, ap, subst, ◌∙◌, append_assoc, append-nil}
use Rattle.std.specs.List.{flat_map}
use Rattle.std.proofs.lemmas.Grind.{flat_map-append}
use Rattle.std.proofs.lemmas.List.{take-append-drop, take_more, drop_more}
use Rattle.grpc_frame.specs.Sending.{Sent, NotSent, Sends}
use Rattle.grpc_frame.proofs.Sending.{gathered, head_not_sent, both_sent, second_not_sent, sent_behind}

-- nothing was sent yet
pub none_sent : (a : Option (List ℕ)) (before : List ℕ) → Sent a a before before []
none_sent a before = gathered a before before [] (sym (append-nil before))

-- the items up to one, and that one
pub items_more : {A : Type 0} (f : A → List ℕ) (items : List A) (i : ℕ) (x : A) → i < length items → x ≡ get_or items i x
    → flat_map f (take (i + 1) items) ≡ flat_map f (take i items) ++ f x
items_more f items i x inside is =
    ap (flat_map f) (take_more items i x inside ∙ ap (λ y. take i items ++ y ∷ []) (sym is))
    ∙ flat_map-append f (take i items) (x ∷ [])
    ∙ ap (λ l. flat_map f (take i items) ++ l) (append-nil (f x))

-- the items up to one, that one, and the rest
pub items_split : {A : Type 0} (f : A → List ℕ) (items : List A) (i : ℕ) (x : A) → i < length items → x ≡ get_or items i x
    → flat_map f items ≡ flat_map f (take i items) ++ (f x ++ flat_map f (drop (i + 1) items))
items_split f items i x inside is =
    ap (flat_map f) (sym (take-append-drop i items) ∙ ap (λ l. take i items ++ l) (drop_more items i x inside ∙ ap (λ y. y ∷ drop (i + 1) items) (sym is)))
    ∙ flat_map-append f (take i items) (x ∷ drop (i + 1) items)

-- one item more was sent
pub more_sent : {A : Type 0} (f : A → List ℕ) (a b c : Option (List ℕ)) (before mid after : List ℕ) (items : List A) (i : ℕ) (x : A)
    → i < length items → x ≡ get_or items i x
    → Sent a b before mid (flat_map f (take i items)) → Sent b c mid after (f x) → Sent a c before after (flat_map f (take (i + 1) items))
more_sent f a b c before mid after items i x inside is sent more =
    subst (Sent a c before after) (sym (items_more f items i x inside is)) (both_sent a b c before mid after (flat_map f (take i items)) (f x) sent more)

-- or not
pub more_not_sent : {A : Type 0} (f : A → List ℕ) (a b c : Option (List ℕ)) (before mid after : List ℕ) (items : List A) (i : ℕ) (x : A)
    → i < length items → x ≡ get_or items i x
    → Sent a b before mid (flat_map f (take i items)) → NotSent b c mid after (f x) → NotSent a c before after (flat_map f items)
more_not_sent f a b c before mid after items i x inside is sent failed =
    let rest = flat_map f (drop (i + 1) items) in
    subst (NotSent a c before after) (sym (items_split f items i x inside is))
    (second_not_sent a b c before mid after (flat_map f (take i items)) (f x ++ rest) sent (head_not_sent b c mid after (f x) rest failed))

-- ---- a front, items after it, and what stands after them

-- the front was sent
pub front_sent : (a b : Option (List ℕ)) (before mid front cell : List ℕ) → front ≡ cell → Sent a b before mid cell → Sent a b before mid (front ++ [])
front_sent a b before mid front cell is sent = subst (Sent a b before mid) (sym is ∙ sym (append-nil front)) sent

-- or not
pub front_not_sent : {X : Type 0} (f : X → List ℕ) (a b : Option (List ℕ)) (before after front cell back line : List ℕ) (items : List X)
    → line ≡ front ++ (flat_map f items ++ back) → front ≡ cell → NotSent a b before after cell → NotSent a b before after line
front_not_sent f a b before after front cell back line items whole is failed =
    subst (NotSent a b before after) (sym whole)
    (head_not_sent a b before after front (flat_map f items ++ back) (subst (NotSent a b before after) (sym is) failed))

-- one item more was sent after it
pub item_sent : {X : Type 0} (f : X → List ℕ) (a b c : Option (List ℕ)) (before mid after front : List ℕ) (items : List X) (i : ℕ) (x : X)
    → i < length items → x ≡ get_or items i x
    → Sent a b before mid (front ++ flat_map f (take i items)) → Sent b c mid after (f x)
    → Sent a c before after (front ++ flat_map f (take (i + 1) items))
item_sent f a b c before mid after front items i x inside is sent more =
    subst (Sent a c before after)
    (append_assoc front (flat_map f (take i items)) (f x) ∙ ap (λ (l : List ℕ). front ++ l) (sym (items_more f items i x inside is)))
    (both_sent a b c before mid after (front ++ flat_map f (take i items)) (f x) sent more)

-- or not
pub item_not_sent : {X : Type 0} (f : X → List ℕ) (a b c : Option (List ℕ)) (before mid after front back line : List ℕ) (items : List X) (i : ℕ) (x : X)
    → line ≡ front ++ (flat_map f items ++ back) → i < length items → x ≡ get_or items i x
    → Sent a b before mid (front ++ flat_map f (take i items)) → NotSent b c mid after (f x) → NotSent a c before after line
item_not_sent f a b c before mid after front back line items i x whole inside is sent failed =
    let head = flat_map f (take i items) in
    let rest = flat_map f (drop (i + 1) items) in
    let parts : line ≡ (front ++ head) ++ (f x ++ (rest ++ back)) =
    whole
    ∙ ap (λ (l : List ℕ). front ++ (l ++ back)) (items_split f items i x inside is)
    ∙ ap (λ (l : List ℕ). front ++ l) (append_assoc head (f x ++ rest) back)
    ∙ ap (λ (l : List ℕ). front ++ (head ++ l)) (append_assoc (f x) rest back)
    ∙ sym (append_assoc front head (f x ++ (rest ++ back))) in
    subst (NotSent a c before after) (sym parts)
    (second_not_sent a b c before mid after (front ++ head) (f x ++ (rest ++ back)) sent (head_not_sent b c mid after (f x) (rest ++ back) failed))

-- all items were sent, and then what stands after them, or not
pub back_sent : {X Y E : Type 0} (f : X → List ℕ) (r : Result Y E) (a b c : Option (List ℕ)) (before mid after front back line : List ℕ) (items : List X) (i : ℕ)
    → line ≡ front ++ (flat_map f items ++ back) → length items ≤ i
    → Sent a b before mid (front ++ flat_map f (take i items)) → Sends r b c mid after back → Sends r a c before after line
back_sent f r a b c before mid after front back line items i whole all sent last =
    let every = subst (λ l. Sent a b before mid (front ++ flat_map f l)) (take_all i items all) sent in
    subst (Sends r a c before after) (append_assoc front (flat_map f items) back ∙ sym whole)
    (sent_behind r a b c before mid after (front ++ flat_map f items) back every last)
