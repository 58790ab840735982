-- What is sent item by item.
use Rattle.std.proofs.Common.{◌≡◌, ℕ, zero, suc, ◌+◌, ◌<◌, ◌≤◌, List, [], ◌∷◌, ◌++◌, length, take, drop, get_or, Option, sym, ap, subst, ◌∙◌, append-nil, replicate, refl, arith}
use Rattle.std.specs.List.{flat_map}
use Rattle.std.proofs.lemmas.Grind.{flat_map-append}
use Rattle.std.proofs.lemmas.List.{take-append-drop, take_more, drop_more}
use Rattle.grpc_frame.specs.Sending.{Sent, NotSent}
use Rattle.grpc_frame.proofs.Sending.{gathered, head_not_sent, both_sent, second_not_sent}

-- nothing was sent yet
pub none_sent : (a : Option (List ℕ)) (before : List ℕ) → Sent a a before before []
none_sent a before = gathered a before before [] (sym (append-nil before))

-- the items up to one, and that one
pub items_more : {A B : Type 0} (f : A → List B) (items : List A) (i : ℕ) (x : A) → i < length items → x ≡ get_or items i x
    → flat_map f (take (i + 1) items) ≡ flat_map f (take i items) ++ f x
items_more f items i x inside is =
    ap (flat_map f) (take_more items i x inside ∙ ap (λ y. take i items ++ y ∷ []) (sym is))
    ∙ flat_map-append f (take i items) (x ∷ [])
    ∙ ap (λ l. flat_map f (take i items) ++ l) (append-nil (f x))

-- the items up to one, that one, and the rest
pub items_split : {A B : Type 0} (f : A → List B) (items : List A) (i : ℕ) (x : A) → i < length items → x ≡ get_or items i x
    → flat_map f items ≡ flat_map f (take i items) ++ (f x ++ flat_map f (drop (i + 1) items))
items_split f items i x inside is =
    ap (flat_map f) (sym (take-append-drop i items) ∙ ap (λ l. take i items ++ l) (drop_more items i x inside ∙ ap (λ y. y ∷ drop (i + 1) items) (sym is)))
    ∙ flat_map-append f (take i items) (x ∷ drop (i + 1) items)

-- one item more was sent
pub more_sent : {A : Type 0} (f : A → List ℕ) (a b c : Option (List ℕ)) (before mid after : List ℕ) (items : List A) (i : ℕ) (x : A)
    → i < length items → x ≡ get_or items i x
    → Sent a b before mid (flat_map f (take i items)) → Sent b c mid after (f x) → Sent a c before after (flat_map f (take (i + 1) items))
more_sent f a b c before mid after items i x inside is sent more =
    subst (Sent a c before after) (sym (items_more f items i x inside is)) (both_sent a b c before mid after (flat_map f (take i items)) (f x) sent more)

-- or not
pub more_not_sent : {A : Type 0} (f : A → List ℕ) (a b c : Option (List ℕ)) (before mid after : List ℕ) (items : List A) (i : ℕ) (x : A)
    → i < length items → x ≡ get_or items i x
    → Sent a b before mid (flat_map f (take i items)) → NotSent b c mid after (f x) → NotSent a c before after (flat_map f items)
more_not_sent f a b c before mid after items i x inside is sent failed =
    let rest = flat_map f (drop (i + 1) items) in
    subst (NotSent a c before after) (sym (items_split f items i x inside is))
    (second_not_sent a b c before mid after (flat_map f (take i items)) (f x ++ rest) sent (head_not_sent b c mid after (f x) rest failed))

-- ---- zeros

-- the first of some zeros are zeros
pub zeros_taken : (z n : ℕ) → z ≤ n → take {A = ℕ} z (replicate n 0) ≡ replicate z 0
zeros_taken zero n low = refl
zeros_taken (suc z) zero low = absurd (omega (arith, low))
zeros_taken (suc z) (suc n) low = ap (λ (l : List ℕ). 0 ∷ l) (zeros_taken z n (omega (arith, low)))
