-- Texts as they are found, and places that lead to them.
use Rattle.std.proofs.Common.{◌≡◌, ◌≤◌, ◌<◌, ℕ, zero, suc, ◌+◌, ◌||◌, Bool, true, false, List, [], ◌∷◌, ◌++◌, length, map, Option, Some, None, option_map, refl, sym, ap, ◌∙◌, arith}
use Rattle.std.specs.Prelude.{fold, slice_get}
use Rattle.std.specs.List.{flat_map, list_any}
use Rattle.std.specs.Str.{bytes_eq}
use Rattle.std.proofs.lemmas.Slice.Eq.{bytes_eq-Decides}
use Rattle.std.proofs.lemmas.List.{append-nil, map-append, length-append, get_or_append_left}
use Rattle.std.proofs.lemmas.Grind.{fold-append, flat_map-append}
use Rattle.std.proofs.lemmas.Option.{slice_get_within, slice_get-get_or, slice_get-map, get_or_from_slice_get}
use Rattle.indexmap.specs.IndexSet.{insert_key}
use Rattle.indexmap.proofs.SetLemmas.{AllZip-push}
use Rattle.scan_base.specs.declared.value.Value.{Value}
use Rattle.scan_base.specs.declared.value.Value.TheVariants.{Null, Bool as Flag, Int, Text}
use Rattle.arrays.specs.WrittenSlots.{text_bytes}
use Rattle.dictionary_answers.specs.Firsts.{text_in, with_text, firsts, firsts_behind, bytes_in, Leads, AreLed}
use Rattle.dictionary_answers.specs.inside.CodedTexts.{AreCoded, held, DistinctTextsAt, coded_texts_at}
use Rattle.dictionary_answers.specs.inside.Coding.{Finds}

pub any_map : {A : Type 0} (f : A → List ℕ) (p : List ℕ → Bool) (xs : List A) → list_any p (map f xs) ≡ list_any (λ x. p (f x)) xs
any_map f p [] = refl
any_map f p (x ∷ xs) = ap (λ (t : Bool). p (f x) || t) (any_map f p xs)

-- a reference to a text that is inserted inserts the text
pub insert_text : {A : Type 0} (f : A → List ℕ) (key : A) (keys : List A) →
    map f (insert_key (λ a b. bytes_eq (f a) (f b)) keys key) ≡ with_text (map f keys) (f key)
insert_text {A} f key keys = by (list_any (λ b. bytes_eq (f key) (f b)) keys) refl
  where
    by : (t : Bool) → list_any (λ b. bytes_eq (f key) (f b)) keys ≡ t →
        map f (insert_key (λ a b. bytes_eq (f a) (f b)) keys key) ≡ with_text (map f keys) (f key)
    by true e = rw (any_map f (bytes_eq (f key)) keys, e) refl
    by false e = rw (any_map f (bytes_eq (f key)) keys, e) (map-append f keys (key ∷ []))

-- a reference to a text that is stored leads to the text
pub stored_text : {A : Type 0} (f : A → List ℕ) (keys : List A) (place : ℕ) (key stored : A) → slice_get keys place ≡ Some stored → bytes_eq (f key) (f stored) ≡ true →
    slice_get (map f keys) place ≡ Some (f key)
stored_text f keys place key stored there same =
    let e : f key ≡ f stored = (bytes_eq-Decides (f key) (f stored)).0 same in
    slice_get-map f keys place ∙ ap (option_map f) there ∙ ap Some (sym e)

-- one value more
pub firsts_more : (values : List Value) (value : Value) → firsts (values ++ value ∷ []) ≡ firsts_behind (firsts values) (value ∷ [])
firsts_more values value =
    ap (fold with_text []) (flat_map-append text_in values (value ∷ []))
    ∙ fold-append with_text [] (flat_map text_in values) (flat_map text_in (value ∷ []))

-- a text that stands among texts stands at its place when others come after it
get_more : (texts more : List (List ℕ)) (place : ℕ) (text : List ℕ) → slice_get texts place ≡ Some text → slice_get (texts ++ more) place ≡ Some text
get_more texts more place text there =
    let low = slice_get_within texts place text there in
    let far : place < length (texts ++ more) = omega (arith, length-append texts more, low) in
    slice_get-get_or (texts ++ more) place [] far
    ∙ ap Some (get_or_append_left texts more [] place low ∙ get_or_from_slice_get texts place text [] there)

leads_more : (texts more : List (List ℕ)) (place : Option ℕ) (value : Value) → Leads texts place value → Leads (texts ++ more) place value
leads_more texts more None value leads = leads
leads_more texts more (Some place) value leads = (leads.0, get_more texts more place leads.0 leads.1, leads.2)

led_more : (texts more : List (List ℕ)) (places : List (Option ℕ)) (values : List Value) → AreLed texts places values → AreLed (texts ++ more) places values
led_more texts more [] [] led = tt
led_more texts more (place ∷ places) (value ∷ values) led = (leads_more texts more place value led.0, led_more texts more places values led.1)
led_more texts more [] (value ∷ values) led = absurd led
led_more texts more (place ∷ places) [] led = absurd led

led_with : (texts : List (List ℕ)) (text : List ℕ) (places : List (Option ℕ)) (values : List Value) → AreLed texts places values → AreLed (with_text texts text) places values
led_with texts text places values led = by (list_any (bytes_eq text) texts) refl
  where
    by : (t : Bool) → list_any (bytes_eq text) texts ≡ t → AreLed (with_text texts text) places values
    by true e = rw e led
    by false e = rw e (led_more texts (text ∷ []) places values led)

pub leads_with : (texts : List (List ℕ)) (text : List ℕ) (place : Option ℕ) (value : Value) → Leads texts place value → Leads (with_text texts text) place value
leads_with texts text place value leads = by (list_any (bytes_eq text) texts) refl
  where
    by : (t : Bool) → list_any (bytes_eq text) texts ≡ t → Leads (with_text texts text) place value
    by true e = rw e leads
    by false e = rw e (leads_more texts (text ∷ []) place value leads)

bytes_self : (text : List ℕ) → bytes_eq text text ≡ true
bytes_self text = (bytes_eq-Decides text text).1 refl

-- a text that stands among texts is one of them
stands_among : (texts : List (List ℕ)) (place : ℕ) (text : List ℕ) → slice_get texts place ≡ Some text → list_any (bytes_eq text) texts ≡ true
stands_among [] place text there = absurd (let no : ⊥ = cc in no)
stands_among (first ∷ texts) zero text there = let same : first ≡ text = cc in rw (same, bytes_self text) refl
stands_among (first ∷ texts) (suc place) text there = rw (stands_among texts place text there) (or_true (bytes_eq text first))
  where
    or_true : (b : Bool) → (b || true) ≡ true
    or_true true = refl
    or_true false = refl

-- what a place leads to adds no text
pub led_stays : (texts : List (List ℕ)) (place : ℕ) (value : Value) → Leads texts (Some place) value → firsts_behind texts (value ∷ []) ≡ texts
led_stays texts place value leads = rw leads.2 (found_stays texts place leads.0 leads.1)
  where
    found_stays : (texts : List (List ℕ)) (place : ℕ) (text : List ℕ) → slice_get texts place ≡ Some text → with_text texts text ≡ texts
    found_stays texts place text there = rw (stands_among texts place text there) refl

led_behind : (texts : List (List ℕ)) (value : Value) (places : List (Option ℕ)) (values : List Value) → AreLed texts places values → AreLed (firsts_behind texts (value ∷ [])) places values
led_behind texts (Text bytes) places values led = led_with texts bytes places values led
led_behind texts Null places values led = led
led_behind texts (Flag flag) places values led = led
led_behind texts (Int number) places values led = led

pub leads_behind : (texts : List (List ℕ)) (value : Value) (place : Option ℕ) (other : Value) → Leads texts place other → Leads (firsts_behind texts (value ∷ [])) place other
leads_behind texts (Text bytes) place other leads = leads_with texts bytes place other leads
leads_behind texts Null place other leads = leads
leads_behind texts (Flag flag) place other leads = leads
leads_behind texts (Int number) place other leads = leads

-- a slot more is coded
pub coded_more : (values : List Value) (room : ℕ) (old new : DistinctTextsAt) (places : List ℕ) (place : ℕ) (value : Value) → AreCoded values room (coded_texts_at old places) → Finds old new place value →
    AreCoded (values ++ value ∷ []) room (coded_texts_at new (places ++ place ∷ []))
coded_more values room old new places place value are finds = record {
  texts = finds.texts ∙ ap (λ (t : List (List ℕ)). firsts_behind t (value ∷ [])) are.texts ∙ sym (firsts_more values value);
  places = rw (map-append held places (place ∷ []))
      (AllZip-push (Leads new.texts) (map held places) values (held place) value (rw finds.texts (led_behind old.texts value (map held places) values are.places)) finds.leads);
  bytes = finds.bytes ∙ are.bytes;
}

-- more texts have the bytes of both
pub bytes_more : (texts more : List (List ℕ)) → bytes_in (texts ++ more) ≡ bytes_in texts + bytes_in more
bytes_more texts more =
    ap (λ (values : List Value). length (flat_map text_bytes values)) (map-append Text texts more)
    ∙ ap length (flat_map-append text_bytes (map Text texts) (map Text more))
    ∙ length-append (flat_map text_bytes (map Text texts)) (flat_map text_bytes (map Text more))

-- a text that is new adds its bytes
pub bytes_new : (texts : List (List ℕ)) (text : List ℕ) → list_any (bytes_eq text) texts ≡ false → bytes_in (with_text texts text) ≡ bytes_in texts + length text
bytes_new texts text new = rw new (bytes_more texts (text ∷ []) ∙ ap (λ (xs : List ℕ). bytes_in texts + length xs) (append-nil text))

bytes_with : (texts : List (List ℕ)) (text : List ℕ) → bytes_in texts ≤ bytes_in (with_text texts text)
bytes_with texts text = by (list_any (bytes_eq text) texts) refl
  where
    by : (t : Bool) → list_any (bytes_eq text) texts ≡ t → bytes_in texts ≤ bytes_in (with_text texts text)
    by true e = rw e (omega arith)
    by false e = rw e (omega (arith, bytes_more texts (text ∷ [])))

pub few_with : (texts : List (List ℕ)) (text : List ℕ) → length (with_text texts text) ≤ length texts + 1
few_with texts text = by (list_any (bytes_eq text) texts) refl
  where
    by : (t : Bool) → list_any (bytes_eq text) texts ≡ t → length (with_text texts text) ≤ length texts + 1
    by true e = rw e (omega arith)
    by false e = rw e (omega (arith, length-append texts (text ∷ [])))

-- more values have no fewer bytes
pub bytes_behind : (values : List Value) (texts : List (List ℕ)) → bytes_in texts ≤ bytes_in (firsts_behind texts values)
bytes_behind [] texts = omega arith
bytes_behind (Text bytes ∷ values) texts = omega (arith, bytes_with texts bytes, bytes_behind values (with_text texts bytes))
bytes_behind (Null ∷ values) texts = bytes_behind values texts
bytes_behind (Flag flag ∷ values) texts = bytes_behind values texts
bytes_behind (Int number ∷ values) texts = bytes_behind values texts

-- there are no more texts than values
pub few_behind : (values : List Value) (texts : List (List ℕ)) → length (firsts_behind texts values) ≤ length texts + length values
few_behind [] texts = omega arith
few_behind (Text bytes ∷ values) texts = omega (arith, few_with texts bytes, few_behind values (with_text texts bytes))
few_behind (Null ∷ values) texts = omega (arith, few_behind values texts)
few_behind (Flag flag ∷ values) texts = omega (arith, few_behind values texts)
few_behind (Int number ∷ values) texts = omega (arith, few_behind values texts)
