-- Keys that are compared by the numbers of their texts.
use Rattle.std.proofs.Common.{◌≡◌, ◌==◌, ℕ, Bool, true, false, List, [], ◌∷◌, get_or, map, pos, refl, sym, ap, subst, ◌∙◌}
use Rattle.std.specs.Prelude.{IfOk, OnOk, Option, Some, Result, Ok, Err}
use borrow.Author.Tests.{eq-eqb}
use Rattle.std.specs.declared.alloc.AllocError.{AllocError}
use Rattle.std.specs.List.{position_or_len}
use Rattle.indexmap.specs.IndexSet.{insert_key}
use Rattle.scan_base.specs.declared.value.Value.{Value}
use Rattle.scan_base.specs.declared.value.Value.TheVariants.{Int}
use Rattle.typed_plan.specs.GroupedRows.{same_key}
use Rattle.first_rows.specs.declared.key.RowKey.{RowKey}
use Rattle.first_rows.specs.declared.numbered_keys.NumberedKey.{NumberedKey}
use Rattle.first_rows.specs.declared.texts.TextNumbers.{TextNumbers}
use Rattle.first_rows.specs.Firsts.{AreNumbered, HasNumber, IsNumbered}
use Rattle.first_rows.specs.Keys.{either_way}
use Rattle.first_rows.proofs.Keys.{key_self, key_sound}
use Rattle.first_rows.specs.Parts.{parts_self, parts_sound, same_parts}
use Rattle.first_rows.specs.NumberedKeys.{Puts, blanked, coded, first_of, rest, rest_of}
use Rattle.first_rows.specs.Numbers.{IsNumber, Stay}
use Rattle.first_rows.specs.RowKeys.{key_of, same_first}
use Rattle.first_rows.proofs.Numbering.{number_one, number_only, number_stays}
use Rattle.first_rows.proofs.Places.{all_inserted, insert_same, place_same}

-- values are compared whole where no text has a number
all_whole : (texts : ℕ) → (texts == 0) ≡ true → (values : List Value) → map (rest texts) values ≡ map Some values
all_whole texts none [] = refl
all_whole texts none (value ∷ values) =
    let one : rest texts value ≡ Some value = rw none refl in
    ap (λ z. z ∷ map (rest texts) values) one ∙ ap (λ zs. Some value ∷ zs) (all_whole texts none values)

-- and without their long texts where these have one
all_blank : (texts : ℕ) → (texts == 0) ≡ false → (values : List Value) → map (rest texts) values ≡ map blanked values
all_blank texts some [] = refl
all_blank texts some (value ∷ values) =
    let one : rest texts value ≡ blanked value = rw some refl in
    ap (λ z. z ∷ map (rest texts) values) one ∙ ap (λ zs. blanked value ∷ zs) (all_blank texts some values)

-- values that are the same whole are the same
whole_one : (a b : List Value) → map Some a ≡ map Some b → a ≡ b
whole_one [] [] e = refl
whole_one [] (y ∷ ys) e = cc
whole_one (x ∷ xs) [] e = cc
whole_one (x ∷ xs) (y ∷ ys) e =
    let first : x ≡ y = cc in
    let more : map Some xs ≡ map Some ys = cc in
    ap (λ (z : Value). z ∷ xs) first ∙ ap (λ (zs : List Value). y ∷ zs) (whole_one xs ys more)

-- two keys without a number of texts, of which the same is compared
same_whole : (texts : ℕ) → (texts == 0) ≡ true → (a b : List Value) → map (rest texts) a ≡ map (rest texts) b → a ≡ b
same_whole texts none a b e = whole_one a b (sym (all_whole texts none a) ∙ e ∙ all_whole texts none b)

-- two keys with one number of texts, of which the same is compared next to it
same_rest : (numbers : TextNumbers) (texts : ℕ) (a b : List Value) → map (rest texts) a ≡ map (rest texts) b → IsNumber numbers 0 a texts → IsNumber numbers 0 b texts → a ≡ b
same_rest numbers texts a b e one two = by (texts == 0) refl
  where
    by : (t : Bool) → (texts == 0) ≡ t → a ≡ b
    by true h = same_whole texts h a b e
    by false h = (number_one numbers 0 0 a b texts (λ none. none, λ none. none) (sym (all_blank texts h a) ∙ e ∙ all_blank texts h b) one two).1

-- keys that are compared as the same are the same
coded_sound : (are : Bool) (numbers : TextNumbers) (a b : NumberedKey) → IsNumbered are numbers a → IsNumbered are numbers b → coded a ≡ coded b → key_of (first_of a) ≡ key_of (first_of b)
coded_sound are numbers a b one two e = by are one two
  where
    texts : a.texts ≡ b.texts
    texts = cc

    turned : map (rest a.texts) (key_of (first_of a)) ≡ map (rest a.texts) (key_of (first_of b))
    turned = let rests : rest_of a ≡ rest_of b = cc in rests ∙ ap (λ (n : ℕ). map (rest n) (key_of (first_of b))) (sym texts)

    by : (are : Bool) → IsNumbered are numbers a → IsNumbered are numbers b → key_of (first_of a) ≡ key_of (first_of b)
    by true one two =
        same_rest numbers a.texts (key_of (first_of a)) (key_of (first_of b)) turned one (subst (IsNumber numbers 0 (key_of (first_of b))) (sym texts) two)
    by false one two = same_whole a.texts (eq-eqb _ _ one) (key_of (first_of a)) (key_of (first_of b)) turned

-- and keys that are the same are compared as the same
coded_alike : (are : Bool) (numbers : TextNumbers) (a b : NumberedKey) → IsNumbered are numbers a → IsNumbered are numbers b → key_of (first_of a) ≡ key_of (first_of b) → coded a ≡ coded b
coded_alike are numbers a b one two e = all (texts are one two)
  where
    texts : (are : Bool) → IsNumbered are numbers a → IsNumbered are numbers b → a.texts ≡ b.texts
    texts true one two = number_only numbers 0 (key_of (first_of b)) a.texts b.texts (subst (λ (values : List Value). IsNumber numbers 0 values a.texts) e one) two
    texts false one two = one ∙ sym two

    all : a.texts ≡ b.texts → coded a ≡ coded b
    all same = ap (λ (n : ℕ). Some (Int (pos n)) ∷ map (rest n) (key_of (first_of a))) same ∙ ap (λ (values : List Value). Some (Int (pos b.texts)) ∷ map (rest b.texts) values) e

pub same_coded : (are : Bool) (numbers : TextNumbers) (a b : NumberedKey) → IsNumbered are numbers a → IsNumbered are numbers b → same_parts (coded a) (coded b) ≡ same_first (first_of a) (first_of b)
same_coded are numbers a b one two =
    either_way (same_parts (coded a) (coded b)) (same_first (first_of a) (first_of b))
    (λ h. subst (λ (key : List Value). same_key (key_of (first_of a)) key ≡ true) (coded_sound are numbers a b one two (parts_sound _ _ h)) (key_self (key_of (first_of a))))
    (λ h. subst (λ (key : List (Option Value)). same_parts (coded a) key ≡ true) (coded_alike are numbers a b one two (key_sound _ _ h)) (parts_self (coded a)))

-- a key is inserted
pub inserts : (are : Bool) (numbers : TextNumbers) (keys : List NumberedKey) (key : NumberedKey) → AreNumbered are numbers keys → IsNumbered are numbers key →
    map first_of (insert_key (λ a b. same_parts (coded a) (coded b)) keys key) ≡ insert_key same_first (map first_of keys) (first_of key)
inserts are numbers keys key all one =
    insert_same (IsNumbered are numbers) (λ a b. same_parts (coded a) (coded b)) same_first first_of keys key
    (λ other two. same_coded are numbers key other one two) all

-- and has its place
pub places : (are : Bool) (numbers : TextNumbers) (keys : List NumberedKey) (key : NumberedKey) → AreNumbered are numbers keys → IsNumbered are numbers key →
    position_or_len (λ b. same_parts (coded key) (coded b)) keys ≡ position_or_len (same_first (first_of key)) (map first_of keys)
places are numbers keys key all one =
    place_same (IsNumbered are numbers) (λ b. same_parts (coded key) (coded b)) (same_first (first_of key)) first_of keys
    (λ other two. same_coded are numbers key other one two) all

-- keys keep their numbers
pub all_stay : (are : Bool) (before after : TextNumbers) (keys : List NumberedKey) → Stay before after → AreNumbered are before keys → AreNumbered are after keys
all_stay are before after keys stay all = λ k d low. one are (get_or keys k d) (all k d low)
  where
    one : (are : Bool) (key : NumberedKey) → IsNumbered are before key → IsNumbered are after key
    one true key is = number_stays before after 0 (key_of (first_of key)) key.texts stay is
    one false key is = is

-- ---- a key that is put

-- a key of a row, and of the number of its texts
pub numbered_of : (are : Bool) (numbers : TextNumbers) (key : NumberedKey) (first : RowKey) (texts : ℕ) → first_of key ≡ first → key.texts ≡ texts →
    HasNumber are numbers first texts → IsNumbered are numbers key
numbered_of are numbers key first texts of same has =
    subst (λ (row : RowKey). HasNumber are numbers row key.texts) (sym of) (subst (λ (n : ℕ). HasNumber are numbers first n) (sym same) has)

pub put_all : (are : Bool) (numbers : TextNumbers) (keys : List NumberedKey) (key : NumberedKey) (result : Result ℕ AllocError) (after : List NumberedKey) →
    AreNumbered are numbers keys → IsNumbered are numbers key → Puts keys key result after → AreNumbered are numbers after
put_all are numbers keys key (Ok place) after all one put =
    subst (AreNumbered are numbers) (sym put.0) (all_inserted (IsNumbered are numbers) (λ a b. same_parts (coded a) (coded b)) keys key all one)
put_all are numbers keys key (Err _) after all one put = subst (AreNumbered are numbers) (sym put) all

module _ (are : Bool) (numbers : TextNumbers) (keys : List NumberedKey) (key : NumberedKey) (firsts : List RowKey) (first : RowKey) where
  pub put_inserts : (result : Result ℕ AllocError) (after : List NumberedKey) → AreNumbered are numbers keys → IsNumbered are numbers key →
      map first_of keys ≡ firsts → first_of key ≡ first → Puts keys key result after → OnOk result (map first_of after ≡ insert_key same_first firsts first)
  put_inserts (Ok place) after all one is of put =
      ap (map first_of) put.0 ∙ inserts are numbers keys key all one ∙ ap (λ (rows : List RowKey). insert_key same_first rows (first_of key)) is
      ∙ ap (insert_key same_first firsts) of
  put_inserts (Err _) after all one is of put = tt

  pub put_places : (result : Result ℕ AllocError) (after : List NumberedKey) → AreNumbered are numbers keys → IsNumbered are numbers key →
      map first_of keys ≡ firsts → first_of key ≡ first → Puts keys key result after → IfOk result (λ place. place ≡ position_or_len (same_first first) firsts)
  put_places (Ok place) after all one is of put =
      put.1 ∙ places are numbers keys key all one ∙ ap (λ (rows : List RowKey). position_or_len (same_first (first_of key)) rows) is
      ∙ ap (λ (row : RowKey). position_or_len (same_first row) firsts) of
  put_places (Err _) after all one is of put = tt
