-- Which item of the pages a number names.
use Rattle.std.proofs.Common.{◌≡◌, ℕ, zero, suc, ◌+◌, ◌*◌, ◌<◌, true, List, [], ◌∷◌, ◌++◌, length, drop, Some, refl, sym, ap, ◌∙◌, append_assoc, length-append, arith, rules, slice_get}
use Rattle.std.specs.List.{flat_map, list_all}
use Rattle.std.proofs.lemmas.Bool.{and_parts}
use Rattle.std.proofs.lemmas.List.{drop-append-le}
use Rattle.std.proofs.Math.Seq.{drop-append-add}
use Rattle.shared_pages.specs.Pages.{joined, is_full}
use Rattle.shared_pages.proofs.Lists.{slice_get-append_left, slice_get-append_right, all_at}

full_length : {X : Type 0} (page : List X) → is_full page ≡ true → length page ≡ 256
full_length page h = search rules

-- the items of full pages are 256 a page
pub length-full : {X : Type 0} (full : List (List X)) → list_all is_full full ≡ true → length (flat_map (λ page. page) full) ≡ length full * 256
length-full [] h = refl
length-full (page ∷ pages) h =
    let parts = and_parts (is_full page) (list_all is_full pages) h in
    omega (arith, length-append page (flat_map (λ page. page) pages), full_length page parts.0, length-full pages parts.1)

pub length-joined : {X : Type 0} (full : List (List X)) (last : List X) → list_all is_full full ≡ true →
    length (joined full last) ≡ length full * 256 + length last
length-joined full last h = length-append (flat_map (λ page. page) full) last ∙ ap (λ n. n + length last) (length-full full h)

-- a number below the last page names an item of a full one
pub in_page : {X : Type 0} (full : List (List X)) (last page : List X) (p r i : ℕ) → list_all is_full full ≡ true →
    slice_get full p ≡ Some page → r < 256 → i ≡ p * 256 + r → slice_get (joined full last) i ≡ slice_get page r
in_page [] last page p r i h at small e = cc
in_page (first ∷ pages) last page zero r i h at small e =
    let parts = and_parts (is_full first) (list_all is_full pages) h in
    let same : first ≡ page = cc in
    let long = full_length first parts.0 in
    let here : i ≡ r = omega (arith, e) in
    rw (here, append_assoc first (flat_map (λ page. page) pages) last)
    (slice_get-append_left first (joined pages last) r (omega (arith, long, small)) ∙ ap (λ page. slice_get page r) same)
in_page (first ∷ pages) last page (suc p) r i h at small e =
    let parts = and_parts (is_full first) (list_all is_full pages) h in
    let long = full_length first parts.0 in
    rw (append_assoc first (flat_map (λ page. page) pages) last)
    (slice_get-append_right first (joined pages last) (p * 256 + r) i (omega (arith, e, long))
    ∙ in_page pages last page p r (p * 256 + r) parts.1 at small refl)

-- a number past the full pages names an item of the last one
pub in_last : {X : Type 0} (full : List (List X)) (last : List X) (i r : ℕ) → list_all is_full full ≡ true →
    i ≡ length full * 256 + r → slice_get (joined full last) i ≡ slice_get last r
in_last full last i r h e =
    slice_get-append_right (flat_map (λ page. page) full) last r i (omega (arith, e, length-full full h))

-- a page among the full ones has 256 items
pub full_at : {X : Type 0} (full : List (List X)) (page : List X) (p : ℕ) → list_all is_full full ≡ true →
    slice_get full p ≡ Some page → length page ≡ 256
full_at full page p h at = full_length page (all_at is_full full page p h at)

-- what stands from a number on that names an item of a full page: the rest of that page, and what comes after it
pub from_page : {X : Type 0} (full : List (List X)) (last page : List X) (p r i : ℕ) → list_all is_full full ≡ true →
    slice_get full p ≡ Some page → r < 256 → i ≡ p * 256 + r → drop i (joined full last) ≡ drop r page ++ joined (drop (suc p) full) last
from_page [] last page p r i h at small e = cc
from_page (first ∷ pages) last page zero r i h at small e =
    let parts = and_parts (is_full first) (list_all is_full pages) h in
    let same : first ≡ page = cc in
    let long = full_length first parts.0 in
    let here : i ≡ r = omega (arith, e) in
    rw (here, append_assoc first (flat_map (λ page. page) pages) last)
    (drop-append-le r first (joined pages last) (omega (arith, long, small)) ∙ ap (λ page. drop r page ++ joined pages last) same)
from_page (first ∷ pages) last page (suc p) r i h at small e =
    let parts = and_parts (is_full first) (list_all is_full pages) h in
    let long = full_length first parts.0 in
    let place : i ≡ length first + (p * 256 + r) = omega (arith, e, long) in
    rw (place, append_assoc first (flat_map (λ page. page) pages) last)
    (drop-append-add first (joined pages last) (p * 256 + r) ∙ from_page pages last page p r (p * 256 + r) parts.1 at small refl)

-- what stands from a number on that is past the full pages
pub from_last : {X : Type 0} (full : List (List X)) (last : List X) (i r : ℕ) → list_all is_full full ≡ true →
    i ≡ length full * 256 + r → drop i (joined full last) ≡ drop r last
from_last full last i r h e =
    let place : i ≡ length (flat_map (λ page. page) full) + r = omega (arith, e, length-full full h) in
    rw place (drop-append-add (flat_map (λ page. page) full) last r)

-- pages after full ones are full
pub full_behind : {X : Type 0} (n : ℕ) (full : List (List X)) → list_all is_full full ≡ true → list_all is_full (drop n full) ≡ true
full_behind zero full h = h
full_behind (suc n) [] h = h
full_behind (suc n) (page ∷ pages) h = full_behind n pages (and_parts (is_full page) (list_all is_full pages) h).1
