-- Rows that the parts of a conjunction keep, one after another.
use Rattle.std.proofs.Common.{◌≡◌, ℕ, ◌+◌, ◌<◌, Bool, true, false, ◌&&◌, List, map, get_or, refl, sym, ap, ◌∙◌, arith}
use Rattle.std.specs.List.{range_with_len}
use Rattle.std.proofs.lemmas.List.FromFn.{length-map-range_with_len, get_or-map-range_with_len}
use Rattle.scan_base.specs.declared.truth.Truth.{Truth}
use Rattle.scan_base.specs.declared.truth.Truth.TheVariants.{True, False, Unknown}
use Rattle.scan_base.specs.Truth.{truth_and, keeps}
use Rattle.kernels.specs.KeptRows.{bit_among, Keeps}

keeps_and : (b : Bool) (s t : Truth) → ((b && keeps s) && keeps t) ≡ (b && keeps (truth_and s t))
keeps_and false s t = refl
keeps_and true True True = refl
keeps_and true True False = refl
keeps_and true True Unknown = refl
keeps_and true False True = refl
keeps_and true False False = refl
keeps_and true False Unknown = refl
keeps_and true Unknown True = refl
keeps_and true Unknown False = refl
keeps_and true Unknown Unknown = refl

-- two parts
pub keeps_both : (f g : ℕ → Truth) (from len : ℕ) (olds mids news : List ℕ) →
    Keeps (map f (range_with_len from len)) olds mids → Keeps (map g (range_with_len from len)) mids news →
    Keeps (map (λ row. truth_and (f row) (g row)) (range_with_len from len)) olds news
keeps_both f g from len olds mids news one other = record {
  long = other.long ∙ one.long;
  each = λ row lt.
      let both : ℕ → Truth = λ r. truth_and (f r) (g r) in
      let within : row < len = omega (arith, lt, length-map-range_with_len both from len) in
      let at_f : get_or (map f (range_with_len from len)) row Unknown ≡ f (from + row) = get_or-map-range_with_len f from len row (from + row) Unknown within refl in
      let at_g : get_or (map g (range_with_len from len)) row Unknown ≡ g (from + row) = get_or-map-range_with_len g from len row (from + row) Unknown within refl in
      let at_both : get_or (map both (range_with_len from len)) row Unknown ≡ both (from + row) = get_or-map-range_with_len both from len row (from + row) Unknown within refl in
      other.each row (omega (arith, within, length-map-range_with_len g from len))
      ∙ ap (λ b. b && keeps (get_or (map g (range_with_len from len)) row Unknown)) (one.each row (omega (arith, within, length-map-range_with_len f from len)))
      ∙ ap (λ t. (bit_among olds row && keeps t) && keeps (get_or (map g (range_with_len from len)) row Unknown)) at_f
      ∙ ap (λ t. (bit_among olds row && keeps (f (from + row))) && keeps t) at_g
      ∙ keeps_and (bit_among olds row) (f (from + row)) (g (from + row))
      ∙ sym (ap (λ t. bit_among olds row && keeps t) at_both);
  clear = λ row off. other.clear row (one.clear row off);
}

-- where no row is left, none is cleared
pub keeps_none : (truths : List Truth) (words : List ℕ) → ((row : ℕ) → bit_among words row ≡ false) → Keeps truths words words
keeps_none truths words none = record {
  long = refl;
  each = λ row lt. none row ∙ sym (ap (λ b. b && keeps (get_or truths row Unknown)) (none row));
  clear = λ row off. off;
}
