use Rattle.std.proofs.Common.{◌≡◌, ℕ, true, false, ℤ, pos, ◌<ℤ◌, ◌≤ℤ◌, to_z, of_z, w16, to_z-of_z, unsigned_abs, length, ap, sym, subst, ◌∙◌, arith}
use Rattle.jiff_core.specs.Calendar.{days_from_civil, IsEpochDay}
use Rattle.jiff_core.specs.Date.{epoch_day}
use Rattle.jiff_core.proofs.SignedLemmas.{signed_arith, signed_casts, fits_between}
use Rattle.number_words.specs.DateText.{has_date}
use Rattle.number_words.proofs.Numbers.{early_is_not_shown, shown_is_epoch_day, false_if_not}
use Rattle.number_words.proofs.Printed.{natural, is_shown, is_as_date, reads_back, is_no_date, no_date, same_number}
use Rattle.number_words.proofs.calendar.printing.near_date.Goals as goal
use Rattle.number_words.proofs.calendar.printing.near_date.Goals.{in_default-via-in-Ok+else-date-gt0, in_default-via-in_default}

pub returns-in-Ok : goal.returns-in-Ok
returns-in-Ok c =
    let late : pos 0 <ℤ c.in-Ok.date.year = omega (arith, signed_casts) in
    let again : to_z w16 (of_z w16 c.in-Ok.date.year) ≡ c.in-Ok.date.year
    = to_z-of_z (fits_between w16 c.in-Ok.date.year (omega (arith, signed_arith), omega (arith, signed_arith))) in
    let written : ℕ = unsigned_abs (to_z w16 (of_z w16 c.in-Ok.date.year)) in
    let same : c.in-Ok.date.year ≡ pos written
    = natural c.in-Ok.date.year late ∙ ap (λ (year : ℤ). pos (unsigned_abs year)) (sym again) in
    let shown = is_shown c.in-Ok.date written same late in
    let number : epoch_day c.in-Ok.date ≡ c.args.day = c.in-Ok.ensures.value ∙ same_number c.args.day c.from.result c.ranges.day c.from.ensures in
    let day : days_from_civil (pos written) c.in-Ok.date.month c.in-Ok.date.day ≡ c.args.day
    = ap (λ (year : ℤ). days_from_civil year c.in-Ok.date.month c.in-Ok.date.day) (sym same) ∙ number in
    record {
      exact = is_as_date written c.in-Ok.date.month c.in-Ok.date.day c.args.day c.digits_of.result.bytes shown day c.digits_of.ensures;
      long = ap length c.digits_of.ensures;
      reads_back = reads_back written c.in-Ok.date.month c.in-Ok.date.day c.args.day shown day;
    }

pub returns-in_default : goal.returns-in_default
returns-in_default c =
    let number = same_number c.args.day c.from.result c.ranges.day c.from.ensures in
    let not : has_date c.args.day ≡ false = elim c.in_default.branch [
      | in_default-via-in-Ok+else-date-gt0 w ↦
          let same : epoch_day w.in-Ok.date ≡ c.args.day = w.in-Ok.ensures.value ∙ number in
          let early : w.in-Ok.date.year ≤ℤ pos 0 = omega (arith, signed_casts, w.if-date-gt0.false) in
          ap has_date (sym same) ∙ early_is_not_shown w.in-Ok.date early
      | in_default-via-in_default w ↦ false_if_not (has_date c.args.day) (λ h.
          let ok : false ≡ true = w.in_default.ensures.succeeds.1 (subst IsEpochDay (sym number) (shown_is_epoch_day c.args.day h)) in cc)
    ] in
    record {
      exact = is_no_date c.args.day not;
      long = tt;
      reads_back = no_date c.args.day not;
    }
