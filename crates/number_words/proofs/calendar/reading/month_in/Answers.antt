use Rattle.number_words.proofs.Parts.{form_parts}
use Rattle.number_words.proofs.calendar.reading.month_in.Goals as goal

pub two_digits-requires-clause-digits : goal.two_digits-requires-clause-digits
two_digits-requires-clause-digits c = (form_parts c.args.text.now c.requires).month
