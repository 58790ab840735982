use Rattle.std.proofs.Common.{arith}
use Rattle.number_words.proofs.MomentForms.{clock_parts}
use Rattle.number_words.proofs.moment.reading.clock_of.Goals as goal

pub two_digits-hour-requires-clause-digits : goal.two_digits-hour-requires-clause-digits
two_digits-hour-requires-clause-digits c = (clock_parts c.args.text.now c.requires).hour

pub two_digits-minute-requires-clause-digits : goal.two_digits-minute-requires-clause-digits
two_digits-minute-requires-clause-digits c = (clock_parts c.args.text.now c.requires).minute

pub two_digits-second-requires-clause-digits : goal.two_digits-second-requires-clause-digits
two_digits-second-requires-clause-digits c = (clock_parts c.args.text.now c.requires).second

pub two_digits-hour-requires-clause-within : goal.two_digits-hour-requires-clause-within
two_digits-hour-requires-clause-within c = let long = (clock_parts c.args.text.now c.requires).long in omega arith

pub two_digits-minute-requires-clause-within : goal.two_digits-minute-requires-clause-within
two_digits-minute-requires-clause-within c = let long = (clock_parts c.args.text.now c.requires).long in omega arith

pub two_digits-second-requires-clause-within : goal.two_digits-second-requires-clause-within
two_digits-second-requires-clause-within c = let long = (clock_parts c.args.text.now c.requires).long in omega arith
