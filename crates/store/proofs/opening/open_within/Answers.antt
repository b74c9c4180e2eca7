-- An accepted opening has room for the words that are written, and its number of questions fits a word.
use Rattle.std.proofs.Common.{rules}
use Rattle.store.proofs.OpenAccepts.{fits_in, few_enough}
use Rattle.store.proofs.opening.open_within.Goals as goal

pub write_opened-requires : goal.write_opened-requires
write_opened-requires c = search (rules, fits_in, few_enough)
