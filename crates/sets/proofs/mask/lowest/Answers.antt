use Rattle.std.proofs.Common.{rules}
use Rattle.sets.proofs.Masks.{empty_word, lowest_word}
use Rattle.sets.proofs.mask.lowest.Goals as goal

pub returns-then-m-eq0 : goal.returns-then-m-eq0
returns-then-m-eq0 c v = search (rules, empty_word)

pub returns-else-m-eq0 : goal.returns-else-m-eq0
returns-else-m-eq0 c = search (rules, lowest_word)
