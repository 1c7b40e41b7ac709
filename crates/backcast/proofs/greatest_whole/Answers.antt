-- Each answer is the definition's by its two tests; the quotient lies where a greatest whole number must, and two of these are not above each other.
use native.Mathlib.Nat.{le_antisymm}
use Rattle.backcast.specs.Answers.{back_cast, whole_part}
use Rattle.backcast.specs.GreatestWhole.{EveryAnswer, OnlyOne}
use Rattle.backcast.specs.Load.{load_of}
use Rattle.backcast.proofs.WholeParts.{greatest, quantity, whole_le}
use Rattle.backcast.proofs.greatest_whole.Goals as goal

every_answer : EveryAnswer
unfolding back_cast
every_answer curve f =
    record {
      no_numbers = λ n. rw n;
      no_quantity = λ n q. rw (n, q);
      quantity = λ n q. let is = quantity (load_of curve f) q in (whole_part (load_of curve f), (rw (n, q), whole_le (load_of curve f) is, greatest (load_of curve f) is));
    }

only_one : OnlyOne
only_one x m n g h = le_antisymm (h.no_greater m g.not_above) (g.no_greater n h.not_above)

pub returns-clause-every_answer : goal.returns-clause-every_answer
returns-clause-every_answer c = every_answer

pub returns-clause-only_one : goal.returns-clause-only_one
returns-clause-only_one c = only_one
