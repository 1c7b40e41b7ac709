-- The first refusal of the entries that are left is that of all, as those before them passed.
use Rattle.std.proofs.Common.{◌≡◌, ◌+◌, drop}
use Rattle.archive.specs.Entries.{first_refusal, numbers_by}
use Rattle.archive.proofs.entries.first_fault.Given as goal

abbrev pub invariant-loop-k : goal.invariant-loop-k
invariant-loop-k g l = first_refusal (l.first + l.k) (numbers_by (g.A.Asks.number l.asks) (drop (l.k) l.entries)) ≡ first_refusal l.first (numbers_by (g.A.Asks.number l.asks) l.entries)
