-- What a posting answers: one number, and a report for each of the sixteen accounts.
use Rattle.std.specs.Prelude.{ℕ, pos, cond, eqb, replicate}
use Rattle.ledger.specs.Structs.{Answer, Ledger, Mills, Posted, Quantity, Report, Units}

-- R21: what a closing reports of an account.
abbrev pub report : ℕ → Units → Quantity → Mills → Report
report mask cash forfeit bill = record { mask = mask; cash = cash; forfeit = forfeit; bill = bill }

-- R21: the report of an account of which there is nothing to tell.
unfoldable pub quiet : Report
quiet = report 0 (record { 0 = pos 0 }) (record { 0 = 0 }) (record { 0 = pos 0 })

-- R21: a number and sixteen empty reports, which is every answer but that of an accepted closing.
unfoldable pub plain : ℕ → Answer
plain n = record { number = n; reports = replicate 16 quiet }

-- R21: a refusal hands back the ledger as it came; that is why it may be struck from any list (R65).
unfoldable pub refused : Ledger → ℕ → Posted
refused l n = record { answer = plain n; ledger = l }

-- R21: the next ledger counts only with number 0.
unfoldable pub settle : Ledger → ℕ → Ledger → Posted
settle l n next = record { answer = plain n; ledger = cond (eqb n 0) next l }
