-- Refusals and their numbers.
use Rattle.std.specs.Prelude.{◌≡◌, ℕ, ⊤, Result, Ok, Err, MatchResult}
use Rattle.ledger.specs.Structs.{Account, Change}
use Rattle.ledger.specs.declared.refusals.Refusal.{Refusal}
use Rattle.ledger.specs.declared.refusals.Refusal.TheVariants as refusal

-- R15, R22, R23 and the kinds' rules: the number of a refusal.
unfoldable pub number : Refusal → ℕ
number refusal.WrongLength = 1
number refusal.NoSuchKind = 2
number refusal.NoSuchDate = 3
number refusal.NoSuchAccount = 4
number refusal.UnusedSet = 5
number refusal.OutOfRange = 6
number refusal.WrongTransfer = 7
number refusal.LedgerOutOfRange = 20
number refusal.NotBegun = 21
number refusal.OtherDay = 22
number refusal.Retired = 36
number refusal.WrongDay = 23
number refusal.NotOpen = 24
number refusal.StaysOnFbs = 25
number refusal.AlreadyTold = 26
number refusal.Incomplete = 27
number refusal.PastLimit = 28
number refusal.LeavesRange = 29
number refusal.PassedHoliday = 33
number refusal.HolidayNamed = 34
number refusal.NoDayLeft = 35

-- R15: what a check answers for a number: nothing for 0, else the refusal that has it.
abbrev pub Unless : Result ⊤ Refusal → ℕ → Type 0
Unless r n = MatchResult r (λ _. n ≡ 0) (λ f. n ≡ number f)

-- R23: what a kind answers for a change: the account where its number is 0, else the refusal that has it.
abbrev pub Makes : Result Account Refusal → Change → Type 0
Makes r c = MatchResult r (λ a. (c.number ≡ 0) × (c.account ≡ a)) (λ f. c.number ≡ number f)

-- R21: what an answer says of a result: 0, or the refusal's number.
abbrev pub number_of : Result ⊤ Refusal → ℕ
number_of (Ok _) = 0
number_of (Err f) = number f
