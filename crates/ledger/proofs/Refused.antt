-- No refusal has the number 0, which is acceptance.
use mathlib.Core.Path.{◌≡◌, refl}
use mathlib.Core.Bool.{false}
use lib.Dec.{eqb}
use Rattle.ledger.specs.Refusals.{number}
use Rattle.ledger.specs.declared.refusals.Refusal.{Refusal}
use Rattle.ledger.specs.declared.refusals.Refusal.TheVariants as refusal

pub refuses : (f : Refusal) → eqb (number f) 0 ≡ false
unfolding number
refuses refusal.WrongLength = refl
refuses refusal.NoSuchKind = refl
refuses refusal.NoSuchDate = refl
refuses refusal.NoSuchAccount = refl
refuses refusal.UnusedSet = refl
refuses refusal.OutOfRange = refl
refuses refusal.WrongTransfer = refl
refuses refusal.LedgerOutOfRange = refl
refuses refusal.NotBegun = refl
refuses refusal.OtherDay = refl
refuses refusal.Retired = refl
refuses refusal.WrongDay = refl
refuses refusal.NotOpen = refl
refuses refusal.StaysOnFbs = refl
refuses refusal.AlreadyTold = refl
refuses refusal.Incomplete = refl
refuses refusal.PastLimit = refl
refuses refusal.LeavesRange = refl
refuses refusal.PassedHoliday = refl
refuses refusal.HolidayNamed = refl
refuses refusal.NoDayLeft = refl
