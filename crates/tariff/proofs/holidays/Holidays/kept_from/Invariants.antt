-- Those passed are stored anew, without those before the date.
use Rattle.std.proofs.Common.{◌≡◌, min, length, take}
use Rattle.tariff.specs.Holidays.{held_dates, kept_from, stored_dates}
use Rattle.tariff.proofs.holidays.Holidays.kept_from.Given as goal

abbrev pub invariant-loop-h : goal.invariant-loop-h
invariant-loop-h l =
    (l.h-items ≡ held_dates l.fn.self) × (length l.h-items ≡ min l.fn.self.count 16) × (l.next ≡ stored_dates (kept_from l.fn.first (take l.h-index l.h-items)))
