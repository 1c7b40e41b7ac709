-- R25, R39, R56: the step of an MDQ, the step that waits for the month's end, and the runs that keep a small change waiting.
use Rattle.std.specs.Prelude.{ℕ, ◌+◌, ◌-◌, ◌*◌, ◌/◌, max, Bool, cond, ◌&&◌, ◌||◌, leb, ltb}
use Rattle.tariff.specs.Structs.{Dth, Step}

-- R25: the number of started blocks of 3,000 Dth. R4: the one quotient that is rounded up.
unfoldable pub step_of : Dth → ℕ
step_of mdq = (mdq.0 + 2999) / 3000

-- R25: a new account's step; nothing else is pending and no run has begun.
unfoldable pub first_step : Dth → Step
first_step mdq = record { k = step_of mdq; pending = step_of mdq; over = 0; under = 0 }

-- R39: beyond the step's upper edge, which the run over counts; on an edge m is neither over nor under.
unfoldable pub is_over : Step → Dth → Bool
is_over s m = ltb (3000 * s.k) m.0

-- R39: beyond its lower edge, which the run under counts; at k 1 that edge is 0, and nothing lies below it.
unfoldable pub is_under : Step → Dth → Bool
is_under s m = ltb m.0 (3000 * (s.k - 1))

-- R39: 500 Dth beyond an edge moves the step at once, less than that at the third measurement in a row (a run of 2 before it).
-- Below, the 500 is added to m, since a difference would stop at 0.
unfoldable pub crosses : Step → Dth → Bool
crosses s m =
    leb (3000 * s.k + 500) m.0
    || (is_over s m && leb 2 s.over)
    || leb (m.0 + 500) (3000 * (s.k - 1))
    || (is_under s m && leb 2 s.under)

-- R39: a step that moves ends both runs; otherwise nothing new is pending, and each run grows or falls to 0.
-- k itself waits for the month's end.
unfoldable pub measured : Step → Dth → Step
measured s m =
    record {
      k = s.k;
      pending = cond (crosses s m) (max 1 (step_of m)) s.k;
      over = cond (crosses s m) 0 (cond (is_over s m) (s.over + 1) 0);
      under = cond (crosses s m) 0 (cond (is_under s m) (s.under + 1) 0);
    }

-- R56: as the month closes the pending step takes force; runs go on from month to month.
unfoldable pub settled_step : Step → Step
settled_step s = record { k = s.pending; pending = s.pending; over = s.over; under = s.under }

-- R56: the step is about to fall, which shrinks the bank's size and so earns the excuse.
unfoldable pub falls : Step → Bool
falls s = ltb s.pending s.k
