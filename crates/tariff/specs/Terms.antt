-- R13, R26: the terms in force, and what a step of MDQ is worth under them.
use Rattle.std.specs.Prelude.{ℕ, ◌*◌, ◌/◌, Bool, ◌&&◌, leb}
use Rattle.tariff.specs.Structs.{Capacity, Dth, Terms}
use Rattle.tariff.specs.Bounds.{most_no_notice, most_design_day, most_retainage, most_rate}

-- R13: terms from their six numbers, in the order of an entry's words.
abbrev pub terms_from : ℕ → ℕ → ℕ → ℕ → ℕ → ℕ → Terms
terms_from nn dd s r demand commodity =
    record {
      no_notice = record { 0 = nn };
      design_day = record { 0 = dd };
      storage = record { 0 = s };
      retainage = r;
      demand_rate = demand;
      commodity_rate = commodity;
    }

-- R13: NN is at least 1 and at most DD and S, so nothing below divides by 0 and an MDDQ is at most its MDQ's blocks.
-- S of at most a hundred times NN keeps a BCQ within a hundred times its MDDQ.
unfoldable pub terms_in_range : Terms → Bool
terms_in_range t =
    (leb 1 t.no_notice.0 && leb t.no_notice.0 most_no_notice)
    && (leb t.no_notice.0 t.design_day.0 && leb t.design_day.0 most_design_day)
    && (leb t.no_notice.0 t.storage.0 && leb t.storage.0 (100 * t.no_notice.0))
    && leb t.retainage most_retainage
    && (leb t.demand_rate most_rate && leb t.commodity_rate most_rate)

-- R26: a step's blocks of 3,000 Dth, scaled from the design day to the no-notice quantity. R4: rounded down.
unfoldable pub mddq_of : Terms → ℕ → Dth
mddq_of t k = record { 0 = 3000 * k * t.no_notice.0 / t.design_day.0 }

-- R26: the storage that goes with an MDDQ, by the MDDQ already rounded. R4: rounded down once more.
unfoldable pub bcq_of : Terms → Dth → Dth
bcq_of t mddq = record { 0 = mddq.0 * t.storage.0 / t.no_notice.0 }

-- R26: both, for a step k.
unfoldable pub capacity_of : Terms → ℕ → Capacity
capacity_of t k = record { mddq = mddq_of t k; bcq = bcq_of t (mddq_of t k) }
