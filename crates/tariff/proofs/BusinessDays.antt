-- The measurement day is found by looking at one day after the other, so each law of it is one of that search: what it finds is the first, and two
-- lists of holidays find the same where they agree on the days looked at.
use Prim.Native.Nat.{ℕ, zero, suc, ◌+◌, ◌-◌, ◌≤◌, ◌<◌}
use mathlib.Core.Path.{◌≡◌, refl, sym, ap, ◌∙◌}
use mathlib.Core.Bool.{Bool, true, false, cond, not, ◌&&◌, ◌||◌, and-false, and-true, or-false, or-true, true≢false, false≢true}
use mathlib.Core.List.{List, [], ◌∷◌, ◌++◌}
use native.Mathlib.Omega.{arith}
use lib.Dec.{eqb, leb, ltb}
use Rattle.std.specs.Option.{MatchOption, unwrap_or}
use Rattle.std.specs.Prelude.{Option, Some, None}
use lib.ListN.{length, length-append, length-take}
use borrow.Author.Tests.{eqb-true, eqb-false, eq-eqb, ne_eqb, le-leb, le-ltb, leb-true, ltb-true, ltb-false, lt-ltb, not-true}
use Rattle.tariff.specs.Months.{same_month}
use Rattle.tariff.specs.Dates.{before, day_number, month_length, real, same_date, weekday}
use Rattle.tariff.specs.Holidays.{all_leave_one, business_day, date_of, first_business_day, held_dates, holidays_in_range, kept_from, leaves_one, measurement_day, named, on_measurement_day, stored_dates}
use Rattle.tariff.specs.MeasurementDays.{EveryMonth, FindsFirst, IsMeasurementDay, MonthExists, MovesOn, NextBusinessDay, OnlyOne, PlainWithoutHolidays, plain_day}
use Rattle.tariff.specs.Structs.{Date, Holidays, Month}
use Rattle.tariff.proofs.Bools.{and_left, and_right, or_left, or_right, parts}
use Rattle.tariff.proofs.Calendar.{month_length_ge}
use Rattle.tariff.proofs.HeldDates.{held_stored, kept_length, stored_count}
use Rattle.tariff.proofs.Ranges.{date_bounds}

-- ---- the search

-- what a search over n days from a day on found, among days that work or not
record Search (works : ℕ → Bool) (day n f : ℕ) : Type 0 where
  none : f ≡ 0 → (k : ℕ) → day ≤ k → k < day + n → works k ≡ false
  start : (f ≡ 0 → ⊥) → (day ≤ f) × (f < day + n)
  found : (f ≡ 0 → ⊥) → works f ≡ true
  is_first : (k : ℕ) → day ≤ k → k < f → works k ≡ false

module _ (hs : List Date) (year : ℕ) (m : Month) where
  abbrev works : ℕ → Bool
  works k = business_day hs (date_of year m k)

  abbrev first : ℕ → ℕ → ℕ
  first day n = first_business_day hs year m day n

  searched : (day n : ℕ) → 1 ≤ day → Search works day n (first day n)
  unfolding first_business_day
  searched day zero h = record { none = λ _ k l r. absurd (omega arith); start = λ z. absurd (z refl); found = λ z. absurd (z refl); is_first = λ k l r. absurd (omega arith) }
  searched day (suc n) h = go (works day) refl (searched (day + 1) n (omega arith))
    where
      go : (t : Bool) → works day ≡ t → Search works (day + 1) n (first (day + 1) n) → Search works day (suc n) (cond (works day) day (first (day + 1) n))
      go true e s = rw e (record { none = λ z k l r. absurd (omega arith); start = λ _. (omega arith, omega arith); found = λ _. e; is_first = λ k l r. absurd (omega arith) })
      go false e s =
          rw e
          (record {
            none = λ z k l r. past k l (λ q. s.none z k q (omega arith));
            start = λ z. let at = s.start z in (omega arith, omega arith);
            found = s.found;
            is_first = λ k l r. past k l (λ q. s.is_first k q r);
          })
        where
          past : (k : ℕ) → day ≤ k → (day + 1 ≤ k → works k ≡ false) → works k ≡ false
          past k l f = here (eqb k day) refl
            where
              here : (u : Bool) → eqb k day ≡ u → works k ≡ false
              here true q = ap works (eqb-true k day q) ∙ e
              here false q = f (omega (arith, eqb-false k day q))

  -- nothing else is the first
  only : (day n f t : ℕ) → Search works day n f → day ≤ t → t < day + n → works t ≡ true → ((k : ℕ) → day ≤ k → k < t → works k ≡ false) → f ≡ t
  only day n f t s l r w before-t = zero_or (eqb f 0) refl
    where
      less_or : (f ≡ 0 → ⊥) → (u v : Bool) → ltb f t ≡ u → ltb t f ≡ v → f ≡ t
      less_or z true v p q = absurd (true≢false (sym (s.found z) ∙ before-t f (s.start z).0 (ltb-true f t p)))
      less_or z false true p q = absurd (true≢false (sym w ∙ s.is_first t l (ltb-true t f q)))
      less_or z false false p q = omega (arith, ltb-false f t p, ltb-false t f q)

      zero_or : (u : Bool) → eqb f 0 ≡ u → f ≡ t
      zero_or true p = absurd (true≢false (sym w ∙ s.none (eqb-true f 0 p) t l r))
      zero_or false p = less_or (eqb-false f 0 p) (ltb f t) (ltb t f) refl refl

-- ---- the measurement day

module _ (hs : List Date) (year : ℕ) (m : Month) where
  abbrev last : ℕ
  last = month_length year m

  month_searched : Search (works hs year m) 25 (last - 24) (measurement_day hs year m)
  unfolding measurement_day
  month_searched = searched hs year m 25 (last - 24) (omega arith)

pub finds_first : FindsFirst
finds_first hs year m =
    let s = month_searched hs year m in
    record {
      found = λ z. record { late = (s.start z).0; within = (let at = s.start z in omega arith); works = s.found z; is_first = s.is_first };
      none = λ z k l r. s.none z k l (omega arith);
    }

pub only_one : OnlyOne
only_one hs year m day is =
    sym (only hs year m 25 (month_length year m - 24) (measurement_day hs year m) day (month_searched hs year m) is.late (let l = is.late in let r = is.within in omega arith) is.works is.is_first)

-- what a `find` over the month's days from the 25th on answers
pub found_first : (hs : List Date) (year : ℕ) (m : Month) (start end : ℕ) (r : Option ℕ) → start ≡ 25 → end ≡ month_length year m + 1
    → MatchOption r ((k : ℕ) → start ≤ k → k < end → works hs year m k ≡ false)
    (λ i. (start ≤ i) × (i < end) × (works hs year m i ≡ true) × ((k : ℕ) → start ≤ k → k < i → works hs year m k ≡ false))
    → unwrap_or r 0 ≡ measurement_day hs year m
found_first hs year m start end None b e f = go (eqb (measurement_day hs year m) 0) refl
  where
    go : (t : Bool) → eqb (measurement_day hs year m) 0 ≡ t → 0 ≡ measurement_day hs year m
    go true z = sym (eqb-true (measurement_day hs year m) 0 z)
    go false z =
        let is = (finds_first hs year m).found (eqb-false (measurement_day hs year m) 0 z) in
        absurd (true≢false (sym is.works ∙ f (measurement_day hs year m) (let l = is.late in omega arith) (let w = is.within in omega arith)))
found_first hs year m start end (Some i) b e f =
    only_one hs year m i
    (record { late = (let l = f.0 in omega arith); within = (let w = f.1 in omega arith); works = f.2; is_first = λ k l h. f.3 k (omega arith) h })

-- two lists of holidays that agree on the days from the 25th on have the same measurement day
module _ (hs gs : List Date) (year : ℕ) (m : Month) where
  same_first : (day n : ℕ) → ((k : ℕ) → day ≤ k → works hs year m k ≡ works gs year m k) → first_business_day hs year m day n ≡ first_business_day gs year m day n
  unfolding first_business_day
  same_first day zero h = refl
  same_first day (suc n) h = rw (h day (omega arith), same_first (day + 1) n (λ k l. h k (omega arith)))

  pub same_day : ((k : ℕ) → 25 ≤ k → works hs year m k ≡ works gs year m k) → measurement_day hs year m ≡ measurement_day gs year m
  unfolding measurement_day
  same_day h = same_first 25 (month_length year m - 24) h

  -- where the second knows every business day of the first, it has one if the first does
  pub more_days : ((k : ℕ) → works hs year m k ≡ true → works gs year m k ≡ true) → (measurement_day hs year m ≡ 0 → ⊥) → measurement_day gs year m ≡ 0 → ⊥
  more_days h z e =
      let s = month_searched hs year m in
      let k = measurement_day hs year m in
      true≢false (sym (h k (s.found z)) ∙ (month_searched gs year m).none e k (s.start z).0 (s.start z).1)

  -- agreeing up to a day, they agree whether it is the one
  day_moves : (t : ℕ) → 1 ≤ t → ((k : ℕ) → k ≤ t → works hs year m k ≡ works gs year m k) → measurement_day hs year m ≡ t → measurement_day gs year m ≡ t
  day_moves t l h e =
      let s = month_searched hs year m in
      let z : measurement_day hs year m ≡ 0 → ⊥ = λ y. omega (arith, y, e) in
      only gs year m 25 (month_length year m - 24) (measurement_day gs year m) t (month_searched gs year m)
      (let at = s.start z in omega (arith, e)) (let at = s.start z in omega (arith, e))
      (sym (h t (omega arith)) ∙ (rw e at (s.found z)))
      (λ k p q. sym (h k (omega arith)) ∙ s.is_first k p (omega (arith, e)))

-- ---- one date more

or_assoc : (a b c : Bool) → a || (b || c) ≡ (a || b) || c
or_assoc true b c = refl
or_assoc false b c = refl

named_more : (hs : List Date) (d x : Date) → named (hs ++ (d ∷ [])) x ≡ named hs x || same_date d x
unfolding named
named_more [] d x = or-false (same_date d x)
named_more (h ∷ hs) d x = rw (named_more hs d x) (or_assoc (same_date h x) (named hs x) (same_date d x))

-- any other date is a business day as it was
other_stays : (hs : List Date) (d x : Date) → same_date d x ≡ false → business_day (hs ++ (d ∷ [])) x ≡ business_day hs x
unfolding business_day
other_stays hs d x e = rw (named_more hs d x, e, or-false (named hs x))

-- one that still is was one before
was_before : (hs : List Date) (d x : Date) → business_day (hs ++ (d ∷ [])) x ≡ true → business_day hs x ≡ true
unfolding business_day
was_before hs d x h = go (ltb (weekday x) 5) (named hs x) (same_date d x) (rw (named_more hs d x) at h)
  where
    go : (w n s : Bool) → w && not (n || s) ≡ true → w && not n ≡ true
    go true true s e = e
    go true false s e = refl
    go false n s e = e

same_self : (d : Date) → same_date d d ≡ true
unfolding same_date same_month
same_self d = rw (eq-eqb d.year d.year refl, eq-eqb d.month.0 d.month.0 refl, eq-eqb d.day d.day refl)

itself_is_none : (hs : List Date) (d : Date) → business_day (hs ++ (d ∷ [])) d ≡ false
unfolding business_day
itself_is_none hs d = rw (named_more hs d d, same_self d, or-true (named hs d)) (and-false (ltb (weekday d) 5))

-- ---- dates of a month

in_month : ℕ → Month → Date → Bool
in_month year m d = eqb d.year year && same_month d.month m

module _ (year : ℕ) (m : Month) where
  in_month_lem : (d : Date) → in_month year m d ≡ true → (d.year ≡ year) × (d.month ≡ m)
  unfolding in_month same_month
  in_month_lem d h = (
    eqb-true d.year year (and_left (eqb d.year year) (eqb d.month.0 m.0) h),
    ap (λ (n : ℕ). record { 0 = n }) (eqb-true d.month.0 m.0 (and_right (eqb d.year year) (eqb d.month.0 m.0) h)),
  )

  another_month : (d : Date) (k : ℕ) → in_month year m d ≡ false → same_date d (date_of year m k) ≡ false
  unfolding in_month same_date
  another_month d k h = rw h

  some_in : List Date → Bool
  some_in [] = false
  some_in (d ∷ ds) = in_month year m d || some_in ds

  -- where dates of the month are held, it has a measurement day by their range
  some_leaves : (hs ds : List Date) → some_in ds ≡ true → all_leave_one hs ds ≡ true → measurement_day hs year m ≡ 0 → ⊥
  unfolding some_in all_leave_one leaves_one
  some_leaves hs [] s a z = absurd (false≢true s)
  some_leaves hs (d ∷ ds) s a z = go (in_month year m d) refl s (some_leaves hs ds)
    where
      own : Bool
      own = real d && not (eqb (measurement_day hs d.year d.month) 0)

      go : (t : Bool) → in_month year m d ≡ t → t || some_in ds ≡ true → (some_in ds ≡ true → all_leave_one hs ds ≡ true → measurement_day hs year m ≡ 0 → ⊥) → ⊥
      go true e q f =
          let is = in_month_lem d e in
          eqb-false (measurement_day hs d.year d.month) 0
          (not-true (eqb (measurement_day hs d.year d.month) 0) (and_right (real d) (not (eqb (measurement_day hs d.year d.month) 0)) (and_left own (all_leave_one hs ds) a)))
          (rw (is.0, is.1) z)
      go false e q f = f q (and_right own (all_leave_one hs ds) a) z

  -- where none is held, nothing of it is named
  none_named : (ds : List Date) → some_in ds ≡ false → (k : ℕ) → named ds (date_of year m k) ≡ false
  unfolding some_in named
  none_named [] h k = refl
  none_named (d ∷ ds) h k =
      rw (another_month d k (or_left (in_month year m d) (some_in ds) h)) (none_named ds (or_right (in_month year m d) (some_in ds) h) k)

  -- ---- no holiday

  plain_works : (k : ℕ) → works [] year m k ≡ ltb (weekday (date_of year m k)) 5
  unfolding business_day named
  plain_works k = and-true (ltb (weekday (date_of year m k)) 5)

  monday : ltb (weekday (date_of year m 25)) 5 ≡ false → ltb (weekday (date_of year m 26)) 5 ≡ false → ltb (weekday (date_of year m 27)) 5 ≡ true
  unfolding weekday day_number
  monday p q =
      lt-ltb (weekday (date_of year m 27)) 5
      (omega (arith, ltb-false (weekday (date_of year m 25)) 5 p, ltb-false (weekday (date_of year m 26)) 5 q))

  plain_is : MonthExists year m → IsMeasurementDay [] year m (plain_day year m)
  unfolding plain_day
  plain_is x = go (ltb (weekday (date_of year m 25)) 5) (ltb (weekday (date_of year m 26)) 5) refl refl
    where
      long : 28 ≤ month_length year m
      long = month_length_ge year m x.in_months.0 x.in_months.1

      go : (a b : Bool) → ltb (weekday (date_of year m 25)) 5 ≡ a → ltb (weekday (date_of year m 26)) 5 ≡ b → IsMeasurementDay [] year m (cond a 25 (cond b 26 27))
      go true b p q = record { late = omega arith; within = omega (arith, long); works = plain_works 25 ∙ p; is_first = λ k l r. absurd (omega arith) }
      go false true p q =
          record {
            late = omega arith;
            within = omega (arith, long);
            works = plain_works 26 ∙ q;
            is_first = λ k l r. let is : k ≡ 25 = omega arith in rw is (plain_works 25 ∙ p);
          }
      go false false p q =
          record {
            late = omega arith;
            within = omega (arith, long);
            works = plain_works 27 ∙ monday p q;
            is_first = λ k l r. weekend k l r (eqb k 25) refl;
          }
        where
          weekend : (k : ℕ) → 25 ≤ k → k < 27 → (t : Bool) → eqb k 25 ≡ t → works [] year m k ≡ false
          weekend k l r true e = rw (eqb-true k 25 e) (plain_works 25 ∙ p)
          weekend k l r false e = let is : k ≡ 26 = omega (arith, eqb-false k 25 e) in rw is (plain_works 26 ∙ q)

pub plain_without_holidays : PlainWithoutHolidays
plain_without_holidays year m x = sym (only_one [] year m (plain_day year m) (plain_is year m x))

-- ---- in range, every month has its day

pub every_month : EveryMonth
unfolding holidays_in_range
every_month h r year m x = (finds_first hs year m).found (go (some_in year m hs) refl)
  where
    hs : List Date
    hs = held_dates h

    go : (t : Bool) → some_in year m (held_dates h) ≡ t → measurement_day (held_dates h) year m ≡ 0 → ⊥
    go true e z = some_leaves year m (held_dates h) (held_dates h) e (and_right (leb h.count 16) (all_leave_one (held_dates h) (held_dates h)) r) z
    go false e z =
        let same : measurement_day (held_dates h) year m ≡ measurement_day [] year m =
        same_day (held_dates h) [] year m (λ k _. unfold business_day named in rw (none_named year m (held_dates h) e k)) in
        omega (arith, z, same, plain_without_holidays year m x, (plain_is year m x).late)

-- ---- naming the measurement day

module _ (hs : List Date) (d : Date) (r : real d ≡ true) (e : d.day ≡ measurement_day hs d.year d.month) (lv : leaves_one (hs ++ (d ∷ [])) d ≡ true) where
  abbrev n : ℕ
  n = measurement_day (hs ++ (d ∷ [])) d.year d.month

  next : IsMeasurementDay (hs ++ (d ∷ [])) d.year d.month n
  unfolding leaves_one
  next = (finds_first (hs ++ (d ∷ [])) d.year d.month).found (eqb-false n 0 (not-true (eqb n 0) lv))

  now : IsMeasurementDay hs d.year d.month (measurement_day hs d.year d.month)
  now = (finds_first hs d.year d.month).found (λ z. omega (arith, z, e, (date_bounds d r).day))

  another_day : (k : ℕ) → (d.day ≡ k → ⊥) → same_date d (date_of d.year d.month k) ≡ false
  unfolding same_date
  another_day k z = rw (ne_eqb d.day k z) (and-false (eqb d.year d.year && same_month d.month d.month))

  past : d.day < n
  past = go (ltb d.day n) refl (ltb n d.day) refl
    where
      go : (t : Bool) → ltb d.day n ≡ t → (u : Bool) → ltb n d.day ≡ u → d.day < n
      go true p u q = ltb-true d.day n p
      go false p true q =
          absurd (true≢false (sym (was_before hs d (date_of d.year d.month n) next.works) ∙ now.is_first n next.late (omega (arith, ltb-true n d.day q, e))))
      go false p false q =
          let same : n ≡ d.day = omega (arith, ltb-false d.day n p, ltb-false n d.day q) in
          absurd (true≢false (sym (rw same at next.works) ∙ itself_is_none hs d))

  moved : NextBusinessDay hs d.year d.month d.day n
  moved =
      record {
        later = past;
        within = next.within;
        works = was_before hs d (date_of d.year d.month n) next.works;
        is_next = λ k l q. sym (other_stays hs d (date_of d.year d.month k) (another_day k (λ z. omega (arith, z)))) ∙ next.is_first k (omega (arith, now.late, e)) q;
      }

pub moves_on : MovesOn
moves_on = moved

-- ---- a date after today says nothing of today

not_later : (t d : Date) → before t d ≡ true → (k : ℕ) → k ≤ t.day → same_date d (date_of t.year t.month k) ≡ false
unfolding before same_date same_month
not_later t d b k l = go (same_date d (date_of t.year t.month k)) refl
  where
    go : (u : Bool) → same_date d (date_of t.year t.month k) ≡ u → u ≡ false
    go false e = refl
    go true e =
        let year : d.year ≡ t.year = eqb-true d.year t.year (search parts) in
        let month : d.month.0 ≡ t.month.0 = eqb-true d.month.0 t.month.0 (search parts) in
        let day : d.day ≡ k = eqb-true d.day k (search parts) in
        sym b ∙ rw (le-ltb t.year d.year (omega arith), le-ltb t.month.0 d.month.0 (omega arith), le-ltb t.day d.day (omega arith), eq-eqb t.year d.year (sym year), eq-eqb t.month.0 d.month.0 (sym month))

pub today_stays : (hs : List Date) (d t : Date) → real t ≡ true → before t d ≡ true → on_measurement_day (hs ++ (d ∷ [])) t ≡ on_measurement_day hs t
unfolding on_measurement_day
today_stays hs d t r b = go (eqb t.day f) refl (eqb t.day g) refl
  where
    f : ℕ
    f = measurement_day (hs ++ (d ∷ [])) t.year t.month

    g : ℕ
    g = measurement_day hs t.year t.month

    alike : (k : ℕ) → k ≤ t.day → works (hs ++ (d ∷ [])) t.year t.month k ≡ works hs t.year t.month k
    alike k l = other_stays hs d (date_of t.year t.month k) (not_later t d b k l)

    go : (p : Bool) → eqb t.day f ≡ p → (q : Bool) → eqb t.day g ≡ q → eqb t.day f ≡ eqb t.day g
    go true e true h = e ∙ sym h
    go true e false h =
        absurd (eqb-false t.day g h (sym (day_moves (hs ++ (d ∷ [])) hs t.year t.month t.day (date_bounds t r).day.0 alike (sym (eqb-true t.day f e)))))
    go false e true h =
        absurd (eqb-false t.day f e (sym (day_moves hs (hs ++ (d ∷ [])) t.year t.month t.day (date_bounds t r).day.0 (λ k l. sym (alike k l)) (sym (eqb-true t.day g h)))))
    go false e false h = e ∙ sym h

-- ---- what is stored anew is in range

all_ranged : (hs : List Date) → length hs ≤ 16 → all_leave_one hs hs ≡ true → holidays_in_range (stored_dates hs) ≡ true
unfolding holidays_in_range
all_ranged hs l a = rw (held_stored hs, stored_count hs, le-leb (length hs) 16 l) a

held_few : (h : Holidays) → holidays_in_range h ≡ true → length (held_dates h) ≤ h.count
unfolding held_dates
held_few h r = omega (arith, length-take h.count h.dates)

pub none_ranged : holidays_in_range (stored_dates []) ≡ true
unfolding all_leave_one
none_ranged = all_ranged [] (omega arith) refl

module _ (hs : List Date) (d : Date) (lv : leaves_one (hs ++ (d ∷ [])) d ≡ true) where
  still_leaves : (x : Date) → leaves_one hs x ≡ true → leaves_one (hs ++ (d ∷ [])) x ≡ true
  unfolding leaves_one
  still_leaves x h = go (in_month x.year x.month d) refl
    where
      go : (t : Bool) → in_month x.year x.month d ≡ t → not (eqb (measurement_day (hs ++ (d ∷ [])) x.year x.month) 0) ≡ true
      go true e = let is = in_month_lem x.year x.month d e in rw (← is.0, ← is.1) lv
      go false e = rw (same_day (hs ++ (d ∷ [])) hs x.year x.month (λ k _. other_stays hs d (date_of x.year x.month k) (another_month x.year x.month d k e))) h

  all_more : (ds : List Date) → all_leave_one hs ds ≡ true → real d ≡ true → all_leave_one (hs ++ (d ∷ [])) (ds ++ (d ∷ [])) ≡ true
  unfolding all_leave_one
  all_more [] a r = rw (r, lv)
  all_more (x ∷ ds) a r =
      let here = and_left (real x && leaves_one hs x) (all_leave_one hs ds) a in
      rw (and_left (real x) (leaves_one hs x) here, still_leaves x (and_right (real x) (leaves_one hs x) here))
      (all_more ds (and_right (real x && leaves_one hs x) (all_leave_one hs ds) a) r)

pub naming_ranged : (h : Holidays) (d : Date) → holidays_in_range h ≡ true → h.count < 16 → real d ≡ true → leaves_one (held_dates h ++ (d ∷ [])) d ≡ true
    → holidays_in_range (stored_dates (held_dates h ++ (d ∷ []))) ≡ true
unfolding holidays_in_range
naming_ranged h d r l real_d lv =
    all_ranged (held_dates h ++ (d ∷ [])) (omega (arith, length-append (held_dates h) (d ∷ []), held_few h r))
    (all_more (held_dates h) d lv (held_dates h) (and_right (leb h.count 16) (all_leave_one (held_dates h) (held_dates h)) r) real_d)

module _ (first : Date) where
  kept_named : (hs : List Date) (x : Date) → named hs x ≡ false → named (kept_from first hs) x ≡ false
  unfolding kept_from named
  kept_named [] x h = h
  kept_named (y ∷ hs) x h = go (before y first) (kept_named hs x (or_right (same_date y x) (named hs x) h))
    where
      go : (t : Bool) → named (kept_from first hs) x ≡ false → named (cond t (kept_from first hs) (y ∷ kept_from first hs)) x ≡ false
      go true e = e
      go false e = rw (or_left (same_date y x) (named hs x) h) e

  kept_works : (hs : List Date) (x : Date) → business_day hs x ≡ true → business_day (kept_from first hs) x ≡ true
  unfolding business_day
  kept_works hs x h =
      rw (and_left (ltb (weekday x) 5) (not (named hs x)) h, kept_named hs x (not-true (named hs x) (and_right (ltb (weekday x) 5) (not (named hs x)) h)))

  kept_leaves : (hs : List Date) (x : Date) → leaves_one hs x ≡ true → leaves_one (kept_from first hs) x ≡ true
  unfolding leaves_one
  kept_leaves hs x h =
      rw
      (ne_eqb (measurement_day (kept_from first hs) x.year x.month) 0
      (more_days hs (kept_from first hs) x.year x.month (λ k. kept_works hs (date_of x.year x.month k)) (eqb-false (measurement_day hs x.year x.month) 0 (not-true (eqb (measurement_day hs x.year x.month) 0) h))))

  all_kept : (hs ds : List Date) → all_leave_one hs ds ≡ true → all_leave_one (kept_from first hs) (kept_from first ds) ≡ true
  unfolding all_leave_one kept_from
  all_kept hs [] a = refl
  all_kept hs (x ∷ ds) a =
      go (before x first) (and_left (real x && leaves_one hs x) (all_leave_one hs ds) a) (all_kept hs ds (and_right (real x && leaves_one hs x) (all_leave_one hs ds) a))
    where
      go : (t : Bool) → real x && leaves_one hs x ≡ true → all_leave_one (kept_from first hs) (kept_from first ds) ≡ true
          → all_leave_one (kept_from first hs) (cond t (kept_from first ds) (x ∷ kept_from first ds)) ≡ true
      go true o e = e
      go false o e = rw (and_left (real x) (leaves_one hs x) o, kept_leaves hs x (and_right (real x) (leaves_one hs x) o)) e

pub kept_ranged : (h : Holidays) (first : Date) → holidays_in_range h ≡ true → holidays_in_range (stored_dates (kept_from first (held_dates h))) ≡ true
unfolding holidays_in_range
kept_ranged h first r =
    all_ranged (kept_from first (held_dates h))
    (omega (arith, kept_length first (held_dates h), held_few h r, leb-true h.count 16 (and_left (leb h.count 16) (all_leave_one (held_dates h) (held_dates h)) r)))
    (all_kept first (held_dates h) (held_dates h) (and_right (leb h.count 16) (all_leave_one (held_dates h) (held_dates h)) r))
