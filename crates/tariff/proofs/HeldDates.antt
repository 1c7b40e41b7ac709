-- What the places of a holiday list hold: those taken, a list stored anew, and one with the dates before a day left out.
use Prim.Native.Nat.{ℕ, suc, ◌+◌, ◌-◌, ◌≤◌, ◌<◌, min}
use mathlib.Core.Path.{◌≡◌, refl, sym, ap, ◌∙◌}
use mathlib.Core.Bool.{Bool, true, false, cond, not, ◌&&◌, ◌||◌, and-false}
use mathlib.Core.List.{List, [], ◌∷◌, ◌++◌}
use native.Mathlib.Numerals.{add-one}
use native.Mathlib.Omega.{arith}
use lib.Dec.{eqb}
use Rattle.std.specs.List.{list_all, list_any}
use Rattle.std.proofs.lemmas.List.{append-nil, take_min}
use lib.ListN.{length, get_or, replicate, set, take, length-append, length-take}
use lib.Seq.{append_snoc, set-append_seam, take-append_seam, take-suc}
use borrow.Author.Tests.{le-leb, le-ltb}
use Rattle.tariff.specs.Dates.{before, real, same_date}
use Rattle.tariff.specs.Holidays.{Without, all_leave_one, held_dates, holidays_in_range, kept_from, leaves_one, named, no_date, stored_dates}
use Rattle.tariff.specs.Holidays.Without.{gone, left, none}
use Rattle.tariff.specs.Structs.{Date, Holidays}
use Rattle.tariff.proofs.Calendar.{same_derived}
use Rattle.tariff.proofs.Laws.{same_date_is}

-- the places taken, of sixteen
pub held_places : (h : Holidays) → length h.dates ≡ 16 → held_dates h ≡ take (min h.count 16) h.dates
unfolding held_dates
held_places h s = rw (← s) (sym (take_min h.count h.dates))

-- a date is named where one of those held is the same
pub named_any : (hs : List Date) (d : Date) → named hs d ≡ list_any (λ h. eqb h.year d.year && (eqb h.month.0 d.month.0 && eqb h.day d.day)) hs
unfolding named
named_any [] d = refl
named_any (h ∷ hs) d = rw (same_derived h d, named_any hs d)

all_fit : (hs ds : List Date) → all_leave_one hs ds ≡ list_all (λ d. real d && leaves_one hs d) ds
unfolding all_leave_one
all_fit hs [] = refl
all_fit hs (d ∷ ds) = rw (all_fit hs ds)

-- where no more than sixteen are counted, each is tried
pub ranged_is : (h : Holidays) → h.count ≤ 16 → list_all (λ d. real d && leaves_one (held_dates h) d) (held_dates h) ≡ holidays_in_range h
unfolding holidays_in_range
ranged_is h l = rw (le-leb h.count 16 l) (sym (all_fit (held_dates h) (held_dates h)))

-- ---- a list stored anew

pub held_stored : (hs : List Date) → held_dates (stored_dates hs) ≡ hs
unfolding held_dates stored_dates
held_stored hs = take-append_seam hs (replicate (16 - length hs) no_date)

pub stored_count : (hs : List Date) → (stored_dates hs).count ≡ length hs
unfolding stored_dates
stored_count hs = refl

length_snoc : (hs : List Date) (d : Date) → length (hs ++ (d ∷ [])) ≡ length hs + 1
length_snoc hs d = length-append hs (d ∷ [])

-- the first free place
pub stored_next : (h : Holidays) (d : Date) (hs : List Date) (i : ℕ) → h.count < 16 → i ≡ min h.count 16 → h ≡ stored_dates hs
    → record { count = h.count + 1; dates = set h.dates i d } ≡ stored_dates (hs ++ (d ∷ []))
unfolding stored_dates
stored_next h d hs i l at e =
    let place : i ≡ h.count = omega arith in
    let size : h.count ≡ length hs = ap (λ (x : Holidays). x.count) e in
    let free : 16 - length hs ≡ suc (15 - length hs) = omega arith in
    let left : 16 - (length hs + 1) ≡ 15 - length hs = omega arith in
    rw (place, e, length_snoc hs d, free, left, set-append_seam hs no_date (replicate (15 - length hs) no_date) d, append_snoc hs d (replicate (15 - length hs) no_date))

-- ---- those that are kept

kept_append : (first d : Date) (hs : List Date) → kept_from first (hs ++ (d ∷ [])) ≡ kept_from first hs ++ kept_from first (d ∷ [])
unfolding kept_from
kept_append first d [] = refl
kept_append first d (h ∷ hs) = go (before h first) (kept_append first d hs)
  where
    go : (t : Bool) → kept_from first (hs ++ (d ∷ [])) ≡ kept_from first hs ++ kept_from first (d ∷ [])
        → cond t (kept_from first (hs ++ (d ∷ []))) (h ∷ kept_from first (hs ++ (d ∷ []))) ≡ cond t (kept_from first hs) (h ∷ kept_from first hs) ++ kept_from first (d ∷ [])
    go true e = e
    go false e = ap (λ (xs : List Date). h ∷ xs) e

pub kept_length : (first : Date) (hs : List Date) → length (kept_from first hs) ≤ length hs
unfolding kept_from
kept_length first [] = omega arith
kept_length first (h ∷ hs) = go (before h first) (kept_length first hs)
  where
    go : (t : Bool) → length (kept_from first hs) ≤ length hs → length (cond t (kept_from first hs) (h ∷ kept_from first hs)) ≤ suc (length hs)
    go true l = omega arith
    go false l = omega arith

-- no date lies before the first of all
all_kept : (hs : List Date) → kept_from no_date hs ≡ hs
unfolding kept_from before
all_kept [] = refl
all_kept (h ∷ hs) =
    rw (le-ltb h.year 0 (omega arith), le-ltb h.month.0 0 (omega arith), le-ltb h.day 0 (omega arith)) (go (eqb h.year 0) (eqb h.month.0 0) (all_kept hs))
  where
    go : (t u : Bool) → kept_from no_date hs ≡ hs → cond (false || (t && (false || (u && false)))) (kept_from no_date hs) (h ∷ kept_from no_date hs) ≡ h ∷ hs
    go true true e = ap (λ (xs : List Date). h ∷ xs) e
    go true false e = ap (λ (xs : List Date). h ∷ xs) e
    go false u e = ap (λ (xs : List Date). h ∷ xs) e

pub stored_all : (first : Date) (h next : Holidays) → first ≡ no_date → next ≡ stored_dates (kept_from first (held_dates h)) → next ≡ stored_dates (held_dates h)
stored_all first h next z e = e ∙ ap stored_dates (rw z (all_kept (held_dates h)))

-- where fewer than sixteen are counted, and stored anew, there is a place
pub room_all : (first : Date) (h next : Holidays) → first ≡ no_date → next ≡ stored_dates (kept_from first (held_dates h)) → h.count < 16 → next.count < 16
unfolding held_dates
room_all first h next z e l =
    omega (arith, ap (λ (x : Holidays). x.count) (stored_all first h next z e), stored_count (take h.count h.dates), length-take h.count h.dates)

-- the next date, by whether it lies before
module _ (first : Date) (items : List Date) (i : ℕ) (d : Date) (l : i < length items) where
  next_of : kept_from first (take (i + 1) items) ≡ kept_from first (take i items) ++ kept_from first (get_or items i d ∷ [])
  next_of = rw (add-one, take-suc items i d l) (kept_append first (get_or items i d) (take i items))

  pub gone_next : before (get_or items i d) first ≡ true → kept_from first (take (i + 1) items) ≡ kept_from first (take i items)
  unfolding kept_from
  gone_next b = next_of ∙ rw b (append-nil (kept_from first (take i items)))

  pub kept_next : before (get_or items i d) first ≡ false → kept_from first (take (i + 1) items) ≡ kept_from first (take i items) ++ (get_or items i d ∷ [])
  unfolding kept_from
  kept_next b = next_of ∙ rw b refl

-- where no more are kept than passed, and fewer than sixteen were, there is a place
pub room_kept : (h : Holidays) (first : Date) (items : List Date) (i : ℕ) → h ≡ stored_dates (kept_from first (take i items)) → i < 16 → h.count < 16
room_kept h first items i e l =
    omega (arith, ap (λ (x : Holidays). x.count) e, stored_count (kept_from first (take i items)), kept_length first (take i items), length-take i items)

-- a date is kept exactly where it was held and does not lie before
pub kept_members : (first : Date) (hs : List Date) (x : Date) → named (kept_from first hs) x ≡ named hs x && not (before x first)
unfolding named kept_from
kept_members first [] x = refl
kept_members first (h ∷ hs) x = go (before h first) (same_date h x) refl refl (kept_members first hs x)
  where
    go : (b s : Bool) → before h first ≡ b → same_date h x ≡ s → named (kept_from first hs) x ≡ named hs x && not (before x first)
        → named (cond b (kept_from first hs) (h ∷ kept_from first hs)) x ≡ (same_date h x || named hs x) && not (before x first)
    go true true p q e =
        let gone : before x first ≡ true = ap (λ (z : Date). before z first) (sym (same_date_is h x q)) ∙ p in
        rw (q, gone) ((rw gone at e) ∙ and-false (named hs x))
    go true false p q e = rw q e
    go false true p q e =
        let stays : before x first ≡ false = ap (λ (z : Date). before z first) (sym (same_date_is h x q)) ∙ p in rw (q, stays)
    go false false p q e = rw q e

-- and what is left keeps its order
pub kept_without : (first : Date) (hs : List Date) → Without first hs (kept_from first hs)
unfolding kept_from
kept_without first [] = none
kept_without first (h ∷ hs) = go (before h first) refl (kept_without first hs)
  where
    go : (b : Bool) → before h first ≡ b → Without first hs (kept_from first hs) → Without first (h ∷ hs) (cond b (kept_from first hs) (h ∷ kept_from first hs))
    go true p w = gone h hs (kept_from first hs) p w
    go false p w = left h hs (kept_from first hs) p w

pub none_from : (first : Date) → kept_from first [] ≡ []
unfolding kept_from
none_from first = refl
