-- An open account is closed, any other stays as it is; either way what was closed so far is one account more.
use Rattle.std.proofs.Common.{rules, ◌≡◌, ◌<◌, true, List, length, get_or, refl, ◌∙◌}
use Prim.Native.Nat.{ℕ}
use Rattle.ledger.proofs.Admissions.{is_begun, is_ranged}
use Rattle.ledger.proofs.Bounded.{account_ranged, begun_ranged}
use Rattle.ledger.proofs.ClosedSoFar.{accounts_to, all_closed, goes_on, here, incomplete, lacking, leaves, next_stays, open_complete, open_reported, open_stored, shut_complete, shut_reported, shut_stays, shut_stored}
use Rattle.ledger.proofs.Lists.{length_mapped}
use Rattle.ledger.specs.Kinds.{TERMS}
use Rattle.ledger.specs.Posting.{admission}
use Rattle.ledger.specs.Ranges.{account_in_range}
use Rattle.ledger.specs.State.{held_in, no_month, no_today, no_totals, nobody}
use Rattle.ledger.specs.Structs.{Account, Entry, Ledger}
use Rattle.tariff.specs.Terms.{terms_in_range}
use Rattle.ledger.proofs.closings.close_all.Goals as goal
use Rattle.ledger.proofs.closings.close_all.Goals.{Start, In-loop-i, then-a+else-not-ready, then-not-in_range, else-not-in_range, else-a}

-- what holds of an admitted closing
module _ (l : Ledger) (e : Entry) (h : admission l e ≡ 0) where
  in_force : (e.kind ≡ TERMS → ⊥) → terms_in_range l.terms ≡ true
  in_force no_terms = (begun_ranged l (is_ranged l e h) (is_begun l e h no_terms)).1

  ranged : length l.accounts ≡ 16 → (i : ℕ) → i < 16 → (xs : List Account) → xs ≡ accounts_to l e i → account_in_range (get_or xs i nobody) ≡ true
  ranged n i j xs p = rw (here l e i n j xs p) (account_ranged l i n j (is_ranged l e h))

sixteen : (c : Start) → length c.args.l.now.accounts ≡ 16
sixteen c = search (rules, length_mapped)

pub loop-i-init : goal.loop-i-init
unfolding held_in
loop-i-init c =
    record {
      stored = c.requires.fresh.0;
      reported = c.requires.fresh.1;
      complete = refl;
      fits = refl;
      ends = rw c.date-date.ensures at c.last_of_month-ends.ensures;
      reads = rw c.date-date.ensures at c.measured-reads.ensures;
    }

pub returns-then-not-ready : goal.returns-then-not-ready
unfolding nobody no_totals no_month no_today
returns-then-not-ready c =
    let k = c.loop-i.invariant in
    let n = sixteen (search) in
    incomplete c.args.l.now c.args.e.entry (lacking c.args.l.now c.args.e.entry c.loop-i.i n c.loop-i-test.true _ (here c.args.l.now c.args.e.entry c.loop-i.i n c.loop-i-test.true c.loop-i.accounts k.stored) _ _ _ k.complete c.ready.ensures k.ends k.reads c.if-not-ready.true)

pub of-terms-requires : goal.of-terms-requires
of-terms-requires c = in_force c.args.l.now c.args.e.entry c.requires.admitted.0 c.requires.admitted.1

pub of-requires : goal.of-requires
unfolding nobody no_totals no_month no_today
of-requires c = ranged c.args.l.now c.args.e.entry c.requires.admitted.0 (sixteen (search)) c.loop-i.i c.loop-i-test.true c.loop-i.accounts c.loop-i.invariant.stored

pub loop-i-preserved : goal.loop-i-preserved
unfolding nobody no_totals no_month no_today
loop-i-preserved c =
    let n = sixteen (search) in
    let l = c.args.l.now in
    let e = c.args.e.entry in
    let i = c.loop-i.i in
    let below : i < 16 = c.loop-i-test.true in
    let k = c.loop-i.invariant in
    let at = here l e i n below c.loop-i.accounts k.stored in
    elim c.if-a.branch [
      | then-a+else-not-ready w ↦ record {
        stored = open_stored l e i n below _ at c.loop-i.accounts _ _ w.accounts-is k.stored (rw (c.of-terms.ensures, w.of.ensures) at w.close_account-one.ensures);
        reported = open_reported l e i n below _ at c.loop-i.reports _ _ w.reports-is k.reported (rw (c.of-terms.ensures, w.of.ensures) at w.close_account-one.ensures);
        complete = open_complete l e i n below _ at _ _ _ k.complete w.ready.ensures k.ends k.reads w.if-not-ready.false;
        fits =
            let next = next_stays l e i n below _ at _ _ _ w.in_range.ensures w.in_range-then-a.ensures (rw (c.of-terms.ensures, w.of.ensures) at w.close_account-one.ensures) in
            elim w.if-not-in_range.branch [
              | then-not-in_range w' ↦ leaves l e i _ next c.loop-i.stays _ (w.stays-is ∙ w'.stays-is) k.fits w'.if-not-in_range.true
              | else-not-in_range w' ↦ goes_on l e i _ next c.loop-i.stays _ (w.stays-is ∙ w'.stays-is) k.fits w'.if-not-in_range.false
            ];
        ends = k.ends;
        reads = k.reads;
      }
      | else-a w ↦ record {
        stored = shut_stored l e i n below _ at w.if-a.false c.loop-i.accounts _ k.stored w.accounts-is;
        reported = shut_reported l e i n below _ at w.if-a.false c.loop-i.reports _ k.reported w.reports-is;
        complete = shut_complete l e i n below _ at w.if-a.false k.complete;
        fits = rw w.stays-is (shut_stays l e i n below _ at w.if-a.false c.loop-i.stays (ranged l e c.requires.admitted.0 n i below c.loop-i.accounts k.stored) k.fits);
        ends = k.ends;
        reads = k.reads;
      }
    ]

pub returns : goal.returns
returns c =
    let n = sixteen (search) in
    let k = c.loop-i.invariant in
    all_closed c.args.l.now c.args.e.entry c.loop-i.i n c.loop-i-test.false c.loop-i.accounts k.stored c.loop-i.reports k.reported k.complete c.loop-i.stays k.fits
