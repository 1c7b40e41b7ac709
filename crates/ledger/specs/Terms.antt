-- TERMS: the company's numbers of a gas year, by which every account's capacity is worked out anew.
use Rattle.std.specs.Prelude.{true, cond, not, List, [], ◌∷◌, map}
use Rattle.ledger.specs.Structs.{Account, Entry, Ledger, Posted, Terms}
use Rattle.tariff.specs.Terms.{capacity_of}
use Rattle.ledger.specs.Checks.{Check, verdict}
use Rattle.ledger.specs.Entries.{terms_of}
use Rattle.ledger.specs.State.{ledger, with_capacity}
use Rattle.ledger.specs.Ranges.{in_range}
use Rattle.ledger.specs.Answers.{settle}

-- R27: an open account keeps its step and gets MDDQ and BCQ by the new terms.
unfoldable pub reworked : Terms → Account → Account
reworked t a = cond a.opened (with_capacity a (capacity_of t a.step.k)) a

-- R27: the ledger afterwards; no bank moves.
unfoldable pub terms_next : Ledger → Entry → Ledger
terms_next l e = ledger true true l.is_new e.date (terms_of e) l.holidays (map (reworked (terms_of e)) l.accounts)

-- R27: 29 alone, which never comes (R23); the day, 23, was asked before.
unfoldable pub terms_checks : Ledger → Entry → List Check
terms_checks l e = (not (in_range (terms_next l e)), 29) ∷ []

-- R27: the posting.
unfoldable pub post_terms : Ledger → Entry → Posted
post_terms l e = settle l (verdict (terms_checks l e)) (terms_next l e)
