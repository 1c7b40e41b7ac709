-- An entry: its bytes taken apart, and what its words and flags mean.
use Rattle.std.specs.Prelude.{◌≡◌, ◌≢◌, ℕ, ◌+◌, ◌*◌, ◌%◌, Bool, eqb, leb, not, List, get_or, length, Result, MatchResult}
use Rattle.ledger.specs.Structs.{Date, Entry, Prices, Terms}
use Rattle.ledger.specs.declared.refusals.Refusal.{Refusal}
use Rattle.ledger.specs.declared.refusals.Refusal.TheVariants as refusal
use Rattle.tariff.specs.Terms.{terms_from}

-- ---- the bytes taken apart

-- R11: one byte, and numbers of two and of four, the lowest byte first. Archives count in the same way (R68).
unfoldable pub byte_at : List ℕ → ℕ → ℕ
byte_at bytes at = get_or bytes at 0

unfoldable pub half_at : List ℕ → ℕ → ℕ
half_at bytes at = byte_at bytes at + 256 * byte_at bytes (at + 1)

unfoldable pub word_at : List ℕ → ℕ → ℕ
word_at bytes at = byte_at bytes at + 256 * (byte_at bytes (at + 1) + 256 * (byte_at bytes (at + 2) + 256 * byte_at bytes (at + 3)))

-- R11: every field at its offset.
unfoldable pub entry_of : List ℕ → Entry
entry_of bytes =
    record {
      kind = byte_at bytes 0;
      a = byte_at bytes 1;
      b = byte_at bytes 2;
      flags = byte_at bytes 3;
      date = record { year = half_at bytes 4; month = record { 0 = byte_at bytes 6 }; day = byte_at bytes 7 };
      w1 = word_at bytes 8;
      w2 = word_at bytes 12;
      w3 = word_at bytes 16;
      w4 = word_at bytes 20;
      w5 = word_at bytes 24;
      w6 = word_at bytes 28;
    }

-- R15: what bytes of any length hold: an entry, or a wrong length.
abbrev pub Reads : List ℕ → Result Entry Refusal → Type 0
Reads bytes r = MatchResult r (λ e. (length bytes ≡ 32) × (e ≡ entry_of bytes)) (λ f. (f ≡ refusal.WrongLength) × (length bytes ≢ 32))

-- ---- what words and flags mean

-- R13: the six words of TERMS.
unfoldable pub terms_of : Entry → Terms
terms_of e = terms_from e.w1 e.w2 e.w3 e.w4 e.w5 e.w6

-- R13: the four words of CLOSE MONTH: W, H, L and E.
unfoldable pub prices_of : Entry → Prices
prices_of e = record { inventory = e.w1; highest = e.w2; lowest = e.w3; pipeline = e.w4 }

-- R102: the date that a HOLIDAY names, in three words of four bytes each; nothing of a word is left out.
unfoldable pub day_named : Entry → Date
day_named e = record { year = e.w1; month = record { 0 = e.w2 }; day = e.w3 }

-- R14: ENROL's flags are 1 for a load that does not follow the weather and 2 for the wish to have EFBS; 3 is both.
unfoldable pub process_only : Entry → Bool
process_only e = eqb (e.flags % 2) 1

unfoldable pub wishes : Entry → Bool
wishes e = leb 2 e.flags

-- R14: a TRADE without a flag is a sale of the company, one with a flag a purchase.
unfoldable pub company_sells : Entry → Bool
company_sells e = eqb e.flags 0

-- R108: the writer of a NOTICE without a flag gives gas, that of one with a flag takes it.
unfoldable pub writer_takes : Entry → Bool
writer_takes e = not (eqb e.flags 0)
