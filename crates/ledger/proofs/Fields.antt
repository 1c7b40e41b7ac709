-- What the bytes of an entry tell the layers above: where its kind and its date stand, how long one of the right form is, and which quantities change hands.
use Prim.Native.Nat.{ℕ, ◌+◌, ◌*◌}
use mathlib.Core.Path.{◌≡◌, refl}
use mathlib.Core.Bool.{Bool, true, false, cond, ◌&&◌}
use mathlib.Core.List.{List}
use native.Mathlib.Omega.{arith}
use lib.Dec.{eqb, leb}
use lib.ListN.{length, get_or}
use borrow.Author.Tests.{eqb-true}
use Rattle.ledger.specs.Entries.{byte_at, entry_of, half_at, word_at}
use Rattle.ledger.specs.Forms.{entry_number, form_number, some_units}

module _ (bytes : List ℕ) where
  pub kind_byte : (entry_of bytes).kind ≡ get_or bytes 0 0
  unfolding entry_of byte_at
  kind_byte = refl

  pub half_bytes : (at : ℕ) → half_at bytes at ≡ get_or bytes at 0 + 256 * get_or bytes (at + 1) 0
  unfolding half_at byte_at
  half_bytes at = refl

  pub word_bytes : (at : ℕ) → word_at bytes at ≡ get_or bytes at 0 + 256 * (get_or bytes (at + 1) 0 + 256 * (get_or bytes (at + 2) 0 + 256 * get_or bytes (at + 3) 0))
  unfolding word_at byte_at
  word_bytes at = refl

  pub year_half : (entry_of bytes).date.year ≡ half_at bytes 4
  unfolding entry_of
  year_half = refl

  pub month_byte : (entry_of bytes).date.month.0 ≡ get_or bytes 6 0
  unfolding entry_of byte_at
  month_byte = refl

  pub form_length : (new : Bool) → form_number new bytes ≡ 0 → length bytes ≡ 32
  unfolding form_number
  form_length new h = eqb-true (length bytes) 32 (whole (eqb (length bytes) 32) (entry_number new (entry_of bytes)) h)
    where
      whole : (b : Bool) (n : ℕ) → cond b n 1 ≡ 0 → b ≡ true
      whole true n h = refl
      whole false n h = absurd (omega arith)

pub units_between : (w : ℕ) → some_units w ≡ leb 1 w && leb w 1000000000
unfolding some_units
units_between w = refl
