-- The four bytes that std takes the number apart into are copied to the place.
use Rattle.std.proofs.Common.{arith, ◌∙◌, sym}
use Rattle.std.proofs.lemmas.Slice.{put_mid-paste}
use Rattle.archive.proofs.Numbers.{le_bytes, length_bytes}
use Rattle.archive.specs.Words.{bytes_of}
use Rattle.archive.proofs.words.put_word.Goals as goal

pub returns : goal.returns
returns c =
    put_mid-paste _ _ _ _ (bytes_of 4 c.args.n) 4 (c.copy_from_slice.ensures.after ∙ c.to_le_bytes.ensures ∙ le_bytes c.args.n c.requires.1) (omega arith) (sym (length_bytes 4 c.args.n))
