-- What is counted so far, with what the entries from k on will count, is what all of them count; the ledger likewise.
use native.Mathlib.Omega.{arith}
use Prim.Native.Nat.{ℕ, suc, ◌+◌, ◌-◌, ◌<◌, ◌≤◌}
use mathlib.Core.Path.{◌≡◌, refl, sym, ap, ap₂, ◌∙◌}
use mathlib.Core.Bool.{Bool, true, false, cond}
use mathlib.Core.List.{List, [], ◌∷◌}
use mir.Val.{bool_byte}
use lib.Dec.{eqb}
use lib.ListN.{length, get_or, drop, length-drop}
use lib.Seq.{drop-cons}
use Rattle.ledger.specs.Posting.{posted}
use Rattle.ledger.specs.Running.{Line, history, run}
use Rattle.ledger.specs.State.{fresh}
use Rattle.archive.specs.Structs.{Checked, Ledger, Replay}
use Rattle.archive.specs.Reading.{checked, is_new}
use Rattle.ledger.specs.declared.answers.Answer.{Answer}
use Rattle.archive.specs.Replay.{count_of, as_accepted, as_refused, fresh_for, entries_in, replayed}

-- the entries from k on, as a loop meets them
pub entries_left : (es : List (List ℕ)) (k : ℕ) (d : List ℕ) → k < length es → drop k es ≡ get_or es k d ∷ drop (k + 1) es
entries_left es k d h = let j : suc k ≡ k + 1 = omega arith in rw j at (drop-cons es k d h)

pub entries_done : {A : Type 0} (es : List A) (k : ℕ) → length es ≤ k → drop k es ≡ []
entries_done {A} es k h = go (drop k es) (rw length-drop (omega arith))
  where
    go : (xs : List A) → length xs ≡ 0 → xs ≡ []
    go [] e = refl
    go (x ∷ xs) e = absurd (omega arith)

-- a bool as a number
pub one_byte : (b : Bool) (n : ℕ) → b ≡ eqb n 0 → bool_byte b ≡ cond (eqb n 0) 1 0
one_byte b n e = rw (← e) (go b)
  where
    go : (b : Bool) → bool_byte b ≡ cond b 1 0
    go true = refl
    go false = refl

-- 1 for a posting that was accepted, else 0
abbrev one_of : Answer → ℕ
one_of b = cond (eqb b.number 0) 1 0

one_le : (b : Bool) → cond b 1 0 ≤ 1
one_le true = omega arith
one_le false = omega arith

others : (b : Bool) → cond b 0 1 ≡ 1 - cond b 1 0
others true = refl
others false = refl

accepted_one : (x : List ℕ) (b : Answer) → as_accepted (record { bytes = x; answer = b }) ≡ one_of b
unfolding as_accepted
accepted_one x b = refl

refused_one : (x : List ℕ) (b : Answer) → as_refused (record { bytes = x; answer = b }) ≡ 1 - one_of b
unfolding as_refused
refused_one x b = others (eqb b.number 0)

count_next : (f : Line → ℕ) (l : Ledger) (b : List ℕ) (bs : List (List ℕ)) → count_of f (history l (b ∷ bs)) ≡ f (record { bytes = b; answer = (posted l b).answer }) + count_of f (history (posted l b).ledger bs)
unfolding count_of
count_next f l b bs = refl

count_none : (f : Line → ℕ) (l : Ledger) → count_of f (history l []) ≡ 0
unfolding count_of
count_none f l = refl

pub record PostedSoFar (new : Bool) (es : List (List ℕ)) (k : ℕ) (l : Ledger) (accepted refused : ℕ) : Type 0 where
  pub some : accepted + refused ≡ k
  pub accepts : accepted + count_of as_accepted (history l (drop k es)) ≡ count_of as_accepted (history (fresh new) es)
  pub refuses : refused + count_of as_refused (history l (drop k es)) ≡ count_of as_refused (history (fresh new) es)
  pub same : run l (drop k es) ≡ run (fresh new) es

pub none_posted : (new : Bool) (es : List (List ℕ)) (l : Ledger) → l ≡ fresh new → PostedSoFar new es 0 l 0 0
none_posted new es l e = record { some = refl; accepts = rw e (omega arith); refuses = rw e (omega arith); same = rw e }

module _ (new : Bool) (es : List (List ℕ)) (k : ℕ) (l : Ledger) (accepted refused : ℕ) (r : PostedSoFar new es k l accepted refused) where
  pub all_posted : length es ≤ k → (accepted ≡ count_of as_accepted (history (fresh new) es)) × (refused ≡ count_of as_refused (history (fresh new) es)) × (l ≡ run (fresh new) es)
  all_posted h =
      let done = entries_done es k h in
      let none = ap (λ (bs : List (List ℕ)). count_of as_accepted (history l bs)) done ∙ count_none as_accepted l in
      let neither = ap (λ (bs : List (List ℕ)). count_of as_refused (history l bs)) done ∙ count_none as_refused l in
      (omega (arith, r), omega (arith, r), sym (ap (run l) done) ∙ r.same)

  module _ (d : List ℕ) (more : k < length es) (b : Answer) (m : Ledger) (e : b ≡ (posted l (get_or es k d)).answer) (f : m ≡ (posted l (get_or es k d)).ledger) where
    counted : (g : Line → ℕ) (h : Answer → ℕ) → ((x : List ℕ) (b : Answer) → g (record { bytes = x; answer = b }) ≡ h b) → h b + count_of g (history m (drop (k + 1) es)) ≡ count_of g (history l (drop k es))
    counted g h same =
        ap₂ (λ (a : Answer) (n : Ledger). h a + count_of g (history n (drop (k + 1) es))) e f
        ∙ ap (λ (x : ℕ). x + count_of g (history (posted l (get_or es k d)).ledger (drop (k + 1) es))) (sym (same (get_or es k d) (posted l (get_or es k d)).answer))
        ∙ sym (ap (λ (bs : List (List ℕ)). count_of g (history l bs)) (entries_left es k d more) ∙ count_next g l (get_or es k d) (drop (k + 1) es))

    pub one_posted : (one : ℕ) → one ≡ one_of b → PostedSoFar new es (k + 1) m (accepted + one) (refused + (1 - one))
    one_posted one u =
        let small = one_le (eqb b.number 0) in
        let some = counted as_accepted one_of accepted_one in
        let rest = counted as_refused (λ (q : Answer). 1 - one_of q) refused_one in
        record {
          some = omega (arith, r);
          accepts = omega (arith, r);
          refuses = omega (arith, r);
          same = ap (λ (n : Ledger). run n (drop (k + 1) es)) f ∙ sym (ap (run l) (entries_left es k d more)) ∙ r.same;
        }

-- ---- the replay of an archive

same_replay : (r s : Replay) → r.number ≡ s.number → r.index ≡ s.index → r.accepted ≡ s.accepted → r.refused ≡ s.refused → r.ledger ≡ s.ledger → r ≡ s
same_replay r s a b c d e = λ i. record { number = a i; index = b i; accepted = c i; refused = d i; ledger = e i }

pub replays : (a : List ℕ) (new : Bool) (c : Checked) (es : List (List ℕ)) (r : Replay) → new ≡ is_new a → c ≡ checked a → es ≡ entries_in a → r.number ≡ c.number → r.index ≡ c.index
    → r.accepted ≡ count_of as_accepted (history (fresh new) es) → r.refused ≡ count_of as_refused (history (fresh new) es) → r.ledger ≡ run (fresh new) es → r ≡ replayed a
unfolding replayed fresh_for
replays a new c es r b e f n i y x l =
    same_replay r (replayed a) (n ∙ ap (λ (d : Checked). d.number) e) (i ∙ ap (λ (d : Checked). d.index) e) (y ∙ posted_as (λ l es. count_of as_accepted (history l es))) (x ∙ posted_as (λ l es. count_of as_refused (history l es))) (l ∙ posted_as run)
  where
    posted_as : {A : Type 0} (g : Ledger → List (List ℕ) → A) → g (fresh new) es ≡ g (fresh (is_new a)) (entries_in a)
    posted_as g = ap₂ (λ m s. g (fresh m) s) b f
