-- The place of a new run, looked for from the last run on (Ahead), and the run written there, when those from there on stand a place later (run-inserted).
use mathlib.Core.Path.{◌≡◌, refl, ap, sym, subst, ◌∙◌}
use mathlib.Core.List.{List, [], ◌∷◌, ◌++◌, append_assoc, flatten}
use Prim.Native.Nat.{ℕ, suc, ◌+◌, ◌-◌, ◌*◌, ◌≤◌, ◌<◌}
use native.Mathlib.Nat.{le_refl}
use native.Mathlib.Omega.{arith}
use lib.ListN.{length, take, drop, length-drop, take-append-drop, drop_of_length-le}
use lib.Seq.{sets, length-take-le, take-take, take-append-le, drop_at, drop-cons, length-paste}
use Rattle.std.proofs.lemmas.List.{drop-take}
use Rattle.std.specs.List.{copy_within}
use Rattle.buffers.specs.Buffers.{written}
use Rattle.buffers.proofs.GroupLaws.{stored}
use Rattle.words.specs.Runs.{Triple}
use Rattle.theory.specs.RunStatements.{Earlier}
use Rattle.theory.specs.Repetitions.Insertion.{insert_run}
use Rattle.theory.specs.Repetitions.Insertion.{run_at, insert-before, insert-at, insert-length}
use Rattle.inserting.specs.Entries.{run_entries, entries_of_runs}
use Rattle.inserting.specs.Inserting.{run_from, triples, InsertRoom, Belongs}
use Rattle.inserting.proofs.InsertLaws.{entries-append, entries-length, triples-length, entries-triples, triples-at, triples-take}

-- ---- the loop

-- a run goes before all that are from place k on
pub record Ahead (xs : List ℕ) (count : ℕ) (r : Triple) (k : ℕ) : Type 0 where
  pub inside : k ≤ count
  pub ahead : insert_run r (drop k (triples count xs)) ≡ r ∷ drop k (triples count xs)

module _ (xs : List ℕ) (count : ℕ) (r : Triple) (asked : InsertRoom xs count) where
  abbrev rs : List Triple
  rs = triples count xs

  none_left : drop count rs ≡ []
  none_left = drop_of_length-le rs {i = count} (omega (arith, triples-length count xs))

  pub ahead-starts : Ahead xs count r count
  unfolding insert_run
  ahead-starts = record { inside = le_refl count; ahead = rw none_left refl }

  module _ (k : ℕ) (l : k < count) where
    read : run_at rs k ≡ run_from xs (3 * k)
    read = triples-at count k xs l

    next : drop k rs ≡ run_at rs k ∷ drop (suc k) rs
    next = drop-cons rs k (0, 0, 0) (omega (arith, triples-length count xs))

    -- the run before it comes later
    before : Earlier r (run_from xs (3 * k)) → Ahead xs count r k
    before h = record { inside = omega arith; ahead = rw (next, read) (insert-before r (run_from xs (3 * k)) (drop (suc k) rs) h) }

    -- it does not, so none before does
    behind : Ahead xs count r (suc k) → ¬ Earlier r (run_from xs (3 * k)) → Belongs xs count r (suc k)
    behind a h = record {
      inside = a.inside;
      belongs = insert-at r rs k (omega (arith, triples-length count xs)) asked.in_order (subst (λ (q : Triple). ¬ Earlier r q) (sym read) h)
          ∙ ap (λ (t : List Triple). take (suc k) rs ++ t) a.ahead;
    }

  module _ {k : ℕ} (a : Ahead xs count r k) where
    pub ahead-on : 0 < k → Earlier r (run_from xs (3 * (k - 1))) → Ahead xs count r (k - 1)
    ahead-on l h = before (k - 1) (omega (arith, a.inside)) h

    pub ahead-stops : 0 < k → ¬ Earlier r (run_from xs (3 * (k - 1))) → Belongs xs count r (k - 1 + 1)
    ahead-stops l h =
        let e : k - 1 + 1 ≡ suc (k - 1) = omega arith in
        let s : k ≡ suc (k - 1) = omega arith in
        rw e (behind (k - 1) (omega (arith, a.inside)) (rw s at a) h)

-- ---- the run written at its place

module _ (xs : List ℕ) (count : ℕ) (r : Triple) (k : ℕ) (asked : InsertRoom xs count) (at : Belongs xs count r k) where
  abbrev ts : List Triple
  ts = triples count xs

  abbrev moved : List ℕ
  moved = copy_within xs (3 * k) (3 * count) (3 * k + 3)

  more-entries : length (entries_of_runs (insert_run r ts)) ≡ 3 * count + 3
  more-entries = omega (arith, entries-length (insert_run r ts), insert-length r ts, triples-length count xs)

  front-entries : entries_of_runs (take k ts) ≡ take (3 * k) xs
  front-entries = ap entries_of_runs (triples-take count k xs at.inside) ∙ entries-triples k xs (omega (arith, at.inside, asked.room))

  all-entries : entries_of_runs (insert_run r ts) ≡ take (3 * k) xs ++ (run_entries r ++ entries_of_runs (drop k ts))
  unfolding flatten
  all-entries =
      ap entries_of_runs at.belongs
      ∙ entries-append (take k ts) (r ∷ drop k ts)
      ∙ ap (λ (t : List ℕ). t ++ (run_entries r ++ entries_of_runs (drop k ts))) front-entries

  -- the entries of the runs from there on
  later : entries_of_runs (drop k ts) ≡ take (3 * count - 3 * k) (drop (3 * k) xs)
  later =
      sym (drop_at (take (3 * k) xs) (entries_of_runs (drop k ts)) (3 * k) (length-take-le (3 * k) xs (omega (arith, at.inside, asked.room))))
      ∙ ap (drop (3 * k)) (
      ap (λ (t : List ℕ). t ++ entries_of_runs (drop k ts)) (sym front-entries)
      ∙ sym (entries-append (take k ts) (drop k ts))
      ∙ ap entries_of_runs (take-append-drop k ts)
      ∙ entries-triples count xs (omega (arith, asked.room))
      ∙ (let n : 3 * count ≡ 3 * k + (3 * count - 3 * k) = omega (arith, at.inside) in ap (λ (i : ℕ). take i xs) n)
      )
      ∙ drop-take (3 * k) (3 * count - 3 * k) xs

  -- those stand a place later
  moved-is : moved ≡ take (3 * k + 3) xs ++ (entries_of_runs (drop k ts) ++ drop (3 * count + 3) xs)
  moved-is =
      let n : 3 * k + 3 + (3 * count - 3 * k) ≡ 3 * count + 3 = omega (arith, at.inside) in
      rw (n, ← later) (rw append_assoc refl)

  pub run-inserted : sets moved (3 * k) (run_entries r) ≡ written (entries_of_runs (insert_run r ts)) xs
  run-inserted =
      let size : length (take (3 * k + 3) xs) ≡ 3 * k + 3 = length-take-le (3 * k + 3) xs (omega (arith, at.inside, asked.room)) in
      let behind : 3 * count - 3 * k ≤ length (drop (3 * k) xs) = rw length-drop (omega (arith, at.inside, asked.room)) in
      let long : length moved ≡ length xs
      = length-paste xs (3 * k + 3) (drop (3 * k) xs) (3 * count - 3 * k) (omega (arith, at.inside, asked.room)) behind in
      stored moved (run_entries r) (3 * k) (3 * k + 3) refl (omega (arith, long, at.inside, asked.room))
      ∙ rw (moved-is, drop_at (take (3 * k + 3) xs) (entries_of_runs (drop k ts) ++ drop (3 * count + 3) xs) (3 * k + 3) size, more-entries, all-entries)
      (ap (λ (t : List ℕ). (t ++ run_entries r) ++ (entries_of_runs (drop k ts) ++ drop (3 * count + 3) xs))
      (take-append-le (3 * k) (take (3 * k + 3) xs) (entries_of_runs (drop k ts) ++ drop (3 * count + 3) xs) (omega (arith, size))
      ∙ take-take (3 * k) (3 * k + 3) xs (omega arith))
      ∙ simp append_assoc refl)
