-- Runs in a buffer, three entries each: one stored (run-stored), the entries of a list (entries-append, entries-length), the runs that stand there
-- (triples-length, triples-written, entries-triples, triples-at, triples-take).
use mathlib.Core.Path.{◌≡◌, refl, ap, ◌∙◌}
use mathlib.Core.List.{List, [], ◌∷◌, ◌++◌, flatten}
use Prim.Native.Nat.{ℕ, zero, suc, ◌+◌, ◌*◌, ◌≤◌, ◌<◌}
use native.Mathlib.Omega.{arith}
use native.Mathlib.Numerals.{add-one, add-two}
use lib.ListN.{length, take, drop, get_or, set}
use lib.Seq.{sets, get_or-drop}
use Rattle.buffers.proofs.GroupLaws.{grouped-append, grouped-length}
use Rattle.std.specs.declared.cmp.Ordering.{Ordering}
use Rattle.std.specs.declared.cmp.Ordering.TheVariants.{Less, Equal, Greater}
use Rattle.std.specs.Ordering.{MatchOrdering, nat_cmp, is_lt, is_some_and, partial_ordering_then}
use Rattle.std.specs.Prelude.{Some}
use Rattle.std.proofs.Common.{inl, inr, ⊎_elim}
use Rattle.std.proofs.lemmas.Cmp.{ranked}
use Rattle.words.specs.Runs.{Triple}
use Rattle.theory.specs.RunStatements.{Earlier}
use Rattle.theory.specs.Orders.Decisions.{Decides, holds, fails}
use Rattle.theory.specs.Repetitions.Insertion.{run_at}
use Rattle.inserting.specs.Entries.{run_entries, entries_of_runs}
use Rattle.inserting.specs.Inserting.{run_from, triples}

-- ---- entries

pub run-stored : (xs : List ℕ) (at first end period : ℕ)
    → set (set (set xs at first) (at + 1) end) (at + 2) period ≡ sets xs at (run_entries (first, end, period))
run-stored xs at first end period = rw (add-one at, add-two at)

pub entries-append : (rs qs : List Triple) → entries_of_runs (rs ++ qs) ≡ entries_of_runs rs ++ entries_of_runs qs
entries-append = grouped-append run_entries

pub entries-length : (rs : List Triple) → length (entries_of_runs rs) ≡ 3 * length rs
entries-length = grouped-length run_entries 3 (λ r. refl)

-- ---- the runs that stand in a buffer

pub triples-length : (c : ℕ) (xs : List ℕ) → length (triples c xs) ≡ c
unfolding triples
triples-length zero xs = refl
triples-length (suc c) xs = ap suc (triples-length c (drop 3 xs))

pub triples-written : (rs : List Triple) (xs : List ℕ) → triples (length rs) (entries_of_runs rs ++ xs) ≡ rs
unfolding triples flatten
triples-written [] xs = refl
triples-written (r ∷ rs) xs = ap (λ (t : List Triple). r ∷ t) (triples-written rs xs)

three-more : (n : ℕ) → 3 * suc n ≡ suc (suc (suc (3 * n)))
three-more n = omega arith

pub entries-triples : (c : ℕ) (xs : List ℕ) → 3 * c ≤ length xs → entries_of_runs (triples c xs) ≡ take (3 * c) xs
unfolding triples flatten
entries-triples zero xs l = refl
entries-triples (suc c) [] l = absurd (omega arith)
entries-triples (suc c) (x ∷ []) l = absurd (omega arith)
entries-triples (suc c) (x ∷ y ∷ []) l = absurd (omega arith)
entries-triples (suc c) (x ∷ y ∷ z ∷ xs) l = rw (three-more c) (ap (λ (t : List ℕ). x ∷ y ∷ z ∷ t) (entries-triples c xs (omega arith)))

pub triples-at : (c k : ℕ) (xs : List ℕ) → k < c → run_at (triples c xs) k ≡ run_from xs (3 * k)
unfolding triples
triples-at zero k xs l = absurd (omega arith)
triples-at (suc c) zero xs l = refl
triples-at (suc c) (suc k) xs l = triples-at c k (drop 3 xs) (omega arith) ∙ later
  where
    later : run_from (drop 3 xs) (3 * k) ≡ run_from xs (3 * suc k)
    later =
        let a : 3 + 3 * k ≡ 3 * suc k = omega arith in
        let b : 3 + (3 * k + 1) ≡ 3 * suc k + 1 = omega arith in
        let e : 3 + (3 * k + 2) ≡ 3 * suc k + 2 = omega arith in
        rw (get_or-drop 3 xs (3 * k) 0, get_or-drop 3 xs (3 * k + 1) 0, get_or-drop 3 xs (3 * k + 2) 0, a, b, e)

pub triples-take : (c k : ℕ) (xs : List ℕ) → k ≤ c → take k (triples c xs) ≡ triples k xs
unfolding triples
triples-take c zero xs l = refl
triples-take zero (suc k) xs l = absurd (omega arith)
triples-take (suc c) (suc k) xs l = ap (λ (t : List Triple). (get_or xs 0 0, get_or xs 1 0, get_or xs 2 0) ∷ t) (triples-take c k (drop 3 xs) (omega arith))

-- ---- which run comes later

-- by the pairs of first place and period
pub earlier-pair : (r q : Triple) → Decides (Earlier r q) (is_some_and is_lt (partial_ordering_then (Some (nat_cmp r.0 q.0)) (Some (nat_cmp r.2 q.2))))
earlier-pair r q = go (nat_cmp r.0 q.0) (nat_cmp r.2 q.2) (ranked r.0 q.0 (nat_cmp r.0 q.0) refl) (ranked r.2 q.2 (nat_cmp r.2 q.2) refl)
  where
    go : (o p : Ordering) → MatchOrdering o (r.0 < q.0) (r.0 ≡ q.0) (q.0 < r.0) → MatchOrdering p (r.2 < q.2) (r.2 ≡ q.2) (q.2 < r.2)
        → Decides (Earlier r q) (is_some_and is_lt (partial_ordering_then (Some o) (Some p)))
    go Less p h k = holds (inl h)
    go Equal Less h k = holds (inr (h, k))
    go Equal Equal h k = fails (⊎_elim (λ x. omega (arith, h)) (λ x. omega (arith, x.1)))
    go Equal Greater h k = fails (⊎_elim (λ x. omega (arith, h)) (λ x. omega (arith, x.1)))
    go Greater p h k = fails (⊎_elim (λ x. omega arith) (λ x. omega (arith, x.0)))
