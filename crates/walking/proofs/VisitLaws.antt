-- Runs that are counted and, where they are to be stored, put into the list of the buffer: none (list_same), one (visit-puts), more after
-- others (list-after). What is found at a place fits (run_fits). The loop over the places of a stretch (Visiting).
use mathlib.Core.Path.{◌≡◌, refl, ap, sym, ◌∙◌}
use mathlib.Core.Bool.{Bool, true}
use Rattle.std.specs.Prelude.{Option, Some, None}
use mathlib.Core.List.Memᴰ
use mathlib.Core.List.{List, [], ◌∷◌, map, map-append}
use Prim.Native.Nat.{ℕ, ◌+◌, ◌-◌, ◌*◌, ◌≤◌, ◌<◌}
use native.Mathlib.Omega.{arith}
use lib.ListN.{length, drop, length-append, length-map, take-append-drop}
use lib.Seq.{length-take-le}
use Rattle.buffers.specs.Buffers.{written}
use Rattle.buffers.proofs.BufferLaws.{written_over}
use Rattle.words.specs.Runs.{Triple, moved_run}
use Rattle.theory.specs.RunStatements.{IsRun}
use Rattle.theory.specs.Repetitions.Found.{found_at, found_up_to}
use Rattle.theory.specs.Repetitions.Found.{found-next, found-more}
use Rattle.theory.proofs.Repetitions.Serving.{found-serves}
use Rattle.theory.specs.Repetitions.Insertion.{sort_into}
use Rattle.theory.specs.Repetitions.Insertion.{sort-append, sort-one, sort-none, sort-length, sort-in-order}
use Rattle.inserting.specs.Entries.{entries_of_runs}
use Rattle.inserting.specs.Inserting.{triple, triples, RunFits, InsertRoom}
use Rattle.inserting.specs.declared.Run.{Run}
use Rattle.inserting.proofs.InsertLaws.{entries-length, triples-length, triples-written, entries-triples}
use Rattle.common.specs.Orders.{most_byte}
use Rattle.found.specs.Found.{PlaceKnown, found_runs}
use Rattle.walking.specs.Walking.{Listed, Put, all_found, VisitRoom, Visited}

-- ---- lists

-- the runs that stand in the buffer
pub list_same : (out : List ℕ) (count : ℕ) (store : Bool) → (store ≡ true → 3 * count ≤ length out) → Listed (triples count out) out store count out
list_same out count store room = record { counted = sym (triples-length count out); stored = λ e. same (room e); kept = λ e. refl }
  where
    same : 3 * count ≤ length out → out ≡ written (entries_of_runs (triples count out)) out
    same l = rw (entries-triples count out l, length-take-le (3 * count) out l) (sym (take-append-drop (3 * count) out))

module _ {rs : List Triple} {out₀ out : List ℕ} {store : Bool} {count : ℕ} (g : Listed rs out₀ store count out) where
  pub list-stands : store ≡ true → triples count out ≡ rs
  list-stands e =
      ap (λ (n : ℕ). triples n out) g.counted ∙ ap (triples (length rs)) (g.stored e) ∙ triples-written rs (drop (length (entries_of_runs rs)) out₀)

  -- more runs, put into the list that stands there
  pub list-after : (ts : List Triple) {r : ℕ} {out' : List ℕ} → Listed (sort_into (triples count out) ts) out store r out'
      → Listed (sort_into rs ts) out₀ store r out'
  list-after ts {r} {out'} h = record {
    counted = h.counted ∙ sort-length (triples count out) ts ∙ omega (arith, triples-length count out, g.counted, sort-length rs ts);
    stored = λ e.
        let s : out' ≡ written (entries_of_runs (sort_into rs ts)) out = rw (list-stands e) at (h.stored e) in
        s ∙ ap (written (entries_of_runs (sort_into rs ts))) (g.stored e)
        ∙ written_over (entries_of_runs rs) (entries_of_runs (sort_into rs ts)) out₀
        (omega (arith, entries-length rs, entries-length (sort_into rs ts), sort-length rs ts));
    kept = λ e. h.kept e ∙ g.kept e;
  }

-- ---- a place

-- what no run stands for
pub none_told : (f : Option Run) → ((run : Run) → f ≡ Some run → ⊥) → found_runs f ≡ []
none_told None h = refl
none_told (Some run) h = absurd (h run refl)

module _ {w longest out : List ℕ} {from count : ℕ} {store : Bool} {found : List Triple} (v : VisitRoom w longest from out count store found) where
  pub place-known : {i : ℕ} → 0 < i → i < length w → PlaceKnown w longest i
  place-known {i} o l = record { after = o; known = record { inside = l; room = v.filled.room; entry = v.filled.entries i l } }

  -- a run that is found lies in the word
  pub run_fits : {i : ℕ} (run : Run) → 0 < i → i < length w → triple run ∷ [] ≡ found_at most_byte w i
      → RunFits (record { first = from + run.first; end = from + run.end; period = run.period })
  run_fits {i} run o l e =
      let r : IsRun w (triple run) = (found-serves most_byte w v.bytes (triple run) i o l (rw (← e) (Memᴰ.head refl))).0 in
      record {
        first_fits = omega (arith, v.short, r.inside, r.twice);
        end_fits = omega (arith, v.short, r.inside);
        period-fits = omega (arith, v.short, r.inside, r.twice);
      }

  pub visit-none : [] ≡ found → Visited from out count store found count out
  visit-none e = rw (← e) (rw sort-none (list_same out count store (λ s. omega (arith, v.room s))))

  module _ {r : Triple} (e : r ∷ [] ≡ found) where
    one_more : count + 1 ≡ length (sort_into (triples count out) (map (moved_run from) found))
    one_more = rw (← e) (omega (arith, sort-length (triples count out) (moved_run from r ∷ []), triples-length count out))

    pub visit-room : store ≡ true → InsertRoom out count
    visit-room s = record { room = omega (arith, v.room s, ap length e); in_order = v.in_order s }

    pub visit-puts : {run : Run} {out' : List ℕ} → triple run ≡ moved_run from r → Put store out count run out'
        → Visited from out count store found (count + 1) out'
    visit-puts z p = record {
      counted = one_more;
      stored = λ t. rw (← e) (rw (sort-one, ← z) (p.stored t));
      kept = p.kept;
    }

-- ---- the places of a stretch

-- those before i are visited
pub record Visiting (w : List ℕ) (from : ℕ) (out₀ : List ℕ) (count : ℕ) (store : Bool) (out : List ℕ) (total i : ℕ) : Type 0 where
  pub after : 0 < i
  pub inside : i - 1 ≤ length w - 1
  pub long : length out ≡ length out₀
  pub visited : Visited from out₀ count store (found_up_to most_byte w (i - 1)) total out

module _ {w longest out₀ : List ℕ} {from count : ℕ} {store : Bool} (v : VisitRoom w longest from out₀ count store (all_found w)) where
  pub visit-begins : Visiting w from out₀ count store out₀ count 1
  unfolding found_up_to
  visit-begins = record {
    after = omega arith;
    inside = omega arith;
    long = refl;
    visited = rw sort-none (list_same out₀ count store (λ s. omega (arith, v.room s)));
  }

  module _ {out : List ℕ} {total i : ℕ} (g : Visiting w from out₀ count store out total i) where
    -- with what is found at i, there are no more than in all
    visit-few : i < length w → total + length (found_at most_byte w i) ≤ count + length (all_found w)
    visit-few l =
        let n = found-more most_byte w i (length w - 1) (omega arith) in
        let m = ap length (found-next most_byte w i g.after) ∙ length-append (found_up_to most_byte w (i - 1)) (found_at most_byte w i) in
        let s = g.visited.counted ∙ sort-length (triples count out₀) (map (moved_run from) (found_up_to most_byte w (i - 1))) in
        omega (arith, n, m, s, triples-length count out₀, length-map (found_up_to most_byte w (i - 1)) (moved_run from))

    pub visit-asks : i < length w → VisitRoom w longest from out total store (found_at most_byte w i)
    visit-asks l = record {
      bytes = v.bytes;
      short = v.short;
      filled = v.filled;
      few = omega (arith, visit-few l, v.few);
      room = λ s. omega (arith, visit-few l, v.room s, g.long);
      in_order = λ s. rw (list-stands g.visited s) (sort-in-order (triples count out₀) (map (moved_run from) (found_up_to most_byte w (i - 1))) (v.in_order s));
    }

    pub visit-turn : {total' : ℕ} {out' : List ℕ} → i < length w → length out' ≡ length out → Visited from out total store (found_at most_byte w i) total' out'
        → Visiting w from out₀ count store out' total' (i + 1)
    visit-turn l n h =
        let z : i + 1 - 1 ≡ i = omega arith in
        let old = found_up_to most_byte w (i - 1) in
        let new = found_at most_byte w i in
        record {
          after = omega arith;
          inside = omega arith;
          long = n ∙ g.long;
          visited = rw (
            z,
            found-next most_byte w i g.after,
            map-append (moved_run from) old new,
            sort-append (triples count out₀) (map (moved_run from) old) (map (moved_run from) new),
          ) (list-after g.visited (map (moved_run from) new) h);
        }

    pub visit-ends : length w ≤ i → Visited from out₀ count store (all_found w) total out
    visit-ends l = let z : length w - 1 ≡ i - 1 = omega (arith, g.inside) in rw z g.visited
