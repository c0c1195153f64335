-- The loop over the stretches (Walking): the runs of those before a place are listed, those of the
-- rest follow them. What is found in a stretch gets behind them, since it begins later (found-behind).
use mathlib.Core.Path.{◌≡◌, refl, ap, sym, ◌∙◌}
use mathlib.Core.Logic.{◌⊎◌, inl, inr}
use mathlib.Core.Bool.{Bool}
use mathlib.Core.List.Memᴰ
use mathlib.Core.List.{List, [], ◌∷◌, ◌++◌, map, flatten, append-nil, append_assoc, Memᴰ}
use Prim.Native.Nat.{ℕ, suc, ◌+◌, ◌-◌, ◌≤◌, ◌<◌}
use native.Mathlib.Omega.{arith}
use native.Mathlib.Numerals.{add-one}
use native.Mathlib.Decide.{dec_lt}
use lib.ListN.{length, drop, get_or, length-append, length-map, length-drop, take-append-drop, drop_of_length-le, get_or-eq_default}
use lib.Seq.{length-take-le, get_or-take, get_or-drop, drop-cons}
use Rattle.buffers.proofs.PartLaws.{part, rest-is, drop-to}
use Rattle.words.specs.Separated.{separator, Unmarked, stretches}
use Rattle.words.specs.Runs.{Triple, runs_from, runs, moved_run, runs_over, separated_runs}
use Rattle.theory.specs.RunStatements.{none}
use Rattle.theory.specs.Stretches.Unmarked.{unmarked-empty, unmarked-letters}
use Rattle.theory.specs.Stretches.SeparatedRuns.{runs-alone, runs-split}
use Rattle.theory.proofs.Stretches.SeparatedRuns.{separated-runs-few}
use Rattle.theory.specs.Repetitions.TwoOrders.{UpTo}
use Rattle.theory.specs.Repetitions.RunsAre.{runs-sound}
use Rattle.theory.proofs.Repetitions.RunsFewer.{found-sorted, found-length}
use Rattle.theory.specs.Repetitions.Insertion.{sort_into, InOrder}
use Rattle.theory.specs.Repetitions.Insertion.{sorted-behind, sorted-moved, sort-in-order}
use Rattle.common.specs.Orders.{most_byte}
use Rattle.longest.specs.Longest.{LongestRoom, LongestFilled}
use Rattle.walking.specs.Walking.{Listed, all_found, VisitRoom, Visited, StretchEnds, WalkRoom, Walked}
use Rattle.walking.proofs.VisitLaws.{list-stands, list-after}

-- ---- the runs from a place on

abbrev runs_left : List ℕ → ℕ → List Triple
runs_left w from = runs_over from (stretches (drop from w))

none_left : (w : List ℕ) (from : ℕ) → length w ≤ from → runs_left w from ≡ []
unfolding runs runs_from
none_left w from l = rw (drop_of_length-le w {i = from} l) (runs-alone from [] unmarked-empty)

module _ {w : List ℕ} {from e : ℕ} (s : StretchEnds w from e) where
  stretch-length : length (part from e w) ≡ e - from
  stretch-length = length-take-le (e - from) (drop from w) (rw length-drop (omega (arith, s.free.inside)))

  stretch-unmarked : Unmarked (part from e w)
  stretch-unmarked = unmarked-letters (part from e w) (λ i l.
      rw (get_or-take (e - from) (drop from w) i 0 (omega (arith, stretch-length)), get_or-drop from w i 0)
      (s.free.unmarked (from + i) (omega arith) (omega (arith, stretch-length))))

  pub stretch-fills : {longest₀ longest out : List ℕ} {store : Bool} → WalkRoom w longest₀ out store → length longest ≡ length longest₀
      → LongestRoom (part from e w) longest
  stretch-fills a n = record {
    short = omega (arith, a.short, stretch-length, s.free.inside);
    room = omega (arith, a.short, stretch-length, s.free.inside, a.work);
  }

  -- no letter of it is above those of the record
  stretch-bytes : UpTo most_byte w → UpTo most_byte (part from e w)
  stretch-bytes b i = go (dec_lt i (e - from))
    where
      go : Dec (i < e - from) → get_or (part from e w) i 0 ≤ most_byte
      go (yes l) = rw (get_or-take (e - from) (drop from w) i 0 l, get_or-drop from w i 0) (b (from + i))
      go (no l) = rw (get_or-eq_default (part from e w) 0 {n = i} (omega (arith, stretch-length))) (omega arith)

  -- those of the stretch, and those from behind the separator on
  runs-next : runs_left w from ≡ map (moved_run from) (runs (part from e w)) ++ runs_left w (e + 1)
  runs-next = go (dec_lt e (length w))
    where
      go : Dec (e < length w) → runs_left w from ≡ map (moved_run from) (runs (part from e w)) ++ runs_left w (e + 1)
      go (no l) =
          let z : e ≡ length w = omega (arith, s.free.inside) in
          let k : drop from w ≡ part from e w = rw z (sym (rest-is from w)) in
          ap (λ (x : List ℕ). runs_over from (stretches x)) k
          ∙ runs-alone from (part from e w) stretch-unmarked
          ∙ rw (none_left w (e + 1) (omega arith)) (sym (append-nil (map (moved_run from) (runs (part from e w)))))
      go (yes l) =
          let k : drop from w ≡ part from e w ++ separator ∷ drop (suc e) w
          = sym (take-append-drop (e - from) (drop from w))
          ∙ ap (λ (x : List ℕ). part from e w ++ x) (drop-to from e w s.free.after ∙ rw (drop-cons w e 0 l, s.stops l)) in
          let n : from + length (part from e w) + 1 ≡ suc e = omega (arith, stretch-length, s.free.after) in
          ap (λ (x : List ℕ). runs_over from (stretches x)) k
          ∙ runs-split from (part from e w) (drop (suc e) w) stretch-unmarked
          ∙ rw (n, add-one e)

-- ---- the loop

-- the runs of the stretches before a place are listed
pub record Walking (w out₀ out : List ℕ) (store : Bool) (count from : ℕ) : Type 0 where
  pub done : List Triple
  pub left : separated_runs w ≡ done ++ runs_left w from
  pub earlier : (r : Triple) → Memᴰ r done → r.0 < from
  pub in_order : InOrder done
  pub listed : Listed done out₀ store count out
  pub long : length out ≡ length out₀

pub walk_begins : (w out : List ℕ) (store : Bool) → Walking w out out store 0 0
unfolding separated_runs flatten
walk_begins w out store = record {
  done = [];
  left = refl;
  earlier = λ r m. absurd (Memᴰ.not-nil m);
  in_order = none;
  listed = record { counted = refl; stored = λ e. refl; kept = λ e. refl };
  long = refl;
}

module _ {w out₀ out : List ℕ} {store : Bool} {count from : ℕ} (g : Walking w out₀ out store count from) where
  pub walk_ends : length w ≤ from → Walked w out₀ store count out
  walk_ends l =
      let z : separated_runs w ≡ g.done = g.left ∙ ap (λ (x : List Triple). g.done ++ x) (none_left w from l) ∙ append-nil g.done in
      rw z g.listed

  module _ {e : ℕ} (s : StretchEnds w from e) (b : UpTo most_byte w) where
    -- with those of the stretch, there are no more than in all
    walk-few : count + length (all_found (part from e w)) ≤ length (separated_runs w)
    walk-few =
        let new = map (moved_run from) (runs (part from e w)) in
        let n = ap length (g.left ∙ ap (λ (x : List Triple). g.done ++ x) (runs-next s)) ∙ length-append g.done (new ++ runs_left w (e + 1)) in
        omega (
          arith,
          n,
          length-append new (runs_left w (e + 1)),
          length-map (runs (part from e w)) (moved_run from),
          found-length most_byte (part from e w) (stretch-bytes s b),
          g.listed.counted,
        )

    pub walk-asks : {longest₀ longest : List ℕ} → WalkRoom w longest₀ out₀ store → LongestFilled (part from e w) longest
        → VisitRoom (part from e w) longest from out count store (all_found (part from e w))
    walk-asks a f = record {
      bytes = stretch-bytes s b;
      short = omega (arith, a.short, stretch-length s, s.free.inside, s.free.after);
      filled = f;
      few = omega (arith, walk-few, separated-runs-few w, a.short);
      room = λ t. omega (arith, walk-few, a.room t, g.long);
      in_order = λ t. rw (list-stands g.listed t) g.in_order;
    }

    -- what is found begins later than all that is listed
    found-behind : sort_into g.done (map (moved_run from) (all_found (part from e w))) ≡ g.done ++ map (moved_run from) (runs (part from e w))
    found-behind =
        let fs = all_found (part from e w) in
        sorted-behind g.done (map (moved_run from) fs) (λ r d m n.
        let q = Memᴰ.of_map (moved_run from) fs m in
        let z : from + q.0.0 ≡ r.0 = ap (λ (y : Triple). y.0) q.2 in
        omega (arith, g.earlier d n, z))
        ∙ ap (λ (x : List Triple). g.done ++ x) (sorted-moved from fs ∙ ap (map (moved_run from)) (found-sorted most_byte (part from e w) (stretch-bytes s b)))

    pub walk_turn : {count' : ℕ} {out' : List ℕ} → Visited from out count store (all_found (part from e w)) count' out' → length out' ≡ length out
        → Walking w out₀ out' store count' (e + 1)
    walk_turn h n =
        let new = map (moved_run from) (runs (part from e w)) in
        let fs = map (moved_run from) (all_found (part from e w)) in
        record {
          done = g.done ++ new;
          left = g.left ∙ ap (λ (x : List Triple). g.done ++ x) (runs-next s) ∙ sym (append_assoc g.done new (runs_left w (e + 1)));
          earlier = λ r m. go r (Memᴰ.append_cases g.done m);
          in_order = rw found-behind at (sort-in-order g.done fs g.in_order);
          listed = rw found-behind at (list-after g.listed fs h);
          long = n ∙ g.long;
        }
      where
        go : (r : Triple) → Memᴰ r g.done ⊎ Memᴰ r (map (moved_run from) (runs (part from e w))) → r.0 < e + 1
        go r (inl m) = omega (arith, g.earlier r m, s.free.after)
        go r (inr m) =
            let q = Memᴰ.of_map (moved_run from) (runs (part from e w)) m in
            let z : from + q.0.0 ≡ r.0 = ap (λ (y : Triple). y.0) q.2 in
            let x = runs-sound (part from e w) q.0 q.1 in
            omega (arith, z, x.inside, x.twice, stretch-length s, s.free.after)
