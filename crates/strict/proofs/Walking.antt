-- The walk over the factors of the strict cut, over plain lists. What is still to come from a place on are the ends of the strict cut of the rest
-- (all_left, none_left, some_left); a run that is found is a factor there, and one at each place where it repeats (run-repeats).
use mathlib.Core.Path.{◌≡◌, refl, ap, sym, ◌∙◌}
use mathlib.Core.List.{List, [], ◌∷◌, flatten}
use Prim.Native.Nat.{ℕ, zero, suc, ◌+◌, ◌-◌, ◌*◌, ◌≤◌, ◌<◌}
use native.Mathlib.Numerals.{add-one}
use native.Mathlib.Omega.{arith}
use lib.ListN.{length, take, drop, get_or, length-drop, drop_of_length-le}
use lib.Seq.{get_or-take, get_or-drop, drop-cons, drop-drop, length-take-le}
use Rattle.words.specs.Words.{most_letters}
use Rattle.buffers.proofs.PartLaws.{rest, rest-is}
use Rattle.words.specs.Factorizations.{longest_anti_lyndon, ends_from}
use Rattle.words.specs.Separated.{separator, separated_cfl_in, separated_cfl_in_ends}
use Rattle.theory.proofs.Stretches.Separation.{separated-cfl-in-concat}
use Rattle.theory.specs.Stretches.CflInSteps.{separated-cfl-in-empty, separated-cfl-in-separator}
use Rattle.theory.proofs.Stretches.CflInSteps.{separated-cfl-in-letter}
use Rattle.theory.specs.Scan.Scanned.{Scanned, Stops}
use Rattle.theory.specs.Scan.Scanned.{scanned-one, scanned-longest, scanned-after, border-front}
use Rattle.scan.specs.declared.Scan.{Scan}
use Rattle.scan.specs.State.{start_state, Resumes, Rests}
use Rattle.strict.specs.declared.Run.{Run}
use Rattle.strict.specs.Walk.{ends_left, RunAt, alone, repeated, FactorAt, Repeats}

-- ---- one factor, and its repetitions

-- a repetition stops where the first one does
stops-after : (v : List ℕ) (b p : ℕ) → Stops v (b + p) b → p ≤ b → Stops (drop p v) b (b - p)
stops-after v b p h l k =
    let i : p + (b - p) ≡ b = omega arith in
    let j : p + b ≡ b + p = omega arith in
    rw (get_or-drop p v (b - p) 0, get_or-drop p v b 0, i, j) (h (omega (arith, length-drop p v)))

-- and begins with the same letter
letter-again : {v : List ℕ} {n b : ℕ} → Scanned v n b → (p : ℕ) → p ≡ n - b → p ≤ b → get_or v p 0 ≡ get_or v 0 0
letter-again {v} {n} {b} s p e l =
    let z : p + 0 ≡ p = omega arith in
    let front : drop p (take n v) ≡ take b v
    = rw (← e) at (border-front v n b s.inside (omega (arith, s.shorter)) s.period.repeats) in
    sym (get_or-take n v p 0 (omega (arith, s.shorter))) ∙ sym (rw z at (get_or-drop p (take n v) 0 0)) ∙ ap (λ (x : List ℕ). get_or x 0 0) front
    ∙ get_or-take b v 0 0 (omega (arith, s.shorter))

module _ {w : List ℕ} {from : ℕ} {r : Run} where
  run-positive : RunAt w from r → 0 < r.length
  run-positive (alone m e u) = omega arith
  run-positive (repeated m l t) = omega (arith, t.scanned.shorter)

  run_inside : RunAt w from r → from < length w → from + r.length ≤ length w
  run_inside (alone m e u) i = omega arith
  run_inside (repeated m l t) i = omega (arith, t.scanned.inside, length-drop from w)

  run-again : RunAt w from r → from + r.length < r.until → RunAt w (from + r.length) r
  run-again (alone m e u) l = absurd (omega arith)
  run-again (repeated m k t) l =
      let b = r.until - 1 - from in
      let p : r.length ≡ b + r.length - b = omega arith in
      let q : r.until - 1 - (from + r.length) ≡ b - r.length = omega arith in
      let n : b - r.length + r.length ≡ b = omega arith in
      let z : from + 0 ≡ from = omega arith in
      let same : get_or w (from + r.length) 0 ≡ get_or w from 0
      = rw (get_or-drop from w r.length 0, get_or-drop from w 0 0, z) at (letter-again t.scanned r.length p (omega arith)) in
      repeated (rw same m) l (rw (q, n) (record {
        scanned = rw (drop-drop r.length from w) at (scanned-after t.scanned r.length p (omega arith));
        stops = rw (drop-drop r.length from w) at (stops-after (drop from w) b r.length t.stops (omega arith));
      }))

pub run_alone : (w : List ℕ) (from : ℕ) → get_or w from 0 ≡ separator → RunAt w from (record { length = 1; until = from + 1 })
run_alone w from m = alone m refl refl

pub run-resumes : (w : List ℕ) (from : ℕ) (s : Scan) → length w ≤ most_letters → from < length w → s ≡ start_state → Resumes (rest from w) s
run-resumes w from s h l e = rw (rest-is from w, e) (record { short = rw length-drop (omega arith); scanned = scanned-one _ (rw length-drop (omega arith)) })

pub run-scanned : (w : List ℕ) (from : ℕ) (s : Scan) → get_or w from 0 < separator → Rests (rest from w) s
    → RunAt w from (record { length = s.length - s.border; until = from + s.border + 1 })
run-scanned w from s l t =
    let q : from + s.border + 1 - 1 - from ≡ s.border = omega arith in
    let m : s.border + (s.length - s.border) ≡ s.length = omega (arith, t.scanned.shorter) in
    repeated l (omega arith) (rw (q, m) (rw (rest-is from w) at t))

-- ---- the ends that are still to come

pub all_left : (w : List ℕ) → ends_left w 0 ≡ separated_cfl_in_ends w
unfolding separated_cfl_in_ends
all_left w = refl

pub none_left : (w : List ℕ) (from : ℕ) → length w ≤ from → ends_left w from ≡ []
unfolding ends_from
none_left w from l = rw (drop_of_length-le w {i = from} l, separated-cfl-in-empty)

-- letters are left, so ends are
pub some_left : (w : List ℕ) (from : ℕ) → from < length w → ends_left w from ≡ [] → ⊥
unfolding flatten ends_from
some_left w from l e = go (separated_cfl_in (drop from w)) (separated-cfl-in-concat (drop from w)) e
  where
    go : (ms : List (List ℕ)) → flatten ms ≡ drop from w → ends_from from ms ≡ [] → ⊥
    go [] p q = omega (arith, length-drop from w, sym (ap length p))
    go (m ∷ ms) p q = omega (arith, ap length q)

end-taken : {w : List ℕ} {from : ℕ} {r : Run} → RunAt w from r → from < length w → ends_left w from ≡ (from + r.length) ∷ ends_left w (from + r.length)
unfolding ends_from
end-taken {w} {from} {r} (alone m e u) l = rw (drop-cons w from 0 l, m, separated-cfl-in-separator (drop (suc from) w), e, add-one from)
end-taken {w} {from} {r} (repeated m k t) l =
    let longest : longest_anti_lyndon (drop from w) ≡ r.length = scanned-longest t.scanned t.stops ∙ omega arith in
    let inside : r.length ≤ length (drop from w) = omega (arith, t.scanned.inside) in
    let size : length (take r.length (drop from w)) ≡ r.length = length-take-le r.length (drop from w) inside in
    let z : from + 0 ≡ from = omega arith in
    rw (separated-cfl-in-letter (drop from w) (rw length-drop (omega arith)) (rw (get_or-drop from w 0 0, z) m), longest, size, drop-drop r.length from w)

-- ---- a run as the walk knows it

run_begins : {w : List ℕ} {from : ℕ} {r : Run} → RunAt w from r → from < r.until
run_begins (alone m e u) = omega arith
run_begins (repeated m l t) = l

run-inside-again : {w : List ℕ} {from : ℕ} {r : Run} → RunAt w from r → from + r.length < r.until → from + r.length < length w
run-inside-again (alone m e u) l = omega arith
run-inside-again {w} {from} (repeated m k t) l = omega (arith, t.scanned.inside, length-drop from w)

repeats-at : {w : List ℕ} {r : Run} (from : ℕ) → RunAt w from r → from < length w → (k : ℕ) → from + k * r.length < r.until
    → FactorAt w (from + k * r.length) r.length
repeats-at {w} {r} from t i zero l =
    let z : from + 0 * r.length ≡ from = omega arith in
    rw z (record { some = run-positive t; inside = run_inside t i; ends = end-taken t i })
repeats-at {w} {r} from t i (suc k) l =
    let z : from + suc k * r.length ≡ from + r.length + k * r.length = omega arith in
    let again : from + r.length < r.until = omega arith in
    rw z (repeats-at (from + r.length) (run-again t again) (run-inside-again t again) k (rw z at l))

pub run-repeats : {w : List ℕ} {from : ℕ} {r : Run} → RunAt w from r → from < length w → (from < r.until) × Repeats w from r
run-repeats {w} {from} t i = (run_begins t, repeats-at from t i)
