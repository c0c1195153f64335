-- Line 7. A list of pairs passes just where it is not empty, its ends rise from 0 to the length and each count is at least 1 and at most its part's length
-- (pairs-accepted, pairs-pass); so does that of a record's own pairs (own-pairs). Then the turns of the loop that goes over it (PairsLeft): it is paired from 0
-- on just where what is left is from the last end on.
use mathlib.Core.Path.{◌≡◌, refl, ap, sym, ◌∙◌}
use mathlib.Core.Bool.{Bool, true, false, not, ◌||◌, true≢false}
use mathlib.Core.List.{List, [], ◌∷◌}
use Prim.Native.Nat.{ℕ, suc, ◌+◌, ◌-◌, ◌*◌, ◌/◌, ◌%◌, ◌≤◌, ◌<◌}
use native.Mathlib.Omega.{arith}
use lib.ListN.{length, drop, get_or}
use lib.Seq.{drop-cons}
use lib.Dec.{eqb, ltb}
use Rattle.std.proofs.lemmas.List.{nil_from_length}
use borrow.Author.Tests.{ltb-false, le-ltb, ne_eqb, eqb-false}
use Rattle.theory.specs.Orders.Decisions.{Decides, holds, fails, eqb-test}
use Rattle.words.specs.Pairs.{separated_pairs, ends_of}
use Rattle.theory.specs.Places.EndsRise.{Rises}
use Rattle.theory.specs.Places.EndsRise.{rises-head, rises-tail, rises-end, rises-some}
use Rattle.theory.specs.Places.PairedLists.{Paired, done, more, paired-rise, paired-number}
use Rattle.theory.specs.Stretches.Factors.{separated-icfl-ends-rise}
use Rattle.theory.proofs.Stretches.RecordPairs.{pairs-entries, pairs-paired}
use Rattle.pairs.specs.PairedList.{are_faulty_counts, are_faulty_pairs}
use Rattle.conditions.specs.Conditions.{are_faulty_ends}
use Rattle.conditions.proofs.ConditionLaws.{either-unmet}
use Rattle.conditions.proofs.EndsLaws.{EndsOf, ends-accepted, ends-pass}

-- ---- the definition decides it

pub record PairsFit (n : ℕ) (ps : List ℕ) : Type 0 where
  pub some : 0 < length ps
  pub paired : Paired n 0 ps

paired-from : (n b : ℕ) (ps : List ℕ) → Rises n b (ends_of ps) → eqb (length ps % 2) 1 ≡ false → are_faulty_counts b ps ≡ false → Paired n b ps
unfolding ends_of are_faulty_counts
paired-from n b [] r o f = done (rises-end r)
paired-from n b (e ∷ []) r o f = absurd (true≢false o)
paired-from n b (e ∷ c ∷ ps) r o f =
    let u = either-unmet (eqb c 0) (ltb (e - b) c || are_faulty_counts e ps) f in
    let v = either-unmet (ltb (e - b) c) (are_faulty_counts e ps) u.1 in
    let z : suc (suc (length ps)) % 2 ≡ length ps % 2 = omega arith in
    let positive : 0 < c = omega (arith, eqb-false c 0 u.0) in
    more (rises-head r) positive (ltb-false (e - b) c v.0) (paired-from n e ps (rises-tail r) (rw z at o) v.1)

paired-counts : {n b : ℕ} {ps : List ℕ} → Paired n b ps → are_faulty_counts b ps ≡ false
unfolding are_faulty_counts
paired-counts (done z) = refl
paired-counts (more {b = b} {e = e} {c = c} h p q r) = rw (ne_eqb c 0 (λ z. omega arith), le-ltb (e - b) c q) (paired-counts r)

ends_some : (ps : List ℕ) → 0 < length (ends_of ps) → 0 < length ps
unfolding ends_of
ends_some [] l = l
ends_some (e ∷ []) l = absurd (omega arith)
ends_some (e ∷ c ∷ ps) l = omega arith

pub pairs-accepted : (ps : List ℕ) (n : ℕ) → are_faulty_pairs ps n ≡ false → PairsFit n ps
unfolding are_faulty_pairs
pairs-accepted ps n f =
    let u = either-unmet (are_faulty_ends (ends_of ps) n) (eqb (length ps % 2) 1 || are_faulty_counts 0 ps) f in
    let v = either-unmet (eqb (length ps % 2) 1) (are_faulty_counts 0 ps) u.1 in
    let e = ends-accepted (ends_of ps) n u.0 in
    record { some = ends_some ps e.some; paired = paired-from n 0 ps e.rises v.0 v.1 }

pub pairs-pass : (ps : List ℕ) (n : ℕ) → PairsFit n ps → are_faulty_pairs ps n ≡ false
unfolding are_faulty_pairs
pairs-pass ps n v =
    let even : ¬ (length ps % 2 ≡ 1) = λ z. omega (arith, paired-number v.paired) in
    let ends : EndsOf n (ends_of ps) = record { some = omega (arith, v.some, paired-number v.paired); rises = paired-rise v.paired } in
    rw (ends-pass (ends_of ps) n ends, ne_eqb (length ps % 2) 1 even) (paired-counts v.paired)

-- the pairs of a nonempty record are so
pub own-pairs : (w : List ℕ) → 0 < length w → are_faulty_pairs (separated_pairs w) (length w) ≡ false
own-pairs w s = pairs-pass (separated_pairs w) (length w) (record {
  some = omega (arith, pairs-entries w, rises-some (separated-icfl-ends-rise w) s);
  paired = pairs-paired w;
})

-- what is not so is faulty
not-paired : (ps : List ℕ) (n : ℕ) → ¬ PairsFit n ps → true ≡ are_faulty_pairs ps n
not-paired ps n h = go (are_faulty_pairs ps n) (λ e. h (pairs-accepted ps n e))
  where
    go : (t : Bool) → ¬ (t ≡ false) → true ≡ t
    go true g = refl
    go false g = absurd (g refl)

-- ---- the loop: the pairs so far go from 0 to last, and left are the entries that are still to come

pub record PairsLeft (n : ℕ) (ps : List ℕ) (last : ℕ) (left : List ℕ) : Type 0 where
  pub even : length left % 2 ≡ 0
  pub on : Paired n 0 ps → Paired n last left
  pub back : Paired n last left → Paired n 0 ps

pub pairs_none : (ps : List ℕ) (n : ℕ) → length ps ≡ 0 → true ≡ are_faulty_pairs ps n
pairs_none ps n z = not-paired ps n (λ v. omega (arith, v.some))

pub pairs-odd : (ps : List ℕ) (n : ℕ) → length ps % 2 ≡ 1 → true ≡ are_faulty_pairs ps n
pairs-odd ps n o = not-paired ps n (λ v. omega (arith, paired-number v.paired))

paired-head : {n b e c : ℕ} {ps : List ℕ} → Paired n b (e ∷ c ∷ ps) → (b < e) × (0 < c) × (c ≤ e - b) × Paired n e ps
paired-head (more h p q r) = (h, p, q, r)

paired-last : {n b : ℕ} → Paired n b [] → b ≡ n
paired-last (done z) = z

-- the next pair of a list, before those that come after it
pub two-left : (ps : List ℕ) (k : ℕ) → k < length ps / 2 → drop (2 * k) ps ≡ get_or ps (2 * k) 0 ∷ get_or ps (2 * k + 1) 0 ∷ drop (2 * (k + 1)) ps
two-left ps k l =
    let s : 2 * k + 1 ≡ suc (2 * k) = omega arith in
    let t : 2 * (k + 1) ≡ suc (suc (2 * k)) = omega arith in
    rw (s, t) (
    drop-cons ps (2 * k) 0 (omega arith)
    ∙ ap (λ (u : List ℕ). get_or ps (2 * k) 0 ∷ u) (drop-cons ps (suc (2 * k)) 0 (omega arith))
    )

module _ {n : ℕ} {ps : List ℕ} {last : ℕ} {left : List ℕ} (g : PairsLeft n ps last left) where
  module _ {end count : ℕ} {left' : List ℕ} (next : left ≡ end ∷ count ∷ left') where
    pub count_none : count ≡ 0 → true ≡ are_faulty_pairs ps n
    count_none z = not-paired ps n (λ v. let h = paired-head (rw next at (g.on v.paired)) in omega (arith, h.1))

    pub count-past : end < last + count → true ≡ are_faulty_pairs ps n
    count-past l = not-paired ps n (λ v. let h = paired-head (rw next at (g.on v.paired)) in omega (arith, h.0, h.2))

    pub pairs-on : ¬ (count ≡ 0) → last + count ≤ end → PairsLeft n ps end left'
    pairs-on m l =
        let p : 0 < count = omega arith in
        let above : last < end = omega arith in
        let fits : count ≤ end - last = omega arith in
        record {
          even = omega (arith, g.even, ap length next);
          on = λ r. (paired-head (rw next at (g.on r))).3;
          back = λ r. g.back (rw next (more above p fits r));
        }

  pub pairs_end : length left < 2 → ¬ (length ps ≡ 0) → not (eqb last n) ≡ are_faulty_pairs ps n
  pairs_end l p = go (eqb-test last n)
    where
      none : left ≡ []
      none = nil_from_length left (omega (arith, g.even))

      go : {t : Bool} → Decides (last ≡ n) t → not t ≡ are_faulty_pairs ps n
      go (holds e) = sym (pairs-pass ps n (record { some = omega arith; paired = g.back (rw none (done e)) }))
      go (fails m) = not-paired ps n (λ v. m (paired-last (rw none at (g.on v.paired))))
