-- THEOREM breaks-only. No other list of breaks is as request 102 describes them: what BreaksOf says determines the breaks.
use Rattle.std.specs.Prelude.{◌≡◌, ℕ, suc, ◌+◌, ◌-◌, ◌<◌, drop}
use Rattle.std.proofs.Math.Path.{refl, ap}
use Rattle.std.proofs.Common.{sym, subst, ◌∙◌, arith, length-drop, drop-drop}
use mathlib.Core.List.{List, [], ◌∷◌, ◌++◌, flatten, append-nil, tail-eq_of_cons-eq, Memᴰ}
use Rattle.std.proofs.Math.ListN.{length, get_or}
use Rattle.words.specs.Words.{InverseLyndon}
use Rattle.words.specs.Factorizations.{icfl, icfl_ends, first_break, breaks_from, icfl_breaks, prefix_length, border_length, ends_from}
use Rattle.theory.specs.Statements.{DominatedBy, Linked, more, BoundedExtension, Chained, end, next, place_if_kept, kept_places, JoinedTo, BreaksOf}
use Rattle.words.specs.declared.Fate.{Fate}
use Rattle.words.specs.declared.Fate.TheVariants.{Kept, Joined}
use Rattle.words.specs.declared.Break.{Break}
use Rattle.theory.specs.Icfl.BoundedExtension.{extension-not, extension-only}
use Rattle.theory.specs.Icfl.IcflConcat.{icfl-concat}
use Rattle.theory.specs.Icfl.IcflDominated.{icfl-dominated}
use Rattle.theory.specs.Breaks.BreaksUnfold.{first_fate, breaks-whole, breaks-step}
use Rattle.theory.specs.Breaks.IcflBreaks.{chained-few}
use Rattle.theory.specs.Breaks.BreakSteps.{Ended, kept, joined, Steps, whole, step, ended_same, ended-in, kept_ends}

-- a walk over the word gives its breaks
steps-are : {w : List ℕ} {i : ℕ} {bs : List Break} → Steps w i bs → bs ≡ breaks_from i (drop i w)
steps-are {w} {i} (whole l h) = sym (breaks-whole i (drop i w) h)
steps-are {w} {i} (step {bs = bs} l n s) =
    let p : ℕ = prefix_length (drop i w) in
    let some : 0 < length (drop i w) = rw length-drop (omega arith) in
    let rest : bs ≡ breaks_from (i + p) (drop p (drop i w)) = rw (drop-drop p i w) (steps-are s) in
    ap (λ (t : List Break). first_break i (drop i w) ∷ t) rest ∙ sym (breaks-step i (drop i w) some n)

-- a word with one end is inverse Lyndon
one_end : (i n : ℕ) (v : List ℕ) → ends_from i (icfl v) ≡ n ∷ [] → InverseLyndon v
unfolding ends_from flatten
one_end i n v e = go (icfl v) e (icfl-concat v) (icfl-dominated v)
  where
    go : (ms : List (List ℕ)) → ends_from i ms ≡ n ∷ [] → flatten ms ≡ v → Linked InverseLyndon DominatedBy ms → InverseLyndon v
    go [] e f d = absurd (let z : 0 ≡ 1 = ap length e in omega arith)
    go (m ∷ []) e f (more k x y) = subst InverseLyndon (sym (append-nil m) ∙ f) k
    go (m ∷ k ∷ ms) e f d = absurd (let z : suc (suc (length (ends_from (i + length m + length k) ms))) ≡ 1 = ap length e in omega arith)

-- the first end lies after the place where the chain begins
first-after : (w : List ℕ) {i : ℕ} {bs : List Break} → Chained (length w) i bs → i < get_or (kept_ends w bs) 0 0
unfolding kept_places
first-after w (end l) = l
first-after w (next {b = b} {bs = bs} l c) = go b.fate (first-after w c)
  where
    go : (f : Fate) → b.place < get_or (kept_ends w bs) 0 0 → b.begun < get_or (place_if_kept f b.place (kept_places bs) ++ length w ∷ []) 0 0
    go (Kept x y) m = l
    go (Joined s) m = omega arith

-- ---- one break

module _ (w : List ℕ) (b : Break) (bs : List Break) (forward : b.begun < b.place) (inside : b.begun < length w) (rises : Chained (length w) b.place bs)
    (extension : BoundedExtension (drop b.begun w) (suc (b.place - b.begun + b.border)) (b.place - b.begun) b.border)
    (letters : (x y : ℕ) → b.fate ≡ Kept x y → (x ≡ get_or w (b.begun + b.border) 0) × (y ≡ get_or w (b.place + b.border) 0))
    (shortfall : (s : ℕ) → b.fate ≡ Joined s → JoinedTo w b.place b.border s)
    (ends : kept_ends w (b ∷ bs) ≡ ends_from b.begun (icfl (drop b.begun w))) where
  abbrev v : List ℕ
  v = drop b.begun w

  fails : ¬ InverseLyndon v
  fails = extension-not v _ _ _ extension

  place_is : b.place ≡ b.begun + prefix_length v
  place_is = omega (arith, (extension-only v _ _ _ extension).1)

  border-is : b.border ≡ border_length v
  border-is = (extension-only v _ _ _ extension).2

  -- the ends of what follows the place
  abbrev after : List ℕ
  after = ends_from b.place (icfl (drop b.place w))

  ended : Ended b.place b.border (get_or w (b.begun + b.border) 0) (get_or w (b.place + b.border) 0) (kept_ends w (b ∷ bs)) after (first_fate v)
  ended = ended_same refl refl refl refl (sym ends) refl refl (ended-in w b.begun b.place b.border inside fails place_is border-is)

  abbrev Told : Fate → Fate → Type 0
  Told f g = (f ≡ g) × (kept_ends w bs ≡ after)

  told : Told (first_fate v) b.fate
  unfolding kept_places ends_from
  told = go b.fate letters shortfall ended
    where
      go : (f : Fate) → ((x y : ℕ) → f ≡ Kept x y → (x ≡ get_or w (b.begun + b.border) 0) × (y ≡ get_or w (b.place + b.border) 0))
          → ((s : ℕ) → f ≡ Joined s → JoinedTo w b.place b.border s) → {g : Fate}
          → Ended b.place b.border (get_or w (b.begun + b.border) 0) (get_or w (b.place + b.border) 0)
          (place_if_kept f b.place (kept_places bs) ++ length w ∷ []) after g
          → Told g f
      go (Kept x y) t u (kept h e) = let q = t x y refl in (rw (q.0, q.1), tail-eq_of_cons-eq e)
      go (Kept x y) t u (joined h k e) = absurd (let z : b.place ≡ get_or after 0 0 = ap (λ (es : List ℕ). get_or es 0 0) e in omega arith)
      go (Joined s) t u (kept h e) =
          absurd (let z : get_or (kept_ends w bs) 0 0 ≡ b.place = ap (λ (es : List ℕ). get_or es 0 0) e in omega (arith, first-after w rises))
      go (Joined s) t u (joined {s = s'} h k e) =
          let j = u s refl in
          let head : get_or after 0 0 ≡ b.place + length j.piece = rw j.first in
          let same : s' ≡ s = omega (arith, k, head, j.lacks) in
          (ap Joined same, e)

  -- it is the first break of what follows its step's beginning
  first-is : b ≡ first_break b.begun v
  first-is =
      let made : ℕ → ℕ → Fate → Break = λ place border fate. record { place = place; begun = b.begun; border = border; fate = fate } in
      ap (λ (place : ℕ). made place b.border b.fate) place_is
      ∙ (ap (λ (border : ℕ). made (b.begun + prefix_length v) border b.fate) border-is
      ∙ ap (λ (fate : Fate). made (b.begun + prefix_length v) (border_length v) fate) (sym told.0))

  -- so a walk over what follows goes on from it
  first_step : (kept_ends w bs ≡ after → Steps w b.place bs) → Steps w b.begun (b ∷ bs)
  first_step later =
      subst (λ (k : Break). Steps w b.begun (k ∷ bs)) (sym first-is)
      (step inside fails (subst (λ (i : ℕ). Steps w i bs) place_is (later told.1)))

-- ---- all of them

-- what BreaksOf says of each break
pub record Each (w : List ℕ) (bs : List Break) : Type 0 where
  pub step : (b : Break) → Memᴰ b bs
      → BoundedExtension (drop b.begun w) (suc (b.place - b.begun + b.border)) (b.place - b.begun) b.border
  pub letters : (k : Break) → Memᴰ k bs → (a b : ℕ) → k.fate ≡ Kept a b → (a ≡ get_or w (k.begun + k.border) 0) × (b ≡ get_or w (k.place + k.border) 0)
  pub joined : (b : Break) → Memᴰ b bs → (s : ℕ) → b.fate ≡ Joined s → JoinedTo w b.place b.border s

later-each : {w : List ℕ} {b : Break} {bs : List Break} → Each w (b ∷ bs) → Each w bs
later-each e = record {
  step = λ b m. e.step b (Memᴰ.tail m);
  letters = λ k m. e.letters k (Memᴰ.tail m);
  joined = λ b m. e.joined b (Memᴰ.tail m);
}

walk : (w : List ℕ) {i : ℕ} {bs : List Break} → Chained (length w) i bs → Each w bs → kept_ends w bs ≡ ends_from i (icfl (drop i w)) → Steps w i bs
unfolding kept_places
walk w {i} (end l) e z = whole l (one_end i (length w) (drop i w) (sym z))
walk w (next {b = b} {bs = bs} l c) e z =
    let here = Memᴰ.head {x = b} refl in
    first_step w b bs l (omega (arith, chained-few c)) c (e.step b here) (e.letters b here) (e.joined b here) z (λ t. walk w c (later-each e) t)

pub breaks-only : (w : List ℕ) (bs : List Break) → BreaksOf w bs → bs ≡ icfl_breaks w
unfolding icfl_ends icfl_breaks
breaks-only w bs k =
    steps-are
    (walk w k.chained
    (record { step = k.step; letters = λ c m a b f. let q = k.letters c a b m f in (q.0, q.1); joined = λ b m s f. k.joined b s m f })
    k.ends)
