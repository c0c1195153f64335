-- The longest Lyndon words of both orders, as the code finds them. The longer entry tells both (length-in, length-other); the next letter, or the word
-- there, tells in which order the letter at a place is alone (next-alone, same-alone); the entry of the other order is the longer one (one-longest).
use mathlib.Core.Path.{◌≡◌, refl, ap, sym, ◌∙◌}
use mathlib.Core.Bool.{Bool, true, false, not}
use mathlib.Core.List.{List}
use Prim.Native.Nat.{ℕ, suc, ◌+◌, ◌-◌, ◌≤◌, ◌<◌}
use native.Mathlib.Omega.{arith}
use native.Mathlib.Decide.{dec_lt}
use lib.ListN.{length, take, drop, get_or, set, length-set}
use lib.Seq.{get_or-set_same, get_or-set_other}
use lib.Dec.{ltb}
use mir.Syntax.{w8}
use mir.Val.{Fits}
use Rattle.buffers.proofs.PartLaws.{part}
use Rattle.words.specs.Words.{◌≺◌}
use Rattle.words.specs.Factorizations.{longest_anti_lyndon}
use Rattle.theory.specs.Orders.Decisions.{Decides, holds, fails, leb-test}
use Rattle.theory.specs.Table.LyndonTableCflIn.{lyndon-table-at}
use Rattle.theory.specs.Table.Merging.{Merged}
use Rattle.theory.proofs.Table.Merging.{merged-more, merged-stops, merged-ends}
use Rattle.theory.specs.Repetitions.RunSuffixes.{entry_at}
use Rattle.theory.specs.Repetitions.RunSuffixes.{same-letter}
use Rattle.theory.proofs.Repetitions.RunSuffixes.{entry-inside, entry-positive}
use Rattle.theory.specs.Repetitions.TwoOrders.{reversed, longer_entry}
use Rattle.theory.specs.Repetitions.TwoOrders.{Falls, smaller, goes_on, UpTo, reversed-length, reversed-at}
use Rattle.theory.proofs.Repetitions.TwoOrders.{entry-one, longest-inside, longest-falls, longest-rises}
use Rattle.common.specs.Orders.{most_byte, in_order, Precedes}
use Rattle.longest.specs.Longest.{LongestKnown, LongestAfter, LongestFilled}
use Rattle.common.proofs.InOrderLaws.{bytes, in-order-length, in-order-part}

-- ---- the entry of an order

module _ (w : List ℕ) (b : UpTo most_byte w) (j : ℕ) (l : j < length w) where
  pub length-in : (natural : Bool) → Precedes natural (get_or w j 0) (get_or w (j + longer_entry most_byte w j - 1) 0)
      → longer_entry most_byte w j ≡ entry_at (in_order natural w) j
  length-in true h = sym ((longest-rises most_byte w b j l).0 h)
  length-in false h = sym ((longest-falls most_byte w b j l).0 h)

  pub length-other : (natural : Bool)
      → ¬ Precedes natural (get_or w j 0) (get_or w (j + longer_entry most_byte w j - 1) 0)
      → 1 ≡ entry_at (in_order natural w) j
  length-other true h = sym ((longest-rises most_byte w b j l).1 (omega arith))
  length-other false h = sym ((longest-falls most_byte w b j l).1 (omega arith))

-- it lies in the word
pub known-fits : {w longest : List ℕ} {j : ℕ} → LongestKnown w longest j → ((k : ℕ) → Fits w8 (get_or w k 0))
    → (0 < get_or longest j 0) × (j + get_or longest j 0 ≤ length w)
known-fits {w} k f = rw k.entry (longest-inside most_byte w (bytes w f) _ k.inside)

-- ---- the order in which the letter at i is alone

module _ (w : List ℕ) (b : UpTo most_byte w) (i : ℕ) (n : i + 1 < length w) where
  inverse-alone : get_or w i 0 ≤ get_or w (i + 1) 0 → (get_or w (i + 1) 0 ≡ get_or w i 0 → entry_at w (i + 1) ≡ 1) → entry_at w i ≡ 1
  inverse-alone h k = entry-one w i (omega arith) (λ m. go)
    where
      go : ¬ Falls w i
      go (smaller x) = omega arith
      go (goes_on e x) = omega (arith, k e)

  natural-alone : get_or w (i + 1) 0 ≤ get_or w i 0 → (get_or w (i + 1) 0 ≡ get_or w i 0 → entry_at (reversed most_byte w) (i + 1) ≡ 1)
      → entry_at (reversed most_byte w) i ≡ 1
  natural-alone h k = entry-one (reversed most_byte w) i (rw (reversed-length most_byte w) (omega arith)) (λ m. go)
    where
      now : get_or (reversed most_byte w) i 0 ≡ most_byte - get_or w i 0
      now = reversed-at most_byte w i (omega arith)

      next : get_or (reversed most_byte w) (i + 1) 0 ≡ most_byte - get_or w (i + 1) 0
      next = reversed-at most_byte w (i + 1) n

      go : ¬ Falls (reversed most_byte w) i
      go (smaller x) = omega (arith, now, next)
      go (goes_on e x) = omega (arith, k (omega (arith, now, next, b i, b (i + 1))))

  -- the next letter is another one
  pub next-alone : ¬ (get_or w (i + 1) 0 ≡ get_or w i 0) → entry_at (in_order (not (ltb (get_or w i 0) (get_or w (i + 1) 0))) w) i ≡ 1
  next-alone d = go (leb-test (suc (get_or w i 0)) (get_or w (i + 1) 0))
    where
      go : {t : Bool} → Decides (get_or w i 0 < get_or w (i + 1) 0) t → entry_at (in_order (not t) w) i ≡ 1
      go (holds h) = inverse-alone (omega arith) (λ e. absurd (d e))
      go (fails h) = natural-alone (omega arith) (λ e. absurd (d e))

  -- it is the same: the last letter of the longer word there decides
  pub same-alone : get_or w (i + 1) 0 ≡ get_or w i 0
      → entry_at (in_order (not (ltb (get_or w i 0) (get_or w (i + longer_entry most_byte w (i + 1)) 0))) w) i ≡ 1
  same-alone e = go (leb-test (suc (get_or w i 0)) (get_or w (i + longer_entry most_byte w (i + 1)) 0))
    where
      last : get_or w (i + 1 + longer_entry most_byte w (i + 1) - 1) 0 ≡ get_or w (i + longer_entry most_byte w (i + 1)) 0
      last = same-letter w (omega arith)

      go : {t : Bool} → Decides (get_or w i 0 < get_or w (i + longer_entry most_byte w (i + 1)) 0) t → entry_at (in_order (not t) w) i ≡ 1
      go (holds h) = inverse-alone (omega arith) (λ x. (longest-falls most_byte w b (i + 1) n).1 (omega (arith, last)))
      go (fails h) = natural-alone (omega arith) (λ x. (longest-rises most_byte w b (i + 1) n).1 (omega (arith, last)))

-- ---- the longer of both

pub one-longest : (w : List ℕ) (i : ℕ) → i < length w → (natural : Bool) → entry_at (in_order (not natural) w) i ≡ 1
    → entry_at (in_order natural w) i ≡ longer_entry most_byte w i
one-longest w i l true e = omega (arith, entry-positive (reversed most_byte w) i (rw (reversed-length most_byte w) l))
one-longest w i l false e = omega (arith, entry-positive w i l)

pub last-longest : (w : List ℕ) (i : ℕ) → i + 1 ≡ length w → 1 ≡ longer_entry most_byte w i
last-longest w i e =
    let k : i < length (reversed most_byte w) = rw (reversed-length most_byte w) (omega arith) in
    omega (arith, entry-inside w i (omega arith), entry-positive w i (omega arith), entry-inside (reversed most_byte w) i k, reversed-length most_byte w)

-- ---- merging: the turns of the loop

module _ (natural : Bool) (w : List ℕ) {i j n : ℕ} (g : Merged (in_order natural w) i j) (e : n ≡ entry_at (in_order natural w) j) (l : j < length w) where
  abbrev v : List ℕ
  v = in_order natural w

  inside : j < length v
  inside = rw (in-order-length natural w) l

  pub turn-fits : (0 < n) × (j + n ≤ length w)
  turn-fits = (omega (arith, entry-positive v j inside), omega (arith, entry-inside v j inside, in-order-length natural w))

  next_word : part j (j + n) v ≡ take (longest_anti_lyndon (drop j v)) (drop j v)
  next_word =
      let z : j + n - j ≡ n = omega arith in
      rw z (ap (λ (m : ℕ). take m (drop j v)) (e ∙ lyndon-table-at v j inside))

  pub turn-joins : in_order natural (part i j w) ≺ in_order natural (part j (j + n) w) → Merged (in_order natural w) i (j + n)
  turn-joins h =
      let x : part i j v ≺ take (longest_anti_lyndon (drop j v)) (drop j v)
      = rw (in-order-part natural i j w, in-order-part natural j (j + n) w, next_word) at h in
      rw (e ∙ lyndon-table-at v j inside) (merged-more v i j g inside x)

  pub turn-stops : ¬ (in_order natural (part i j w) ≺ in_order natural (part j (j + n) w)) → j - i ≡ entry_at (in_order natural w) i
  turn-stops h =
      let x : ¬ (part i j v ≺ take (longest_anti_lyndon (drop j v)) (drop j v))
      = rw (in-order-part natural i j w, in-order-part natural j (j + n) w, next_word) at h in
      sym (lyndon-table-at v i (omega (arith, g.after, g.inside)) ∙ merged-stops v i j g inside x)

pub turns-end : (natural : Bool) (w : List ℕ) {i j : ℕ} → Merged (in_order natural w) i j → length w ≤ j → j - i ≡ entry_at (in_order natural w) i
turns-end natural w {i} {j} g l =
    let v : List ℕ = in_order natural w in
    sym (lyndon-table-at v i (omega (arith, g.after, g.inside)) ∙ merged-ends v i j g (omega (arith, g.inside, in-order-length natural w)))

-- ---- filling from the last place on

-- the entries from i on are there, in a buffer as long as before
pub record LongestFrom (w longest₀ longest : List ℕ) (i : ℕ) : Type 0 where
  pub upto : i ≤ length w
  pub room : length w ≤ length longest₀
  pub same : length longest ≡ length longest₀
  pub entries : (k : ℕ) → i ≤ k → k < length w → get_or longest k 0 ≡ longer_entry most_byte w k

pub from-begins : {w longest : List ℕ} → length w ≤ length longest → LongestFrom w longest longest (length w)
from-begins room = record { upto = omega arith; room = room; same = refl; entries = λ k a b. absurd (omega arith) }

module _ {w longest₀ longest : List ℕ} {i : ℕ} (f : LongestFrom w longest₀ longest i) where
  pub from-asks : 0 < i → LongestAfter w longest (i - 1)
  from-asks o = record { inside = omega (arith, f.upto); room = omega (arith, f.room, f.same); entries = λ k a b. f.entries k (omega arith) b }

  -- an entry is at most the length
  pub from-short : {n : ℕ} → UpTo most_byte w → 0 < i → n ≡ longer_entry most_byte w (i - 1) → n ≤ length w
  from-short b o e = omega (arith, (longest-inside most_byte w b (i - 1) (omega (arith, f.upto))).1)

  pub from-turn : {n : ℕ} → 0 < i → n ≡ longer_entry most_byte w (i - 1) → LongestFrom w longest₀ (set longest (i - 1) n) (i - 1)
  from-turn {n} o e = record {
    upto = omega (arith, f.upto);
    room = f.room;
    same = length-set longest (i - 1) n ∙ f.same;
    entries = λ k a b. go k a b (dec_lt (i - 1) k);
  }
    where
      go : (k : ℕ) → i - 1 ≤ k → k < length w → Dec (i - 1 < k) → get_or (set longest (i - 1) n) k 0 ≡ longer_entry most_byte w k
      go k a b (yes h) = get_or-set_other longest (i - 1) k n 0 (λ z. omega arith) ∙ f.entries k (omega arith) b
      go k a b (no h) =
          let z : k ≡ i - 1 = omega arith in
          rw z (get_or-set_same longest (i - 1) n 0 (omega (arith, f.room, f.same, f.upto)) ∙ e)

  pub from-ends : i ≡ 0 → LongestFilled w longest
  from-ends e = record { room = omega (arith, f.room, f.same); entries = λ k l. f.entries k (omega arith) l }
