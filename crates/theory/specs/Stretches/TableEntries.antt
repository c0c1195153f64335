-- THEOREM separated-table-letter, separated-table-separator. At a letter below the separator the record's table has the entry that the published definition gives for
-- the whole record, the separator being a letter as any other there: an anti-Lyndon word holds no letter above its first. At a separator it has 1. Also the
-- table's length.
use Rattle.std.specs.Prelude.{◌≡◌, List, [], ◌∷◌, ◌++◌, ℕ, zero, suc, ◌+◌, ◌-◌, ◌≤◌, ◌<◌, length, take, get_or}
use Rattle.std.proofs.Common.{sym, subst, ◌∙◌, arith, le_refl, length-append, get_or-append-add}
use Rattle.std.proofs.Math.Decide.{dec_lt}
use Rattle.std.proofs.Math.ListN.{get_or-append}
use Rattle.std.proofs.lemmas.List.{take-append-le, get_or_at}
use Rattle.std.proofs.Math.Seq.{take-append-add, drop-append_seam}
use Rattle.words.specs.Words.{◌≪◌, here, there, AntiLyndon}
use Rattle.words.specs.Factorizations.{longest_anti_lyndon, lyndon_table}
use Rattle.theory.specs.Lyndon.WordTests.{suffix-loses}
use Rattle.theory.specs.Lyndon.AntiLyndonLaws.{Longest, longest-is, longest-positive, longest-unique}
use Rattle.theory.specs.Table.LyndonTableCflIn.{lyndon-table-length}
use Rattle.words.specs.Separated.{separator, separated_table, UpToSeparator}
use Rattle.theory.specs.Stretches.Unmarked.{unmarked-at}
use Rattle.theory.specs.Stretches.Separation.{Separation, whole, split, separation, table-unmarked, table-split}
use Rattle.theory.specs.Stretches.Places.{Spot, before, at, after, spot, letter-after}

-- ---- a letter above the first

≪-heads : {a b : ℕ} {x y : List ℕ} → (a ∷ x) ≪ (b ∷ y) → a ≤ b
≪-heads (here h) = omega arith
≪-heads (there h) = le_refl _

-- the longest anti-Lyndon prefix of a x b u, where a < b, lies in a x
pub longest-below : (a b : ℕ) (x u : List ℕ) → a < b → longest_anti_lyndon ((a ∷ x) ++ b ∷ u) ≡ longest_anti_lyndon (a ∷ x)
longest-below a b x u h = longest-unique ((a ∷ x) ++ b ∷ u) n (longest-positive (a ∷ x) (omega arith)) (record {
  upto = rw length-append (omega (arith, l.upto));
  word = λ p. rw (take-append-le n (a ∷ x) (b ∷ u) l.upto) (l.word p);
  longer = λ j p q. go j p (dec_lt (length (a ∷ x)) j);
})
  where
    n : ℕ
    n = longest_anti_lyndon (a ∷ x)

    l : Longest (a ∷ x) (length (a ∷ x)) n
    l = longest-is (a ∷ x)

    past : (k : ℕ) → ¬ AntiLyndon ((a ∷ x) ++ b ∷ take k u)
    past k t = omega (arith, ≪-heads (rw drop-append_seam at (suffix-loses t (length (a ∷ x)) (omega arith) (rw length-append (omega arith)))))

    go : (j : ℕ) → n < j → Dec (length (a ∷ x) < j) → ¬ AntiLyndon (take j ((a ∷ x) ++ b ∷ u))
    go j p (no q) = rw (take-append-le j (a ∷ x) (b ∷ u) (omega arith)) (l.longer j p (omega arith))
    go j p (yes q) =
        let k : ℕ = j - suc (length (a ∷ x)) in
        let z : j ≡ length (a ∷ x) + suc k = omega arith in
        rw (z, take-append-add (a ∷ x) (b ∷ u) (suc k)) (past k)

table_before : (v u : List ℕ) (b i : ℕ) → i < length v → get_or v i 0 < b → get_or (lyndon_table (v ++ b ∷ u)) i 0 ≡ get_or (lyndon_table v) i 0
unfolding lyndon_table
table_before [] u b i l h = absurd (omega arith)
table_before (a ∷ v) u b zero l h = longest-below a b v u h
table_before (a ∷ v) u b (suc i) l h = table_before v u b i (omega arith) h

table-after : (v u : List ℕ) (k : ℕ) → get_or (lyndon_table (v ++ u)) (length v + k) 0 ≡ get_or (lyndon_table u) k 0
unfolding lyndon_table
table-after [] u k = rw (let z : 0 + k ≡ k = omega arith in z)
table-after (a ∷ v) u k = let z : length (a ∷ v) + k ≡ suc (length v + k) = omega arith in rw z (table-after v u k)

-- ---- the entries

entry-before : (v w : List ℕ) (i : ℕ) → i < length v → get_or (lyndon_table v ++ 1 ∷ separated_table w) i 0 ≡ get_or (lyndon_table v) i 0
entry-before v w i l = get_or-append (lyndon_table v) (1 ∷ separated_table w) 0 i (rw lyndon-table-length l)

entry-after : (v w : List ℕ) (k : ℕ) → get_or (lyndon_table v ++ 1 ∷ separated_table w) (length v + suc k) 0 ≡ get_or (separated_table w) k 0
entry-after v w k =
    subst (λ (n : ℕ). get_or (lyndon_table v ++ 1 ∷ separated_table w) (n + suc k) 0 ≡ get_or (separated_table w) k 0) (lyndon-table-length v)
    (get_or-append-add (lyndon_table v) (1 ∷ separated_table w) (suc k) 0)

letter-entry : {w : List ℕ} → Separation w → (i : ℕ) → get_or w i 0 < separator → get_or (separated_table w) i 0 ≡ get_or (lyndon_table w) i 0
unfolding lyndon_table
letter-entry (whole {v = v} u) i h = rw (table-unmarked v u)
letter-entry (split {v = v} {w = w} u s) i h = rw (table-split v w u) (go (spot v i) (λ k l. letter-entry s k l))
  where
    go : Spot v i → ((k : ℕ) → get_or w k 0 < separator → get_or (separated_table w) k 0 ≡ get_or (lyndon_table w) k 0)
        → get_or (lyndon_table v ++ 1 ∷ separated_table w) i 0 ≡ get_or (lyndon_table (v ++ separator ∷ w)) i 0
    go (before l) next = entry-before v w i l ∙ sym (table_before v w separator i l (rw (get_or-append v (separator ∷ w) 0 i l) at h))
    go (at e) next = absurd (omega (arith, get_or_at v separator w 0 i (sym e)))
    go (after k e) next = rw e (entry-after v w k ∙ (next k (rw (e, letter-after v w k) at h) ∙ sym (table-after v (separator ∷ w) (suc k))))

separator-entry : {w : List ℕ} → Separation w → (i : ℕ) → get_or w i 0 ≡ separator → get_or (separated_table w) i 0 ≡ 1
separator-entry (whole {v = v} u) i h = absurd (unmarked-at v u i h)
separator-entry (split {v = v} {w = w} u s) i h = rw (table-split v w u) (go (spot v i) (λ k l. separator-entry s k l))
  where
    go : Spot v i → ((k : ℕ) → get_or w k 0 ≡ separator → get_or (separated_table w) k 0 ≡ 1) → get_or (lyndon_table v ++ 1 ∷ separated_table w) i 0 ≡ 1
    go (before l) next = absurd (unmarked-at v u i (rw (get_or-append v (separator ∷ w) 0 i l) at h))
    go (at e) next = get_or_at (lyndon_table v) 1 (separated_table w) 0 i (lyndon-table-length v ∙ sym e)
    go (after k e) next = rw e (entry-after v w k ∙ next k (rw (e, letter-after v w k) at h))

pub separated-table-letter : (w : List ℕ) (i : ℕ) → get_or w i 0 < separator → get_or (separated_table w) i 0 ≡ get_or (lyndon_table w) i 0
separated-table-letter w i h = letter-entry (separation w) i h

-- the same for words of bytes
pub separated-table-other : (w : List ℕ) → UpToSeparator w → (i : ℕ) → ¬ (get_or w i 0 ≡ separator) → get_or (separated_table w) i 0 ≡ get_or (lyndon_table w) i 0
separated-table-other w b i n = separated-table-letter w i (omega (arith, b i))

pub separated-table-separator : (w : List ℕ) (i : ℕ) → get_or w i 0 ≡ separator → get_or (separated_table w) i 0 ≡ 1
separated-table-separator w i h = separator-entry (separation w) i h

lengths : {w : List ℕ} → Separation w → length (separated_table w) ≡ length w
lengths (whole {v = v} u) = rw (table-unmarked v u) (lyndon-table-length v)
lengths (split {v = v} {w = w} u s) = rw (table-split v w u) (simp (length-append, lyndon-table-length v, lengths s))

pub separated-table-length : (w : List ℕ) → length (separated_table w) ≡ length w
separated-table-length w = lengths (separation w)
