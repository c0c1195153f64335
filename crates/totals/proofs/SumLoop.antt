-- The tally over the pairs in a text, over plain lists: those that are left have the ends that are left.
use mathlib.Core.Path.{◌≡◌, ap, sym, ◌∙◌}
use mathlib.Core.List.{List, [], ◌∷◌}
use Prim.Native.Nat.{ℕ, suc, ◌+◌, ◌≤◌, ◌<◌}
use native.Mathlib.Numerals.{add-one}
use native.Mathlib.Omega.{arith}
use native.Mathlib.Decide.{dec_lt}
use Rattle.std.specs.Prelude.{Some, None}
use lib.ListN.{length, drop, get_or, drop_of_length-le}
use lib.Seq.{drop-cons}
use Rattle.words.specs.Words.{most_letters}
use Rattle.words.specs.Pairs.{ends_of}
use Rattle.summary.specs.Summary.{Summable}
use Rattle.summary.specs.Tallies.{Tallied, NextEnd}
use Rattle.summary.specs.declared.Tally.{Tally}
use Rattle.summary.proofs.Summing.{tally-end}
use Rattle.parsing.specs.Parsing.{PairsLeft, PairGiven}
use Rattle.parsing.specs.declared.Pair.{Pair}
use Rattle.parsing.specs.declared.Pairs.{Pairs}
use Rattle.parsing.proofs.PairLaws.{pairs-next, pairs-none}
use Rattle.totals.specs.Totals.{SummedUp}

-- the pairs are what `all` gives, and those of `left` are not in the tally yet
pub record Summing (all left : Pairs) (tally : Tally) : Type 0 where
  pub pairs : List ℕ
  pub whole : PairsLeft all.items.text.now all.items.next pairs
  pub summable : Summable (ends_of pairs)
  pub tallied : Tallied (ends_of pairs) tally
  pub text : left.items.text.now ≡ all.items.text.now
  pub rest : List ℕ
  pub remain : PairsLeft all.items.text.now left.items.next rest
  pub ends : drop tally.summary.count (ends_of pairs) ≡ ends_of rest

module _ {all left : Pairs} {tally : Tally} (g : Summing all left tally) where
  abbrev es : List ℕ
  es = ends_of g.pairs

  abbrev i : ℕ
  i = tally.summary.count

  module _ {after : Pairs} {r : Pair} (e : PairGiven left (Some r) after) where
    next : (qs : List ℕ) × ((g.rest ≡ r.end ∷ r.count ∷ qs) × PairsLeft all.items.text.now after.items.next qs)
    next = pairs-next {i = left} {j = after} g.text g.remain e

    first : drop i es ≡ r.end ∷ ends_of next.0
    unfolding ends_of
    first = g.ends ∙ ap ends_of next.1.0

    inside : i < length es
    inside = go (dec_lt i (length es))
      where
        go : Dec (i < length es) → i < length es
        go (yes l) = l
        go (no l) = absurd (omega (arith, ap length (sym (drop_of_length-le es {i = i} (omega arith)) ∙ first)))

    split : get_or es i 0 ∷ drop (suc i) es ≡ r.end ∷ ends_of next.0
    split = sym (drop-cons es i 0 inside) ∙ first

    end-is : r.end ≡ get_or es i 0
    end-is = let z = split in cc

    rest-is : drop (suc i) es ≡ ends_of next.0
    rest-is = let z = split in cc

    pub sum-short : r.end ≤ most_letters
    sum-short = rw end-is (g.summable.short i)

    pub sum-end : NextEnd es tally r.end
    sum-end = record { summable = g.summable; tallied = g.tallied; some = inside; is = end-is }

    pub sum-next : {u : Tally} → u.summary.count ≡ i + 1 → Tallied es u → Summing all after u
    sum-next c t = record {
      pairs = g.pairs;
      whole = g.whole;
      summable = g.summable;
      tallied = t;
      text = e.text ∙ g.text;
      rest = next.0;
      remain = next.1.1;
      ends = rw (c, add-one i) rest-is;
    }

  pub sum-done : {after : Pairs} → PairGiven left None after → SummedUp all.items.text.now all.items.next tally.summary
  unfolding ends_of
  sum-done {after} e = record { pairs = g.pairs; left = g.whole; is = tally-end g.tallied (whole (dec_lt i (length es))) }
    where
      none : drop i es ≡ []
      none = g.ends ∙ ap ends_of (pairs-none {i = left} {j = after} g.text g.remain e)

      whole : Dec (i < length es) → length es ≤ i
      whole (no l) = omega arith
      whole (yes l) = absurd (omega (arith, ap length (sym (drop-cons es i 0 l) ∙ none)))
