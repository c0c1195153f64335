-- The loop over the pairs in a text, over plain lists: all of them fit just where the pair at hand and those that are left fit, from the part at hand on.
use mathlib.Core.Path.{◌≡◌, refl, ap, sym, ◌∙◌}
use mathlib.Core.Bool.{Bool, true, false}
use Rattle.std.specs.Prelude.{Option, Some, None}
use Rattle.std.specs.Option.{is_some}
use mathlib.Core.Logic.{◌↔◌}
use mathlib.Core.List.{List, [], ◌∷◌}
use Prim.Native.Nat.{ℕ, ◌≤◌, ◌<◌}
use native.Mathlib.Nat.{le_refl}
use native.Mathlib.Omega.{arith}
use lib.ListN.{length}
use lib.Seq.{length-slice}
use Rattle.buffers.proofs.PartLaws.{part, part-is}
use Rattle.words.specs.Words.{most_letters}
use Rattle.words.specs.Separated.{UpToSeparator, separated_cfl_in_ends}
use Rattle.words.specs.Pairs.{ends_of}
use Rattle.theory.specs.Orders.Decisions.{Decides, holds, fails}
use Rattle.theory.specs.Judging.Judge.{judged_turn}
use Rattle.theory.specs.Judging.PairsFit.{PairsFit, done, more, fit-end, fit-rises, fit-judged, fit_count, fit-rest, fit-most}
use Rattle.theory.proofs.Judging.PairsFit.{fit-own, own-fit}
use Rattle.judging.specs.Judging.{Turn, Told}
use Rattle.parsing.specs.Parsing.{PairsLeft, PairGiven}
use Rattle.parsing.specs.declared.Pair.{Pair}
use Rattle.parsing.specs.declared.Pairs.{Pairs}
use Rattle.parsing.proofs.PairLaws.{pairs-next, pairs-none}
use Rattle.matching.specs.Matching.{PartFits, PairsDecided}

-- ---- one part

pub told-some : {q : ℕ} (r : Option ℕ) → Told q r → true ≡ is_some r → ¬ (q ≡ 0)
told-some None k e = absurd (cc)
told-some (Some n) k e = λ z. omega (arith, k)

pub told-none : {q : ℕ} (r : Option ℕ) → Told q r → false ≡ is_some r → q ≡ 0
told-none None k e = k
told-none (Some n) k e = absurd (cc)

pub part-short : {w : List ℕ} {first end next : ℕ} → Turn w first end next → length (part first end w) ≤ most_letters
part-short {w} {first} {end} g =
    rw (part-is first end w, length-slice first end w (omega (arith, g.after, g.inside))) (omega (arith, g.after, g.inside, g.short))

module _ (w : List ℕ) (first end next count : ℕ) where
  pub part-faulty : ¬ (judged_turn w first end next ≡ 0) → Decides (PartFits w first end next count) false
  part-faulty n = fails (λ f. n f.0)

  pub part-counted : {b : Bool} → (inside : ℕ) → judged_turn w first end next ≡ 0 → inside ≡ length (separated_cfl_in_ends (part first end w))
      → Decides (inside ≡ count) b → Decides (PartFits w first end next count) b
  part-counted inside j e (holds s) = holds (j, sym s ∙ e ∙ ap (λ (v : List ℕ). length (separated_cfl_in_ends v)) (part-is first end w))
  part-counted inside j e (fails n) = fails (λ f. n (e ∙ ap (λ (v : List ℕ). length (separated_cfl_in_ends v)) (part-is first end w) ∙ sym f.1))

-- ---- all of them

-- the part at hand is from first to the end of the pair; the others are left
pub record Going (w t ps : List ℕ) (first : ℕ) (pair : Pair) (place : Option ℕ) : Type 0 where
  pub rest : List ℕ
  pub left : PairsLeft t place rest
  pub same : PairsFit w 0 ps ↔ PairsFit w first (pair.end ∷ pair.count ∷ rest)

-- the pairs are what `all` gives, and those of `rest` are left
pub record Walk (w : List ℕ) (all rest : Pairs) (first : ℕ) (pair : Pair) : Type 0 where
  pub text : rest.items.text.now ≡ all.items.text.now
  pub some : first < pair.end
  pub inside : pair.end ≤ length w
  pub going : (ps : List ℕ) → 0 < length ps → PairsLeft all.items.text.now all.items.next ps → Going w all.items.text.now ps first pair rest.items.next

module _ {w : List ℕ} {all rest : Pairs} {r : Pair} (i : PairGiven all (Some r) rest) where
  first-going : (ps : List ℕ) → 0 < length ps → PairsLeft all.items.text.now all.items.next ps → Going w all.items.text.now ps 0 r rest.items.next
  first-going ps l f =
      let x = pairs-next {i = all} {j = rest} refl f i in
      record { rest = x.0; left = x.1.1; same = (λ p. rw x.1.0 at p, λ p. rw x.1.0 p) }

  pub walk-begin : ¬ (r.end ≡ 0) → r.end ≤ length w → Walk w all rest 0 r
  walk-begin n l = record { text = i.text; some = omega arith; inside = l; going = first-going }

module _ (w : List ℕ) (all : Pairs) (up : UpToSeparator w) where
  abbrev pub t : List ℕ
  t = all.items.text.now

  abbrev pub Decided : Bool → Type 0
  Decided b = PairsDecided w all.items.text.now all.items.next b

  -- what is not to be, were the pairs the record's own
  refuse : {first : ℕ} {pair : Pair} {place : Option ℕ}
      → ((ps : List ℕ) → 0 < length ps → PairsLeft t all.items.next ps → Going w t ps first pair place)
      → ((rest : List ℕ) → PairsLeft t place rest → ¬ PairsFit w first (pair.end ∷ pair.count ∷ rest)) → Decided false
  refuse going never ps l f = let g = going ps l f in fails (λ e. never g.rest g.left (g.same.0 (own-fit w ps up e)))

  pub first-none : {rest : Pairs} → PairGiven all None rest → Decided false
  first-none {rest} i ps l f = absurd (omega (arith, ap length (pairs-none {i = all} {j = rest} refl f i)))

  module _ {rest : Pairs} {r : Pair} (i : PairGiven all (Some r) rest) where
    pub first-zero : r.end ≡ 0 → Decided false
    first-zero z = refuse (first-going i) (λ rest p f. omega (arith, fit-rises f))

    pub first-far : length w < r.end → Decided false
    first-far l = refuse (first-going i) (λ rest p f. omega (arith, fit-most (fit-rest f)))

  module _ {rest : Pairs} {first : ℕ} {pair : Pair} (g : Walk w all rest first pair) where
    module _ {after : Pairs} {r : Pair} (i : PairGiven rest (Some r) after) where
      next : {qs : List ℕ} → PairsLeft t rest.items.next qs → (vs : List ℕ) × ((qs ≡ r.end ∷ r.count ∷ vs) × PairsLeft t after.items.next vs)
      next p = pairs-next {i = rest} {j = after} g.text p i

      -- the next pair is the one given
      next-read : ((vs : List ℕ) → ¬ PairsFit w first (pair.end ∷ pair.count ∷ r.end ∷ r.count ∷ vs)) → Decided false
      next-read never = refuse g.going (λ qs p f. let x = next p in never x.0 (rw x.1.0 at f))

      pub next_low : r.end ≤ pair.end → Decided false
      next_low l = next-read (λ vs f. omega (arith, fit-rises (fit-rest f)))

      pub next-far : length w < r.end → Decided false
      next-far l = next-read (λ vs f. omega (arith, fit-most (fit-rest (fit-rest f))))

      module _ (a : pair.end < r.end) (b : r.end ≤ length w) where
        pub next-turn : length w ≤ most_letters → Turn w first pair.end r.end
        next-turn s = record { short = s; some = g.some; after = omega arith; inside = b }

        pub next-faulty : ¬ PartFits w first pair.end r.end pair.count → Decided false
        unfolding ends_of
        next-faulty m = next-read (λ vs f. m (fit-judged f, fit_count f))

        pub next-on : PartFits w first pair.end r.end pair.count → Walk w all after pair.end r
        unfolding ends_of
        next-on m = record {
          text = i.text ∙ g.text;
          some = a;
          inside = b;
          going = λ ps l f.
              let k = g.going ps l f in
              let x = next k.left in
              record {
                rest = x.0;
                left = x.1.1;
                same = (
                  λ p. rw x.1.0 at (fit-rest (k.same.0 p)),
                  λ p. k.same.1 (rw x.1.0 (more g.some m.0 m.1 p)),
                );
              };
        }

    module _ {after : Pairs} (z : PairGiven rest None after) where
      none : {qs : List ℕ} → PairsLeft t rest.items.next qs → qs ≡ []
      none p = pairs-none {i = rest} {j = after} g.text p z

      pub last-short : ¬ (pair.end ≡ length w) → Decided false
      last-short m = refuse g.going (λ rest p f. m (fit-end (rw (none p) at (fit-rest f))))

      module _ (e : pair.end ≡ length w) where
        pub last_turn : length w ≤ most_letters → Turn w first pair.end pair.end
        last_turn s = record { short = s; some = g.some; after = le_refl _; inside = g.inside }

        pub last-decides : {b : Bool} → Decides (PartFits w first pair.end pair.end pair.count) b → Decided b
        unfolding ends_of
        last-decides (holds m) ps l f =
            let k = g.going ps l f in
            holds (fit-own w ps up (k.same.1 (rw (none k.left) (more g.some m.0 m.1 (done e)))))
        last-decides (fails m) ps l f =
            refuse g.going (λ rest p q.
            let h : PairsFit w first (pair.end ∷ pair.count ∷ []) = rw (none p) at q in
            m (fit-judged h, fit_count h))
            ps l f
