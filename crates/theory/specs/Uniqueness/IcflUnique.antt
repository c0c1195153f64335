-- THEOREM icfl-unique. A dominated list of words with product w is icfl w; the same for a list that is dominated by borders, and
-- consecutive factors of icfl w are the factors of their own product (icfl-infix).
use Rattle.std.specs.Prelude.{◌≡◌, refl, ℕ}
use Rattle.std.proofs.Common.{sym, ◌∙◌}
use mathlib.Core.List.{List, ◌++◌, flatten}
use Rattle.words.specs.Words.{InverseLyndon}
use Rattle.words.specs.Factorizations.{icfl}
use Rattle.theory.specs.Statements.{DominatedBy, BelowByBorders, Linked}
use Rattle.theory.specs.Places.LinkedLaws.{linked-before, linked-after}
use Rattle.theory.specs.Uniqueness.DominatedUnique.{dominated-unique}
use Rattle.theory.specs.Icfl.IcflConcat.{icfl-concat}
use Rattle.theory.specs.Icfl.IcflDominated.{icfl-dominated, linked-borders}

pub icfl-unique : (w : List ℕ) (ms : List (List ℕ)) → Linked InverseLyndon DominatedBy ms → flatten ms ≡ w → ms ≡ icfl w
icfl-unique w ms d e = dominated-unique ms (icfl w) d (icfl-dominated w) (e ∙ sym (icfl-concat w))

pub icfl-unique-borders : (w : List ℕ) (ms : List (List ℕ)) → Linked InverseLyndon BelowByBorders ms → flatten ms ≡ w → ms ≡ icfl w
icfl-unique-borders w ms d e = icfl-unique w ms ((linked-borders ms).1 d) e

-- ---- consecutive factors

pub icfl-infix : (w : List ℕ) (xs ms ys : List (List ℕ)) → xs ++ (ms ++ ys) ≡ icfl w → ms ≡ icfl (flatten ms)
icfl-infix w xs ms ys e = icfl-unique (flatten ms) ms (linked-before ms ys (linked-after xs (rw (← e) at (icfl-dominated w)))) refl
